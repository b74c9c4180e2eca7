-- The entries of a store keep the laws of `Indexed`.
use Rattle.std.specs.Prelude.{◌≡◌, ℕ, Bool, true, false, ◌&&◌, eqb, List, refl}
use Rattle.store.specs.declared.entries.Entry.{Entry}
use Rattle.store.specs.contracts.entries.EntryPartialEq.TheImpl as derived
use Rattle.store.specs.Layout.{entry}
use Rattle.store.specs.Sound.{same_entry, differ_below}
use Rattle.index.specs.Entries.{EntryLaws, none_equal}
use Rattle.index.specs.Needs.{EntriesFit}
use Rattle.store.proofs.SoundFacts.{same_entry_says}
use native.Mathlib.Omega.{arith}

pub differ_is : (s : List ℕ) (k : ℕ) → differ_below s k ≡ none_equal same_entry (entry s) k
unfolding differ_below
differ_is s k = refl

abbrev eq : Entry → Entry → Bool
eq = derived.eq-value.it

regroup : (a b c : Bool) → (a && (b && c)) ≡ (a && b && c)
regroup true b c = refl
regroup false b c = refl

eq_is : (d e : Entry) → eq d e ≡ same_entry d e
eq_is d e = regroup (eqb d.question e.question) (eqb d.yes e.yes) (eqb d.no e.no)

pub store_entry_laws : EntryLaws EntriesFit entry differ_below same_entry eq
store_entry_laws =
    record {
      few = λ s start k f. f.few;
      less = λ s start j k h f. record { begin = f.begin; within = omega (arith, f.within); few = omega (arith, f.few) };
      same_says = same_entry_says;
      eq_is = eq_is;
      differ_is = differ_is;
    }
