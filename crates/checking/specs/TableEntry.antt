-- The entries of a table keep the laws of `Indexed`.
use Rattle.std.specs.Prelude.{◌≡◌, ℕ, Bool, true, false, ◌&&◌, eqb, List, refl}
use mathlib.Core.Bool.{and-false}
use native.Mathlib.Omega.{arith}
use borrow.Author.Tests.{eqb-true}
use Rattle.index.specs.Entries.{EntryLaws, none_equal}
use Rattle.checking.specs.Needs.{HasEntries}
use Rattle.checking.specs.contracts.differing.TableEntryPartialEq.TheImpl as derived
use Rattle.checking.specs.declared.differing.TableEntry.{TableEntry}
use Rattle.normal_form.specs.declared.entry.Entry.{Entry}
use Rattle.normal_form.specs.Check.{same_entry, entries_differ}
use Rattle.normal_form.specs.Table.{entry}
use Rattle.store.proofs.Tests.{passes}

abbrev pub listed : List ℕ → ℕ → TableEntry
listed t i = record { 0 = entry t i }

abbrev pub same_listed : TableEntry → TableEntry → Bool
same_listed d e = same_entry d.0 e.0

abbrev eq : TableEntry → TableEntry → Bool
eq = derived.eq-value.it

abbrev fits : List ℕ → ℕ → ℕ → Type 0
fits t start k = HasEntries t k

same_says : (d e : Entry) → same_entry d e ≡ true → d ≡ e
unfolding same_entry
same_says d e t =
    let l : d.left ≡ e.left = eqb-true _ _ (passes (eqb d.left e.left) (λ f. rw f at t)) in
    let r : d.right ≡ e.right = eqb-true _ _ (passes (eqb d.right e.right) (λ f. simp (f, and-false) at t)) in
    let y : d.yes ≡ e.yes = eqb-true _ _ (passes (eqb d.yes e.yes) (λ f. simp (f, and-false) at t)) in
    let n : d.no ≡ e.no = eqb-true _ _ (passes (eqb d.no e.no) (λ f. simp (f, and-false) at t)) in
    λ i. record { left = l i; right = r i; yes = y i; no = n i }

regroup : (a b c d : Bool) → (a && (b && (c && d))) ≡ (a && b && c && d)
regroup true b c d = elim b as (λ x. (x && (c && d)) ≡ (x && c && d)) [ true ↦ refl | false ↦ refl ]
regroup false b c d = refl

eq_is : (d e : TableEntry) → eq d e ≡ same_listed d e
unfolding same_entry
eq_is d e = regroup (eqb d.0.left e.0.left) (eqb d.0.right e.0.right) (eqb d.0.yes e.0.yes) (eqb d.0.no e.0.no)

differ_is : (t : List ℕ) (k : ℕ) → entries_differ t k ≡ none_equal same_listed (listed t) k
unfolding entries_differ
differ_is t k = refl

pub table_entry_laws : EntryLaws fits listed entries_differ same_listed eq
table_entry_laws =
    record {
      few = λ t start k f. f.few;
      less = λ t start j k h f. record { within = omega (arith, f.within); few = omega (arith, f.few) };
      same_says = λ d e t i. record { 0 = same_says d.0 e.0 t i };
      eq_is = eq_is;
      differ_is = differ_is;
    }
