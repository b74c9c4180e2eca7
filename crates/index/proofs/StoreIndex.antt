-- The index of a store: what a search finds is `find_entry`, and an entry that is written after the last goes into it, since the entries before it are as
-- they were, and it is none of them.
use Prim.Native.Nat.{ℕ, ◌+◌, ◌≤◌, ◌<◌}
use mathlib.Core.Path.{◌≡◌, refl, ◌∙◌, ap, sym}
use mathlib.Core.Bool.{true}
use mathlib.Core.List.{List}
use native.Mathlib.Omega.{arith}
use native.Mathlib.Decide.{ℕ_discrete}
use lib.Dec.{ltb}
use Rattle.std.proofs.Common.{Some, None, cond}
use Rattle.index.specs.declared.chains.Index.{Index}
use Rattle.index.specs.Needs.{Top, Chains, EntriesFit, hash_of, Holds, Searchable, found}
use Rattle.store.specs.declared.entries.Entry.{Entry}
use Rattle.store.specs.Entries.{is_entry, find_entry}
use Rattle.store.specs.Layout.{entry}
use Rattle.store.specs.Sound.{same_entry, differ_below}
use Rattle.store.proofs.EntryFound.{none_found}
use Rattle.store.proofs.SoundFacts.{differ_says, differ_from}

pub found_entry : (s : List ℕ) (k : ℕ) (e : Entry) → found (entry s) same_entry e k ≡ cond (ltb (find_entry s k e) k) (Some (find_entry s k e)) None
unfolding is_entry
found_entry s k e = refl

-- ---- buckets of the numbers below k alone are looked at
module _ {f g : ℕ → ℕ} where
  top_agrees : {b k p : ℕ} → ((i : ℕ) → i < k → g i ≡ f i) → Top f b k p → Top g b k p
  top_agrees {k = k} same t =
      record {
        low = t.low;
        here = λ i e. same i (omega (arith, t.low)) ∙ t.here i e;
        all = λ j h e. t.all j h (sym (same j h) ∙ e);
      }

  chains_agree : {n m k : ℕ} {lasts links : List ℕ} → ((i : ℕ) → i < k → g i ≡ f i) → Chains n m f k lasts links → Chains n m g k lasts links
  chains_agree {links = links} same c =
      record {
        buckets = c.buckets;
        room = c.room;
        last = λ b h. top_agrees same (c.last b h);
        next = λ i h. rw (same i h) (top_agrees (λ j l. same j (omega arith)) (c.next i h));
      }

module _ (s t : List ℕ) {x x' : Index} (same : (i : ℕ) → i < x.count → entry t i ≡ entry s i) {e : Entry} (new : entry t x.count ≡ e)
    (none : x.count ≤ find_entry s x.count e) (more : x'.count ≡ x.count + 1)
    (put : (f : ℕ → ℕ) → f x.count ≡ hash_of e → Holds f x → Holds f x') where
  differ_more : differ_below s x.count ≡ true → differ_below t (x.count + 1) ≡ true
  differ_more d = differ_from t (x.count + 1) (λ j i l m. elim (ℕ_discrete i x.count) [
    | yes z ↦ λ c. none_found s x.count e none j (omega arith) (sym (same j (omega arith)) ∙ c ∙ ap (entry t) z ∙ new)
    | no n ↦ λ c. differ_says s x.count d j i l (omega arith) (sym (same j (omega arith)) ∙ c ∙ same i (omega arith))
  ])

  pub searchable_added : {start start' : ℕ} → Searchable (EntriesFit s start) (entry s) hash_of same_entry x → EntriesFit t start' x'.count
      → Searchable (EntriesFit t start') (entry t) hash_of same_entry x'
  unfolding differ_below
  searchable_added r f =
      record {
        fit = f;
        differ = rw more (differ_more r.differ);
        index = put (λ i. hash_of (entry t i)) (ap hash_of new) (record { chains = chains_agree (λ i h. ap hash_of (same i h)) r.index.chains });
      }
