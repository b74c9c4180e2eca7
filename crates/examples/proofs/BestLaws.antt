-- What the best sheet is on each way through the code that ends at a handle: a sheet takes its place if it is before.
use Rattle.std.specs.Prelude.{Option, Some, None}
use Prim.Native.Nat.{ℕ, zero, suc, ◌+◌, ◌≤◌, ◌<◌}
use mathlib.Core.Path.{◌≡◌, refl, sym, ap, ap₂, subst, ◌∙◌}
use mathlib.Core.Bool.{Bool, true, false, not, false≢true}
use mathlib.Core.List.{List, ◌∷◌}
use native.Mathlib.Omega.{arith}
use lib.ListN.{get_or}
use Rattle.examples.specs.Best.{Sized, counts_from, sheet, Best, lesser, best}
use Rattle.examples.specs.Needs.{beaten, sheet_of, best_of, CanSeek}
use Rattle.facts.specs.declared.least.Sheet.{Sheet}
use Rattle.facts.specs.declared.record.Facts.{Facts}
use Rattle.facts.specs.Least.{least_sheet}
use Rattle.facts.specs.Needs.{HasLeast}
use Rattle.facts.specs.Record.{state, LeastCounts}
use Rattle.facts.specs.State.{at, free}
use Rattle.store.specs.Layout.{question}
use Rattle.store.specs.Tree.{tree}
use Rattle.terms.specs.Order.{lex}
use Rattle.examples.proofs.BestOnly.{best_beaten}
use Rattle.examples.proofs.Sheets.{counts_length}
use Rattle.store.proofs.SoundFacts.{sound_says}
use Rattle.store.proofs.SoundTree.{tree_never, tree_always}

-- ---- a leaf
counts_same : (n i : ℕ) (c d : ℕ → ℕ) → ((j : ℕ) → i ≤ j → j < i + n → c j ≡ d j) → counts_from n i c ≡ counts_from n i d
unfolding counts_from
counts_same zero i c d e = refl
counts_same (suc n) i c d e = ap₂ (λ (x : ℕ) (xs : List ℕ). x ∷ xs) (e i (omega arith) (omega arith)) (counts_same n (i + 1) c d (λ j h l. e j (omega arith) (omega arith)))

-- the code's least sheet is the definition's
least_read : {f : Facts} {n : ℕ} {x : Sheet} → LeastCounts f n x → sheet_of n x ≡ sheet n (least_sheet n (state f))
least_read {f} {n} {x} l = counts_same n 1 (λ i. get_or x.counts i 0) (at (least_sheet n (state f))) (λ j h i. l.count_at j h (omega arith))

-- ---- whether the best so far is beaten
module _ {n : ℕ} {f : Facts} {x : Sheet} (y : Sheet) (l : LeastCounts f n x) {c : Bool} (ec : c ≡ lex (sheet_of n x) (sheet_of n y)) where
  pub beats : {best : Option Sheet} → best ≡ Some y → not c ≡ beaten n (state f) (best_of n best)
  beats e = ap not (ec ∙ ap (λ z. lex z (sheet_of n y)) (least_read l)) ∙ sym (ap (λ b. beaten n (state f) (best_of n b)) e)

module _ {s : List ℕ} {handle : ℕ} {f : Facts} {n : ℕ} (k : CanSeek s handle f n) where
  pub has_least : HasLeast f n
  has_least =
      let w = k.descent in
      let h = w.holds in
      record {
        most = k.most;
        holds = record { facts = h.facts; small = h.small; is = h.is; fitted = h.fitted; few = omega (arith, h.few, w.few, (sound_says w.limits s w.sound_in).questions_in, w.fit.questions_fit) };
        few_steps = k.few_steps;
        few_fields = k.few_fields;
      }

  pub never_best : handle ≡ 0 → (b : Best) → b ≡ best (question s) n (tree s handle) (state f) b
  unfolding best
  never_best e b = rw (e, tree_never s) refl

  pub always_best : handle ≡ 1 → {x : Sheet} → LeastCounts f n x → (b : Best) {r : Best} → r ≡ lesser b (sheet_of n x)
      → r ≡ best (question s) n (tree s handle) (state f) b
  unfolding best
  always_best e {x} l b er =
      rw (e, tree_always s) (er ∙ ap (lesser b) (least_read l))

  -- ---- no better sheet is left
  -- every sheet of the code has n counts
  pub sized : (b : Option Sheet) → Sized n (best_of n b)
  sized None = tt
  sized (Some x) = counts_length n 1 (λ i. get_or x.counts i 0)

  stays : (b : Best) → Sized n b → beaten n (state f) b ≡ true → b ≡ best (question s) n (tree s handle) (state f) b
  stays None z e = absurd (false≢true e)
  stays (Some y) z e =
      let h = k.descent.holds in
      let not_first : lex (sheet n (least_sheet n (state f))) y ≡ false = not_true (lex (sheet n (least_sheet n (state f))) y) e in
      rw h.is (sym (best_beaten (question s) n h.facts (subst (λ st. free st ≡ true) h.is h.fitted) (tree s handle) y z (subst (λ st. lex (sheet n (least_sheet n st)) y ≡ false) h.is not_first)))
    where
      not_true : (t : Bool) → not t ≡ true → t ≡ false
      not_true true d = absurd (false≢true d)
      not_true false d = refl

  pub beaten_best : (b : Option Sheet) {c : Bool} → c ≡ beaten n (state f) (best_of n b) → c ≡ true → best_of n b ≡ best (question s) n (tree s handle) (state f) (best_of n b)
  beaten_best b ec d = stays (best_of n b) (sized b) (sym ec ∙ d)
