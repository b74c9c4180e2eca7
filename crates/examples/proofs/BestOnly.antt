-- What is right is the only one: two right results are not before each other, and sheets of one length that are not are equal. So a diagram
-- whose facts leave no better sheet need not be walked, and its parts may be sought in either order.
use Rattle.std.specs.Prelude.{Some, None}
use Prim.Native.Nat.{ℕ}
use mathlib.Core.Path.{◌≡◌, refl, sym, ap, subst, ◌∙◌}
use mathlib.Core.Logic.{inl, inr}
use mathlib.Core.Bool.{true, false}
use mathlib.Core.List.{List, ◌∷◌}
use Rattle.examples.specs.Best.{Sized, sheet, Best, best}
use Rattle.facts.specs.declared.decision.Decision.TheVariants.{Open}
use Rattle.facts.specs.declared.fact.Fact.{Fact}
use Rattle.facts.specs.Facts.{fact, Fits, Forces}
use Rattle.facts.specs.Least.{least_sheet}
use Rattle.facts.specs.State.{Fit, free, no_to, yes_to, state_of, decide}
use Rattle.store.specs.Tree.{Tree, node}
use Rattle.terms.specs.declared.term.Equation.{Equation}
use Rattle.terms.specs.Meaning.{Valuation}
use Rattle.terms.specs.Order.{lex}
use Rattle.examples.proofs.BestExact.{same_some, NotBefore, not_before, not_none, not_before_says, Right, sheet_size, right_sized, right_turned, best_right}
use Rattle.examples.proofs.SheetOrder.{not_before_trans, neither_before, least_not_after}
use Rattle.facts.proofs.Decided.{fits_free, decided}
use Rattle.facts.proofs.LeastSheet.{least_sheet_least}
use Rattle.facts.proofs.StateExact.{state_exact}
use Rattle.facts.proofs.StateFree.{state_of_zero}
use Rattle.terms.proofs.QuestionOrder.{lex_irreflexive}

module _ (ask : ℕ → Equation) (n : ℕ) where
  -- a right result is not before another
  not_better : {xs : List Fact} {t : Tree} {b r r' : Best} → Right ask n xs t b r → Right ask n xs t b r' → (y : List ℕ) → r' ≡ Some y → NotBefore ask n y r
  not_better {r = r} w w' y e = elim w'.comes_of [
    | inl d ↦ w.keeps y (sym d ∙ e)
    | inr f ↦ subst (λ x. NotBefore ask n x r) (same_some (sym f.2 ∙ e)) (w.is_least f.0 f.1)
  ]

  pub right_only : {xs : List Fact} {t : Tree} {b : Best} → Sized n b → (r r' : Best) → Right ask n xs t b r → Right ask n xs t b r' → r ≡ r'
  right_only z None None w w' = refl
  right_only z None (Some y) w w' = absurd (not_none ask n (not_better w w' y refl))
  right_only z (Some x) None w w' = absurd (not_none ask n (not_better w' w x refl))
  right_only z (Some x) (Some y) w w' =
      ap Some (neither_before x y (right_sized ask n w z ∙ sym (right_sized ask n w' z)) (not_before_says ask n (not_better w' w x refl)) (not_before_says ask n (not_better w w' y refl)))

  module _ (xs : List Fact) (f : free (state_of xs) ≡ true) where
    -- ---- a diagram that can't better the best so far
    pub best_beaten : (t : Tree) (y : List ℕ) → Sized n (Some y) → lex (sheet n (least_sheet n (state_of xs))) y ≡ false → best ask n t (state_of xs) (Some y) ≡ Some y
    best_beaten t y z h = right_only z _ _ (best_right ask n t xs (Some y) f z) (record {
      comes_of = inl refl;
      is_least = λ v s. not_before (not_before_trans (sheet n v) (sheet n (least_sheet n (state_of xs))) y (sheet_size ask n v ∙ sym (sheet_size ask n (least_sheet n (state_of xs)))) (first v s.0) h);
      keeps = λ x e. subst (λ u. NotBefore ask n u (Some y)) (same_some e) (not_before (lex_irreflexive y));
    })
      where
        first : (v : Valuation) → Fits xs v → lex (sheet n v) (sheet n (least_sheet n (state_of xs))) ≡ false
        first v m = least_not_after n (Fit (state_of xs)) (least_sheet n (state_of xs)) (least_sheet_least n (state_of xs) (state_of_zero xs) f) v ((state_exact xs v).1 m)

    -- ---- the no part before the yes part
    pub best_turned : (k : ℕ) (y m : Tree) (b : Best) → Sized n b → decide (state_of xs) (ask k) ≡ Open
        → best ask n y (yes_to (state_of xs) (ask k)) (best ask n m (no_to (state_of xs) (ask k)) b) ≡ best ask n (node k y m) (state_of xs) b
    best_turned k y m b z e =
        let q = ask k in
        let shown = subst (Forces xs q) e (decided xs q f) in
        let first = best_right ask n m (fact q false ∷ xs) b (fits_free (fact q false ∷ xs) shown.1.0 (shown.1.2, shown.1.1)) z in
        right_only z _ _
        (right_turned ask n xs k y m z first
        (best_right ask n y (fact q true ∷ xs) (best ask n m (no_to (state_of xs) q) b) (fits_free (fact q true ∷ xs) shown.0.0 (shown.0.2, shown.0.1)) (right_sized ask n first z)))
        (best_right ask n (node k y m) xs b f z)
