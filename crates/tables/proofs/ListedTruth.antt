-- Choices of counts that answer a list alike give one truth to each equation that simplifies to never, always or a question of the list.
use Prim.Native.Nat.{ℕ, zero, suc, ◌≤◌}
use mathlib.Core.Path.{◌≡◌, refl, sym, ap, ◌∙◌}
use mathlib.Core.Bool.{true, ◌||◌, false≢true, and-false}
use mathlib.Core.List.{List}
use native.Mathlib.Omega.{arith}
use borrow.Author.Tests.{eqb-true}
use lib.Dec.{eqb}
use Rattle.store.specs.Layout.{question_count, question}
use Rattle.tables.specs.Listed.{same_equation, on_list, guard_listed}
use Rattle.terms.specs.declared.simplification.Guard.{Guard}
use Rattle.terms.specs.declared.simplification.Guard.TheVariants.{Never, Always, Question}
use Rattle.terms.specs.declared.term.Equation.{Equation}
use Rattle.terms.specs.Meaning.{Valuation, truth, guard_truth}
use Rattle.terms.specs.Simplify.{simplify}
use Rattle.store.proofs.Tests.{passes}
use Rattle.terms.proofs.Cases.{by_test}
use Rattle.terms.proofs.Numbers as numbers
use Rattle.terms.proofs.SimplifyTruth.{simplify_truth}

same_equation_says : (p q : Equation) → same_equation p q ≡ true → p ≡ q
same_equation_says p q t =
    numbers.equations_equal p q
    (eqb-true _ _ (passes (eqb p.left.field.0 q.left.field.0) (λ f. rw f at t)))
    (eqb-true _ _ (passes (eqb p.left.steps.0 q.left.steps.0) (λ f. simp (f, and-false) at t)))
    (eqb-true _ _ (passes (eqb p.right.field.0 q.right.field.0) (λ f. simp (f, and-false) at t)))
    (eqb-true _ _ (passes (eqb p.right.steps.0 q.right.steps.0) (λ f. simp (f, and-false) at t)))

module _ (s : List ℕ) (v w : Valuation) (alike : (j : ℕ) → 1 ≤ j → j ≤ question_count s → truth v (question s j) ≡ truth w (question s j)) where
  same_listed : (q : Equation) (k : ℕ) → k ≤ question_count s → on_list s q k ≡ true → truth v q ≡ truth w q
  unfolding on_list
  same_listed q zero l e = absurd (false≢true e)
  same_listed q (suc k) l e = by_test (λ t. (t || on_list s q k) ≡ true → truth v q ≡ truth w q) (same_equation (question s (suc k)) q)
      (λ t _. let d = same_equation_says (question s (suc k)) q t in ap (truth v) (sym d) ∙ alike (suc k) (omega arith) l ∙ ap (truth w) d)
      (λ _ e. same_listed q k (omega arith) e) e

  same_guard : (g : Guard) → guard_listed s g ≡ true → guard_truth v g ≡ guard_truth w g
  same_guard Never e = refl
  same_guard Always e = refl
  same_guard (Question q) e = same_listed q (question_count s) (omega arith) e

  -- simplifying keeps an equation's truth
  pub same_simplified : (e : Equation) → guard_listed s (simplify e) ≡ true → truth v e ≡ truth w e
  same_simplified e l = sym (simplify_truth v e) ∙ same_guard (simplify e) l ∙ simplify_truth w e
