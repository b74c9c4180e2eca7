-- The same steps added on both sides of an equation change nothing of its answer: simplify compares the step counts, and takes the smaller from both.
use Prim.Native.Nat.{ℕ, ◌+◌}
use mathlib.Core.Path.{◌≡◌, refl, ap, ◌∙◌}
use mathlib.Core.Bool.{cond}
use native.Mathlib.Omega.{arith}
use Rattle.terms.specs.declared.term.Term.{Term}
use Rattle.terms.specs.declared.term.Equation.{Equation}
use Rattle.terms.specs.Words.{steps, term, equation}
use Rattle.terms.specs.Simplify.{turned, larger_left, lowered, simplify}
use Rattle.terms.proofs.Cases.{by_lt}
use Rattle.terms.proofs.Numbers.{equations_equal}
use Rattle.terms.proofs.SimplifyTruth.{same_test}

module _ (k : ℕ) where
  abbrev more : Term → Term
  more t = term t.field (steps (t.steps.0 + k))

  abbrev both_more : Equation → Equation
  both_more e = equation (more e.left) (more e.right)

  lowered_more : (e : Equation) → lowered (both_more e) ≡ lowered e
  unfolding lowered
  lowered_more e = equations_equal (lowered (both_more e)) (lowered e) refl (omega arith) refl (omega arith)

  sorted_more : (e : Equation) → larger_left (both_more e) ≡ both_more (larger_left e)
  unfolding larger_left
  sorted_more e =
      by_lt (λ t. cond t (turned (both_more e)) (both_more e) ≡ both_more (cond t (turned e) e)) e.left.field.0 e.right.field.0 (λ _. refl) (λ _. refl)

  simplify_more : (e : Equation) → simplify (both_more e) ≡ simplify e
  unfolding simplify
  simplify_more e =
      rw (same_test (e.left.steps.0 + k) (e.right.steps.0 + k) e.left.steps.0 e.right.steps.0 (λ h. omega arith) (λ h. omega arith), sorted_more e, lowered_more (larger_left e))

  -- d has k steps more on both sides than e
  pub steps_added : (e d : Equation) → d.left.field.0 ≡ e.left.field.0 → d.left.steps.0 ≡ e.left.steps.0 + k
      → d.right.field.0 ≡ e.right.field.0 → d.right.steps.0 ≡ e.right.steps.0 + k → simplify d ≡ simplify e
  steps_added e d f l g r = ap simplify (equations_equal d (both_more e) f l g r) ∙ simplify_more e
