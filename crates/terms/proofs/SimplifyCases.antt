-- A claim about what an equation simplifies to holds if it holds on each line of the definition with what that line says.
use Prim.Native.Nat.{◌<◌}
use mathlib.Core.Path.{◌≡◌}
use mathlib.Core.Logic.{◌≢◌}
use mathlib.Core.Bool.{cond, ◌&&◌}
use native.Mathlib.Omega.{arith}
use lib.Dec.{eqb, ltb}
use Rattle.terms.specs.declared.term.Equation.{Equation}
use Rattle.terms.specs.declared.simplification.Guard.{Guard}
use Rattle.terms.specs.declared.simplification.Guard.TheVariants.{Never, Always, Question}
use Rattle.terms.specs.Simplify.{turned, larger_left, lowered, never_or_question, simplify}
use Rattle.terms.proofs.Cases.{by_eq, by_lt}

-- d is e, or e turned round, with the larger field on the left
pub data Sorted (e : Equation) : Equation → Type 0 where
  kept : e.right.field.0 < e.left.field.0 → Sorted e e
  swapped : e.left.field.0 < e.right.field.0 → Sorted e (turned e)

larger_left_sorts : (e : Equation) → e.left.field.0 ≢ e.right.field.0 → Sorted e (larger_left e)
unfolding larger_left
larger_left_sorts e n =
    by_lt (λ t. Sorted e (cond t (turned e) e)) e.left.field.0 e.right.field.0 (λ h. swapped h) (λ h. kept (omega arith))

module _ {ℓ} (P : Guard → Type ℓ) (e : Equation) where
  pub never_or_question_cases : (e.right.field.0 ≡ 0 → 0 < e.left.steps.0 → P Never)
      → ((e.right.field.0 ≡ 0 → e.left.steps.0 ≡ 0) → P (Question e)) → P (never_or_question e)
  unfolding never_or_question
  never_or_question_cases f g =
      by_eq (λ t. P (cond (t && ltb 0 e.left.steps.0) Never (Question e))) e.right.field.0 0
      (λ z. by_lt (λ t. P (cond t Never (Question e))) 0 e.left.steps.0 (f z) (λ h. g (λ _. omega arith)))
      (λ n. g (λ z. absurd (n z)))

  pub simplify_cases : (e.left.field.0 ≡ e.right.field.0 → e.left.steps.0 ≡ e.right.steps.0 → P Always)
      → (e.left.field.0 ≡ e.right.field.0 → e.left.steps.0 ≢ e.right.steps.0 → P Never)
      → ((d : Equation) → Sorted e d → P (never_or_question (lowered d))) → P (simplify e)
  unfolding simplify
  simplify_cases f g h =
      by_eq (λ t. P (cond t (cond (eqb e.left.steps.0 e.right.steps.0) Always Never) (never_or_question (lowered (larger_left e)))))
      e.left.field.0 e.right.field.0
      (λ i. by_eq (λ t. P (cond t Always Never)) e.left.steps.0 e.right.steps.0 (f i) (g i))
      (λ n. h (larger_left e) (larger_left_sorts e n))
