-- Simplifying keeps an equation's truth: turning it round and taking the same steps off both sides change neither side's comparison,
-- and a count plus some steps is never zero.
use Prim.Native.Nat.{ℕ, ◌+◌}
use mathlib.Core.Path.{◌≡◌, sym, ap, ◌∙◌}
use mathlib.Core.Logic.{◌≢◌, ◌↔◌}
use mathlib.Core.Bool.{true}
use native.Mathlib.Omega.{arith}
use borrow.Author.Tests.{eqb-true, eq-eqb, ne_eqb}
use lib.Dec.{eqb}
use lib.IntN.{ℤ, pos, neg_ℤ, ◌+ℤ◌, ◌-ℤ◌, +ℤ_assoc, +ℤ-neg_ℤ_cancel, -ℤ-+ℤ_cancel}
use Rattle.terms.specs.declared.term.Field.{Field}
use Rattle.terms.specs.declared.term.Equation.{Equation}
use Rattle.terms.specs.Meaning.{Valuation, count, value, truth, guard_truth}
use Rattle.terms.specs.Simplify.{turned, lowered, never_or_question, simplify, gap}
use Rattle.terms.proofs.Cases.{by_eq}
use Rattle.terms.proofs.SimplifyCases.{Sorted, kept, swapped, never_or_question_cases, simplify_cases}

-- two comparisons with the same outcome
pub same_test : (a b c d : ℕ) → (a ≡ b → c ≡ d) → (c ≡ d → a ≡ b) → eqb a b ≡ eqb c d
same_test a b c d f g = by_eq (λ t. t ≡ eqb c d) a b (λ e. sym (eq-eqb c d (f e))) (λ n. sym (ne_eqb c d (λ e. n (g e))))

pub count_zero : (v : Valuation) (f : Field) → f.0 ≡ 0 → count v f ≡ 0
unfolding count
count_zero v f e = simp (eq-eqb _ _ e)

pub count_field : (v : Valuation) (f : Field) → f.0 ≢ 0 → count v f ≡ v f
unfolding count
count_field v f n = simp (ne_eqb _ _ n)

module _ (v : Valuation) (e : Equation) where
  pub turned_truth : truth v (turned e) ≡ truth v e
  turned_truth = same_test (value v e.right) (value v e.left) (value v e.left) (value v e.right) sym sym

  lowered_truth : truth v (lowered e) ≡ truth v e
  unfolding lowered
  lowered_truth = same_test (value v (lowered e).left) (value v (lowered e).right) (value v e.left) (value v e.right) (λ h. omega arith) (λ h. omega arith)

  lowered_guard_truth : guard_truth v (never_or_question (lowered e)) ≡ truth v e
  unfolding lowered
  lowered_guard_truth = never_or_question_cases (λ g. guard_truth v g ≡ truth v e) (lowered e)
      (λ z h. let n : value v e.left ≢ value v e.right = λ i. omega (arith, count_zero v e.right.field z) in sym (ne_eqb _ _ n))
      (λ _. lowered_truth)

-- The answer has the equation's truth under every choice of counts.
pub simplify_truth : (v : Valuation) (e : Equation) → guard_truth v (simplify e) ≡ truth v e
simplify_truth v e = simplify_cases (λ g. guard_truth v g ≡ truth v e) e
    (λ f s. sym (eq-eqb (value v e.left) (value v e.right) (omega (arith, same_count f))))
    (λ f s. sym (ne_eqb (value v e.left) (value v e.right) (λ h. s (omega (arith, same_count f)))))
    go
  where
    same_count : e.left.field.0 ≡ e.right.field.0 → count v e.left.field ≡ count v e.right.field
    same_count f = ap (λ n. count v (record { 0 = n })) f

    go : (d : Equation) → Sorted e d → guard_truth v (never_or_question (lowered d)) ≡ truth v e
    go d (kept _) = lowered_guard_truth v e
    go d (swapped _) = lowered_guard_truth v (turned e) ∙ turned_truth v e

-- left count + left steps = right count + right steps, said with the difference of the steps
module _ (a b l r : ℕ) where
  with_gap : a + l ≡ b + r → pos a ≡ pos b +ℤ (pos r -ℤ pos l)
  with_gap e =
      sym (+ℤ-neg_ℤ_cancel (pos a) (pos l)) ∙ ap (λ (n : ℕ). pos n -ℤ pos l) e ∙ +ℤ_assoc (pos b) (pos r) (neg_ℤ (pos l))

  without_gap : pos a ≡ pos b +ℤ (pos r -ℤ pos l) → a + l ≡ b + r
  without_gap e =
      let sums : pos (a + l) ≡ pos (b + r) =
      ap (λ (z : ℤ). z +ℤ pos l) e ∙ +ℤ_assoc (pos b) (pos r -ℤ pos l) (pos l) ∙ ap (λ (z : ℤ). pos b +ℤ z) (-ℤ-+ℤ_cancel (pos r) (pos l)) in
      cc

-- "left count = right count + gap"
pub gap_says : (v : Valuation) (e : Equation)
    → (truth v e ≡ true) ↔ (pos (count v e.left.field) ≡ pos (count v e.right.field) +ℤ gap e)
gap_says v e =
    let a = count v e.left.field in
    let b = count v e.right.field in
    let l = e.left.steps.0 in
    let r = e.right.steps.0 in
    (λ t. with_gap a b l r (eqb-true _ _ t), λ g. eq-eqb _ _ (without_gap a b l r g))
