-- Two different simplified questions differ in truth under some choice of counts: let every field count its number times a large number,
-- but the first question's left field what that question says; then the second can be true only if it is the first.
use Prim.Native.Nat.{ℕ, zero, suc, ◌+◌, ◌-◌, ◌*◌, ◌/◌, ◌≤◌, ◌<◌}
use mathlib.Core.Path.{◌≡◌, refl, sym, ap, ◌∙◌}
use mathlib.Core.Logic.{◌≢◌}
use mathlib.Core.Bool.{true, cond}
use native.Mathlib.Omega.{arith}
use native.Mathlib.Nat.{suc-mul}
use native.Mathlib.Decide.{ℕ_discrete}
use borrow.Author.Tests.{eqb-true, eq-eqb, ne_eqb}
use lib.Arith.{digits_div}
use lib.Dec.{eqb}
use Rattle.terms.specs.declared.term.Field.{Field}
use Rattle.terms.specs.declared.term.Equation.{Equation}
use Rattle.terms.specs.Meaning.{Valuation, count, value, truth}
use Rattle.terms.specs.Form.{SimplifiedForm}
use Rattle.terms.specs.Words.{field}
use Rattle.terms.proofs.Cases.{by_eq}
use Rattle.terms.proofs.Numbers.{equations_equal}
use Rattle.terms.proofs.SimplifyForm.{smaller_right, bare_side, bare_left}

-- larger than all four step counts together
unit : Equation → Equation → ℕ
unit p q = suc (p.left.steps.0 + p.right.steps.0 + q.left.steps.0 + q.right.steps.0)

-- p's left count as p says it, every other field's number in units
pub apart : Equation → Equation → Valuation
apart p q f =
    cond (eqb f.0 p.left.field.0) (p.right.field.0 * unit p q + p.right.steps.0 - p.left.steps.0) (f.0 * unit p q)

same_unit : (a b m c d : ℕ) → c < m → d < m → a * m + c ≡ b * m + d → a ≡ b
same_unit a b m c d h k e = sym (digits_div a h) ∙ ap (λ x. x / m) e ∙ digits_div b k

a_unit : (a m : ℕ) → a ≢ 0 → m ≤ a * m
a_unit zero m n = absurd (n refl)
a_unit (suc a) m n = rw suc-mul (omega arith)

module _ (p q : Equation) (sp : SimplifiedForm p) (sq : SimplifiedForm q) where
  abbrev v : Valuation
  v = apart p q

  abbrev m : ℕ
  m = unit p q

  count_left : count v p.left.field ≡ p.right.field.0 * m + p.right.steps.0 - p.left.steps.0
  unfolding count apart
  count_left = simp (ne_eqb p.left.field.0 0 (omega (arith, smaller_right p sp)), eq-eqb p.left.field.0 p.left.field.0 refl)

  count_other : (f : Field) → f.0 ≢ p.left.field.0 → count v f ≡ f.0 * m
  unfolding count apart
  count_other f n = by_eq (λ t. cond t 0 (v f) ≡ f.0 * m) f.0 0 (λ z. omega (arith, ap (λ x. x * m) z)) (λ _. simp (ne_eqb f.0 p.left.field.0 n))

  -- what is taken off p's right side is there
  enough : p.left.steps.0 ≤ p.right.field.0 * m + p.right.steps.0
  unfolding unit
  enough = elim (ℕ_discrete p.right.field.0 0) [
    | yes z ↦ omega (arith, bare_left p sp z)
    | no n ↦ omega (arith, a_unit p.right.field.0 m n)
  ]

  first_true : truth v p ≡ true
  first_true = eq-eqb (value v p.left) (value v p.right)
      (omega (arith, count_left, count_other p.right.field (λ e. omega (arith, smaller_right p sp)), enough))

  same_left : q.left.field.0 ≡ p.left.field.0 → value v q.left ≡ value v q.right → p ≡ q
  unfolding unit
  same_left x e =
      let y : p.right.field.0 ≡ q.right.field.0 = same_unit p.right.field.0 q.right.field.0 m
      (p.right.steps.0 + q.left.steps.0) (q.right.steps.0 + p.left.steps.0) (omega arith) (omega arith)
      (omega (arith, ap (λ n. count v (field n)) x, count_left, count_other q.right.field (λ i. omega (arith, smaller_right q sq)), enough)) in
      let s : p.right.steps.0 + q.left.steps.0 ≡ q.right.steps.0 + p.left.steps.0 =
      omega (arith, ap (λ n. count v (field n)) x, count_left, count_other q.right.field (λ i. omega (arith, smaller_right q sq)), enough, ap (λ n. n * m) y) in
      equations_equal p q (sym x) (omega (arith, bare_side p sp, bare_side q sq)) y (omega (arith, bare_side p sp, bare_side q sq))

  other_left : q.left.field.0 ≢ p.left.field.0 → value v q.left ≡ value v q.right → ⊥
  unfolding unit
  other_left n e = elim (ℕ_discrete q.right.field.0 p.left.field.0) [
    | yes x ↦
        let y : q.left.field.0 ≡ p.right.field.0 = same_unit q.left.field.0 p.right.field.0 m
        (q.left.steps.0 + p.left.steps.0) (p.right.steps.0 + q.right.steps.0) (omega arith) (omega arith)
        (omega (arith, count_other q.left.field n, ap (λ k. count v (field k)) x, count_left, enough)) in
        omega (arith, smaller_right p sp, smaller_right q sq)
    | no o ↦
        let y : q.left.field.0 ≡ q.right.field.0 = same_unit q.left.field.0 q.right.field.0 m
        q.left.steps.0 q.right.steps.0 (omega arith) (omega arith)
        (omega (arith, count_other q.left.field n, count_other q.right.field o)) in
        omega (arith, smaller_right q sq)
  ]

  both_true : truth v q ≡ true → p ≡ q
  both_true t =
      let e : value v q.left ≡ value v q.right = eqb-true (value v q.left) (value v q.right) t in
      elim (ℕ_discrete q.left.field.0 p.left.field.0) [ yes x ↦ same_left x e | no n ↦ absurd (other_left n e) ]

-- Two different simplified questions differ in truth under some choice of counts.
pub told_apart : (p q : Equation) → SimplifiedForm p → SimplifiedForm q → p ≢ q → truth (apart p q) p ≢ truth (apart p q) q
told_apart p q sp sq n e = n (both_true p q sp sq (sym e ∙ first_true p q sp sq))

-- So no question has a second spelling.
pub one_spelling : (p q : Equation) → SimplifiedForm p → SimplifiedForm q → ((v : Valuation) → truth v p ≡ truth v q) → p ≡ q
one_spelling p q sp sq h = both_true p q sp sq (sym (h (apart p q)) ∙ first_true p q sp sq)
