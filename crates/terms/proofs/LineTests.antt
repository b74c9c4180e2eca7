-- A line applies to an equation exactly if the equation's four numbers are as the line's left side has them; and a line leads from a guard to one guard alone.
use Prim.Native.Nat.{ℕ, ◌+◌, ◌-◌, ◌<◌}
use mathlib.Core.Path.{◌≡◌, refl, sym, ap, subst, ◌∙◌}
use mathlib.Core.Logic.{◌⊎◌}
use mathlib.Core.Bool.{true, cond}
use native.Mathlib.Omega.{arith}
use lib.Dec.{eqb}
use Rattle.terms.specs.declared.term.Term.{Term}
use Rattle.terms.specs.declared.term.Equation.{Equation}
use Rattle.terms.specs.declared.simplification.Guard.{Guard}
use Rattle.terms.specs.declared.simplification.Guard.TheVariants.{Never, Always, Question}
use Rattle.terms.specs.Form.{IfQuestion}
use Rattle.terms.specs.Words.{field, steps, term, equation}
use Rattle.terms.specs.Simplify.{less_steps, turned}
use Rattle.terms.specs.Lines.{S, S_times, bare, zero_itself, is_before, Before, as_written, turned_round, written, line_1, line_2, line_3, line_4, line_5, Case, line_of, ByLine}
use Rattle.terms.proofs.Numbers.{equations_equal}

-- a case of line k leads on from each of two equal equations
at_equal : (k : ℕ) (p e : Equation) (h : Guard) → p ≡ e → ByLine k (Question p) h → ByLine k (Question e) h
at_equal k p e h i b = subst (λ q. ByLine k (Question q) h) i b

pub one_step_less : (t : Term) → 0 < t.steps.0 → S (less_steps 1 t) ≡ t
one_step_less t h = same_numbers refl (omega arith)
  where
    same_numbers : {r t : Term} → r.field.0 ≡ t.field.0 → r.steps.0 ≡ t.steps.0 → r ≡ t
    same_numbers f s = λ i. term (field (f i)) (steps (s i))

module _ (e : Equation) where
  pub line_1_applies : e.left.field.0 ≡ e.right.field.0 → e.left.steps.0 ≡ 0 → e.right.steps.0 ≡ 0 → ByLine 1 (Question e) Always
  line_1_applies f l r =
      let p = equation (bare e.left.field) (bare e.left.field) in
      at_equal 1 p e Always (equations_equal p e refl (omega arith) f (omega arith)) (line_1 e.left.field, refl)

  pub line_2_applies : {y x : Term} → S y ≡ e.left → S x ≡ e.right → ByLine 2 (Question e) (Question (equation y x))
  line_2_applies {y} {x} i j = at_equal 2 (equation (S y) (S x)) e (Question (equation y x)) (λ k. equation (i k) (j k)) (line_2 y x, refl)

  pub line_3_applies : 0 < e.left.steps.0 → e.right.field.0 ≡ 0 → e.right.steps.0 ≡ 0 → ByLine 3 (Question e) Never
  line_3_applies l f r =
      let x = less_steps 1 e.left in
      let p = written as_written (S x) zero_itself in
      at_equal 3 p e Never (equations_equal p e refl (omega arith) (omega arith) (omega arith)) (line_3 x as_written, refl)

  pub line_3_turned : 0 < e.right.steps.0 → e.left.field.0 ≡ 0 → e.left.steps.0 ≡ 0 → ByLine 3 (Question e) Never
  line_3_turned r f l =
      let x = less_steps 1 e.right in
      let p = written turned_round (S x) zero_itself in
      at_equal 3 p e Never (equations_equal p e (omega arith) (omega arith) refl (omega arith)) (line_3 x turned_round, refl)

  pub line_4_applies : 0 < e.left.steps.0 → e.left.field.0 ≡ e.right.field.0 → e.right.steps.0 ≡ 0 → ByLine 4 (Question e) Never
  line_4_applies l f r =
      let x = e.left.field in
      let m = e.left.steps.0 - 1 in
      let p = written as_written (S_times (m + 1) x) (bare x) in
      at_equal 4 p e Never (equations_equal p e refl (omega arith) f (omega arith)) (line_4 x m as_written, refl)

  pub line_4_turned : 0 < e.right.steps.0 → e.left.field.0 ≡ e.right.field.0 → e.left.steps.0 ≡ 0 → ByLine 4 (Question e) Never
  line_4_turned r f l =
      let x = e.right.field in
      let m = e.right.steps.0 - 1 in
      let p = written turned_round (S_times (m + 1) x) (bare x) in
      at_equal 4 p e Never (equations_equal p e (omega arith) (omega arith) refl (omega arith)) (line_4 x m turned_round, refl)

  pub line_5_applies : is_before e.left e.right ≡ true → ByLine 5 (Question e) (Question (turned e))
  line_5_applies b = (line_5 e.left e.right b, refl)

-- what each line says of the numbers of an equation that it applies to
abbrev pub SameAndBare : Equation → Type 0
SameAndBare e = (e.left.field.0 ≡ e.right.field.0) × (e.left.steps.0 ≡ 0) × (e.right.steps.0 ≡ 0)

abbrev pub BothHaveSteps : Equation → Type 0
BothHaveSteps e = (0 < e.left.steps.0) × (0 < e.right.steps.0)

abbrev pub ZeroAndSteps : Equation → Type 0
ZeroAndSteps e =
    ((0 < e.left.steps.0) × (e.right.field.0 ≡ 0) × (e.right.steps.0 ≡ 0)) ⊎ ((0 < e.right.steps.0) × (e.left.field.0 ≡ 0) × (e.left.steps.0 ≡ 0))

abbrev pub SameAndOneBare : Equation → Type 0
SameAndOneBare e =
    (e.left.field.0 ≡ e.right.field.0)
    × (((0 < e.left.steps.0) × (e.right.steps.0 ≡ 0)) ⊎ ((0 < e.right.steps.0) × (e.left.steps.0 ≡ 0)))

abbrev pub LeftBefore : Equation → Type 0
LeftBefore e = Before e.left e.right

pub line_1_only : {g h : Guard} (c : Case g h) → line_of c ≡ 1 → IfQuestion SameAndBare g
line_1_only (line_1 x) _ = (refl, refl, refl)
line_1_only _ n = absurd (omega (arith, n))

pub line_2_only : {g h : Guard} (c : Case g h) → line_of c ≡ 2 → IfQuestion BothHaveSteps g
line_2_only (line_2 y x) _ = (omega arith, omega arith)
line_2_only _ n = absurd (omega (arith, n))

pub line_3_only : {g h : Guard} (c : Case g h) → line_of c ≡ 3 → IfQuestion ZeroAndSteps g
line_3_only (line_3 x as_written) _ = grind arith
line_3_only (line_3 x turned_round) _ = grind arith
line_3_only _ n = absurd (omega (arith, n))

pub line_4_only : {g h : Guard} (c : Case g h) → line_of c ≡ 4 → IfQuestion SameAndOneBare g
line_4_only (line_4 x m as_written) _ = grind arith
line_4_only (line_4 x m turned_round) _ = grind arith
line_4_only _ n = absurd (omega (arith, n))

pub line_5_only : {g h : Guard} (c : Case g h) → line_of c ≡ 5 → IfQuestion LeftBefore g
line_5_only (line_5 r t b) _ = b
line_5_only _ n = absurd (omega (arith, n))

-- what line k leads to from an equation to which it applies
made : ℕ → Guard → Guard
made k Never = Never
made k Always = Always
made k (Question e) =
    cond (eqb k 1) Always
    (cond (eqb k 2) (Question (equation (less_steps 1 e.left) (less_steps 1 e.right))) (cond (eqb k 5) (Question (turned e)) Never))

makes : {g h : Guard} (c : Case g h) → h ≡ made (line_of c) g
unfolding made
makes (line_1 x) = refl
makes (line_2 y x) = ap Question (equations_equal _ _ refl (omega arith) refl (omega arith))
makes (line_3 x w) = refl
makes (line_4 x m w) = refl
makes (line_5 r t b) = refl

-- Each line leads from a guard to one guard alone.
pub one_guard : {g h i : Guard} (c : Case g h) (d : Case g i) → line_of c ≡ line_of d → h ≡ i
one_guard {g} c d k = makes c ∙ ap (λ n. made n g) k ∙ sym (makes d)
