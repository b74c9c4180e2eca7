-- The forms of a simplified question (document 000, Corollary 25).
use Rattle.std.specs.Prelude.{◌<◌, ◌≡◌, ◌≢◌, Bool, not, ◌&&◌, ◌||◌, eqb, ltb}
use Rattle.terms.specs.declared.term.Equation.{Equation}
use Rattle.terms.specs.declared.simplification.Guard.{Guard}
use Rattle.terms.specs.declared.simplification.Guard.TheVariants.{Never, Always, Question}

-- The larger field stands left, one side has no steps, and the left none if the right is a number: the forms below, as a test.
unfoldable pub is_simplified : Equation → Bool
is_simplified e =
    ltb e.right.field.0 e.left.field.0
    && (eqb e.left.steps.0 0 || (eqb e.right.steps.0 0 && not (eqb e.right.field.0 0)))

-- m is the step count of the other side, and may be 0.
pub data SimplifiedForm (e : Equation) : Type 0 where
  -- x = S^m(0) for some x ∈ V
  is_number : e.left.field.0 ≢ 0 → e.left.steps.0 ≡ 0 → e.right.field.0 ≡ 0 → SimplifiedForm e
  -- y = S^m(x) for some x, y ∈ V, x ≺ y
  is_above : e.right.field.0 ≢ 0 → e.right.field.0 < e.left.field.0 → e.left.steps.0 ≡ 0 → SimplifiedForm e
  -- S^m(y) = x for some x, y ∈ V, x ≺ y
  is_below : e.right.field.0 ≢ 0 → e.right.field.0 < e.left.field.0 → e.right.steps.0 ≡ 0 → SimplifiedForm e

-- what a guard is, if it is a question
abbrev pub IfQuestion : (Equation → Type 0) → Guard → Type 0
IfQuestion P Never = Unit {0}
IfQuestion P Always = Unit {0}
IfQuestion P (Question q) = P q

-- "in one of the following forms": the three above, ⊤ and ⊥
abbrev pub InForm : Guard → Type 0
InForm g = IfQuestion SimplifiedForm g
