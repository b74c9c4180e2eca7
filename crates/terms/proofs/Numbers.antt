-- Equations are equal if their four numbers are, and four numbers can be compared.
use mathlib.Core.Path.{◌≡◌}
use Rattle.terms.specs.declared.term.Equation.{Equation}
use Rattle.terms.specs.Words.{field, steps, term, equation}

pub equations_equal : (p q : Equation) → p.left.field.0 ≡ q.left.field.0 → p.left.steps.0 ≡ q.left.steps.0
    → p.right.field.0 ≡ q.right.field.0 → p.right.steps.0 ≡ q.right.steps.0 → p ≡ q
equations_equal p q x l y r = λ i. equation (term (field (x i)) (steps (l i))) (term (field (y i)) (steps (r i)))
