-- The list of questions that a raw list results in (document 02, i): "simplifies each, drops always and never, removes doubles and sorts the rest into question order".
use Rattle.std.specs.Prelude.{cond, List, [], ◌∷◌}
use Rattle.std.proofs.Math.Option.{Option, none, some}
use Rattle.terms.specs.declared.simplification.Guard.TheVariants.{Never, Always, Question}
use Rattle.terms.specs.declared.term.Equation.{Equation}
use Rattle.terms.specs.Order.{Order, before}
use Rattle.terms.specs.Simplify.{simplify}

-- "simplifies each, drops always and never": the question that remains of a raw equation, if one does
unfoldable pub remaining : Equation → Option Equation
remaining e = elim (simplify e) [ Never ↦ none | Always ↦ none | Question q ↦ some q ]

-- "sorts the rest", "removes doubles": where a question belongs, seen from one that is there: behind it, in front of it, or it is the one
pub data Side : Type 0 where
  behind : Side
  in_front : Side
  there : Side

unfoldable pub side : Order → Equation → Equation → Side
side order q p = cond (before order p q) behind (cond (before order q p) in_front there)

-- a question put into a list that ascends in an order, and not again if it is there
unfoldable pub with_question : Order → Equation → List Equation → List Equation
with_question order q [] = q ∷ []
with_question order q (p ∷ ps) = elim (side order q p) [ behind ↦ p ∷ with_question order q ps | in_front ↦ q ∷ p ∷ ps | there ↦ p ∷ ps ]

-- what remains of a raw equation put into the list
unfoldable pub with_equation : Order → Equation → List Equation → List Equation
with_equation order e qs = elim (remaining e) [ none ↦ qs | some q ↦ with_question order q qs ]

-- raw equations in turn, on top of the questions that are there
unfoldable pub collected : Order → List Equation → List Equation → List Equation
collected order qs [] = qs
collected order qs (e ∷ es) = collected order (with_equation order e qs) es

-- the resulting list of a raw list
abbrev pub resulting : Order → List Equation → List Equation
resulting order es = collected order [] es
