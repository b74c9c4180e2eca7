-- Simplifying an equation of two terms (document 01, "Simplifying an equation of two terms"; document 000, Definition 24).
use Rattle.std.specs.Prelude.{ℕ, ◌-◌, min, cond, ◌&&◌, eqb, ltb, ℤ, pos, ◌-ℤ◌, Result, Ok, Err}
use Rattle.terms.specs.declared.term.Term.{Term}
use Rattle.terms.specs.declared.limits.TermLimits.{TermLimits}
use Rattle.terms.specs.declared.term.Equation.{Equation}
use Rattle.terms.specs.declared.simplification.Guard.{Guard}
use Rattle.terms.specs.declared.simplification.Guard.TheVariants as guard
use Rattle.terms.specs.declared.simplification.SimplifyAnswer.{SimplifyAnswer}
use Rattle.terms.specs.declared.simplification.Simplified.{Simplified}
use Rattle.terms.specs.declared.simplification.Simplified.TheVariants.{Never, Always, Question}
use Rattle.terms.specs.declared.simplification.OutOfLimits.{OutOfLimits}
use Rattle.terms.specs.Words.{steps, term, equation, term_of, word_of, allows}

-- the equation written the other way round
abbrev pub turned : Equation → Equation
turned e = equation e.right e.left

-- "the larger field goes left"
unfoldable pub larger_left : Equation → Equation
larger_left e = cond (ltb e.left.field.0 e.right.field.0) (turned e) e

abbrev pub less_steps : ℕ → Term → Term
less_steps k t = term t.field (steps (t.steps.0 - k))

-- "and the smaller step count is taken from both sides"
unfoldable pub lowered : Equation → Equation
lowered e =
    let k = min e.left.steps.0 e.right.steps.0 in
    equation (less_steps k e.left) (less_steps k e.right)

-- "If the right field is then 0 and steps remain on the left, the equation is never."; "All else is a question."
unfoldable pub never_or_question : Equation → Guard
never_or_question e = cond (eqb e.right.field.0 0 && ltb 0 e.left.steps.0) guard.Never (guard.Question e)

-- "Same field on both sides: always if the steps are equal, else never."
unfoldable pub simplify : Equation → Guard
simplify e =
    cond (eqb e.left.field.0 e.right.field.0)
    (cond (eqb e.left.steps.0 e.right.steps.0) guard.Always guard.Never)
    (never_or_question (lowered (larger_left e)))

-- "Its gap, right steps minus left steps, is a signed number"
abbrev pub gap : Equation → ℤ
gap e = pos e.right.steps.0 -ℤ pos e.left.steps.0

-- "always, never, or the question's two words and gap"
abbrev pub shown : Guard → Simplified
shown guard.Never = Never
shown guard.Always = Always
shown (guard.Question e) = Question (word_of e.left) (word_of e.right) (gap e)

-- "Simplify gives 35 too"
abbrev pub limits_fault_number : OutOfLimits → ℕ
limits_fault_number fault = 35

abbrev pub refused : Result Simplified OutOfLimits
refused = Err (record {})

-- The operation, on any two words: refused if one of the two terms is not within the limits.
unfoldable pub simplify_words : TermLimits → ℕ → ℕ → Result Simplified OutOfLimits
simplify_words limits l r =
    cond (allows limits (term_of l) && allows limits (term_of r)) (Ok (shown (simplify (equation (term_of l) (term_of r))))) refused

-- "An answer is a number and a result. ... On refusal the result is 0": an answer with no question beside it
abbrev pub plain : ℕ → ℕ → SimplifyAnswer
plain number result = record { number = number; result = result; left = 0; right = 0; gap = pos 0 }

-- "Simplify's result is 0 never, 1 always or 2 a question, with two words and a gap beside it that are zero unless it is 2."
abbrev pub answer : Result Simplified OutOfLimits → SimplifyAnswer
answer (Err fault) = plain (limits_fault_number fault) 0
answer (Ok Never) = plain 0 0
answer (Ok Always) = plain 0 1
answer (Ok (Question l r g)) = record { number = 0; result = 2; left = l; right = r; gap = g }
