-- `simplify_equation` meets its contract: a sequence of cases leads from the equation to the guard and grows by a case each turn, so it ends in simplify's
-- answer where none applies.
use Rattle.terms.specs.declared.simplification.Guard.TheVariants.{Question}
use Rattle.terms.specs.Lines.{Sequence, most_cases}
use Rattle.terms.proofs.simplification.simplify_equation.Given as goal

abbrev pub invariant-loop-next : goal.invariant-loop-next
invariant-loop-next l = Sequence (Question l.fn.e) l.guard

abbrev pub decreases-loop-next : goal.decreases-loop-next
decreases-loop-next l = most_cases l.guard
