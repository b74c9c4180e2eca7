-- `steps_off` meets its contract: line 2 and no other leads from the equation to the guard, once more each turn, until it does not apply.
use Rattle.terms.specs.declared.simplification.Guard.TheVariants.{Question}
use Rattle.terms.specs.Lines.{Repeated, most_cases}
use Rattle.terms.proofs.simplification.steps_off.Given as goal

abbrev pub invariant-loop-guard : goal.invariant-loop-guard
invariant-loop-guard l = Repeated 2 (Question l.fn.e) l.guard

abbrev pub decreases-loop-guard : goal.decreases-loop-guard
decreases-loop-guard l = most_cases l.guard
