-- `least_sheet` meets its contract: each turn fixes one more field at the least count that it can have.
use Rattle.facts.proofs.LeastWays.{FixedBelow}
use Rattle.facts.proofs.least.least_sheet.Given as goal

abbrev pub invariant-loop-i : goal.invariant-loop-i
invariant-loop-i l = FixedBelow l.initial.f l.i l.f l.counts
