-- `facts_of` meets its contract: each turn adds the fact of one field more, unless it is blank.
use Rattle.reading.specs.Needs.{HoldsCounts}
use Rattle.reading.proofs.counting.facts_of.Given as goal

abbrev pub invariant-loop-k : goal.invariant-loop-k
invariant-loop-k l = HoldsCounts l.sheet l.k l.f
