-- `handle_value` meets its contract: each turn leaves the value as it was, at a smaller handle.
use Rattle.facts.specs.Record.{state}
use Rattle.walking.proofs.FollowWays.{Following}
use Rattle.walking.proofs.handles.handle_value.Given as goal

abbrev pub invariant-loop-h : goal.invariant-loop-h
invariant-loop-h l = Following l.s l.handle (state l.f) l.h

abbrev pub decreases-loop-h : goal.decreases-loop-h
decreases-loop-h l = l.h
