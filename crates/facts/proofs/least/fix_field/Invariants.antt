-- `fix_field` meets its contract: every candidate that failed is below the least count.
use Prim.Native.Nat.{◌≤◌}
use Rattle.facts.specs.Least.{least_count}
use Rattle.facts.specs.Record.{state}
use Rattle.facts.proofs.least.fix_field.Given as goal

abbrev pub invariant-loop-count : goal.invariant-loop-count
invariant-loop-count l = l.count-iterator.start ≤ least_count (state l.fn.f) l.x.0
