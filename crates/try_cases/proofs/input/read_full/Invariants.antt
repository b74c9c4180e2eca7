-- What is read stays within the bytes that are lent, and each turn but the last reads at least one.
use Rattle.std.proofs.Common.{◌-◌, ◌≤◌, length}
use Rattle.try_cases.proofs.input.read_full.Given as goal

abbrev pub invariant-loop-end : goal.invariant-loop-end
invariant-loop-end g l = l.end ≤ length l.bytes

abbrev pub decreases-loop-end : goal.decreases-loop-end
decreases-loop-end g l = length l.bytes - l.end
