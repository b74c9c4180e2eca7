-- `all_zero` meets its contract: the words that are left decide, and fewer are left after each part.
use Rattle.std.proofs.Common.{◌≡◌, length}
use Rattle.store.specs.Sound as spec
use Rattle.soundness.proofs.zeros.all_zero.Given as goal

abbrev pub invariant-loop-rest : goal.invariant-loop-rest
invariant-loop-rest l = spec.all_zero l.rest ≡ spec.all_zero l.words

abbrev pub decreases-loop-rest : goal.decreases-loop-rest
decreases-loop-rest l = length l.rest
