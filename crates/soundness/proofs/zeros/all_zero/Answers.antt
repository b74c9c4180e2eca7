use Rattle.std.proofs.Common.{rules}
use Rattle.soundness.proofs.ZeroParts.{part_passed, part_stops}
use Rattle.soundness.proofs.zeros.all_zero.Goals as goal

pub returns-then-not-part_is_zero : goal.returns-then-not-part_is_zero
returns-then-not-part_is_zero c = search (rules, part_stops)

pub loop-rest-preserved : goal.loop-rest-preserved
loop-rest-preserved c = search (rules, part_passed)
