-- `verdict_within` meets its contract: its tests are the definition's, in its order.
use borrow.Author.Rules.{rules}
use Rattle.verdicts.proofs.VerdictWays.{can_start}
use Rattle.verdicts.proofs.deciding.verdict_within.Goals as goal

pub leaves_from-leaves-requires : goal.leaves_from-leaves-requires
leaves_from-leaves-requires c = search (rules, can_start)
