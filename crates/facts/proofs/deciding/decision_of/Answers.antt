-- `decision_of` meets its contract: each plan has its decision.
use borrow.Author.Rules.{rules}
use Rattle.facts.proofs.WorkedRecord.{can_join}
use Rattle.facts.proofs.DecideWays.{decides_keep, decides_clash, decides_open, decides_never}
use Rattle.facts.proofs.deciding.decision_of.Goals as goal

pub join_is_free-requires : goal.join_is_free-requires
join_is_free-requires c = search (rules, can_join)

pub returns-then-join_is_free : goal.returns-then-join_is_free
returns-then-join_is_free c = search (rules, decides_open)

pub returns-in-Keep : goal.returns-in-Keep
returns-in-Keep c = search (rules, decides_keep)

pub returns-in-Clash : goal.returns-in-Clash
returns-in-Clash c = search (rules, decides_clash)

pub returns-else-join_is_free : goal.returns-else-join_is_free
returns-else-join_is_free c = search (rules, decides_never)
