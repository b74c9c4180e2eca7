-- `with_yes` meets its contract: it makes the plan of the state, which is no clash.
use borrow.Author.Rules.{rules}
use Rattle.facts.proofs.WorkedRecord.{can_join_places}
use Rattle.facts.proofs.working.with_yes.Goals as goal

pub with_join-requires : goal.with_join-requires
with_join-requires c = search (rules, can_join_places)
