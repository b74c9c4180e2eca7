-- `ask` meets its contract: an open question leaves the facts with a yes free, so the record has them.
use borrow.Author.Rules.{rules}
use Rattle.facts.proofs.WorkedRecord.{can_yes}
use Rattle.facts.proofs.asking.ask.Goals as goal

pub add-requires : goal.add-requires
add-requires c = search (rules, can_yes)
