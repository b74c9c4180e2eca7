use borrow.Author.Rules.{rules}
use Rattle.facts.proofs.Joining.{joining_next, can_raise, joined_all}
use Rattle.facts.proofs.working.with_join.Goals as goal

pub joined-requires : goal.joined-requires
joined-requires c = search (rules, can_raise)

pub loop-p-preserved : goal.loop-p-preserved
loop-p-preserved c = search (rules, joining_next)

pub returns : goal.returns
returns c = search (rules, joined_all)
