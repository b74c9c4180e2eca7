use borrow.Author.Rules.{rules}
use Rattle.facts.proofs.NoesWays.{passed_none, raised_places, settled_found, passed_next}
use Rattle.facts.proofs.deciding.join_is_free.Goals as goal

pub loop-pair-init : goal.loop-pair-init
loop-pair-init c = passed_none _ _

pub settles-requires : goal.settles-requires
settles-requires c = search (rules, raised_places)

pub returns-then-settles : goal.returns-then-settles
returns-then-settles c = search (rules, settled_found)

pub loop-pair-preserved : goal.loop-pair-preserved
loop-pair-preserved c = search (rules, passed_next)
