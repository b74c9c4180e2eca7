use borrow.Author.Rules.{rules}
use Rattle.walking.proofs.RowValues.{said_none, said_next, said_all}
use Rattle.walking.proofs.rows.table_value.Goals as goal

pub loop-i-init : goal.loop-i-init
loop-i-init c = said_none _ _

pub loop-i-preserved : goal.loop-i-preserved
loop-i-preserved c = search (rules, said_next)

pub returns : goal.returns
returns c = search (rules, said_all)
