-- `write_list` meets its contract: after i turns the first i words of the list stand behind the heading.
use borrow.Author.Rules.{rules}
use Rattle.store.proofs.ListWritten.{list_none, list_more, list_all}
use Rattle.store.proofs.opening.write_list.Goals as goal

pub loop-i-init : goal.loop-i-init
loop-i-init c = search (rules, list_none)

pub loop-i-preserved : goal.loop-i-preserved
loop-i-preserved c = search (rules, list_more)

pub returns : goal.returns
returns c = search (rules, list_all)
