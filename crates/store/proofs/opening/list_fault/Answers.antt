-- A fault at the k-th question is the first of what is left; with none there, the rest decides.
use Rattle.std.proofs.Common.{rules}
use Rattle.store.proofs.OpenWays.{list_start, list_end, list_next, list_stop}
use Rattle.store.proofs.opening.list_fault.Goals as goal

pub loop-k-init : goal.loop-k-init
loop-k-init c = search (rules, list_start)

pub returns-in_err-question_fault : goal.returns-in_err-question_fault
returns-in_err-question_fault c = search (rules, list_stop)

pub loop-k-preserved : goal.loop-k-preserved
loop-k-preserved c = search (rules, list_next)

pub returns : goal.returns
returns c = search (rules, list_end)
