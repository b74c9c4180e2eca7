-- A fault of the i-th row is the first of what is left; with none there, the rest decides.
use Rattle.std.proofs.Common.{rules}
use Rattle.tables.proofs.FaultWays.{pass_start, pass_end, pass_next, pass_stop}
use Rattle.tables.proofs.faults.rows_fault.Goals as goal

pub loop-i-init : goal.loop-i-init
loop-i-init c = search (rules, pass_start)

pub returns-in_err-row_fault : goal.returns-in_err-row_fault
returns-in_err-row_fault c = search (rules, pass_stop)

pub loop-i-preserved : goal.loop-i-preserved
loop-i-preserved c = search (rules, pass_next)

pub returns : goal.returns
returns c = search (rules, pass_end)
