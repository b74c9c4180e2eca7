-- `rows_fault` meets its contract: the rows that are left have the same first fault as all of them.
use Rattle.tables.specs.Faults.{row_fault}
use Rattle.tables.proofs.FaultWays.{RowsPassed}
use Rattle.tables.proofs.faults.rows_fault.Given as goal

abbrev pub invariant-loop-i : goal.invariant-loop-i
invariant-loop-i l = RowsPassed (row_fault l.listing.limits l.listing.store.now) l.table l.i
