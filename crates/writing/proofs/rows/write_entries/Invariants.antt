-- `write_entries` meets its contract: each turn writes the rows of one entry after those of the entries before it.
use Rattle.writing.proofs.RowsWritten.{Writing}
use Rattle.writing.proofs.rows.write_entries.Given as goal

abbrev pub invariant-loop-h : goal.invariant-loop-h
invariant-loop-h l = Writing l.s l.handle l.initial.out l.out l.h
