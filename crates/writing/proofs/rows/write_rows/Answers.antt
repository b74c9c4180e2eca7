-- `write_rows` meets its contract: the rows of the leaves come first, and those of the entries right after them.
use borrow.Author.Rules.{rules}
use Rattle.writing.proofs.RowsWritten.{wrote_never, still_writable, wrote_rows}
use Rattle.writing.proofs.rows.write_rows.Goals as goal

pub returns-then-handle-eq0 : goal.returns-then-handle-eq0
returns-then-handle-eq0 c = search (rules, wrote_never)

pub write_entries-requires : goal.write_entries-requires
write_entries-requires c = record { writable = search (rules, still_writable); le_handle = search rules }

pub returns : goal.returns
returns c = search (rules, wrote_rows)
