use native.Mathlib.Omega.{arith}
use borrow.Author.Rules.{rules}
use Rattle.writing.proofs.RowsWritten.{writing_begins, writing_entry, writing_next}
use Rattle.writing.proofs.rows.write_entries.Goals as goal

pub loop-h-init : goal.loop-h-init
loop-h-init c = search (rules, writing_begins)

pub write_entry-requires : goal.write_entry-requires
write_entry-requires c = writing_entry c.requires.writable c.loop-h.invariant (omega arith)

pub loop-h-preserved : goal.loop-h-preserved
loop-h-preserved c = search (rules, writing_next)
