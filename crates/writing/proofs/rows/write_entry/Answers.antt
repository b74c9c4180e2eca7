-- `write_entry` meets its contract: a marked entry has its two rows written, one after the other.
use borrow.Author.Rules.{rules}
use Rattle.writing.proofs.EntryWritten.{wrote_both}
use Rattle.writing.proofs.rows.write_entry.Goals as goal

pub returns-then-reach-i : goal.returns-then-reach-i
returns-then-reach-i c = search (rules, wrote_both)
