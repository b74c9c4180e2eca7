use native.Mathlib.Omega.{arith}
use borrow.Author.Rules.{rules}
use Rattle.writing.proofs.MarkWays.{numbering_begins, numbering_next}
use Rattle.writing.proofs.marking.Reach.number_rows.Goals as goal

pub loop-h-init : goal.loop-h-init
loop-h-init c = (search rules, search (rules, numbering_begins))

pub loop-h-preserved : goal.loop-h-preserved
loop-h-preserved c = (search rules, numbering_next _ _ _ c.loop-h.invariant.1 c.requires (omega arith) c.from-count.ensures)
