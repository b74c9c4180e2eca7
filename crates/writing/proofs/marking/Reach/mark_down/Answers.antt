use borrow.Author.Rules.{rules}
use Rattle.writing.proofs.MarkWays.{handle_fits, marking_parts, marking_next, marking_ends}
use Rattle.writing.proofs.marking.Reach.mark_down.Goals as goal

pub bounds-self-handle : goal.bounds-self-handle
bounds-self-handle c = search (rules, handle_fits)

pub mark_parts-requires : goal.mark_parts-requires
mark_parts-requires c = marking_parts c.requires.handled c.loop-h.invariant c.loop-h-test.true

pub loop-h-preserved : goal.loop-h-preserved
loop-h-preserved c = marking_next c.requires.handled c.loop-h.invariant c.loop-h-test.true c.mark_parts.ensures

pub returns : goal.returns
returns c = search (rules, marking_ends)
