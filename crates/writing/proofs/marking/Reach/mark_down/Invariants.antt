-- `mark_down` meets its contract: each turn does one entry of the pass, from the handle down.
use Rattle.writing.proofs.MarkWays.{Marking}
use Rattle.writing.proofs.marking.Reach.mark_down.Given as goal

abbrev pub invariant-loop-h : goal.invariant-loop-h
invariant-loop-h l = Marking l.s l.handle l.initial.self.marks l.self.marks l.h
