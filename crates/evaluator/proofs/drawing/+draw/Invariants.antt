-- `draw` ends: each half has fewer ways.
use Rattle.std.proofs.Common.{length}
use Rattle.evaluator.proofs.drawing.+draw.Given as goal

abbrev pub decreases-draw : goal.decreases-draw
decreases-draw l = length l.ways.now
