-- Each way on goes to a smaller handle.
use Rattle.examples.proofs.best.+best_from.Given as goal

abbrev pub decreases-best_from : goal.decreases-best_from
decreases-best_from l = l.handle
