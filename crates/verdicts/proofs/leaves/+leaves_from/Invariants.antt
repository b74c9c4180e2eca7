-- Each way on goes to a smaller handle.
use Rattle.verdicts.proofs.leaves.+leaves_from.Given as goal

abbrev pub decreases-leaves_from : goal.decreases-leaves_from
decreases-leaves_from l = l.handle
