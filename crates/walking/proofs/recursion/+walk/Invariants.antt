-- The number of questions left falls.
use Rattle.walking.proofs.recursion.+walk.Given as goal

abbrev pub decreases-walk : goal.decreases-walk
decreases-walk l = l.left
