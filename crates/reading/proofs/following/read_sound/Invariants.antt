-- `read_sound` meets its contract: each handle on the way is smaller than the one before and means the same, down to a leaf.
use Rattle.reading.proofs.FollowWays.{OnWay}
use Rattle.reading.proofs.following.read_sound.Given as goal

abbrev pub invariant-loop-h : goal.invariant-loop-h
invariant-loop-h l = OnWay l.s l.handle l.sheet l.h

abbrev pub decreases-loop-h : goal.decreases-loop-h
decreases-loop-h l = l.h
