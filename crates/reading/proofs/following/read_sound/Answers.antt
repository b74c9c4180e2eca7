use borrow.Author.Rules.{rules}
use Rattle.reading.proofs.FollowWays.{way_begins, way_readable, way_falls, way_goes, way_ends}
use Rattle.reading.proofs.following.read_sound.Goals as goal

pub loop-h-init : goal.loop-h-init
loop-h-init c = search (rules, way_begins)

pub next_of-h-requires : goal.next_of-h-requires
next_of-h-requires c = search (rules, way_readable)

pub loop-h-smaller : goal.loop-h-smaller
loop-h-smaller c = search (rules, way_falls)

pub loop-h-preserved : goal.loop-h-preserved
loop-h-preserved c = search (rules, way_goes)

pub returns : goal.returns
returns c = search (rules, way_ends)
