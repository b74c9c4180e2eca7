-- `add` meets its contract: the walk's handle is the answer, and a full store is put back as it came.
use borrow.Author.Rules.{rules}
use Rattle.inserting.proofs.AddWays.{heading_in, can_walk_all, added_at, can_restore, full_restored}
use Rattle.inserting.proofs.adding.add.Goals as goal

pub used-entries-requires : goal.used-entries-requires
used-entries-requires c = search (rules, heading_in)

pub walk_all-requires : goal.walk_all-requires
walk_all-requires c = search (rules, can_walk_all)

pub restore-requires : goal.restore-requires
restore-requires c = search (rules, can_restore)

pub returns-in-Some : goal.returns-in-Some
returns-in-Some c = search (rules, added_at)

pub returns-in-None : goal.returns-in-None
returns-in-None c = search (rules, full_restored)
