-- `walk_all` meets its contract: a sound store's entries differ, so all of them are in the index when the walk begins.
use borrow.Author.Rules.{rules}
use Rattle.inserting.proofs.AddWays.{heading_within, can_load, in_index, can_walk, from_start}
use Rattle.inserting.proofs.adding.walk_all.Goals as goal

pub entries_start-requires : goal.entries_start-requires
entries_start-requires c = search (rules, heading_within)

pub used-requires : goal.used-requires
used-requires c = search (rules, heading_within)

pub load-requires-clause-fits : goal.load-requires-clause-fits
load-requires-clause-fits c = search (rules, can_load)

pub question_count-questions-requires : goal.question_count-questions-requires
question_count-questions-requires c = search (rules, heading_within)

pub walk-requires-clause-can_walk : goal.walk-requires-clause-can_walk
walk-requires-clause-can_walk c = can_walk c.requires c.no_facts.result c.question_count-questions.ensures c.no_facts.ensures

pub walk-requires-clause-in_index : goal.walk-requires-clause-in_index
walk-requires-clause-in_index c =
    in_index c.requires c.entries_start.ensures c.used.ensures c.wide.ensures c.load.ensures.differ c.load.ensures.loaded

pub returns : goal.returns
returns c =
    from_start c.requires c.no_facts.result c.question_count-questions.ensures c.no_facts.ensures c.walk.ensures.store_after
