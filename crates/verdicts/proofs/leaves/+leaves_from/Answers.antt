-- `leaves_from` meets its contract: on each way it goes on with a smaller handle, and what it reaches is what the definition says at its entry.
use borrow.Author.Rules.{rules}
use Rattle.verdicts.proofs.LeavesLaws.{leaf_reached, always_reached, never_reached, both_reached, either_reached}
use Rattle.verdicts.proofs.DescentLaws.{has_entry, is_listed, can_ask, small_no, room_for_no, can_go_yes, can_go_no, can_skip_yes, can_skip_no, yes_falls, no_falls}
use Rattle.verdicts.proofs.leaves.+leaves_from.Goals as goal

pub returns-then-handle-lt-LEAVES : goal.returns-then-handle-lt-LEAVES
returns-then-handle-lt-LEAVES t c = search (rules, leaf_reached)

pub entry_of-e-requires : goal.entry_of-e-requires
entry_of-e-requires t c = search (rules, has_entry)

pub question_at-q-requires : goal.question_at-q-requires
question_at-q-requires t c = search (rules, is_listed)

pub leaves_from-requires : goal.leaves_from-requires
leaves_from-requires t c = (search (rules, yes_falls), search (rules, can_skip_yes))

pub leaves_from-requires-in-Never : goal.leaves_from-requires-in-Never
leaves_from-requires-in-Never t c = (search (rules, no_falls), search (rules, can_skip_no))

pub leaves_from-a-requires : goal.leaves_from-a-requires
leaves_from-a-requires t c = (
  search (rules, yes_falls),
  can_go_yes c.requires c.if-handle-lt-LEAVES.false c.entry_of-e.ensures c.wide.ensures c.question_at-q.ensures c.in-Open.ensures c.wide-in-Open.ensures,
)

pub returns-then-a-2 : goal.returns-then-a-2
returns-then-a-2 t c = search (rules, both_reached)

pub no-requires : goal.no-requires
no-requires t c = record { small = search (rules, small_no); noes_lt_most_noes = search (rules, room_for_no) }

pub ask-requires : goal.ask-requires
ask-requires t c = search (rules, can_ask)

pub leaves_from-requires-in-Open : goal.leaves_from-requires-in-Open
leaves_from-requires-in-Open t c = (
  search (rules, no_falls),
  can_go_no c.requires c.if-handle-lt-LEAVES.false c.entry_of-e.ensures c.wide.ensures c.question_at-q.ensures c.in-Open.ensures c.wide-in-Open-2.ensures c.no.ensures,
)

pub returns-in-Always : goal.returns-in-Always
returns-in-Always t c = search (rules, always_reached)

pub returns-in-Never : goal.returns-in-Never
returns-in-Never t c = search (rules, never_reached)

pub returns-else-a : goal.returns-else-a
returns-else-a t c =
    either_reached c.requires c.if-handle-lt-LEAVES.false c.entry_of-e.ensures c.wide.ensures c.question_at-q.ensures c.in-Open.ensures
    c.wide-in-Open.ensures c.leaves_from-a.ensures c.wide-in-Open-2.ensures c.no.result c.no.ensures c.leaves_from-in-Open.ensures c.either.ensures
