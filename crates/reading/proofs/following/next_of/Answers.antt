-- `next_of` meets its contract: a handle that is no leaf has an entry, and the answer to its question picks the handle that follows.
use borrow.Author.Rules.{rules}
use Rattle.reading.proofs.FollowWays.{entry_there, asks_question, can_ask}
use Rattle.reading.proofs.following.next_of.Goals as goal

pub entry_of-e-requires : goal.entry_of-e-requires
entry_of-e-requires c = search (rules, entry_there)

pub question_at-requires : goal.question_at-requires
question_at-requires c = search (rules, asks_question)

pub truth_of-requires : goal.truth_of-requires
truth_of-requires c = search (rules, can_ask)
