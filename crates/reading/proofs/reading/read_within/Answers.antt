-- `read_within` meets its contract: its tests are the definition's, in the definition's order.
use borrow.Author.Rules.{rules}
use Rattle.reading.proofs.ReadWays.{few_counts, can_start, can_read, says_truth}
use Rattle.reading.proofs.reading.read_within.Goals as goal

pub read_sound-requires : goal.read_sound-requires
read_sound-requires c = search (rules, can_read)

pub facts_of-requires : goal.facts_of-requires
facts_of-requires c = search (rules, few_counts)

pub leaves_from-leaves-requires : goal.leaves_from-leaves-requires
leaves_from-leaves-requires c = search (rules, can_start)

pub returns-then-not-contains : goal.returns-then-not-contains
returns-then-not-contains c =
    says_truth c.args.limits c.args.s.now c.is_sound.ensures.sound c.if-not-is_sound.false c.args.handle c.has_handle.ensures c.if-not-has_handle.false c.args.sheet.now
    (search rules) (search rules) c.read_sound.ensures c.from.ensures
