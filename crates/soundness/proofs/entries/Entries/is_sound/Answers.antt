-- `is_sound` meets its contract: an entry whose numbers keep their rules names entries before it alone.
use Rattle.std.proofs.Common.{rules}
use Rattle.soundness.proofs.EntryWays.{numbers_fail, yes_low, no_low, yes_fails, by_no}
use Rattle.soundness.proofs.entries.Entries.is_sound.Goals as goal

pub returns-then-not-numbers_sound : goal.returns-then-not-numbers_sound
returns-then-not-numbers_sound c = search (rules, numbers_fail)

pub asks_before-requires : goal.asks_before-requires
asks_before-requires c = search (rules, yes_low)

pub asks_before-requires-then-asks_before : goal.asks_before-requires-then-asks_before
asks_before-requires-then-asks_before c = search (rules, no_low)

pub returns-then-asks_before : goal.returns-then-asks_before
returns-then-asks_before c = search (rules, by_no)

pub returns-else-asks_before : goal.returns-else-asks_before
returns-else-asks_before c = search (rules, yes_fails)
