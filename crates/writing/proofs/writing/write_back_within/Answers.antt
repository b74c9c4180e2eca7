-- `write_back_within` meets its contract: its tests are the definition's, in the definition's order.
use borrow.Author.Rules.{rules}
use Rattle.writing.proofs.WriteWays.{is_handled}
use Rattle.writing.proofs.writing.write_back_within.Goals as goal

pub write_sound-requires : goal.write_sound-requires
write_sound-requires c = search (rules, is_handled)
