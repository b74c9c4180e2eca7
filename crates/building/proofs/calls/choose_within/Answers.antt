-- `choose_within` meets its contract: soundness, then the three handles, then the finished diagram.
use borrow.Author.Rules.{rules}
use Rattle.building.proofs.CallWays.{choose_unsound, choose_none, chooses}
use Rattle.building.proofs.calls.choose_within.Goals as goal

pub returns-then-not-is_sound : goal.returns-then-not-is_sound
returns-then-not-is_sound c = search (rules, choose_unsound)

pub returns-then-not-has_handles : goal.returns-then-not-has_handles
returns-then-not-has_handles c = search (rules, choose_none)

pub returns : goal.returns
returns c = search (rules, chooses)
