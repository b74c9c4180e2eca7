-- `join_within` meets its contract: a and b is if a then b else never.
use borrow.Author.Rules.{rules}
use Rattle.building.proofs.CallWays.{is_joined}
use Rattle.building.proofs.calls.join_within.Goals as goal

pub returns : goal.returns
returns c = search (rules, is_joined)
