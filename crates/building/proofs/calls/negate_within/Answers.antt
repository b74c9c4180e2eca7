-- `negate_within` meets its contract: not a is if a then never else always.
use borrow.Author.Rules.{rules}
use Rattle.building.proofs.CallWays.{is_negated}
use Rattle.building.proofs.calls.negate_within.Goals as goal

pub returns : goal.returns
returns c = search (rules, is_negated)
