use borrow.Author.Rules.{rules}
use Rattle.walking.proofs.FollowWays.{follow_leaf, can_decide, follow_open, follow_yes, follow_no}
use Rattle.walking.proofs.handles.handle_value.Goals as goal

pub decision_of-requires : goal.decision_of-requires
decision_of-requires c = search (rules, can_decide)

pub loop-h-preserved-in-Always : goal.loop-h-preserved-in-Always
loop-h-preserved-in-Always c = search (rules, follow_yes)

pub loop-h-preserved : goal.loop-h-preserved
loop-h-preserved c = search (rules, follow_no)

pub returns-in-Open : goal.returns-in-Open
returns-in-Open c = search (rules, follow_open)

pub returns : goal.returns
returns c = search (rules, follow_leaf)
