-- `yes` meets its contract: each answer to the question says what working a yes in gives.
use Rattle.facts.proofs.DecideWays.{yes_of_always, yes_of_never, yes_of_open}
use Rattle.facts.proofs.asking.yes.Goals as goal

pub returns-in-Always : goal.returns-in-Always
returns-in-Always c = yes_of_always _ _ c.requires.fitted c.in-Always.ensures

pub returns-in-Never : goal.returns-in-Never
returns-in-Never c = yes_of_never _ _ c.requires.fitted c.in-Never.ensures

pub returns-in-Open : goal.returns-in-Open
returns-in-Open c = yes_of_open _ _ c.requires.fitted c.in-Open.ensures
