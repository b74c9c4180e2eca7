-- `all_reachable` meets its contract: the flags of the entries' handles are read one by one.
use Rattle.std.proofs.Common.{rules}
use borrow.Author.Tests.{tests}
use Rattle.normal_form.specs.Check.{all_reachable}
use Rattle.store.proofs.Ranges.{all_tested}
use Rattle.checking.proofs.diagram.Diagram.all_reachable.Goals as goal

pub returns : goal.returns
unfolding all_reachable
returns c = all_tested _ _ c.all.ensures.ran (λ i. record { start = 0; end = c.count.ensures i }) (λ x b q k. search (rules, tests))
