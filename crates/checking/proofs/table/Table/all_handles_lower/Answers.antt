-- `all_handles_lower` meets its contract: the entries are tested one by one.
use Rattle.std.proofs.Common.{rules}
use borrow.Author.Tests.{tests}
use Rattle.store.proofs.Ranges.{all_tested}
use Rattle.checking.proofs.table.Table.all_handles_lower.Goals as goal

pub returns : goal.returns
returns c = all_tested _ _ c.all.ensures.ran (λ i. record { start = 0; end = c.count.ensures i }) (λ x b q k. search (rules, tests))
