-- `are_sound` meets its contract: the entries are tested one by one.
use Rattle.std.proofs.Common.{rules}
use borrow.Author.Tests.{tests}
use Rattle.store.proofs.Ranges.{all_tested}
use Rattle.soundness.proofs.entries.Entries.are_sound.Goals as goal

pub returns : goal.returns
returns c = all_tested _ _ c.all.ensures.ran (λ i. record { start = 0; end = c.args.self.count }) (λ x b q k. search (rules, tests))
