-- `part_is_zero` meets its contract: the words are gone through by `fold`.
use Rattle.std.proofs.Common.{rules, ◌∙◌, ◌&&◌, true}
use Rattle.std.proofs.lemmas.Iterator.{YieldsList-from_slice}
use Rattle.std.proofs.lemmas.Iterator.Consumers.{fold_from_yields_List}
use borrow.Author.Tests.{tests}
use lib.Dec.{eqb}
use Rattle.soundness.proofs.ZeroParts.{zeros}
use Rattle.soundness.proofs.zeros.part_is_zero.Goals as goal

pub returns : goal.returns
returns c =
    fold_from_yields_List _ (λ z w. z && eqb w 0) true _ c.fold.ensures.ran (YieldsList-from_slice c.args.part.now c.iter.ensures.rest) (λ a x b q k. search (rules, tests)) ∙ zeros c.args.part.now
