-- `is_before` meets its contract: it compares two lists of one length.
use mathlib.Core.Path.{◌∙◌, sym, ap, ap₂}
use lib.ListN.{length}
use Rattle.terms.specs.Order.{lex}
use Rattle.terms.proofs.ListsCompared.{lex_is}
use Rattle.examples.proofs.Sheets.{counts_length}
use Rattle.examples.proofs.best.is_before.Goals as goal

pub returns : goal.returns
returns c =
    let a = c.counts.ensures in
    let b = c.counts-2.ensures in
    c.lt.ensures ∙ lex_is _ _ (ap length a ∙ counts_length c.args.n 1 _ ∙ sym (ap length b ∙ counts_length c.args.n 1 _)) ∙ ap₂ lex a b
