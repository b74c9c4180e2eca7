-- `line_5` meets its contract: where the left term is not before the right one, line 5 does not apply.
use mathlib.Core.Path.{◌∙◌}
use mathlib.Core.Bool.{false≢true}
use Rattle.terms.proofs.LineTests.{line_5_only}
use Rattle.terms.proofs.lines.line_5.Goals as goal

pub returns : goal.returns
returns c = λ h b. false≢true (c.if-is_before.ensures ∙ line_5_only b.0 b.1)
