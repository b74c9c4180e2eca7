-- `line_2` meets its contract: where a side has no steps, line 2 does not apply.
use native.Mathlib.Omega.{arith}
use Rattle.terms.proofs.LineTests.{line_2_only}
use Rattle.terms.proofs.lines.line_2.Goals as goal

pub returns : goal.returns
returns c = λ h b. omega (arith, line_2_only b.0 b.1, c.else-e-gt0.either)
