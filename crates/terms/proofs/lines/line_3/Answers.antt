-- `line_3` meets its contract: where the tests fail both ways round, line 3 does not apply.
use native.Mathlib.Omega.{arith}
use Rattle.terms.proofs.LineTests.{line_3_only}
use Rattle.terms.proofs.lines.line_3.Goals as goal

pub returns : goal.returns
returns c = λ h b. omega (arith, line_3_only b.0 b.1, c.else-e-gt0.either, c.else-e-gt0-2.either)
