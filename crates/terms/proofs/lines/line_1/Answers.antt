-- `line_1` meets its contract: where one of its tests fails, line 1 does not apply.
use native.Mathlib.Omega.{arith}
use Rattle.terms.proofs.LineTests.{line_1_only}
use Rattle.terms.proofs.lines.line_1.Goals as goal

pub returns : goal.returns
returns c = λ h b. omega (arith, line_1_only b.0 b.1, c.else-e.either)
