-- `line_4` meets its contract: where the tests fail both ways round, line 4 does not apply.
use native.Mathlib.Omega.{arith}
use Rattle.terms.proofs.LineTests.{line_4_turned, line_4_only}
use Rattle.terms.proofs.lines.line_4.Goals as goal

pub returns-then-e-eq0-2 : goal.returns-then-e-eq0-2
returns-then-e-eq0-2 c = line_4_turned c.args.e c.if-e-gt0-2.true c.if-e-2.true c.if-e-eq0-2.true

pub returns : goal.returns
returns c = λ h b. omega (arith, line_4_only b.0 b.1, c.else-e-gt0.either, c.else-e-gt0-2.either)
