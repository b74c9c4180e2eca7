use native.Mathlib.Omega.{arith}
use Rattle.examples.proofs.SheetWritten.{written_all}
use Rattle.examples.proofs.giving.write_sheet.Goals as goal

pub returns : goal.returns
returns c = written_all c.loop-i.invariant (omega (arith, c.loop-i.invariant.size))
