-- `counts` meets its contract: the part of the array is the sheet as a list.
use Prim.Native.Nat.{◌+◌, ◌-◌}
use mathlib.Core.Path.{◌≡◌}
use native.Mathlib.Omega.{arith}
use Rattle.examples.proofs.Sheets.{counts_part}
use Rattle.examples.proofs.best.counts.Goals as goal

pub returns : goal.returns
returns c =
    let e : c.wide.result + 1 - 1 ≡ c.args.n = omega (arith, c.wide.ensures) in
    rw e (counts_part c.args.n c.args.sheet.now.counts (omega (arith, c.requires.few)))
