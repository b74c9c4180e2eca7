use Rattle.std.proofs.Common.{arith}
use Rattle.normal_form.specs.Reachable.{reachable}
use Rattle.checking.proofs.diagram.Diagram.mark_down.Goals as goal

pub loop-i-init : goal.loop-i-init
unfolding reachable
loop-i-init c = (omega (arith, c.count-i.ensures), rw (c.count-i.ensures, c.wide.ensures, c.requires))
