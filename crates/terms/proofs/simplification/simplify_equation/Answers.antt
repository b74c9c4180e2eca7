use Rattle.terms.proofs.AnyOrder.{any_order}
use Rattle.terms.proofs.CaseEnds.{case_falls}
use Rattle.terms.proofs.Sequences.{one_more}
use Rattle.terms.proofs.simplification.simplify_equation.Goals as goal

pub loop-next-smaller : goal.loop-next-smaller
loop-next-smaller c = case_falls c.in-Some.ensures

pub loop-next-preserved : goal.loop-next-preserved
loop-next-preserved c = one_more c.loop-next.invariant c.in-Some.ensures

pub returns : goal.returns
returns c = any_order c.args.e c.loop-next.invariant c.in_default.ensures
