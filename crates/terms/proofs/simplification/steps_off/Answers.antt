use mathlib.Core.Path.{◌≡◌, subst}
use Rattle.terms.specs.declared.term.Equation.{Equation}
use Rattle.terms.specs.declared.simplification.Guard.{Guard}
use Rattle.terms.specs.declared.simplification.Guard.TheVariants.{Question}
use Rattle.terms.specs.Lines.{Repeated, nothing}
use Rattle.terms.proofs.CaseEnds.{case_falls}
use Rattle.terms.proofs.Sequences.{once_more}
use Rattle.terms.proofs.simplification.steps_off.Goals as goal

so_far : {e : Equation} {g h : Guard} → g ≡ h → Repeated 2 (Question e) g → Repeated 2 (Question e) h
so_far {e} i r = subst (Repeated 2 (Question e)) i r

pub loop-guard-init : goal.loop-guard-init
loop-guard-init c = (nothing (Question c.args.e), tt)

pub loop-guard-smaller : goal.loop-guard-smaller
loop-guard-smaller c = rw c.in-Question.is (case_falls c.in-Some.ensures.0)

pub loop-guard-preserved : goal.loop-guard-preserved
loop-guard-preserved c = once_more 2 (so_far c.in-Question.is c.loop-guard.invariant) c.in-Some.ensures

pub returns-in-None : goal.returns-in-None
returns-in-None c = (so_far c.in-Question.is c.loop-guard.invariant, c.in-None.ensures)
