use native.Mathlib.Omega.{arith}
use borrow.Author.Rules.{rules}
use Rattle.facts.proofs.LeastWays.{none_fixed, can_fix, fixed_next, all_fixed}
use Rattle.facts.proofs.least.least_sheet.Goals as goal

pub loop-i-init : goal.loop-i-init
loop-i-init c = search (rules, none_fixed)

pub fix_field-requires : goal.fix_field-requires
fix_field-requires c = search (rules, can_fix)

pub loop-i-preserved : goal.loop-i-preserved
loop-i-preserved c = search (rules, fixed_next)

pub returns-2 : goal.returns-2
returns-2 c = all_fixed c.requires (fixed_next c.requires c.loop-i.invariant (omega arith) c.fix_field.ensures) (omega arith) (omega arith)
