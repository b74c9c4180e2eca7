use native.Mathlib.Omega.{arith}
use borrow.Author.Rules.{rules}
use Rattle.reading.proofs.CountWays.{counted_none, blank_passed, can_add, count_added}
use Rattle.reading.proofs.counting.facts_of.Goals as goal
use Rattle.reading.proofs.counting.facts_of.Goals.{then-count, else-count}

pub loop-k-init : goal.loop-k-init
loop-k-init c = search (rules, counted_none)

pub add-requires : goal.add-requires
add-requires c = can_add c.requires c.loop-k-test.true c.loop-k.invariant c.if-count.true (omega (arith, c.type_inv.count)) (search rules)

pub loop-k-preserved : goal.loop-k-preserved
loop-k-preserved c = elim c.if-count.branch [
  | then-count w ↦ rw w.f-is (count_added c.requires c.loop-k-test.true c.loop-k.invariant w.if-count.true (omega (arith, c.type_inv.sheet c.loop-k.k)) (rw w.from.ensures at w.has_count-question.ensures) w.add.ensures)
  | else-count w ↦ rw w.f-is (blank_passed c.requires c.loop-k-test.true c.loop-k.invariant w.if-count.false)
]
