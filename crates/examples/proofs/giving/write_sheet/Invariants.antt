-- `write_sheet` meets its contract: each turn writes one more place, and no count is above 16 bits.
use lib.ListN.{get_or}
use Rattle.examples.proofs.SheetWritten.{WrittenTo}
use Rattle.examples.proofs.giving.write_sheet.Given as goal

abbrev pub invariant-loop-i : goal.invariant-loop-i
invariant-loop-i l = WrittenTo (λ j. get_or l.sheet.counts j 0) l.initial.out l.i l.out
