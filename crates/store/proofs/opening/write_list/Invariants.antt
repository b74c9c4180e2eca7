-- `write_list` meets its contract: after i turns the first i words of the list stand behind the heading.
use mathlib.Core.Path.{◌≡◌}
use lib.ListN.{length}
use lib.Seq.{paste}
use Rattle.store.specs.Layout.{heading_length}
use Rattle.store.proofs.opening.write_list.Given as goal

abbrev pub invariant-loop-i : goal.invariant-loop-i
invariant-loop-i l = (length l.store ≡ length l.initial.store) × (l.store ≡ paste l.initial.store heading_length l.list l.i)
