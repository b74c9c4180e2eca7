-- `mark_down` meets its contract: what is left of the pass over the flags gives what the whole pass gives.
use Prim.Native.Nat.{◌≤◌}
use mathlib.Core.Path.{◌≡◌}
use Rattle.normal_form.specs.Limits.{table_limits}
use Rattle.normal_form.specs.Reachable.{marks_down, reachable}
use Rattle.normal_form.specs.Table.{entry_count}
use Rattle.checking.proofs.diagram.Diagram.mark_down.Given as goal

abbrev pub invariant-loop-i : goal.invariant-loop-i
invariant-loop-i l = (l.i ≤ entry_count l.self.table.words.now) × (marks_down l.self.table.words.now l.i l.marks ≡ reachable table_limits l.self.table.words.now l.self.table.root)
