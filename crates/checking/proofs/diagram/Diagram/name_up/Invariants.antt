-- `name_up` meets its contract: each turn finds the fields named at or below one entry.
use mathlib.Core.Path.{◌≡◌}
use Rattle.checking.specs.FieldSets.{field_sets}
use Rattle.checking.proofs.diagram.Diagram.name_up.Given as goal

abbrev pub invariant-loop-i : goal.invariant-loop-i
invariant-loop-i l = l.sets ≡ field_sets l.self.table.words.now l.i
