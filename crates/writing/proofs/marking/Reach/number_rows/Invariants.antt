-- `number_rows` meets its contract: each turn gives one handle its row and counts it if it is marked.
use mathlib.Core.Path.{◌≡◌}
use Rattle.writing.proofs.MarkWays.{Numbering}
use Rattle.writing.proofs.marking.Reach.number_rows.Given as goal

abbrev pub invariant-loop-h : goal.invariant-loop-h
invariant-loop-h l = (l.self.marks ≡ l.initial.self.marks) × Numbering l.self.marks l.handle l.self.rows l.count l.h
