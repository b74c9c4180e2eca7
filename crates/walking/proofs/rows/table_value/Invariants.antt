-- `table_value` meets its contract: each turn says what the next row is, and the last row is the rule.
use Rattle.walking.proofs.RowValues.{SaidRows}
use Rattle.walking.proofs.rows.table_value.Given as goal

abbrev pub invariant-loop-i : goal.invariant-loop-i
invariant-loop-i l = SaidRows l.table l.f l.values l.i
