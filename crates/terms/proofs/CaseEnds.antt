-- Repeating the cases ends, however they are picked: a number falls with each.
use Prim.Native.Nat.{◌≤◌, ◌<◌}
use lib.ListN.{length}
use mathlib.Core.Path.{◌≡◌}
use mathlib.Core.Bool.{Bool, true, false, cond}
use native.Mathlib.Omega.{arith}
use Rattle.terms.specs.declared.term.Term.{Term}
use Rattle.terms.specs.declared.simplification.Guard.{Guard}
use Rattle.terms.specs.Lines.{is_before, as_written, turned_round, Case, line_1, line_2, line_3, line_4, line_5, Sequence, nothing, first, line_numbers, most_cases}
use Rattle.terms.proofs.TermOrder.{not_after}

at_most_one : (b : Bool) → cond b 1 0 ≤ 1
at_most_one true = omega arith
at_most_one false = omega arith

turning_falls : (r t : Term) → is_before r t ≡ true → cond (is_before t r) 1 0 < cond (is_before r t) 1 0
turning_falls r t b = rw (b, not_after r t b) (omega arith)

-- The number falls with each case,
pub case_falls : {g h : Guard} → Case g h → most_cases h < most_cases g
unfolding most_cases
case_falls (line_1 x) = omega arith
case_falls (line_2 y x) = omega (arith, at_most_one (is_before y x))
case_falls (line_3 x as_written) = omega arith
case_falls (line_3 x turned_round) = omega arith
case_falls (line_4 x m as_written) = omega arith
case_falls (line_4 x m turned_round) = omega arith
case_falls (line_5 r t b) = omega (arith, turning_falls r t b)

-- so no sequence of cases is longer than the number of the guard that it begins with.
pub sequence_ends : {g h : Guard} (s : Sequence g h) → length (line_numbers s) ≤ most_cases g
unfolding line_numbers
sequence_ends (nothing g) = omega arith
sequence_ends (first h c s) = omega (arith, case_falls c, sequence_ends s)
