-- A difference of two natural numbers up to a bound is a signed number within it.
use Prim.Native.Nat.{ℕ, zero, suc, ◌-◌, ◌≤◌}
use mathlib.Core.Bool.{cond}
use native.Mathlib.Omega.{arith}
use lib.IntN.{pos, negsuc, nat_abs, ◌-ℤ◌}
use Rattle.terms.proofs.Cases.{by_lt}

pub difference_abs : (n a b : ℕ) → a ≤ n → b ≤ n → nat_abs (pos a -ℤ pos b) ≤ n
difference_abs n a zero h k = omega arith
difference_abs n a (suc b) h k =
    by_lt (λ t. nat_abs (cond t (negsuc (suc b - suc a)) (pos (a - suc b))) ≤ n) a (suc b) (λ l. omega arith) (λ l. omega arith)
