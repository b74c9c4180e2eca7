-- The largest gap of the first questions is found question by question: the larger of the last one's and of those before.
use Prim.Native.Nat.{ℕ, zero, suc, ◌≤◌}
use mathlib.Core.Path.{◌≡◌, refl, ap}
use mathlib.Core.Logic.{◌⊎◌, inl, inr}
use mathlib.Core.List.{List}
use native.Mathlib.Omega.{arith}
use native.Mathlib.Decide.{ℕ_discrete, dec_le}
use Rattle.examples.specs.LargestGap.{gap_size, largest_gap, IsLargestGap}

gap_below : (s : List ℕ) (k j : ℕ) → 1 ≤ j → j ≤ k → gap_size s j ≤ largest_gap s k
unfolding largest_gap
gap_below s zero j h l = absurd (omega arith)
gap_below s (suc k) j h l = elim (ℕ_discrete j (suc k)) [
  | yes e ↦ omega (arith, ap (gap_size s) e)
  | no d ↦ omega (arith, gap_below s k j h (omega arith))
]

gap_attained : (s : List ℕ) (k : ℕ) → ((j : ℕ) × (1 ≤ j) × (j ≤ k) × (gap_size s j ≡ largest_gap s k)) ⊎ ((k ≡ 0) × (largest_gap s k ≡ 0))
unfolding largest_gap
gap_attained s zero = inr (refl, refl)
gap_attained s (suc k) = elim (dec_le (largest_gap s k) (gap_size s (suc k))) [
  | yes h ↦ inl (suc k, omega arith, omega arith, omega arith)
  | no h ↦ elim (gap_attained s k) [
    | inl a ↦ inl (a.0, a.1, omega (arith, a.2), omega (arith, a.3))
    | inr b ↦ absurd (omega (arith, b.1))
  ]
]

pub largest_gap_is : (s : List ℕ) (k : ℕ) → IsLargestGap s k (largest_gap s k)
largest_gap_is s k = record { none_larger = gap_below s k; attained = gap_attained s k }
