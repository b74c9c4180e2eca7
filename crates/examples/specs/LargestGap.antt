-- "K the largest gap in the list without its sign, 0 for an empty list."
use Rattle.std.specs.Prelude.{ℕ, zero, suc, max, ◌≤◌, ◌≡◌, ◌⊎◌, List, nat_abs}
use Rattle.store.specs.Layout.{question_count, question}
use Rattle.terms.specs.Simplify.{gap}

-- a question's gap without its sign
abbrev pub gap_size : List ℕ → ℕ → ℕ
gap_size s j = nat_abs (gap (question s j))

-- of the first k questions
unfoldable pub largest_gap : List ℕ → ℕ → ℕ
largest_gap s zero = 0
largest_gap s (suc k) = max (gap_size s (suc k)) (largest_gap s k)

-- K of a store's list
abbrev pub list_gap : List ℕ → ℕ
list_gap s = largest_gap s (question_count s)

-- What the sentence says of a number: no gap of the first k questions is larger, and one of them has it, or there are none and it is 0.
pub record IsLargestGap (s : List ℕ) (k largest : ℕ) : Type 0 where
  pub none_larger : (j : ℕ) → 1 ≤ j → j ≤ k → gap_size s j ≤ largest
  pub attained : ((j : ℕ) × (1 ≤ j) × (j ≤ k) × (gap_size s j ≡ largest)) ⊎ ((k ≡ 0) × (largest ≡ 0))
