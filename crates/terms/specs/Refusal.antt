-- "Number 0 is success.", and a refusal has its own number.
use Rattle.std.specs.Prelude.{ℕ, Result, Ok, Err}

-- the number of an answer, by the numbers of the refusals
abbrev pub answer_number : {T F : Type 0} → (F → ℕ) → Result T F → ℕ
answer_number number_of (Ok given) = 0
answer_number number_of (Err fault) = number_of fault
