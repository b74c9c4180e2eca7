-- A store's list has as many questions as it says.
use Prim.Native.Nat.{ℕ, zero, suc, ◌+◌}
use mathlib.Core.Path.{◌≡◌, refl, ap}
use mathlib.Core.List.{List}
use lib.ListN.{length}
use Rattle.diagram.specs.Questions.{questions_from}

pub questions_length : (s : List ℕ) (left k : ℕ) → length (questions_from s left k) ≡ left
unfolding questions_from
questions_length s zero k = refl
questions_length s (suc left) k = ap suc (questions_length s left (k + 1))
