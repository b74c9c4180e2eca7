-- What a call leaves in the words that were lent to it to be written, beside its answer.
use Rattle.std.specs.Prelude.{ℕ, List}

pub record Outcome (A : Type 0) : Type 0 where
  pub answer : A
  pub words : List ℕ

abbrev pub outcome : {A : Type 0} → A → List ℕ → Outcome A
outcome a w = record { answer = a; words = w }
