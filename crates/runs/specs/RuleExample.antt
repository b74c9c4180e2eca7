-- What example answers about a rule: the first sheet that satisfies it, or that nothing does.
use Rattle.std.specs.Prelude.{ℕ, ◌≡◌, ◌⊎◌, true, false, List, length, Ok, Err}
use Rattle.examples.specs.Example.{Example}
use Rattle.examples.specs.declared.answer.ExampleFault.TheVariants.{Nothing}
use Rattle.operations.specs.Handles.{Rule}
use Rattle.reading.specs.Sheet.{sheet_counts}
use Rattle.store.specs.Outcome.{Outcome}
use Rattle.terms.specs.Meaning.{Valuation}
use Rattle.terms.specs.Order.{lex}

-- "the least satisfying sheet, field 1 compared first": every sheet of n natural counts that comes before fails the rule
pub record FirstSheet (n : ℕ) (rule : Rule) (sheet : List ℕ) : Type 0 where
  pub right_length : length sheet ≡ n
  pub satisfies : rule (sheet_counts sheet) ≡ true
  pub first : (other : List ℕ) → length other ≡ n → lex other sheet ≡ true → rule (sheet_counts other) ≡ false

-- "52, example of a rule that nothing satisfies"
abbrev pub RuleExample : ℕ → Rule → Outcome Example → Type 0
RuleExample n rule o =
    ((o.answer ≡ Ok tt) × FirstSheet n rule o.words) ⊎ ((o.answer ≡ Err Nothing) × ((v : Valuation) → rule v ≡ false))
