-- What an answer of example says, whatever the handle and the lent slice.
use Rattle.std.specs.Prelude.{ℕ, ◌+◌, ◌*◌, ◌≤◌, ◌<◌, ◌≡◌, ◌↔◌, true, false, List, length, get_or, Ok, Err}
use Rattle.examples.specs.declared.answer.ExampleFault.TheVariants.{Nothing}
use Rattle.examples.specs.Example.{Example}
use Rattle.examples.specs.LargestGap.{list_gap}
use Rattle.reading.specs.Sheet.{sheet_counts}
use Rattle.store.specs.Layout.{field_count, is_handle}
use Rattle.store.specs.Meaning.{meaning}
use Rattle.store.specs.Outcome.{Outcome}
use Rattle.terms.specs.Meaning.{Valuation}
use Rattle.terms.specs.Order.{lex}

-- the counts written
pub record FirstExample (s : List ℕ) (handle : ℕ) (sheet : List ℕ) : Type 0 where
  pub has_handle : is_handle s handle ≡ true
  pub right_length : length sheet ≡ field_count s
  -- they satisfy the handle; that reading them answers 1 is a theorem of its own, since a count of 65,535 would be read as a blank
  pub satisfies : meaning s handle (sheet_counts sheet) ≡ true
  -- "the least satisfying sheet, field 1 compared first": every sheet of n natural counts that comes before fails the handle
  pub first : (other : List ℕ) → length other ≡ field_count s → lex other sheet ≡ true → meaning s handle (sheet_counts other) ≡ false
  -- "No count exceeds n × (K + 1)"
  pub within : (i : ℕ) → i < field_count s → get_or sheet i 0 ≤ field_count s * (list_gap s + 1)

-- 52 is not given before 41 and 23: of a handle of the store's, and a slice of n words
pub record NothingFits (s : List ℕ) (handle : ℕ) (out : List ℕ) : Type 0 where
  pub has_handle : is_handle s handle ≡ true
  pub right_length : length out ≡ field_count s
  -- "a rule that nothing satisfies"
  pub nothing : (v : Valuation) → meaning s handle v ≡ false

pub record ExampleAnswers (s : List ℕ) (handle : ℕ) (out : List ℕ) (o : Outcome Example) : Type 0 where
  pub written : o.answer ≡ Ok tt → FirstExample s handle o.words
  pub none : (o.answer ≡ Err Nothing) ↔ NothingFits s handle out
