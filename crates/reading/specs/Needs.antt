-- What the code relies on, and no claim.
use Rattle.std.specs.Prelude.{ℕ, ◌+◌, ◌≤◌, ◌<◌, ◌≡◌, true, List, length}
use Rattle.facts.specs.declared.record.Facts.{Facts}
use Rattle.facts.specs.Record.{state, Holds}
use Rattle.facts.specs.State.{state_of}
use Rattle.reading.specs.Blanks.{facts_up_to}
use Rattle.reading.specs.Sheet.{sheet_counts}
use Rattle.store.specs.Layout.{field_count, used, leaves}
use Rattle.store.specs.Sound.{sound}
use Rattle.terms.specs.declared.limits.Limits.{Limits}
use Rattle.terms.specs.declared.term.Equation.{Equation}
use Rattle.terms.specs.declared.term.Field.{Field}
use Rattle.terms.specs.declared.term.Term.{Term}
use Rattle.terms.specs.Limits.{most_count}
use Rattle.terms.specs.Meaning.{count}
use Rattle.terms.specs.Needs.{FitLimits}

-- ---- the facts of a sheet
-- the record holds the facts of a sheet's first k fields
pub record HoldsCounts (sheet : List ℕ) (k : ℕ) (f : Facts) : Type 0 where
  pub is : state f ≡ state_of (facts_up_to sheet k)
  pub holds : Holds 0 most_count f

-- ---- the way of a sheet
-- r is the field's count
pub record Counted (sheet : List ℕ) (f : Field) (r : ℕ) : Type 0 where
  pub is : r ≡ count (sheet_counts sheet) f
  pub low : r ≤ most_count

-- the sheet has the term's field, and the steps can be added
pub record CanValue (sheet : List ℕ) (t : Term) : Type 0 where
  pub field_in : t.field.0 ≤ length sheet
  pub steps_few : t.steps.0 ≤ most_count

pub record CanAsk (sheet : List ℕ) (q : Equation) : Type 0 where
  pub left : CanValue sheet q.left
  pub right : CanValue sheet q.right

-- the store is sound within some limits, the handle is one of its own, and the sheet is as long as it has fields
pub record Readable (s : List ℕ) (handle : ℕ) (sheet : List ℕ) : Type 0 where
  pub limits : Limits
  pub fit : FitLimits limits
  pub sound_in : sound limits s ≡ true
  pub handle_in : handle < used s + leaves
  pub length_is : length sheet ≡ field_count s
