-- What the code relies on, and no claim.
use Rattle.std.specs.Prelude.{ℕ, ◌+◌, ◌*◌, ◌≤◌, ◌<◌, ◌≡◌, Bool, true, false, not, List, length, get_or, Option, Some, None}
use Rattle.examples.specs.Best.{counts_from, sheet, Best}
use Rattle.facts.specs.declared.least.Sheet.{Sheet}
use Rattle.facts.specs.declared.record.Facts.{Facts}
use Rattle.facts.specs.Least.{least_sheet}
use Rattle.facts.specs.Record.{last_field}
use Rattle.facts.specs.State.{State}
use Rattle.store.specs.Layout.{field_count, used, leaves}
use Rattle.store.specs.Sound.{sound}
use Rattle.terms.specs.declared.limits.Limits.{Limits}
use Rattle.terms.specs.Limits.{most_count}
use Rattle.terms.specs.Needs.{FitLimits}
use Rattle.terms.specs.Order.{lex}
use Rattle.verdicts.specs.Needs.{CanDescend}

-- no sheet that fits the facts is before the best so far
abbrev pub beaten : ℕ → State → Best → Bool
beaten n st None = false
beaten n st (Some y) = not (lex (sheet n (least_sheet n st)) y)

-- ---- the code's sheets
abbrev pub sheet_of : ℕ → Sheet → List ℕ
sheet_of n s = counts_from n 1 (λ i. get_or s.counts i 0)

abbrev pub best_of : ℕ → Option Sheet → Best
best_of n (Some x) = Some (sheet_of n x)
best_of n None = None

pub record Fields (n : ℕ) : Type 0 where
  pub few : n ≤ last_field

-- a way down from a handle with facts of so few steps that no count of a least sheet is too large
pub record CanSeek (s : List ℕ) (handle : ℕ) (f : Facts) (n : ℕ) : Type 0 where
  pub most : ℕ
  pub few_steps : last_field * (most + 1) ≤ most_count
  pub descent : CanDescend most s handle f
  pub few_fields : n ≤ last_field

-- the slice has a field of the sheet for each of its places, and the counts fit 16 bits
pub record CanWriteSheet (s : Sheet) (out : List ℕ) : Type 0 where
  pub few : length out ≤ last_field
  pub small : (i : ℕ) → 1 ≤ i → i ≤ length out → get_or s.counts i 0 ≤ most_count

-- a handle of a store that is sound within some limits, and a place for each field
pub record CanGive (s : List ℕ) (handle : ℕ) (out : List ℕ) : Type 0 where
  pub limits : Limits
  pub fit : FitLimits limits
  pub sound_in : sound limits s ≡ true
  pub handle_in : handle < used s + leaves
  pub length_is : length out ≡ field_count s
