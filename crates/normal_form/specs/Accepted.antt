-- What the theorems speak of: tables that pass the first five conditions, and tables that are accepted.
use Rattle.std.specs.Prelude.{ℕ, ◌≡◌, true, ◌≢◌, List, Err}
use Rattle.store.specs.Sound.{all_below}
use Rattle.normal_form.specs.declared.answer.CheckFault.{CheckFault}
use Rattle.normal_form.specs.Check.{shape_kept, terms_kept, handles_lower, entries_differ, all_reachable, check}
use Rattle.normal_form.specs.Limits.{table_limits}
use Rattle.normal_form.specs.Table.{entry_count, entry}

-- none of 81 to 85 is met
pub record Passes81To85 (t : List ℕ) (root : ℕ) : Type 0 where
  pub passes_81 : shape_kept table_limits t root ≡ true
  pub passes_82 : all_below (entry_count t) (λ i. terms_kept table_limits (entry t i)) ≡ true
  pub passes_83 : all_below (entry_count t) (λ i. handles_lower (entry t i) i) ≡ true
  pub passes_84 : entries_differ t (entry_count t) ≡ true
  pub passes_85 : all_reachable table_limits t root ≡ true

-- the check refuses with no number
abbrev pub Accepted : List ℕ → ℕ → Type 0
Accepted t root = (f : CheckFault) → check table_limits t root ≢ Err f
