-- What the code relies on, and no claim.
use Rattle.std.specs.Prelude.{ℕ, ◌+◌, ◌-◌, ◌≤◌, ◌<◌, ◌≡◌, true, List}
use Rattle.facts.specs.declared.record.Facts.{Facts}
use Rattle.facts.specs.Record.{Holds}
use Rattle.store.specs.Layout.{question_count, used, entry, leaves}
use Rattle.store.specs.Sound.{sound}
use Rattle.terms.specs.declared.limits.Limits.{Limits}
use Rattle.terms.specs.Limits.{most_count}
use Rattle.terms.specs.Needs.{FitLimits}

-- A way down from a handle of a sound store: fewer questions have been answered no than the number of the handle's own question. The facts may have more steps
-- than the list's questions, as those of a sheet's counts do, but no more than `most`.
pub record CanDescend (most : ℕ) (s : List ℕ) (handle : ℕ) (f : Facts) : Type 0 where
  pub limits : Limits
  pub fit : FitLimits limits
  pub sound_in : sound limits s ≡ true
  pub handle_in : handle < used s + leaves
  pub most_no : ℕ
  pub few : most_no ≤ question_count s
  pub list_steps : limits.terms.steps.0 ≤ most
  pub few_steps : most ≤ most_count
  pub holds : Holds most_no most f
  pub asks_later : leaves ≤ handle → most_no < (entry s (handle - leaves)).question
