-- Smaller and larger limits.
use Rattle.std.specs.Prelude.{◌≤◌}
use Rattle.terms.specs.declared.limits.Limits.{Limits}

-- each limit of the one is at most that of the other
pub record Smaller (limits larger : Limits) : Type 0 where
  pub fields_in : limits.terms.field.0 ≤ larger.terms.field.0
  pub steps_in : limits.terms.steps.0 ≤ larger.terms.steps.0
  pub questions_in : limits.questions ≤ larger.questions
  pub entries_in : limits.entries ≤ larger.entries
