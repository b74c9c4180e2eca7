-- What the code relies on, and no claim.
use Rattle.std.specs.Prelude.{◌+◌, ◌*◌, ◌≤◌, ◌<◌, ◌^◌}
use Rattle.terms.specs.declared.simplification.Guard.{Guard}
use Rattle.terms.specs.declared.simplification.Guard.TheVariants as guard
use Rattle.terms.specs.declared.limits.Limits.{Limits}
use Rattle.terms.specs.Limits.{most_fields, most_questions, most_entries, most_count}
use Rattle.terms.specs.Words.{word_of}

-- Limits that the arrays and the widths of numbers have room for: there is a place for each field, each question answered no and each entry, and no count of a least sheet is too large for 16 bits.
pub record FitLimits (limits : Limits) : Type 0 where
  pub fields_fit : limits.terms.field.0 ≤ most_fields
  pub questions_fit : limits.questions ≤ most_questions
  pub entries_fit : limits.entries ≤ most_entries
  pub counts_fit : most_fields * (limits.terms.steps.0 + 1) ≤ most_count

-- a question's terms fit 32-bit words, as they do if it comes of two such words
abbrev pub HasWords : Guard → Type 0
HasWords guard.Never = Unit {0}
HasWords guard.Always = Unit {0}
HasWords (guard.Question e) = (word_of e.left < 2 ^ 32) × (word_of e.right < 2 ^ 32)
