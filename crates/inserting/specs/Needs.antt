-- What the code relies on, and no claim.
use Rattle.std.specs.Prelude.{ℕ, ◌+◌, ◌*◌, ◌≡◌, true, List, Option}
use Rattle.facts.specs.State.{start}
use Rattle.inserting.specs.Given.{Given}
use Rattle.store.specs.Layout.{question_count, entries_start, with_used, cleared_from}
use Rattle.store.specs.Outcome.{Outcome}
use Rattle.store.specs.Sound.{sound}
use Rattle.terms.specs.declared.limits.Limits.{Limits}
use Rattle.terms.specs.Needs.{FitLimits}
use Rattle.walking.specs.declared.subject.Subject.{Subject}
use Rattle.walking.specs.Needs.{Named}
use Rattle.walking.specs.Walk.{walk}

-- over all questions, with no facts
abbrev pub whole_walk : Limits → List ℕ → Subject → Outcome (Option ℕ)
whole_walk limits s subject = walk limits s subject (question_count s) 1 start

-- so many entries used again, and zeros after them
abbrev pub restored : List ℕ → ℕ → List ℕ
restored s entries = cleared_from (with_used s entries) (entries_start s + 3 * entries)

-- a walk over the words of a sound store
pub record CanWalkAll (limits : Limits) (s : List ℕ) (subject : Subject) : Type 0 where
  pub fit : FitLimits limits
  pub is_sound : sound limits s ≡ true
  pub named : Named s subject

-- a subject whose diagram can be added to a sound store
pub record CanAdd (limits : Limits) (s : List ℕ) (subject : Subject) : Type 0 where
  pub fit : FitLimits limits
  pub is_sound : sound limits s ≡ true
  pub given : Given limits s subject
