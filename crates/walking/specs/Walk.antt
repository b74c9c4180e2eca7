-- The walk on a store's words: a value that is known is a leaf, a forced question is skipped, and an open one is asked, the yes part before
-- the no part.
use Rattle.std.specs.Prelude.{ℕ, zero, suc, ◌+◌, cond, List, eqb, Option, Some}
use Rattle.diagram.specs.Insert.{place_entry, then_place}
use Rattle.facts.specs.declared.decision.Decision.TheVariants.{Always, Never, Open}
use Rattle.facts.specs.State.{State, no_to, yes_to, decide}
use Rattle.store.specs.declared.entries.Entry.{Entry}
use Rattle.store.specs.Layout.{question, entry_of}
use Rattle.store.specs.Outcome.{Outcome, outcome}
use Rattle.terms.specs.declared.limits.Limits.{Limits}
use Rattle.walking.specs.declared.subject.Subject.{Subject}
use Rattle.walking.specs.Value.{subject_value}

-- "If both parts are the same diagram, that diagram stands and no entry is made."
unfoldable pub place_parts : Limits → List ℕ → Entry → Outcome (Option ℕ)
place_parts limits s e = cond (eqb e.yes e.no) (outcome (Some e.yes) s) (place_entry limits s e)

-- with so many questions left, the next one numbered k
unfoldable pub walk : Limits → List ℕ → Subject → ℕ → ℕ → State → Outcome (Option ℕ)
walk limits s subject zero k st =
    elim (subject_value s subject st) [ Always ↦ outcome (Some 1) s | Never ↦ outcome (Some 0) s | Open ↦ outcome (Some 0) s ]
walk limits s subject (suc left) k st =
    elim (subject_value s subject st) [
      | Always ↦ outcome (Some 1) s
      | Never ↦ outcome (Some 0) s
      | Open ↦ elim (decide st (question s k)) [
        | Always ↦ walk limits s subject left (k + 1) st
        | Never ↦ walk limits s subject left (k + 1) st
        | Open ↦ then_place (walk limits s subject left (k + 1) (yes_to st (question s k)))
            (λ y s₁. then_place (walk limits s₁ subject left (k + 1) (no_to st (question s k))) (λ n s₂. place_parts limits s₂ (entry_of k y n)))
      ]
    ]
