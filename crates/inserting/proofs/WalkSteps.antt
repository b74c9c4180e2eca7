-- The steps of the walk, and of the finished diagram beside it: each opens its definition by one value and one decision.
use Prim.Native.Nat.{ℕ, zero, suc, ◌+◌}
use mathlib.Core.Path.{◌≡◌, refl, ap, ◌∙◌}
use mathlib.Core.Bool.{Bool, true}
use mathlib.Core.List.{List, ◌∷◌}
use Rattle.std.proofs.Common.{Some}
use Rattle.diagram.specs.Finish.{parts, finish}
use Rattle.diagram.specs.Insert.{then_place, leaf_handle, insert}
use Rattle.facts.specs.declared.decision.Decision.{Decision}
use Rattle.facts.specs.declared.decision.Decision.TheVariants.{Always, Never, Open}
use Rattle.facts.specs.declared.fact.Fact.{Fact}
use Rattle.facts.specs.Facts.{Fits}
use Rattle.facts.specs.State.{State, free, no_to, yes_to, state_of, decide}
use Rattle.terms.specs.declared.limits.Limits.{Limits}
use Rattle.store.specs.Layout.{question, entry_of}
use Rattle.store.specs.Outcome.{outcome}
use Rattle.terms.specs.declared.term.Equation.{Equation}
use Rattle.terms.specs.Meaning.{Valuation}
use Rattle.walking.specs.declared.subject.Subject.{Subject}
use Rattle.walking.specs.Value.{subject_value}
use Rattle.walking.specs.Walk.{place_parts, walk}
use Rattle.diagram.proofs.FinishTruth.{finish_same, finish_constant}
use Rattle.inserting.proofs.ValueKnown.{Known}

-- ---- the steps of a walk
module _ (limits : Limits) (s : List ℕ) (subject : Subject) where
  pub walk_always : (left k : ℕ) (st : State) → subject_value s subject st ≡ Always
      → walk limits s subject left k st ≡ outcome (Some 1) s
  unfolding walk
  walk_always zero k st e = rw (walk, e) refl
  walk_always (suc left) k st e = rw (walk, e) refl

  pub walk_never : (left k : ℕ) (st : State) → subject_value s subject st ≡ Never
      → walk limits s subject left k st ≡ outcome (Some 0) s
  unfolding walk
  walk_never zero k st e = rw (walk, e) refl
  walk_never (suc left) k st e = rw (walk, e) refl

  pub walk_skips : (left k : ℕ) (st : State) → subject_value s subject st ≡ Open → (d : Decision) → decide st (question s k) ≡ d → Known d
      → walk limits s subject (suc left) k st ≡ walk limits s subject left (k + 1) st
  unfolding walk
  walk_skips left k st e Always f known = rw (walk, e, f) refl
  walk_skips left k st e Never f known = rw (walk, e, f) refl
  walk_skips left k st e Open f known = absurd known

  pub walk_asks : (left k : ℕ) (st : State) → subject_value s subject st ≡ Open → decide st (question s k) ≡ Open
      → walk limits s subject (suc left) k st
      ≡ then_place (walk limits s subject left (k + 1) (yes_to st (question s k)))
      (λ y s₁. then_place (walk limits s₁ subject left (k + 1) (no_to st (question s k))) (λ n s₂. place_parts limits s₂ (entry_of k y n)))
  unfolding walk
  walk_asks left k st e f = rw (walk, e, f) refl

-- ---- the steps of a finished diagram
pub finish_skips : (q : Equation) (qs : List Equation) (k : ℕ) (st : State) (means : Valuation → Bool) (d : Decision) → decide st q ≡ d → Known d
    → finish (q ∷ qs) k st means ≡ finish qs (k + 1) st means
unfolding finish
finish_skips q qs k st means Always e known = rw (finish, e) refl
finish_skips q qs k st means Never e known = rw (finish, e) refl
finish_skips q qs k st means Open e known = absurd known

pub finish_asks : (q : Equation) (qs : List Equation) (k : ℕ) (st : State) (means : Valuation → Bool) → decide st q ≡ Open
    → finish (q ∷ qs) k st means ≡ parts k (finish qs (k + 1) (yes_to st q) means) (finish qs (k + 1) (no_to st q) means)
unfolding finish
finish_asks q qs k st means e = rw (finish, e) refl

-- a meaning with one truth wherever the facts hold is added as a leaf
pub leaf_inserted : (limits : Limits) (qs : List Equation) (k : ℕ) (xs : List Fact) (means : Valuation → Bool) (b : Bool) → free (state_of xs) ≡ true
    → ((v : Valuation) → Fits xs v → means v ≡ b) → (s : List ℕ) → insert limits s (finish qs k (state_of xs) means) ≡ outcome (Some (leaf_handle b)) s
unfolding insert
leaf_inserted limits qs k xs means b t e s = ap (insert limits s) (finish_same qs k xs means (λ _. b) t e ∙ finish_constant qs k (state_of xs) b)
