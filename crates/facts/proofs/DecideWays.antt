-- What deciding is on each way through the code: a plan that keeps the classes settles the question, a clash rules it out, and a join leaves
-- it open exactly if no question answered no is settled by the joined classes.
use Prim.Native.Nat.{ℕ}
use mathlib.Core.Path.{◌≡◌, refl, sym, ap, ◌∙◌}
use mathlib.Core.Bool.{Bool, true, false, ◌&&◌, false≢true}
use borrow.Author.Tests.{eq-eqb, ne_eqb}
use lib.Dec.{eqb}
use Rattle.terms.specs.declared.term.Equation.{Equation}
use Rattle.facts.specs.declared.decision.Decision.TheVariants.{Always, Never, Open}
use Rattle.facts.specs.declared.decision.Join.{Join}
use Rattle.facts.specs.declared.decision.Plan.{Plan}
use Rattle.facts.specs.declared.decision.Plan.TheVariants.{Keep, Clash}
use Rattle.facts.specs.declared.decision.Plan.TheVariants as plans
use Rattle.facts.specs.declared.record.Facts.{Facts}
use Rattle.facts.specs.declared.asking.Asked.TheVariants as asked
use Rattle.facts.specs.Record.{state, AskedOf, WorkedYes}
use Rattle.facts.specs.State.{State, settled, free, plan, plan_of, planned, yes_to, decide}
use Rattle.facts.proofs.PlanCases.{plan_cases, settled_cases, decide_cases}
use Rattle.facts.proofs.WorkedRecord.{clash_not_free, open_free}
use Rattle.std.specs.Prelude.{Some, None}

-- ---- the plan
is_keep : Plan → Bool
is_keep Keep = true
is_keep Clash = false
is_keep (plans.Join j) = false

-- the classes alone make a question true exactly if the plan keeps them
keeps_settled : (p t a c : ℕ) → is_keep (plan p t a c) ≡ (eqb p t && eqb a c)
unfolding is_keep
keeps_settled p t a c =
    plan_cases (λ x. is_keep x ≡ (eqb p t && eqb a c)) p t a c
    (λ e d. rw (eq-eqb p t e, eq-eqb a c d) refl) (λ e n. rw (eq-eqb p t e, ne_eqb a c n) refl)
    (λ n _ _. rw (ne_eqb p t n) refl) (λ n _ _. rw (ne_eqb p t n) refl) (λ n _ _. rw (ne_eqb p t n) refl)
    (λ n _ _. rw (ne_eqb p t n) refl) (λ n _ _. rw (ne_eqb p t n) refl)

module _ (f : Facts) (q : Equation) {x : Plan} (ex : x ≡ plan_of (state f).classes q) where
  settled_is : settled (state f).classes q ≡ is_keep x
  settled_is = sym (ap is_keep ex ∙ keeps_settled _ _ _ _)

  free_is : free (yes_to (state f) q) ≡ free (planned (state f) x)
  free_is = ap (λ y. free (planned (state f) y)) (sym ex)

  pub decides_keep : x ≡ Keep → Always ≡ decide (state f) q
  unfolding decide is_keep
  decides_keep d = rw (settled_is, d) refl

  pub decides_clash : x ≡ Clash → Never ≡ decide (state f) q
  unfolding decide is_keep
  decides_clash d = rw (settled_is, free_is, d, clash_not_free (state f)) refl

  module _ {j : Join} (d : x ≡ plans.Join j) {b : Bool} (eb : b ≡ free (planned (state f) (plans.Join j))) where
    pub decides_open : b ≡ true → Open ≡ decide (state f) q
    unfolding decide is_keep
    decides_open t = rw (settled_is, free_is, d, ← eb, t) refl

    pub decides_never : b ≡ false → Never ≡ decide (state f) q
    unfolding decide is_keep
    decides_never t = rw (settled_is, free_is, d, ← eb, t) refl

-- ---- a yes asked for
-- a settled question keeps the state
module _ (s : State) (q : Equation) where
  kept : settled s.classes q ≡ true → yes_to s q ≡ s
  unfolding plan
  kept = settled_cases (λ b. b ≡ true → yes_to s q ≡ s) s.classes q (λ h g _. rw (eq-eqb _ _ h, eq-eqb _ _ g) refl) (λ _ e. absurd (false≢true e))

module _ (f : Facts) (q : Equation) (fitted : free (state f) ≡ true) where
  pub yes_of_always : AskedOf f q asked.Always → WorkedYes f q (Some f)
  yes_of_always a = decide_cases (λ d. Always ≡ d → WorkedYes f q (Some f)) (state f) q
      (λ t _. (ap free (kept (state f) q t) ∙ fitted, sym (kept (state f) q t))) (λ _ _ e. cc) (λ _ _ e. cc) a.decision_is

  pub yes_of_never : AskedOf f q asked.Never → WorkedYes f q None
  yes_of_never a = decide_cases (λ d. Never ≡ d → WorkedYes f q None) (state f) q (λ _ e. cc) (λ _ _ e. cc) (λ _ n _. n) a.decision_is

  pub yes_of_open : {g : Facts} → AskedOf f q (asked.Open g) → WorkedYes f q (Some g)
  yes_of_open {g} a = (open_free (state f) q (sym a.decision_is), a.yes_is g refl)
