-- What the walk is on each way through the code: the value, the decision and the answers on that way decide its own tests.
use Prim.Native.Nat.{ℕ, suc, ◌+◌, ◌-◌}
use mathlib.Core.Path.{◌≡◌, refl, sym, ap, ◌∙◌}
use mathlib.Core.Logic.{◌≢◌}
use mathlib.Core.List.{List}
use native.Mathlib.Omega.{arith}
use Rattle.std.proofs.Common.{Option, Some, None}
use Rattle.diagram.specs.Insert.{then_place}
use Rattle.facts.specs.declared.decision.Decision.{Decision}
use Rattle.facts.specs.declared.decision.Decision.TheVariants.{Always, Never, Open}
use Rattle.facts.specs.declared.record.Facts.{Facts}
use Rattle.facts.specs.declared.asking.Asked.{Asked}
use Rattle.facts.specs.declared.asking.Asked.TheVariants as asked
use Rattle.facts.specs.Record.{state, asked_decision, AskedOf}
use Rattle.facts.specs.State.{State, no_to, yes_to, decide}
use Rattle.terms.specs.declared.limits.Limits.{Limits}
use Rattle.store.specs.Layout.{question, entry_of}
use Rattle.store.specs.Outcome.{Outcome, outcome}
use Rattle.terms.specs.declared.term.Equation.{Equation}
use Rattle.walking.specs.declared.subject.Subject.{Subject}
use Rattle.walking.specs.Needs.{leaf_of, CanWalk}
use Rattle.walking.specs.Value.{subject_value}
use Rattle.walking.specs.Walk.{place_parts, walk}
use Rattle.walking.proofs.WalkCalls.{Asking}

-- a decision that is not open is one of the two others
by_known : (P : Decision → Type 0) → P Always → P Never → (d : Decision) → d ≢ Open → P d
by_known P a n Always h = a
by_known P a n Never h = n
by_known P a n Open h = absurd (h refl)

module _ (limits : Limits) (s : List ℕ) (subject : Subject) (k : ℕ) (st : State) where
  -- ---- a leaf
  last_leaf : (v : Decision) → v ≡ subject_value s subject st → outcome (Some (leaf_of v)) s ≡ walk limits s subject 0 k st
  unfolding walk
  last_leaf Always e = rw (← e, walk)
  last_leaf Never e = rw (← e, walk)
  last_leaf Open e = rw (← e, walk)

  module _ (left : ℕ) where
    known_leaf : (v : Decision) → v ≢ Open → v ≡ subject_value s subject st → outcome (Some (leaf_of v)) s ≡ walk limits s subject (suc left) k st
    unfolding walk
    known_leaf = by_known (λ v. v ≡ subject_value s subject st → outcome (Some (leaf_of v)) s ≡ walk limits s subject (suc left) k st)
        (λ e. rw (← e, walk)) (λ e. rw (← e, walk))

    module _ (open_value : subject_value s subject st ≡ Open) where
      known_skips : (d : Decision) → d ≢ Open → d ≡ decide st (question s k)
          → walk limits s subject (suc left) k st ≡ walk limits s subject left (k + 1) st
      unfolding walk
      known_skips = by_known (λ d. d ≡ decide st (question s k) → walk limits s subject (suc left) k st ≡ walk limits s subject left (k + 1) st)
          (λ e. rw (open_value, ← e, walk)) (λ e. rw (open_value, ← e, walk))

      open_asks : decide st (question s k) ≡ Open → walk limits s subject (suc left) k st
          ≡ then_place (walk limits s subject left (k + 1) (yes_to st (question s k)))
          (λ y s₁. then_place (walk limits s₁ subject left (k + 1) (no_to st (question s k))) (λ n s₂. place_parts limits s₂ (entry_of k y n)))
      unfolding walk
      open_asks e = rw (open_value, e, walk)

more_left : (left : ℕ) → left ≢ 0 → left ≡ suc (left - 1)
more_left left n = omega arith

-- ---- the ways through the code
not_open : (a : Asked) → ((g : Facts) → a ≢ asked.Open g) → asked_decision a ≢ Open
not_open asked.Always h e = absurd (let z : ◌≡◌ {A = ℕ} 0 1 = cc in omega arith)
not_open asked.Never h e = absurd (let z : ◌≡◌ {A = ℕ} 0 1 = cc in omega arith)
not_open (asked.Open g) h e = h g refl

module _ (limits : Limits) (s : List ℕ) (subject : Subject) (f : Facts) (k left : ℕ) {v : Decision} (ev : v ≡ subject_value s subject (state f)) where
  pub on_last : {h : ℕ} → left ≡ 0 → h ≡ leaf_of v → outcome (Some h) s ≡ walk limits s subject left k (state f)
  on_last e eh = rw (e, eh) (last_leaf limits s subject k (state f) v ev)

  module _ (more : left ≢ 0) where
    pub on_known : {h : ℕ} → v ≢ Open → h ≡ leaf_of v → outcome (Some h) s ≡ walk limits s subject left k (state f)
    on_known n eh = rw (more_left left more, eh) (known_leaf limits s subject k (state f) (left - 1) v n ev)

    module _ (ov : v ≡ Open) {w : ℕ} (ew : w ≡ k) {q : Equation} (eq : q ≡ question s w) {a : Asked} (by : AskedOf f q a) where
      asked_question : q ≡ question s k
      asked_question = eq ∙ ap (question s) ew

      pub on_skip : {r : Option ℕ} {s₁ : List ℕ} → ((g : Facts) → a ≢ asked.Open g) → outcome r s₁ ≡ walk limits s subject (left - 1) (k + 1) (state f)
          → outcome r s₁ ≡ walk limits s subject left k (state f)
      on_skip n e = rw (more_left left more)
          (e ∙ sym (known_skips limits s subject k (state f) (left - 1) (sym ev ∙ ov) (asked_decision a) (not_open a n)
          (by.decision_is ∙ ap (decide (state f)) asked_question)))

      pub asking : CanWalk limits s subject f k left → {g : Facts} → a ≡ asked.Open g → Asking limits s subject f k left q g
      asking can {g} e = record {
        can = can;
        value_open = sym ev ∙ ov;
        more = more;
        question_is = asked_question;
        decides_open = sym by.decision_is ∙ ap asked_decision e;
        yes_is = by.yes_is g e;
      }

-- ---- where the question is asked
module _ {limits : Limits} {s : List ℕ} {subject : Subject} {f : Facts} {k left : ℕ} {q : Equation} {g : Facts}
    (x : Asking limits s subject f k left q g) where
  -- what follows the no part, and the yes part
  abbrev then_no : ℕ → ℕ → List ℕ → Outcome (Option ℕ)
  then_no y n s₂ = place_parts limits s₂ (entry_of k y n)

  abbrev then_yes : Equation → ℕ → List ℕ → Outcome (Option ℕ)
  then_yes p y s₁ = then_place (walk limits s₁ subject (left - 1) (k + 1) (no_to (state f) p)) (then_no y)

  asks : then_place (walk limits s subject (left - 1) (k + 1) (state g)) (then_yes q) ≡ walk limits s subject left k (state f)
  asks =
      ap (λ st. then_place (walk limits s subject (left - 1) (k + 1) st) (then_yes q)) x.yes_is
      ∙ ap (λ p. then_place (walk limits s subject (left - 1) (k + 1) (yes_to (state f) p)) (then_yes p)) x.question_is
      ∙ sym (open_asks limits s subject k (state f) (left - 1) x.value_open (ap (decide (state f)) (sym x.question_is) ∙ x.decides_open))
      ∙ ap (λ (l : ℕ). walk limits s subject l k (state f)) (sym (more_left left x.more))

  module _ {r : Option ℕ} {s₁ : List ℕ} (e₁ : outcome r s₁ ≡ walk limits s subject (left - 1) (k + 1) (state g)) where
    after_yes : then_place (outcome r s₁) (then_yes q) ≡ walk limits s subject left k (state f)
    after_yes = ap (λ o. then_place o (then_yes q)) e₁ ∙ asks

    pub on_yes_full : r ≡ None → {p : Option ℕ} → p ≡ None → outcome p s₁ ≡ walk limits s subject left k (state f)
    on_yes_full e d = rw d (rw e at after_yes)

    module _ {y : ℕ} (ey : r ≡ Some y) (h : Facts) (eh : state h ≡ no_to (state f) q) {r' : Option ℕ} {s₂ : List ℕ}
        (e₂ : outcome r' s₂ ≡ walk limits s₁ subject (left - 1) (k + 1) (state h)) where
      after_no : then_place (outcome r' s₂) (then_no y) ≡ walk limits s subject left k (state f)
      after_no = ap (λ o. then_place o (then_no y)) (e₂ ∙ ap (λ st. walk limits s₁ subject (left - 1) (k + 1) st) eh) ∙ (rw ey at after_yes)

      pub on_no_full : r' ≡ None → {p : Option ℕ} → p ≡ None → outcome p s₂ ≡ walk limits s subject left k (state f)
      on_no_full e d = rw d (rw e at after_no)

      pub on_parts : {n : ℕ} {o : Outcome (Option ℕ)} → r' ≡ Some n → o ≡ place_parts limits s₂ (entry_of k y n) → o ≡ walk limits s subject left k (state f)
      on_parts e eo = eo ∙ (rw e at after_no)
