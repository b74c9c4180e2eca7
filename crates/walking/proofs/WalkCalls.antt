-- Each call in the walk finds what it asks for: the question is one of the list, the facts hold one answer more at most, and the words that
-- the yes part leaves are fit for the no part.
use Prim.Native.Nat.{ℕ, ◌+◌, ◌-◌, ◌≤◌}
use mathlib.Core.Path.{◌≡◌, refl, sym, subst}
use mathlib.Core.Logic.{◌≢◌}
use mathlib.Core.List.{List}
use native.Mathlib.Omega.{arith}
use Rattle.std.proofs.Common.{Option}
use Rattle.facts.specs.declared.decision.Decision.TheVariants.{Open}
use Rattle.facts.specs.declared.record.Facts.{Facts}
use Rattle.facts.specs.Needs.{Askable}
use Rattle.facts.specs.Record.{state, most_noes, Small, Holds}
use Rattle.terms.specs.Limits.{most_count}
use Rattle.facts.specs.State.{State, no_to, yes_to, decide}
use Rattle.terms.specs.declared.limits.Limits.{Limits}
use Rattle.store.specs.Layout.{question_count, used, question}
use Rattle.store.specs.Outcome.{outcome}
use Rattle.terms.specs.declared.term.Equation.{Equation}
use Rattle.walking.specs.declared.subject.Subject.{Subject}
use Rattle.walking.specs.declared.subject.Subject.TheVariants.{Table, Choice}
use Rattle.walking.specs.Needs.{Walkable, Named, CanWalk}
use Rattle.walking.specs.Value.{subject_value}
use Rattle.walking.specs.Walk.{walk}
use Rattle.facts.proofs.HeldFacts.{holds_ready, holds_yes, holds_no}
use Rattle.store.proofs.StoreWords.{questions_agree}
use Rattle.walking.proofs.WalkKeeps.{GoesOn, walk_goes}

holds_more : {m n : ℕ} {f : Facts} → m ≤ n → Holds m most_count f → Holds n most_count f
holds_more l h = record { facts = h.facts; small = h.small; is = h.is; fitted = h.fitted; few = omega (arith, h.few) }

named_grown : (s t : List ℕ) (subject : Subject) → used s ≤ used t → Named s subject → Named t subject
named_grown s t (Table rows) g n = n
named_grown s t (Choice a b c) g n = (omega (arith, n.0), omega (arith, n.1), omega (arith, n.2))

module _ {limits : Limits} {s : List ℕ} {subject : Subject} {f : Facts} {k left : ℕ} (m : CanWalk limits s subject f k left) where
  all_hold : Holds most_noes most_count f
  all_hold = holds_more (omega (arith, m.to_last, m.walkable.list_short)) m.holds

  -- ---- at a question
  module _ (more : left ≢ 0) where
    listed : k ≤ question_count s
    listed = omega (arith, m.to_last)

    question_small : {q : Equation} → q ≡ question s k → Small most_count q
    question_small eq = subst (Small most_count) (sym eq) (m.walkable.list_small k m.from_one listed)

    pub can_ask : {w : ℕ} → w ≡ k → {q : Equation} → q ≡ question s w → Askable f q
    can_ask ew {q} eq = holds_ready all_hold (omega arith) (omega arith) q (question_small (rw (← ew) eq))

    -- at the next question, in words and with facts that a walk can begin with
    can_next : (t : List ℕ) (g : Facts) → Walkable t → used s ≤ used t → question_count t ≡ question_count s → Holds k most_count g
        → CanWalk limits t subject g (k + 1) (left - 1)
    can_next t g w u e h = record {
      fit = m.fit;
      walkable = w;
      named = named_grown s t subject u m.named;
      from_one = omega arith;
      to_last = omega (arith, m.to_last);
      holds = holds_more (omega arith) h;
    }

-- ---- where the question is asked
-- the value and the question are open, and g are the facts with a yes
pub record Asking (limits : Limits) (s : List ℕ) (subject : Subject) (f : Facts) (k left : ℕ) (q : Equation) (g : Facts) : Type 0 where
  pub can : CanWalk limits s subject f k left
  pub value_open : subject_value s subject (state f) ≡ Open
  pub more : left ≢ 0
  pub question_is : q ≡ question s k
  pub decides_open : decide (state f) q ≡ Open
  pub yes_is : state g ≡ yes_to (state f) q

module _ {limits : Limits} {s : List ℕ} {subject : Subject} {f : Facts} {k left : ℕ} {q : Equation} {g : Facts}
    (x : Asking limits s subject f k left q g) where
  small : Small most_count q
  small = question_small x.can x.more x.question_is

  pub can_yes : CanWalk limits s subject g (k + 1) (left - 1)
  can_yes = can_next x.can x.more s g x.can.walkable (omega arith) refl (holds_more (omega arith) (holds_yes x.can.holds q small x.decides_open x.yes_is))

  -- ---- after the yes part
  module _ {r : Option ℕ} {s₁ : List ℕ} (e₁ : outcome r s₁ ≡ walk limits s subject (left - 1) (k + 1) (state g)) where
    part_goes : (t : List ℕ) (st : State) → Walkable t → question_count t ≡ question_count s → GoesOn t (walk limits t subject (left - 1) (k + 1) st)
    part_goes t st w e = walk_goes limits x.can.fit subject (left - 1) (k + 1) st t w (omega arith) (omega (arith, x.can.to_last, x.more))

    yes_goes : GoesOn s (outcome r s₁)
    yes_goes = subst (GoesOn s) (sym e₁) (part_goes s (state g) x.can.walkable refl)

    same₁ : question_count s₁ ≡ question_count s
    same₁ = questions_agree yes_goes.agrees

    pub can_no : {h : Facts} → state h ≡ no_to (state f) q → CanWalk limits s₁ subject h (k + 1) (left - 1)
    can_no {h} eh = can_next x.can x.more s₁ h yes_goes.walkable yes_goes.grown same₁
        (holds_more (omega (arith, x.can.from_one)) (holds_no x.can.holds q small x.decides_open eh))
