-- A yes worked into a record: the plan that the code makes is the state's, and what it joins stays within bounds.
use Prim.Native.Nat.{ℕ, zero, suc, ◌+◌, ◌≤◌}
use mathlib.Core.Path.{◌≡◌, refl, sym, ap, subst, ◌∙◌}
use mathlib.Core.Bool.{true, false}
use mathlib.Core.List.{List}
use native.Mathlib.Omega.{arith}
use borrow.Author.Tests.{eq-eqb}
use lib.ListN.{length}
use Rattle.terms.specs.declared.term.Equation.{Equation}
use Rattle.facts.specs.declared.decision.Decision.{Decision}
use Rattle.facts.specs.declared.decision.Decision.TheVariants.{Open}
use Rattle.facts.specs.declared.decision.Plan.{Plan}
use Rattle.facts.specs.declared.decision.Join.{Join}
use Rattle.facts.specs.declared.decision.Plan.TheVariants.{Keep, Clash}
use Rattle.facts.specs.declared.decision.Plan.TheVariants as plans
use Rattle.facts.specs.declared.record.Facts.{Facts}
use Rattle.facts.specs.declared.noes.WordPair.{WordPair}
use Rattle.facts.specs.Facts.{fact}
use Rattle.facts.specs.Needs.{most_offset, Askable, CanAddFact, CanJoin, CanJoinPlaces}
use Rattle.facts.specs.Record.{state, last_field, noes_in}
use Rattle.terms.specs.Limits.{most_count}
use Rattle.facts.specs.State.{State, free, plan, plan_of, planned, yes_to, decide}
use Rattle.facts.proofs.PlanCases.{plan_cases, decide_cases}

-- ---- what is joined
abbrev NoJoin : Plan → Type 0
NoJoin Keep = Unit {0}
NoJoin Clash = Unit {0}
NoJoin (plans.Join j) = ⊥

-- the classes of a join are the two that it was planned for, and what it adds is at most a side
pub plan_bounded : (p t a c : ℕ) (j : Join) (m n : ℕ) → p ≤ m → t ≤ m → a ≤ n → c ≤ n → plan p t a c ≡ plans.Join j → (j.into ≤ m) × (j.from ≤ m) × (j.by ≤ n)
plan_bounded p t a c j m n hp ht ha hc =
    plan_cases (λ x. x ≡ plans.Join j → (j.into ≤ m) × (j.from ≤ m) × (j.by ≤ n)) p t a c
    (λ _ _ e. absurd (no_join Keep tt e)) (λ _ _ e. absurd (no_join Clash tt e))
    (λ _ _ _ e. these e (omega arith) (omega arith) (omega arith)) (λ _ _ _ e. absurd (no_join Clash tt e))
    (λ _ _ _ e. these e (omega arith) (omega arith) (omega arith)) (λ _ _ _ e. absurd (no_join Clash tt e))
    (λ _ _ _ e. these e (omega arith) (omega arith) (omega arith))
  where
    no_join : (x : Plan) → NoJoin x → x ≡ plans.Join j → ⊥
    no_join x o e = rw e at o

    these : {i : Join} → plans.Join i ≡ plans.Join j → i.into ≤ m → i.from ≤ m → i.by ≤ n → (j.into ≤ m) × (j.from ≤ m) × (j.by ≤ n)
    these {i} e x y z = let same : i ≡ j = cc in subst (λ (k : Join). (k.into ≤ m) × (k.from ≤ m) × (k.by ≤ n)) same (x, y, z)

-- ---- how many questions are answered no
pub noes_length : (pairs : List WordPair) (n : ℕ) → length (noes_in pairs n) ≡ n
unfolding noes_in
noes_length pairs zero = refl
noes_length pairs (suc n) = ap suc (noes_length pairs n)

module _ (f g : Facts) (e : (state g).noes ≡ (state f).noes) where
  pub noes_kept : g.noes.count ≡ f.noes.count
  noes_kept = sym (noes_length g.noes.pairs g.noes.count) ∙ ap length e ∙ noes_length f.noes.pairs f.noes.count

-- ---- a yes
pub clash_not_free : (s : State) → free (planned s Clash) ≡ false
clash_not_free s =
    rw (eq-eqb (s.classes.class 0) (s.classes.class 0) refl, eq-eqb (s.classes.offset 0 + 0) (s.classes.offset 0 + 0) refl) refl

module _ (f : Facts) (q : Equation) (r : Askable f q) {j : Join} (e : plans.Join j ≡ plan_of (state f).classes q) where
  low : (j.into ≤ last_field) × (j.from ≤ last_field) × (j.by ≤ most_offset + most_count)
  low =
      let w = r.within in
      let s = r.small in
      plan_bounded _ _ _ _ j last_field (most_offset + most_count) (w.class_in q.left.field.0 s.left_in) (w.class_in q.right.field.0 s.right_in)
      (omega (arith, w.offset_in q.left.field.0 s.left_in, s.left_steps)) (omega (arith, w.offset_in q.right.field.0 s.right_in, s.right_steps))
      (sym e)

  pub can_join : CanJoin f j.by
  can_join = record { within = r.within; raised_little = low.2 }

  pub can_join_places : CanJoinPlaces f j
  can_join_places = record { from_in = low.1; raised_fits = λ k h. omega (arith, r.within.offset_in k h, low.2) }

-- ---- a question asked
pub open_free : (s : State) (q : Equation) → decide s q ≡ Open → free (yes_to s q) ≡ true
open_free s q = decide_cases (λ d. d ≡ Open → free (yes_to s q) ≡ true) s q (λ _ e. cc) (λ _ t _. t) (λ _ _ e. cc)

module _ (f : Facts) (q : Equation) {d : Decision} (e : d ≡ decide (state f) q) where
  pub can_yes : d ≡ Open → Askable f q → CanAddFact f (fact q true)
  can_yes o r = record { can = record { askable = r; leaves_some = open_free (state f) q (sym e ∙ o) } }
