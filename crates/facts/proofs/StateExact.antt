-- Working an answer in is exact: a yes sets one class's base above another's, which is what the question says of the bases, and a no is listed.
use Prim.Native.Nat.{ℕ, ◌+◌, ◌-◌}
use mathlib.Core.Path.{◌≡◌, refl, sym, ap, ◌∙◌}
use mathlib.Core.Logic.{◌≢◌, ◌↔◌}
use mathlib.Core.Bool.{Bool, true, false, cond}
use mathlib.Core.List.{List, [], ◌∷◌}
use native.Mathlib.Omega.{arith}
use borrow.Author.Tests.{eqb-true, eqb-false, eq-eqb, ne_eqb}
use lib.Dec.{eqb}
use Rattle.terms.specs.declared.term.Equation.{Equation}
use Rattle.terms.specs.Meaning.{Valuation, value, truth}
use Rattle.terms.specs.Words.{field}
use Rattle.facts.specs.declared.fact.Fact.{Fact}
use Rattle.facts.specs.Facts.{Fits}
use Rattle.facts.specs.State.{Classes, State, at, Classed, Fit, left_side, right_side, joined, join, certain, planned, no_to, yes_to, work_in, start, state_of}
use Rattle.terms.proofs.Cases.{by_eq}
use Rattle.terms.proofs.SimplifyTruth.{count_zero}
use Rattle.facts.proofs.PlanCases.{plan_cases}

-- ---- a question, said of the bases
module _ {c : Classes} {b : ℕ → ℕ} {v : Valuation} (k : Classed c b v) (q : Equation) where
  abbrev pub On_bases : Type 0
  On_bases = b (c.class q.left.field.0) + left_side c q ≡ b (c.class q.right.field.0) + right_side c q

  pub on_bases : truth v q ≡ true → On_bases
  on_bases t = omega (arith, eqb-true (value v q.left) (value v q.right) t, k.at_field q.left.field.0, k.at_field q.right.field.0)

  pub from_bases : On_bases → truth v q ≡ true
  from_bases e = eq-eqb (value v q.left) (value v q.right) (omega (arith, k.at_field q.left.field.0, k.at_field q.right.field.0))

-- ---- a join is exact
-- the bases with another for class t
with_base : (ℕ → ℕ) → ℕ → ℕ → ℕ → ℕ
with_base b t x k = cond (eqb k t) x (b k)

with_base_same : (b : ℕ → ℕ) (t x : ℕ) → with_base b t x t ≡ x
unfolding with_base
with_base_same b t x = simp (eq-eqb t t refl)

with_base_other : (b : ℕ → ℕ) (t x k : ℕ) → k ≢ t → with_base b t x k ≡ b k
unfolding with_base
with_base_other b t x k n = simp (ne_eqb k t n)

module _ (c : Classes) (p t d : ℕ) (b : ℕ → ℕ) (v : Valuation) where
  join_classed : Classed c b v → b t ≡ b p + d → Classed (joined c (join p t d)) b v
  join_classed k e = record {
    at_zero = k.at_zero;
    at_field = λ f. by_eq (λ x. at v f ≡ b (cond x p (c.class f)) + cond x (c.offset f + d) (c.offset f)) (c.class f) t
        (λ h. omega (arith, k.at_field f, ap b h)) (λ n. k.at_field f);
  }

  unjoin_classed : t ≢ 0 → Classed (joined c (join p t d)) b v → Classed c (with_base b t (b p + d)) v
  unfolding with_base
  unjoin_classed z k = record {
    at_zero = with_base_other b t (b p + d) 0 (λ e. z (sym e)) ∙ k.at_zero;
    at_field = λ f. by_eq (λ x. at v f ≡ b (cond x p (c.class f)) + cond x (c.offset f + d) (c.offset f) → at v f ≡ cond x (b p + d) (b (c.class f)) + c.offset f) (c.class f) t
        (λ h e. omega arith) (λ n e. e) (k.at_field f);
  }

module _ (s : State) (p t d : ℕ) (v : Valuation) where
  abbrev joined_state : State
  joined_state = record { classes = joined s.classes (join p t d); noes = s.noes }

  join_in : (k : Fit s v) → k.base t ≡ k.base p + d → Fit joined_state v
  join_in k e = record { base = k.base; classed = join_classed s.classes p t d k.base v k.classed e; noes_false = k.noes_false }

  join_out : p ≢ t → t ≢ 0 → Fit joined_state v → (k : Fit s v) × (k.base t ≡ k.base p + d)
  join_out n z k =
      let b = k.base in (
        record { base = with_base b t (b p + d); classed = unjoin_classed s.classes p t d b v z k.classed; noes_false = k.noes_false },
        with_base_same b t (b p + d) ∙ ap (λ x. x + d) (sym (with_base_other b t (b p + d) p n)),
      )

-- ---- an answer is exact
-- 0 = 0 is never answered no
no_certain : {s : State} {v : Valuation} → Fit (no_to s certain) v → ⊥
no_certain {s} {v} k = eqb-false (value v certain.left) (value v certain.right) k.noes_false.0 refl

module _ (s : State) (q : Equation) (v : Valuation) where
  pub yes_in : Fit s v → truth v q ≡ true → Fit (yes_to s q) v
  yes_in k i =
      let p = s.classes.class q.left.field.0 in
      let t = s.classes.class q.right.field.0 in
      let a = left_side s.classes q in
      let c = right_side s.classes q in
      let b = k.base in
      let e : b p + a ≡ b t + c = on_bases k.classed q i in
      plan_cases (λ x. Fit (planned s x) v) p t a c
      (λ h g. k)
      (λ h g. absurd (g (omega (arith, ap b h))))
      (λ h z g. join_in s t p 0 v k (omega arith))
      (λ h z g. absurd (omega (arith, ap b z, k.classed.at_zero)))
      (λ h z g. join_in s p t (a - c) v k (omega arith))
      (λ h z g. absurd (omega (arith, ap b z, k.classed.at_zero)))
      (λ h z g. join_in s t p (c - a) v k (omega arith))

  pub yes_out : Fit (yes_to s q) v → Fit s v × (truth v q ≡ true)
  yes_out =
      let p = s.classes.class q.left.field.0 in
      let t = s.classes.class q.right.field.0 in
      let a = left_side s.classes q in
      let c = right_side s.classes q in
      plan_cases (λ x. Fit (planned s x) v → Fit s v × (truth v q ≡ true)) p t a c
      (λ h g k. (k, from_bases k.classed q (omega (arith, ap k.base h))))
      (λ h g k. absurd (no_certain k))
      (λ h z g k. let m = join_out s t p 0 v (λ e. h (sym e)) (λ e. h (e ∙ sym z)) k in (m.0, from_bases m.0.classed q (omega (arith, m.1))))
      (λ h z g k. absurd (no_certain k))
      (λ h z g k. let m = join_out s p t (a - c) v h z k in (m.0, from_bases m.0.classed q (omega (arith, m.1))))
      (λ h z g k. absurd (no_certain k))
      (λ h z g k. let m = join_out s t p (c - a) v (λ e. h (sym e)) z k in (m.0, from_bases m.0.classed q (omega (arith, m.1))))

  pub no_in : Fit s v → truth v q ≡ false → Fit (no_to s q) v
  no_in k n = record { base = k.base; classed = k.classed; noes_false = (n, k.noes_false) }

  pub no_out : Fit (no_to s q) v → Fit s v × (truth v q ≡ false)
  no_out k = (record { base = k.base; classed = k.classed; noes_false = k.noes_false.1 }, k.noes_false.0)

-- Working an answer in is exact: a choice of counts fits afterwards exactly if it fitted before and gives the answer.
pub work_in_exact : (s : State) (q : Equation) (a : Bool) (v : Valuation) → Fit (work_in s q a) v ↔ (Fit s v × (truth v q ≡ a))
work_in_exact s q true v = (yes_out s q v, λ k. yes_in s q v k.0 k.1)
work_in_exact s q false v = (no_out s q v, λ k. no_in s q v k.0 k.1)

-- every choice of counts fits no facts
pub start_fit : (v : Valuation) → Fit start v
start_fit v = record { base = at v; classed = record { at_zero = count_zero v (field 0) refl; at_field = λ f. omega arith }; noes_false = tt }

-- So a choice of counts fits the state of some facts exactly if it fits the facts.
pub state_exact : (xs : List Fact) (v : Valuation) → Fit (state_of xs) v ↔ Fits xs v
state_exact [] v = (λ _. tt, λ _. start_fit v)
state_exact (x ∷ xs) v =
    let worked = work_in_exact (state_of xs) x.question x.answer v in
    let rest = state_exact xs v in
    (λ k. let m = worked.0 k in (m.1, rest.0 m.0), λ h. worked.1 (rest.1 h.1, h.0))
