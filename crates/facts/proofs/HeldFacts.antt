-- A record that holds facts is within the bounds that the code asks for: an offset is at most the count in any fitting sheet, so in the least
-- one, and classes and questions answered no come of the facts' questions.
use Prim.Native.Nat.{ℕ, suc, ◌+◌, ◌-◌, ◌*◌, ◌≤◌, ◌<◌}
use mathlib.Core.Path.{◌≡◌, refl, sym, ap, subst, ◌∙◌}
use mathlib.Core.Bool.{Bool, true, false, cond, true≢false}
use mathlib.Core.List.{List, [], ◌∷◌}
use native.Mathlib.Omega.{arith}
use lib.ListN.{length}
use Rattle.terms.specs.declared.term.Equation.{Equation}
use Rattle.facts.specs.declared.decision.Decision.TheVariants.{Open}
use Rattle.facts.specs.declared.decision.Join.{Join}
use Rattle.facts.specs.declared.decision.Plan.TheVariants.{Clash}
use Rattle.facts.specs.declared.record.Facts.{Facts}
use Rattle.facts.specs.declared.asking.Asked.{Asked}
use Rattle.facts.specs.declared.fact.Fact.{Fact}
use Rattle.facts.specs.Facts.{fact, Fits, Forces}
use Rattle.facts.specs.Least.{IsLeast, Near, All, RestsOn, least_count, fixed, least_sheet}
use Rattle.facts.specs.Needs.{most_offset, Within, Askable}
use Rattle.facts.specs.Record.{state, last_field, most_noes, Small, AllSmall, Holds, AskedOf, asked_decision}
use Rattle.terms.specs.Limits.{most_count}
use Rattle.facts.specs.State.{State, Fit, settled, free, left_side, right_side, joined, join, planned, certain, no_to, yes_to, work_in, start, state_of, decide}
use Rattle.terms.proofs.Cases.{by_eq}
use Rattle.facts.proofs.Decided.{decided, no_to_free}
use Rattle.facts.proofs.LeastBound.{least_bound}
use Rattle.facts.proofs.LeastSheet.{fixed_at, fixed_down, least_sheet_fits, least_sheet_least}
use Rattle.facts.proofs.PlanCases.{plan_cases, decide_cases}
use Rattle.facts.proofs.StateExact.{state_exact}
use Rattle.facts.proofs.StateFree.{state_of_zero}
use Rattle.facts.proofs.WorkedRecord.{noes_length, noes_kept, clash_not_free}

-- ---- classes and questions of a state of small facts
record Tame (s : State) : Type 0 where
  classes_tame : (k : ℕ) → k ≤ last_field → s.classes.class k ≤ last_field
  noes_tame : All (Small most_count) s.noes

certain_small : Small most_count certain
certain_small = record { left_in = omega arith; right_in = omega arith; left_steps = omega arith; right_steps = omega arith }

no_tame : (s : State) (q : Equation) → Small most_count q → Tame s → Tame (no_to s q)
no_tame s q small t = record { classes_tame = t.classes_tame; noes_tame = (small, t.noes_tame) }

joined_tame : (s : State) (j : Join) → j.into ≤ last_field → Tame s → Tame (record { classes = joined s.classes j; noes = s.noes })
joined_tame s j h t = record {
  classes_tame = λ k l. by_eq (λ b. cond b j.into (s.classes.class k) ≤ last_field) (s.classes.class k) j.from (λ _. h) (λ _. t.classes_tame k l);
  noes_tame = t.noes_tame;
}

work_in_tame : (s : State) (q : Equation) (a : Bool) → Small most_count q → Tame s → Tame (work_in s q a)
work_in_tame s q false small t = no_tame s q small t
work_in_tame s q true small t =
    let p = s.classes.class q.left.field.0 in
    let r = s.classes.class q.right.field.0 in
    let a = left_side s.classes q in
    let c = right_side s.classes q in
    let clash = no_tame s certain certain_small t in
    let left = t.classes_tame q.left.field.0 small.left_in in
    let right = t.classes_tame q.right.field.0 small.right_in in
    plan_cases (λ x. Tame (planned s x)) p r a c
    (λ _ _. t) (λ _ _. clash)
    (λ _ _ _. joined_tame s (join r p 0) right t) (λ _ _ _. clash)
    (λ _ _ _. joined_tame s (join p r (a - c)) left t) (λ _ _ _. clash)
    (λ _ _ _. joined_tame s (join r p (c - a)) right t)

pub small_more : {m n : ℕ} {q : Equation} → m ≤ n → Small m q → Small n q
small_more h s = record { left_in = s.left_in; right_in = s.right_in; left_steps = omega (arith, s.left_steps); right_steps = omega (arith, s.right_steps) }

state_of_tame : (k : ℕ) (xs : List Fact) → k ≤ most_count → AllSmall k xs → Tame (state_of xs)
state_of_tame k [] h a = record { classes_tame = λ k h. h; noes_tame = tt }
state_of_tame k (x ∷ xs) h a = work_in_tame (state_of xs) x.question x.answer (small_more h a.0) (state_of_tame k xs h a.1)

-- a yes that leaves the state free lists no question
yes_noes : (s : State) (q : Equation) → free (yes_to s q) ≡ true → (yes_to s q).noes ≡ s.noes
yes_noes s q =
    let p = s.classes.class q.left.field.0 in
    let t = s.classes.class q.right.field.0 in
    let clash : free (planned s Clash) ≡ true → (planned s Clash).noes ≡ s.noes = λ f. absurd (true≢false (sym f ∙ clash_not_free s)) in
    plan_cases (λ x. free (planned s x) ≡ true → (planned s x).noes ≡ s.noes) p t (left_side s.classes q) (right_side s.classes q)
    (λ _ _ _. refl) (λ _ _. clash) (λ _ _ _ _. refl) (λ _ _ _. clash) (λ _ _ _ _. refl) (λ _ _ _. clash) (λ _ _ _ _. refl)

-- ---- offsets
questions : List Fact → List Equation
questions [] = []
questions (x ∷ xs) = x.question ∷ questions xs

questions_near : (k : ℕ) (xs : List Fact) → AllSmall k xs → All (Near last_field k) (questions xs)
unfolding questions
questions_near k [] a = tt
questions_near k (x ∷ xs) a =
    let s = a.0 in
    (record { left_in = s.left_in; right_in = s.right_in; gap_up = omega (arith, s.right_steps); gap_down = omega (arith, s.left_steps) }, questions_near k xs a.1)

fits_rest : (xs : List Fact) → RestsOn (questions xs) (Fits xs)
unfolding questions
fits_rest [] v w e h = tt
fits_rest (x ∷ xs) v w e h = (sym e.0 ∙ h.0, fits_rest xs v w e.1 h.1)

fit_rests : (xs : List Fact) → RestsOn (questions xs) (Fit (state_of xs))
fit_rests xs v w e k = (state_exact xs w).1 (fits_rest xs v w e ((state_exact xs v).0 k))

offset_bound : (m : ℕ) (xs : List Fact) → AllSmall m xs → free (state_of xs) ≡ true → (k : ℕ) → k ≤ last_field → (state_of xs).classes.offset k ≤ last_field * (m + 1)
offset_bound m xs a t k h =
    let v = least_sheet last_field (state_of xs) in
    let is : IsLeast last_field (Fit (state_of xs)) v = least_sheet_least last_field (state_of xs) (state_of_zero xs) t in
    omega (arith, is.meets.classed.at_field k, least_bound last_field m (questions xs) (Fit (state_of xs)) (questions_near m xs a) (fit_rests xs) v is k h)

-- ---- counts of the least sheet
pub least_counts_bound : (k : ℕ) (xs : List Fact) → AllSmall k xs → free (state_of xs) ≡ true → (m : ℕ) → m < last_field
    → least_count (fixed m (state_of xs)) (suc m) ≤ last_field * (k + 1)
least_counts_bound k xs a t m h =
    let s = state_of xs in
    let v = least_sheet last_field s in
    let zero_kept = state_of_zero xs in
    let is : IsLeast last_field (Fit s) v = least_sheet_least last_field s zero_kept t in
    omega (
      arith,
      least_bound last_field k (questions xs) (Fit s) (questions_near k xs a) (fit_rests xs) v is (suc m) h,
      fixed_at m s v (fixed_down last_field (suc m) s v h (least_sheet_fits last_field s zero_kept t)),
    )

-- ---- the record
-- a yes that leaves the state free leaves a record that some choice of counts fits
pub worked_yes : {most_no most : ℕ} {f g : Facts} → (h : Holds most_no most f) (q : Equation) → Small most q → free (yes_to (state f) q) ≡ true
    → state g ≡ yes_to (state f) q → Holds most_no most g
worked_yes {f = f} {g = g} h q small t e = record {
  facts = fact q true ∷ h.facts;
  small = (small, h.small);
  is = e ∙ ap (λ s. yes_to s q) h.is;
  fitted = ap free e ∙ t;
  few = omega (arith, h.few, noes_kept f g (ap (λ (s : State). s.noes) e ∙ yes_noes (state f) q t));
}

module _ {most_no most : ℕ} {f : Facts} (h : Holds most_no most f) where
  tame : most ≤ most_count → Tame (state f)
  tame m = subst Tame (sym h.is) (state_of_tame most h.facts m h.small)

  pub holds_within : most_no ≤ most_noes → most ≤ most_count → Within most_offset f
  holds_within l m = record {
    class_in = (tame m).classes_tame;
    offset_in = λ k i. rw (ap (λ (s : State). s.classes.offset k) h.is) (omega (arith, offset_bound most h.facts h.small (sym (ap free h.is) ∙ h.fitted) k i));
    noes_few = omega (arith, h.few);
    noes_small = (tame m).noes_tame;
  }

  pub holds_ready : most_no ≤ most_noes → most ≤ most_count → (q : Equation) → Small most_count q → Askable f q
  holds_ready l m q small = record { within = holds_within l m; small = small; fitted = h.fitted }

  -- ---- what asking gives
  -- The decision is right in all three answers, for the facts that the record holds.
  pub asked_forces : (q : Equation) (r : Asked) → AskedOf f q r → Forces h.facts q (asked_decision r)
  asked_forces q r a = subst (Forces h.facts q) (sym (a.decision_is ∙ ap (λ s. decide s q) h.is)) (decided h.facts q (sym (ap free h.is) ∙ h.fitted))

  module _ (q : Equation) (small : Small most q) (o : decide (state f) q ≡ Open) where
    open_tests : (settled (state f).classes q ≡ false) × (free (yes_to (state f) q) ≡ true)
    open_tests = decide_cases (λ d. d ≡ Open → (settled (state f).classes q ≡ false) × (free (yes_to (state f) q) ≡ true)) (state f) q
        (λ _ e. cc) (λ n t _. (n, t)) (λ _ _ e. cc) o

    -- an open answer leaves a record that some choice of counts fits
    pub holds_yes : {g : Facts} → state g ≡ yes_to (state f) q → Holds most_no most g
    holds_yes e = worked_yes h q small open_tests.1 e

    pub holds_no : {g : Facts} → state g ≡ no_to (state f) q → Holds (suc most_no) most g
    holds_no {g} e = record {
      facts = fact q false ∷ h.facts;
      small = (small, h.small);
      is = e ∙ ap (λ s. no_to s q) h.is;
      fitted = ap free e ∙ no_to_free (state f) q h.fitted open_tests.0;
      few =
          let n : g.noes.count ≡ suc f.noes.count = sym (noes_length g.noes.pairs g.noes.count) ∙ ap (λ (s : State). length s.noes) e ∙ ap suc (noes_length f.noes.pairs f.noes.count) in
          omega (arith, h.few);
    }

-- no facts
pub holds_none : (most : ℕ) {f : Facts} → state f ≡ start → Holds 0 most f
holds_none most {f} e = record {
  facts = [];
  small = tt;
  is = e;
  fitted = ap free e;
  few =
      let n : f.noes.count ≡ 0 = sym (noes_length f.noes.pairs f.noes.count) ∙ ap (λ (s : State). length s.noes) e in
      omega arith;
}
