-- A free state is fitted by some choice of counts: with the classes' bases far apart, a question across two classes is false, and one within a
-- class is decided by the offsets. A state that is not free is fitted by none.
use Prim.Native.Nat.{ℕ, ◌+◌, ◌-◌, ◌*◌, ◌/◌, ◌≤◌, ◌<◌}
use mathlib.Core.Path.{◌≡◌, refl, sym, ap, ◌∙◌}
use mathlib.Core.Logic.{◌≢◌}
use mathlib.Core.Bool.{Bool, true, false, cond, not, ◌&&◌, true≢false, false≢true}
use mathlib.Core.List.{List, [], ◌∷◌}
use native.Mathlib.Omega.{arith}
use borrow.Author.Tests.{ne_eqb}
use lib.Arith.{digits_div}
use lib.Dec.{eqb}
use Rattle.terms.specs.declared.term.Equation.{Equation}
use Rattle.terms.specs.Meaning.{Valuation, count, truth}
use Rattle.facts.specs.declared.fact.Fact.{Fact}
use Rattle.facts.specs.State.{ZeroKept, Classes, State, AllFalse, Classed, Fit, left_side, right_side, settled, none_settled, free, joined, join, planned, work_in, state_of, spacing, some_sheet}
use Rattle.terms.proofs.Cases.{by_eq, by_test}
use Rattle.facts.proofs.PlanCases.{plan_cases, settled_cases}
use Rattle.facts.proofs.StateExact.{on_bases, from_bases}

-- ---- fitted, so free
settled_true : {c : Classes} {b : ℕ → ℕ} {v : Valuation} → Classed c b v → (q : Equation) → settled c q ≡ true → truth v q ≡ true
settled_true {c} {b} {v} k q = settled_cases (λ t. t ≡ true → truth v q ≡ true) c q
    (λ h g _. from_bases k q (omega (arith, ap b h))) (λ _ f. absurd (false≢true f))

none_settled_fit : {c : Classes} {b : ℕ → ℕ} {v : Valuation} → Classed c b v → (qs : List Equation) → AllFalse v qs → none_settled c qs ≡ true
none_settled_fit k [] a = refl
none_settled_fit {c} {b} {v} k (q ∷ qs) a = by_test (λ t. (not t && none_settled c qs) ≡ true) (settled c q)
    (λ t. absurd (true≢false (sym (settled_true k q t) ∙ a.0))) (λ _. none_settled_fit k qs a.1)

pub fit_free : (s : State) (v : Valuation) → Fit s v → free s ≡ true
fit_free s v k = none_settled_fit k.classed s.noes k.noes_false

-- a settled question is true in every choice of counts that fits
pub settled_fit : {s : State} {v : Valuation} → Fit s v → (q : Equation) → settled s.classes q ≡ true → truth v q ≡ true
settled_fit k q t = settled_true k.classed q t

-- ---- free, so fitted
spacing_pos : (c : Classes) (qs : List Equation) → 0 < spacing c qs
unfolding spacing
spacing_pos c [] = omega arith
spacing_pos c (q ∷ qs) = omega (arith, spacing_pos c qs)

spread : Classes → ℕ → Valuation
spread c m f = c.class f.0 * m + c.offset f.0

spread_classed : (c : Classes) (m : ℕ) → ZeroKept c → Classed c (λ k. k * m) (spread c m)
unfolding spread count
spread_classed c m z = record {
  at_zero = omega arith;
  at_field = λ f. by_eq (λ t. cond t 0 (c.class f * m + c.offset f) ≡ c.class f * m + c.offset f) f 0
      (λ e. omega (arith, ap (λ x. c.class x * m) e, ap (λ x. x * m) z.class_zero, ap c.offset e, z.offset_zero))
      (λ _. refl);
}

same_class : (p t a c m : ℕ) → a < m → c < m → p * m + a ≡ t * m + c → p ≡ t
same_class p t a c m h g e = sym (digits_div p h) ∙ ap (λ x. x / m) e ∙ digits_div t g

spread_false : (c : Classes) (m : ℕ) (z : ZeroKept c) (q : Equation) → left_side c q < m → right_side c q < m → settled c q ≡ false → truth (spread c m) q ≡ false
spread_false c m z q h g = settled_cases (λ t. t ≡ false → truth (spread c m) q ≡ false) c q
    (λ _ _ f. absurd (true≢false f))
    (λ n _. by_test (λ t. t ≡ false) (truth (spread c m) q)
    (λ i. let e = on_bases (spread_classed c m z) q i in
    let s : c.class q.left.field.0 ≡ c.class q.right.field.0 =
    same_class (c.class q.left.field.0) (c.class q.right.field.0) (left_side c q) (right_side c q) m h g e in
    absurd (n s (omega (arith, ap (λ x. x * m) s))))
    (λ _. refl))

spread_all_false : (c : Classes) (m : ℕ) (z : ZeroKept c) (qs : List Equation) → spacing c qs ≤ m → none_settled c qs ≡ true → AllFalse (spread c m) qs
unfolding spacing
spread_all_false c m z [] h = λ _. tt
spread_all_false c m z (q ∷ qs) h = by_test (λ t. (not t && none_settled c qs) ≡ true → AllFalse (spread c m) (q ∷ qs)) (settled c q)
    (λ _ f. absurd (false≢true f))
    (λ n u.
    let pos : 0 < spacing c qs = spacing_pos c qs in
    (spread_false c m z q (omega arith) (omega arith) n, spread_all_false c m z qs (omega arith) u))

pub free_fit : (s : State) → ZeroKept s.classes → free s ≡ true → Fit s (some_sheet s)
unfolding some_sheet spread
free_fit s z t =
    let m = spacing s.classes s.noes in
    record { base = λ k. k * m; classed = spread_classed s.classes m z; noes_false = spread_all_false s.classes m z s.noes (omega arith) t }

-- ---- field 0 stays in class 0
joined_zero : (c : Classes) (p t d : ℕ) → t ≢ 0 → ZeroKept c → ZeroKept (joined c (join p t d))
joined_zero c p t d n z =
    let other : eqb (c.class 0) t ≡ false = ne_eqb (c.class 0) t (λ e. n (sym e ∙ z.class_zero)) in
    record { class_zero = rw other z.class_zero; offset_zero = rw other z.offset_zero }

pub work_in_zero : (s : State) (q : Equation) (a : Bool) → ZeroKept s.classes → ZeroKept (work_in s q a).classes
work_in_zero s q true z =
    let p = s.classes.class q.left.field.0 in
    let t = s.classes.class q.right.field.0 in
    let a = left_side s.classes q in
    let c = right_side s.classes q in
    plan_cases (λ x. ZeroKept (planned s x).classes) p t a c
    (λ _ _. z) (λ _ _. z)
    (λ h o _. joined_zero s.classes t p 0 (λ e. h (e ∙ sym o)) z) (λ _ _ _. z) (λ _ o _. joined_zero s.classes p t (a - c) o z)
    (λ _ _ _. z) (λ _ o _. joined_zero s.classes t p (c - a) o z)
work_in_zero s q false z = z

pub state_of_zero : (xs : List Fact) → ZeroKept (state_of xs).classes
state_of_zero [] = record { class_zero = refl; offset_zero = refl }
state_of_zero (x ∷ xs) = work_in_zero (state_of xs) x.question x.answer (state_of_zero xs)
