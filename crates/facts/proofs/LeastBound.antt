-- No count of the least sheet is above n × (k + 1), for n fields and gaps up to k: sorted with 0 among them, neighbouring counts are at most
-- k + 1 apart, or else all counts above the space could be one less and every question would keep its truth.
use Prim.Native.Nat.{ℕ, zero, suc, ◌+◌, ◌-◌, ◌*◌, ◌≤◌, ◌<◌}
use mathlib.Core.Path.{◌≡◌, refl, ap}
use mathlib.Core.Logic.{◌⊎◌, inl, inr}
use mathlib.Core.Bool.{cond}
use mathlib.Core.List.{List, [], ◌∷◌}
use native.Mathlib.Omega.{arith}
use native.Mathlib.Decide.{dec_le}
use lib.Dec.{leb, eqb}
use Rattle.terms.specs.declared.term.Equation.{Equation}
use Rattle.terms.specs.Meaning.{Valuation, count, truth}
use Rattle.terms.specs.Words.{field}
use Rattle.facts.specs.State.{at}
use Rattle.facts.specs.Least.{IsLeast, Near, All, RestsOn}
use Rattle.terms.proofs.Cases.{by_eq, by_le}
use Rattle.terms.proofs.SimplifyTruth.{count_zero, same_test}

-- ---- every count above t one less
sunk : Valuation → ℕ → Valuation
sunk v t f = cond (leb (v f) t) (v f) (v f - 1)

sunk_at : (v : Valuation) (t f : ℕ) → at (sunk v t) f ≡ cond (leb (at v f) t) (at v f) (at v f - 1)
unfolding sunk count
sunk_at v t f = by_eq (λ b. cond b 0 (cond (leb (v (field f)) t) (v (field f)) (v (field f) - 1)) ≡ cond (leb (cond b 0 (v (field f))) t) (cond b 0 (v (field f))) (cond b 0 (v (field f)) - 1)) f 0
    (λ _. by_le (λ b. 0 ≡ cond b 0 (0 - 1)) 0 t (λ _. refl) (λ h. refl)) (λ _. refl)

-- what a count becomes, with no count in the k + 1 above t
data Sunk (t k x : ℕ) : ℕ → Type 0 where
  low : x ≤ t → Sunk t k x x
  high : {y : ℕ} → suc y ≡ x → t + k + 1 < x → Sunk t k x y

-- no count of a field up to n is in the k + 1 above t
abbrev Bare : ℕ → ℕ → Valuation → ℕ → Type 0
Bare n k v t = (f : ℕ) → f ≤ n → at v f ≤ t + k + 1 → at v f ≤ t

sunk_is : (n k : ℕ) (v : Valuation) (t : ℕ) → Bare n k v t → (f : ℕ) → f ≤ n → Sunk t k (at v f) (at (sunk v t) f)
sunk_is n k v t a f l = rw (sunk_at v t f) (by_le (λ b. Sunk t k (at v f) (cond b (at v f) (at v f - 1))) (at v f) t (λ h. low h)
    (λ h. high (omega arith) (elim (dec_le (at v f) (t + k + 1)) [ yes g ↦ absurd (omega (arith, a f l g)) | no g ↦ omega arith ])))

same_by : (t k x y x' y' ls rs : ℕ) → Sunk t k x x' → Sunk t k y y' → rs ≤ ls + k → ls ≤ rs + k → eqb (x + ls) (y + rs) ≡ eqb (x' + ls) (y' + rs)
same_by t k x y x' y' ls rs (low h) (low g) u d = refl
same_by t k x y x' y' ls rs (low h) (high e g) u d = same_test (x + ls) (y + rs) (x + ls) (y' + rs) (λ i. omega arith) (λ i. omega arith)
same_by t k x y x' y' ls rs (high e h) (low g) u d = same_test (x + ls) (y + rs) (x' + ls) (y + rs) (λ i. omega arith) (λ i. omega arith)
same_by t k x y x' y' ls rs (high e h) (high i g) u d = same_test (x + ls) (y + rs) (x' + ls) (y' + rs) (λ j. omega arith) (λ j. omega arith)

module _ (n k : ℕ) (v : Valuation) (t : ℕ) (a : Bare n k v t) where
  sunk_same : (q : Equation) → Near n k q → truth v q ≡ truth (sunk v t) q
  sunk_same q m = same_by t k _ _ _ _ q.left.steps.0 q.right.steps.0
      (sunk_is n k v t a q.left.field.0 m.left_in) (sunk_is n k v t a q.right.field.0 m.right_in) m.gap_up m.gap_down

  sunk_all : (qs : List Equation) → All (Near n k) qs → All (λ q. truth v q ≡ truth (sunk v t) q) qs
  sunk_all [] m = tt
  sunk_all (q ∷ qs) m = (sunk_same q m.0, sunk_all qs m.1)

-- ---- how many of the fields 1 to n count at most t
up_to : Valuation → ℕ → ℕ → ℕ
up_to v zero t = 0
up_to v (suc n) t = cond (leb (at v (suc n)) t) 1 0 + up_to v n t

-- the count of one field, for two thresholds
module _ (x t u : ℕ) (h : t ≤ u) where
  data Counted : ℕ → ℕ → Type 0 where
    both : x ≤ t → Counted 1 1
    above : t < x → x ≤ u → Counted 0 1
    none : u < x → Counted 0 0

  counted : Counted (cond (leb x t) 1 0) (cond (leb x u) 1 0)
  counted = by_le (λ b. Counted (cond b 1 0) (cond (leb x u) 1 0)) x t
      (λ i. by_le (λ b. Counted 1 (cond b 1 0)) x u (λ _. both i) (λ j. absurd (omega arith)))
      (λ i. by_le (λ b. Counted 0 (cond b 1 0)) x u (λ j. above i j) (λ j. none j))

up_to_mono : (v : Valuation) (n t u : ℕ) → t ≤ u → up_to v n t ≤ up_to v n u
unfolding up_to
up_to_mono v zero t u h = omega arith
up_to_mono v (suc n) t u h = go (counted (at v (suc n)) t u h) (up_to_mono v n t u h)
  where
    go : {a b : ℕ} → Counted (at v (suc n)) t u h a b → up_to v n t ≤ up_to v n u → a + up_to v n t ≤ b + up_to v n u
    go (both _) r = omega arith
    go (above _ _) r = omega arith
    go (none _) r = omega arith

-- if no more fields count at most u than at most t, none counts between
module _ (x t u : ℕ) (h : t ≤ u) (c d : ℕ) (below : c ≤ d) where
  rest_few : {a b : ℕ} → Counted x t u h a b → b + d ≤ a + c → d ≤ c
  rest_few (both _) few = omega arith
  rest_few (above _ _) few = omega arith
  rest_few (none _) few = omega arith

  last_low : {a b : ℕ} → Counted x t u h a b → b + d ≤ a + c → x ≤ u → x ≤ t
  last_low (both i) few _ = i
  last_low (above _ _) few _ = absurd (omega arith)
  last_low (none i) few y = absurd (omega arith)

up_to_same : (v : Valuation) (n t u : ℕ) → t ≤ u → up_to v n u ≤ up_to v n t → (f : ℕ) → f ≤ n → at v f ≤ u → at v f ≤ t
unfolding up_to
up_to_same v zero t u h e f l i = let z : f ≡ 0 = omega arith in omega (arith, ap (at v) z, count_zero v (field 0) refl)
up_to_same v (suc n) t u h e f l i =
    let x = at v (suc n) in
    let below = up_to_mono v n t u h in
    elim (dec_le f n) [
      | yes j ↦ up_to_same v n t u h (rest_few x t u h (up_to v n t) (up_to v n u) below (counted x t u h) e) f j i
      | no j ↦ let z : f ≡ suc n = omega arith in omega (arith, ap (at v) z, last_low x t u h (up_to v n t) (up_to v n u) below (counted x t u h) e (omega (arith, ap (at v) z)))
    ]

up_to_le : (v : Valuation) (n t : ℕ) → up_to v n t ≤ n
unfolding up_to
up_to_le v zero t = omega arith
up_to_le v (suc n) t = by_le (λ b. cond b 1 0 + up_to v n t ≤ suc n) (at v (suc n)) t (λ _. omega (arith, up_to_le v n t)) (λ _. omega (arith, up_to_le v n t))

up_to_all : (v : Valuation) (n t : ℕ) → n ≤ up_to v n t → (f : ℕ) → f ≤ n → at v f ≤ t
up_to_all v n t h f l = elim (dec_le (at v f) t) [
  | yes i ↦ i
  | no i ↦ up_to_same v n t (t + at v f) (omega arith) (omega (arith, up_to_le v n (t + at v f))) f l (omega arith)
]

-- ---- the bound
module _ (n k : ℕ) (qs : List Equation) (Meets : Valuation → Type 0) (near : All (Near n k) qs) (rests : RestsOn qs Meets)
    (v : Valuation) (is : IsLeast n Meets v) where
  -- if no count is in the k + 1 above t, none is above t
  bare_le : (t : ℕ) → Bare n k v t → (m f : ℕ) → f < m → f ≤ n → at v f ≤ t
  bare_le t a zero f h l = absurd (omega arith)
  bare_le t a (suc m) f h l =
      let below : (g : ℕ) → g < f → at v g ≡ at (sunk v t) g = λ g i. agree g (bare_le t a m g (omega arith) (omega arith)) in
      fall (is.least (sunk v t) (rests v (sunk v t) (sunk_all n k v t a qs near) is.meets) f l below)
    where
      agree : (g : ℕ) → at v g ≤ t → at v g ≡ at (sunk v t) g
      agree g i = rw (sunk_at v t g) (by_le (λ b. at v g ≡ cond b (at v g) (at v g - 1)) (at v g) t (λ _. refl) (λ j. absurd (omega arith)))

      fall : at v f ≤ at (sunk v t) f → at v f ≤ t
      fall = rw (sunk_at v t f) (by_le (λ b. at v f ≤ cond b (at v f) (at v f - 1) → at v f ≤ t) (at v f) t (λ i _. i) (λ j i. absurd (omega arith)))

  climb : (j : ℕ) → j ≤ up_to v n (j * (k + 1)) ⊎ ((f : ℕ) → f ≤ n → at v f ≤ j * (k + 1))
  climb zero = inl (omega arith)
  climb (suc j) = elim (climb j) [
    | inr a ↦ inr (λ f l. omega (arith, a f l))
    | inl c ↦ elim (dec_le (up_to v n (suc j * (k + 1))) (up_to v n (j * (k + 1)))) [
      | no g ↦ inl (omega arith)
      | yes g ↦ inr (λ f l. omega (arith, bare_le (j * (k + 1)) (λ f l h. up_to_same v n (j * (k + 1)) (suc j * (k + 1)) (omega arith) g f l (omega arith)) (suc f) f (omega arith) l))
    ]
  ]

  -- "No count exceeds n × (K + 1)"
  pub least_bound : (f : ℕ) → f ≤ n → at v f ≤ n * (k + 1)
  least_bound = elim (climb n) [ inr a ↦ a | inl c ↦ up_to_all v n (n * (k + 1)) c ]
