-- Fixing each field in turn at the least count that leaves the state free gives the least sheet: any sheet that agrees on the fields before
-- could be fixed there too, so its count is no smaller.
use Prim.Native.Nat.{ℕ, zero, suc, ◌+◌, ◌≤◌, ◌<◌}
use mathlib.Core.Path.{◌≡◌, refl, sym, ap, ◌∙◌, subst}
use mathlib.Core.Logic.{◌≢◌}
use mathlib.Core.Bool.{Bool, true, cond, true≢false}
use native.Mathlib.Omega.{arith}
use native.Mathlib.Decide.{dec_le}
use borrow.Author.Tests.{eqb-true, eq-eqb}
use Rattle.terms.specs.Meaning.{Valuation, value, truth}
use Rattle.terms.specs.Words.{field}
use Rattle.facts.specs.State.{ZeroKept, State, at, Fit, free, yes_to, some_sheet}
use Rattle.facts.specs.Least.{IsLeast, counts, first_from, can_count, least_count, fixed, least_sheet}
use Rattle.terms.proofs.Cases.{by_test}
use Rattle.terms.proofs.SimplifyTruth.{count_zero}
use Rattle.facts.proofs.StateExact.{yes_in, yes_out}
use Rattle.facts.proofs.StateFree.{fit_free, free_fit, work_in_zero}

-- ---- a count as a fact
pub counts_true : (v : Valuation) (f x : ℕ) → at v f ≡ x → truth v (counts f x) ≡ true
counts_true v f x e = eq-eqb (value v (counts f x).left) (value v (counts f x).right) (omega (arith, count_zero v (field 0) refl))

pub counts_says : (v : Valuation) (f x : ℕ) → truth v (counts f x) ≡ true → at v f ≡ x
counts_says v f x t = omega (arith, eqb-true (value v (counts f x).left) (value v (counts f x).right) t, count_zero v (field 0) refl)

-- ---- the least count
first_of : (d : ℕ) (p : ℕ → Bool) (x y : ℕ) → x ≤ y → y ≤ x + d → p y ≡ true → (p (first_from d p x) ≡ true) × (first_from d p x ≤ y)
unfolding first_from
first_of zero p x y h g t = let e : y ≡ x = omega arith in (subst (λ z. p z ≡ true) e t, h)
first_of (suc d) p x y h g t = by_test (λ c. (p (cond c x (first_from d p (suc x))) ≡ true) × (cond c x (first_from d p (suc x)) ≤ y)) (p x)
    (λ u. (u, h))
    (λ n. let m : x ≢ y = λ e. true≢false (sym t ∙ ap p (sym e) ∙ n) in first_of d p (suc x) y (omega arith) (omega arith) t)

-- the count that a fitting choice has is possible
can_count_so : (s : State) (v : Valuation) (f : ℕ) → Fit s v → can_count s f (at v f) ≡ true
can_count_so s v f k = fit_free (yes_to s (counts f (at v f))) v (yes_in s (counts f (at v f)) v k (counts_true v f (at v f) refl))

-- a possible count is that of some choice that fits
pub count_fits : (s : State) → ZeroKept s.classes → (f x : ℕ) → can_count s f x ≡ true → (v : Valuation) × Fit s v × (at v f ≡ x)
count_fits s z f x t =
    let q = counts f x in
    let v = some_sheet (yes_to s q) in
    let k = yes_out s q v (free_fit (yes_to s q) (work_in_zero s q true z) t) in
    (v, k.0, counts_says v f x k.1)

module _ (s : State) (z : ZeroKept s.classes) (t : free s ≡ true) (f : ℕ) where
  found : (can_count s f (least_count s f) ≡ true) × (least_count s f ≤ at (some_sheet s) f)
  found = first_of (at (some_sheet s) f) (can_count s f) 0 (at (some_sheet s) f) (omega arith) (omega arith) (can_count_so s (some_sheet s) f (free_fit s z t))

  pub least_count_can : can_count s f (least_count s f) ≡ true
  least_count_can = found.0

  pub least_count_le : (v : Valuation) → Fit s v → least_count s f ≤ at v f
  least_count_le v k =
      elim (dec_le (at v f) (at (some_sheet s) f)) [
        | yes l ↦ (first_of (at (some_sheet s) f) (can_count s f) 0 (at v f) (omega arith) (omega arith) (can_count_so s v f k)).1
        | no l ↦ omega (arith, found.1)
      ]

-- ---- the fields fixed in turn
pub fixed_zero : (n : ℕ) (s : State) → ZeroKept s.classes → ZeroKept (fixed n s).classes
unfolding fixed
fixed_zero zero s z = z
fixed_zero (suc n) s z = work_in_zero (fixed n s) (counts (suc n) (least_count (fixed n s) (suc n))) true (fixed_zero n s z)

pub fixed_free : (n : ℕ) (s : State) → ZeroKept s.classes → free s ≡ true → free (fixed n s) ≡ true
unfolding fixed
fixed_free zero s z t = t
fixed_free (suc n) s z t = least_count_can (fixed n s) (fixed_zero n s z) (fixed_free n s z t) (suc n)

pub fixed_down : (n m : ℕ) (s : State) (v : Valuation) → m ≤ n → Fit (fixed n s) v → Fit (fixed m s) v
unfolding fixed
fixed_down zero m s v l k = let e : 0 ≡ m = omega arith in subst (λ j. Fit (fixed j s) v) e k
fixed_down (suc n) m s v l k = elim (dec_le m n) [
  | yes h ↦ fixed_down n m s v h (yes_out (fixed n s) (counts (suc n) (least_count (fixed n s) (suc n))) v k).0
  | no h ↦ let e : suc n ≡ m = omega arith in subst (λ j. Fit (fixed j s) v) e k
]

pub fixed_at : (m : ℕ) (s : State) (v : Valuation) → Fit (fixed (suc m) s) v → at v (suc m) ≡ least_count (fixed m s) (suc m)
unfolding fixed
fixed_at m s v k = counts_says v (suc m) (least_count (fixed m s) (suc m)) (yes_out (fixed m s) (counts (suc m) (least_count (fixed m s) (suc m))) v k).1

-- a choice of counts that agrees on the fixed fields fits too
fixed_agree : (m : ℕ) (s : State) (v w : Valuation) → Fit (fixed m s) v → Fit s w → ((g : ℕ) → g < suc m → at v g ≡ at w g) → Fit (fixed m s) w
unfolding fixed
fixed_agree zero s v w k j a = j
fixed_agree (suc m) s v w k j a =
    let below = fixed_down (suc m) m s v (omega arith) k in
    yes_in (fixed m s) (counts (suc m) (least_count (fixed m s) (suc m))) w (fixed_agree m s v w below j (λ g l. a g (omega arith)))
    (counts_true w (suc m) (least_count (fixed m s) (suc m)) (sym (a (suc m) (omega arith)) ∙ fixed_at m s v k))

module _ (n : ℕ) (s : State) (z : ZeroKept s.classes) (t : free s ≡ true) where
  -- a choice of counts that fits the fixed fields is least
  pub fixed_least : (v : Valuation) → Fit (fixed n s) v → IsLeast n (Fit s) v
  unfolding fixed
  fixed_least v k = record { meets = fixed_down n 0 s v (omega arith) k; least = λ w j f. go w j f }
    where
      go : (w : Valuation) → Fit s w → (f : ℕ) → f ≤ n → ((g : ℕ) → g < f → at v g ≡ at w g) → at v f ≤ at w f
      go w j zero l a = omega (arith, count_zero v (field 0) refl)
      go w j (suc m) l a =
          let here = fixed_down n (suc m) s v l k in
          let below = fixed_down n m s v (omega arith) k in
          omega (arith, fixed_at m s v here, least_count_le (fixed m s) (fixed_zero m s z) (fixed_free m s z t) (suc m) w (fixed_agree m s v w below j a))

  pub least_sheet_fits : Fit (fixed n s) (least_sheet n s)
  least_sheet_fits = free_fit (fixed n s) (fixed_zero n s z) (fixed_free n s z t)

  -- no fitting sheet is before it
  pub least_sheet_least : IsLeast n (Fit s) (least_sheet n s)
  least_sheet_least = fixed_least (least_sheet n s) least_sheet_fits
