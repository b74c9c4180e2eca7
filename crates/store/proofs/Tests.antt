-- What the tests of a sound store say: two tests pass together if each passes, a test of every number below k passes if it passes for
-- each of them, and the words of a list are all zero if every word that is read from it is.
use Prim.Native.Nat.{ℕ, zero, suc, ◌+◌, ◌<◌}
use mathlib.Core.Path.{◌≡◌, refl, sym, ◌∙◌, ap}
use mathlib.Core.Bool.{Bool, true, false, false≢true, ◌&&◌}
use mathlib.Core.List.{List, [], ◌∷◌}
use native.Mathlib.Numerals.{add-one}
use native.Mathlib.Omega.{arith}
use native.Mathlib.Decide.{ℕ_discrete}
use borrow.Author.Tests.{eqb-true, eq-eqb}
use lib.Dec.{eqb}
use lib.ListN.{get_or}
use Rattle.store.specs.Sound.{all_below, all_zero}
use Rattle.terms.proofs.Cases.{by_test}

pub first_passes : (a b : Bool) → (a && b) ≡ true → a ≡ true
first_passes true b e = refl
first_passes false b e = e

pub second_passes : (a b : Bool) → (a && b) ≡ true → b ≡ true
second_passes true b e = e
second_passes false b e = absurd (false≢true e)

both_pass : {a b : Bool} → a ≡ true → b ≡ true → (a && b) ≡ true
both_pass p q = simp (p, q)

-- a test passes if, where it fails, so do all that it is joined with
pub passes : (t : Bool) → (t ≡ false → false ≡ true) → t ≡ true
passes true f = refl
passes false f = f refl

module _ (p : ℕ → Bool) where
  pub all_below_says : (k : ℕ) → all_below k p ≡ true → (i : ℕ) → i < k → p i ≡ true
  unfolding all_below
  all_below_says zero e i h = absurd (omega arith)
  all_below_says (suc k) e i h = elim (ℕ_discrete i k) [
    | yes d ↦ ap p d ∙ second_passes (all_below k p) (p k) e
    | no n ↦ all_below_says k (first_passes (all_below k p) (p k) e) i (omega arith)
  ]

  pub all_below_from : (k : ℕ) → ((i : ℕ) → i < k → p i ≡ true) → all_below k p ≡ true
  unfolding all_below
  all_below_from zero f = refl
  all_below_from (suc k) f = both_pass (all_below_from k (λ i h. f i (omega arith))) (f k (omega arith))

  pub all_below_none : all_below 0 p ≡ true
  unfolding all_below
  all_below_none = refl

  pub all_below_more : {i : ℕ} → all_below i p ≡ true → p i ≡ true → all_below (i + 1) p ≡ true
  unfolding all_below
  all_below_more {i} e t = rw (add-one, e, t)

  pub all_below_fails : (k j : ℕ) → j < k → p j ≡ false → all_below k p ≡ false
  all_below_fails k j h e = by_test (λ t. t ≡ false) (all_below k p) (λ t. absurd (false≢true (sym e ∙ all_below_says k t j h))) (λ _. refl)

pub all_zero_says : (ws : List ℕ) → all_zero ws ≡ true → (k : ℕ) → get_or ws k 0 ≡ 0
unfolding all_zero
all_zero_says [] e k = refl
all_zero_says (w ∷ ws) e zero = eqb-true w 0 (first_passes (eqb w 0) (all_zero ws) e)
all_zero_says (w ∷ ws) e (suc k) = all_zero_says ws (second_passes (eqb w 0) (all_zero ws) e) k

pub all_zero_from : (ws : List ℕ) → ((k : ℕ) → get_or ws k 0 ≡ 0) → all_zero ws ≡ true
unfolding all_zero
all_zero_from [] f = refl
all_zero_from (w ∷ ws) f = both_pass (eq-eqb w 0 (f 0)) (all_zero_from ws (λ k. f (suc k)))
