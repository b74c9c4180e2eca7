-- A claim about a test, or about what a test picks, holds if it holds on either outcome with what that outcome says.
use Prim.Native.Nat.{ℕ, ◌≤◌, ◌<◌}
use mathlib.Core.Path.{◌≡◌, refl}
use mathlib.Core.Logic.{◌≢◌}
use mathlib.Core.Bool.{Bool, true, false}
use borrow.Author.Tests.{ltb-true, ltb-false, leb-true, leb-false, eqb-true, eqb-false}
use lib.Dec.{leb, ltb, eqb}

module _ {ℓ} (P : Bool → Type ℓ) where
  pub by_test : (t : Bool) → (t ≡ true → P true) → (t ≡ false → P false) → P t
  by_test true f g = f refl
  by_test false f g = g refl

  pub by_eq : (x y : ℕ) → (x ≡ y → P true) → (x ≢ y → P false) → P (eqb x y)
  by_eq x y f g = by_test (eqb x y) (λ t. f (eqb-true x y t)) (λ t. g (eqb-false x y t))

  pub by_lt : (x y : ℕ) → (x < y → P true) → (y ≤ x → P false) → P (ltb x y)
  by_lt x y f g = by_test (ltb x y) (λ t. f (ltb-true x y t)) (λ t. g (ltb-false x y t))

  pub by_le : (x y : ℕ) → (x ≤ y → P true) → (y < x → P false) → P (leb x y)
  by_le x y f g = by_test (leb x y) (λ t. f (leb-true x y t)) (λ t. g (leb-false x y t))
