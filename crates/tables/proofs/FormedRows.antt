-- A row that is well formed refers to lower rows: each reference of its kind was compared.
use Prim.Native.Nat.{ℕ, ◌<◌}
use mathlib.Core.Path.{◌≡◌}
use mathlib.Core.Bool.{Bool, true, false, cond, ◌&&◌, and-false}
use native.Mathlib.Omega.{arith}
use borrow.Author.Tests.{ltb-true, lt-leb}
use lib.Dec.{eqb, ltb}
use Rattle.tables.specs.declared.decoding.Part.TheVariants as part
use Rattle.tables.specs.declared.decoding.Shape.{Shape}
use Rattle.tables.specs.declared.decoding.Shape.TheVariants.{Leaf, Equation, Choice}
use Rattle.tables.specs.declared.row.Row.{Row}
use Rattle.tables.specs.Decoding.{decode, Lower}
use Rattle.tables.specs.Faults.{well_formed}
use Rattle.terms.specs.Words.{equation, term_of}
use Rattle.store.proofs.Tests.{passes}
use Rattle.terms.proofs.Cases.{by_eq}

module _ (i : ℕ) (r : Row) where
  -- the tests and the shapes of the kinds from 2, from 3, from 4 and of 5
  abbrev test₅ : Bool
  test₅ = cond (eqb r.kind 5) (ltb r.a i && ltb r.b i && ltb r.c i) false

  abbrev test₄ : Bool
  test₄ = cond (eqb r.kind 4) (ltb r.a i && ltb r.b i && eqb r.c 0) test₅

  abbrev test₃ : Bool
  test₃ = cond (eqb r.kind 3) (ltb r.a i && eqb r.b 0 && eqb r.c 0) test₄

  abbrev test₂ : Bool
  test₂ = cond (eqb r.kind 2) (eqb r.c 0) test₃

  abbrev shape₅ : Shape
  shape₅ = cond (eqb r.kind 5) (Choice (part.Row r.a) (part.Row r.b) (part.Row r.c)) (Leaf false)

  abbrev shape₄ : Shape
  shape₄ = cond (eqb r.kind 4) (Choice (part.Row r.a) (part.Row r.b) (part.Leaf false)) shape₅

  abbrev shape₃ : Shape
  shape₃ = cond (eqb r.kind 3) (Choice (part.Row r.a) (part.Leaf false) (part.Leaf true)) shape₄

  abbrev shape₂ : Shape
  shape₂ = cond (eqb r.kind 2) (Equation (equation (term_of r.a) (term_of r.b))) shape₃

  first_low : (w : ℕ) (x y : Bool) → (ltb w i && x && y) ≡ true → w < i
  first_low w x y e = ltb-true w i (passes (ltb w i) (λ f. rw f at e))

  second_low : (w : ℕ) (x y : Bool) → (x && ltb w i && y) ≡ true → w < i
  second_low w x y e = ltb-true w i (passes (ltb w i) (λ f. simp (f, and-false) at e))

  third_low : (w : ℕ) (x y : Bool) → (x && y && ltb w i) ≡ true → w < i
  third_low w x y e = ltb-true w i (passes (ltb w i) (λ f. simp (f, and-false) at e))

  lower₅ : test₅ ≡ true → Lower i shape₅
  lower₅ = by_eq (λ t. cond t (ltb r.a i && ltb r.b i && ltb r.c i) false ≡ true
      → Lower i (cond t (Choice (part.Row r.a) (part.Row r.b) (part.Row r.c)) (Leaf false))) r.kind 5
      (λ _ w. (first_low r.a (ltb r.b i) (ltb r.c i) w, second_low r.b (ltb r.a i) (ltb r.c i) w, third_low r.c (ltb r.a i) (ltb r.b i) w))
      (λ _ w. tt)

  lower₄ : test₄ ≡ true → Lower i shape₄
  lower₄ = by_eq (λ t. cond t (ltb r.a i && ltb r.b i && eqb r.c 0) test₅ ≡ true
      → Lower i (cond t (Choice (part.Row r.a) (part.Row r.b) (part.Leaf false)) shape₅)) r.kind 4
      (λ _ w. (first_low r.a (ltb r.b i) (eqb r.c 0) w, second_low r.b (ltb r.a i) (eqb r.c 0) w, tt))
      (λ _. lower₅)

  lower₃ : test₃ ≡ true → Lower i shape₃
  lower₃ = by_eq (λ t. cond t (ltb r.a i && eqb r.b 0 && eqb r.c 0) test₄ ≡ true
      → Lower i (cond t (Choice (part.Row r.a) (part.Leaf false) (part.Leaf true)) shape₄)) r.kind 3
      (λ _ w. (first_low r.a (eqb r.b 0) (eqb r.c 0) w, tt, tt))
      (λ _. lower₄)

  lower₂ : test₂ ≡ true → Lower i shape₂
  lower₂ = by_eq (λ t. cond t (eqb r.c 0) test₃ ≡ true → Lower i (cond t (Equation (equation (term_of r.a) (term_of r.b))) shape₃)) r.kind 2
      (λ _ _. tt) (λ _. lower₃)

  pub formed_lower : well_formed i r ≡ true → Lower i (decode r)
  unfolding well_formed decode
  formed_lower w =
      by_eq (λ t. Lower i (cond t (Leaf false) (cond (eqb r.kind 1) (Leaf true) shape₂))) r.kind 0 (λ _. tt) (λ n.
      by_eq (λ t. Lower i (cond t (Leaf true) shape₂)) r.kind 1 (λ _. tt) (λ m. lower₂ (rw (lt-leb r.kind 1 (omega arith)) at w)))
