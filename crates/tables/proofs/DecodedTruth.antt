-- A row's truth is that of what it is decoded to: by its kind, not a is if a then never else always, and a and b is if a then b else never.
use Prim.Native.Nat.{ℕ}
use mathlib.Core.Path.{◌≡◌, refl}
use mathlib.Core.Bool.{Bool, true, false, cond, not, ◌&&◌}
use lib.Dec.{eqb}
use Rattle.tables.specs.declared.decoding.Part.TheVariants as part
use Rattle.tables.specs.declared.decoding.Shape.TheVariants.{Leaf, Equation, Choice}
use Rattle.tables.specs.declared.row.Row.{Row}
use Rattle.tables.specs.Decoding.{decode, shape_truth}
use Rattle.tables.specs.Rows.{row_truth}
use Rattle.terms.specs.Meaning.{Valuation, truth}
use Rattle.terms.specs.Words.{equation, term_of}

not_is : (a : Bool) → not a ≡ cond a false true
not_is true = refl
not_is false = refl

and_is : (a b : Bool) → (a && b) ≡ cond a b false
and_is true b = refl
and_is false b = refl

pub decode_truth : (v : Valuation) (before : ℕ → Bool) (r : Row) → row_truth v before r ≡ shape_truth v before (decode r)
unfolding row_truth decode
decode_truth v before r = go (eqb r.kind 0) (eqb r.kind 1) (eqb r.kind 2) (eqb r.kind 3) (eqb r.kind 4) (eqb r.kind 5)
  where
    go : (k₀ k₁ k₂ k₃ k₄ k₅ : Bool)
        → cond k₀ false (cond k₁ true (cond k₂ (truth v (equation (term_of r.a) (term_of r.b))) (cond k₃ (not (before r.a))
        (cond k₄ (before r.a && before r.b) (cond k₅ (cond (before r.a) (before r.b) (before r.c)) false)))))
        ≡ shape_truth v before (cond k₀ (Leaf false) (cond k₁ (Leaf true) (cond k₂ (Equation (equation (term_of r.a) (term_of r.b)))
        (cond k₃ (Choice (part.Row r.a) (part.Leaf false) (part.Leaf true)) (cond k₄ (Choice (part.Row r.a) (part.Row r.b) (part.Leaf false))
        (cond k₅ (Choice (part.Row r.a) (part.Row r.b) (part.Row r.c)) (Leaf false)))))))
    go true k₁ k₂ k₃ k₄ k₅ = refl
    go false true k₂ k₃ k₄ k₅ = refl
    go false false true k₃ k₄ k₅ = refl
    go false false false true k₄ k₅ = not_is (before r.a)
    go false false false false true k₅ = and_is (before r.a) (before r.b)
    go false false false false false true = refl
    go false false false false false false = refl
