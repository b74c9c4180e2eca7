-- Going through words from the front, with whether those so far are zero, says whether all are; and where the first words are zero, all are if the others are.
use mathlib.Core.Path.{◌≡◌, refl, sym, ap, ◌∙◌}
use mathlib.Core.Bool.{Bool, true, false, ◌&&◌, and-true}
use mathlib.Core.List.{List, [], ◌∷◌}
use Prim.Native.Nat.{ℕ, zero, suc}
use lib.Dec.{eqb}
use lib.ListN.{take, drop}
use Rattle.std.specs.Prelude.{fold}
use Rattle.std.proofs.Math.Bool.{and_assoc}
use Rattle.store.specs.Sound.{all_zero}

zeros_from : (b : Bool) (ws : List ℕ) → fold (λ z w. z && eqb w 0) b ws ≡ (b && all_zero ws)
unfolding all_zero
zeros_from b [] = sym (and-true b)
zeros_from b (w ∷ ws) = zeros_from (b && eqb w 0) ws ∙ and_assoc b (eqb w 0) (all_zero ws)

pub zeros : (ws : List ℕ) → fold (λ z w. z && eqb w 0) true ws ≡ all_zero ws
zeros ws = zeros_from true ws

in_parts : (n : ℕ) (ws : List ℕ) → all_zero ws ≡ (all_zero (take n ws) && all_zero (drop n ws))
unfolding all_zero
in_parts zero ws = refl
in_parts (suc n) [] = refl
in_parts (suc n) (w ∷ ws) = ap (λ b. eqb w 0 && b) (in_parts n ws) ∙ sym (and_assoc (eqb w 0) (all_zero (take n ws)) (all_zero (drop n ws)))

-- a part whose words are all zero says nothing, and one that has another word decides
module _ (words rest : List ℕ) (n : ℕ) (inv : all_zero rest ≡ all_zero words) {front : List ℕ} (ef : front ≡ take n rest) {b : Bool} (eb : b ≡ all_zero front) where
  split : all_zero rest ≡ (b && all_zero (drop n rest))
  split = in_parts n rest ∙ ap (λ (t : Bool). t && all_zero (drop n rest)) (ap all_zero (sym ef) ∙ sym eb)

  pub part_passed : b ≡ true → {back : List ℕ} → back ≡ drop n rest → all_zero back ≡ all_zero words
  part_passed t e = ap all_zero e ∙ sym (rw t at split) ∙ inv

  pub part_stops : b ≡ false → false ≡ all_zero words
  part_stops t = sym (rw t at split) ∙ inv
