-- No count of the example is above n × (k + 1), for gaps up to k: a handle's meaning rests on the questions of the list only, and so the bound
-- of a least sheet holds.
use Prim.Native.Nat.{ℕ, zero, suc, ◌+◌, ◌-◌, ◌*◌, ◌≤◌, ◌<◌}
use mathlib.Core.Path.{◌≡◌, sym, ◌∙◌}
use mathlib.Core.Bool.{true, cond}
use mathlib.Core.List.{List, [], ◌∷◌}
use native.Mathlib.Omega.{arith}
use native.Mathlib.Decide.{ℕ_discrete}
use lib.IntN.{pos, negsuc, nat_abs, ◌-ℤ◌}
use Rattle.examples.specs.LargestGap.{list_gap}
use Rattle.facts.specs.Least.{IsLeast, Near, All, RestsOn}
use Rattle.facts.specs.State.{at}
use Rattle.terms.specs.declared.limits.Limits.{Limits}
use Rattle.store.specs.Layout.{field_count, question_count, used, question, leaves}
use Rattle.store.specs.Meaning.{meaning}
use Rattle.terms.specs.declared.term.Equation.{Equation}
use Rattle.terms.specs.Meaning.{Valuation, truth}
use Rattle.examples.proofs.LargestGapIs.{largest_gap_is}
use Rattle.facts.proofs.LeastBound.{least_bound}
use Rattle.store.specs.SoundParts.{Sound}
use Rattle.store.proofs.SoundList.{sound_question}
use Rattle.store.proofs.MeaningRests.{same_meaning}
use Rattle.terms.proofs.Cases.{by_lt}

-- the first so many questions
list : List ℕ → ℕ → List Equation
list s zero = []
list s (suc k) = question s (suc k) ∷ list s k

list_all : (P : Equation → Type 0) (s : List ℕ) (k : ℕ) → ((j : ℕ) → 1 ≤ j → j ≤ k → P (question s j)) → All P (list s k)
unfolding list
list_all P s zero p = tt
list_all P s (suc k) p = (p (suc k) (omega arith) (omega arith), list_all P s k (λ j h l. p j h (omega arith)))

list_each : (P : Equation → Type 0) (s : List ℕ) (k : ℕ) → All P (list s k) → (j : ℕ) → 1 ≤ j → j ≤ k → P (question s j)
unfolding list
list_each P s zero a j h l = absurd (omega arith)
list_each P s (suc k) a j h l = elim (ℕ_discrete j (suc k)) [
  | yes e ↦ rw e a.0
  | no d ↦ list_each P s k a.1 j h (omega arith)
]

module _ {limits : Limits} {s : List ℕ} (snd : Sound limits s) (handle : ℕ) (h : handle < used s + leaves) where
  meaning_rests : RestsOn (list s (question_count s)) (λ v. meaning s handle v ≡ true)
  meaning_rests v w same m =
      sym (same_meaning snd v w (list_each (λ q. truth v q ≡ truth w q) s (question_count s) same) handle h) ∙ m

  -- "No count exceeds n × (K + 1)"
  pub example_bound : (n k : ℕ) → ((j : ℕ) → 1 ≤ j → j ≤ question_count s → Near n k (question s j))
      → (v : Valuation) → IsLeast n (λ w. meaning s handle w ≡ true) v → (f : ℕ) → f ≤ n → at v f ≤ n * (k + 1)
  example_bound n k near v is f l =
      least_bound n k (list s (question_count s)) (λ w. meaning s handle w ≡ true) (list_all (Near n k) s (question_count s) near) meaning_rests v is f l

-- ---- the largest gap of the list
gap_apart : (l r k : ℕ) → nat_abs (pos r -ℤ pos l) ≤ k → (r ≤ l + k) × (l ≤ r + k)
gap_apart zero r k h = (omega arith, omega arith)
gap_apart (suc l) r k h = by_lt (λ t. nat_abs (cond t (negsuc (suc l - suc r)) (pos (r - suc l))) ≤ k → (r ≤ suc l + k) × (suc l ≤ r + k)) r (suc l)
    (λ i j. (omega arith, omega arith)) (λ i j. (omega arith, omega arith)) h

-- "No count exceeds n × (K + 1), K the largest gap in the list without its sign, 0 for an empty list."
pub example_within_gap : {limits : Limits} {s : List ℕ} (snd : Sound limits s) (handle : ℕ) (h : handle < used s + leaves)
    (v : Valuation) → IsLeast (field_count s) (λ w. meaning s handle w ≡ true) v
    → (f : ℕ) → f ≤ field_count s → at v f ≤ field_count s * (list_gap s + 1)
example_within_gap {limits} {s} snd handle h v is =
    example_bound snd handle h (field_count s) (list_gap s) near v is
  where
    near : (j : ℕ) → 1 ≤ j → j ≤ question_count s → Near (field_count s) (list_gap s) (question s j)
    near j i l =
        let q = sound_question snd j i l in
        let g = gap_apart (question s j).left.steps.0 (question s j).right.steps.0 (list_gap s) ((largest_gap_is s (question_count s)).none_larger j i l) in
        record { left_in = q.left.field_in; right_in = q.right.field_in; gap_up = g.0; gap_down = g.1 }
