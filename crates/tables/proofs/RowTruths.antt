-- The truth of each row of a table: rows are worked out in turn, so a row that refers to lower rows has their truths.
use Prim.Native.Nat.{ℕ, zero, suc, ◌-◌, ◌<◌}
use mathlib.Core.Path.{◌≡◌, refl, ◌∙◌, ap}
use mathlib.Core.Bool.{Bool, false, cond}
use mathlib.Core.List.{List, [], ◌∷◌}
use native.Mathlib.Omega.{arith}
use native.Mathlib.Decide.{ℕ_discrete}
use lib.ListN.{length, get_or, length-append, get_or-append}
use lib.Seq.{get_or_at}
use Rattle.tables.specs.declared.decoding.Part.{Part}
use Rattle.tables.specs.declared.decoding.Part.TheVariants as part
use Rattle.tables.specs.declared.decoding.Shape.{Shape}
use Rattle.tables.specs.declared.decoding.Shape.TheVariants.{Leaf, Equation, Choice}
use Rattle.tables.specs.Decoding.{decode, part_truth, shape_truth, LowerPart, Lower}
use Rattle.tables.specs.Rows.{row, row_count, row_truth, row_truths, rule_meaning}
use Rattle.terms.specs.Meaning.{Valuation}
use Rattle.tables.proofs.DecodedTruth.{decode_truth}

module _ (v : Valuation) (table : List ℕ) where
  pub truths_length : (k : ℕ) → length (row_truths v table k) ≡ k
  unfolding row_truths
  truths_length zero = refl
  truths_length (suc k) =
      length-append (row_truths v table k) (row_truth v (λ i. get_or (row_truths v table k) i false) (row table k) ∷ []) ∙ omega (arith, truths_length k)

  -- the truth of the i-th row
  abbrev pub truth_at : ℕ → Bool
  truth_at i = get_or (row_truths v table (suc i)) i false

  truths_grow : (i k : ℕ) → i < k → get_or (row_truths v table (suc k)) i false ≡ get_or (row_truths v table k) i false
  unfolding row_truths
  truths_grow i k h =
      get_or-append (row_truths v table k) (row_truth v (λ j. get_or (row_truths v table k) j false) (row table k) ∷ []) false i (omega (arith, truths_length k))

  -- later rows do not change it
  pub truth_stays : (i k : ℕ) → i < k → get_or (row_truths v table k) i false ≡ truth_at i
  truth_stays i zero h = absurd (omega arith)
  truth_stays i (suc k) h = elim (ℕ_discrete i k) [
    | yes e ↦ rw e refl
    | no n ↦ truths_grow i k (omega arith) ∙ truth_stays i k (omega arith)
  ]

  by_row : (i : ℕ) → truth_at i ≡ row_truth v (λ j. get_or (row_truths v table i) j false) (row table i)
  unfolding row_truths
  by_row i = get_or_at (row_truths v table i) _ [] false i (truths_length i)

  part_stays : (i : ℕ) (p : Part) → LowerPart i p → part_truth (λ j. get_or (row_truths v table i) j false) p ≡ part_truth truth_at p
  part_stays i (part.Leaf b) l = refl
  part_stays i (part.Row j) l = truth_stays j i l

  -- a row whose references go to lower rows has the truth of what it stands for
  pub shape_at : (i : ℕ) (sh : Shape) → decode (row table i) ≡ sh → Lower i sh → truth_at i ≡ shape_truth v truth_at sh
  shape_at i sh e l =
      by_row i ∙ decode_truth v (λ j. get_or (row_truths v table i) j false) (row table i)
      ∙ ap (shape_truth v (λ j. get_or (row_truths v table i) j false)) e ∙ lowered sh l
    where
      lowered : (sh : Shape) → Lower i sh → shape_truth v (λ j. get_or (row_truths v table i) j false) sh ≡ shape_truth v truth_at sh
      lowered (Leaf b) l = refl
      lowered (Equation q) l = refl
      lowered (Choice a b c) l = λ k. cond (part_stays i a l.0 k) (part_stays i b l.1 k) (part_stays i c l.2 k)

  -- "The last row is the rule."
  pub rule_last : (k : ℕ) → row_count table ≡ suc k → rule_meaning table v ≡ truth_at k
  rule_last k e = let d : suc k - 1 ≡ k = omega arith in rw (e, d)
