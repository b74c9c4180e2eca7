-- What is written back means what the handle means: each marked handle's row has the handle's truth, the leaves' rows by their kinds and an
-- entry's row of kind 5 by the truths of its question's row and of the lower rows of its two handles; the handle's own row is the last.
use Prim.Native.Nat.{ℕ, suc, ◌+◌, ◌-◌, ◌*◌, ◌≤◌, ◌<◌}
use mathlib.Core.Path.{◌≡◌, refl, sym, ◌∙◌, ap, ap₂}
use mathlib.Core.Logic.{◌≢◌}
use mathlib.Core.Bool.{Bool, true, false, cond}
use mathlib.Core.List.{List}
use native.Mathlib.Omega.{arith}
use native.Mathlib.Decide.{ℕ_discrete}
use lib.Dec.{eqb}
use lib.ListN.{get_or}
use Rattle.store.specs.Layout.{entry, leaves, question, used}
use Rattle.store.specs.Meaning.{meaning}
use Rattle.store.specs.SoundParts.{Sound}
use Rattle.tables.specs.declared.decoding.Part.TheVariants as part
use Rattle.tables.specs.declared.decoding.Shape.TheVariants.{Leaf, Equation, Choice}
use Rattle.tables.specs.Rows.{row_truth, row_truths, rule_meaning}
use Rattle.terms.specs.declared.limits.Limits.{Limits}
use Rattle.terms.specs.Meaning.{Valuation, truth}
use Rattle.writing.specs.WriteBack.{reachable, marked_before, row_of, written_rows, written_count}
use Rattle.store.proofs.ByHandles.{by_handles, leaf_stays}
use Rattle.store.proofs.SoundTree.{falling, meaning_entry}
use Rattle.tables.proofs.RowTruths.{truth_at, truth_stays, shape_at}
use Rattle.writing.proofs.Marks.{handle_marked, marked_closed}
use Rattle.writing.proofs.MarkedRows.{before_marked, before_few, row_of_leaf, row_of_entry}
use Rattle.writing.proofs.WrittenRows.{written_row_count, rows_of_never, count_of_other, never_shape, always_shape, first_shape, second_shape, yes_row_lower, no_row_lower}

leaf_means : (s : List ℕ) (v : Valuation) (g : ℕ) → g < leaves → meaning s g v ≡ eqb g 1
leaf_means s v g l = ap (λ x. eqb x 1) (leaf_stays g s v g l)

module _ {limits : Limits} {s : List ℕ} (snd : Sound limits s) (h : ℕ) (u : h < used s + leaves) (n : h ≢ 0) (v : Valuation) where
  -- the truth of a row of the table
  abbrev at_row : ℕ → Bool
  at_row = truth_at v (written_rows s h)

  abbrev RowMeans : ℕ → Type 0
  RowMeans g = g ≤ h → get_or (reachable s h) g false ≡ true → at_row (row_of (reachable s h) g) ≡ meaning s g v

  leaf_row : (g : ℕ) → g < leaves → RowMeans g
  leaf_row g l _ _ = ap at_row (row_of_leaf (reachable s h) g l) ∙ elim (ℕ_discrete g 0) [
    | yes e ↦ rw e (shape_at v (written_rows s h) 0 (Leaf false) (never_shape snd h u n) tt ∙ sym (leaf_means s v 0 (omega arith)))
    | no d ↦ let e : g ≡ 1 = omega arith in rw e (shape_at v (written_rows s h) 1 (Leaf true) (always_shape snd h u n) tt ∙ sym (leaf_means s v 1 (omega arith)))
  ]

  entry_row : (i : ℕ) → i < used s → RowMeans (entry s i).yes → RowMeans (entry s i).no → RowMeans (i + leaves)
  entry_row i k y z b m =
      let e = entry s i in
      let kept = snd.entry_kept i k in
      let l : i < suc h - leaves = omega arith in
      let before = marked_before (reachable s h) i in
      let parts = marked_closed snd h u i l m in
      let rows = written_rows s h in
      let q = question s e.question in
      let yes_row = row_of (reachable s h) e.yes in
      let no_row = row_of (reachable s h) e.no in
      let asks : at_row (2 + 2 * before) ≡ truth v q = shape_at v rows (2 + 2 * before) (Equation q) (first_shape snd h u n i l m) tt in
      ap at_row (row_of_entry (reachable s h) i)
      ∙ shape_at v rows (3 + 2 * before) (Choice (part.Row (2 + 2 * before)) (part.Row yes_row) (part.Row no_row)) (second_shape snd h u n i l m)
      (omega arith, omega (arith, yes_row_lower snd h u n i l m), omega (arith, no_row_lower snd h u n i l m))
      ∙ ap (λ t. cond t (at_row (row_of (reachable s h) e.yes)) (at_row (row_of (reachable s h) e.no))) asks
      ∙ ap₂ (cond (truth v (question s e.question))) (y (omega (arith, kept.yes_below)) parts.0) (z (omega (arith, kept.no_below)) parts.1)
      ∙ sym (meaning_entry snd i k v)

  row_means : (g : ℕ) → g < used s + leaves → RowMeans g
  row_means = by_handles (falling snd) RowMeans leaf_row entry_row

  -- the last row is the handle's own
  last_row : written_count s h - 1 ≡ row_of (reachable s h) h
  last_row = elim (ℕ_discrete h 1) [
    | yes e ↦ omega (arith, count_of_other s h n, before_few (reachable s h) (suc h - leaves), row_of_leaf (reachable s h) h (omega arith))
    | no d ↦
        let back : h - leaves + leaves ≡ h = omega arith in
        let k : suc h - leaves ≡ suc (h - leaves) = omega arith in
        let m = before_marked (reachable s h) (h - leaves) (ap (λ x. get_or (reachable s h) x false) back ∙ handle_marked snd h u) in
        let r = ap (row_of (reachable s h)) (sym back) ∙ row_of_entry (reachable s h) (h - leaves) in
        omega (arith, count_of_other s h n, ap (marked_before (reachable s h)) k, m, r)
  ]

  other_means : rule_meaning (written_rows s h) v ≡ meaning s h v
  other_means =
      ap (λ c. get_or (row_truths v (written_rows s h) c) (c - 1) false) (written_row_count s h)
      ∙ truth_stays v (written_rows s h) (written_count s h - 1) (written_count s h) (omega (arith, count_of_other s h n))
      ∙ ap at_row last_row
      ∙ row_means h u (omega arith) (handle_marked snd h u)

never_means : (s : List ℕ) (v : Valuation) → rule_meaning (written_rows s 0) v ≡ meaning s 0 v
unfolding row_truths row_truth
never_means s v = ap (λ t. rule_meaning t v) (rows_of_never s 0 refl) ∙ sym (leaf_means s v 0 (omega arith))

-- The rule that is written back means what the handle means.
pub written_means : {limits : Limits} {s : List ℕ} → Sound limits s → (h : ℕ) → h < used s + leaves → (v : Valuation)
    → rule_meaning (written_rows s h) v ≡ meaning s h v
written_means {s = s} snd h u v = elim (ℕ_discrete h 0) [
  | yes e ↦ rw e (never_means s v)
  | no n ↦ other_means snd h u n v
]
