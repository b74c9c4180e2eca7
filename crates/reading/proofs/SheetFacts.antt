-- A choice of counts fits the facts of a sheet exactly if it fills the sheet: a fact says of one counted field that it counts what stands there, and a blank has no
-- fact. The sheet's own numbers fill it, so some choice of counts fits its facts.
use Prim.Native.Nat.{ℕ, zero, suc, ◌-◌, ◌<◌}
use mathlib.Core.Path.{◌≡◌, refl, sym, ap, subst, ◌∙◌}
use mathlib.Core.Logic.{◌↔◌}
use mathlib.Core.Bool.{true, false, cond}
use mathlib.Core.List.{List}
use native.Mathlib.Omega.{arith}
use native.Mathlib.Decide.{ℕ_discrete}
use lib.ListN.{length, get_or}
use Rattle.facts.specs.declared.fact.Fact.{Fact}
use Rattle.facts.specs.Facts.{Fits}
use Rattle.facts.specs.State.{at, free, state_of}
use Rattle.facts.proofs.Decided.{fits_free}
use Rattle.facts.proofs.LeastSheet.{counts_true, counts_says}
use Rattle.reading.specs.Blanks.{is_blank, Fills, filled, with_count, facts_up_to, sheet_facts}
use Rattle.reading.specs.Sheet.{sheet_counts}
use Rattle.terms.specs.Meaning.{Valuation}
use Rattle.terms.specs.Words.{field}
use Rattle.terms.proofs.Cases.{by_test}
use Rattle.terms.proofs.SimplifyTruth.{count_field}

-- ---- one field
module _ (v : Valuation) (f c : ℕ) (xs : List Fact) where
  count_fits : (is_blank c ≡ false → at v f ≡ c) → Fits xs v → Fits (with_count f c xs) v
  count_fits has k = by_test (λ _. Fits (with_count f c xs) v) (is_blank c) (λ e. rw e k) (λ e. rw e (counts_true v f c (has e), k))

  fits_count : Fits (with_count f c xs) v → is_blank c ≡ false → at v f ≡ c
  fits_count k e = let here = rw e at k in counts_says v f c here.0

  fits_rest : Fits (with_count f c xs) v → Fits xs v
  fits_rest k = by_test (λ _. Fits xs v) (is_blank c) (λ e. rw e at k) (λ e. let here = rw e at k in here.1)

-- ---- the first k fields
module _ (sheet : List ℕ) (v : Valuation) where
  -- a counted field at a place below k has its count
  abbrev CountedBelow : ℕ → Type 0
  CountedBelow k = (j : ℕ) → j < k → is_blank (get_or sheet j 0) ≡ false → at v (suc j) ≡ get_or sheet j 0

  up_to_fits : (k : ℕ) → CountedBelow k → Fits (facts_up_to sheet k) v
  unfolding facts_up_to
  up_to_fits zero has = tt
  up_to_fits (suc k) has = count_fits v (suc k) (get_or sheet k 0) (facts_up_to sheet k) (has k (omega arith)) (up_to_fits k (λ j l. has j (omega arith)))

  fits_up_to : (k : ℕ) → Fits (facts_up_to sheet k) v → CountedBelow k
  unfolding facts_up_to
  fits_up_to zero h j l n = absurd (omega arith)
  fits_up_to (suc k) h j l n = elim (ℕ_discrete j k) [
    | yes e ↦ subst (λ i. at v (suc i) ≡ get_or sheet i 0) (sym e) (fits_count v (suc k) (get_or sheet k 0) (facts_up_to sheet k) h (subst (λ i. is_blank (get_or sheet i 0) ≡ false) e n))
    | no d ↦ fits_up_to k (fits_rest v (suc k) (get_or sheet k 0) (facts_up_to sheet k) h) j (omega arith) n
  ]

  -- ---- the whole sheet
  fills_below : Fills sheet v → CountedBelow (length sheet)
  fills_below fills j l n =
      let place : suc j - 1 ≡ j = omega arith in
      count_field v (field (suc j)) (λ z. omega arith)
      ∙ fills.counted (field (suc j)) (omega arith) (omega arith) (ap (λ i. is_blank (get_or sheet i 0)) place ∙ n) ∙ ap (λ i. get_or sheet i 0) place

  below_fills : CountedBelow (length sheet) → Fills sheet v
  below_fills has = record {
    counted = λ f l h n.
        let back : suc (f.0 - 1) ≡ f.0 = omega arith in
        sym (ap (at v) back ∙ count_field v f (λ z. omega arith)) ∙ has (f.0 - 1) (omega arith) n;
  }

  -- A choice of counts fits a sheet's facts exactly if it fills the sheet.
  pub sheet_facts_exact : Fits (sheet_facts sheet) v ↔ Fills sheet v
  sheet_facts_exact = (λ h. below_fills (fits_up_to (length sheet) h), λ fills. up_to_fits (length sheet) (fills_below fills))

-- ---- some filling
-- The blanks may be filled with any numbers, each by itself.
pub any_filling : (sheet : List ℕ) (w : Valuation) → Fills sheet (filled sheet w)
any_filling sheet w = record { counted = λ f l h n. ap (λ b. cond b (w f) (sheet_counts sheet f)) n }

-- the sheet's own numbers are one, with 65,535 in each blank
pub itself_fills : (sheet : List ℕ) → Fills sheet (sheet_counts sheet)
itself_fills sheet = record { counted = λ f l h n. refl }

-- so the facts of the sheet, or of its first fields, are free
pub up_to_free : (sheet : List ℕ) (k : ℕ) → free (state_of (facts_up_to sheet k)) ≡ true
up_to_free sheet k = fits_free (facts_up_to sheet k) (sheet_counts sheet) (up_to_fits sheet (sheet_counts sheet) k (λ j l n.
    let place : suc j - 1 ≡ j = omega arith in
    count_field (sheet_counts sheet) (field (suc j)) (λ z. omega arith) ∙ ap (λ i. get_or sheet i 0) place))
