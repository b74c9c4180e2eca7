-- A sheet without blanks can follow its way, which ends at what the handle means under its counts. With blanks, the walk can start with the facts of the sheet: they
-- are few, and none of them is a no.
use Prim.Native.Nat.{ℕ, ◌+◌, ◌≤◌}
use mathlib.Core.Path.{◌≡◌, refl, sym, ap, ◌∙◌}
use mathlib.Core.Bool.{Bool, true, false, cond, true≢false}
use mathlib.Core.List.{List}
use native.Mathlib.Omega.{arith}
use borrow.Author.Tests.{ltb-true}
use lib.ListN.{length, get_or}
use Rattle.std.specs.List.{list_any}
use Rattle.std.specs.Prelude.{nat_eq, Ok}
use Rattle.std.proofs.lemmas.List.Folds.{list_any_at}
use Rattle.facts.specs.declared.record.Facts.{Facts}
use Rattle.facts.specs.Record.{last_field}
use Rattle.reading.specs.declared.answer.Reading.{Reading}
use Rattle.reading.specs.declared.answer.Reading.TheVariants.{Satisfies, Fails}
use Rattle.reading.specs.Blanks.{blank, is_blank, NoBlank}
use Rattle.reading.specs.Needs.{HoldsCounts, Readable}
use Rattle.reading.specs.Read.{read_sheet}
use Rattle.reading.specs.Sheet.{sheet_counts}
use Rattle.store.specs.Layout.{field_count, used, leaves, is_handle}
use Rattle.store.specs.Meaning.{meaning}
use Rattle.store.specs.Sound.{sound}
use Rattle.terms.specs.declared.limits.Limits.{Limits}
use Rattle.terms.specs.Limits.{most_count}
use Rattle.terms.specs.Needs.{FitLimits}
use Rattle.verdicts.specs.Needs.{CanDescend}
use Rattle.store.proofs.SoundFacts.{sound_says}
use Rattle.terms.proofs.Cases.{by_test}
use Rattle.verdicts.proofs.DescentLaws.{descent_from}
use Rattle.reading.proofs.CountedSheet.{counted_reads}

module _ (limits : Limits) (s : List ℕ) {b : Bool} (eb : b ≡ sound limits s) (t : b ≡ true) (fit : FitLimits limits) where
  pub few_counts : (sheet : List ℕ) → length sheet ≡ field_count s → length sheet ≤ last_field
  few_counts sheet l = omega (arith, l, (sound_says limits s (sym eb ∙ t)).fields_in, fit.fields_fit)

  pub can_start : {handle h : ℕ} {a : Bool} → a ≡ is_handle s handle → a ≡ true → h ≡ handle → {sheet : List ℕ} {k : ℕ} {f : Facts} → HoldsCounts sheet k f
      → CanDescend most_count s h f
  can_start {handle} {h} ea d eh counted =
      descent_from limits s fit (sym eb ∙ t) h (omega (arith, ltb-true handle (used s + leaves) (sym ea ∙ d))) (omega (arith, fit.counts_fit)) (omega arith) counted.holds

-- ---- a sheet without blanks
pub no_blank : (sheet : List ℕ) → list_any (λ y. nat_eq y blank) sheet ≡ false → NoBlank sheet
no_blank sheet none i l = by_test (λ t. t ≡ false) (is_blank (get_or sheet i 0)) (λ e. absurd (true≢false (sym (list_any_at (λ y. nat_eq y blank) sheet i 0 l e) ∙ none))) (λ _. refl)

module _ (limits : Limits) (s : List ℕ) {b : Bool} (eb : b ≡ sound limits s) (t : b ≡ true) (handle : ℕ) {a : Bool} (ea : a ≡ is_handle s handle) (d : a ≡ true) (sheet : List ℕ)
    (l : length sheet ≡ field_count s) where
  pub can_read : FitLimits limits → Readable s handle sheet
  can_read fit = record { limits = limits; fit = fit; sound_in = sym eb ∙ t; handle_in = ltb-true handle (used s + leaves) (sym ea ∙ d); length_is = l }

  pub says_truth : list_any (λ y. nat_eq y blank) sheet ≡ false → {m : Bool} → m ≡ meaning s handle (sheet_counts sheet) → {r : Reading} → r ≡ cond m Satisfies Fails
      → Ok r ≡ read_sheet limits s handle sheet
  says_truth none em er =
      ap (λ x. Ok x) (er ∙ ap (λ x. cond x Satisfies Fails) em) ∙ sym (counted_reads limits s (sym eb ∙ t) handle (sym ea ∙ d) sheet l (no_blank sheet none))
