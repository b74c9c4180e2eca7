-- A sheet without blanks has one filling, itself, so reading it answers what the handle means under its own counts.
use Prim.Native.Nat.{ℕ, ◌+◌, ◌-◌, ◌≤◌, ◌<◌}
use mathlib.Core.Path.{◌≡◌, refl, ◌∙◌}
use mathlib.Core.Bool.{Bool, true, false, cond}
use mathlib.Core.List.{List}
use native.Mathlib.Omega.{arith}
use borrow.Author.Tests.{ltb-true, ne_eqb}
use lib.ListN.{length, get_or}
use Rattle.std.specs.Prelude.{Ok}
use Rattle.reading.specs.declared.answer.Reading.TheVariants.{Fails, Satisfies}
use Rattle.reading.specs.Blanks.{blank, Fills, NoBlank}
use Rattle.reading.specs.Read.{read_sheet}
use Rattle.reading.specs.ReadExactly.{ReadExactly}
use Rattle.reading.specs.Sheet.{sheet_counts}
use Rattle.store.specs.Layout.{field_count, used, leaves, is_handle}
use Rattle.store.specs.Meaning.{meaning}
use Rattle.store.specs.Sound.{sound}
use Rattle.terms.specs.declared.limits.Limits.{Limits}
use Rattle.terms.specs.declared.term.Field.{Field}
use Rattle.terms.specs.Limits.{store_limits}
use Rattle.terms.specs.Meaning.{Valuation}
use Rattle.store.proofs.MeaningRests.{same_meaning, same_question}
use Rattle.store.proofs.SoundFacts.{sound_says}
use Rattle.reading.proofs.ReadMeans.{fails_exactly, satisfies_exactly, read_exactly}
use Rattle.reading.proofs.SameReading.{exactly_only}

-- a filling gives every field of the sheet its count
pub one_filling : (sheet : List ℕ) → NoBlank sheet → (v : Valuation) → Fills sheet v → (f : Field) → 1 ≤ f.0 → f.0 ≤ length sheet → v f ≡ sheet_counts sheet f
one_filling sheet none v fills f l h = fills.counted f l h (none (f.0 - 1) (omega arith))

module _ (limits : Limits) (s : List ℕ) (is : sound limits s ≡ true) (handle : ℕ) (u : is_handle s handle ≡ true) (sheet : List ℕ) (l : length sheet ≡ field_count s)
    (none : NoBlank sheet) where
  -- the handle means under a filling what it means under the sheet's own counts
  fillings_alike : (v : Valuation) → Fills sheet v → meaning s handle v ≡ meaning s handle (sheet_counts sheet)
  fillings_alike v fills =
      let snd = sound_says limits s is in
      same_meaning snd v (sheet_counts sheet)
      (same_question snd v (sheet_counts sheet) (λ f a b. one_filling sheet none v fills f a (omega arith)))
      handle (ltb-true handle (used s + leaves) u)

  -- "Read a sheet of n counts ...: 1 if it satisfies the handle, else 0.", for counts that are no blanks
  pub counted_reads : read_sheet limits s handle sheet ≡ Ok (cond (meaning s handle (sheet_counts sheet)) Satisfies Fails)
  counted_reads = exactly_only sheet (meaning s handle) (read_exactly limits s is handle u sheet l) (right (meaning s handle (sheet_counts sheet)) refl)
    where
      right : (b : Bool) → meaning s handle (sheet_counts sheet) ≡ b → ReadExactly sheet (meaning s handle) (Ok (cond b Satisfies Fails))
      right true e = satisfies_exactly sheet (meaning s handle) (λ v k. fillings_alike v k ∙ e)
      right false e = fails_exactly sheet (meaning s handle) (λ v k. fillings_alike v k ∙ e)

-- at the institute's limits, and counts 0 to 65,534
pub public_counted_reads : (s : List ℕ) → sound store_limits s ≡ true → (handle : ℕ) → is_handle s handle ≡ true → (sheet : List ℕ) → length sheet ≡ field_count s
    → ((i : ℕ) → i < length sheet → get_or sheet i 0 ≤ 65534) → read_sheet store_limits s handle sheet ≡ Ok (cond (meaning s handle (sheet_counts sheet)) Satisfies Fails)
public_counted_reads s is handle u sheet l low =
    counted_reads store_limits s is handle u sheet l (λ i h. ne_eqb (get_or sheet i 0) blank (λ e. let most = low i h in omega arith))
