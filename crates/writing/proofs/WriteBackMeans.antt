-- The rule table that an accepted call of write back leaves means what the handle means: the call was made on a sound store with a handle of its own, and
-- the first words of the slice, four for each row answered, are the handle's rows.
use Prim.Native.Nat.{ℕ, ◌+◌, ◌*◌, ◌≤◌, ◌<◌}
use mathlib.Core.Path.{◌≡◌, refl, sym, ap, ◌∙◌}
use mathlib.Core.Bool.{true, cond}
use mathlib.Core.List.{List, ◌++◌}
use native.Mathlib.Omega.{arith}
use borrow.Author.Tests.{ltb-true}
use lib.Dec.{ltb}
use lib.ListN.{length, take, drop}
use lib.Seq.{take_at}
use Rattle.store.specs.Layout.{used, leaves, is_handle}
use Rattle.store.specs.Meaning.{meaning}
use Rattle.store.specs.Outcome.{Outcome, outcome}
use Rattle.store.specs.Sound.{sound}
use Rattle.tables.specs.Rows.{row_length, most_rows, rule_meaning}
use Rattle.terms.specs.declared.limits.Limits.{Limits}
use Rattle.terms.specs.Meaning.{Valuation}
use Rattle.writing.specs.declared.answer.WriteFault.TheVariants.{NotSound, NoHandle, TooManyRows, TooShort}
use Rattle.std.specs.Prelude.{Ok, Err}
use Rattle.writing.specs.WriteBack.{written_rows, written_count, rows_written, write_back, written_result, Written}
use Rattle.store.proofs.SoundFacts.{sound_says}
use Rattle.terms.proofs.Cases.{by_test, by_lt}
use Rattle.writing.proofs.WrittenMeans.{written_means}
use Rattle.writing.proofs.WrittenRows.{written_length}

-- rows are answered only if they are few enough; the first words are the rows, and the answer is their number
record RowsFit (s : List ℕ) (h : ℕ) (out : List ℕ) (k : ℕ) (words : List ℕ) : Type 0 where
  few : written_count s h ≤ most_rows
  count_is : k ≡ written_count s h
  words_are : words ≡ written_rows s h ++ drop (row_length * written_count s h) out

-- what an accepted call says of its arguments and of the words that it leaves
pub record WrittenBack (limits : Limits) (s : List ℕ) (h k : ℕ) (words : List ℕ) : Type 0 where
  pub is_sound : sound limits s ≡ true
  pub handle_in : h < used s + leaves
  pub few : written_count s h ≤ most_rows
  pub rows_first : take (row_length * k) words ≡ written_rows s h

module _ (limits : Limits) (s : List ℕ) (h : ℕ) (out : List ℕ) (k : ℕ) where
  rows_fit : (rows_written s h out).answer ≡ Ok k → RowsFit s h out k (rows_written s h out).words
  unfolding rows_written
  rows_fit =
      let last = outcome (Ok (written_count s h)) (written_rows s h ++ drop (row_length * written_count s h) out) in
      let short = ltb (length out) (row_length * written_count s h) in
      by_lt (λ t. let o = cond t (outcome (Err TooManyRows) out) (cond short (outcome (Err TooShort) out) last) in o.answer ≡ Ok k → RowsFit s h out k o.words)
      most_rows (written_count s h) (λ _ e. cc)
      (λ l. by_test (λ t. let o = cond t (outcome (Err TooShort) out) last in o.answer ≡ Ok k → RowsFit s h out k o.words) short
      (λ _ e. cc) (λ _ e. record { few = l; count_is = sym (ap written_result e); words_are = refl }))

  -- what is to be shown of an outcome
  abbrev Shown : Outcome Written → Type 0
  Shown o = o.answer ≡ Ok k → WrittenBack limits s h k o.words

  pub written_back : Shown (write_back limits s h out)
  unfolding write_back
  written_back =
      by_test (λ t. Shown (cond t (cond (is_handle s h) (rows_written s h out) (outcome (Err NoHandle) out)) (outcome (Err NotSound) out))) (sound limits s)
      (λ is. by_test (λ t. Shown (cond t (rows_written s h out) (outcome (Err NoHandle) out))) (is_handle s h)
      (λ u e.
      let fit = rows_fit e in
      record {
        is_sound = is;
        handle_in = ltb-true h (used s + leaves) u;
        few = fit.few;
        rows_first = ap (take (row_length * k)) fit.words_are ∙ take_at (written_rows s h) _ (row_length * k) (omega (arith, written_length s h, fit.count_is));
      })
      (λ _ e. cc)) (λ _ e. cc)

  pub write_back_means : (write_back limits s h out).answer ≡ Ok k
      → (v : Valuation) → rule_meaning (take (row_length * k) (write_back limits s h out).words) v ≡ meaning s h v
  write_back_means e v =
      let w = written_back e in
      ap (λ table. rule_meaning table v) w.rows_first ∙ written_means (sound_says limits s w.is_sound) h w.handle_in v
