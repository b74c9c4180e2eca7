-- What is written back is built to the handle it came from: build takes the table, which means what the handle does, and a diagram that stands is
-- found again.
use Prim.Native.Nat.{ℕ, ◌*◌, ◌≤◌}
use mathlib.Core.Path.{◌≡◌, ap, ◌∙◌}
use mathlib.Core.List.{List}
use lib.ListN.{take}
use Rattle.std.specs.Prelude.{Ok}
use Rattle.operations.specs.Handles.{Call, answer_to, Books, after, run}
use Rattle.operations.specs.Operations as operation
use Rattle.store.specs.Outcome.{outcome}
use Rattle.store.specs.SoundParts.{Sound}
use Rattle.tables.specs.Rows.{row_length, most_rows}
use Rattle.terms.specs.declared.limits.Limits.{Limits}
use Rattle.writing.specs.WriteBack.{written_rows, written_count, write_back}
use Rattle.writing.proofs.WriteBackMeans.{written_back}
use Rattle.writing.proofs.WrittenAccepted.{written_accepted}
use Rattle.writing.proofs.WrittenMeans.{written_means}
use Rattle.operations.proofs.RunLater.{call_later, run_sound, returned_stands, returned_again}

-- "Building it on the same store gives that handle again if one of the operations had returned it."
module _ {limits : Limits} (b : Books) (snd : Sound limits b.words) (c : Call) (h : ℕ) (e : (answer_to limits b.words c).answer ≡ Ok h)
    (calls : List Call) where
  abbrev now : List ℕ
  now = (run limits (after limits b c) calls).words

  pub rows_again : written_count now h ≤ most_rows → operation.build limits now (written_rows now h) ≡ outcome (Ok h) now
  rows_again few =
      let later = run_sound (after limits b c) (call_later snd c).sound calls in
      let u = (returned_stands b snd c h e calls).handle_in in
      returned_again b snd c h e calls (written_rows now h) (written_accepted later h u few) (written_means later h u)

  -- the rows are the first words of the slice, four for each row that write back answers
  pub written_again : (out : List ℕ) (k : ℕ) → (write_back limits now h out).answer ≡ Ok k
      → operation.build limits now (take (row_length * k) (write_back limits now h out).words) ≡ outcome (Ok h) now
  written_again out k answered =
      let w = written_back limits now h out k answered in
      ap (operation.build limits now) w.rows_first ∙ rows_again w.few
