-- Writing back on each way through the code: the rows are counted as the definition counts them, and its tests decide the definition's.
use Prim.Native.Nat.{ℕ, suc, ◌+◌, ◌-◌, ◌*◌, ◌≤◌, ◌<◌}
use mathlib.Core.Path.{◌≡◌, refl, sym, ◌∙◌, ap, subst}
use mathlib.Core.Bool.{Bool, true, cond}
use mathlib.Core.List.{List, ◌++◌}
use native.Mathlib.Omega.{arith}
use borrow.Author.Tests.{lt-ltb, le-ltb, ltb-true}
use lib.Dec.{eqb}
use lib.ListN.{length, drop}
use Rattle.store.specs.Layout.{used, leaves, is_handle}
use Rattle.store.specs.Outcome.{outcome}
use Rattle.store.specs.Sound.{sound}
use Rattle.tables.specs.Rows.{row_length, most_rows}
use Rattle.terms.specs.declared.limits.Limits.{Limits}
use Rattle.terms.specs.Limits.{most_entries}
use Rattle.terms.specs.Needs.{FitLimits}
use Rattle.writing.specs.declared.answer.WriteFault.TheVariants.{TooManyRows, TooShort}
use Rattle.std.specs.Prelude.{Ok, Err}
use Rattle.writing.specs.declared.marking.Reach.{Reach}
use Rattle.writing.specs.Needs.{Handled, Marked, Numbered, put, Writable}
use Rattle.writing.specs.WriteBack.{reachable, written_rows, written_count, rows_written}
use Rattle.writing.proofs.MarkWays.{handle_fits}
use Rattle.writing.proofs.MarkedRows.{before_few, count_alike, row_alike}
use Rattle.writing.proofs.WrittenRows.{written_length}

module _ {s : List ℕ} {handle : ℕ} {marks : List Bool} {r : Reach} {n : ℕ} (k : Handled s handle) (marked : Marked s handle marks) (kept : r.marks ≡ marks) (b : Numbered r.marks handle r.rows n) where
  m : Marked s handle r.marks
  m = subst (Marked s handle) (sym kept) marked

  pub few_marked : n ≤ most_entries
  few_marked = omega (arith, b.count_is, before_few r.marks (suc handle - leaves), handle_fits k)

  module _ (out : List ℕ) {count : ℕ} (e : count ≡ cond (eqb handle 0) 1 (2 + 2 * n)) where
    count_right : count ≡ written_count s handle
    count_right = e ∙ ap (λ x. cond (eqb handle 0) 1 (2 + 2 * x)) (b.count_is ∙ count_alike r.marks (reachable s handle) (suc handle) m.marks_are)

    module _ {c : ℕ} (ec : c ≡ count) where
      pub too_many : most_rows < c → outcome (Err TooManyRows) out ≡ rows_written s handle out
      unfolding rows_written
      too_many l = rw (← count_right, lt-ltb most_rows count (omega arith))

    module _ {c : ℕ} (ec : c ≡ count) (few : c ≤ most_rows) where
      pub too_short : length out < row_length * c → outcome (Err TooShort) out ≡ rows_written s handle out
      unfolding rows_written
      too_short l = rw (← count_right, le-ltb most_rows count (omega arith), lt-ltb (length out) (row_length * count) (omega arith)) refl

      module _ (l : row_length * c ≤ length out) where
        pub all_writable : Writable s handle r (length out)
        all_writable = record {
          handled = k;
          handle_fits = handle_fits k;
          marks_are = m.marks_are;
          rows_are = λ g h. b.rows_are g h ∙ row_alike r.marks (reachable s handle) (suc handle) m.marks_are g h;
          room_left = omega (arith, count_right);
        }

        pub all_written : {last : List ℕ} → last ≡ put out 0 (written_rows s handle) → outcome (Ok count) last ≡ rows_written s handle out
        unfolding rows_written
        all_written d =
            let z : 0 + length (written_rows s handle) ≡ row_length * count = omega (arith, written_length s handle, count_right) in
            rw (← count_right, le-ltb most_rows count (omega arith), le-ltb (length out) (row_length * count) (omega arith))
            (ap (outcome (Ok count)) (d ∙ ap (λ x. written_rows s handle ++ drop x out) z))

module _ (limits : Limits) (s : List ℕ) {b : Bool} (eb : b ≡ sound limits s) (t : b ≡ true) where
  pub is_handled : {h g : ℕ} {a : Bool} → FitLimits limits → a ≡ is_handle s h → a ≡ true → g ≡ h → Handled s g
  is_handled {h} fit ea f eg = rw eg (record { limits = limits; sound_in = sym eb ∙ t; fit = fit; handle_in = ltb-true h (used s + leaves) (sym ea ∙ f) })
