-- Writing the rows, entry by entry: the rows of the entries passed stand after those of the leaves, and an entry's rows, if it is marked, go
-- right after them.
use Prim.Native.Nat.{ℕ, suc, ◌+◌, ◌-◌, ◌*◌, ◌≤◌, ◌<◌}
use mathlib.Core.Path.{◌≡◌, refl, sym, ◌∙◌, ap, ap₂}
use mathlib.Core.Logic.{◌≢◌}
use mathlib.Core.Bool.{Bool, true, false, cond}
use mathlib.Core.List.{List, [], ◌∷◌, ◌++◌, append-nil}
use native.Mathlib.Omega.{arith}
use lib.ListN.{length, get_or, take, drop, take-append-drop}
use Rattle.store.specs.Layout.{entry, leaves}
use Rattle.tables.specs.Rows.{row_length}
use Rattle.writing.specs.declared.marking.Reach.{Reach}
use Rattle.writing.specs.Needs.{reachable_rows, put, entry_words, entry_put, CanWrite, Writable}
use Rattle.writing.specs.WriteBack.{reachable, marked_before, entry_rows, entries_rows, written_rows}
use Rattle.store.specs.SoundParts.{EntryKept}
use Rattle.store.proofs.SoundFacts.{sound_says}
use Rattle.terms.proofs.Cases.{by_test, by_eq}
use Rattle.writing.proofs.MarkWays.{entry_parts}
use Rattle.writing.proofs.MarkedRows.{before_marked, before_rises, row_of_entry, marked_rows, unmarked_rows, entries_length}
use Rattle.writing.proofs.PutWords.{put_length, put_put}
use Rattle.writing.proofs.WrittenRows.{leaf_rows, rows_of_never, rows_of_other, count_of_other}

-- ---- one entry more
module _ {s : List ℕ} {handle : ℕ} {r : Reach} {room : ℕ} (w : Writable s handle r room) where
  abbrev reach : List Bool
  reach = reachable s handle

  -- there is room for the rows of the leaves and of the first k entries
  rows_fit : handle ≢ 0 → (k : ℕ) → k ≤ suc handle - leaves → 8 + length (entries_rows s reach k) ≤ room
  rows_fit n k l =
      omega (arith, w.room_left, count_of_other s handle n, before_rises reach k (suc handle - leaves) l, entries_length reach s k)

  module _ (i : ℕ) (l : i < suc handle - leaves) where
    kept : EntryKept s i
    kept = let k = w.handled in (sound_says k.limits s k.sound_in).entry_kept i (omega (arith, k.handle_in))

    flag_is : get_or r.marks (i + leaves) false ≡ get_or reach (i + leaves) false
    flag_is = w.marks_are (i + leaves) (omega arith)

    row_is : get_or r.rows (i + leaves) 0 ≡ 3 + 2 * marked_before reach i
    row_is = w.rows_are (i + leaves) (omega arith) ∙ row_of_entry reach i

    -- its rows come right after those of the leaves and of the entries before it
    place : row_length * (get_or r.rows (i + leaves) 0 - 1) ≡ 8 + length (entries_rows s reach i)
    place = omega (arith, row_is, entries_length reach s i)

    marked_room : get_or r.marks (i + leaves) false ≡ true → row_length * get_or r.rows (i + leaves) 0 + row_length ≤ room
    marked_room m = omega (arith, row_is, rows_fit (omega arith) (suc i) (omega arith), entries_length reach s (suc i), before_marked reach i (sym flag_is ∙ m))

    can_write : CanWrite s r i room
    can_write =
        let k = w.handled in
        record {
          parts = entry_parts k i (omega (arith, k.handle_in));
          asks = record { from_one = kept.asks_some; to_last = kept.asks_listed; list_in = (sound_says k.limits s k.sound_in).list_in };
          row_later = omega (arith, row_is);
          room_left = marked_room;
        }

    -- the words of the two rows are the definition's
    words_are : entry_words s r.rows i ≡ entry_rows s reach i
    unfolding entry_rows
    words_are =
        let e = entry s i in
        let choice : get_or r.rows (i + leaves) 0 - 1 ≡ 2 + 2 * marked_before reach i = omega (arith, row_is) in
        rw (choice, w.rows_are e.yes (omega (arith, kept.yes_below)), w.rows_are e.no (omega (arith, kept.no_below))) refl

    module _ (start out : List ℕ) (size : length start ≡ room) (before : out ≡ put start 8 (entries_rows s reach i)) where
      marked_next : get_or r.marks (i + leaves) false ≡ true
          → put out (row_length * (get_or r.rows (i + leaves) 0 - 1)) (entry_words s r.rows i) ≡ put start 8 (entries_rows s reach (suc i))
      marked_next m =
          let at = row_length * (get_or r.rows (i + leaves) 0 - 1) in
          ap₂ (λ x y. put x at y) before words_are
          ∙ put_put start 8 (entries_rows s reach i) at (entry_rows s reach i) place (omega (arith, rows_fit (omega arith) i (omega arith)))
          ∙ sym (ap (put start 8) (marked_rows reach s i (sym flag_is ∙ m)))

      unmarked_next : get_or r.marks (i + leaves) false ≡ false → out ≡ put start 8 (entries_rows s reach (suc i))
      unmarked_next m = before ∙ sym (ap (put start 8) (unmarked_rows reach s i (sym flag_is ∙ m) ∙ append-nil (entries_rows s reach i)))

      entry_next : entry_put s r i out ≡ put start 8 (entries_rows s reach (suc i))
      entry_next = by_test (λ t. cond t (put out (row_length * (get_or r.rows (i + leaves) 0 - 1)) (entry_words s r.rows i)) out ≡ put start 8 (entries_rows s reach (suc i)))
          (get_or r.marks (i + leaves) false) marked_next unmarked_next

-- ---- all entries
-- the rows of the entries before h are written
pub record Writing (s : List ℕ) (handle : ℕ) (start out : List ℕ) (h : ℕ) : Type 0 where
  pub low : leaves ≤ h
  pub up_to : h ≤ suc handle
  pub size : length out ≡ length start
  pub written : out ≡ put start 8 (entries_rows s (reachable s handle) (h - leaves))

module _ {s : List ℕ} {handle : ℕ} {r : Reach} {start : List ℕ} (w : Writable s handle r (length start)) where
  pub writing_begins : 1 ≤ handle → Writing s handle start start leaves
  unfolding entries_rows
  writing_begins l = record {
    low = omega arith;
    up_to = omega arith;
    size = refl;
    written = sym (ap (λ x. x ++ drop 8 start) (append-nil (take 8 start)) ∙ take-append-drop 8 start);
  }

  module _ {h : ℕ} {out : List ℕ} (d : Writing s handle start out h) where
    pub writing_entry : h ≤ handle → CanWrite s r (h - leaves) (length out)
    writing_entry l = rw d.size (can_write w (h - leaves) (omega (arith, d.low)))

    pub writing_next : {next : List ℕ} → h ≤ handle → next ≡ entry_put s r (h - leaves) out → Writing s handle start next (h + 1)
    writing_next {next} l e = record {
      low = omega (arith, d.low);
      up_to = omega arith;
      size = ap length done
          ∙ put_length start 8 (entries_rows s (reachable s handle) (h + 1 - leaves)) (rows_fit w (omega (arith, d.low)) (h + 1 - leaves) (omega arith));
      written = done;
    }
      where
        step : suc (h - leaves) ≡ h + 1 - leaves
        step = omega (arith, d.low)

        done : next ≡ put start 8 (entries_rows s (reachable s handle) (h + 1 - leaves))
        done = e ∙ entry_next w (h - leaves) (omega (arith, d.low)) start out refl d.written ∙ ap (λ k. put start 8 (entries_rows s (reachable s handle) k)) step

-- ---- all rows
module _ {s : List ℕ} {handle : ℕ} {r : Reach} (out : List ℕ) (w : Writable s handle r (length out)) where
  pub never_room : row_length * 0 + row_length ≤ length out
  never_room = by_eq
      (λ t. row_length * cond t 1 (2 + 2 * marked_before (reachable s handle) (suc handle - leaves)) ≤ length out → row_length * 0 + row_length ≤ length out) handle 0
      (λ _ l. omega arith) (λ _ l. omega arith) w.room_left

  module _ {one : List ℕ} (e1 : one ≡ put out (row_length * 0) (0 ∷ 0 ∷ 0 ∷ 0 ∷ [])) where
    pub wrote_never : handle ≡ 0 → one ≡ put out 0 (written_rows s handle)
    wrote_never z = e1 ∙ sym (ap (put out 0) (rows_of_never s handle z))

    module _ (n : handle ≢ 0) where
      module _ {two : List ℕ} (e2 : two ≡ put one (row_length * 1) (1 ∷ 0 ∷ 0 ∷ 0 ∷ [])) where
        leaves_written : two ≡ put out 0 leaf_rows
        leaves_written = e2 ∙ ap (λ x. put x 4 (1 ∷ 0 ∷ 0 ∷ 0 ∷ [])) e1 ∙ put_put out 0 (0 ∷ 0 ∷ 0 ∷ 0 ∷ []) 4 (1 ∷ 0 ∷ 0 ∷ 0 ∷ []) (omega arith) never_room

        leaves_room : 8 ≤ length out
        leaves_room = omega (arith, w.room_left, count_of_other s handle n)

        pub still_writable : Writable s handle r (length two)
        still_writable = rw (ap length leaves_written ∙ put_length out 0 leaf_rows leaves_room) w

        pub wrote_rows : {three : List ℕ} → three ≡ put two 8 (reachable_rows s handle)
            → three ≡ put out 0 (written_rows s handle)
        wrote_rows e3 =
            e3 ∙ ap (λ x. put x 8 (reachable_rows s handle)) leaves_written
            ∙ put_put out 0 leaf_rows 8 (reachable_rows s handle) (omega arith) leaves_room
            ∙ sym (ap (put out 0) (rows_of_other s handle n))
