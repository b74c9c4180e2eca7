-- Writing one entry: if it is marked, its row of kind 5 goes right after its equation row.
use Prim.Native.Nat.{ℕ, ◌+◌, ◌-◌, ◌*◌}
use mathlib.Core.Path.{◌≡◌, ◌∙◌, ap}
use mathlib.Core.Bool.{true, false}
use mathlib.Core.List.{List, [], ◌∷◌}
use native.Mathlib.Omega.{arith}
use lib.ListN.{length, get_or}
use Rattle.store.specs.declared.entries.Entry.{Entry}
use Rattle.store.specs.Layout.{question_start, entry, leaves}
use Rattle.tables.specs.Rows.{row_length}
use Rattle.writing.specs.declared.marking.Reach.{Reach}
use Rattle.writing.specs.Needs.{put, entry_put, CanWrite}
use Rattle.writing.proofs.PutWords.{put_put}

module _ {s : List ℕ} {r : Reach} {i : ℕ} (out : List ℕ) (w : CanWrite s r i (length out)) where
  -- its two rows, one after the other, if it is marked
  module _ (flag : get_or r.marks (i + leaves) false ≡ true) {p : ℕ} (ep : p ≡ get_or r.rows (i + leaves) 0) where
    module _ {e : Entry} {k : ℕ} (ee : e ≡ entry s i) (ek : k ≡ e.question) where
      asked : k ≡ (entry s i).question
      asked = ek ∙ ap (λ (x : Entry). x.question) ee

      module _ {a b : ℕ} (ea : a ≡ get_or s (question_start k) 0) (eb : b ≡ get_or s (question_start k + 1) 0) {one : List ℕ}
          (e1 : one ≡ put out (row_length * (p - 1)) (2 ∷ a ∷ b ∷ 0 ∷ [])) {t : ℕ} (et : t ≡ get_or r.rows (i + leaves) 0) where
        pub wrote_both : {two : List ℕ} (y n : ℕ) → y ≡ e.yes → n ≡ e.no
            → two ≡ put one (row_length * t) (5 ∷ (get_or r.rows (i + leaves) 0 - 1) ∷ get_or r.rows y 0 ∷ get_or r.rows n 0 ∷ [])
            → two ≡ entry_put s r i out
        wrote_both {two} y n ey en e2 =
            let row = get_or r.rows (i + leaves) 0 in
            let q = (entry s i).question in
            let head : List ℕ = 2 ∷ get_or s (question_start q) 0 ∷ get_or s (question_start q + 1) 0 ∷ 0 ∷ [] in
            let tail : List ℕ = 5 ∷ (row - 1) ∷ get_or r.rows (entry s i).yes 0 ∷ get_or r.rows (entry s i).no 0 ∷ [] in
            let left : a ≡ get_or s (question_start q) 0 = ea ∙ ap (λ (x : ℕ). get_or s (question_start x) 0) asked in
            let right : b ≡ get_or s (question_start q + 1) 0 = eb ∙ ap (λ (x : ℕ). get_or s (question_start x + 1) 0) asked in
            let first : one ≡ put out (row_length * (row - 1)) head = e1 ∙ rw (ep, left, right) in
            let second : two ≡ put one (row_length * row) tail = e2 ∙ rw (et, ey, en, ee) in
            rw flag (second ∙ ap (λ x. put x (row_length * row) tail) first
            ∙ put_put out (row_length * (row - 1)) head (row_length * row) tail (omega (arith, w.row_later)) (omega (arith, w.room_left flag)))
