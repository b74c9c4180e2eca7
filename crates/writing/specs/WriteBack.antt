-- "Write back: a rule table for a handle. Handle 0: the row of kind 0. Handle 1: rows of kinds 0 and 1. Otherwise those two, then for each
-- entry reachable from the handle, ascending, an equation row and a row of kind 5. The answer is the row count; words after the rows are
-- unchanged."
use Rattle.std.specs.Prelude.{ℕ, zero, suc, ◌+◌, ◌-◌, ◌*◌, Bool, true, false, cond, List, [], ◌∷◌, ◌++◌, eqb, ltb, length, get_or, set, drop, replicate, Result, Ok, Err}
use Rattle.store.specs.Layout.{question_start, entry, leaves, is_handle}
use Rattle.store.specs.Outcome.{Outcome, outcome}
use Rattle.store.specs.Sound.{sound}
use Rattle.tables.specs.Rows.{row_length, most_rows}
use Rattle.terms.specs.declared.limits.Limits.{Limits}
use Rattle.terms.specs.Refusal.{answer_number}
use Rattle.writing.specs.declared.answer.WriteFault.{WriteFault}
use Rattle.writing.specs.declared.answer.WriteFault.TheVariants.{NotSound, NoHandle, TooManyRows, TooShort}

-- What writing back answers: the count of rows, or why nothing was written.
abbrev pub Written : Type 0
Written = Result ℕ WriteFault

-- A flag for each handle: the i-th entry, if it is marked, marks its two handles.
unfoldable pub mark_parts : List ℕ → ℕ → List Bool → List Bool
mark_parts s i marks = cond (get_or marks (i + leaves) false) (set (set marks (entry s i).yes true) (entry s i).no true) marks

-- from the entry before the k-th down to the first
unfoldable pub marks_down : List ℕ → ℕ → List Bool → List Bool
marks_down s zero marks = marks
marks_down s (suc k) marks = marks_down s k (mark_parts s k marks)

-- the handles reachable from a handle: handles named are smaller than their entry's own, so one pass from the handle down finds them
unfoldable pub reachable : List ℕ → ℕ → List Bool
reachable s handle = marks_down s (suc handle - leaves) (set (replicate (suc handle) false) handle true)

-- What that pass is to find: the handle itself, and the yes handle and the no handle of each entry found.
pub data Reaches (s : List ℕ) (handle : ℕ) : ℕ → Type 0 where
  itself : Reaches s handle handle
  by_yes : (i : ℕ) → Reaches s handle (i + leaves) → Reaches s handle (entry s i).yes
  by_no : (i : ℕ) → Reaches s handle (i + leaves) → Reaches s handle (entry s i).no

-- how many of the first k entries are marked
unfoldable pub marked_before : List Bool → ℕ → ℕ
marked_before marks zero = 0
marked_before marks (suc k) = cond (get_or marks (k + leaves) false) (suc (marked_before marks k)) (marked_before marks k)

-- The row of a handle: a leaf's number is its row; the j-th reachable entry, counted from 0, has its equation in row 2 + 2j and its choice in
-- row 3 + 2j.
unfoldable pub row_of : List Bool → ℕ → ℕ
row_of marks handle = cond (ltb handle leaves) handle (3 + 2 * marked_before marks (handle - leaves))

-- the equation row and the row of kind 5 of the i-th entry; its question's words stand in the list
unfoldable pub entry_rows : List ℕ → List Bool → ℕ → List ℕ
entry_rows s marks i =
    let e = entry s i in
    let at = question_start e.question in
    2 ∷ get_or s at 0 ∷ get_or s (at + 1) 0 ∷ 0
    ∷ 5 ∷ (2 + 2 * marked_before marks i) ∷ row_of marks e.yes ∷ row_of marks e.no ∷ []

-- the rows of the marked ones among the first k entries, ascending
unfoldable pub entries_rows : List ℕ → List Bool → ℕ → List ℕ
entries_rows s marks zero = []
entries_rows s marks (suc k) = entries_rows s marks k ++ cond (get_or marks (k + leaves) false) (entry_rows s marks k) []

unfoldable pub written_rows : List ℕ → ℕ → List ℕ
written_rows s handle =
    cond (eqb handle 0) (0 ∷ 0 ∷ 0 ∷ 0 ∷ [])
    (0 ∷ 0 ∷ 0 ∷ 0 ∷ 1 ∷ 0 ∷ 0 ∷ 0 ∷ entries_rows s (reachable s handle) (suc handle - leaves))

abbrev pub written_count : List ℕ → ℕ → ℕ
written_count s handle = cond (eqb handle 0) 1 (2 + 2 * marked_before (reachable s handle) (suc handle - leaves))

-- "53, write-back above 256 rows"; "23, ... write-back slice too short": of a handle of a sound store
unfoldable pub rows_written : List ℕ → ℕ → List ℕ → Outcome Written
rows_written s handle out =
    cond (ltb most_rows (written_count s handle)) (outcome (Err TooManyRows) out)
    (cond (ltb (length out) (row_length * written_count s handle)) (outcome (Err TooShort) out)
    (outcome (Ok (written_count s handle)) (written_rows s handle ++ drop (row_length * written_count s handle) out)))

-- "Write back: 22, 41, 53, 23."
unfoldable pub write_back : Limits → List ℕ → ℕ → List ℕ → Outcome Written
write_back limits s handle out =
    cond (sound limits s)
    (cond (is_handle s handle) (rows_written s handle out) (outcome (Err NoHandle) out))
    (outcome (Err NotSound) out)

abbrev pub write_fault_number : WriteFault → ℕ
write_fault_number NotSound = 22
write_fault_number NoHandle = 41
write_fault_number TooManyRows = 53
write_fault_number TooShort = 23

abbrev pub written_number : Written → ℕ
written_number = answer_number write_fault_number

-- "The answer is the row count"
abbrev pub written_result : Written → ℕ
written_result (Ok n) = n
written_result (Err f) = 0
