-- What the code relies on, and no claim: what it holds in its arrays.
use Rattle.std.specs.Prelude.{ℕ, suc, ◌+◌, ◌-◌, ◌*◌, ◌≤◌, ◌<◌, ◌≡◌, Bool, true, false, cond, List, [], ◌∷◌, ◌++◌, length, get_or, take, drop}
use Rattle.store.specs.Layout.{used, question_start, entry, leaves}
use Rattle.store.specs.Needs.{HasQuestion, HasEntry}
use Rattle.store.specs.Sound.{sound}
use Rattle.tables.specs.Rows.{row_length}
use Rattle.terms.specs.declared.limits.Limits.{Limits}
use Rattle.terms.specs.Limits.{most_entries}
use Rattle.terms.specs.Needs.{FitLimits}
use Rattle.writing.specs.declared.marking.Reach.{Reach}
use Rattle.writing.specs.WriteBack.{reachable, marked_before, row_of, entries_rows, written_count}

-- the handles of the leaves, and of as many entries as an index holds
abbrev pub most_handles : ℕ
most_handles = most_entries + leaves

-- a handle of a store that is sound within some limits, whose entries an index holds
pub record Handled (s : List ℕ) (handle : ℕ) : Type 0 where
  pub limits : Limits
  pub sound_in : sound limits s ≡ true
  pub fit : FitLimits limits
  pub handle_in : handle < used s + leaves

-- the i-th entry lies within the words, and its handles, which are smaller than its own, within the arrays
pub record HasParts (s : List ℕ) (i : ℕ) : Type 0 where
  pub there : HasEntry s i
  pub own_in : i + leaves < most_handles
  pub yes_below : (entry s i).yes < i + leaves
  pub no_below : (entry s i).no < i + leaves

-- the flags of the handles up to the handle say which are reachable from it
pub record Marked (s : List ℕ) (handle : ℕ) (marks : List Bool) : Type 0 where
  pub size : length marks ≡ most_handles
  pub marks_are : (g : ℕ) → g < suc handle → get_or marks g false ≡ get_or (reachable s handle) g false

-- each handle up to the handle has its row, and so many entries are marked
pub record Numbered (marks : List Bool) (handle : ℕ) (rows : List ℕ) (count : ℕ) : Type 0 where
  pub size : length rows ≡ most_handles
  pub rows_are : (g : ℕ) → g < suc handle → get_or rows g 0 ≡ row_of marks g
  pub count_is : count ≡ marked_before marks (suc handle - leaves)

-- the words written over those from a place on
abbrev pub put : List ℕ → ℕ → List ℕ → List ℕ
put out at words = take at out ++ words ++ drop (at + length words) out

-- the rows of the entries come after those of the leaves
abbrev pub after_leaves : ℕ
after_leaves = row_length * leaves

-- the rows of the entries reachable from a handle
abbrev pub reachable_rows : List ℕ → ℕ → List ℕ
reachable_rows s handle = entries_rows s (reachable s handle) (suc handle - leaves)

-- the words of the i-th entry's two rows, by the rows of the handles
abbrev pub entry_words : List ℕ → List ℕ → ℕ → List ℕ
entry_words s rows i =
    let e = entry s i in
    let at = question_start e.question in
    2 ∷ get_or s at 0 ∷ get_or s (at + 1) 0 ∷ 0 ∷ 5 ∷ (get_or rows (i + leaves) 0 - 1) ∷ get_or rows e.yes 0 ∷ get_or rows e.no 0 ∷ []

-- the words with these written in their place, if the entry is marked
abbrev pub entry_put : List ℕ → Reach → ℕ → List ℕ → List ℕ
entry_put s r i out =
    cond (get_or r.marks (i + leaves) false) (put out (row_length * (get_or r.rows (i + leaves) 0 - 1)) (entry_words s r.rows i)) out

-- the i-th entry has its words, and, if it is marked, room for its rows
pub record CanWrite (s : List ℕ) (r : Reach) (i room : ℕ) : Type 0 where
  pub parts : HasParts s i
  pub asks : HasQuestion s (entry s i).question
  pub row_later : 1 ≤ get_or r.rows (i + leaves) 0
  pub room_left : get_or r.marks (i + leaves) false ≡ true → row_length * get_or r.rows (i + leaves) 0 + row_length ≤ room

-- the arrays hold the marks and the rows of the handles reachable from a handle, and there is room for all its rows
pub record Writable (s : List ℕ) (handle : ℕ) (r : Reach) (room : ℕ) : Type 0 where
  pub handled : Handled s handle
  pub handle_fits : handle < most_handles
  pub marks_are : (g : ℕ) → g < suc handle → get_or r.marks g false ≡ get_or (reachable s handle) g false
  pub rows_are : (g : ℕ) → g < suc handle → get_or r.rows g 0 ≡ row_of (reachable s handle) g
  pub room_left : row_length * written_count s handle ≤ room
