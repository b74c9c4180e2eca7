-- The entries of a store: which one is a given entry, and the words with one entry more.
use Rattle.std.specs.Prelude.{ℕ, zero, suc, ◌+◌, ◌*◌, Bool, true, false, List, set}
use Rattle.store.specs.declared.entries.Entry.{Entry}
use Rattle.store.specs.Layout.{used, with_used, entries_start, entry}
use Rattle.store.specs.Sound.{same_entry}

-- of so many numbers from i on, the first that passes the test; the number after them where none does
unfoldable pub first : (ℕ → Bool) → ℕ → ℕ → ℕ
first test zero i = i
first test (suc left) i = elim (test i) [ true ↦ i | false ↦ first test left (i + 1) ]

-- the i-th entry is e
unfoldable pub is_entry : List ℕ → Entry → ℕ → Bool
is_entry s e i = same_entry (entry s i) e

-- of the first k entries, the number of the first that is e; k where none is
abbrev pub find_entry : List ℕ → ℕ → Entry → ℕ
find_entry s k e = first (is_entry s e) k 0

-- the words with the entry after the last
unfoldable pub with_entry : List ℕ → Entry → List ℕ
with_entry s e =
    let at = entries_start s + 3 * used s in
    with_used (set (set (set s at e.question) (at + 1) e.yes) (at + 2) e.no) (used s + 1)
