-- What the code relies on, and no claim.
use Rattle.std.specs.Prelude.{ℕ, ◌+◌, ◌*◌, ◌≤◌, ◌≡◌, List, length}
use Rattle.terms.specs.Limits.{most_entries}
use Rattle.store.specs.Layout.{question_count, used, entries_start}

-- k is the number of a question of the list, which lies within the words
pub record HasQuestion (s : List ℕ) (k : ℕ) : Type 0 where
  pub from_one : 1 ≤ k
  pub to_last : k ≤ question_count s
  pub list_in : entries_start s ≤ length s

-- the i-th entry lies within the words
abbrev pub HasEntry : List ℕ → ℕ → Type 0
HasEntry s i = entries_start s + 3 * i + 3 ≤ length s

-- the same, where the entries begin at the word `start`
pub record EntryFrom (s : List ℕ) (start i : ℕ) : Type 0 where
  pub begin : start ≡ entries_start s
  pub entry_in : HasEntry s i

-- one entry more lies within the words, and can be counted
pub record CanAppend (s : List ℕ) : Type 0 where
  pub next_in : HasEntry s (used s)
  pub few : used s ≤ most_entries
