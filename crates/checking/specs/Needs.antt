-- What the code relies on, and no claim.
use Rattle.std.specs.Prelude.{ℕ, ◌+◌, ◌*◌, ◌/◌, ◌%◌, ◌≤◌, ◌<◌, Bool, List, length}
use Rattle.index.specs.Entries.{buckets}
use Rattle.normal_form.specs.declared.entry.Entry.{Entry}
use Rattle.normal_form.specs.Check.{handles_lower}
use Rattle.normal_form.specs.Limits.{most_table_entries, table_limits}
use Rattle.normal_form.specs.Reachable.{flag_count}
use Rattle.normal_form.specs.Table.{entry_length, entry_count, entry}
use Rattle.store.specs.Sound.{all_below}
use Rattle.terms.specs.declared.term.Equation.{Equation}

-- ---- entries
-- the flags of a pass: one for each handle that the limits allow
abbrev pub most_handles : ℕ
most_handles = flag_count table_limits

-- the i-th entry lies within the words
pub record HasEntry (t : List ℕ) (i : ℕ) : Type 0 where
  pub within : entry_length * i + entry_length ≤ length t

-- the first k entries lie within the words, and the arrays have room for them
pub record HasEntries (t : List ℕ) (k : ℕ) : Type 0 where
  pub within : entry_length * k ≤ length t
  pub few : k ≤ most_table_entries

-- each entry of a table has handles lower than its own
abbrev pub parts_lower : List ℕ → Bool
parts_lower t = all_below (entry_count t) (λ i. handles_lower (entry t i) i)

-- the bucket of an entry: any function would do, and this one spreads ordinary entries well
unfoldable pub hash_of : Entry → ℕ
hash_of e = (e.left * 524114809 + e.right * 663608941 + e.yes * 786033567 + e.no * 444758427) / 1048576 % buckets

-- ---- sets of fields
-- the digits of a word
abbrev pub bits : ℕ
bits = 32

-- both fields of an equation have a digit
pub record SmallFields (g : Equation) : Type 0 where
  pub left_small : g.left.field.0 < bits
  pub right_small : g.right.field.0 < bits
