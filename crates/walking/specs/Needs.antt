-- What the code relies on, and no claim: the words of the store that a walk reads and adds to, the rows of its table, and the facts so far.
use Rattle.std.specs.Prelude.{ℕ, ◌+◌, ◌-◌, ◌*◌, ◌≤◌, ◌<◌, ◌≡◌, List, length, get_or}
use Rattle.facts.specs.declared.decision.Decision.{Decision}
use Rattle.facts.specs.declared.decision.Decision.TheVariants.{Always, Never, Open}
use Rattle.facts.specs.declared.record.Facts.{Facts}
use Rattle.facts.specs.Record.{most_noes, Small, Holds}
use Rattle.index.specs.declared.chains.Index.{Index}
use Rattle.index.specs.Needs.{EntriesFit, hash_of, Searchable}
use Rattle.store.specs.Layout.{question_count, used, question, entries_start, entry, leaves}
use Rattle.store.specs.Sound.{same_entry}
use Rattle.tables.specs.declared.decoding.Part.{Part}
use Rattle.tables.specs.declared.decoding.Shape.{Shape}
use Rattle.tables.specs.declared.decoding.Shape.TheVariants as shape
use Rattle.tables.specs.declared.row.Row.{Row}
use Rattle.tables.specs.Decoding.{decode, Lower, LowerPart}
use Rattle.tables.specs.Rows.{row, row_count, most_rows}
use Rattle.terms.specs.declared.limits.Limits.{Limits}
use Rattle.terms.specs.Limits.{most_entries, most_count}
use Rattle.terms.specs.Needs.{FitLimits}
use Rattle.walking.specs.declared.subject.Subject.{Subject}
use Rattle.walking.specs.declared.subject.Subject.TheVariants.{Table, Choice}

-- ---- the parts that the code has apart
-- what is said of the i-th row; of a row that isn't reached yet, never
abbrev pub said : List Decision → ℕ → Decision
said values i = get_or values i Never

-- the leaf of a value; after the last question none is open
abbrev pub leaf_of : Decision → ℕ
leaf_of Always = 1
leaf_of Never = 0
leaf_of Open = 0

-- ---- the store
-- The words of a store as far as a walk relies on them: less than that the store is sound, and left so by every entry that is added.
pub record Walkable (s : List ℕ) : Type 0 where
  pub list_short : question_count s ≤ most_noes
  pub list_small : (k : ℕ) → 1 ≤ k → k ≤ question_count s → Small most_count (question s k)
  pub used_few : used s ≤ most_entries
  pub used_in : entries_start s + 3 * used s ≤ length s
  pub asks_some : (i : ℕ) → i < used s → 1 ≤ (entry s i).question
  pub asks_listed : (i : ℕ) → i < used s → (entry s i).question ≤ question_count s
  pub yes_below : (i : ℕ) → i < used s → (entry s i).yes < i + leaves
  pub no_below : (i : ℕ) → i < used s → (entry s i).no < i + leaves

-- no two of the used entries are equal, and they are in the index
pub record InIndex (s : List ℕ) (x : Index) : Type 0 where
  pub all : x.count ≡ used s
  pub ready : Searchable (EntriesFit s (entries_start s)) (entry s) hash_of same_entry x

-- an entry can be looked up, and one more goes into the index where the limits have room for it
pub record CanPlace (limits : Limits) (s : List ℕ) (x : Index) : Type 0 where
  pub fit : FitLimits limits
  pub index : InIndex s x

-- a handle can be followed by the facts
pub record CanFollow (s : List ℕ) (handle : ℕ) (f : Facts) : Type 0 where
  pub walkable : Walkable s
  pub named : handle < used s + leaves
  pub holds : Holds most_noes most_count f

-- ---- the table
-- an equation that can be asked
abbrev pub SmallShape : Shape → Type 0
SmallShape (shape.Leaf b) = Unit {0}
SmallShape (shape.Equation e) = Small most_count e
SmallShape (shape.Choice a b c) = Unit {0}

pub record GoodRow (r : Row) (i : ℕ) : Type 0 where
  pub lower : Lower i (decode r)
  pub small : SmallShape (decode r)

pub record GoodTable (table : List ℕ) : Type 0 where
  pub some : 1 ≤ row_count table
  pub few : row_count table ≤ most_rows
  pub good : (i : ℕ) → i < row_count table → GoodRow (row table i) i

pub record AsksTable (table : List ℕ) (f : Facts) : Type 0 where
  pub good_table : GoodTable table
  pub holds : Holds most_noes most_count f

-- a part is a leaf or one of the rows before
pub record HasPart (before : List Decision) (part : Part) : Type 0 where
  pub room : length before ≡ most_rows
  pub lower : LowerPart most_rows part

-- the i-th row can be asked of the facts, given what is said of the rows before it
pub record AsksRow (table : List ℕ) (i : ℕ) (before : List Decision) (f : Facts) : Type 0 where
  pub good_table : GoodTable table
  pub row_in : i < row_count table
  pub room : length before ≡ most_rows
  pub holds : Holds most_noes most_count f

-- ---- the walk
-- its subject has a value on the words of a store
abbrev pub Named : List ℕ → Subject → Type 0
Named s (Table rows) = GoodTable rows.now
Named s (Choice a b c) = (a < used s + leaves) × (b < used s + leaves) × (c < used s + leaves)

pub record HasValue (s : List ℕ) (subject : Subject) (f : Facts) : Type 0 where
  pub walkable : Walkable s
  pub named : Named s subject
  pub holds : Holds most_noes most_count f

-- A walk can begin at the question with the number k, where so many are left: no more than k - 1 of them were answered no.
pub record CanWalk (limits : Limits) (s : List ℕ) (subject : Subject) (f : Facts) (k left : ℕ) : Type 0 where
  pub fit : FitLimits limits
  pub walkable : Walkable s
  pub named : Named s subject
  pub from_one : 1 ≤ k
  pub to_last : k + left ≤ question_count s + 1
  pub holds : Holds (k - 1) most_count f
