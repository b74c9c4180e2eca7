-- A row as written back is one that build does not refuse with 34, 35 or 36: it is well formed, and it is a leaf, an equation that is a question of
-- the list, or a choice of three rows (kinds 0, 1, 2 and 5).
use Rattle.std.specs.Prelude.{ℕ, ◌≤◌, ◌≡◌, true, List}
use Rattle.store.specs.Layout.{question_count, question}
use Rattle.tables.specs.declared.decoding.Part.{Part}
use Rattle.tables.specs.declared.decoding.Part.TheVariants as part
use Rattle.tables.specs.declared.decoding.Shape.{Shape}
use Rattle.tables.specs.declared.decoding.Shape.TheVariants.{Leaf, Equation, Choice}
use Rattle.tables.specs.declared.row.Row.{Row}
use Rattle.tables.specs.Decoding.{decode}
use Rattle.tables.specs.Faults.{well_formed}

abbrev pub IsRow : Part → Type 0
IsRow (part.Leaf b) = ⊥
IsRow (part.Row i) = Unit {0}

abbrev pub WrittenShape : List ℕ → Shape → Type 0
WrittenShape s (Leaf b) = Unit {0}
WrittenShape s (Equation e) = (k : ℕ) × (1 ≤ k) × (k ≤ question_count s) × (e ≡ question s k)
WrittenShape s (Choice a b c) = IsRow a × IsRow b × IsRow c

pub record WrittenRow (s : List ℕ) (i : ℕ) (r : Row) : Type 0 where
  pub formed : well_formed i r ≡ true
  pub shape : WrittenShape s (decode r)
