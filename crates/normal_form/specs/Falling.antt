-- The handles of the first m entries are lower than their own, as 83 has it: so they can be followed down to a leaf.
use Rattle.std.specs.Prelude.{ℕ, ◌+◌, ◌<◌, List}
use Rattle.store.specs.Layout.{leaves}
use Rattle.normal_form.specs.Table.{entry}

pub record Falling (t : List ℕ) (m : ℕ) : Type 0 where
  pub yes_below : (i : ℕ) → i < m → (entry t i).yes < i + leaves
  pub no_below : (i : ℕ) → i < m → (entry t i).no < i + leaves
