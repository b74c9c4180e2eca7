-- What a table and a root that pass 81 to 85 are like, in plain facts (theorem `passes_kept`).
use Rattle.std.specs.Prelude.{ℕ, ◌+◌, ◌≤◌, ◌<◌, ◌≡◌, List}
use Rattle.store.specs.Layout.{leaves}
use Rattle.terms.specs.declared.term.Equation.{Equation}
use Rattle.terms.specs.Form.{SimplifiedForm}
use Rattle.normal_form.specs.Falling.{Falling}
use Rattle.normal_form.specs.Limits.{most_table_steps, most_table_entries}
use Rattle.normal_form.specs.Reachable.{Reaches}
use Rattle.normal_form.specs.Table.{entry_count, entry, asks}

-- a simplified equation within the steps that a table may have
pub record Asked (q : Equation) : Type 0 where
  pub form : SimplifiedForm q
  pub left_steps : q.left.steps.0 ≤ most_table_steps
  pub right_steps : q.right.steps.0 ≤ most_table_steps

pub record KeptTable (t : List ℕ) (root : ℕ) : Type 0 where
  pub few : entry_count t ≤ most_table_entries
  pub root_in : root < entry_count t + leaves
  pub asked : (i : ℕ) → i < entry_count t → Asked (asks (entry t i))
  pub falling : Falling t (entry_count t)
  pub one_entry : (i j : ℕ) → i < entry_count t → j < entry_count t → entry t i ≡ entry t j → i ≡ j
  pub reached : (i : ℕ) → i < entry_count t → Reaches t root (i + leaves)
