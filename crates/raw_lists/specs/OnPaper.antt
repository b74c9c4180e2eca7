-- One raw list in two spellings: "Designers list equations as on paper, some turned round or doubled."
use Rattle.std.specs.Prelude.{ℕ, ◌+◌, ◌/◌, ◌%◌, ◌≤◌, ◌≡◌, ◌≢◌, true, List, length}
use Rattle.terms.specs.declared.limits.Limits.{Limits}
use Rattle.terms.specs.declared.term.Equation.{Equation}
use Rattle.terms.specs.declared.term.Term.{Term}
use Rattle.terms.specs.Limits.{terms_within}
use Rattle.terms.specs.Simplify.{turned}
use Rattle.terms.specs.Words.{steps, term, equation}
use Rattle.raw_lists.specs.IsResulting.{In}
use Rattle.raw_lists.specs.Equations.{equations}
use Rattle.raw_lists.specs.Limits.{most_equations}
use Rattle.raw_lists.specs.OpenRaw.{all_allowed}

-- steps added on both sides
abbrev pub more_steps : ℕ → Term → Term
more_steps k t = term t.field (steps (t.steps.0 + k))

abbrev pub raised : ℕ → Equation → Equation
raised k e = equation (more_steps k e.left) (more_steps k e.right)

-- d is e in another spelling: turned round, and with steps added on both sides, as often as one likes
pub data Spells (e : Equation) : Equation → Type 0 where
  as_it_is : Spells e e
  turned_round : {d : Equation} → Spells e d → Spells e (turned d)
  steps_added : {d : Equation} (k : ℕ) → Spells e d → Spells e (raised k d)

-- each equation of the one list is spelled somewhere in the other, however often and wherever, and the other spells nothing else
pub record Respelled (es ds : List Equation) : Type 0 where
  pub spelled : (e : Equation) → In e es → (d : Equation) × In d ds × Spells e d
  pub spells : (d : Equation) → In d ds → (e : Equation) × In e es × Spells e d

-- neither 12 nor 17 nor 14 comes of a raw list: it is taken for collecting
pub record Taken (limits : Limits) (n : ℕ) (raw : List ℕ) : Type 0 where
  pub even : length raw % 2 ≢ 1
  pub few : length raw / 2 ≤ most_equations
  pub allowed : all_allowed (terms_within limits n) (equations raw) ≡ true
