-- A meaning that rests on a store's list of questions.
use Rattle.std.specs.Prelude.{ℕ, ◌≡◌, Bool, List}
use Rattle.diagram.specs.Questions.{questions}
use Rattle.facts.specs.Least.{All}
use Rattle.terms.specs.Meaning.{Valuation, truth}

-- choices of counts that answer every question of the list alike give the meaning one truth
pub record Rests (s : List ℕ) (means : Valuation → Bool) : Type 0 where
  pub same : (v w : Valuation) → All (λ q. truth v q ≡ truth w q) (questions s) → means v ≡ means w
