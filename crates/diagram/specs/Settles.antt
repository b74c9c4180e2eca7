-- A meaning that the facts and the answers to the questions left settle.
use Rattle.std.specs.Prelude.{◌≡◌, Bool, List}
use Rattle.facts.specs.declared.fact.Fact.{Fact}
use Rattle.facts.specs.Facts.{Fits}
use Rattle.facts.specs.Least.{All}
use Rattle.terms.specs.declared.term.Equation.{Equation}
use Rattle.terms.specs.Meaning.{Valuation, truth}

-- where the facts hold, the meaning depends on the questions left only
abbrev pub Settles : (Valuation → Bool) → List Equation → List Fact → Type 0
Settles means qs xs = (v w : Valuation) → Fits xs v → Fits xs w → All (λ q. truth v q ≡ truth w q) qs → means v ≡ means w
