-- Facts, the choices of counts that fit them, and what they force (document 01, "The finished diagram"). No algorithm is in here.
use Rattle.std.specs.Prelude.{◌≡◌, Bool, true, false, List, [], ◌∷◌}
use Rattle.terms.specs.declared.term.Equation.{Equation}
use Rattle.terms.specs.Meaning.{Valuation, truth}
use Rattle.facts.specs.declared.fact.Fact.{Fact}
use Rattle.facts.specs.declared.decision.Decision.{Decision}
use Rattle.facts.specs.declared.decision.Decision.TheVariants.{Always, Never, Open}

-- a question and its answer: the struct of src/fact.rt
abbrev pub fact : Equation → Bool → Fact
fact q a = record { question = q; answer = a }

-- a "choice of counts fitting the facts", the newest fact first
abbrev pub Fits : List Fact → Valuation → Type 0
Fits [] v = Unit {0}
Fits (x ∷ xs) v = (truth v x.question ≡ x.answer) × Fits xs v

-- "A question that is true under every choice of counts fitting the facts, or false under every such choice, is skipped with that answer.
-- Otherwise it is asked": it is open, as two choices show.
abbrev pub Forces : List Fact → Equation → Decision → Type 0
Forces xs q Always = (v : Valuation) → Fits xs v → truth v q ≡ true
Forces xs q Never = (v : Valuation) → Fits xs v → truth v q ≡ false
Forces xs q Open = ((v : Valuation) × Fits xs v × (truth v q ≡ true)) × ((v : Valuation) × Fits xs v × (truth v q ≡ false))
