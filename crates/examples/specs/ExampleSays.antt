-- What the best sheet says of a meaning: that nothing satisfies it, or that it is the least sheet that does.
use Rattle.std.specs.Prelude.{Some, None}
use Rattle.std.specs.Prelude.{ℕ, ◌≡◌, Bool, true}
use Rattle.examples.specs.Best.{sheet, Best}
use Rattle.facts.specs.Least.{IsLeast}
use Rattle.terms.specs.Meaning.{Valuation}

abbrev pub ExampleSays : ℕ → (Valuation → Bool) → Best → Type 0
ExampleSays n means None = (v : Valuation) → means v ≡ true → ⊥
ExampleSays n means (Some x) = (v : Valuation) × IsLeast n (λ w. means w ≡ true) v × (x ≡ sheet n v)
