-- What an answer of reading says of a sheet's fillings: each of the three results is given exactly if it is right.
use Rattle.std.specs.Prelude.{ℕ, ◌≤◌, ◌≡◌, ◌↔◌, Bool, true, false, List}
use Rattle.reading.specs.Blanks.{Fills}
use Rattle.reading.specs.Read.{Read, read_number, read_result}
use Rattle.terms.specs.Meaning.{Valuation}

-- every filling gives the meaning this truth
abbrev pub EveryFilling : List ℕ → (Valuation → Bool) → Bool → Type 0
EveryFilling sheet means b = (v : Valuation) → Fills sheet v → means v ≡ b

-- some filling does
abbrev pub SomeFilling : List ℕ → (Valuation → Bool) → Bool → Type 0
SomeFilling sheet means b = (v : Valuation) × Fills sheet v × (means v ≡ b)

pub record ReadExactly (sheet : List ℕ) (means : Valuation → Bool) (r : Read) : Type 0 where
  pub accepted : read_number r ≡ 0
  pub one_of_three : read_result r ≤ 2
  -- "1 if every filling of the blanks ... satisfies the rule"
  pub one : (read_result r ≡ 1) ↔ EveryFilling sheet means true
  -- "0 if none does"
  pub zero : (read_result r ≡ 0) ↔ EveryFilling sheet means false
  -- "2 otherwise": one does and one doesn't
  pub two : (read_result r ≡ 2) ↔ (SomeFilling sheet means true × SomeFilling sheet means false)
