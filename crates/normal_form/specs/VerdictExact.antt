-- The verdict by meaning: never exactly if no choice of counts satisfies a handle, always exactly if every one does, sometimes exactly if one does and one doesn't.
use Rattle.std.specs.Prelude.{ℕ, ◌≡◌, true, false, ◌↔◌, List, Ok}
use Rattle.terms.specs.Meaning.{Valuation}
use Rattle.store.specs.declared.verdict.Verdict.TheVariants.{Never, Always, Sometimes}
use Rattle.normal_form.specs.CheckAnswer.{CheckAnswer}
use Rattle.normal_form.specs.Meaning.{meaning}

abbrev pub NoneSatisfies : List ℕ → ℕ → Type 0
NoneSatisfies t handle = (v : Valuation) → meaning t handle v ≡ false

abbrev pub EachSatisfies : List ℕ → ℕ → Type 0
EachSatisfies t handle = (v : Valuation) → meaning t handle v ≡ true

abbrev pub SomeButNotAll : List ℕ → ℕ → Type 0
SomeButNotAll t handle = ((v : Valuation) × (meaning t handle v ≡ true)) × ((v : Valuation) × (meaning t handle v ≡ false))

pub record VerdictExact (t : List ℕ) (handle : ℕ) (c : CheckAnswer) : Type 0 where
  pub never : (c ≡ Ok Never) ↔ NoneSatisfies t handle
  pub always : (c ≡ Ok Always) ↔ EachSatisfies t handle
  pub sometimes : (c ≡ Ok Sometimes) ↔ SomeButNotAll t handle
