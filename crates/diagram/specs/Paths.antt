-- The paths of a diagram, and the choices of counts that follow them.
use Rattle.std.specs.Prelude.{ℕ, ◌≡◌, Bool, true, false, List}
use Rattle.diagram.specs.Finish.{answers_from}
use Rattle.facts.specs.declared.fact.Fact.{Fact}
use Rattle.facts.specs.Facts.{Fits}
use Rattle.store.specs.Tree.{Tree, leaf, node}
use Rattle.terms.specs.declared.term.Equation.{Equation}
use Rattle.terms.specs.Meaning.{Valuation}

-- A path through a diagram, to a leaf.
pub data Path : Tree → Type 0 where
  ends : {b : Bool} → Path (leaf b)
  goes_yes : {k : ℕ} {y n : Tree} → Path y → Path (node k y n)
  goes_no : {k : ℕ} {y n : Tree} → Path n → Path (node k y n)

-- the answers lead along the path
abbrev pub Follows : (ℕ → Bool) → {t : Tree} → Path t → Type 0
Follows answers ends = Unit {0}
Follows answers (goes_yes {k = k} p) = (answers k ≡ true) × Follows answers p
Follows answers (goes_no {k = k} p) = (answers k ≡ false) × Follows answers p

-- some choice of counts that fits the facts follows the path
abbrev pub Followed : List Equation → ℕ → List Fact → (t : Tree) → Path t → Type 0
Followed qs k xs t p = (v : Valuation) × Fits xs v × Follows (answers_from k qs v) p
