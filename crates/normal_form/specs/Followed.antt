-- "every path of an accepted diagram is followed by some sheet": a sheet is a choice of natural numbers, with no bound.
use Rattle.std.specs.Prelude.{ℕ, ◌≡◌, List}
use Rattle.facts.specs.Facts.{Fits}
use Rattle.terms.specs.Meaning.{Valuation}
use Rattle.normal_form.specs.Meaning.{meaning}
use Rattle.normal_form.specs.Paths.{Path, facts_of, end_of, followed}
use Rattle.normal_form.specs.Tree.{tree}

-- Some choice of counts gives each equation of the path the answer that the path takes; so following the truth of the equations takes that path, and the
-- handle's meaning is the leaf at its end. (`Fits` does not depend on the order of the facts.)
pub record Followed (t : List ℕ) (handle : ℕ) (p : Path (tree t handle)) : Type 0 where
  pub counts : Valuation
  pub answers : Fits (facts_of (tree t handle) p) counts
  pub takes : followed counts (tree t handle) ≡ p
  pub ends : meaning t handle counts ≡ end_of (tree t handle) p
