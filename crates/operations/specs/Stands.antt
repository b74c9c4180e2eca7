-- A handle at which the finished diagram of a meaning stands.
use Rattle.std.specs.Prelude.{ℕ, ◌+◌, ◌<◌, ◌≡◌, Bool, List}
use Rattle.diagram.specs.Questions.{finished_in}
use Rattle.operations.specs.Rests.{Rests}
use Rattle.store.specs.Layout.{used, leaves}
use Rattle.store.specs.Tree.{tree}
use Rattle.terms.specs.Meaning.{Valuation}

pub record Stands (s : List ℕ) (h : ℕ) (means : Valuation → Bool) : Type 0 where
  pub handle_in : h < used s + leaves
  pub rests : Rests s means
  pub diagram : tree s h ≡ finished_in s means
