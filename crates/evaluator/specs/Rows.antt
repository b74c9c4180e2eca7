-- a row's four words: its kind, and three columns, of which those that the kind doesn't use are 0
use Rattle.std.specs.Prelude.{ℕ, List, [], ◌∷◌}
use Rattle.evaluator.specs.declared.rules.Row.{Row}
use Rattle.evaluator.specs.declared.rules.Row.TheVariants.{Never, Always, Asks, Not, And, IfThenElse}

abbrev pub row_words : Row → List ℕ
row_words Never = 0 ∷ 0 ∷ 0 ∷ 0 ∷ []
row_words Always = 1 ∷ 0 ∷ 0 ∷ 0 ∷ []
row_words (Asks e) = 2 ∷ e.left ∷ e.right ∷ 0 ∷ []
row_words (Not a) = 3 ∷ a ∷ 0 ∷ 0 ∷ []
row_words (And a b) = 4 ∷ a ∷ b ∷ 0 ∷ []
row_words (IfThenElse a b c) = 5 ∷ a ∷ b ∷ c ∷ []
