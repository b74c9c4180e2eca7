-- A store's list of questions, in order, and the finished diagram over it.
use Rattle.std.specs.Prelude.{ℕ, zero, suc, ◌+◌, Bool, List, [], ◌∷◌}
use Rattle.diagram.specs.Finish.{finished}
use Rattle.store.specs.Layout.{question_count, question}
use Rattle.store.specs.Tree.{Tree}
use Rattle.terms.specs.declared.term.Equation.{Equation}
use Rattle.terms.specs.Meaning.{Valuation}

-- so many questions, from the one with the number k on
unfoldable pub questions_from : List ℕ → ℕ → ℕ → List Equation
questions_from s zero k = []
questions_from s (suc left) k = question s k ∷ questions_from s left (k + 1)

abbrev pub questions : List ℕ → List Equation
questions s = questions_from s (question_count s) 1

-- the finished diagram of a meaning over the store's list
abbrev pub finished_in : List ℕ → (Valuation → Bool) → Tree
finished_in s means = finished (questions s) means
