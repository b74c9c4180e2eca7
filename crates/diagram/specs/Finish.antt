-- The finished diagram as a function that computes: skipping by the decision, and the leaf by the meaning at a choice of counts that fits.
use Rattle.std.specs.Prelude.{ℕ, ◌+◌, Bool, true, false, cond, not, ◌&&◌, List, [], ◌∷◌, eqb}
use Rattle.facts.specs.declared.decision.Decision.TheVariants.{Always, Never, Open}
use Rattle.facts.specs.State.{State, no_to, yes_to, start, decide, some_sheet}
use Rattle.store.specs.Tree.{Tree, leaf, node}
use Rattle.terms.specs.declared.term.Equation.{Equation}
use Rattle.terms.specs.Meaning.{Valuation, truth}

-- two truths, two trees are the same
abbrev pub same_truth : Bool → Bool → Bool
same_truth true b = b
same_truth false b = not b

unfoldable pub same_tree : Tree → Tree → Bool
same_tree (leaf a) (leaf b) = same_truth a b
same_tree (leaf a) (node k y n) = false
same_tree (node j x m) (leaf b) = false
same_tree (node j x m) (node k y n) = eqb j k && same_tree x y && same_tree m n

-- "If both parts are the same diagram, that diagram stands and no entry is made."
unfoldable pub parts : ℕ → Tree → Tree → Tree
parts k y n = cond (same_tree y n) y (node k y n)

unfoldable pub finish : List Equation → ℕ → State → (Valuation → Bool) → Tree
finish [] k s means = leaf (means (some_sheet s))
finish (q ∷ qs) k s means =
    elim (decide s q) [
      | Always ↦ finish qs (k + 1) s means
      | Never ↦ finish qs (k + 1) s means
      | Open ↦ parts k (finish qs (k + 1) (yes_to s q) means) (finish qs (k + 1) (no_to s q) means)
    ]

-- "Given the list and a meaning, start with no facts."
abbrev pub finished : List Equation → (Valuation → Bool) → Tree
finished list means = finish list 1 start means

-- the truth of the questions by number, the first of the list having the number k
unfoldable pub answers_from : ℕ → List Equation → Valuation → ℕ → Bool
answers_from k [] v j = false
answers_from k (q ∷ qs) v j = cond (eqb j k) (truth v q) (answers_from (k + 1) qs v j)
