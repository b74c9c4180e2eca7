-- The least sheet over the paths of a diagram that lead to always: at each such path the least sheet that fits its facts.
use Rattle.std.specs.Prelude.{ℕ, zero, suc, ◌+◌, ◌≡◌, true, false, cond, List, [], ◌∷◌, length, Option, Some, None}
use Rattle.facts.specs.declared.decision.Decision.TheVariants.{Always, Never, Open}
use Rattle.facts.specs.Least.{least_sheet}
use Rattle.facts.specs.State.{State, at, no_to, yes_to, decide}
use Rattle.store.specs.Tree.{Tree, leaf, node}
use Rattle.terms.specs.declared.term.Equation.{Equation}
use Rattle.terms.specs.Meaning.{Valuation}
use Rattle.terms.specs.Order.{lex}

-- the counts of so many fields, from the i-th on
unfoldable pub counts_from : ℕ → ℕ → (ℕ → ℕ) → List ℕ
counts_from zero i c = []
counts_from (suc left) i c = c i ∷ counts_from left (i + 1) c

-- a choice of counts as a sheet of the fields 1 to n
abbrev pub sheet : ℕ → Valuation → List ℕ
sheet n v = counts_from n 1 (at v)

-- the best sheet so far, if there is one
abbrev pub Best : Type 0
Best = Option (List ℕ)

-- a sheet of n counts, if there is one
abbrev pub Sized : ℕ → Best → Type 0
Sized n None = Unit {0}
Sized n (Some x) = length x ≡ n

-- "field 1 compared first": the earlier of the two
abbrev pub lesser : Best → List ℕ → Best
lesser None x = Some x
lesser (Some y) x = cond (lex x y) (Some x) (Some y)

unfoldable pub best : (ℕ → Equation) → ℕ → Tree → State → Best → Best
best ask n (leaf false) st b = b
best ask n (leaf true) st b = lesser b (sheet n (least_sheet n st))
best ask n (node k y m) st b =
    elim (decide st (ask k)) [
      | Always ↦ best ask n y st b
      | Never ↦ best ask n m st b
      | Open ↦ best ask n m (no_to st (ask k)) (best ask n y (yes_to st (ask k)) b)
    ]
