-- The leaves that choices of counts fitting a state reach in a diagram, by the decision at each of its questions.
use Rattle.std.specs.Prelude.{ℕ, cond, not, ◌||◌}
use Rattle.facts.specs.declared.decision.Decision.TheVariants.{Always, Never, Open}
use Rattle.facts.specs.State.{State, no_to, yes_to, decide}
use Rattle.store.specs.Tree.{Tree, leaf, node}
use Rattle.terms.specs.declared.term.Equation.{Equation}
use Rattle.verdicts.specs.declared.leaves.Leaves.{Leaves}

abbrev pub either : Leaves → Leaves → Leaves
either a b = record { never = a.never || b.never; always = a.always || b.always }

unfoldable pub reached : (ℕ → Equation) → Tree → State → Leaves
reached ask (leaf b) st = record { never = not b; always = b }
reached ask (node k y n) st =
    elim (decide st (ask k)) [
      | Always ↦ reached ask y st
      | Never ↦ reached ask n st
      | Open ↦ either (reached ask y (yes_to st (ask k))) (reached ask n (no_to st (ask k)))
    ]

-- what is answered by the leaves that are reached, of which at least one is: for never alone, for always alone, for both
abbrev pub by_leaves : {A : Type 0} → A → A → A → Leaves → A
by_leaves never always both l = cond l.always (cond l.never both always) never
