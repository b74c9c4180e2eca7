-- What a resulting list is, for a reader: it ascends strictly, and it has the questions that its raw list's equations simplify to, and no others.
use Rattle.std.specs.Prelude.{◌≡◌, ◌↔◌, true}
use mathlib.Core.List.{List, [], ◌∷◌, Memᴰ}
use Rattle.terms.specs.declared.simplification.Guard.TheVariants.{Question}
use Rattle.terms.specs.declared.term.Equation.{Equation}
use Rattle.terms.specs.Order.{Order, before}
use Rattle.terms.specs.Simplify.{simplify}

-- an equation stands in a list
abbrev pub In : Equation → List Equation → Type 0
In e es = Memᴰ e es

-- each question of a list comes before all that stand behind it
abbrev pub Ascends : Order → List Equation → Type 0
Ascends order [] = Unit {0}
Ascends order (q ∷ qs) = ((p : Equation) → In p qs → before order q p ≡ true) × Ascends order qs

-- some equation of a raw list simplifies to a question
abbrev pub WrittenIn : List Equation → Equation → Type 0
WrittenIn es q = (e : Equation) × In e es × (simplify e ≡ Question q)

-- qs is what a raw list results in
pub record IsResulting (order : Order) (es qs : List Equation) : Type 0 where
  pub ascends : Ascends order qs
  pub members : (q : Equation) → In q qs ↔ WrittenIn es q
