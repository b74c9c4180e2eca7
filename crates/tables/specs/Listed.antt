-- Whether an equation is one of a store's list: "an equation neither always nor never nor on the list" is refused.
use Rattle.std.specs.Prelude.{ℕ, zero, suc, Bool, true, false, ◌&&◌, ◌||◌, List, eqb}
use Rattle.store.specs.Layout.{question_count, question}
use Rattle.terms.specs.declared.simplification.Guard.{Guard}
use Rattle.terms.specs.declared.simplification.Guard.TheVariants.{Never, Always, Question}
use Rattle.terms.specs.declared.term.Equation.{Equation}

abbrev pub same_equation : Equation → Equation → Bool
same_equation p q =
    eqb p.left.field.0 q.left.field.0 && eqb p.left.steps.0 q.left.steps.0
    && eqb p.right.field.0 q.right.field.0 && eqb p.right.steps.0 q.right.steps.0

-- the question is one of the first k of the list
unfoldable pub on_list : List ℕ → Equation → ℕ → Bool
on_list s q zero = false
on_list s q (suc k) = same_equation (question s (suc k)) q || on_list s q k

-- "equation of term words a, b, simplified before it is looked up"
abbrev pub guard_listed : List ℕ → Guard → Bool
guard_listed s Never = true
guard_listed s Always = true
guard_listed s (Question q) = on_list s q (question_count s)
