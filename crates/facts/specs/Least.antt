-- The first sheet that fits some facts (document 01, "the least satisfying sheet, field 1 compared first").
use Rattle.std.specs.Prelude.{ℕ, zero, suc, ◌+◌, ◌≤◌, ◌<◌, ◌≡◌, Bool, cond, List, [], ◌∷◌}
use Rattle.terms.specs.declared.term.Equation.{Equation}
use Rattle.terms.specs.Meaning.{Valuation, truth}
use Rattle.terms.specs.Words.{field, steps, term, equation}
use Rattle.facts.specs.State.{at, free, yes_to, State, some_sheet}

-- v meets the condition, and no choice of counts that does is before it: where another first differs among the fields 1 to n, it is larger
pub record IsLeast (n : ℕ) (Meets : Valuation → Type 0) (v : Valuation) : Type 0 where
  pub meets : Meets v
  pub least : (w : Valuation) → Meets w → (f : ℕ) → f ≤ n → ((g : ℕ) → g < f → at v g ≡ at w g) → at v f ≤ at w f

-- the field counts x
abbrev pub counts : ℕ → ℕ → Equation
counts f x = equation (term (field f) (steps 0)) (term (field 0) (steps x))

-- the first number from x on that passes the test, at most so many further on
unfoldable pub first_from : ℕ → (ℕ → Bool) → ℕ → ℕ
first_from zero p x = x
first_from (suc d) p x = cond (p x) x (first_from d p (suc x))

-- the field can count x
abbrev pub can_count : State → ℕ → ℕ → Bool
can_count s f x = free (yes_to s (counts f x))

-- the least count that a field can have; some choice of counts that fits shows how far to look
abbrev pub least_count : State → ℕ → ℕ
least_count s f = first_from (at (some_sheet s) f) (can_count s f) 0

-- the fields 1 to n, each with the least count that it can have beside those before it
unfoldable pub fixed : ℕ → State → State
fixed zero s = s
fixed (suc n) s = yes_to (fixed n s) (counts (suc n) (least_count (fixed n s) (suc n)))

abbrev pub least_sheet : ℕ → State → Valuation
least_sheet n s = some_sheet (fixed n s)

-- a question on fields up to n, whose gap without its sign is at most k
pub record Near (n k : ℕ) (q : Equation) : Type 0 where
  pub left_in : q.left.field.0 ≤ n
  pub right_in : q.right.field.0 ≤ n
  pub gap_up : q.right.steps.0 ≤ q.left.steps.0 + k
  pub gap_down : q.left.steps.0 ≤ q.right.steps.0 + k

abbrev pub All : (Equation → Type 0) → List Equation → Type 0
All P [] = Unit {0}
All P (q ∷ qs) = P q × All P qs

-- whether a choice of counts meets the condition depends on the truth of these questions only
abbrev pub RestsOn : List Equation → (Valuation → Type 0) → Type 0
RestsOn qs Meets = (v w : Valuation) → All (λ q. truth v q ≡ truth w q) qs → Meets v → Meets w
