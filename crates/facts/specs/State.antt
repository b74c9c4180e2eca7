-- The facts worked into one state, with no bound on fields, steps or facts. Each field has a class and an offset: its count is the base of its
-- class plus the offset. Class 0's base is 0, the others' are free. Beside them stand the questions answered no.
use Rattle.std.specs.Prelude.{ℕ, ◌+◌, ◌-◌, ◌*◌, ◌≡◌, Bool, true, false, cond, not, ◌&&◌, List, [], ◌∷◌, eqb, leb}
use Rattle.terms.specs.declared.term.Equation.{Equation}
use Rattle.terms.specs.declared.term.Term.{Term}
use Rattle.terms.specs.Meaning.{Valuation, count, truth}
use Rattle.terms.specs.Words.{field, steps, term, equation}
use Rattle.facts.specs.declared.decision.Decision.{Decision}
use Rattle.facts.specs.declared.decision.Decision.TheVariants.{Always, Never, Open}
use Rattle.facts.specs.declared.decision.Join.{Join}
use Rattle.facts.specs.declared.decision.Plan.{Plan}
use Rattle.facts.specs.declared.decision.Plan.TheVariants.{Keep, Clash}
use Rattle.facts.specs.declared.decision.Plan.TheVariants as plans
use Rattle.facts.specs.declared.place.Place.{Place}
use Rattle.facts.specs.declared.fact.Fact.{Fact}

pub record Classes : Type 0 where
  pub class : ℕ → ℕ
  pub offset : ℕ → ℕ

pub record State : Type 0 where
  pub classes : Classes
  pub noes : List Equation

-- the count of the field with a number
abbrev pub at : Valuation → ℕ → ℕ
at v f = count v (field f)

-- every question of the list is false
abbrev pub AllFalse : Valuation → List Equation → Type 0
AllFalse v [] = Unit {0}
AllFalse v (q ∷ qs) = (truth v q ≡ false) × AllFalse v qs

-- field 0 is in class 0, at its base
pub record ZeroKept (c : Classes) : Type 0 where
  pub class_zero : c.class 0 ≡ 0
  pub offset_zero : c.offset 0 ≡ 0

-- a choice of counts comes of these bases
pub record Classed (c : Classes) (base : ℕ → ℕ) (v : Valuation) : Type 0 where
  pub at_zero : base 0 ≡ 0
  pub at_field : (f : ℕ) → at v f ≡ base (c.class f) + c.offset f

-- a choice of counts fits the state
pub record Fit (s : State) (v : Valuation) : Type 0 where
  pub base : ℕ → ℕ
  pub classed : Classed s.classes base v
  pub noes_false : AllFalse v s.noes

-- the place of a term: its field's, as many steps above
abbrev pub place : Classes → Term → Place
place c t = record { class = c.class t.field.0; offset = c.offset t.field.0 + t.steps.0 }

-- the two sides of a question, above the bases of their fields' classes
abbrev pub left_side : Classes → Equation → ℕ
left_side c q = c.offset q.left.field.0 + q.left.steps.0

abbrev pub right_side : Classes → Equation → ℕ
right_side c q = c.offset q.right.field.0 + q.right.steps.0

-- the classes alone make it true
abbrev pub settled : Classes → Equation → Bool
settled c q = eqb (c.class q.left.field.0) (c.class q.right.field.0) && eqb (left_side c q) (right_side c q)

-- no question that was answered no is settled
abbrev pub none_settled : Classes → List Equation → Bool
none_settled c [] = true
none_settled c (q ∷ qs) = not (settled c q) && none_settled c qs

abbrev pub free : State → Bool
free s = none_settled s.classes s.noes

-- class `from` becomes part of class `into`, its base `by` above that one's
abbrev pub joined : Classes → Join → Classes
joined c j = record {
  class = λ f. cond (eqb (c.class f) j.from) j.into (c.class f);
  offset = λ f. cond (eqb (c.class f) j.from) (c.offset f + j.by) (c.offset f);
}

abbrev pub join : ℕ → ℕ → ℕ → Join
join into from by = record { into = into; from = from; by = by }

-- base p + a = base t + c, for the classes p and t: which class becomes part of which. A count below 0 is a clash, and so are two
-- different offsets in one class.
unfoldable pub plan : ℕ → ℕ → ℕ → ℕ → Plan
plan p t a c =
    cond (eqb p t) (cond (eqb a c) Keep Clash)
    (cond (leb c a)
    (cond (eqb t 0) (cond (eqb a c) (plans.Join (join t p 0)) Clash) (plans.Join (join p t (a - c))))
    (cond (eqb p 0) Clash (plans.Join (join t p (c - a)))))

abbrev pub plan_of : Classes → Equation → Plan
plan_of c q = plan (c.class q.left.field.0) (c.class q.right.field.0) (left_side c q) (right_side c q)

-- the question answered no
abbrev pub no_to : State → Equation → State
no_to s q = record { classes = s.classes; noes = q ∷ s.noes }

-- 0 = 0, which no choice of counts answers no
abbrev pub certain : Equation
certain = equation (term (field 0) (steps 0)) (term (field 0) (steps 0))

abbrev pub planned : State → Plan → State
planned s Keep = s
planned s Clash = no_to s certain
planned s (plans.Join j) = record { classes = joined s.classes j; noes = s.noes }

-- the question answered yes
abbrev pub yes_to : State → Equation → State
yes_to s q = planned s (plan_of s.classes q)

-- "one record, into which each answer is worked"
abbrev pub work_in : State → Equation → Bool → State
work_in s q true = yes_to s q
work_in s q false = no_to s q

-- no facts: each field is a class of its own
abbrev pub start : State
start = record { classes = record { class = λ f. f; offset = λ f. 0 }; noes = [] }

abbrev pub state_of : List Fact → State
state_of [] = start
state_of (x ∷ xs) = work_in (state_of xs) x.question x.answer

-- what the facts say of a question
unfoldable pub decide : State → Equation → Decision
decide s q = cond (settled s.classes q) Always (cond (free (yes_to s q)) Open Never)

-- more than any side of a question answered no
unfoldable pub spacing : Classes → List Equation → ℕ
spacing c [] = 1
spacing c (q ∷ qs) = left_side c q + right_side c q + spacing c qs

-- a choice of counts that fits, if any does: class k's base is k times the spacing
unfoldable pub some_sheet : State → Valuation
some_sheet s f = s.classes.class f.0 * spacing s.classes s.noes + s.classes.offset f.0
