-- The state that a record of facts stands for, and what the promises say by it.
use Rattle.std.specs.Prelude.{ℕ, zero, suc, ◌≤◌, ◌≡◌, true, false, List, [], ◌∷◌, get_or, Option, Some, None}
use Rattle.terms.specs.declared.term.Equation.{Equation}
use Rattle.terms.specs.Limits.{most_fields, most_questions}
use Rattle.terms.specs.Words.{equation, term_of}
use Rattle.facts.specs.declared.decision.Decision.{Decision}
use Rattle.facts.specs.declared.decision.Decision.TheVariants.{Always, Never, Open}
use Rattle.facts.specs.declared.least.Sheet.{Sheet}
use Rattle.facts.specs.declared.place.Place.{Place}
use Rattle.facts.specs.declared.record.Facts.{Facts}
use Rattle.facts.specs.declared.noes.Noes.{Noes}
use Rattle.facts.specs.declared.noes.WordPair.{WordPair}
use Rattle.facts.specs.declared.asking.Asked.{Asked}
use Rattle.facts.specs.declared.asking.Asked.TheVariants as asked
use Rattle.facts.specs.declared.fact.Fact.{Fact}
use Rattle.facts.specs.Least.{least_sheet}
use Rattle.facts.specs.State.{Classes, State, at, free, yes_to, state_of, decide}

-- the place of a field that is a class of its own, at its base
abbrev pub own_place : ℕ → Place
own_place k = record { class = k; offset = 0 }

-- Fields beyond the list are classes of their own.
abbrev pub classes_in : List Place → Classes
classes_in places = record { class = λ k. (get_or places k (own_place k)).class; offset = λ k. (get_or places k (own_place k)).offset }

-- the question of two term words
abbrev pub question_in : WordPair → Equation
question_in w = equation (term_of w.left) (term_of w.right)

-- so many questions of a list, the last first
unfoldable pub noes_in : List WordPair → ℕ → List Equation
noes_in pairs zero = []
noes_in pairs (suc k) = question_in (get_or pairs k (record { left = 0; right = 0 })) ∷ noes_in pairs k

abbrev pub questions_in : Noes → List Equation
questions_in n = noes_in n.pairs n.count

abbrev pub state : Facts → State
state f = record { classes = classes_in f.places; noes = questions_in f.noes }

-- the last field that a record has room for, the places for fields, field 0 among them, and how many questions answered no it has room for
abbrev pub last_field : ℕ
last_field = most_fields

abbrev pub field_places : ℕ
field_places = suc last_field

abbrev pub most_noes : ℕ
most_noes = most_questions

-- a question on the record's fields, with no more than so many steps
pub record Small (most : ℕ) (q : Equation) : Type 0 where
  pub left_in : q.left.field.0 ≤ last_field
  pub right_in : q.right.field.0 ≤ last_field
  pub left_steps : q.left.steps.0 ≤ most
  pub right_steps : q.right.steps.0 ≤ most

abbrev pub AllSmall : ℕ → List Fact → Type 0
AllSmall most [] = Unit {0}
AllSmall most (x ∷ xs) = Small most x.question × AllSmall most xs

-- The record holds some facts that some choice of counts fits, at most so many answered no, with no more than so many steps.
pub record Holds (most_no most : ℕ) (f : Facts) : Type 0 where
  pub facts : List Fact
  pub small : AllSmall most facts
  pub is : state f ≡ state_of facts
  pub fitted : free (state f) ≡ true
  pub few : f.noes.count ≤ most_no

-- what working a yes in promises: the record of a yes exactly if the state is free then
abbrev pub WorkedYes : Facts → Equation → Option Facts → Type 0
WorkedYes f q (Some g) = (free (yes_to (state f) q) ≡ true) × (state g ≡ yes_to (state f) q)
WorkedYes f q None = free (yes_to (state f) q) ≡ false

-- the decision that is answered
abbrev pub asked_decision : Asked → Decision
asked_decision asked.Always = Always
asked_decision asked.Never = Never
asked_decision (asked.Open g) = Open

-- what asking promises: the decision, and, if the question is open, the record of a yes
pub record AskedOf (f : Facts) (q : Equation) (r : Asked) : Type 0 where
  pub decision_is : asked_decision r ≡ decide (state f) q
  pub yes_is : (g : Facts) → r ≡ asked.Open g → state g ≡ yes_to (state f) q

-- each field's count in the least sheet
pub record LeastCounts (f : Facts) (n : ℕ) (r : Sheet) : Type 0 where
  pub count_at : (i : ℕ) → 1 ≤ i → i ≤ n → get_or r.counts i 0 ≡ at (least_sheet n (state f)) i
