-- What the code relies on, and no claim.
use Rattle.std.specs.Prelude.{ℕ, suc, ◌+◌, ◌*◌, ◌≤◌, ◌≡◌, Bool, true, false, cond, not, List, [], ◌∷◌, length, take, drop, Result, Ok, Err}
use Rattle.terms.specs.declared.limits.TermLimits.{TermLimits}
use Rattle.terms.specs.declared.term.Equation.{Equation}
use Rattle.terms.specs.Order.{Order, before}
use Rattle.collecting.specs.declared.questions.Questions.{Questions}
use Rattle.terms.specs.declared.simplification.OutOfLimits.{OutOfLimits}
use Rattle.raw_lists.specs.Equations.{equations}
use Rattle.raw_lists.specs.OpenRaw.{both_allowed, all_allowed}
use Rattle.raw_lists.specs.Resulting.{with_equation, collected, resulting}

-- how many questions of a list come before q, up to the first that does not
unfoldable pub place : Order → Equation → List Equation → ℕ
place order q [] = 0
place order q (p ∷ ps) = cond (before order p q) (suc (place order q ps)) 0

-- of questions that do not come before q, the first is q
unfoldable pub begins_with : Order → Equation → List Equation → Bool
begins_with order q [] = false
begins_with order q (p ∷ ps) = not (before order q p)

-- the first `count` questions of the words
abbrev pub first_questions : List ℕ → ℕ → List Equation
first_questions words count = equations (take (2 * count) words)

-- the words hold `count` questions, which are these
pub record Holds (words : List ℕ) (count : ℕ) (qs : List Equation) : Type 0 where
  pub fit : 2 * count ≤ length words
  pub are : first_questions words count ≡ qs

-- a question was put among `count` others, and there is at most one more
pub record HasPut (qs : List Equation) (words : List ℕ) (count found : ℕ) : Type 0 where
  pub few : found ≤ count + 1
  pub holds : Holds words found qs

-- what became of one raw equation, and of a raw list
abbrev pub CollectsOne : {N : ℕ} → Order → TermLimits → Equation → Questions N → Result Unit OutOfLimits → Questions N → Type 0
CollectsOne order limits e old (Ok done) new =
    (both_allowed limits e ≡ true) × HasPut (with_equation order e (first_questions old.words old.count)) new.words old.count new.count
CollectsOne order limits e old (Err fault) new = both_allowed limits e ≡ false

-- with the first k equations of a raw list collected: what is to come of the rest is what is to come of all
pub record Collecting {N : ℕ} (order : Order) (limits : TermLimits) (raw : List ℕ) (q : Questions N) (k : ℕ) : Type 0 where
  pub few : q.count ≤ k
  pub allowed : all_allowed limits (equations raw) ≡ all_allowed limits (equations (drop (2 * k) raw))
  pub results : resulting order (equations raw) ≡ collected order (first_questions q.words q.count) (equations (drop (2 * k) raw))

abbrev pub Collects : {N : ℕ} → Order → TermLimits → List Equation → Result (Questions N) OutOfLimits → Type 0
Collects order limits es (Ok found) = (all_allowed limits es ≡ true) × Holds found.words found.count (resulting order es)
Collects order limits es (Err fault) = all_allowed limits es ≡ false

-- the words of questions
abbrev pub words_of : {N : ℕ} → Questions N → List ℕ
words_of q = take (2 * q.count) q.words
