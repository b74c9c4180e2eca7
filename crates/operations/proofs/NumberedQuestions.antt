-- A store's list holds the questions with the numbers from 1 on, so a claim about each number is a claim about the list, and the other way round.
use Prim.Native.Nat.{ℕ, zero, suc, ◌+◌, ◌≤◌, ◌<◌}
use mathlib.Core.Path.{◌≡◌, refl, sym, ap, ap₂, ◌∙◌, subst}
use mathlib.Core.List.{List, ◌∷◌}
use native.Mathlib.Omega.{arith}
use native.Mathlib.Decide.{ℕ_discrete}
use borrow.Author.Tests.{eq-eqb, ne_eqb}
use Rattle.diagram.specs.Finish.{answers_from}
use Rattle.diagram.specs.Questions.{questions_from, questions}
use Rattle.facts.specs.Least.{All}
use Rattle.store.specs.Grown.{Agree}
use Rattle.store.specs.Layout.{question_count, question}
use Rattle.terms.specs.declared.term.Equation.{Equation}
use Rattle.terms.specs.Meaning.{Valuation, truth}
use Rattle.store.proofs.StoreWords.{questions_agree, question_agrees}

module _ (P : Equation → Type 0) (s : List ℕ) where
  pub all_numbered : (left k : ℕ) → All P (questions_from s left k) → (j : ℕ) → k ≤ j → j < k + left → P (question s j)
  unfolding questions_from
  all_numbered zero k a j l h = absurd (omega arith)
  all_numbered (suc left) k a j l h = elim (ℕ_discrete j k) [
    | yes d ↦ subst (λ i. P (question s i)) (sym d) a.0
    | no n ↦ all_numbered left (k + 1) a.1 j (omega arith) (omega arith)
  ]

  pub all_from : (left k : ℕ) → ((j : ℕ) → k ≤ j → j < k + left → P (question s j)) → All P (questions_from s left k)
  unfolding questions_from
  all_from zero k f = tt
  all_from (suc left) k f = (f k (omega arith) (omega arith), all_from left (k + 1) (λ j h l. f j (omega arith) (omega arith)))

-- the answer by number is the truth of the question with that number
pub answers_numbered : (s : List ℕ) (v : Valuation) (left k j : ℕ) → k ≤ j → j < k + left → answers_from k (questions_from s left k) v j ≡ truth v (question s j)
unfolding questions_from answers_from
answers_numbered s v zero k j h l = absurd (omega arith)
answers_numbered s v (suc left) k j h l = elim (ℕ_discrete j k) [
  | yes d ↦ rw (eq-eqb j k d) (ap (λ i. truth v (question s i)) (sym d))
  | no n ↦ rw (ne_eqb j k n) (answers_numbered s v left (k + 1) j (omega arith) (omega arith))
]

-- questions with the same numbers are asked
questions_same : (s s' : List ℕ) → ((k : ℕ) → question s' k ≡ question s k) → (left k : ℕ) → questions_from s' left k ≡ questions_from s left k
unfolding questions_from
questions_same s s' e zero k = refl
questions_same s s' e (suc left) k = ap₂ ◌∷◌ (e k) (questions_same s s' e left (k + 1))

-- stores whose words agree up to some entry have one list
pub questions_alike : {s s' : List ℕ} {m : ℕ} → Agree s s' m → questions s' ≡ questions s
questions_alike {s} {s'} agree = ap (λ q. questions_from s' q 1) (questions_agree agree) ∙ questions_same s s' (question_agrees agree) (question_count s) 1
