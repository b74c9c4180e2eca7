-- The finished diagram of a meaning that rests on the list means what that meaning does: the facts are none at the start, so every choice of counts
-- fits them, and along a path each question has its number. Meanings that are alike finish alike.
use Prim.Native.Nat.{ℕ}
use mathlib.Core.Path.{◌≡◌, refl, sym, ◌∙◌}
use mathlib.Core.Bool.{Bool}
use mathlib.Core.List.{List, []}
use native.Mathlib.Omega.{arith}
use Rattle.diagram.specs.Finish.{answers_from}
use Rattle.diagram.specs.Questions.{questions, finished_in}
use Rattle.facts.specs.State.{start}
use Rattle.operations.specs.Rests.{Rests}
use Rattle.store.specs.Layout.{question_count, question}
use Rattle.store.specs.Tree.{tree_truth, Ascending, Reduced}
use Rattle.terms.specs.Meaning.{Valuation, truth}
use Rattle.diagram.proofs.FinishTree.{finish_ascending, finish_reduced}
use Rattle.diagram.proofs.FinishTruth.{finish_truth, finish_same}
use Rattle.diagram.proofs.QuestionList.{questions_length}
use Rattle.store.proofs.TreeTruth.{truth_rests}
use Rattle.operations.proofs.NumberedQuestions.{answers_numbered}

module _ (s : List ℕ) (means : Valuation → Bool) where
  pub finished_ascending : Ascending 1 (question_count s) (finished_in s means)
  finished_ascending = finish_ascending (questions s) 1 (question_count s) start means (omega (arith, questions_length s (question_count s) 1))

  pub finished_reduced : Reduced (finished_in s means)
  finished_reduced = finish_reduced (questions s) 1 start means

-- "the finished diagram of that meaning" has that meaning
pub finished_truth : {s : List ℕ} {means : Valuation → Bool} → Rests s means → (v : Valuation)
    → tree_truth (λ k. truth v (question s k)) (finished_in s means) ≡ means v
finished_truth {s} {means} r v =
    sym (truth_rests (answers_from 1 (questions s) v) (λ k. truth v (question s k)) 1 (question_count s) (finished_in s means) (finished_ascending s means)
    (λ j h l. answers_numbered s v (question_count s) 1 j h (omega arith)))
    ∙ finish_truth (questions s) 1 [] means (λ v w _ _ a. r.same v w a) refl v tt

pub finished_alike : (s : List ℕ) (means others : Valuation → Bool) → ((v : Valuation) → means v ≡ others v) → finished_in s means ≡ finished_in s others
finished_alike s means others e = finish_same (questions s) 1 [] means others refl (λ v _. e v)
