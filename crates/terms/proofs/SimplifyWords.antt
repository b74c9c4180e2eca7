-- The words of what an equation of two words simplifies to fit 32 bits: no step of simplify makes a term larger.
use Prim.Native.Nat.{ℕ, ◌<◌, ◌^◌}
use mathlib.Core.Path.{◌≡◌}
use native.Mathlib.Omega.{arith}
use Rattle.terms.specs.declared.term.Equation.{Equation}
use Rattle.terms.specs.declared.simplification.Guard.{Guard}
use Rattle.terms.specs.declared.simplification.Guard.TheVariants as guard
use Rattle.terms.specs.Words.{equation, term_of, word_of}
use Rattle.terms.specs.Needs.{HasWords}
use Rattle.terms.specs.Simplify.{turned, lowered, never_or_question, simplify}
use Rattle.terms.proofs.SimplifyCases.{Sorted, kept, swapped, never_or_question_cases, simplify_cases}

lowered_words : (d : Equation) → word_of d.left < 2 ^ 32 → word_of d.right < 2 ^ 32 → HasWords (guard.Question (lowered d))
unfolding lowered
lowered_words d h k = omega arith

pub simplify_words_fit : (e : Equation) → word_of e.left < 2 ^ 32 → word_of e.right < 2 ^ 32 → HasWords (simplify e)
simplify_words_fit e h k = simplify_cases HasWords e (λ _ _. tt) (λ _ _. tt) go
  where
    go : (d : Equation) → Sorted e d → HasWords (never_or_question (lowered d))
    go d (kept _) = never_or_question_cases HasWords (lowered d) (λ _ _. tt) (λ _. lowered_words e h k)
    go d (swapped _) = never_or_question_cases HasWords (lowered d) (λ _ _. tt) (λ _. lowered_words (turned e) k h)

-- the words that two terms are read from are theirs
pub words_read : {l r : ℕ} {g : Guard} → l < 2 ^ 32 → r < 2 ^ 32 → g ≡ simplify (equation (term_of l) (term_of r)) → HasWords g
words_read {l} {r} h k e = rw e (simplify_words_fit (equation (term_of l) (term_of r)) (omega arith) (omega arith))
