-- A term and its word give each other back, as a number and its digits to the base 32 do; so what simplify says of terms it says of words.
use Prim.Native.Nat.{ℕ, ◌<◌}
use mathlib.Core.Path.{◌≡◌, refl, sym, ◌∙◌, subst}
use mathlib.Core.Logic.{◌↔◌}
use mathlib.Core.Bool.{Bool, true, cond, ◌&&◌}
use Rattle.std.specs.Prelude.{Ok}
use native.Mathlib.Omega.{arith}
use lib.IntN.{pos, ◌+ℤ◌}
use Rattle.terms.specs.declared.term.Term.{Term}
use Rattle.terms.specs.declared.limits.TermLimits.{TermLimits}
use Rattle.terms.specs.declared.term.Equation.{Equation}
use Rattle.terms.specs.declared.simplification.Guard.{Guard}
use Rattle.terms.specs.declared.simplification.Guard.TheVariants.{Never, Always, Question}
use Rattle.terms.specs.Meaning.{Valuation, count, truth, guard_truth, Tells}
use Rattle.terms.specs.Simplify.{simplify, gap, shown, refused, simplify_words}
use Rattle.terms.specs.Words.{step_weight, field, steps, term, equation, term_of, word_of, allows}
use Rattle.terms.proofs.Cases.{by_test}
use Rattle.terms.proofs.SimplifyForm.{simplify_keeps}
use Rattle.terms.proofs.SimplifyTruth.{simplify_truth, gap_says}

pub word_of_term_of : (w : ℕ) → word_of (term_of w) ≡ w
word_of_term_of w = omega arith

pub term_of_word_of : (t : Term) → t.field.0 < step_weight → term_of (word_of t) ≡ t
term_of_word_of t h = λ i. term (field (f i)) (steps (s i))
  where
    f : (term_of (word_of t)).field.0 ≡ t.field.0
    f = omega arith

    s : (term_of (word_of t)).steps.0 ≡ t.steps.0
    s = omega arith

-- both fields fit a word
abbrev Wordy : Equation → Type 0
Wordy e = (e.left.field.0 < step_weight) × (e.right.field.0 < step_weight)

-- so do those of the question that such an equation simplifies to, and its words hold it
pub simplify_wordy : (e q : Equation) → e.left.field.0 < step_weight → e.right.field.0 < step_weight → simplify e ≡ Question q → Wordy q
simplify_wordy = simplify_keeps (λ t. t.field.0 < step_weight) (λ _ _ h. h)

pub equation_of_words : (q : Equation) → Wordy q → equation (term_of (word_of q.left)) (term_of (word_of q.right)) ≡ q
equation_of_words q w = λ i. equation (term_of_word_of q.left w.0 i) (term_of_word_of q.right w.1 i)

shown_tells : (v : Valuation) (g : Guard) (b : Bool) → ((q : Equation) → g ≡ Question q → Wordy q) → guard_truth v g ≡ b → Tells v (Ok (shown g)) b
shown_tells v Never b w e = sym e
shown_tells v Always b w e = sym e
shown_tells v (Question q) b w e =
    subst (λ d. (truth v d ≡ b) × ((b ≡ true) ↔ (pos (count v d.left.field) ≡ pos (count v d.right.field) +ℤ gap q)))
    (sym (equation_of_words q (w q refl)))
    (e, (λ t. (gap_says v q).0 (e ∙ t), λ g. sym e ∙ (gap_says v q).1 g))

-- The answer has the equation's truth under every choice of counts.
pub simplify_words_tells : (limits : TermLimits) (l r : ℕ) (v : Valuation)
    → Tells v (simplify_words limits l r) (truth v (equation (term_of l) (term_of r)))
unfolding simplify_words
simplify_words_tells limits l r v =
    by_test (λ t. Tells v (cond t (Ok (shown (simplify e))) refused) (truth v e)) (allows limits (term_of l) && allows limits (term_of r))
    (λ _. shown_tells v (simplify e) (truth v e) (λ q. simplify_wordy e q (omega arith) (omega arith)) (simplify_truth v e)) (λ _. tt)
  where
    e : Equation
    e = equation (term_of l) (term_of r)
