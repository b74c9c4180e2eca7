-- The gap that simplify answers with is a difference of step counts that are within the limit, and so it is within the limit too.
use Prim.Native.Nat.{ℕ, ◌≤◌}
use mathlib.Core.Path.{◌≡◌, refl}
use mathlib.Core.Bool.{cond, ◌&&◌}
use native.Mathlib.Omega.{arith}
use lib.IntN.{nat_abs}
use Rattle.terms.specs.declared.limits.TermLimits.{TermLimits}
use Rattle.terms.specs.declared.simplification.Guard.{Guard}
use Rattle.terms.specs.declared.simplification.Guard.TheVariants.{Never, Always, Question}
use Rattle.terms.specs.declared.simplification.Simplified.{Simplified}
use Rattle.terms.specs.declared.simplification.OutOfLimits.{OutOfLimits}
use Rattle.std.specs.Prelude.{Result, Ok}
use Rattle.terms.specs.declared.term.Equation.{Equation}
use Rattle.terms.specs.Limits.{term_limits}
use Rattle.terms.specs.Simplify.{simplify, gap, shown, refused, simplify_words, answer}
use Rattle.terms.specs.Words.{equation, term_of, allows}
use Rattle.terms.proofs.Cases.{by_test}
use Rattle.terms.proofs.SimplifyForm.{gap_within}
use Rattle.terms.proofs.TermKept.{allows_says}

-- the gap that an answer shows, 0 beside all but a question, without its sign
abbrev shown_gap : Result Simplified OutOfLimits → ℕ
shown_gap a = nat_abs (answer a).gap

shown_within : (n : ℕ) (g : Guard) → ((q : Equation) → g ≡ Question q → nat_abs (gap q) ≤ n) → shown_gap (Ok (shown g)) ≤ n
shown_within n Never h = omega arith
shown_within n Always h = omega arith
shown_within n (Question q) h = h q refl

-- Within any limits of terms, the gap of an answer goes from the largest step count with a minus to the largest step count.
pub answer_gap_within : (limits : TermLimits) (l r : ℕ) → nat_abs (answer (simplify_words limits l r)).gap ≤ limits.steps.0
unfolding simplify_words
answer_gap_within limits l r =
    by_test (λ t. shown_gap (cond (t && allows limits (term_of r)) (Ok (shown (simplify e))) refused) ≤ n) (allows limits (term_of l))
    (λ a. by_test (λ t. shown_gap (cond t (Ok (shown (simplify e))) refused) ≤ n) (allows limits (term_of r))
    (λ b. shown_within n (simplify e) (λ q s. gap_within n e q (allows_says limits (term_of l) a).steps_in (allows_says limits (term_of r) b).steps_in s))
    (λ _. omega arith))
    (λ _. omega arith)
  where
    e : Equation
    e = equation (term_of l) (term_of r)

    n : ℕ
    n = limits.steps.0

-- Document 02 (viii): "gives gaps from -1,023 to 1,023".
pub public_gap_within : (l r : ℕ) → nat_abs (answer (simplify_words term_limits l r)).gap ≤ 1023
public_gap_within l r = answer_gap_within term_limits l r
