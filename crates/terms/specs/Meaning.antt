-- What terms and equations mean (document 000, section 2.2).
use Rattle.std.specs.Prelude.{ℕ, ◌+◌, ◌≡◌, ◌↔◌, Bool, true, false, cond, eqb, pos, ◌+ℤ◌, Result, Ok, Err}
use Rattle.terms.specs.declared.term.Field.{Field}
use Rattle.terms.specs.declared.term.Term.{Term}
use Rattle.terms.specs.declared.term.Equation.{Equation}
use Rattle.terms.specs.declared.simplification.Guard.{Guard}
use Rattle.terms.specs.declared.simplification.Guard.TheVariants.{Never, Always, Question}
use Rattle.terms.specs.declared.simplification.Simplified.{Simplified}
use Rattle.terms.specs.declared.simplification.Simplified.TheVariants as answer
use Rattle.terms.specs.declared.simplification.OutOfLimits.{OutOfLimits}
use Rattle.terms.specs.Words.{equation, term_of}

-- A choice of counts (document 01), there a valuation v : V → ℕ: a natural number for each field, with no bound.
-- Field 0 is no variable, so what a valuation gives for it is never read.
abbrev pub Valuation : Type 0
Valuation = Field → ℕ

-- v(0) = 0: "Field 0 stands for zero."
unfoldable pub count : Valuation → Field → ℕ
count v f = cond (eqb f.0 0) 0 (v f)

-- v(S(t)) = 1 + v(t): "the field's count plus the steps"
abbrev pub value : Valuation → Term → ℕ
value v t = count v t.field + t.steps.0

-- v(s = t) = 1, if v(s) = v(t), 0, otherwise
abbrev pub truth : Valuation → Equation → Bool
truth v e = eqb (value v e.left) (value v e.right)

-- a guard is ⊥, ⊤ or an equation: v(⊥) = 0, v(⊤) = 1
abbrev pub guard_truth : Valuation → Guard → Bool
guard_truth v Never = false
guard_truth v Always = true
guard_truth v (Question e) = truth v e

-- What an answer of simplify says of an equation that has this truth: a refusal nothing; a question, that it has the same truth
-- and that the truth is "left count = right count + gap".
abbrev pub Tells : Valuation → Result Simplified OutOfLimits → Bool → Type 0
Tells v (Err fault) b = Unit {0}
Tells v (Ok answer.Never) b = b ≡ false
Tells v (Ok answer.Always) b = b ≡ true
Tells v (Ok (answer.Question l r gap)) b =
    (truth v (equation (term_of l) (term_of r)) ≡ b)
    × ((b ≡ true) ↔ (pos (count v (term_of l).field) ≡ pos (count v (term_of r).field) +ℤ gap))
