-- Each case keeps simplify's answer: simplify compares the step counts and takes the smaller from both sides, so a step on both changes nothing, and it turns an
-- equation round itself. So a sequence of cases keeps the answer too, in whatever order they are picked.
use Prim.Native.Nat.{◌<◌}
use mathlib.Core.Path.{◌≡◌, refl, sym, ◌∙◌}
use mathlib.Core.Logic.{inl, inr}
use mathlib.Core.Bool.{cond}
use native.Mathlib.Omega.{arith}
use borrow.Author.Tests.{eq-eqb, ne_eqb}
use lib.Dec.{eqb}
use Rattle.terms.specs.declared.term.Equation.{Equation}
use Rattle.terms.specs.declared.simplification.Guard.{Guard}
use Rattle.terms.specs.declared.simplification.Guard.TheVariants.{Never, Always, Question}
use Rattle.terms.specs.Words.{equation}
use Rattle.terms.specs.Simplify.{turned, simplify, lowered, never_or_question}
use Rattle.terms.specs.Lines.{Case, line_1, line_2, line_3, line_4, line_5, Sequence, nothing, first}
use Rattle.terms.proofs.SimplifyCases.{Sorted, kept, swapped, never_or_question_cases, simplify_cases}
use Rattle.terms.proofs.LineTests.{SameAndBare, ZeroAndSteps, SameAndOneBare, line_1_only, line_3_only, line_4_only}
use Rattle.terms.proofs.SimplifyForm.{simplify_turned}
use Rattle.terms.proofs.StepsAdded.{steps_added}

-- simplify's answer of a guard: never and always stand for themselves
abbrev pub answer_of : Guard → Guard
answer_of Never = Never
answer_of Always = Always
answer_of (Question e) = simplify e

-- of one field on both sides the step counts decide
same_field : (e : Equation) → e.left.field.0 ≡ e.right.field.0 → simplify e ≡ cond (eqb e.left.steps.0 e.right.steps.0) Always Never
unfolding simplify
same_field e f = simp (eq-eqb e.left.field.0 e.right.field.0 f)

same_field_always : (e : Equation) → SameAndBare e → simplify e ≡ Always
same_field_always e (f, l, r) = same_field e f ∙ simp (eq-eqb e.left.steps.0 e.right.steps.0 (omega arith))

same_field_never : (e : Equation) → SameAndOneBare e → simplify e ≡ Never
same_field_never e (f, b) = same_field e f ∙ simp (ne_eqb e.left.steps.0 e.right.steps.0 (λ s. omega (arith, s, b)))

-- zero against steps: the smaller count, none, is taken off, and steps remain
steps_left_over : (e : Equation) → 0 < e.left.steps.0 → e.right.field.0 ≡ 0 → e.right.steps.0 ≡ 0 → simplify e ≡ Never
unfolding lowered
steps_left_over e l f r = simplify_cases (λ g. g ≡ Never) e (λ _ s. absurd (omega arith)) (λ _ _. refl) go
  where
    go : (d : Equation) → Sorted e d → never_or_question (lowered d) ≡ Never
    go d (kept h) = never_or_question_cases (λ g. g ≡ Never) (lowered e) (λ _ _. refl) (λ z. absurd (omega (arith, z f)))
    go d (swapped h) = absurd (omega arith)

zero_never : (e : Equation) → ZeroAndSteps e → simplify e ≡ Never
zero_never e (inl (l, f, r)) = steps_left_over e l f r
zero_never e (inr (r, f, l)) = sym (simplify_turned e) ∙ steps_left_over (turned e) r f l

-- Both guards of a case have the same answer,
pub case_keeps_answer : {g h : Guard} → Case g h → answer_of g ≡ answer_of h
case_keeps_answer (line_1 x) = same_field_always _ (line_1_only (line_1 x) refl)
case_keeps_answer (line_2 y x) = steps_added 1 (equation y x) _ refl (omega arith) refl (omega arith)
case_keeps_answer (line_3 x w) = zero_never _ (line_3_only (line_3 x w) refl)
case_keeps_answer (line_4 x m w) = same_field_never _ (line_4_only (line_4 x m w) refl)
case_keeps_answer (line_5 r t b) = sym (simplify_turned (equation r t))

-- and so have both ends of a sequence.
pub sequence_keeps_answer : {g h : Guard} → Sequence g h → answer_of g ≡ answer_of h
sequence_keeps_answer (nothing g) = refl
sequence_keeps_answer (first h c s) = case_keeps_answer c ∙ sequence_keeps_answer s
