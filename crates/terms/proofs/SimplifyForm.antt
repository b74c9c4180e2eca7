-- A question that simplify returns has the larger field left, no steps on one side, and none on the left if its right side is a number;
-- nothing in simplify changes such an equation, and turning an equation round is undone by its first step.
use Prim.Native.Nat.{ℕ, ◌≤◌, ◌<◌, min}
use mathlib.Core.Path.{◌≡◌, refl, sym, ap}
use mathlib.Core.Logic.{◌≢◌}
use mathlib.Core.Bool.{Bool, true, cond, not, ◌&&◌, ◌||◌, false≢true, or-true}
use native.Mathlib.Omega.{arith}
use native.Mathlib.Nat.{sub-zero}
use native.Mathlib.Decide.{dec_le}
use borrow.Author.Tests.{eq-eqb, ne_eqb, lt-ltb, le-ltb}
use lib.Dec.{eqb, ltb}
use lib.IntN.{nat_abs}
use Rattle.terms.specs.declared.term.Equation.{Equation}
use Rattle.terms.specs.declared.term.Term.{Term}
use Rattle.terms.specs.declared.simplification.Guard.{Guard}
use Rattle.terms.specs.declared.simplification.Guard.TheVariants.{Never, Always, Question}
use Rattle.terms.specs.Form.{IfQuestion, InForm, is_simplified, SimplifiedForm, is_number, is_above, is_below}
use Rattle.terms.specs.Simplify.{turned, larger_left, less_steps, lowered, never_or_question, simplify, gap}
use Rattle.terms.proofs.Cases.{by_eq, by_lt}
use Rattle.terms.proofs.Gap.{difference_abs}
use Rattle.terms.proofs.SimplifyCases.{Sorted, kept, swapped, never_or_question_cases, simplify_cases}
use Rattle.terms.proofs.SimplifyTruth.{same_test}

-- ---- the forms
-- a question with one side bare and the larger field left has one of the forms
pub by_numbers : (q : Equation) → q.right.field.0 < q.left.field.0 → min q.left.steps.0 q.right.steps.0 ≡ 0
    → (q.right.field.0 ≡ 0 → q.left.steps.0 ≡ 0) → SimplifiedForm q
by_numbers q h m z =
    elim (dec_le q.right.field.0 0) [
      | yes i ↦ let o : q.right.field.0 ≡ 0 = omega arith in is_number (omega arith) (z o) o
      | no i ↦ elim (dec_le q.left.steps.0 0) [
        | yes j ↦ is_above (omega arith) h (omega arith)
        | no j ↦ is_below (omega arith) h (omega arith)
      ]
    ]

settled_form : (d : Equation) → d.right.field.0 < d.left.field.0 → InForm (never_or_question (lowered d))
unfolding lowered
settled_form d h = never_or_question_cases InForm (lowered d) (λ _ _. tt) (λ z. by_numbers (lowered d) h (omega arith) z)

pub simplify_form : (e : Equation) → InForm (simplify e)
simplify_form e = simplify_cases InForm e (λ _ _. tt) (λ _ _. tt) go
  where
    go : (d : Equation) → Sorted e d → InForm (never_or_question (lowered d))
    go d (kept h) = settled_form e h
    go d (swapped h) = settled_form (turned e) h

-- A question that simplify returns is simplified in the sense of document 000, Corollary 25,
pub question_simplified : (e q : Equation) → simplify e ≡ Question q → SimplifiedForm q
question_simplified e q i = rw i at (simplify_form e)

-- ---- a simplified question stays
module _ (q : Equation) where
  pub smaller_right : SimplifiedForm q → q.right.field.0 < q.left.field.0
  smaller_right (is_number x s z) = omega arith
  smaller_right (is_above x h s) = h
  smaller_right (is_below x h s) = h

  pub bare_side : SimplifiedForm q → min q.left.steps.0 q.right.steps.0 ≡ 0
  bare_side (is_number x s z) = omega arith
  bare_side (is_above x h s) = omega arith
  bare_side (is_below x h s) = omega arith

  pub bare_left : SimplifiedForm q → q.right.field.0 ≡ 0 → q.left.steps.0 ≡ 0
  bare_left (is_number x s z) _ = s
  bare_left (is_above x h s) _ = s
  bare_left (is_below x h s) z = absurd (x z)

  stays_larger : q.right.field.0 < q.left.field.0 → larger_left q ≡ q
  unfolding larger_left
  stays_larger h = simp (le-ltb q.left.field.0 q.right.field.0 (omega arith))

  stays_lowered : min q.left.steps.0 q.right.steps.0 ≡ 0 → lowered q ≡ q
  unfolding lowered
  stays_lowered m = simp (m, sub-zero)

  stays_settled : (q.right.field.0 ≡ 0 → q.left.steps.0 ≡ 0) → never_or_question q ≡ Question q
  stays_settled z = never_or_question_cases (λ g. g ≡ Question q) q (λ o h. absurd (omega (arith, z o))) (λ _. refl)

  -- and simplifies to itself.
  pub simplified_stays : SimplifiedForm q → simplify q ≡ Question q
  unfolding simplify
  simplified_stays s =
      let h = smaller_right s in
      rw (ne_eqb q.left.field.0 q.right.field.0 (omega arith), stays_larger h, stays_lowered (bare_side s)) (stays_settled (bare_left s))

-- ---- the test
-- a question passes the test exactly if it has one of the forms
pub is_simplified_says : (q : Equation) → is_simplified q ≡ true → SimplifiedForm q
unfolding is_simplified
is_simplified_says q =
    by_lt (λ t. (t && rest) ≡ true → SimplifiedForm q) q.right.field.0 q.left.field.0
    (λ h. by_eq (λ t. (t || (eqb q.right.steps.0 0 && not (eqb q.right.field.0 0))) ≡ true → SimplifiedForm q) q.left.steps.0 0
    (λ s _. by_numbers q h (omega arith) (λ _. s))
    (λ n. by_eq (λ t. (t && not (eqb q.right.field.0 0)) ≡ true → SimplifiedForm q) q.right.steps.0 0
    (λ s. by_eq (λ t. not t ≡ true → SimplifiedForm q) q.right.field.0 0 (λ _ f. absurd (false≢true f)) (λ z _. is_below z h s))
    (λ _ f. absurd (false≢true f))))
    (λ _ f. absurd (false≢true f))
  where
    rest : Bool
    rest = eqb q.left.steps.0 0 || (eqb q.right.steps.0 0 && not (eqb q.right.field.0 0))

pub is_simplified_exact : (q : Equation) → SimplifiedForm q → is_simplified q ≡ true
unfolding is_simplified
is_simplified_exact q (is_number x s z) = simp (lt-ltb q.right.field.0 q.left.field.0 (omega arith), eq-eqb _ _ s)
is_simplified_exact q (is_above x h s) = simp (lt-ltb _ _ h, eq-eqb _ _ s)
is_simplified_exact q (is_below x h s) = simp (lt-ltb _ _ h, eq-eqb _ _ s, ne_eqb _ _ x, or-true)

-- ---- the other way round
sorted_turned : (e : Equation) → e.left.field.0 ≢ e.right.field.0 → larger_left (turned e) ≡ larger_left e
unfolding larger_left
sorted_turned e n =
    by_lt (λ t. cond (ltb e.right.field.0 e.left.field.0) e (turned e) ≡ cond t (turned e) e) e.left.field.0 e.right.field.0
    (λ h. rw (le-ltb e.right.field.0 e.left.field.0 (omega arith)))
    (λ h. rw (lt-ltb e.right.field.0 e.left.field.0 (omega arith)))

eqb_sym : (a b : ℕ) → eqb a b ≡ eqb b a
eqb_sym a b = same_test a b b a sym sym

-- An equation written the other way round gets the same answer.
pub simplify_turned : (e : Equation) → simplify (turned e) ≡ simplify e
unfolding simplify
simplify_turned e =
    rw (eqb_sym e.right.field.0 e.left.field.0, eqb_sym e.right.steps.0 e.left.steps.0)
    (by_eq (λ t. cond t same (never_or_question (lowered (larger_left (turned e)))) ≡ cond t same (never_or_question (lowered (larger_left e))))
    e.left.field.0 e.right.field.0 (λ _. refl) (λ n. ap (λ d. never_or_question (lowered d)) (sorted_turned e n)))
  where
    same : Guard
    same = cond (eqb e.left.steps.0 e.right.steps.0) Always Never

-- ---- what it keeps
-- What holds of both terms of an equation, and still holds of a term with steps taken off, holds of both terms of the question: simplify turns an equation
-- round, takes steps off, and does no more.
module _ (P : Term → Type 0) (less : (k : ℕ) (t : Term) → P t → P (less_steps k t)) where
  abbrev BothTerms : Equation → Type 0
  BothTerms e = P e.left × P e.right

  keeps_settled : (d : Equation) → BothTerms d → IfQuestion BothTerms (never_or_question (lowered d))
  unfolding lowered
  keeps_settled d b = never_or_question_cases (IfQuestion BothTerms) (lowered d) (λ _ _. tt) (λ _. (less _ d.left b.0, less _ d.right b.1))

  keeps : (e : Equation) → BothTerms e → IfQuestion BothTerms (simplify e)
  keeps e b = simplify_cases (IfQuestion BothTerms) e (λ _ _. tt) (λ _ _. tt) go
    where
      go : (d : Equation) → Sorted e d → IfQuestion BothTerms (never_or_question (lowered d))
      go d (kept _) = keeps_settled e b
      go d (swapped _) = keeps_settled (turned e) (b.1, b.0)

  pub simplify_keeps : (e q : Equation) → P e.left → P e.right → simplify e ≡ Question q → P q.left × P q.right
  simplify_keeps e q l r i = rw i at (keeps e (l, r))

-- ---- the gap's range
-- of terms with at most n steps, a signed number from -n to n
pub gap_within : (n : ℕ) (e q : Equation) → e.left.steps.0 ≤ n → e.right.steps.0 ≤ n → simplify e ≡ Question q → nat_abs (gap q) ≤ n
gap_within n e q h k i =
    let s = simplify_keeps (λ t. t.steps.0 ≤ n) (λ _ _ few. omega arith) e q h k i in
    difference_abs n q.right.steps.0 q.left.steps.0 s.1 s.0
