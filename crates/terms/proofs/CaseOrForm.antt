-- Either a case leads on from a guard, or the guard is in one of Corollary 25's forms: with steps on both sides line 2 leads on; else one side is bare, and
-- lines 5, 3, 4 and 1 leave only the larger field on the left, with no steps against zero. From these forms no case leads on: no line's left side is one of them.
use Prim.Native.Nat.{◌<◌, min}
use mathlib.Core.Path.{◌≡◌, refl}
use mathlib.Core.Logic.{◌⊎◌, inl, inr, ◌↔◌}
use native.Mathlib.Omega.{arith}
use native.Mathlib.Decide.{dec_lt}
use Rattle.terms.specs.declared.term.Equation.{Equation}
use Rattle.terms.specs.declared.simplification.Guard.{Guard}
use Rattle.terms.specs.declared.simplification.Guard.TheVariants.{Never, Always, Question}
use Rattle.terms.specs.Form.{SimplifiedForm, InForm}
use Rattle.terms.specs.Lines.{Case, line_1, line_2, line_3, line_4, line_5, Normal}
use Rattle.terms.proofs.LineTests.{ZeroAndSteps, one_step_less, line_3_only, line_4_only, line_1_applies, line_2_applies, line_3_applies, line_4_applies, line_5_applies}
use Rattle.terms.proofs.SimplifyForm.{by_numbers, smaller_right, bare_side, bare_left}
use Rattle.terms.proofs.TermOrder.{Smaller, before_says, before_exactly}

-- a case leads on from a guard
abbrev pub LeadsOn : Guard → Type 0
LeadsOn g = (h : Guard) × Case g h

module _ (e : Equation) where
  turns : Smaller e.left e.right → LeadsOn (Question e)
  turns b = (_, (line_5_applies e (before_exactly e.left e.right b)).0)

  same_field : e.left.field.0 ≡ e.right.field.0 → min e.left.steps.0 e.right.steps.0 ≡ 0 → LeadsOn (Question e)
  same_field f m =
      elim (dec_lt e.left.steps.0 e.right.steps.0) [
        | yes h ↦ turns (inr (f, h))
        | no n ↦ elim (dec_lt 0 e.left.steps.0) [
          | yes l ↦ (Never, (line_4_applies e l f (omega arith)).0)
          | no k ↦ (Always, (line_1_applies e f (omega arith) (omega arith)).0)
        ]
      ]

  larger_on_left : e.right.field.0 < e.left.field.0 → min e.left.steps.0 e.right.steps.0 ≡ 0 → LeadsOn (Question e) ⊎ SimplifiedForm e
  larger_on_left f m =
      elim (dec_lt 0 e.left.steps.0) [
        | yes l ↦ elim (dec_lt 0 e.right.field.0) [
          | yes x ↦ inr (by_numbers e f m (λ z. absurd (omega (arith, z))))
          | no k ↦ inl (Never, (line_3_applies e l (omega arith) (omega arith)).0)
        ]
        | no n ↦ inr (by_numbers e f m (λ _. omega arith))
      ]

  one_bare : min e.left.steps.0 e.right.steps.0 ≡ 0 → LeadsOn (Question e) ⊎ SimplifiedForm e
  one_bare m =
      elim (dec_lt e.left.field.0 e.right.field.0) [
        | yes h ↦ inl (turns (inl h))
        | no n ↦ elim (dec_lt e.right.field.0 e.left.field.0) [
          | yes f ↦ larger_on_left f m
          | no k ↦ inl (same_field (omega arith) m)
        ]
      ]

  question_or_form : LeadsOn (Question e) ⊎ SimplifiedForm e
  question_or_form =
      elim (dec_lt 0 (min e.left.steps.0 e.right.steps.0)) [
        | yes h ↦ inl (_, (line_2_applies e (one_step_less e.left (omega arith)) (one_step_less e.right (omega arith))).0)
        | no n ↦ one_bare (omega arith)
      ]

pub case_or_form : (g : Guard) → LeadsOn g ⊎ InForm g
case_or_form Never = inr tt
case_or_form Always = inr tt
case_or_form (Question e) = question_or_form e

no_zero_and_steps : (q : Equation) → SimplifiedForm q → ZeroAndSteps q → ⊥
no_zero_and_steps q s (inl (l, f, r)) = omega (arith, bare_left q s f)
no_zero_and_steps q s (inr (r, f, l)) = omega (arith, smaller_right q s)

-- no case leads on from a guard in one of the forms
form_normal : {g h : Guard} → Case g h → InForm g → ⊥
form_normal (line_1 x) s = omega (arith, smaller_right _ s)
form_normal (line_2 y x) s = omega (arith, bare_side _ s)
form_normal (line_3 x w) s = no_zero_and_steps _ s (line_3_only (line_3 x w) refl)
form_normal (line_4 x m w) s = omega (arith, smaller_right _ s, line_4_only (line_4 x m w) refl)
form_normal (line_5 r t b) s = omega (arith, smaller_right _ s, before_says r t b)

-- The normal guards are never, always and the questions in one of Corollary 25's forms, no others.
pub normal_exactly : (g : Guard) → Normal g ↔ InForm g
normal_exactly g = (in_form, λ s h c. form_normal c s)
  where
    in_form : Normal g → InForm g
    in_form n = elim (case_or_form g) [
      | inl l ↦ absurd (n l.0 l.1)
      | inr s ↦ s
    ]
