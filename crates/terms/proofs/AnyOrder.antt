-- The cases, repeated until none applies, end in simplify's answer, however they are picked: each keeps the answer, and a guard from which none leads on
-- is its own answer. The answer can always be reached, since a number falls with each case.
use Prim.Native.Nat.{ℕ, zero, suc, ◌≤◌}
use mathlib.Core.Path.{◌≡◌, refl, sym, subst, ◌∙◌}
use mathlib.Core.Logic.{◌⊎◌, inl, inr}
use native.Mathlib.Omega.{arith}
use Rattle.terms.specs.declared.term.Equation.{Equation}
use Rattle.terms.specs.declared.simplification.Guard.{Guard}
use Rattle.terms.specs.declared.simplification.Guard.TheVariants.{Never, Always, Question}
use Rattle.terms.specs.Form.{InForm}
use Rattle.terms.specs.Simplify.{simplify}
use Rattle.terms.specs.Lines.{Sequence, nothing, first, Normal, most_cases}
use Rattle.terms.proofs.CaseAnswer.{answer_of, case_keeps_answer, sequence_keeps_answer}
use Rattle.terms.proofs.CaseEnds.{case_falls}
use Rattle.terms.proofs.CaseOrForm.{LeadsOn, case_or_form, normal_exactly}
use Rattle.terms.proofs.SimplifyForm.{simplify_form, simplified_stays}

-- a guard in one of the forms is its own answer
form_stays : (g : Guard) → InForm g → answer_of g ≡ g
form_stays Never _ = refl
form_stays Always _ = refl
form_stays (Question q) s = simplified_stays q s

normal_stays : (g : Guard) → Normal g → answer_of g ≡ g
normal_stays g n = form_stays g ((normal_exactly g).0 n)

reached_within : (n : ℕ) (g : Guard) → most_cases g ≤ n → LeadsOn g ⊎ InForm g → Sequence g (answer_of g)
reached_within n g m (inr s) = subst (λ h. Sequence g h) (sym (form_stays g s)) (nothing g)
reached_within zero g m (inl l) = absurd (omega (arith, case_falls l.1))
reached_within (suc n) g m (inl l) =
    subst (λ h. Sequence g h) (sym (case_keeps_answer l.1))
    (first l.0 l.1 (reached_within n l.0 (omega (arith, case_falls l.1)) (case_or_form l.0)))

answer_reached : (g : Guard) → Sequence g (answer_of g)
answer_reached g = reached_within (most_cases g) g (omega arith) (case_or_form g)

module _ (e : Equation) where
  -- Simplify's answer is reached: some sequence of cases leads to it.
  pub simplify_reached : Sequence (Question e) (simplify e)
  simplify_reached = answer_reached (Question e)

  -- It is normal: no case leads on from it.
  pub simplify_normal : Normal (simplify e)
  simplify_normal = (normal_exactly (simplify e)).1 (simplify_form e)

  -- Any order will do: whatever sequence of cases was followed, if it ended where no case applies, it ended in simplify's answer,
  pub any_order : {g : Guard} → Sequence (Question e) g → Normal g → g ≡ simplify e
  any_order {g} s n = sym (normal_stays g n) ∙ sym (sequence_keeps_answer s)

  -- and wherever it stands meanwhile, simplify's answer can still be reached from there.
  pub still_reached : {g : Guard} → Sequence (Question e) g → Sequence g (simplify e)
  still_reached {g} s = subst (λ h. Sequence g h) (sym (sequence_keeps_answer s)) (answer_reached g)
