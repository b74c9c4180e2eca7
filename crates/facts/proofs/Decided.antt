-- The decision is right: a settled question is true wherever the facts hold; one whose yes leaves the state free is open, as the choices that
-- fit the two states show; and of any other no choice that fits makes it true.
use mathlib.Core.Path.{◌≡◌, refl, sym, ◌∙◌}
use mathlib.Core.Bool.{true, false, true≢false}
use mathlib.Core.List.{List, ◌∷◌}
use Rattle.terms.specs.declared.term.Equation.{Equation}
use Rattle.terms.specs.Meaning.{Valuation, truth}
use Rattle.facts.specs.declared.fact.Fact.{Fact}
use Rattle.facts.specs.Facts.{fact, Fits, Forces}
use Rattle.facts.specs.State.{State, settled, free, no_to, yes_to, state_of, decide, some_sheet}
use Rattle.terms.proofs.Cases.{by_test}
use Rattle.facts.proofs.PlanCases.{decide_cases}
use Rattle.facts.proofs.StateExact.{state_exact}
use Rattle.facts.proofs.StateFree.{fit_free, free_fit, settled_fit, state_of_zero}

-- the facts are consistent exactly if their state is free
pub free_fits : (xs : List Fact) → free (state_of xs) ≡ true → Fits xs (some_sheet (state_of xs))
free_fits xs t = (state_exact xs (some_sheet (state_of xs))).0 (free_fit (state_of xs) (state_of_zero xs) t)

pub fits_free : (xs : List Fact) (v : Valuation) → Fits xs v → free (state_of xs) ≡ true
fits_free xs v h = fit_free (state_of xs) v ((state_exact xs v).1 h)

-- a question that is not settled can be answered no
pub no_to_free : (s : State) (q : Equation) → free s ≡ true → settled s.classes q ≡ false → free (no_to s q) ≡ true
no_to_free s q f n = rw n f

-- The decision is right in all three answers, where some choice of counts fits the facts.
pub decided : (xs : List Fact) (q : Equation) → free (state_of xs) ≡ true → Forces xs q (decide (state_of xs) q)
decided xs q t =
    let s = state_of xs in
    decide_cases (Forces xs q) s q
    (λ y v h. settled_fit ((state_exact xs v).1 h) q y)
    (λ n f.
    let w = free_fits (fact q true ∷ xs) f in
    let u = free_fits (fact q false ∷ xs) (no_to_free s q t n) in
    ((some_sheet (yes_to s q), w.1, w.0), (some_sheet (no_to s q), u.1, u.0)))
    (λ n m v h. by_test (λ b. b ≡ false) (truth v q) (λ i. absurd (true≢false (sym (fits_free (fact q true ∷ xs) v (i, h)) ∙ m))) (λ _. refl))
