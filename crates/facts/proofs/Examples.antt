-- The decision at work, by computation: document 01's cases 11 and 12, its wrong turn on separate fields, its example of a forbidden count,
-- and document 000's Example 23.
use Prim.Native.Nat.{ℕ}
use mathlib.Core.Path.{◌≡◌, refl, sym, ◌∙◌}
use mathlib.Core.Bool.{true, false, true≢false}
use mathlib.Core.List.{List, [], ◌∷◌}
use Rattle.terms.specs.declared.term.Equation.{Equation}
use Rattle.terms.specs.Meaning.{Valuation, count}
use Rattle.terms.specs.Words.{field, steps, term, equation}
use Rattle.facts.specs.declared.decision.Decision.TheVariants.{Always, Never, Open}
use Rattle.facts.specs.declared.fact.Fact.{Fact}
use Rattle.facts.specs.Facts.{fact, Fits}
use Rattle.facts.specs.Least.{first_from, least_count}
use Rattle.facts.specs.State.{plan, spacing, some_sheet, free, state_of, decide}
use Rattle.facts.proofs.Decided.{fits_free}

-- S^a(f) = S^b(g)
abbrev says : ℕ → ℕ → ℕ → ℕ → Equation
says a f b g = equation (term (field f) (steps a)) (term (field g) (steps b))

-- facts that are not free are fitted by no choice of counts
impossible : (xs : List Fact) → free (state_of xs) ≡ false → (v : Valuation) → Fits xs v → ⊥
impossible xs e v h = true≢false (sym (fits_free xs v h) ∙ e)

-- case 12: 2 = S(0) and 2 = S3(1)
pub case_12_never : (v : Valuation) → Fits (fact (says 0 2 3 1) true ∷ fact (says 0 2 1 0) true ∷ []) v → ⊥
unfolding plan
case_12_never = impossible (fact (says 0 2 3 1) true ∷ fact (says 0 2 1 0) true ∷ []) refl

-- 2 = 1 and 3 = 1 force 3 = 2
pub separate_fields : decide (state_of (fact (says 0 3 0 1) true ∷ fact (says 0 2 0 1) true ∷ [])) (says 0 3 0 2) ≡ Always
unfolding decide plan
separate_fields = refl

-- Example 23: 1 not S(2), 3 = S(1), 3 = S2(2), in the order of the questions 3 = S(1), 3 = S2(2) after S(2) = 1 answered no
pub example_23 : (v : Valuation) → Fits (fact (says 0 3 2 2) true ∷ fact (says 0 3 1 1) true ∷ fact (says 1 2 0 1) false ∷ []) v → ⊥
unfolding plan
example_23 = impossible (fact (says 0 3 2 2) true ∷ fact (says 0 3 1 1) true ∷ fact (says 1 2 0 1) false ∷ []) refl

-- 2 = S3(1) forbids the counts 0, 1 and 2 in field 2, and no other
abbrev three_more : List Fact
three_more = fact (says 0 2 3 1) true ∷ []

pub forbids_0 : decide (state_of three_more) (says 0 2 0 0) ≡ Never
unfolding decide plan
forbids_0 = refl

pub forbids_1 : decide (state_of three_more) (says 0 2 1 0) ≡ Never
unfolding decide plan
forbids_1 = refl

pub forbids_2 : decide (state_of three_more) (says 0 2 2 0) ≡ Never
unfolding decide plan
forbids_2 = refl

pub allows_3 : decide (state_of three_more) (says 0 2 3 0) ≡ Open
unfolding decide plan
allows_3 = refl

-- case 11: neither 1 = 0 nor 1 = S(0), so the least count is 2
pub case_11_least : least_count (state_of (fact (says 0 1 1 0) false ∷ fact (says 0 1 0 0) false ∷ [])) 1 ≡ 2
unfolding first_from plan some_sheet spacing count
case_11_least = refl
