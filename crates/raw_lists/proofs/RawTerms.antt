-- The test of 14 fails exactly if some raw term is beyond the limits, whatever its equation simplifies to: it goes over the equations one by one.
use mathlib.Core.Path.{◌≡◌, refl, ap, ◌∙◌}
use mathlib.Core.Logic.{◌↔◌, inl, inr}
use mathlib.Core.Bool.{true}
use mathlib.Core.List.Memᴰ
use mathlib.Core.List.{List, [], ◌∷◌}
use Rattle.store.proofs.Tests.{first_passes, second_passes}
use Rattle.terms.specs.declared.limits.TermLimits.{TermLimits}
use Rattle.terms.specs.declared.term.Equation.{Equation}
use Rattle.terms.specs.Words.{allows}
use Rattle.raw_lists.specs.IsResulting.{In}
use Rattle.raw_lists.specs.OpenRaw.{both_allowed, all_allowed}

module _ (limits : TermLimits) where
  pub all_allowed_says : (es : List Equation) → all_allowed limits es ≡ true → (e : Equation) → In e es → both_allowed limits e ≡ true
  unfolding all_allowed
  all_allowed_says [] a e m = absurd (Memᴰ.not-nil m)
  all_allowed_says (d ∷ es) a e m = elim (Memᴰ.cases_cons m) [
    | inl i ↦ ap (both_allowed limits) i ∙ first_passes (both_allowed limits d) (all_allowed limits es) a
    | inr n ↦ all_allowed_says es (second_passes (both_allowed limits d) (all_allowed limits es) a) e n
  ]

  pub all_allowed_from : (es : List Equation) → ((e : Equation) → In e es → both_allowed limits e ≡ true) → all_allowed limits es ≡ true
  unfolding all_allowed
  all_allowed_from [] f = refl
  all_allowed_from (e ∷ es) f = rw (f e (Memᴰ.head refl)) (all_allowed_from es (λ d m. f d (Memᴰ.tail m)))

  -- A raw list passes it exactly if both terms of each of its equations are within the limits.
  pub terms_exactly : (es : List Equation) → (all_allowed limits es ≡ true) ↔ ((e : Equation) → In e es → (allows limits e.left ≡ true) × (allows limits e.right ≡ true))
  terms_exactly es = (
    λ a e m.
        let both = all_allowed_says es a e m in
        (first_passes (allows limits e.left) (allows limits e.right) both, second_passes (allows limits e.left) (allows limits e.right) both),
    λ f. all_allowed_from es (λ e m. let both = f e m in rw (both.0, both.1)),
  )
