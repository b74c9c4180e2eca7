-- A term is before another exactly if it has the smaller field or, of one field, fewer steps; so two terms are never each before the other.
use Prim.Native.Nat.{◌<◌}
use mathlib.Core.Path.{◌≡◌, refl}
use mathlib.Core.Logic.{◌⊎◌, inl, inr}
use mathlib.Core.Bool.{Bool, true, false, ◌&&◌, ◌||◌, false≢true}
use native.Mathlib.Omega.{arith}
use lib.Dec.{eqb, ltb}
use Rattle.terms.specs.declared.term.Term.{Term}
use Rattle.terms.specs.Lines.{is_before}
use Rattle.terms.proofs.Cases.{by_eq, by_lt}

abbrev pub Smaller : Term → Term → Type 0
Smaller r t = (r.field.0 < t.field.0) ⊎ ((r.field.0 ≡ t.field.0) × (r.steps.0 < t.steps.0))

by_before : (P : Bool → Type 0) (r t : Term) → (Smaller r t → P true) → ((Smaller r t → ⊥) → P false) → P (is_before r t)
unfolding is_before
by_before P r t f g =
    by_lt (λ b. P (b || (eqb r.field.0 t.field.0 && ltb r.steps.0 t.steps.0))) r.field.0 t.field.0 (λ h. f (inl h))
    (λ h. by_eq (λ b. P (b && ltb r.steps.0 t.steps.0)) r.field.0 t.field.0
    (λ e. by_lt P r.steps.0 t.steps.0 (λ k. f (inr (e, k))) (λ k. g (λ s. omega (arith, s))))
    (λ n. g (λ s. omega (arith, s))))

pub before_says : (r t : Term) → is_before r t ≡ true → Smaller r t
before_says r t = by_before (λ b. b ≡ true → Smaller r t) r t (λ s _. s) (λ _ e. absurd (false≢true e))

pub before_exactly : (r t : Term) → Smaller r t → is_before r t ≡ true
before_exactly r t s = by_before (λ b. b ≡ true) r t (λ _. refl) (λ n. absurd (n s))

pub not_after : (r t : Term) → is_before r t ≡ true → is_before t r ≡ false
not_after r t b = by_before (λ a. a ≡ false) t r (λ s. absurd (omega (arith, s, before_says r t b))) (λ _. refl)
