-- A term passes the test of its limits only if both of its numbers are within them.
use Prim.Native.Nat.{◌≤◌}
use mathlib.Core.Path.{◌≡◌}
use mathlib.Core.Bool.{true, ◌&&◌, false≢true}
use lib.Dec.{leb}
use Rattle.terms.specs.declared.term.Term.{Term}
use Rattle.terms.specs.declared.limits.TermLimits.{TermLimits}
use Rattle.terms.specs.Words.{allows}
use Rattle.terms.proofs.Cases.{by_le}

-- a term within limits
pub record TermKept (limits : TermLimits) (t : Term) : Type 0 where
  pub field_in : t.field.0 ≤ limits.field.0
  pub steps_in : t.steps.0 ≤ limits.steps.0

pub allows_says : (limits : TermLimits) (t : Term) → allows limits t ≡ true → TermKept limits t
unfolding allows
allows_says limits t =
    by_le (λ b. (b && leb t.steps.0 limits.steps.0) ≡ true → TermKept limits t) t.field.0 limits.field.0
    (λ f. by_le (λ b. b ≡ true → TermKept limits t) t.steps.0 limits.steps.0
    (λ s _. record { field_in = f; steps_in = s }) (λ _ e. absurd (false≢true e)))
    (λ _ e. absurd (false≢true e))
