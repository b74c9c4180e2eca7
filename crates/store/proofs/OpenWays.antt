-- The list of an opening, question by question: what is left of it has the same first fault as the whole.
use Prim.Native.Nat.{ℕ, suc, ◌+◌, ◌-◌, ◌≤◌, ◌<◌}
use mathlib.Core.Path.{◌≡◌, ap, ◌∙◌, sym}
use mathlib.Core.List.{List}
use native.Mathlib.Omega.{arith}
use Rattle.std.specs.Prelude.{Ok, Err}
use Rattle.terms.specs.declared.limits.TermLimits.{TermLimits}
use Rattle.terms.specs.Order.{Order}
use Rattle.store.specs.declared.answer.OpenFault.{OpenFault}
use Rattle.store.specs.Open.{question_fault, list_fault}
use Rattle.store.specs.Opened.{Opened, and_then}

-- a refusal stands, whatever comes after it
stands : {f : Opened} {r : OpenFault} (b : Opened) → f ≡ Err r → f ≡ and_then f b
stands b e = rw e

pub one_less : (n i : ℕ) → i < n → n - i ≡ suc (n - (i + 1))
one_less n i h = omega arith

pub none_left : (n i : ℕ) → n ≤ i → n - i ≡ 0
none_left n i h = omega arith

module _ (order : Order) (limits : TermLimits) (words : List ℕ) where
  pub list_start : (n : ℕ) → list_fault order limits words n 0 ≡ list_fault order limits words (n - 0) 0
  list_start n = ap (λ (m : ℕ). list_fault order limits words m 0) (omega arith)

  module _ {n k : ℕ} {o : Opened} (inv : o ≡ list_fault order limits words (n - k) k) where
    pub list_end : n ≤ k → (Ok tt) ≡ o
    unfolding list_fault
    list_end h = rw (inv, none_left n k h)

    module _ (h : k < n) {f : Opened} (ef : f ≡ question_fault order limits words k) where
      list_step : o ≡ and_then f (list_fault order limits words (n - (k + 1)) (k + 1))
      unfolding list_fault
      list_step = inv ∙ rw (one_less n k h, ef, list_fault)

      pub list_next : f ≡ Ok tt → o ≡ list_fault order limits words (n - (k + 1)) (k + 1)
      list_next e = rw e at list_step

      pub list_stop : {r : OpenFault} → f ≡ Err r → Err r ≡ o
      list_stop e = sym e ∙ stands (list_fault order limits words (n - (k + 1)) (k + 1)) e ∙ sym list_step
