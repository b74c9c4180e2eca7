-- Each of the two orders has a number of its own, and no other number names an order: a number is compared with the two, one after the other.
use Prim.Native.Nat.{ℕ}
use mathlib.Core.Path.{◌≡◌, refl, sym, ap, ◌∙◌}
use mathlib.Core.Logic.{◌≢◌}
use mathlib.Core.Bool.{cond}
use native.Mathlib.Omega.{arith}
use borrow.Author.Tests.{ne_eqb}
use lib.Dec.{eqb}
use Rattle.terms.specs.declared.order.ListOrder.{ListOrder}
use Rattle.terms.specs.declared.order.ListOrder.TheVariants.{FieldsFirst, LeftFirst}
use Rattle.std.specs.Prelude.{Ok, Err}
use Rattle.terms.specs.Order.{Named, unknown, order_number, order_named, if_known}
use Rattle.terms.proofs.Cases.{by_eq}

-- Each order's number names it,
pub number_names : (order : ListOrder) → order_named (order_number order) ≡ Ok order
unfolding order_named
number_names FieldsFirst = refl
number_names LeftFirst = refl

-- a number names no order but the one that has it,
pub named_number : (k : ℕ) (order : ListOrder) → order_named k ≡ Ok order → k ≡ order_number order
unfolding order_named
named_number k order =
    by_eq (λ t. cond t (Ok FieldsFirst) (cond (eqb k (order_number LeftFirst)) (Ok LeftFirst) unknown) ≡ Ok order → k ≡ order_number order)
    k (order_number FieldsFirst) (λ is e. is ∙ ap number_of e)
    (λ _. by_eq (λ t. cond t (Ok LeftFirst) unknown ≡ Ok order → k ≡ order_number order)
    k (order_number LeftFirst) (λ is e. is ∙ ap number_of e) (λ _ e. absurd (let z : ◌≡◌ {A = ℕ} 0 1 = cc in omega arith)))
  where
    number_of : Named → ℕ
    number_of (Ok o) = order_number o
    number_of (Err e) = 0

-- so that no two orders have one number,
pub number_only : (order other : ListOrder) → order_number order ≡ order_number other → order ≡ other
number_only order other e =
    let named : Ok order ≡ Ok other = sym (number_names order) ∙ ap order_named e ∙ number_names other in
    cc

-- and a number that no order has names none.
pub unknown_number : (k : ℕ) → ((order : ListOrder) → k ≢ order_number order) → order_named k ≡ unknown
unfolding order_named
unknown_number k other = simp (ne_eqb k (order_number FieldsFirst) (other FieldsFirst), ne_eqb k (order_number LeftFirst) (other LeftFirst))

-- Where what comes of an unknown order is shut out, the number is an order's, and what came of it came of that order.
pub known_says : {A : Type 0} (k : ℕ) (next : ListOrder → A) (stop a : A) → if_known (order_named k) next stop ≡ a → (stop ≡ a → ⊥)
    → (order : ListOrder) × (k ≡ order_number order) × (next order ≡ a)
known_says {A} k next stop a came shut = go (order_named k) refl came
  where
    go : (o : Named) → order_named k ≡ o → if_known o next stop ≡ a → (order : ListOrder) × (k ≡ order_number order) × (next order ≡ a)
    go (Ok order) d e = (order, named_number k order d, e)
    go (Err u) d e = absurd (shut e)
