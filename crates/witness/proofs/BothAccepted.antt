-- The witness does answer with two handles, by computing: two fields, the rules that the first count is zero and that the second is, and
-- a store with room for three entries.
use Prim.Native.Nat.{ℕ}
use mathlib.Core.Path.{◌≡◌, refl}
use mathlib.Core.List.{[], ◌∷◌}
use lib.ListN.{replicate}
use Rattle.store.specs.Outcome.{outcome}
use Rattle.terms.specs.declared.order.ListOrder.{ListOrder}
use Rattle.terms.specs.declared.order.ListOrder.TheVariants.{FieldsFirst, LeftFirst}
use Rattle.terms.specs.Limits.{store_limits}
use Rattle.terms.specs.Order.{order_number}
use Rattle.std.specs.Prelude.{Some}
use Rattle.witness.specs.Joined.{after_opening, after_building, joined_both_ways}
use Rattle.operations.proofs.Computing.{operations_compute}

-- handle 4, that both counts are zero, both ways round, in either order of the list
abbrev AcceptedIn : ℕ → Type 0
AcceptedIn order =
    joined_both_ways store_limits 2 order (1 ∷ 0 ∷ 2 ∷ 0 ∷ []) (2 ∷ 1 ∷ 0 ∷ 0 ∷ []) (2 ∷ 2 ∷ 0 ∷ 0 ∷ []) (replicate 17 7)
    ≡ outcome (Some (4, 4)) (2 ∷ 2 ∷ 3 ∷ order ∷ 1 ∷ 0 ∷ 2 ∷ 0 ∷ 1 ∷ 1 ∷ 0 ∷ 2 ∷ 1 ∷ 0 ∷ 1 ∷ 3 ∷ 0 ∷ [])

pub both_accepted : (order : ListOrder) → AcceptedIn (order_number order)
unfolding operations_compute after_opening after_building joined_both_ways
both_accepted FieldsFirst = refl
both_accepted LeftFirst = refl
