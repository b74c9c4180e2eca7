-- What an accepted opening with a raw list is, said by open: "Meanings and handles then speak of the resulting list."
use Rattle.std.specs.Prelude.{ℕ, ◌≡◌, List, Ok}
use Rattle.store.specs.Open.{open_store}
use Rattle.store.specs.Outcome.{outcome}
use Rattle.terms.specs.declared.limits.Limits.{Limits}
use Rattle.terms.specs.declared.order.ListOrder.{ListOrder}
use Rattle.terms.specs.Order.{order_number}
use Rattle.raw_lists.specs.OpenRaw.{resulting_list, open_raw}

-- the number that was given is an order's, and open, given the list that results in that order, is accepted and leaves the same words
pub record OpensResulting (limits : Limits) (n order : ℕ) (raw s : List ℕ) : Type 0 where
  pub known : ListOrder
  pub order_is : order ≡ order_number known
  pub as_open : open_store limits n order (resulting_list known raw) s ≡ outcome (Ok tt) (open_raw limits n order raw s).words
