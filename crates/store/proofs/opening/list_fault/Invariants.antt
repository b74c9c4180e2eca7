-- `list_fault` meets its contract: what is left of the list has the same first fault as the whole.
use Prim.Native.Nat.{◌-◌, ◌/◌}
use mathlib.Core.Path.{◌≡◌}
use lib.ListN.{length}
use Rattle.terms.specs.Order.{order_of}
use Rattle.store.specs.Open.{list_fault}
use Rattle.store.proofs.opening.list_fault.Given as goal

abbrev pub invariant-loop-k : goal.invariant-loop-k
invariant-loop-k l =
    list_fault (order_of l.order) l.limits l.list (length l.list / 2) 0 ≡ list_fault (order_of l.order) l.limits l.list (length l.list / 2 - l.k) l.k
