-- Books that an opening in an order, and any calls after it, have led to (document 02, ix: "Handle laws, verdicts and examples hold with the order as a
-- parameter.").
use Rattle.std.specs.Prelude.{ℕ, ◌≡◌}
use Rattle.operations.specs.Handles.{Pair, Books, In, HandleLaw}
use Rattle.store.specs.Layout.{field_count, store_order}
use Rattle.store.specs.Meaning.{meaning}
use Rattle.store.specs.SoundParts.{Sound}
use Rattle.terms.specs.declared.limits.Limits.{Limits}
use Rattle.terms.specs.declared.order.ListOrder.{ListOrder}
use Rattle.terms.specs.Meaning.{Valuation}
use Rattle.terms.specs.Order.{order_number}

pub record InOrder (limits : Limits) (order : ListOrder) (n : ℕ) (b : Books) : Type 0 where
  pub sound : Sound limits b.words
  -- the store still names the order in which it was opened, and has n fields
  pub order_is : store_order b.words ≡ order_number order
  pub fields : field_count b.words ≡ n
  -- equal handles exactly if the rules agree
  pub law : HandleLaw b.ledger
  -- every handle in the ledger means its rule
  pub means : (p : Pair) → In p b.ledger → (v : Valuation) → meaning b.words p.handle v ≡ p.rule v
