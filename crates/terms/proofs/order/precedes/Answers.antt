-- `precedes` meets its contract: it compares the four numbers of each equation, which are lists of one length.
use mathlib.Core.Path.{◌≡◌, refl, ◌∙◌, ap₂}
use lib.ListN.{length}
use Rattle.terms.specs.declared.order.ListOrder.{ListOrder}
use Rattle.terms.specs.declared.order.ListOrder.TheVariants.{FieldsFirst, LeftFirst}
use Rattle.terms.specs.declared.term.Equation.{Equation}
use Rattle.terms.specs.Order.{lex, order_of}
use Rattle.terms.proofs.ListsCompared.{lex_is}
use Rattle.terms.proofs.order.precedes.Goals as goal

four : (order : ListOrder) (e : Equation) → length (order_of order e) ≡ 4
four FieldsFirst e = refl
four LeftFirst e = refl

pub returns : goal.returns
returns c =
    let p = four c.args.order c.args.p in
    let q = four c.args.order c.args.q in
    c.lt.ensures ∙ lex_is _ _ (cc (p, q, c.numbers_of.ensures, c.numbers_of-2.ensures)) ∙ ap₂ lex c.numbers_of.ensures c.numbers_of-2.ensures
