-- The orders of questions (document 01, "Question order"; document 000, Definition 27; document 02, ix).
use Rattle.std.specs.Prelude.{ℕ, ◌≡◌, ◌≢◌, ◌⊎◌, Bool, true, false, cond, ◌&&◌, ◌||◌, List, [], ◌∷◌, eqb, ltb, Result, Ok, Err}
use Rattle.terms.specs.declared.order.ListOrder.{ListOrder}
use Rattle.terms.specs.declared.order.ListOrder.TheVariants.{FieldsFirst, LeftFirst}
use Rattle.terms.specs.declared.order.UnknownOrder.{UnknownOrder}
use Rattle.terms.specs.declared.term.Equation.{Equation}

-- "compared in that order": the first numbers that differ decide
unfoldable pub lex : List ℕ → List ℕ → Bool
lex [] ys = false
lex (x ∷ xs) [] = false
lex (x ∷ xs) (y ∷ ys) = ltb x y || (eqb x y && lex xs ys)

-- An order of questions is given by the numbers that it compares, in turn.
abbrev pub Order : Type 0
Order = Equation → List ℕ

-- "left field, right field, left steps, right steps"
abbrev pub fields_first : Order
fields_first e = e.left.field.0 ∷ e.right.field.0 ∷ e.left.steps.0 ∷ e.right.steps.0 ∷ []

-- "left field, left steps, right field, right steps": the older books'
abbrev pub left_first : Order
left_first e = e.left.field.0 ∷ e.left.steps.0 ∷ e.right.field.0 ∷ e.right.steps.0 ∷ []

abbrev pub before : Order → Equation → Equation → Bool
before order p q = lex (order p) (order q)

-- The order on simplified guards (Definition 27) is total; here, on all equations.
pub record StrictTotal (precedes : Equation → Equation → Bool) : Type 0 where
  pub irreflexive : (p : Equation) → precedes p p ≡ false
  pub transitive : (p q r : Equation) → precedes p q ≡ true → precedes q r ≡ true → precedes p r ≡ true
  pub total : (p q : Equation) → p ≢ q → (precedes p q ≡ true) ⊎ (precedes q p ≡ true)

-- The two orders in which a list can stand.
abbrev pub order_of : ListOrder → Order
order_of FieldsFirst = fields_first
order_of LeftFirst = left_first

-- "a word 3 naming its order, 0 for document 01's and 1 for the older"
abbrev pub order_number : ListOrder → ℕ
order_number FieldsFirst = 0
order_number LeftFirst = 1

-- what a number names: an order, or none
abbrev pub Named : Type 0
Named = Result ListOrder UnknownOrder

abbrev pub unknown : Named
unknown = Err (record {})

-- the order that has a number; any other number names none
unfoldable pub order_named : ℕ → Named
order_named k =
    cond (eqb k (order_number FieldsFirst)) (Ok FieldsFirst)
    (cond (eqb k (order_number LeftFirst)) (Ok LeftFirst) unknown)

-- What comes of a number that names an order, and of one that names none.
abbrev pub if_known : {A : Type 0} → Named → (ListOrder → A) → A → A
if_known (Ok order) next stop = next order
if_known (Err none) next stop = stop
