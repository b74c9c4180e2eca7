-- Comparing lists of numbers one after the other is a strict total order on lists of one length, so an order of questions is one if the
-- numbers that it compares tell all questions apart.
use Prim.Native.Nat.{ℕ, ◌<◌}
use mathlib.Core.Path.{◌≡◌, refl, sym, ap, ap₂, ◌∙◌}
use mathlib.Core.Logic.{◌≢◌, ◌⊎◌, inl, inr}
use mathlib.Core.Bool.{Bool, true, false, false≢true, ◌&&◌, ◌||◌}
use mathlib.Core.List.{List, [], ◌∷◌}
use native.Mathlib.Decide.{ℕ_discrete}
use native.Mathlib.Omega.{arith}
use borrow.Author.Tests.{lt-ltb, le-ltb, eq-eqb, ne_eqb}
use lib.Dec.{eqb}
use lib.ListN.{length}
use Rattle.terms.specs.declared.order.ListOrder.{ListOrder}
use Rattle.terms.specs.declared.order.ListOrder.TheVariants.{FieldsFirst, LeftFirst}
use Rattle.terms.specs.declared.term.Equation.{Equation}
use Rattle.terms.specs.Order.{lex, Order, fields_first, left_first, before, StrictTotal, order_of}
use Rattle.terms.proofs.Cases.{by_eq, by_lt}
use Rattle.terms.proofs.Numbers.{equations_equal}

-- the first numbers decide, or the rest does
pub lex_less : (x y : ℕ) (xs ys : List ℕ) → x < y → lex (x ∷ xs) (y ∷ ys) ≡ true
unfolding lex
lex_less x y xs ys h = simp (lt-ltb x y h)

pub lex_equal : (x y : ℕ) (xs ys : List ℕ) → x ≡ y → lex (x ∷ xs) (y ∷ ys) ≡ lex xs ys
unfolding lex
lex_equal x y xs ys e = simp (le-ltb x y (omega arith), eq-eqb x y e)

pub lex_more : (x y : ℕ) (xs ys : List ℕ) → y < x → lex (x ∷ xs) (y ∷ ys) ≡ false
unfolding lex
lex_more x y xs ys h = simp (le-ltb x y (omega arith), ne_eqb x y (λ e. omega arith))

lex_cases : (P : Bool → Type 0) (x y : ℕ) (xs ys : List ℕ) → (x < y → P true) → (x ≡ y → P (lex xs ys)) → (y < x → P false) → P (lex (x ∷ xs) (y ∷ ys))
unfolding lex
lex_cases P x y xs ys f g h =
    by_lt (λ t. P (t || (eqb x y && lex xs ys))) x y f
    (λ l. by_eq (λ t. P (t && lex xs ys)) x y g (λ n. h (omega arith)))

pub lex_irreflexive : (xs : List ℕ) → lex xs xs ≡ false
unfolding lex
lex_irreflexive [] = refl
lex_irreflexive (x ∷ xs) = lex_equal x x xs xs refl ∙ lex_irreflexive xs

pub lex_transitive : (xs ys zs : List ℕ) → lex xs ys ≡ true → lex ys zs ≡ true → lex xs zs ≡ true
unfolding lex
lex_transitive [] ys zs a b = absurd (false≢true a)
lex_transitive (x ∷ xs) [] zs a b = absurd (false≢true a)
lex_transitive (x ∷ xs) (y ∷ ys) [] a b = absurd (false≢true b)
lex_transitive (x ∷ xs) (y ∷ ys) (z ∷ zs) a b =
    lex_cases (λ s. s ≡ true → lex (x ∷ xs) (z ∷ zs) ≡ true) x y xs ys
    (λ h _. then (λ k. lex_less x z xs zs (omega arith)) (λ e _. lex_less x z xs zs (omega arith)))
    (λ e s. then (λ k. lex_less x z xs zs (omega arith)) (λ d t. lex_equal x z xs zs (e ∙ d) ∙ lex_transitive xs ys zs s t))
    (λ _ s. absurd (false≢true s)) a
  where
    then : (y < z → lex (x ∷ xs) (z ∷ zs) ≡ true) → (y ≡ z → lex ys zs ≡ true → lex (x ∷ xs) (z ∷ zs) ≡ true) → lex (x ∷ xs) (z ∷ zs) ≡ true
    then f g = lex_cases (λ t. t ≡ true → lex (x ∷ xs) (z ∷ zs) ≡ true) y z ys zs (λ k _. f k) g (λ _ t. absurd (false≢true t)) b

pub lex_total : (xs ys : List ℕ) → length xs ≡ length ys → xs ≢ ys → (lex xs ys ≡ true) ⊎ (lex ys xs ≡ true)
lex_total [] [] l n = absurd (n refl)
lex_total [] (y ∷ ys) l n = absurd (omega arith)
lex_total (x ∷ xs) [] l n = absurd (omega arith)
lex_total (x ∷ xs) (y ∷ ys) l n =
    lex_cases (λ t. (t ≡ true) ⊎ (lex (y ∷ ys) (x ∷ xs) ≡ true)) x y xs ys
    (λ h. inl refl)
    (λ e. rw (lex_equal y x ys xs (sym e)) (lex_total xs ys (omega arith) (λ d. n (ap₂ (λ (k : ℕ) (ks : List ℕ). k ∷ ks) e d))))
    (λ h. inr (lex_less y x ys xs h))

-- An order that compares equally many numbers of all questions, and never the same numbers of two, is strict and total.
pub strict_total : (order : Order) → ((p q : Equation) → length (order p) ≡ length (order q)) → ((p q : Equation) → order p ≡ order q → p ≡ q)
    → StrictTotal (before order)
strict_total order same tells = record {
  irreflexive = λ p. lex_irreflexive (order p);
  transitive = λ p q r. lex_transitive (order p) (order q) (order r);
  total = λ p q n. lex_total (order p) (order q) (same p q) (λ e. n (tells p q e));
}

-- Each of the two orders compares the four numbers that an equation has.
pub fields_first_strict_total : StrictTotal (before fields_first)
fields_first_strict_total = strict_total fields_first (λ p q. refl) (λ p q e. equations_equal p q (cc) (cc) (cc) (cc))

pub left_first_strict_total : StrictTotal (before left_first)
left_first_strict_total = strict_total left_first (λ p q. refl) (λ p q e. equations_equal p q (cc) (cc) (cc) (cc))

-- Both orders in which a list can stand are strict and total on all equations.
pub orders_strict_total : (order : ListOrder) → StrictTotal (before (order_of order))
orders_strict_total FieldsFirst = fields_first_strict_total
orders_strict_total LeftFirst = left_first_strict_total

-- In such an order two equations of which neither comes before the other are one: their numbers can be compared.
pub neither_before : {precedes : Equation → Equation → Bool} → StrictTotal precedes → (p q : Equation) → precedes p q ≡ false → precedes q p ≡ false → p ≡ q
neither_before total p q a b =
    equations_equal p q (same (λ e. e.left.field.0)) (same (λ e. e.left.steps.0)) (same (λ e. e.right.field.0)) (same (λ e. e.right.steps.0))
  where
    alike : p ≢ q → ⊥
    alike n = elim (total.total p q n) [ inl x ↦ false≢true (sym a ∙ x) | inr x ↦ false≢true (sym b ∙ x) ]

    same : (number : Equation → ℕ) → number p ≡ number q
    same number = elim (ℕ_discrete (number p) (number q)) [ yes x ↦ x | no n ↦ absurd (alike (λ x. n (ap number x))) ]
