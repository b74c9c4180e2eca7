-- Opening a store with a raw list (document 02, i). Each line that refuses stands once, and goes on where its condition is not met.
use Rattle.std.specs.Prelude.{ℕ, ◌+◌, ◌/◌, ◌%◌, Bool, true, cond, ◌&&◌, List, [], ◌∷◌, eqb, ltb, length, Ok, Err}
use Rattle.store.specs.Layout.{heading_length}
use Rattle.store.specs.Open.{opened_words}
use Rattle.store.specs.Outcome.{Outcome, outcome}
use Rattle.terms.specs.declared.limits.Limits.{Limits}
use Rattle.terms.specs.declared.limits.TermLimits.{TermLimits}
use Rattle.terms.specs.declared.order.ListOrder.{ListOrder}
use Rattle.terms.specs.declared.term.Equation.{Equation}
use Rattle.terms.specs.Limits.{terms_within}
use Rattle.terms.specs.Order.{order_of, order_number, order_named, if_known}
use Rattle.terms.specs.Words.{allows}
use Rattle.raw_lists.specs.declared.answer.RawFault.{RawFault}
use Rattle.raw_lists.specs.declared.answer.RawFault.TheVariants.{TooManyFields, UnknownOrder, OddList, TooManyEquations, OutOfLimits, TooManyQuestions, TooShort}
use Rattle.raw_lists.specs.RawOpened.{RawOpened}
use Rattle.raw_lists.specs.Equations.{equations, words_of}
use Rattle.raw_lists.specs.Limits.{most_equations}
use Rattle.raw_lists.specs.Resulting.{resulting}

-- 14 is of the raw terms: neither term of an equation has a field above n or steps above the limit,
abbrev pub both_allowed : TermLimits → Equation → Bool
both_allowed limits e = allows limits e.left && allows limits e.right

-- and so it is with each equation of a raw list, whatever it simplifies to
unfoldable pub all_allowed : TermLimits → List Equation → Bool
all_allowed limits [] = true
all_allowed limits (e ∷ es) = both_allowed limits e && all_allowed limits es

-- the words of the list that a raw list results in
abbrev pub resulting_list : ListOrder → List ℕ → List ℕ
resulting_list order raw = words_of (resulting (order_of order) (equations raw))

-- "On refusal the result is 0 and all lent words are unchanged."
abbrev pub raw_refused : List ℕ → RawFault → Outcome RawOpened
raw_refused s f = outcome (Err f) s

-- "The limit of 20 counts what remains": 13 and 21 of the resulting list; then the words that open writes
unfoldable pub open_resulting : Limits → ℕ → ℕ → List ℕ → List ℕ → Outcome RawOpened
open_resulting limits n order list s =
    cond (ltb limits.questions (length list / 2)) (raw_refused s TooManyQuestions)
    (cond (ltb (length s) (heading_length + length list)) (raw_refused s TooShort)
    (outcome (Ok tt) (opened_words n order list (length s))))

-- "13 moves to after the last equation's 14"
unfoldable pub open_collected : ListOrder → Limits → ℕ → List ℕ → List ℕ → Outcome RawOpened
open_collected order limits n raw s =
    cond (all_allowed (terms_within limits n) (equations raw)) (open_resulting limits n (order_number order) (resulting_list order raw) s) (raw_refused s OutOfLimits)

-- "17 for more than 64 raw equations, after 12"
unfoldable pub open_raw_in : ListOrder → Limits → ℕ → List ℕ → List ℕ → Outcome RawOpened
open_raw_in order limits n raw s =
    cond (eqb (length raw % 2) 1) (raw_refused s OddList)
    (cond (ltb most_equations (length raw / 2)) (raw_refused s TooManyEquations) (open_collected order limits n raw s))

-- The operation: 11, and "18 for another order, right after 11".
unfoldable pub open_raw : Limits → ℕ → ℕ → List ℕ → List ℕ → Outcome RawOpened
open_raw limits n order raw s =
    cond (ltb limits.terms.field.0 n) (raw_refused s TooManyFields)
    (if_known (order_named order) (λ known. open_raw_in known limits n raw s) (raw_refused s UnknownOrder))
