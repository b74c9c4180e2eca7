-- Opening a store (document 01, "Who can cause which refusal", groups L1 to L6 and 21; document 02, ix).
use Rattle.std.specs.Prelude.{ℕ, zero, suc, ◌+◌, ◌-◌, ◌/◌, ◌%◌, Bool, true, cond, ◌&&◌, List, ◌∷◌, ◌++◌, eqb, ltb, length, replicate, Ok, Err}
use Rattle.terms.specs.declared.limits.TermLimits.{TermLimits}
use Rattle.terms.specs.Form.{is_simplified}
use Rattle.terms.specs.declared.order.ListOrder.{ListOrder}
use Rattle.terms.specs.Order.{Order, before, order_of, order_named, if_known}
use Rattle.terms.specs.Words.{allows}
use Rattle.terms.specs.declared.limits.Limits.{Limits}
use Rattle.store.specs.Opened.{Opened, if_accepted, and_then}
use Rattle.store.specs.declared.answer.OpenFault.TheVariants.{TooManyFields, UnknownOrder, OddList, TooManyQuestions, OutOfLimits, NotSimplified, NotAbove, TooShort}
use Rattle.store.specs.Layout.{heading_length, question_in}
use Rattle.terms.specs.Limits.{terms_within}
use Rattle.store.specs.Outcome.{Outcome, outcome}

-- strictly above the question before it, in an order of questions; the first has none before it
abbrev pub above_last : Order → List ℕ → ℕ → Bool
above_last order words zero = true
above_last order words (suc k) = before order (question_in words k) (question_in words (suc k))

-- 14, 15, 16 of the k-th question
unfoldable pub question_fault : Order → TermLimits → List ℕ → ℕ → Opened
question_fault order limits words k =
    let q = question_in words k in
    cond (allows limits q.left && allows limits q.right)
    (cond (is_simplified q) (cond (above_last order words k) (Ok tt) (Err NotAbove)) (Err NotSimplified))
    (Err OutOfLimits)

-- "then question by question 14, 15, 16": of so many questions from the k-th on
unfoldable pub list_fault : Order → TermLimits → List ℕ → ℕ → ℕ → Opened
list_fault order limits words zero k = (Ok tt)
list_fault order limits words (suc left) k = and_then (question_fault order limits words k) (list_fault order limits words left (k + 1))

-- "12, 13, then question by question 14, 15, 16, then 21": of a list in an order, for a store of so many words
unfoldable pub opening_in : ListOrder → Limits → ℕ → List ℕ → ℕ → Opened
opening_in order limits n list words =
    cond (eqb (length list % 2) 1) (Err OddList)
    (cond (ltb limits.questions (length list / 2)) (Err TooManyQuestions)
    (and_then (list_fault (order_of order) (terms_within limits n) list (length list / 2) 0)
    (cond (ltb words (heading_length + length list)) (Err TooShort) (Ok tt))))

-- "Order at opening: 11, 12, 13, then question by question 14, 15, 16, then 21."; "Opening takes the order as an input."; "18 for another order,
-- right after 11"
unfoldable pub opening : Limits → ℕ → ℕ → List ℕ → ℕ → Opened
opening limits n order list words =
    cond (ltb limits.terms.field.0 n) (Err TooManyFields)
    (if_known (order_named order) (λ known. opening_in known limits n list words) (Err UnknownOrder))

-- "Writes a store with no entries and zeros in all the rest.": n, q, used, the order, the list, zeros
unfoldable pub opened_words : ℕ → ℕ → List ℕ → ℕ → List ℕ
opened_words n order list words = n ∷ length list / 2 ∷ 0 ∷ order ∷ list ++ replicate (words - (heading_length + length list)) 0

-- "On refusal ... all lent words are unchanged."
abbrev pub opened : Opened → ℕ → ℕ → List ℕ → List ℕ → Outcome Opened
opened o n order list s = if_accepted o (outcome (Ok tt) (opened_words n order list (length s))) (λ f. outcome (Err f) s)

-- The operation.
unfoldable pub open_store : Limits → ℕ → ℕ → List ℕ → List ℕ → Outcome Opened
open_store limits n order list s = opened (opening limits n order list (length s)) n order list s
