-- The handle laws are about something, by computing: in either order cases 6 to 8 are one run of the law's own run, and on the same list not (not x)
-- is worked out, by calls that are all accepted, to x's handle.
use Prim.Native.Nat.{ℕ}
use mathlib.Core.Path.{◌≡◌, refl}
use mathlib.Core.Bool.{Bool, true, false, not}
use mathlib.Core.List.{[], ◌∷◌, map}
use lib.ListN.{length, replicate}
use Rattle.std.specs.Prelude.{Ok}
use Rattle.operations.specs.Between.{call, reopen, run_steps}
use Rattle.operations.specs.BooleanLaws.{letter, not_of, BooleanLaw, is_letter, is_not, meanwhile}
use Rattle.operations.specs.Handles.{build, negate, answer_to, pair, Books, first_books, opened_books, after, run, In, newest}
use Rattle.operations.specs.Openings.{by_list, by_raw_list, opened_by}
use Rattle.operations.specs.ThreeEqual.{three_equal, three_equal_raw, last_equal, outer_equal, not_outer, after_case_6}
use Rattle.store.specs.Open.{opening}
use Rattle.store.specs.Outcome.{Outcome}
use Rattle.tables.specs.Rows.{rule_meaning}
use Rattle.terms.specs.declared.order.ListOrder.{ListOrder}
use Rattle.terms.specs.declared.order.ListOrder.TheVariants.{FieldsFirst, LeftFirst}
use Rattle.terms.specs.Limits.{store_limits}
use Rattle.terms.specs.Order.{order_number}
use Rattle.operations.proofs.Computing.{operations_compute}
use Rattle.operations.proofs.FormulaHandles.{boolean_law}

-- Each of these in the order that a number names.
module _ (order : ℕ) where
  -- the words and the ledger after the three builds
  abbrev three_builds : Books
  three_builds = run store_limits (opened_books 3 order three_equal 22) (build last_equal ∷ build outer_equal ∷ build not_outer ∷ [])

  -- The same with openings of both kinds between the calls: an accepted one begins the books anew, and one that is refused, for its 17 fields or for its
  -- order, leaves them.
  abbrev builds_between : Books
  builds_between = run_steps store_limits (opened_books 3 order three_equal 22)
      (call (build outer_equal) ∷ reopen (by_list 3 order three_equal) ∷ call (build not_outer) ∷ reopen (by_raw_list 3 order three_equal_raw) ∷ call (build last_equal)
      ∷ reopen (by_list 17 order []) ∷ reopen (by_list 3 2 []) ∷ call (build outer_equal) ∷ reopen (by_raw_list 17 order []) ∷ reopen (by_raw_list 3 2 []) ∷ call (build not_outer) ∷ [])

  -- and with the list as it stood on paper
  abbrev opened_raw : Outcome ℕ
  opened_raw = opened_by store_limits (by_raw_list 3 order three_equal_raw) (replicate 22 7)

  abbrev raw_builds : Books
  raw_builds = run store_limits (first_books opened_raw.words) (build last_equal ∷ build outer_equal ∷ build not_outer ∷ [])

  -- x is 3 = 2, handle 5, in a store with room for eight entries
  abbrev one_build : Books
  one_build = run store_limits (opened_books 3 order three_equal 34) (build last_equal ∷ [])

  abbrev negated_once : Books
  negated_once = after store_limits one_build (negate 5)

-- the words are those of the paper, and the ledger's handles, the latest first, are 0, 2, 5 before the two leaves
abbrev AsInThePaper : ℕ → Books → Type 0
AsInThePaper order b = (b.words ≡ after_case_6 order) × (map (λ p. p.handle) b.ledger ≡ 0 ∷ 2 ∷ 5 ∷ 1 ∷ 0 ∷ [])

pub run_of_cases : (order : ListOrder) → AsInThePaper (order_number order) (three_builds (order_number order))
unfolding operations_compute
run_of_cases FieldsFirst = (refl, refl)
run_of_cases LeftFirst = (refl, refl)

pub run_between : (order : ListOrder) → AsInThePaper (order_number order) (builds_between (order_number order))
unfolding operations_compute run_steps
run_between FieldsFirst = (refl, refl)
run_between LeftFirst = (refl, refl)

pub run_from_raw : (order : ListOrder) → ((opened_raw (order_number order)).answer ≡ 0) × AsInThePaper (order_number order) (raw_builds (order_number order))
unfolding operations_compute
run_from_raw FieldsFirst = (refl, (refl, refl))
run_from_raw LeftFirst = (refl, (refl, refl))

-- ---- not (not x) and x
-- both calls are accepted
abbrev NegationsAccepted : ℕ → Type 0
NegationsAccepted order =
    ((answer_to store_limits (one_build order).words (negate 5)).answer ≡ Ok 9) × ((answer_to store_limits (negated_once order).words (negate 9)).answer ≡ Ok 5)

pub negations_accepted : (order : ListOrder) → NegationsAccepted (order_number order)
unfolding operations_compute
negations_accepted FieldsFirst = (refl, refl)
negations_accepted LeftFirst = (refl, refl)

not_not : BooleanLaw (not_of (not_of (letter 0))) (letter 0)
not_not letters = go (letters 0)
  where
    go : (b : Bool) → not (not b) ≡ b
    go true = refl
    go false = refl

x_entered : (order : ListOrder) → In (pair 5 (rule_meaning last_equal)) (one_build (order_number order)).ledger
unfolding operations_compute
x_entered FieldsFirst = newest
x_entered LeftFirst = newest

opens : (order : ListOrder) → opening store_limits 3 (order_number order) three_equal (length (replicate {A = ℕ} 34 0)) ≡ Ok tt
unfolding operations_compute
opens FieldsFirst = refl
opens LeftFirst = refl

-- Whatever handles the two calls answer with, the second is x's own: by the law, not by computing.
pub double_negation : (order : ListOrder) (a h : ℕ) → (answer_to store_limits (one_build (order_number order)).words (negate 5)).answer ≡ Ok a
    → (answer_to store_limits (negated_once (order_number order)).words (negate a)).answer ≡ Ok h → h ≡ 5
double_negation order a h e f =
    let fives : ℕ → ℕ = λ _. 5 in
    let x = is_letter 0 (x_entered order) in
    boolean_law store_limits 3 (order_number order) three_equal (replicate 34 0) (opens order) (build last_equal ∷ []) fives
    (not_of (not_of (letter 0))) (letter 0) not_not h 5
    (after store_limits (negated_once (order_number order)) (negate a)) (is_not (is_not x e) f) (meanwhile (meanwhile x (negate 5)) (negate a))
