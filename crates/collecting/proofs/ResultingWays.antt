-- What is done with the list that was collected, on each way through the code: the tests on that way decide the definition's own tests.
use Prim.Native.Nat.{ℕ, ◌+◌, ◌-◌, ◌*◌, ◌/◌, ◌%◌, ◌≤◌, ◌<◌}
use mathlib.Core.Path.{◌≡◌, sym, ap, ◌∙◌}
use mathlib.Core.Logic.{◌≢◌}
use mathlib.Core.Bool.{true, false}
use mathlib.Core.List.{List}
use native.Mathlib.Nat.{sub-zero}
use native.Mathlib.Omega.{arith}
use borrow.Author.Tests.{lt-ltb, le-ltb, ne_eqb}
use lib.Dec.{ltb}
use lib.ListN.{length, take, length-take}
use lib.Seq.{length-take-le}
use Rattle.store.specs.Layout.{heading_length}
use Rattle.store.specs.Open.{opened_words}
use Rattle.store.specs.Outcome.{Outcome, outcome}
use Rattle.terms.specs.declared.limits.Limits.{Limits}
use Rattle.terms.specs.declared.order.ListOrder.{ListOrder}
use Rattle.terms.specs.Limits.{terms_within}
use Rattle.terms.specs.Order.{order_of, order_number}
use Rattle.raw_lists.specs.declared.answer.RawFault.TheVariants.{OutOfLimits, TooManyQuestions, TooShort}
use Rattle.raw_lists.specs.RawOpened.{RawOpened}
use Rattle.std.specs.Prelude.{Result, Ok, Err}
use Rattle.collecting.specs.declared.questions.Questions.{Questions}
use Rattle.terms.specs.declared.simplification.OutOfLimits as out
use Rattle.raw_lists.specs.Equations.{equations}
use Rattle.raw_lists.specs.Equations as raw_equations
use Rattle.collecting.specs.Needs.{Holds, Collects, words_of}
use Rattle.raw_lists.specs.Limits.{most_equations}
use Rattle.raw_lists.specs.OpenRaw.{all_allowed, resulting_list, raw_refused, open_resulting, open_collected, open_raw_in}
use Rattle.raw_lists.specs.Resulting.{resulting}
use Rattle.raw_lists.proofs.EquationWords.{words_of_equations}

-- ---- the resulting list
module _ (limits : Limits) (n order : ℕ) (words : List ℕ) (count : ℕ) (s : List ℕ) (fit : 2 * count ≤ length words) where
  abbrev list : List ℕ
  list = take (2 * count) words

  long : length list ≡ 2 * count
  long = length-take-le (2 * count) words fit

  pub too_many_questions : limits.questions < count → raw_refused s TooManyQuestions ≡ open_resulting limits n order list s
  unfolding open_resulting
  too_many_questions h = rw (lt-ltb limits.questions (length list / 2) (omega (arith, long)))

  module _ (few : count ≤ limits.questions) where
    short : ltb limits.questions (length list / 2) ≡ false
    short = le-ltb limits.questions (length list / 2) (omega (arith, long))

    pub too_short : length s < heading_length + 2 * count → raw_refused s TooShort ≡ open_resulting limits n order list s
    unfolding open_resulting
    too_short h = rw (short, lt-ltb (length s) (heading_length + length list) (omega (arith, long)))

    module _ (room : heading_length + 2 * count ≤ length s) where
      list_room : heading_length + length list ≤ length s
      list_room = omega (arith, long)

      -- the part of the words from 0 on, as the code lends it
      pub opens : {t : List ℕ} → t ≡ opened_words n order (take (2 * count - 0) words) (length s) → outcome (Ok tt) t ≡ open_resulting limits n order list s
      unfolding open_resulting
      opens e = rw (short, le-ltb (length s) (heading_length + length list) list_room, e, sub-zero)

-- ---- what is collected
module _ (order : ListOrder) (limits : Limits) (n : ℕ) (raw s : List ℕ) {N : ℕ} {c : Result (Questions N) out.OutOfLimits} (of : Collects (order_of order) (terms_within limits n) (equations raw) c) where
  pub out_of_limits : {f : out.OutOfLimits} {r : RawOpened} → c ≡ Err f → r ≡ Err OutOfLimits → outcome r s ≡ open_collected order limits n raw s
  unfolding open_collected
  out_of_limits i d = rw (d, rw i at of)

  module _ {q : Questions N} (i : c ≡ Ok q) where
    found : (all_allowed (terms_within limits n) (equations raw) ≡ true) × Holds q.words q.count (resulting (order_of order) (equations raw))
    found = rw i at of

    list_is : words_of q ≡ resulting_list order raw
    list_is =
        sym (words_of_equations q.count (words_of q) (omega (arith, length-take (2 * q.count) q.words, found.1.fit))) ∙ ap raw_equations.words_of found.1.are

    pub opens_resulting : {o : Outcome RawOpened} → o ≡ open_resulting limits n (order_number order) (words_of q) s → o ≡ open_collected order limits n raw s
    unfolding open_collected
    opens_resulting eo = rw found.0 (eo ∙ ap (λ (l : List ℕ). open_resulting limits n (order_number order) l s) list_is)

-- ---- an even raw list of few equations
module _ (order : ListOrder) (limits : Limits) (n : ℕ) (raw s : List ℕ) where
  pub taken_in : length raw % 2 ≢ 1 → length raw / 2 ≤ most_equations → {o : Outcome RawOpened} → o ≡ open_collected order limits n raw s → o ≡ open_raw_in order limits n raw s
  unfolding open_raw_in
  taken_in even few e = e ∙ rw (ne_eqb (length raw % 2) 1 even, le-ltb most_equations (length raw / 2) few)
