-- An accepted opening with a raw list is what open does with the resulting list: that list ascends, its questions are simplified and within the limits, and the tests of
-- its length are open's. So the store is sound, and no question of it can be 15 or 16.
use Prim.Native.Nat.{ℕ, ◌*◌, ◌/◌}
use mathlib.Core.Path.{◌≡◌, sym, ap, ◌∙◌}
use mathlib.Core.Bool.{true}
use mathlib.Core.List.{List}
use native.Mathlib.Omega.{arith}
use lib.ListN.{length}
use Rattle.std.specs.Prelude.{Ok}
use Rattle.store.specs.Open.{opening, opened_words, open_store}
use Rattle.store.specs.Outcome.{outcome}
use Rattle.store.specs.Sound.{sound}
use Rattle.store.specs.Layout.{list_words}
use Rattle.store.proofs.OpenAccepts.{accepts_opens, opens, accepted_opening}
use Rattle.store.proofs.OpenedWords.{opened_list}
use Rattle.store.proofs.OpenSound.{opened_sound}
use Rattle.terms.specs.declared.limits.Limits.{Limits}
use Rattle.terms.specs.declared.order.ListOrder.{ListOrder}
use Rattle.terms.specs.Limits.{terms_within}
use Rattle.terms.specs.Order.{order_of, order_number}
use Rattle.terms.proofs.OrderNumbers.{number_only}
use Rattle.terms.proofs.QuestionOrder.{orders_strict_total}
use Rattle.raw_lists.specs.Equations.{equations}
use Rattle.raw_lists.specs.IsResulting.{IsResulting}
use Rattle.raw_lists.specs.OpenRaw.{resulting_list, open_raw}
use Rattle.raw_lists.specs.OpensResulting.{OpensResulting}
use Rattle.raw_lists.specs.Resulting.{resulting}
use Rattle.raw_lists.proofs.AcceptedList.{words_even, resulting_words, resulting_taken}
use Rattle.raw_lists.proofs.OneList.{resulting_is}
use Rattle.raw_lists.proofs.RawAccepts.{RawAccepts, raw_accepts}

module _ (limits : Limits) (n order : ℕ) (raw s : List ℕ) where
  -- open takes the resulting list
  opens_list : {words : List ℕ} → (a : RawAccepts limits n order raw s words) → opening limits n order (resulting_list a.known raw) (length s) ≡ Ok tt
  opens_list a =
      accepts_opens limits n order (resulting_list a.known raw) (length s) (record {
        fields = a.fields;
        known = a.known;
        order_is = a.order_is;
        even = omega (arith, words_even (resulting (order_of a.known) (equations raw)));
        few = a.few;
        faultless = resulting_taken a.known raw (terms_within limits n) a.taken.allowed;
        fits = a.fits;
      })

  pub raw_opens : (open_raw limits n order raw s).answer ≡ Ok tt → OpensResulting limits n order raw s
  raw_opens e =
      let a = raw_accepts limits n order raw s e in
      record {
        known = a.known;
        order_is = a.order_is;
        as_open = opens limits n order (resulting_list a.known raw) s (opens_list a) ∙ ap (outcome (Ok tt)) (sym a.words_are);
      }

  -- ---- what follows of the words
  module _ (o : OpensResulting limits n order raw s) where
    pub resulting_opening : opening limits n order (resulting_list o.known raw) (length s) ≡ Ok tt
    resulting_opening = accepted_opening limits n order (resulting_list o.known raw) s (ap (λ x. x.answer) o.as_open)

    pub resulting_opened : (open_raw limits n order raw s).words ≡ opened_words n order (resulting_list o.known raw) (length s)
    unfolding open_store
    resulting_opened = sym (ap (λ x. x.words) o.as_open) ∙ rw resulting_opening

    -- the questions of the store are what the raw list results in
    pub raw_list_is : IsResulting (order_of o.known) (equations raw) (equations (list_words (open_raw limits n order raw s).words))
    raw_list_is =
        let list = resulting_list o.known raw in
        let even : 2 * (length list / 2) ≡ length list = omega (arith, words_even (resulting (order_of o.known) (equations raw))) in
        rw (resulting_opened, opened_list n order list (length s) even, resulting_words o.known raw)
        (resulting_is (order_of o.known) (orders_strict_total o.known) (equations raw))

    pub raw_sound : sound limits (open_raw limits n order raw s).words ≡ true
    raw_sound = rw resulting_opened (opened_sound limits n order (resulting_list o.known raw) s resulting_opening)

-- The same with an order for its number.
module _ (limits : Limits) (order : ListOrder) (n : ℕ) (raw s : List ℕ) (e : (open_raw limits n (order_number order) raw s).answer ≡ Ok tt) where
  abbrev o : OpensResulting limits n (order_number order) raw s
  o = raw_opens limits n (order_number order) raw s e

  same_list : resulting_list o.known raw ≡ resulting_list order raw
  same_list = ap (λ known. resulting_list known raw) (sym (number_only order o.known o.order_is))

  pub opens_in_order : opening limits n (order_number order) (resulting_list order raw) (length s) ≡ Ok tt
  opens_in_order = rw same_list at (resulting_opening limits n (order_number order) raw s o)

  pub opened_in_order : (open_raw limits n (order_number order) raw s).words ≡ opened_words n (order_number order) (resulting_list order raw) (length s)
  opened_in_order = resulting_opened limits n (order_number order) raw s o ∙ ap (λ list. opened_words n (order_number order) list (length s)) same_list
