-- Openings that come to the same: of a list that open accepts, by both; and of a raw list in two spellings.
use Prim.Native.Nat.{ℕ, ◌+◌, ◌/◌, ◌%◌, ◌≤◌}
use mathlib.Core.Path.{◌≡◌, sym, ap, ◌∙◌}
use mathlib.Core.Logic.{◌↔◌}
use mathlib.Core.List.{List}
use native.Mathlib.Omega.{arith}
use borrow.Author.Tests.{le-ltb, ne_eqb}
use lib.ListN.{length}
use Rattle.std.specs.Prelude.{Ok}
use Rattle.store.specs.Layout.{heading_length}
use Rattle.store.specs.Open.{opened_words, open_store}
use Rattle.store.specs.Outcome.{Outcome, outcome}
use Rattle.store.proofs.OpenAccepts.{accepts, accepted_opening}
use Rattle.terms.specs.declared.limits.Limits.{Limits}
use Rattle.terms.specs.declared.order.ListOrder.{ListOrder}
use Rattle.terms.specs.declared.term.Equation.{Equation}
use Rattle.terms.specs.Limits.{terms_within, store_limits}
use Rattle.terms.specs.Order.{order_of, order_number, order_named}
use Rattle.terms.proofs.OrderNumbers.{number_names}
use Rattle.terms.proofs.QuestionOrder.{orders_strict_total}
use Rattle.raw_lists.specs.RawOpened.{RawOpened}
use Rattle.raw_lists.specs.Equations.{equations, words_of}
use Rattle.raw_lists.specs.IsResulting.{WrittenIn}
use Rattle.raw_lists.specs.Limits.{most_equations}
use Rattle.raw_lists.specs.OnPaper.{Respelled, Taken}
use Rattle.raw_lists.specs.OpenRaw.{resulting_list, open_resulting, open_collected, open_raw_in, open_raw}
use Rattle.raw_lists.proofs.AcceptedList.{list_allowed, list_stays}
use Rattle.raw_lists.proofs.OneList.{same_written}
use Rattle.raw_lists.proofs.RawAccepts.{raw_accepts}
use Rattle.raw_lists.proofs.Respelling.{respelled_written}

-- ---- a raw list that is taken
-- comes to its resulting list
taken_opens : (order : ListOrder) (limits : Limits) (n : ℕ) (raw s : List ℕ) → Taken limits n raw
    → open_raw_in order limits n raw s ≡ open_resulting limits n (order_number order) (resulting_list order raw) s
unfolding open_raw_in open_collected
taken_opens order limits n raw s t = rw (ne_eqb (length raw % 2) 1 t.even, le-ltb most_equations (length raw / 2) t.few, t.allowed)

-- ---- two raw lists
module _ (limits : Limits) (n order : ℕ) (raw other s : List ℕ) (t : Taken limits n raw) (u : Taken limits n other) where
  -- As long as neither 12 nor 17 nor 14 comes of either, raw lists whose equations simplify to the same questions have one answer and leave the same words,
  pub same_opens : ((q : Equation) → WrittenIn (equations raw) q ↔ WrittenIn (equations other) q) → open_raw limits n order raw s ≡ open_raw limits n order other s
  unfolding open_raw
  same_opens written = rw in_order
    where
      same : (known : ListOrder) → open_raw_in known limits n raw s ≡ open_raw_in known limits n other s
      same known =
          taken_opens known limits n raw s t
          ∙ ap (λ qs. open_resulting limits n (order_number known) (words_of qs) s)
          (same_written (order_of known) (orders_strict_total known) (equations raw) (equations other) written)
          ∙ sym (taken_opens known limits n other s u)

      in_order : ◌≡◌ {A = ListOrder → Outcome RawOpened} (λ known. open_raw_in known limits n raw s) (λ known. open_raw_in known limits n other s)
      in_order = λ i known. same known i

  -- and so do two spellings of a raw list.
  pub respelled_opens : Respelled (equations raw) (equations other) → open_raw limits n order raw s ≡ open_raw limits n order other s
  respelled_opens r = same_opens (respelled_written r)

-- an accepted opening is such
pub accepted_taken : (limits : Limits) (n order : ℕ) (raw s : List ℕ) → (open_raw limits n order raw s).answer ≡ Ok tt → Taken limits n raw
accepted_taken limits n order raw s e = (raw_accepts limits n order raw s e).taken

-- ---- a list that open accepts
module _ (limits : Limits) (n order : ℕ) (list s : List ℕ) where
  -- the order that the number names decides
  in_order : {known : ListOrder} → n ≤ limits.terms.field.0 → order_named order ≡ Ok known → open_raw limits n order list s ≡ open_raw_in known limits n list s
  unfolding open_raw
  in_order few named = rw (le-ltb limits.terms.field.0 n few, named)

  -- "A list that the old opening accepts gives the same store under both.": accepted, and every word. Limits that allow more than 64 questions would let open take a
  -- list that is 17 here.
  pub opens_alike : limits.questions ≤ most_equations → (open_store limits n order list s).answer ≡ Ok tt
      → open_raw limits n order list s ≡ outcome (Ok tt) (open_store limits n order list s).words
  unfolding open_store open_resulting
  opens_alike small e =
      let o = accepted_opening limits n order list s e in
      let a = accepts limits n order list (length s) o in
      let known = a.known in
      let taken : Taken limits n list =
      record { even = omega (arith, a.even); few = omega (arith, a.few); allowed = list_allowed known (terms_within limits n) list a.even a.faultless } in
      let opened_so : open_resulting limits n order list s ≡ outcome (Ok tt) (opened_words n order list (length s)) =
      rw (le-ltb limits.questions (length list / 2) a.few, le-ltb (length s) (heading_length + length list) a.fits) in
      in_order a.fields (ap order_named a.order_is ∙ number_names known)
      ∙ taken_opens known limits n list s taken
      ∙ (λ i. open_resulting limits n (sym a.order_is i) (list_stays known (terms_within limits n) list a.even a.faultless i) s)
      ∙ opened_so ∙ rw o

-- at the institute's limits, 20 questions, there is no condition
pub institute_opens_alike : (n order : ℕ) (list s : List ℕ) → (open_store store_limits n order list s).answer ≡ Ok tt
    → open_raw store_limits n order list s ≡ outcome (Ok tt) (open_store store_limits n order list s).words
institute_opens_alike n order list s = opens_alike store_limits n order list s (omega arith)
