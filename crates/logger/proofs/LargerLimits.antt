-- What keeps smaller limits keeps larger ones: each test of a store, of an opening and of a table compares with a limit, and no limit is smaller.
use Prim.Native.Nat.{ℕ, zero, suc, ◌+◌, ◌/◌}
use mathlib.Core.Path.{◌≡◌, refl, sym, ap, ◌∙◌}
use mathlib.Core.Bool.{true}
use mathlib.Core.List.{List}
use native.Mathlib.Omega.{arith}
use borrow.Author.Tests.{le-leb}
use lib.ListN.{length}
use Rattle.logger.specs.SmallerLimits.{Smaller}
use Rattle.std.specs.Prelude.{Ok}
use Rattle.store.specs.Layout.{field_count, question_count, list_words, question_in}
use Rattle.store.specs.Open.{question_fault, list_fault, opening, opened, open_store}
use Rattle.store.specs.Sound.{sound}
use Rattle.store.specs.SoundParts.{Sound}
use Rattle.terms.specs.declared.limits.Limits.{Limits}
use Rattle.terms.specs.declared.term.Term.{Term}
use Rattle.terms.specs.Limits.{terms_within}
use Rattle.terms.specs.Order.{Order, order_of, order_named}
use Rattle.terms.specs.Words.{allows}
use Rattle.store.proofs.OpenAccepts.{accepts, accepts_opens, accepted_opening, both}
use Rattle.store.proofs.SoundFacts.{sound_says, sound_from}
use Rattle.store.proofs.SoundList.{accepted_allows}
use Rattle.store.proofs.Tests.{first_passes, second_passes}
use Rattle.terms.proofs.OrderNumbers.{number_names}
use Rattle.terms.proofs.TermKept.{allows_says}

-- limits are no larger than themselves
pub smaller_same : (limits : Limits) → Smaller limits limits
smaller_same limits = record { fields_in = omega arith; steps_in = omega arith; questions_in = omega arith; entries_in = omega arith }

module _ {limits larger : Limits} (small : Smaller limits larger) (n : ℕ) where
  -- ---- terms
  pub term_allowed : (t : Term) → allows (terms_within limits n) t ≡ true → allows (terms_within larger n) t ≡ true
  unfolding allows
  term_allowed t e =
      let k = allows_says (terms_within limits n) t e in
      simp (le-leb t.field.0 n k.field_in, le-leb t.steps.0 larger.terms.steps.0 (omega (arith, k.steps_in, small.steps_in)))

  -- ---- lists
  module _ (order : Order) (words : List ℕ) where
    question_accepted : (k : ℕ) → question_fault order (terms_within limits n) words k ≡ Ok tt → question_fault order (terms_within larger n) words k ≡ Ok tt
    unfolding question_fault
    question_accepted k e =
        let q = question_in words k in
        let both = accepted_allows order (terms_within limits n) words k e in
        let left = allows (terms_within limits n) q.left in
        let right = allows (terms_within limits n) q.right in
        rw (term_allowed q.left (first_passes left right both), term_allowed q.right (second_passes left right both)) (rw both at e)

    list_accepted : (left k : ℕ) → list_fault order (terms_within limits n) words left k ≡ Ok tt → list_fault order (terms_within larger n) words left k ≡ Ok tt
    unfolding list_fault
    list_accepted zero k e = refl
    list_accepted (suc left) k e =
        let parts = both (question_fault order (terms_within limits n) words k) (list_fault order (terms_within limits n) words left (k + 1)) e in
        rw (question_accepted k parts.0) (list_accepted left (k + 1) parts.1)

module _ {limits larger : Limits} (small : Smaller limits larger) where
  -- ---- stores
  pub sound_larger : {s : List ℕ} → Sound limits s → Sound larger s
  sound_larger {s} snd = record {
    fields_in = omega (arith, snd.fields_in, small.fields_in);
    questions_in = omega (arith, snd.questions_in, small.questions_in);
    list_in = snd.list_in;
    order = snd.order;
    order_is = snd.order_is;
    list_kept = list_accepted small (field_count s) (order_of snd.order) (list_words s) (question_count s) 0 snd.list_kept;
    used_in = omega (arith, snd.used_in, small.entries_in);
    entry_kept = snd.entry_kept;
    entries_differ = snd.entries_differ;
    unused_zero = snd.unused_zero;
  }

  -- A store that is sound within the smaller limits is sound within the larger.
  pub smaller_sound : (s : List ℕ) → sound limits s ≡ true → sound larger s ≡ true
  smaller_sound s e = sound_from larger s (sound_larger (sound_says limits s e))

  -- ---- openings
  module _ (n order : ℕ) (list : List ℕ) where
    pub opening_larger : (words : ℕ) → opening limits n order list words ≡ Ok tt → opening larger n order list words ≡ Ok tt
    opening_larger words e =
        let a = accepts limits n order list words e in
        accepts_opens larger n order list words (record {
          fields = omega (arith, a.fields, small.fields_in);
          known = a.known;
          order_is = a.order_is;
          even = a.even;
          few = omega (arith, a.few, small.questions_in);
          faultless = list_accepted small n (order_of a.known) list (length list / 2) 0 a.faultless;
          fits = a.fits;
        })

    -- An opening that is accepted within the smaller limits is accepted within the larger, and writes the same words.
    pub smaller_opens : (s : List ℕ) → (open_store limits n order list s).answer ≡ Ok tt → open_store larger n order list s ≡ open_store limits n order list s
    unfolding open_store
    smaller_opens s e =
        let is = accepted_opening limits n order list s e in
        ap (λ o. opened o n order list s) (opening_larger (length s) is ∙ sym is)
