-- What it is for a store to be sound, said in plain facts: each test of the definition passes exactly if the fact that it tests holds.
use Prim.Native.Nat.{ℕ, ◌+◌, ◌-◌, ◌*◌, ◌≤◌, ◌<◌}
use mathlib.Core.Path.{◌≡◌, refl, sym, ◌∙◌, ap}
use mathlib.Core.Logic.{◌≢◌}
use mathlib.Core.Bool.{Bool, true, false≢true, cond, not, and-false}
use mathlib.Core.List.{List}
use native.Mathlib.Omega.{arith}
use borrow.Author.Tests.{leb-true, le-leb, le-ltb, ltb-true, lt-ltb, eqb-true, eq-eqb, ne_eqb, not-true}
use lib.Dec.{eqb, leb, ltb}
use lib.ListN.{length, get_or, drop}
use lib.Seq.{get_or-drop}
use Rattle.terms.specs.declared.limits.Limits.{Limits}
use Rattle.store.specs.Opened.{Opened, is_accepted}
use Rattle.std.specs.Prelude.{Ok, Err}
use Rattle.store.specs.declared.entries.Entry.{Entry}
use Rattle.store.specs.Layout.{field_count, question_count, used, store_order, list_words, entries_start, entry, leaves, room}
use Rattle.terms.specs.Limits.{terms_within}
use Rattle.store.specs.Open.{list_fault}
use Rattle.store.specs.Sound as spec
use Rattle.store.specs.Sound.{all_below}
use Rattle.store.specs.SoundParts.{EntryKept, Sound}
use Rattle.store.proofs.Tests.{passes, all_below_says, all_below_from, all_zero_says, all_zero_from}
use Rattle.terms.specs.declared.order.ListOrder.{ListOrder}
use Rattle.terms.specs.Order.{order_of, order_number}
use Rattle.terms.proofs.Cases.{by_test, by_lt}
use Rattle.terms.proofs.OrderNumbers.{number_names, known_says}

accepted_says : (o : Opened) → is_accepted o ≡ true → o ≡ Ok tt
accepted_says (Ok tt) e = refl
accepted_says (Err f) e = absurd (false≢true e)

pub same_entry_says : (d e : Entry) → spec.same_entry d e ≡ true → d ≡ e
same_entry_says d e t =
    let q : d.question ≡ e.question = eqb-true _ _ (passes (eqb d.question e.question) (λ f. rw f at t)) in
    let y : d.yes ≡ e.yes = eqb-true _ _ (passes (eqb d.yes e.yes) (λ f. simp (f, and-false) at t)) in
    let n : d.no ≡ e.no = eqb-true _ _ (passes (eqb d.no e.no) (λ f. simp (f, and-false) at t)) in
    λ i. record { question = q i; yes = y i; no = n i }

pub same_entry_from : (d e : Entry) → d ≡ e → spec.same_entry d e ≡ true
same_entry_from d e p = simp (eq-eqb _ _ (ap (λ x. x.question) p), eq-eqb _ _ (ap (λ x. x.yes) p), eq-eqb _ _ (ap (λ x. x.no) p))

module _ (s : List ℕ) where
  asks_before_says : (e : Entry) (h : ℕ) → spec.asks_before s e h ≡ true → leaves ≤ h → e.question < (entry s (h - leaves)).question
  asks_before_says e h t l = ltb-true _ _ (rw (le-ltb h leaves l) at t)

  asks_before_from : (e : Entry) (h : ℕ) → (leaves ≤ h → e.question < (entry s (h - leaves)).question) → spec.asks_before s e h ≡ true
  asks_before_from e h f = by_lt (λ t. cond t true (ltb e.question (entry s (h - leaves)).question) ≡ true) h leaves (λ _. refl) (λ l. lt-ltb _ _ (f l))

  entry_says : (i : ℕ) → spec.entry_sound s i ≡ true → EntryKept s i
  unfolding spec.entry_sound
  entry_says i t =
      let e = entry s i in
      record {
        asks_some = leb-true _ _ (passes (leb 1 e.question) (λ f. rw f at t));
        asks_listed = leb-true _ _ (passes (leb e.question (question_count s)) (λ f. simp (f, and-false) at t));
        yes_below = ltb-true _ _ (passes (ltb e.yes (i + leaves)) (λ f. simp (f, and-false) at t));
        no_below = ltb-true _ _ (passes (ltb e.no (i + leaves)) (λ f. simp (f, and-false) at t));
        differ = λ d. false≢true (simp (eq-eqb e.yes e.no d, and-false) at t);
        yes_later = asks_before_says e e.yes (passes (spec.asks_before s e e.yes) (λ f. simp (f, and-false) at t));
        no_later = asks_before_says e e.no (passes (spec.asks_before s e e.no) (λ f. simp (f, and-false) at t));
      }

  entry_from : (i : ℕ) → EntryKept s i → spec.entry_sound s i ≡ true
  unfolding spec.entry_sound
  entry_from i k =
      let e = entry s i in
      simp (
        le-leb 1 e.question k.asks_some,
        le-leb e.question (question_count s) k.asks_listed,
        lt-ltb e.yes (i + leaves) k.yes_below,
        lt-ltb e.no (i + leaves) k.no_below,
        ne_eqb e.yes e.no k.differ,
        asks_before_from e e.yes k.yes_later,
        asks_before_from e e.no k.no_later,
      )

  abbrev unlike : ℕ → ℕ → Bool
  unlike i j = not (spec.same_entry (entry s j) (entry s i))

  pub differ_says : (n : ℕ) → spec.differ_below s n ≡ true → (j i : ℕ) → j < i → i < n → entry s j ≢ entry s i
  unfolding spec.differ_below
  differ_says n t j i h k d =
      let u : unlike i j ≡ true = all_below_says (unlike i) i (all_below_says (λ y. all_below y (unlike y)) n t i k) j h in
      false≢true (sym (not-true (spec.same_entry (entry s j) (entry s i)) u) ∙ same_entry_from (entry s j) (entry s i) d)

  pub differ_from : (n : ℕ) → ((j i : ℕ) → j < i → i < n → entry s j ≢ entry s i) → spec.differ_below s n ≡ true
  unfolding spec.differ_below
  differ_from n f = all_below_from (λ y. all_below y (unlike y)) n (λ i k. all_below_from (unlike i) i (λ j h.
      by_test (λ t. not t ≡ true) (spec.same_entry (entry s j) (entry s i))
      (λ t. absurd (f j i h k (same_entry_says (entry s j) (entry s i) t))) (λ _. refl)))

  zero_says : (n : ℕ) → spec.all_zero (drop n s) ≡ true → (k : ℕ) → n ≤ k → get_or s k 0 ≡ 0
  zero_says n t k h =
      let e : n + (k - n) ≡ k = omega arith in
      rw (get_or-drop, e) at (all_zero_says (drop n s) t (k - n))

  zero_from : (n : ℕ) → ((k : ℕ) → n ≤ k → get_or s k 0 ≡ 0) → spec.all_zero (drop n s) ≡ true
  zero_from n f = all_zero_from (drop n s) (λ k. get_or-drop n s k 0 ∙ f (n + k) (omega arith))

module _ (limits : Limits) (s : List ℕ) where
  -- the answer about the list in an order
  abbrev list_answer : ListOrder → Opened
  list_answer order = list_fault (order_of order) (terms_within limits (field_count s)) (list_words s) (question_count s) 0

  list_says : spec.list_sound limits s ≡ true → (order : ListOrder) × (store_order s ≡ order_number order) × (list_answer order ≡ Ok tt)
  unfolding spec.list_sound
  list_says t =
      let known = known_says (store_order s) _ _ true t (λ e. false≢true e) in
      (known.0, known.1, accepted_says (list_answer known.0) known.2)

  pub list_from : (order : ListOrder) → store_order s ≡ order_number order → list_answer order ≡ Ok tt → spec.list_sound limits s ≡ true
  unfolding spec.list_sound
  list_from order e k = rw (e, number_names order, k)

  pub sound_says : spec.sound limits s ≡ true → Sound limits s
  unfolding spec.sound spec.heading_sound
  sound_says t =
      let unused = entries_start s + 3 * used s in
      let list = list_says (passes (spec.list_sound limits s) (λ f. simp (f, and-false) at t)) in
      let entries : all_below (used s) (spec.entry_sound s) ≡ true =
      passes (all_below (used s) (spec.entry_sound s)) (λ f. simp (f, and-false) at t) in
      record {
        fields_in = leb-true _ _ (passes (leb (field_count s) limits.terms.field.0) (λ f. rw f at t));
        questions_in = leb-true _ _ (passes (leb (question_count s) limits.questions) (λ f. simp (f, and-false) at t));
        list_in = leb-true _ _ (passes (leb (entries_start s) (length s)) (λ f. simp (f, and-false) at t));
        order = list.0;
        order_is = list.1;
        list_kept = list.2;
        used_in = leb-true _ _ (passes (leb (used s) (room limits s)) (λ f. simp (f, and-false) at t));
        entry_kept = λ i h. entry_says s i (all_below_says (spec.entry_sound s) (used s) entries i h);
        entries_differ = differ_says s (used s) (passes (spec.differ_below s (used s)) (λ f. simp (f, and-false) at t));
        unused_zero = zero_says s unused (passes (spec.all_zero (drop unused s)) (λ f. simp (f, and-false) at t));
      }

  pub sound_from : Sound limits s → spec.sound limits s ≡ true
  unfolding spec.sound spec.heading_sound
  sound_from k = simp (
    le-leb (field_count s) limits.terms.field.0 k.fields_in,
    le-leb (question_count s) limits.questions k.questions_in,
    le-leb (entries_start s) (length s) k.list_in,
    list_from k.order k.order_is k.list_kept,
    le-leb (used s) (room limits s) k.used_in,
    all_below_from (spec.entry_sound s) (used s) (λ i h. entry_from s i (k.entry_kept i h)),
    differ_from s (used s) k.entries_differ,
    zero_from s (entries_start s + 3 * used s) k.unused_zero,
  )

module _ {limits : Limits} {s : List ℕ} (k : Sound limits s) where
  -- "used is at most room"
  pub used_fits : entries_start s + 3 * used s ≤ length s
  used_fits = omega (arith, k.used_in, k.list_in)

  pub used_few : used s ≤ limits.entries
  used_few = omega (arith, k.used_in)
