-- A list of questions is one that opening takes exactly if it ascends and each of its questions is simplified and within the limits. A resulting list is such a
-- list, since simplifying keeps the limits; and a list that opening takes results in itself, since it ascends and its questions simplify to themselves.
use Prim.Native.Nat.{ℕ, zero, suc, ◌+◌, ◌*◌, ◌/◌, ◌<◌}
use mathlib.Core.Path.{◌≡◌, refl, sym, ap, ◌∙◌}
use mathlib.Core.Bool.{Bool, true, false}
use mathlib.Core.List.Memᴰ
use mathlib.Core.List.{List, [], ◌∷◌}
use mathlib.Core.Logic.{◌↔◌}
use native.Mathlib.Omega.{arith}
use borrow.Author.Tests.{le-leb}
use lib.ListN.{length}
use Rattle.std.specs.Prelude.{Ok}
use Rattle.store.specs.Layout.{question_in}
use Rattle.store.specs.Open.{above_last, question_fault, list_fault}
use Rattle.store.proofs.SoundList.{each_accepted, accepted_allows}
use Rattle.store.proofs.Tests.{first_passes, second_passes}
use Rattle.terms.specs.declared.limits.TermLimits.{TermLimits}
use Rattle.terms.specs.declared.order.ListOrder.{ListOrder}
use Rattle.terms.specs.declared.simplification.Guard.TheVariants.{Question}
use Rattle.terms.specs.declared.term.Equation.{Equation}
use Rattle.terms.specs.declared.term.Term.{Term}
use Rattle.terms.specs.Form.{is_simplified}
use Rattle.terms.specs.Order.{Order, before, StrictTotal, order_of}
use Rattle.terms.specs.Simplify.{less_steps, simplify}
use Rattle.terms.specs.Words.{step_weight, allows}
use Rattle.terms.proofs.QuestionOrder.{orders_strict_total}
use Rattle.terms.proofs.SimplifyForm.{question_simplified, simplified_stays, is_simplified_says, is_simplified_exact, simplify_keeps}
use Rattle.terms.proofs.TermKept.{allows_says}
use Rattle.terms.proofs.TermWords.{simplify_wordy, equation_of_words}
use Rattle.raw_lists.specs.IsResulting.{In, Ascends, WrittenIn}
use Rattle.raw_lists.specs.Equations.{equations, words_of}
use Rattle.raw_lists.specs.OpenRaw.{both_allowed, all_allowed, resulting_list}
use Rattle.raw_lists.specs.Resulting.{resulting}
use Rattle.raw_lists.proofs.EquationWords.{words_of_equations}
use Rattle.raw_lists.proofs.ExactMembers.{exact_members}
use Rattle.raw_lists.proofs.ListedWords.{member_at, each_member, ascends_at, ascends_from}
use Rattle.raw_lists.proofs.RawTerms.{all_allowed_says, all_allowed_from}
use Rattle.raw_lists.proofs.OneList.{resulting_ascends, resulting_only}

-- ---- each question
module _ (order : Order) (limits : TermLimits) (words : List ℕ) where
  -- what an accepted question passes, beside the limits
  accepted_form : (k : ℕ) → question_fault order limits words k ≡ Ok tt → is_simplified (question_in words k) ≡ true
  unfolding question_fault
  accepted_form k e = go (is_simplified (question_in words k)) refl
    where
      go : (t : Bool) → is_simplified (question_in words k) ≡ t → is_simplified (question_in words k) ≡ true
      go true i = i
      go false i =
          let r = rw (question_fault, accepted_allows order limits words k e, i) at e in
          absurd (let z : ◌≡◌ {A = ℕ} 0 1 = cc in omega arith)

  accepted_above : (k : ℕ) → question_fault order limits words k ≡ Ok tt → above_last order words k ≡ true
  unfolding question_fault
  accepted_above k e = go (above_last order words k) refl
    where
      go : (t : Bool) → above_last order words k ≡ t → above_last order words k ≡ true
      go true i = i
      go false i =
          let r = rw (question_fault, accepted_allows order limits words k e, accepted_form k e, i) at e in
          absurd (let z : ◌≡◌ {A = ℕ} 0 1 = cc in omega arith)

  question_accepted : (k : ℕ) → both_allowed limits (question_in words k) ≡ true → is_simplified (question_in words k) ≡ true → above_last order words k ≡ true
      → question_fault order limits words k ≡ Ok tt
  unfolding question_fault
  question_accepted k a f o = rw (a, f, o)

  all_accepted : (left k : ℕ) → ((j : ℕ) → j < k + left → question_fault order limits words j ≡ Ok tt) → list_fault order limits words left k ≡ Ok tt
  unfolding list_fault
  all_accepted zero k f = refl
  all_accepted (suc left) k f = rw (f k (omega arith)) (all_accepted left (k + 1) (λ j h. f j (omega arith)))

  -- ---- the list
  -- what opening takes
  list_taken : Ascends order (equations words) → ((q : Equation) → In q (equations words) → (both_allowed limits q ≡ true) × (is_simplified q ≡ true))
      → list_fault order limits words (length words / 2) 0 ≡ Ok tt
  list_taken a each =
      all_accepted (length words / 2) 0 (λ j h.
      let q = each (question_in words j) (member_at words j (omega arith)) in
      question_accepted j q.0 q.1 (above j (omega arith)))
    where
      above : (j : ℕ) → j < length words / 2 → above_last order words j ≡ true
      above zero h = refl
      above (suc j) h = ascends_at order words a j h

  module _ (taken : list_fault order limits words (length words / 2) 0 ≡ Ok tt) where
    at_place : (j : ℕ) → j < length words / 2 → question_fault order limits words j ≡ Ok tt
    at_place j h = each_accepted order limits words (length words / 2) 0 taken j (omega arith) (omega arith)

    taken_allowed : (e : Equation) → In e (equations words) → both_allowed limits e ≡ true
    taken_allowed = each_member (λ e. both_allowed limits e ≡ true) words (λ j h. accepted_allows order limits words j (at_place j h))

    taken_form : (e : Equation) → In e (equations words) → simplify e ≡ Question e
    taken_form = each_member (λ e. simplify e ≡ Question e) words
        (λ j h. simplified_stays (question_in words j) (is_simplified_says (question_in words j) (accepted_form j (at_place j h))))

    taken_ascends : StrictTotal (before order) → Ascends order (equations words)
    taken_ascends total = ascends_from order total words (λ j h. accepted_above (suc j) (at_place (suc j) h))

-- ---- a term with steps taken off
allows_less : (limits : TermLimits) (k : ℕ) (t : Term) → allows limits t ≡ true → allows limits (less_steps k t) ≡ true
unfolding allows
allows_less limits k t a =
    let kept = allows_says limits t a in
    simp (le-leb t.field.0 limits.field.0 kept.field_in, le-leb (less_steps k t).steps.0 limits.steps.0 (omega (arith, kept.steps_in)))

-- ---- a resulting list is one that opening takes
-- the words of questions whose fields fit a word hold these questions
words_hold : (qs : List Equation) → ((q : Equation) → In q qs → (q.left.field.0 < step_weight) × (q.right.field.0 < step_weight)) → equations (words_of qs) ≡ qs
unfolding equations words_of
words_hold [] f = refl
words_hold (q ∷ qs) f = rw (words_hold qs (λ p m. f p (Memᴰ.tail m)), equation_of_words q (f q (Memᴰ.head refl)))

pub words_even : (qs : List Equation) → length (words_of qs) ≡ 2 * length qs
unfolding words_of
words_even [] = refl
words_even (q ∷ qs) = omega (arith, words_even qs)

module _ (order : ListOrder) (raw : List ℕ) where
  abbrev es : List Equation
  es = equations raw

  abbrev qs : List Equation
  qs = resulting (order_of order) es

  -- what a question of the list came of
  origin : (q : Equation) → In q qs → WrittenIn es q
  origin q = (exact_members (order_of order) (orders_strict_total order) es q).0

  wordy : (e : Equation) → In e es → (e.left.field.0 < step_weight) × (e.right.field.0 < step_weight)
  wordy = each_member (λ e. (e.left.field.0 < step_weight) × (e.right.field.0 < step_weight)) raw (λ j h. omega arith)

  pub resulting_words : equations (resulting_list order raw) ≡ qs
  resulting_words = words_hold qs (λ q m.
      let w = origin q m in
      simplify_wordy w.0 q (wordy w.0 w.1).0 (wordy w.0 w.1).1 w.2)

  pub resulting_taken : (limits : TermLimits) → all_allowed limits es ≡ true
      → list_fault (order_of order) limits (resulting_list order raw) (length (resulting_list order raw) / 2) 0 ≡ Ok tt
  resulting_taken limits a =
      list_taken (order_of order) limits (resulting_list order raw) (rw resulting_words (resulting_ascends (order_of order) (orders_strict_total order) es))
      (λ q m.
      let w = origin q (rw resulting_words at m) in
      let e = w.0 in
      let both = all_allowed_says limits es a e w.1 in
      let kept =
      simplify_keeps (λ t. allows limits t ≡ true) (allows_less limits) e q (first_passes (allows limits e.left) (allows limits e.right) both)
      (second_passes (allows limits e.left) (allows limits e.right) both) w.2 in
      (rw (kept.0, kept.1), is_simplified_exact q (question_simplified e q w.2)))

-- ---- a list that opening takes results in itself
module _ (order : ListOrder) (limits : TermLimits) (list : List ℕ) (even : 2 * (length list / 2) ≡ length list)
    (taken : list_fault (order_of order) limits list (length list / 2) 0 ≡ Ok tt) where
  pub list_allowed : all_allowed limits (equations list) ≡ true
  list_allowed = all_allowed_from limits (equations list) (taken_allowed (order_of order) limits list taken)

  itself : (q : Equation) → In q (equations list) ↔ WrittenIn (equations list) q
  itself q = (
    λ m. (q, m, taken_form (order_of order) limits list taken q m),
    λ w.
        let same : w.0 ≡ q = let i = taken_form (order_of order) limits list taken w.0 w.1 in let j = w.2 in cc in
        Memᴰ.cast (sym same) w.1,
  )

  pub list_stays : resulting_list order list ≡ list
  list_stays =
      let total = orders_strict_total order in
      ap words_of (sym (resulting_only (order_of order) total (equations list) (equations list)
      (record { ascends = taken_ascends (order_of order) limits list taken total; members = itself })))
      ∙ words_of_equations (length list / 2) list (sym even)
