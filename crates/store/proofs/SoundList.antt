-- The questions of a sound store keep the limits of its terms: a list is accepted only if each of its questions is, and a question only if
-- both of its terms are within the limits.
use Prim.Native.Nat.{ℕ, zero, suc, ◌+◌, ◌-◌, ◌≤◌, ◌<◌}
use mathlib.Core.Path.{◌≡◌, refl, ap, ◌∙◌}
use mathlib.Core.Bool.{true, cond, ◌&&◌}
use mathlib.Core.List.{List}
use native.Mathlib.Omega.{arith}
use native.Mathlib.Decide.{ℕ_discrete}
use Rattle.terms.specs.declared.term.Equation.{Equation}
use Rattle.terms.specs.declared.limits.TermLimits.{TermLimits}
use Rattle.terms.specs.Words.{allows}
use Rattle.terms.specs.Form.{is_simplified}
use Rattle.terms.specs.Order.{Order, order_of}
use Rattle.terms.proofs.Cases.{by_test}
use Rattle.terms.proofs.TermKept.{TermKept, allows_says}
use Rattle.terms.specs.declared.limits.Limits.{Limits}
use Rattle.std.specs.Prelude.{Ok, Err}
use Rattle.store.specs.declared.answer.OpenFault.TheVariants.{OutOfLimits, NotSimplified, NotAbove}
use Rattle.store.specs.Layout.{field_count, question_count, list_words, question_in, question}
use Rattle.terms.specs.Limits.{terms_within}
use Rattle.store.specs.Opened.{Opened}
use Rattle.store.specs.Open.{above_last, question_fault, list_fault}
use Rattle.store.proofs.OpenAccepts.{both}
use Rattle.store.specs.SoundParts.{Sound}
use Rattle.store.proofs.Tests.{first_passes, second_passes}

module _ (order : Order) (limits : TermLimits) (words : List ℕ) where
  pub each_accepted : (left k : ℕ) → list_fault order limits words left k ≡ Ok tt → (j : ℕ) → k ≤ j → j < k + left → question_fault order limits words j ≡ Ok tt
  unfolding list_fault
  each_accepted zero k e j l h = absurd (omega arith)
  each_accepted (suc left) k e j l h =
      let parts = both (question_fault order limits words k) (list_fault order limits words left (k + 1)) e in
      elim (ℕ_discrete j k) [
        | yes d ↦ ap (question_fault order limits words) d ∙ parts.0
        | no n ↦ each_accepted left (k + 1) parts.1 j (omega arith) (omega arith)
      ]

  -- what is accepted passes the first test
  pub accepted_allows : (k : ℕ) → question_fault order limits words k ≡ Ok tt
      → (allows limits (question_in words k).left && allows limits (question_in words k).right) ≡ true
  unfolding question_fault
  accepted_allows k =
      let q = question_in words k in
      by_test (λ t. cond t (cond (is_simplified q) (cond (above_last order words k) (Ok tt) (Err NotAbove)) (Err NotSimplified)) (Err OutOfLimits) ≡ Ok tt → t ≡ true)
      (allows limits q.left && allows limits q.right) (λ _ _. refl) (λ _ (e : ◌≡◌ {A = Opened} (Err OutOfLimits) (Ok tt)). absurd (let z : ◌≡◌ {A = ℕ} 0 1 = cc in omega arith))

pub record QuestionKept (limits : TermLimits) (q : Equation) : Type 0 where
  pub left : TermKept limits q.left
  pub right : TermKept limits q.right

module _ {limits : Limits} {s : List ℕ} (snd : Sound limits s) where
  pub sound_question : (k : ℕ) → 1 ≤ k → k ≤ question_count s → QuestionKept (terms_within limits (field_count s)) (question s k)
  sound_question k h l =
      let within = terms_within limits (field_count s) in
      let q = question s k in
      let passed = each_accepted (order_of snd.order) within (list_words s) (question_count s) 0 snd.list_kept (k - 1) (omega arith) (omega arith) in
      let allowed = accepted_allows (order_of snd.order) within (list_words s) (k - 1) passed in
      record {
        left = allows_says within q.left (first_passes (allows within q.left) (allows within q.right) allowed);
        right = allows_says within q.right (second_passes (allows within q.left) (allows within q.right) allowed);
      }
