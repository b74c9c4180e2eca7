-- One call on two sound stores with the same entries. Its rule is the same in both, since handles mean the same there, and so is its finished diagram: accepted by
-- both it has one handle, and refused by both it leaves the words.
use Prim.Native.Nat.{ℕ, ◌+◌}
use mathlib.Core.Path.{◌≡◌, refl, sym, ap, ap₂, ◌∙◌, subst}
use mathlib.Core.Bool.{Bool, true, false, true≢false, cond, not, ◌&&◌}
use mathlib.Core.List.{List, []}
use mathlib.Core.Option.{Option, none, some}
use native.Mathlib.Omega.{arith}
use borrow.Author.Tests.{ltb-true}
use Rattle.diagram.specs.Finish.{finished}
use Rattle.diagram.specs.Insert.{insert}
use Rattle.diagram.specs.Questions.{finished_in}
use Rattle.logger.specs.AnswersTo.{was_accepted}
use Rattle.operations.specs.declared.answer.BuildFault.{BuildFault}
use Rattle.operations.specs.declared.answer.BuildFault.TheVariants.{NotSound, NoHandle, BadTable, NoRoom}
use Rattle.operations.specs.Built.{Built, build_fault_number, built_number, built_result}
use Rattle.std.specs.Prelude.{Ok, Err}
use Rattle.operations.specs.Handles.{Call, build, negate, join, choose, answer_to, rule_of, rule_of_call}
use Rattle.operations.specs.Operations.{refused, added, add_meaning}
use Rattle.store.specs.Layout.{used, leaves, is_handle}
use Rattle.store.specs.Meaning.{meaning}
use Rattle.store.specs.Outcome.{Outcome, outcome}
use Rattle.store.specs.SoundParts.{Sound}
use Rattle.store.specs.Tree.{Tree}
use Rattle.tables.specs.declared.answer.TableFault.TheVariants as table
use Rattle.terms.specs.declared.limits.Limits.{Limits}
use Rattle.terms.specs.Meaning.{Valuation}
use Rattle.operations.proofs.FinishedInStore.{finished_alike}
use Rattle.operations.proofs.MeaningAdded.{added_cases}
use Rattle.operations.proofs.NumberedQuestions.{questions_alike}
use Rattle.store.proofs.SoundTree.{falling}
use Rattle.store.proofs.StoreWords.{meaning_agrees}
use Rattle.store.proofs.Tests.{first_passes, second_passes}
use Rattle.logger.proofs.CallOnSound.{of_handles, call_fault, unless_fault, call_on_sound}
use Rattle.logger.proofs.InsertSame.{insert_same}
use Rattle.logger.proofs.SameEntries.{SameEntries}

-- ---- accepted or not, by the number
handle_accepted : (h : ℕ) → was_accepted (Ok h) ≡ true
unfolding was_accepted
handle_accepted h = refl

refusal_not : (f : BuildFault) → was_accepted (Err f) ≡ false
unfolding was_accepted
refusal_not NotSound = refl
refusal_not NoHandle = refl
refusal_not (BadTable table.NoWords) = refl
refusal_not (BadTable table.NotRows) = refl
refusal_not (BadTable table.TooManyRows) = refl
refusal_not (BadTable table.BadRow) = refl
refusal_not (BadTable table.OutOfLimits) = refl
refusal_not (BadTable table.NotListed) = refl
refusal_not NoRoom = refl

one_alone : (h : ℕ) (f : BuildFault) → was_accepted (Ok h) ≡ was_accepted (Err f) → ⊥
one_alone h f e = true≢false (sym (handle_accepted h) ∙ e ∙ refusal_not f)

-- ---- what is claimed of two outcomes
-- where both are accepted or both refused, this of the answers is the same, and so are the entries
pub record AnsweredSame {A : Type 0} (of : Built → A) (o o' : Outcome Built) : Type 0 where
  pub same : was_accepted o.answer ≡ was_accepted o'.answer → (of o.answer ≡ of o'.answer) × SameEntries o.words o'.words

module _ {A : Type 0} (of : Built → A) {s s' : List ℕ} where
  accepted_same : (g h : ℕ) → g ≡ h → SameEntries s s' → AnsweredSame of (outcome (Ok g) s) (outcome (Ok h) s')
  accepted_same g h d same = record { same = λ _. (ap (λ x. of (Ok x)) d, same) }

  refused_same : (f g : BuildFault) → of (Err f) ≡ of (Err g) → SameEntries s s' → AnsweredSame of (refused s f) (refused s' g)
  refused_same f g d same = record { same = λ _. (d, same) }

  first_alone : (h : ℕ) (f : BuildFault) → AnsweredSame of (outcome (Ok h) s) (refused s' f)
  first_alone h f = record { same = λ e. absurd (one_alone h f e) }

  second_alone : (h : ℕ) (f : BuildFault) → AnsweredSame of (refused s f) (outcome (Ok h) s')
  second_alone h f = record { same = λ e. absurd (one_alone h f (sym e)) }

-- ---- the diagram is added
module _ {A : Type 0} (of : Built → A) (limits limits' : Limits) {s s' : List ℕ} (same : SameEntries s s') where
  added_same : (t : Tree) → AnsweredSame of (added limits s t) (added limits' s' t)
  added_same t = added_cases limits s t (λ o. AnsweredSame of o (added limits' s' t))
      (λ h e. added_cases limits' s' t (AnsweredSame of (outcome (Ok h) (insert limits s t).words))
      (λ h' e'. let both = (insert_same limits limits' t same).same h h' e e' in accepted_same of h h' both.0 both.1)
      (first_alone of h NoRoom))
      (added_cases limits' s' t (AnsweredSame of (refused s NoRoom)) (λ h' _. second_alone of h' NoRoom) (refused_same of NoRoom NoRoom refl same))

  added_refused : (t : Tree) (f : BuildFault) → of (Err NoRoom) ≡ of (Err f) → AnsweredSame of (added limits s t) (refused s' f)
  added_refused t f d = added_cases limits s t (λ o. AnsweredSame of o (refused s' f)) (λ h _. first_alone of h f) (refused_same of NoRoom f d same)

  refused_added : (t : Tree) (f : BuildFault) → of (Err f) ≡ of (Err NoRoom) → AnsweredSame of (refused s f) (added limits' s' t)
  refused_added t f d = added_cases limits' s' t (AnsweredSame of (refused s f)) (λ h _. second_alone of h f) (refused_same of f NoRoom d same)

-- ---- the rule
given_all : (given : Bool) → of_handles given ≡ none → given ≡ true
given_all true e = refl
given_all false e = absurd (let z : ◌≡◌ {A = ℕ} 0 1 = cc in omega arith)

module _ {limits limits' : Limits} {s s' : List ℕ} (snd : Sound limits s) (snd' : Sound limits' s') (same : SameEntries s s') where
  handle_same : (a : ℕ) → is_handle s a ≡ true → (v : Valuation) → meaning s a v ≡ meaning s' a v
  handle_same a t v = sym (meaning_agrees same.agree (falling snd) a (ltb-true a (used s + leaves) t) v)

  rule_same : (c : Call) → call_fault limits s c ≡ none → (v : Valuation) → rule_of_call [] s c v ≡ rule_of_call [] s' c v
  unfolding rule_of
  rule_same (build table) e v = refl
  rule_same (negate a) e v = ap not (handle_same a (given_all (is_handle s a) e) v)
  rule_same (join a b) e v =
      let both = given_all (is_handle s a && is_handle s b) e in
      ap₂ ◌&&◌ (handle_same a (first_passes (is_handle s a) (is_handle s b) both) v) (handle_same b (second_passes (is_handle s a) (is_handle s b) both) v)
  rule_same (choose a b c) e v =
      let all = given_all (is_handle s a && is_handle s b && is_handle s c) e in
      let two = first_passes (is_handle s a && is_handle s b) (is_handle s c) all in
      let pa = handle_same a (first_passes (is_handle s a) (is_handle s b) two) v in
      let pb = handle_same b (second_passes (is_handle s a) (is_handle s b) two) v in
      let pc = handle_same c (second_passes (is_handle s a && is_handle s b) (is_handle s c) all) v in
      λ i. cond (pa i) (pb i) (pc i)

  tree_same : (c : Call) → call_fault limits s c ≡ none → finished_in s (rule_of_call [] s c) ≡ finished_in s' (rule_of_call [] s' c)
  tree_same c e =
      finished_alike s (rule_of_call [] s c) (rule_of_call [] s' c) (rule_same c e)
      ∙ ap (λ qs. finished qs (rule_of_call [] s' c)) (sym (questions_alike same.agree))

  -- ---- the call
  -- a claim about refusals of whatever kind, or about those of one fault
  module _ {A : Type 0} (of : Built → A) (c : Call)
      (refusals : (f f' : BuildFault) → call_fault limits s c ≡ some f → call_fault limits' s' c ≡ some f' → of (Err f) ≡ of (Err f'))
      (full_first : (f : BuildFault) → call_fault limits s c ≡ none → call_fault limits' s' c ≡ some f → of (Err NoRoom) ≡ of (Err f))
      (full_second : (f : BuildFault) → call_fault limits s c ≡ some f → call_fault limits' s' c ≡ none → of (Err f) ≡ of (Err NoRoom)) where
    by_faults : (x x' : Option BuildFault) → call_fault limits s c ≡ x → call_fault limits' s' c ≡ x'
        → AnsweredSame of (unless_fault s x (add_meaning limits s (rule_of_call [] s c))) (unless_fault s' x' (add_meaning limits' s' (rule_of_call [] s' c)))
    by_faults none none e e' =
        subst (λ t. AnsweredSame of (added limits s (finished_in s (rule_of_call [] s c))) (added limits' s' t)) (tree_same c e)
        (added_same of limits limits' same (finished_in s (rule_of_call [] s c)))
    by_faults none (some f) e e' = added_refused of limits limits' same (finished_in s (rule_of_call [] s c)) f (full_first f e e')
    by_faults (some f) none e e' = refused_added of limits limits' same (finished_in s' (rule_of_call [] s' c)) f (full_second f e e')
    by_faults (some f) (some f') e e' = refused_same of f f' (refusals f f' e e') same

    call_same : AnsweredSame of (answer_to limits s c) (answer_to limits' s' c)
    call_same = rw (call_on_sound snd c, call_on_sound snd' c) (by_faults (call_fault limits s c) (call_fault limits' s' c) refl refl)

  -- the results
  pub result_same : (c : Call) → AnsweredSame built_result (answer_to limits s c) (answer_to limits' s' c)
  result_same c = call_same built_result c (λ f f' _ _. refl) (λ f _ _. refl) (λ f _ _. refl)

  -- the numbers, where the call's own test says the same of both
  pub number_same : (c : Call) → call_fault limits s c ≡ call_fault limits' s' c → AnsweredSame built_number (answer_to limits s c) (answer_to limits' s' c)
  number_same c d = call_same built_number c
      (λ f f' e e'. let z : f ≡ f' = cc in ap build_fault_number z)
      (λ f e e'. absurd (let z : ◌≡◌ {A = ℕ} 0 1 = cc in omega arith))
      (λ f e e'. absurd (let z : ◌≡◌ {A = ℕ} 0 1 = cc in omega arith))
