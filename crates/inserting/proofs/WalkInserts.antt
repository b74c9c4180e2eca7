-- The walk adds the finished diagram of its subject: a known value is right, so the finished diagram is that leaf; questions are skipped and asked alike on
-- both sides; after the last question no value is open; and entries that were added before change no value.
use Prim.Native.Nat.{ℕ, zero, suc, ◌+◌}
use mathlib.Core.Path.{◌≡◌, refl, sym, ap, ◌∙◌, subst}
use mathlib.Core.Bool.{Bool, true, false}
use mathlib.Core.List.{List, [], ◌∷◌}
use native.Mathlib.Omega.{arith}
use native.Mathlib.Decide.{ℕ_discrete}
use Rattle.std.proofs.Common.{Option}
use Rattle.diagram.specs.Finish.{finish}
use Rattle.diagram.specs.Insert.{then_place, insert}
use Rattle.diagram.specs.Questions.{questions_from, finished_in}
use Rattle.facts.specs.declared.decision.Decision.{Decision}
use Rattle.facts.specs.declared.decision.Decision.TheVariants.{Always, Never, Open}
use Rattle.facts.specs.declared.fact.Fact.{Fact}
use Rattle.facts.specs.Facts.{fact, Fits, Forces}
use Rattle.facts.specs.State.{State, free, no_to, yes_to, start, state_of, decide}
use Rattle.terms.specs.declared.limits.Limits.{Limits}
use Rattle.store.specs.Layout.{question_count, question, entry_of}
use Rattle.store.specs.Outcome.{Outcome}
use Rattle.terms.specs.declared.term.Equation.{Equation}
use Rattle.terms.specs.Meaning.{Valuation}
use Rattle.walking.specs.declared.subject.Subject.{Subject}
use Rattle.walking.specs.Value.{subject_value}
use Rattle.walking.specs.Walk.{place_parts, walk}
use Rattle.inserting.specs.Given.{Given}
use Rattle.inserting.specs.SubjectMeaning.{subject_meaning}
use Rattle.store.specs.Grown.{Grown}
use Rattle.diagram.proofs.FinishTree.{finish_ascending, finish_reduced}
use Rattle.diagram.proofs.FinishTruth.{forces, yes_free, no_free}
use Rattle.diagram.proofs.InsertTree.{insert_puts}
use Rattle.diagram.proofs.QuestionList.{questions_length}
use Rattle.store.specs.SoundParts.{Sound}
use Rattle.store.proofs.StoreGrown.{grown_same, grown_on}
use Rattle.store.proofs.StoreWords.{questions_agree, question_agrees}
use Rattle.inserting.proofs.PartsInserted.{then_same, PartAfter, parts_inserted}
use Rattle.inserting.proofs.SubjectValue.{value_right, value_known, value_later}
use Rattle.inserting.proofs.ValueKnown.{Known, Settled, SettledTo}
use Rattle.inserting.proofs.ValueRight.{IsRight}
use Rattle.inserting.proofs.WalkSteps.{walk_always, walk_never, walk_skips, walk_asks, finish_skips, finish_asks, leaf_inserted}

-- ---- the questions that the facts settle
settled_by : (xs : List Fact) (q : Equation) (d : Decision) → Forces xs q d → Known d → Settled xs q
settled_by xs q Always f known = λ v w h g. f v h ∙ sym (f w g)
settled_by xs q Never f known = λ v w h g. f v h ∙ sym (f w g)
settled_by xs q Open f known = absurd known

settled_next : (s : List ℕ) (k : ℕ) (xs ys : List Fact) → ((v : Valuation) → Fits ys v → Fits xs v) → SettledTo s k xs → Settled ys (question s k)
    → SettledTo s (k + 1) ys
settled_next s k xs ys within old new = record {
  settled = λ j h l. elim (ℕ_discrete j k) [
    | yes d ↦ subst (λ i. Settled ys (question s i)) (sym d) new
    | no n ↦ λ v w f g. old.settled j h (omega arith) v w (within v f) (within w g)
  ];
}

settled_asked : (s : List ℕ) (k : ℕ) (xs : List Fact) (b : Bool) → SettledTo s k xs → SettledTo s (k + 1) (fact (question s k) b ∷ xs)
settled_asked s k xs b old = settled_next s k xs (fact (question s k) b ∷ xs) (λ v f. f.1) old (λ v w f g. f.0 ∙ sym g.0)

-- ---- the walk
-- a walk is at the question with the number k: the facts settle those before it
record Going (s : List ℕ) (left k : ℕ) (xs : List Fact) : Type 0 where
  some_fit : free (state_of xs) ≡ true
  to_last : k + left ≡ question_count s + 1
  before : SettledTo s k xs

module _ {limits : Limits} {s : List ℕ} {subject : Subject} (snd : Sound limits s) (given : Given limits s subject) where
  -- the walk adds what is finished from the question with the number k on
  abbrev Adds : ℕ → ℕ → List Fact → List ℕ → Type 0
  Adds left k xs s' =
      walk limits s' subject left k (state_of xs) ≡ insert limits s' (finish (questions_from s left k) k (state_of xs) (subject_meaning s subject))

  -- the value on the store as it is now
  now : {s' : List ℕ} → Grown limits s s' → (xs : List Fact) (d : Decision) → subject_value s subject (state_of xs) ≡ d
      → subject_value s' subject (state_of xs) ≡ d
  now l xs d e = value_later snd l subject given.taken (state_of xs) ∙ e

  right : (xs : List Fact) → free (state_of xs) ≡ true → (d : Decision) → subject_value s subject (state_of xs) ≡ d → (v : Valuation) → Fits xs v
      → IsRight d (subject_meaning s subject v)
  right xs t d e v h = subst (λ d. IsRight d (subject_meaning s subject v)) e (value_right snd subject given.taken xs t v h)

  module _ (left k : ℕ) (xs : List Fact) (t : free (state_of xs) ≡ true) (s' : List ℕ) (l : Grown limits s s') where
    at_always : subject_value s subject (state_of xs) ≡ Always → Adds left k xs s'
    at_always e = walk_always limits s' subject left k (state_of xs) (now l xs Always e)
        ∙ sym (leaf_inserted limits (questions_from s left k) k xs (subject_meaning s subject) true t (right xs t Always e) s')

    at_never : subject_value s subject (state_of xs) ≡ Never → Adds left k xs s'
    at_never e = walk_never limits s' subject left k (state_of xs) (now l xs Never e)
        ∙ sym (leaf_inserted limits (questions_from s left k) k xs (subject_meaning s subject) false t (right xs t Never e) s')

  -- the next question, where the walk is right from the one after it
  module _ (left k : ℕ) (later : (xs : List Fact) → Going s left (k + 1) xs → (s' : List ℕ) → Grown limits s s' → Adds left (k + 1) xs s')
      (xs : List Fact) (g : Going s (suc left) k xs) (s' : List ℕ) (l : Grown limits s s') (e : subject_value s subject (state_of xs) ≡ Open) where
    here : (d : Decision) → decide (state_of xs) (question s k) ≡ d → decide (state_of xs) (question s' k) ≡ d
    here d f = ap (decide (state_of xs)) (question_agrees l.agree k) ∙ f

    skipped : (d : Decision) → decide (state_of xs) (question s k) ≡ d → Known d → Adds (suc left) k xs s'
    unfolding questions_from
    skipped d f known =
        let q = question s k in
        let going : Going s left (k + 1) xs = record {
          some_fit = g.some_fit;
          to_last = omega (arith, g.to_last);
          before = settled_next s k xs xs (λ v h. h) g.before (settled_by xs q d (forces xs q g.some_fit d f) known);
        } in
        walk_skips limits s' subject left k (state_of xs) (now l xs Open e) d (here d f) known
        ∙ later xs going s' l
        ∙ ap (insert limits s') (sym (finish_skips q (questions_from s left (k + 1)) k (state_of xs) (subject_meaning s subject) d f known))

    part_after : (st : State) → PartAfter s' k (finish (questions_from s left (k + 1)) (k + 1) st (subject_meaning s subject))
    part_after st = record {
      ascending = finish_ascending (questions_from s left (k + 1)) (k + 1) (question_count s') st (subject_meaning s subject)
          (omega (arith, questions_length s left (k + 1), g.to_last, questions_agree l.agree));
      reduced = finish_reduced (questions_from s left (k + 1)) (k + 1) st (subject_meaning s subject);
    }

    asked : decide (state_of xs) (question s k) ≡ Open → Adds (suc left) k xs s'
    unfolding questions_from
    asked f =
        let q = question s k in
        let st = state_of xs in
        let means = subject_meaning s subject in
        let qs = questions_from s left (k + 1) in
        let y = finish qs (k + 1) (yes_to st q) means in
        let n = finish qs (k + 1) (no_to st q) means in
        let walks : List ℕ → State → Outcome (Option ℕ) = λ w. walk limits w subject left (k + 1) in
        let no_walked : Equation → ℕ → List ℕ → Outcome (Option ℕ) = λ p h s₁. then_place (walks s₁ (no_to st p)) (λ hn s₂. place_parts limits s₂ (entry_of k h hn)) in
        let no_placed : ℕ → List ℕ → Outcome (Option ℕ) = λ h s₁. then_place (insert limits s₁ n) (λ hn s₂. place_parts limits s₂ (entry_of k h hn)) in
        let going_yes : Going s left (k + 1) (fact q true ∷ xs) = record {
          some_fit = yes_free xs q g.some_fit f;
          to_last = omega (arith, g.to_last);
          before = settled_asked s k xs true g.before;
        } in
        let going_no : Going s left (k + 1) (fact q false ∷ xs) = record {
          some_fit = no_free xs q g.some_fit f;
          to_last = omega (arith, g.to_last);
          before = settled_asked s k xs false g.before;
        } in
        let fy = part_after (yes_to st q) in
        let fn = part_after (no_to st q) in
        let puts = insert_puts y l.sound (k + 1) (question_count s') fy.ascending fy.reduced (omega arith) (omega arith) in
        let s₁ = (insert limits s' y).words in
        walk_asks limits s' subject left k st (now l xs Open e) (here Open f)
        ∙ ap (λ p. then_place (walks s' (yes_to st p)) (no_walked p)) (question_agrees l.agree k)
        ∙ ap (λ o. then_place o (no_walked q)) (later (fact q true ∷ xs) going_yes s' l)
        ∙ then_same (insert limits s' y) (no_walked q) no_placed
        (λ h _. ap (λ o. then_place o (λ hn s₂. place_parts limits s₂ (entry_of k h hn))) (later (fact q false ∷ xs) going_no s₁ (grown_on l puts.grown)))
        ∙ parts_inserted l.sound k y n fy fn
        ∙ ap (insert limits s') (sym (finish_asks q qs k st means f))

    at_question : (d : Decision) → decide (state_of xs) (question s k) ≡ d → Adds (suc left) k xs s'
    at_question Always f = skipped Always f tt
    at_question Never f = skipped Never f tt
    at_question Open f = asked f

  at_end : (k : ℕ) (xs : List Fact) → Going s zero k xs → subject_value s subject (state_of xs) ≡ Open → ⊥
  at_end k xs g e =
      let all : SettledTo s (question_count s + 1) xs = subst (λ j. SettledTo s j xs) (omega (arith, g.to_last)) g.before in
      subst Known e (value_known snd subject given.taken xs g.some_fit all)

  -- by the value of the subject
  by_value : (left k : ℕ) (xs : List Fact) → Going s left k xs → (s' : List ℕ) → Grown limits s s'
      → (subject_value s subject (state_of xs) ≡ Open → Adds left k xs s') → Adds left k xs s'
  by_value left k xs g s' l unknown = go (subject_value s subject (state_of xs)) refl
    where
      go : (d : Decision) → subject_value s subject (state_of xs) ≡ d → Adds left k xs s'
      go Always e = at_always left k xs g.some_fit s' l e
      go Never e = at_never left k xs g.some_fit s' l e
      go Open e = unknown e

  walk_from : (left k : ℕ) (xs : List Fact) → Going s left k xs → (s' : List ℕ) → Grown limits s s' → Adds left k xs s'
  walk_from zero k xs g s' l = by_value zero k xs g s' l (λ e. absurd (at_end k xs g e))
  walk_from (suc left) k xs g s' l = by_value (suc left) k xs g s' l
      (λ e. at_question left k (walk_from left (k + 1)) xs g s' l e (decide (state_of xs) (question s k)) refl)

-- "start with no facts": the walk over all questions adds the finished diagram of what its subject means
pub walk_inserts : {limits : Limits} {s : List ℕ} {subject : Subject} → Sound limits s → Given limits s subject
    → walk limits s subject (question_count s) 1 start ≡ insert limits s (finished_in s (subject_meaning s subject))
walk_inserts {limits} {s} {subject} snd given =
    let none : SettledTo s 1 [] = record { settled = λ j h l. absurd (omega arith) } in
    walk_from snd given (question_count s) 1 [] record { some_fit = refl; to_last = omega arith; before = none } s (grown_same snd)
