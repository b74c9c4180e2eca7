-- Adding the finished diagram of a meaning that rests on the list leaves a later store in which that diagram stands at the handle answered: inserting
-- keeps the store sound and every older handle's diagram. A diagram that stands already is found again; in a full store no word is changed.
use Prim.Native.Nat.{ℕ}
use mathlib.Core.Path.{◌≡◌, refl, sym, ap, ◌∙◌, subst}
use mathlib.Core.Bool.{Bool}
use mathlib.Core.List.{List}
use Rattle.std.proofs.Common.{Option, Some, None}
use Rattle.diagram.specs.Insert.{insert}
use Rattle.diagram.specs.Inserted.{Inserted}
use Rattle.diagram.specs.Questions.{finished_in}
use Rattle.operations.specs.declared.answer.BuildFault.{BuildFault}
use Rattle.operations.specs.declared.answer.BuildFault.TheVariants.{NoRoom}
use Rattle.operations.specs.Built.{Built}
use Rattle.std.specs.Prelude.{Ok, Err}
use Rattle.operations.specs.Later.{Later}
use Rattle.operations.specs.Operations.{refused, unless_full, added, add_meaning}
use Rattle.operations.specs.Rests.{Rests}
use Rattle.operations.specs.Stands.{Stands}
use Rattle.store.specs.Meaning.{meaning}
use Rattle.store.specs.Outcome.{Outcome, outcome}
use Rattle.store.specs.SoundParts.{Sound}
use Rattle.store.specs.Tree.{Tree, tree}
use Rattle.terms.specs.declared.limits.Limits.{Limits}
use Rattle.terms.specs.Meaning.{Valuation}
use Rattle.diagram.proofs.InsertAgain.{insert_again}
use Rattle.diagram.proofs.InsertTree.{insert_tree}
use Rattle.operations.proofs.BuiltCases.{not_both}
use Rattle.store.proofs.StoreWords.{orders_agree}
use Rattle.operations.proofs.FinishedInStore.{finished_ascending, finished_reduced, finished_alike}
use Rattle.operations.proofs.NumberedQuestions.{questions_alike}
use Rattle.operations.proofs.StandingDiagrams.{later_same, stands_alike, rests_later, finished_later, stands_means}

pub added_cases : (limits : Limits) (s : List ℕ) (t : Tree) (P : Outcome Built → Type 0)
    → ((h : ℕ) → (insert limits s t).answer ≡ Some h → P (outcome (Ok h) (insert limits s t).words)) → P (refused s NoRoom) → P (added limits s t)
unfolding added
added_cases limits s t P at full = go (insert limits s t).answer refl
  where
    go : (a : Option ℕ) → (insert limits s t).answer ≡ a → P (added limits s t)
    go (Some h) d = rw (added, d) (at h d)
    go None d = rw (added, d) full

inserted_later : {limits : Limits} {s : List ℕ} {t : Tree} {h : ℕ} {s' : List ℕ} → Inserted limits s t h s' → Later limits s s'
inserted_later i = record {
  sound = i.sound;
  grows = i.grows;
  older_tree = i.older_tree;
  older_meaning = i.older_meaning;
  same_fields = i.fields_kept;
  same_order = orders_agree i.agree;
  same_questions = questions_alike i.agree;
  length_kept = i.length_kept;
}

-- what a call for a meaning does: the store is a later one, and at the handle, if there is one, stands the finished diagram
pub record Answered (limits : Limits) (s : List ℕ) (means : Valuation → Bool) (o : Outcome Built) : Type 0 where
  pub later : Later limits s o.words
  pub stands : (h : ℕ) → o.answer ≡ Ok h → Stands o.words h means

-- The meaning may be said in other words.
pub answered_alike : {limits : Limits} {s : List ℕ} {means others : Valuation → Bool} {o : Outcome Built} → ((v : Valuation) → means v ≡ others v)
    → Answered limits s means o → Answered limits s others o
answered_alike e a = record { later = a.later; stands = λ h d. stands_alike e (a.stands h d) }

module _ {limits : Limits} {s : List ℕ} (snd : Sound limits s) {means : Valuation → Bool} where
  pub refused_answered : (f : BuildFault) → Answered limits s means (refused s f)
  refused_answered f = record { later = later_same snd; stands = λ h d. absurd (not_both d refl) }

  pub meaning_added : Rests s means → Answered limits s means (add_meaning limits s means)
  meaning_added r = added_cases limits s (finished_in s means) (Answered limits s means)
      (λ h e.
      let i = insert_tree (finished_in s means) snd (finished_ascending s means) (finished_reduced s means) h e in
      let l = inserted_later i in
      record {
        later = l;
        stands = λ g d.
            let z : h ≡ g = cc in
            subst (λ x. Stands (insert limits s (finished_in s means)).words x means) z record {
              handle_in = i.handle_in;
              rests = rests_later l r;
              diagram = i.stands ∙ finished_later l means;
            };
      })
      (refused_answered NoRoom)

  -- A diagram that stands is found again, and nothing is added.
  pub rebuild_same : {h : ℕ} {others : Valuation → Bool} → Stands s h others → ((v : Valuation) → means v ≡ meaning s h v)
      → add_meaning limits s means ≡ outcome (Ok h) s
  unfolding added
  rebuild_same {h} {others} k e =
      let d : tree s h ≡ finished_in s means = k.diagram ∙ sym (finished_alike s means others (λ v. e v ∙ stands_means snd k v)) in
      ap (unless_full s) (insert_again snd (finished_in s means) h k.handle_in d)

-- "51, used plus new entries exceeds room": every word is as it came
pub added_unchanged : (limits : Limits) (s : List ℕ) (means : Valuation → Bool) (f : BuildFault) → (add_meaning limits s means).answer ≡ Err f
    → (add_meaning limits s means).words ≡ s
added_unchanged limits s means f = added_cases limits s (finished_in s means) (λ o. o.answer ≡ Err f → o.words ≡ s)
    (λ h _ e. absurd (not_both refl e)) (λ _. refl)
