-- The value of a walk's subject is right, is not open where the facts force every question of the list, and stays when entries are added: a table's value
-- does not read the store, and older handles keep their trees.
use Prim.Native.Nat.{ℕ, ◌+◌, ◌<◌}
use mathlib.Core.Path.{◌≡◌, refl, ap₂}
use mathlib.Core.Bool.{true}
use mathlib.Core.List.{List}
use Rattle.facts.specs.declared.fact.Fact.{Fact}
use Rattle.facts.specs.Facts.{Fits}
use Rattle.facts.specs.State.{State, free, state_of}
use Rattle.inserting.specs.Given.{Taken}
use Rattle.inserting.specs.SubjectMeaning.{subject_meaning}
use Rattle.store.specs.Grown.{Grown}
use Rattle.store.specs.Layout.{question_count, question, used, leaves}
use Rattle.store.specs.SoundParts.{Sound}
use Rattle.terms.specs.declared.limits.Limits.{Limits}
use Rattle.terms.specs.Meaning.{Valuation}
use Rattle.walking.specs.declared.subject.Subject.{Subject}
use Rattle.walking.specs.declared.subject.Subject.TheVariants.{Table, Choice}
use Rattle.walking.specs.Value.{choose_value, tree_value, handle_value, subject_value}
use Rattle.store.proofs.SoundTree.{falling}
use Rattle.store.proofs.StoreWords.{question_agrees, tree_agrees}
use Rattle.inserting.proofs.ValueKnown.{Known, SettledTo, known_table, known_choice}
use Rattle.inserting.proofs.ValueRight.{IsRight, right_table, right_choice}

module _ {limits : Limits} {s : List ℕ} (snd : Sound limits s) where
  pub value_right : (subject : Subject) → Taken limits s subject → (xs : List Fact) → free (state_of xs) ≡ true → (v : Valuation) → Fits xs v
      → IsRight (subject_value s subject (state_of xs)) (subject_meaning s subject v)
  value_right (Table rows) g xs t v h = right_table xs t v h rows.now
  value_right (Choice a b c) g xs t v h = right_choice xs t v h snd a b c g.0 g.1 g.2

  pub value_known : (subject : Subject) → Taken limits s subject → (xs : List Fact) → free (state_of xs) ≡ true → SettledTo s (question_count s + 1) xs
      → Known (subject_value s subject (state_of xs))
  value_known (Table rows) g xs t all = known_table xs t all limits rows.now g
  value_known (Choice a b c) g xs t all = known_choice xs t all snd a b c g.0 g.1 g.2

  -- entries that were added change no value
  pub value_later : {s' : List ℕ} → Grown limits s s' → (subject : Subject) → Taken limits s subject → (st : State)
      → subject_value s' subject st ≡ subject_value s subject st
  value_later l (Table rows) g st = refl
  value_later {s'} l (Choice a b c) g st =
      let ask : question s' ≡ question s = λ i k. question_agrees l.agree k i in
      let old : (h : ℕ) → h < used s + leaves → handle_value s' h st ≡ handle_value s h st =
      λ h m. ap₂ (λ f u. tree_value f u st) ask (tree_agrees l.agree (falling snd) h m) in
      λ i. choose_value (old a g.0 i) (old b g.1 i) (old c g.2 i)
