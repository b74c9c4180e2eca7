-- The answers of a run are not refusals by default: the store of a run stays sound, and of a sound store no call says otherwise; and 51 is answered
-- exactly if the new entries exceed the room, since inserting the finished diagram grows used by their number.
use Prim.Native.Nat.{ℕ, ◌+◌, ◌≤◌, ◌<◌}
use mathlib.Core.Path.{◌≡◌, refl, sym, ap, ◌∙◌}
use mathlib.Core.Logic.{◌≢◌, ◌↔◌}
use mathlib.Core.Bool.{Bool, true≢false}
use mathlib.Core.List.{List}
use native.Mathlib.Omega.{arith}
use native.Mathlib.Decide.{dec_lt}
use lib.ListN.{length}
use Rattle.diagram.specs.Insert.{insert, new_count}
use Rattle.diagram.specs.Inserted.{GrowsBy}
use Rattle.diagram.specs.Questions.{finished_in}
use Rattle.operations.specs.declared.answer.BuildFault.TheVariants.{NotSound, NoRoom}
use Rattle.std.specs.Prelude.{Ok, Err}
use Rattle.operations.specs.Handles.{Call, answer_to, opened_books, run}
use Rattle.operations.specs.Operations as operation
use Rattle.operations.specs.Operations.{refused, added, add_meaning}
use Rattle.store.specs.Layout.{used, room}
use Rattle.store.specs.Open.{opening}
use Rattle.store.specs.SoundParts.{Sound}
use Rattle.store.specs.Tree.{Tree}
use Rattle.tables.specs.Rows.{rule_meaning}
use Rattle.terms.specs.declared.limits.Limits.{Limits}
use Rattle.terms.specs.Meaning.{Valuation}
use Rattle.diagram.proofs.InsertCount.{insert_count}
use Rattle.store.proofs.SoundFacts.{sound_from}
use Rattle.operations.proofs.BuiltCases.{not_both}
use Rattle.operations.proofs.CallCases.{build_cases, call_cases}
use Rattle.operations.proofs.FinishedInStore.{finished_ascending, finished_reduced}
use Rattle.operations.proofs.HandleLaw.{run_kept}
use Rattle.operations.proofs.MeaningAdded.{added_cases}

-- ---- 22
added_not_refused : (limits : Limits) (s : List ℕ) (t : Tree) → (added limits s t).answer ≢ Err NotSound
added_not_refused limits s t = added_cases limits s t (λ o. o.answer ≢ Err NotSound) (λ h _ e. not_both refl e)
    (λ e. let z : ◌≡◌ {A = ℕ} 0 1 = cc in omega arith)

-- Of a sound store no call answers that it isn't.
pub sound_not_refused : {limits : Limits} {s : List ℕ} → Sound limits s → (c : Call) → (answer_to limits s c).answer ≢ Err NotSound
sound_not_refused {limits} {s} snd c = call_cases limits s (λ o. o.answer ≢ Err NotSound)
    (λ f only e. true≢false (sym (sound_from limits s snd) ∙ only (cc))) c (λ _ _. added_not_refused limits s _)

-- In a run from an accepted open no call answers 22.
pub never_not_sound : (limits : Limits) (n order : ℕ) (list s : List ℕ) → opening limits n order list (length s) ≡ Ok tt → (calls : List Call) (c : Call)
    → (answer_to limits (run limits (opened_books n order list (length s)) calls).words c).answer ≢ Err NotSound
never_not_sound limits n order list s e calls = sound_not_refused (run_kept limits n order list s e calls).sound

-- ---- 51
module _ {limits : Limits} {s : List ℕ} (snd : Sound limits s) (means : Valuation → Bool) where
  grows : GrowsBy limits s (finished_in s means) (insert limits s (finished_in s means))
  grows = insert_count (finished_in s means) snd (finished_ascending s means) (finished_reduced s means)

  -- "So used grows by the number of different entries of the finished diagram that weren't there before."
  pub fits_added : used s + new_count s (finished_in s means) ≤ room limits s
      → (h : ℕ) × ((add_meaning limits s means).answer ≡ Ok h) × (used (add_meaning limits s means).words ≡ used s + new_count s (finished_in s means))
  unfolding added
  fits_added l = let f = grows.fits l in rw (added, f.1) (f.0, refl, f.2)

  pub full_refused : room limits s < used s + new_count s (finished_in s means) → add_meaning limits s means ≡ refused s NoRoom
  unfolding added
  full_refused l = rw (added, grows.full l) refl

  -- "51, used plus new entries exceeds room": exactly then
  pub full_exactly : ((add_meaning limits s means).answer ≡ Err NoRoom) ↔ (room limits s < used s + new_count s (finished_in s means))
  full_exactly = (
    λ e. elim (dec_lt (room limits s) (used s + new_count s (finished_in s means))) [
      | yes l ↦ l
      | no n ↦ absurd (not_both (fits_added (omega arith)).1 e)
    ],
    λ l. ap (λ o. o.answer) (full_refused l),
  )

  pub accepted_grows : (h : ℕ) → (add_meaning limits s means).answer ≡ Ok h → used (add_meaning limits s means).words ≡ used s + new_count s (finished_in s means)
  accepted_grows h e = elim (dec_lt (room limits s) (used s + new_count s (finished_in s means))) [
    | yes l ↦ absurd (not_both e (ap (λ o. o.answer) (full_refused l)))
    | no n ↦ (fits_added (omega arith)).2
  ]

-- "The last row is the rule. Its finished diagram alone is added, no other row's."
pub build_grows : {limits : Limits} {s : List ℕ} → Sound limits s → (table : List ℕ) (h : ℕ) → (operation.build limits s table).answer ≡ Ok h
    → used (operation.build limits s table).words ≡ used s + new_count s (finished_in s (rule_meaning table))
build_grows {limits} {s} snd table h = build_cases snd table
    (λ o. o.answer ≡ Ok h → used o.words ≡ used s + new_count s (finished_in s (rule_meaning table)))
    (λ _. accepted_grows snd (rule_meaning table) h) (λ f _ e. absurd (not_both e refl))
