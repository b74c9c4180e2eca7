-- The handle of an accepted call means, in the words that the call leaves, what was asked for: the finished diagram of that meaning stands there.
use Prim.Native.Nat.{ℕ}
use mathlib.Core.Path.{◌≡◌, refl}
use mathlib.Core.Bool.{cond, not, ◌&&◌}
use mathlib.Core.List.{List, []}
use Rattle.std.specs.Prelude.{Ok}
use Rattle.operations.specs.Handles.{Call, build, negate, join, choose, answer_to, rule_of, rule_of_call}
use Rattle.operations.specs.Operations as operation
use Rattle.store.specs.Meaning.{meaning}
use Rattle.tables.specs.Rows.{rule_meaning}
use Rattle.terms.specs.declared.limits.Limits.{Limits}
use Rattle.terms.specs.Meaning.{Valuation}
use Rattle.store.proofs.SoundFacts.{sound_says}
use Rattle.operations.proofs.BuiltCases.{not_both}
use Rattle.operations.proofs.CallCases.{call_cases}
use Rattle.operations.proofs.HandleLaw.{call_rests}
use Rattle.operations.proofs.MeaningAdded.{meaning_added}
use Rattle.operations.proofs.StandingDiagrams.{stands_means}

module _ (limits : Limits) (s : List ℕ) where
  -- any call, by its rule with no ledger: a given handle means what the words that came say
  call_means : (c : Call) (h : ℕ) → (answer_to limits s c).answer ≡ Ok h
      → (v : Valuation) → meaning (answer_to limits s c).words h v ≡ rule_of_call [] s c v
  call_means c h = call_cases limits s (λ o. o.answer ≡ Ok h → (v : Valuation) → meaning o.words h v ≡ rule_of_call [] s c v)
      (λ f _ e. absurd (not_both e refl)) c
      (λ is t e v.
      let snd = sound_says limits s is in
      let a = meaning_added snd (call_rests snd c t) in
      stands_means a.later.sound (a.stands h e) v)

  pub build_means : (table : List ℕ) (h : ℕ) → (operation.build limits s table).answer ≡ Ok h
      → (v : Valuation) → meaning (operation.build limits s table).words h v ≡ rule_meaning table v
  build_means table = call_means (build table)

  pub negate_means : (a h : ℕ) → (operation.negate limits s a).answer ≡ Ok h
      → (v : Valuation) → meaning (operation.negate limits s a).words h v ≡ not (meaning s a v)
  unfolding rule_of
  negate_means a = call_means (negate a)

  pub join_means : (a b h : ℕ) → (operation.join limits s a b).answer ≡ Ok h
      → (v : Valuation) → meaning (operation.join limits s a b).words h v ≡ (meaning s a v && meaning s b v)
  unfolding rule_of
  join_means a b = call_means (join a b)

  pub choose_means : (a b c h : ℕ) → (operation.choose limits s a b c).answer ≡ Ok h
      → (v : Valuation) → meaning (operation.choose limits s a b c).words h v ≡ cond (meaning s a v) (meaning s b v) (meaning s c v)
  unfolding rule_of
  choose_means a b c = call_means (choose a b c)
