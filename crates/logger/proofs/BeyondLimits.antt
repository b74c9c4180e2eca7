-- "a store with larger n, q or used is 22 there": a sound store keeps each limit, so that words which exceed one are none, and every call says so before it looks at
-- anything else. And of the stores that are sound within larger limits, with the same limit of steps, no others are refused: soundness compares with nothing else.
use Prim.Native.Nat.{ℕ, ◌≤◌, ◌<◌}
use mathlib.Core.Path.{◌≡◌, refl}
use mathlib.Core.Logic.{inl, inr, ◌↔◌}
use mathlib.Core.Bool.{true, false}
use mathlib.Core.List.{List}
use native.Mathlib.Omega.{arith}
use native.Mathlib.Decide.{dec_lt}
use Rattle.logger.specs.Beyond.{Beyond}
use Rattle.operations.specs.declared.answer.BuildFault.TheVariants.{NotSound}
use Rattle.operations.specs.Handles.{Call, build, negate, join, choose, answer_to}
use Rattle.operations.specs.Operations as operation
use Rattle.operations.specs.Operations.{refused}
use Rattle.store.specs.Layout.{field_count}
use Rattle.store.specs.Sound.{sound}
use Rattle.store.specs.SoundParts.{Sound}
use Rattle.terms.specs.declared.limits.Limits.{Limits}
use Rattle.terms.specs.Limits.{terms_within}
use Rattle.terms.specs.Words.{field}
use Rattle.store.proofs.SoundFacts.{sound_says, sound_from, used_few}
use Rattle.terms.proofs.Cases.{by_test}

not_lt : {x y : ℕ} → (x < y → ⊥) → y ≤ x
not_lt {x} {y} n = elim (dec_lt x y) [ yes h ↦ absurd (n h) | no h ↦ omega arith ]

module _ (limits : Limits) (s : List ℕ) where
  not_within : Sound limits s → Beyond limits s → ⊥
  not_within snd (inl h) = omega (arith, snd.fields_in)
  not_within snd (inr (inl h)) = omega (arith, snd.questions_in)
  not_within snd (inr (inr h)) = omega (arith, used_few snd)

  beyond_unsound : Beyond limits s → sound limits s ≡ false
  beyond_unsound b = by_test (λ t. t ≡ false) (sound limits s) (λ e. absurd (not_within (sound_says limits s e) b)) (λ _. refl)

  pub beyond_refused : Beyond limits s → (c : Call) → answer_to limits s c ≡ refused s NotSound
  unfolding operation.build operation.negate operation.join operation.choose
  beyond_refused b (build table) = rw (beyond_unsound b)
  beyond_refused b (negate x) = rw (beyond_unsound b)
  beyond_refused b (join x y) = rw (beyond_unsound b)
  beyond_refused b (choose x y z) = rw (beyond_unsound b)

  within_sound : (larger : Limits) → larger.terms.steps ≡ limits.terms.steps → Sound larger s → (Beyond limits s → ⊥) → Sound limits s
  within_sound larger steps snd not_beyond =
      let within : terms_within larger (field_count s) ≡ terms_within limits (field_count s) = λ i. record { field = field (field_count s); steps = steps i } in
      let fields = not_lt (λ h. not_beyond (inl h)) in
      let questions = not_lt (λ h. not_beyond (inr (inl h))) in
      let entries = not_lt (λ h. not_beyond (inr (inr h))) in
      record {
        fields_in = fields;
        questions_in = questions;
        list_in = snd.list_in;
        order = snd.order;
        order_is = snd.order_is;
        list_kept = rw (← within) snd.list_kept;
        used_in = omega (arith, snd.used_in, entries);
        entry_kept = snd.entry_kept;
        entries_differ = snd.entries_differ;
        unused_zero = snd.unused_zero;
      }

  -- A store that is sound within larger limits is sound within these exactly if it is not beyond them.
  pub beyond_exactly : (larger : Limits) → larger.terms.steps ≡ limits.terms.steps → sound larger s ≡ true → (sound limits s ≡ true) ↔ (Beyond limits s → ⊥)
  beyond_exactly larger steps is = (
    λ e. not_within (sound_says limits s e),
    λ n. sound_from limits s (within_sound larger steps (sound_says larger s is) n),
  )
