-- "On refusal ... all lent words are unchanged.": any call on any words. Each line that refuses gives the words back, and so does a full store.
use Prim.Native.Nat.{ℕ}
use mathlib.Core.Path.{◌≡◌, refl}
use mathlib.Core.List.{List, []}
use Rattle.operations.specs.declared.answer.BuildFault.{BuildFault}
use Rattle.std.specs.Prelude.{Err}
use Rattle.operations.specs.Handles.{Call, answer_to, rule_of_call}
use Rattle.terms.specs.declared.limits.Limits.{Limits}
use Rattle.operations.proofs.CallCases.{call_cases}
use Rattle.operations.proofs.MeaningAdded.{added_unchanged}

pub refused_unchanged : (limits : Limits) (s : List ℕ) (c : Call) (f : BuildFault) → (answer_to limits s c).answer ≡ Err f → (answer_to limits s c).words ≡ s
refused_unchanged limits s c f = call_cases limits s (λ o. o.answer ≡ Err f → o.words ≡ s) (λ _ _ _. refl) c
    (λ _ _. added_unchanged limits s (rule_of_call [] s c) f)
