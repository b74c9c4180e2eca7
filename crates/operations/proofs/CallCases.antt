-- What a call does, by cases: it adds the finished diagram of its meaning, or leaves every word. Each line of the definitions goes on or refuses with
-- the words as they came.
use Prim.Native.Nat.{ℕ}
use mathlib.Core.Path.{◌≡◌, refl}
use mathlib.Core.Bool.{Bool, true, false, cond, ◌&&◌}
use mathlib.Core.List.{List, []}
use mathlib.Core.Option.{Option, none, some}
use native.Mathlib.Omega.{arith}
use Rattle.operations.specs.declared.answer.BuildFault.{BuildFault}
use Rattle.operations.specs.declared.answer.BuildFault.TheVariants.{NotSound, NoHandle, BadTable}
use Rattle.operations.specs.Built.{Built}
use Rattle.operations.specs.Handles.{Call, build, negate, join, choose, answer_to, rule_of, rule_of_call}
use Rattle.operations.specs.Operations as operation
use Rattle.operations.specs.Operations.{refused, if_sound, if_handles, if_taken, add_meaning}
use Rattle.store.specs.Layout.{is_handle}
use Rattle.store.specs.Outcome.{Outcome}
use Rattle.store.specs.Sound.{sound}
use Rattle.store.specs.SoundParts.{Sound}
use Rattle.tables.specs.declared.answer.TableFault.{TableFault}
use Rattle.tables.specs.Faults.{table_fault}
use Rattle.tables.specs.Rows.{rule_meaning}
use Rattle.terms.specs.declared.limits.Limits.{Limits}
use Rattle.store.proofs.SoundFacts.{sound_from}
use Rattle.terms.proofs.Cases.{by_test}

taken_cases : (P : Outcome Built → Type 0) (s : List ℕ) (fault : Option TableFault) (next : Outcome Built)
    → (fault ≡ none → P next) → ((f : TableFault) → fault ≡ some f → P (refused s (BadTable f))) → P (if_taken s fault next)
taken_cases P s none next taken faulty = taken refl
taken_cases P s (some f) next taken faulty = faulty f refl

-- "The last row is the rule. Its finished diagram alone is added, no other row's.": build on a sound store
pub build_cases : {limits : Limits} {s : List ℕ} → Sound limits s → (table : List ℕ) (P : Outcome Built → Type 0)
    → (table_fault limits s table ≡ none → P (add_meaning limits s (rule_meaning table)))
    → ((f : TableFault) → table_fault limits s table ≡ some f → P (refused s (BadTable f)))
    → P (operation.build limits s table)
unfolding operation.build
build_cases {limits} {s} snd table P taken faulty =
    rw (sound_from limits s snd) (taken_cases P s (table_fault limits s table) (add_meaning limits s (rule_meaning table)) taken faulty)

-- ---- any call on any words
-- the call's own test passes: the table has no fault, the handles are the store's
abbrev pub TestPassed : Limits → List ℕ → Call → Type 0
TestPassed limits s (build table) = table_fault limits s table ≡ none
TestPassed limits s (negate a) = is_handle s a ≡ true
TestPassed limits s (join a b) = (is_handle s a && is_handle s b) ≡ true
TestPassed limits s (choose a b c) = (is_handle s a && is_handle s b && is_handle s c) ≡ true

module _ (limits : Limits) (s : List ℕ) (P : Outcome Built → Type 0) (stops : (f : BuildFault) → (f ≡ NotSound → sound limits s ≡ false) → P (refused s f)) where
  sound_cases : (next : Outcome Built) → (sound limits s ≡ true → P next) → P (if_sound limits s next)
  sound_cases next goes = by_test (λ t. P (cond t next (refused s NotSound))) (sound limits s) goes (λ e. stops NotSound (λ _. e))

  handles_cases : (given : Bool) (next : Outcome Built) → (given ≡ true → P next) → P (if_handles s given next)
  handles_cases given next goes =
      by_test (λ t. P (cond t next (refused s NoHandle))) given goes (λ _. stops NoHandle (λ e. absurd (let z : ◌≡◌ {A = ℕ} 0 1 = cc in omega arith)))

  -- Handles mean what the words say; 22 is answered of words that are no sound store only.
  pub call_cases : (c : Call) → (sound limits s ≡ true → TestPassed limits s c → P (add_meaning limits s (rule_of_call [] s c))) → P (answer_to limits s c)
  unfolding operation.build operation.negate operation.join operation.choose rule_of
  call_cases (build table) adds = sound_cases _ (λ e. taken_cases P s (table_fault limits s table) _ (adds e)
      (λ f _. stops (BadTable f) (λ e. absurd (let z : ◌≡◌ {A = ℕ} 0 1 = cc in omega arith))))
  call_cases (negate a) adds = sound_cases _ (λ e. handles_cases (is_handle s a) _ (adds e))
  call_cases (join a b) adds = sound_cases _ (λ e. handles_cases (is_handle s a && is_handle s b) _ (adds e))
  call_cases (choose a b c) adds = sound_cases _ (λ e. handles_cases (is_handle s a && is_handle s b && is_handle s c) _ (adds e))
