-- In a store that is sound within limits n is at most the largest field, and K, the gap of one of its questions, at most the largest step count. So the bound
-- n × (K + 1) is at most the limits' own.
use Prim.Native.Nat.{ℕ, ◌+◌, ◌*◌, ◌≤◌, ◌<◌}
use mathlib.Core.Path.{◌≡◌, refl}
use mathlib.Core.Logic.{inl, inr}
use mathlib.Core.Bool.{true, cond}
use mathlib.Core.List.{List}
use native.Mathlib.Nat.{le_trans, mul-le-mul}
use native.Mathlib.Omega.{arith}
use lib.Dec.{eqb}
use lib.ListN.{length, get_or}
use Rattle.std.specs.Prelude.{Ok, Err}
use Rattle.examples.specs.declared.answer.ExampleFault.TheVariants.{NotSound, NoHandle, WrongLength}
use Rattle.examples.specs.CountBound.{count_bound}
use Rattle.examples.specs.Example.{Example, given, best_sheet, example}
use Rattle.examples.specs.LargestGap.{gap_size, list_gap}
use Rattle.facts.specs.Least.{IsLeast}
use Rattle.facts.specs.State.{at}
use Rattle.store.specs.Layout.{field_count, question_count, used, question, leaves, is_handle}
use Rattle.store.specs.Meaning.{meaning}
use Rattle.store.specs.Outcome.{Outcome, outcome}
use Rattle.store.specs.Sound.{sound}
use Rattle.store.specs.SoundParts.{Sound}
use Rattle.terms.specs.declared.limits.Limits.{Limits}
use Rattle.terms.specs.Limits.{store_limits}
use Rattle.terms.specs.Meaning.{Valuation}
use Rattle.examples.proofs.ExampleBound.{example_within_gap}
use Rattle.examples.proofs.ExampleFirst.{example_answers}
use Rattle.examples.proofs.LargestGapIs.{largest_gap_is}
use Rattle.store.proofs.SoundFacts.{sound_says}
use Rattle.store.proofs.SoundList.{sound_question}
use Rattle.terms.proofs.Cases.{by_test}
use Rattle.terms.proofs.Gap.{difference_abs}

-- ---- a store that is sound within limits
module _ {limits : Limits} {s : List ℕ} (snd : Sound limits s) where
  question_gap : (j : ℕ) → 1 ≤ j → j ≤ question_count s → gap_size s j ≤ limits.terms.steps.0
  question_gap j h l =
      let q = sound_question snd j h l in
      difference_abs limits.terms.steps.0 (question s j).right.steps.0 (question s j).left.steps.0 q.right.steps_in q.left.steps_in

  -- K is at most the largest step count
  pub list_gap_within : list_gap s ≤ limits.terms.steps.0
  list_gap_within = elim (largest_gap_is s (question_count s)).attained [
    | inl a ↦ omega (arith, a.3, question_gap a.0 a.1 a.2)
    | inr b ↦ omega (arith, b.1)
  ]

  gap_bound_within : field_count s * (list_gap s + 1) ≤ count_bound limits.terms
  gap_bound_within = mul-le-mul snd.fields_in (omega (arith, list_gap_within))

  pub least_within_limits : (handle : ℕ) → handle < used s + leaves → (v : Valuation) → IsLeast (field_count s) (λ w. meaning s handle w ≡ true) v
      → (f : ℕ) → f ≤ field_count s → at v f ≤ count_bound limits.terms
  least_within_limits handle h v is f l = le_trans (example_within_gap snd handle h v is f l) gap_bound_within

-- ---- the operation
module _ (limits : Limits) (s : List ℕ) (handle : ℕ) (out : List ℕ) where
  abbrev o : Outcome Example
  o = example limits s handle out

  -- only in a sound store is anything written
  pub written_sound : o.answer ≡ Ok tt → sound limits s ≡ true
  unfolding example
  written_sound =
      by_test (λ t. (cond t (cond (is_handle s handle) (cond (eqb (length out) (field_count s)) (given (best_sheet s handle) out) (outcome (Err WrongLength) out))
      (outcome (Err NoHandle) out)) (outcome (Err NotSound) out)).answer ≡ Ok tt → t ≡ true)
      (sound limits s) (λ _ _. refl) (λ _ (e : ◌≡◌ {A = Example} (Err NotSound) (Ok tt)). absurd (cc))

  -- No count of an accepted example exceeds the largest field times one more than the largest step count.
  pub example_within_limits : o.answer ≡ Ok tt → (i : ℕ) → i < field_count s → get_or o.words i 0 ≤ count_bound limits.terms
  example_within_limits w i h =
      let is = written_sound w in
      le_trans (((example_answers limits s is handle out).written w).within i h) (gap_bound_within (sound_says limits s is))

-- "the example bound reaches 16 × 1,024 = 16,384"
pub public_example_within : (s : List ℕ) (handle : ℕ) (out : List ℕ) → (example store_limits s handle out).answer ≡ Ok tt
    → (i : ℕ) → i < field_count s → get_or (example store_limits s handle out).words i 0 ≤ 16384
public_example_within s handle out = example_within_limits store_limits s handle out
