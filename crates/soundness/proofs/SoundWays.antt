-- What soundness says on each way through the code: the tests on that way decide the definition's own tests.
use Prim.Native.Nat.{ℕ, ◌+◌, ◌*◌, ◌≤◌, ◌<◌}
use mathlib.Core.Path.{◌≡◌, refl, ◌∙◌, sym}
use mathlib.Core.Bool.{Bool, true, false, ◌&&◌, and-false}
use mathlib.Core.List.{List}
use native.Mathlib.Omega.{arith}
use borrow.Author.Tests.{le-leb, lt-leb, leb-true}
use lib.Dec.{leb}
use lib.ListN.{length, drop}
use Rattle.index.specs.Needs.{EntriesFit}
use Rattle.soundness.specs.Needs.{body_sound}
use Rattle.store.specs.Layout.{heading_length, field_count, question_count, used, entries_start, room}
use Rattle.store.specs.Sound.{all_below, all_zero, list_sound, heading_sound, entry_sound, differ_below, sound}
use Rattle.terms.specs.declared.limits.Limits.{Limits}
use Rattle.terms.specs.Needs.{FitLimits}
use Rattle.store.proofs.Tests.{first_passes, second_passes}

-- ---- the heading
module _ (limits : Limits) (s : List ℕ) where
  heading_long : {b : Bool} → b ≡ heading_sound limits s → b ≡ true → entries_start s ≤ length s
  unfolding heading_sound
  heading_long eb t =
      let fields = leb (field_count s) limits.terms.field.0 in
      let questions = leb (question_count s) limits.questions in
      let long = leb (entries_start s) (length s) in
      leb-true (entries_start s) (length s) (second_passes (fields && questions) long (first_passes (fields && questions && long) (list_sound limits s) (sym eb ∙ t)))

-- ---- after the heading
module _ (limits : Limits) (s : List ℕ) {b : Bool} (eb : b ≡ heading_sound limits s) (t : b ≡ true) where
  pub heading_whole : heading_length ≤ length s
  heading_whole = let h = heading_long limits s eb t in omega arith

  pub list_within : entries_start s ≤ length s
  list_within = heading_long limits s eb t

  pub room_fits : {start k r : ℕ} → FitLimits limits → r ≡ room limits s → k ≤ r → start ≡ entries_start s → EntriesFit s start k
  room_fits fit er h es = record { begin = es; within = omega (arith, list_within); few = omega (arith, fit.entries_fit) }

-- ---- the store
regroup : (a b c d : Bool) → (a && b && c && d) ≡ (a && (b && c && d))
regroup true b c d = refl
regroup false b c d = refl

module _ (limits : Limits) (s : List ℕ) where
  parts : sound limits s ≡ (heading_sound limits s && leb (used s) (room limits s) && body_sound s (used s))
  unfolding sound body_sound
  parts =
      regroup (heading_sound limits s && leb (used s) (room limits s)) (all_below (used s) (entry_sound s)) (differ_below s (used s))
      (all_zero (drop (entries_start s + 3 * used s) s))

  module _ {a : Bool} (ea : a ≡ heading_sound limits s) where
    pub heading_fails : a ≡ false → false ≡ sound limits s
    heading_fails d = sym (parts ∙ rw (← ea, d))

    module _ {u k m : ℕ} (eu : u ≡ used s) (ek : k ≡ u) (em : m ≡ room limits s) where
      entries : k ≡ used s
      entries = ek ∙ eu

      pub room_fails : m < k → false ≡ sound limits s
      room_fails h = sym (parts ∙ rw (← entries, lt-leb k (room limits s) (omega arith), and-false))

      pub by_body : {r : Bool} → a ≡ true → k ≤ m → r ≡ body_sound s k → r ≡ sound limits s
      by_body ta h er = er ∙ sym (parts ∙ rw (← entries, le-leb k (room limits s) (omega arith), ← ea, ta))
