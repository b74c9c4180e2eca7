-- The best sheet found from no facts is the example, and its counts are small.
use Rattle.std.specs.Prelude.{Option, Some, None}
use Prim.Native.Nat.{ℕ, ◌+◌, ◌-◌, ◌≤◌}
use mathlib.Core.Path.{◌≡◌, sym, ap, subst, ◌∙◌}
use mathlib.Core.Bool.{Bool, true}
use mathlib.Core.List.{List}
use native.Mathlib.Omega.{arith}
use native.Mathlib.Nat.{mul-le-mul_right}
use borrow.Author.Tests.{ltb-true}
use lib.ListN.{length, get_or}
use Rattle.facts.specs.declared.least.Sheet.{Sheet}
use Rattle.examples.specs.Best.{sheet, best}
use Rattle.examples.specs.Example.{best_sheet}
use Rattle.examples.specs.ExampleSays.{ExampleSays}
use Rattle.examples.specs.Needs.{sheet_of, best_of, CanSeek, CanWriteSheet, CanGive}
use Rattle.facts.specs.declared.record.Facts.{Facts}
use Rattle.facts.specs.Least.{IsLeast}
use Rattle.facts.specs.Record.{state, last_field}
use Rattle.facts.specs.State.{at, start}
use Rattle.store.specs.Layout.{heading_length, field_count, used, question, leaves, is_handle}
use Rattle.store.specs.Meaning.{meaning}
use Rattle.store.specs.Sound.{sound}
use Rattle.store.specs.SoundParts.{Sound}
use Rattle.store.specs.Tree.{tree}
use Rattle.terms.specs.declared.limits.Limits.{Limits}
use Rattle.terms.specs.Limits.{most_count}
use Rattle.terms.specs.Meaning.{Valuation}
use Rattle.terms.specs.Needs.{FitLimits}
use Rattle.examples.proofs.ExampleMeans.{example_says}
use Rattle.examples.proofs.ExampleWithinLimits.{least_within_limits}
use Rattle.examples.proofs.Sheets.{counts_at}
use Rattle.store.proofs.SoundFacts.{sound_says}
use Rattle.verdicts.proofs.DescentLaws.{descent_starts}

-- ---- a handle of a sound store
module _ {s : List ℕ} {handle : ℕ} {out : List ℕ} (k : CanGive s handle out) where
  snd : Sound k.limits s
  snd = sound_says k.limits s k.sound_in

  pub heading_in : heading_length ≤ length s
  heading_in = omega (arith, snd.list_in)

  few_fields : field_count s ≤ last_field
  few_fields = omega (arith, snd.fields_in, k.fit.fields_fit)

  module _ (f : Facts) (ef : state f ≡ start) {n : ℕ} (en : n ≡ field_count s) where
    pub can_seek : CanSeek s handle f n
    can_seek = record {
      most = k.limits.terms.steps.0;
      few_steps = k.fit.counts_fit;
      descent = descent_starts k.limits s k.fit k.sound_in handle k.handle_in k.limits.terms.steps.0 (omega arith) (omega (arith, k.fit.counts_fit)) f ef;
      few_fields = omega (arith, few_fields);
    }

    module _ (r : Option Sheet) (er : best_of n r ≡ best (question s) n (tree s handle) (state f) None) where
      the_best : best_of (field_count s) r ≡ best_sheet s handle
      the_best = (rw en at er) ∙ ap (λ st. best (question s) (field_count s) (tree s handle) st None) ef

      module _ {x : Sheet} (t : r ≡ Some x) where
        found : Some (sheet_of (field_count s) x) ≡ best_sheet s handle
        found = sym (ap (best_of (field_count s)) t) ∙ the_best

        -- every count that is found is the least sheet's, so it is small
        count_small : (i : ℕ) → 1 ≤ i → i ≤ field_count s → get_or x.counts i 0 ≤ most_count
        count_small i h l =
            let m = field_count s in
            let says : (v : Valuation) × IsLeast m (λ w. meaning s handle w ≡ true) v × (sheet_of m x ≡ sheet m v) =
            subst (ExampleSays m (meaning s handle)) (sym found) (example_says snd handle k.handle_in m) in
            let v = says.0 in
            let p : 1 + (i - 1) ≡ i = omega arith in
            let same : get_or x.counts i 0 ≡ at v i =
            ap (λ j. get_or x.counts j 0) (sym p) ∙ sym (counts_at m 1 (i - 1) (λ j. get_or x.counts j 0) (omega arith))
            ∙ ap (λ x. get_or x (i - 1) 0) says.2 ∙ counts_at m 1 (i - 1) (at v) (omega arith) ∙ ap (at v) p in
            bounded v says.1 same
          where
            bounded : (v : Valuation) → IsLeast (field_count s) (λ w. meaning s handle w ≡ true) v → get_or x.counts i 0 ≡ at v i → get_or x.counts i 0 ≤ most_count
            bounded v is same =
                omega (
                  arith,
                  same,
                  least_within_limits snd handle k.handle_in v is i l,
                  k.fit.counts_fit,
                  mul-le-mul_right (k.limits.terms.steps.0 + 1) k.fit.fields_fit,
                )

        pub can_write : CanWriteSheet x out
        can_write = record { few = omega (arith, few_fields, k.length_is); small = λ i h j. count_small i h (omega (arith, k.length_is)) }

-- ---- the operation
module _ (limits : Limits) (s : List ℕ) {b : Bool} (eb : b ≡ sound limits s) (t : b ≡ true) where
  pub heading_fits : heading_length ≤ length s
  heading_fits = omega (arith, (sound_says limits s (sym eb ∙ t)).list_in)

  pub can_give : {h g : ℕ} {out : List ℕ} {a : Bool} → FitLimits limits → a ≡ is_handle s h → a ≡ true → length out ≡ field_count s → g ≡ h → CanGive s g out
  can_give {h} fit ea f l eg =
      rw eg (record { limits = limits; fit = fit; sound_in = sym eb ∙ t; handle_in = ltb-true h (used s + leaves) (sym ea ∙ f); length_is = l })
