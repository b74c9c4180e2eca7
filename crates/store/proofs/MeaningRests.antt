-- A handle's meaning rests on the truth of the list's questions, since it asks no others; and that rests on the counts of the fields 1 to n, since the
-- questions of a sound store name no others.
use Prim.Native.Nat.{ℕ, ◌+◌, ◌≤◌, ◌<◌}
use mathlib.Core.Path.{◌≡◌, refl, sym, ap, ap₂, ◌∙◌}
use mathlib.Core.Bool.{cond}
use mathlib.Core.List.{List}
use native.Mathlib.Omega.{arith}
use lib.Dec.{eqb}
use Rattle.store.specs.Layout.{field_count, question_count, question, used, entry, leaves}
use Rattle.store.specs.Meaning.{meaning}
use Rattle.store.specs.SoundParts.{Sound}
use Rattle.terms.specs.declared.limits.Limits.{Limits}
use Rattle.terms.specs.declared.term.Field.{Field}
use Rattle.terms.specs.declared.term.Term.{Term}
use Rattle.terms.specs.Meaning.{Valuation, count, value, truth}
use Rattle.store.proofs.ByHandles.{by_handles, leaf_stays}
use Rattle.store.proofs.SoundList.{sound_question}
use Rattle.store.proofs.SoundTree.{falling, meaning_entry}
use Rattle.terms.proofs.Cases.{by_eq}

module _ {limits : Limits} {s : List ℕ} (snd : Sound limits s) (v w : Valuation) where
  pub same_meaning : ((j : ℕ) → 1 ≤ j → j ≤ question_count s → truth v (question s j) ≡ truth w (question s j))
      → (h : ℕ) → h < used s + leaves → meaning s h v ≡ meaning s h w
  same_meaning alike = by_handles (falling snd) (λ h. meaning s h v ≡ meaning s h w)
      (λ h l. ap (λ x. eqb x 1) (leaf_stays h s v h l ∙ sym (leaf_stays h s w h l)))
      (λ i h y n.
      let k = snd.entry_kept i h in
      let q = alike (entry s i).question k.asks_some k.asks_listed in
      meaning_entry snd i h v ∙ (λ d. cond (q d) (y d) (n d)) ∙ sym (meaning_entry snd i h w))

  module _ (alike : (f : Field) → 1 ≤ f.0 → f.0 ≤ field_count s → v f ≡ w f) where
    same_value : (t : Term) → t.field.0 ≤ field_count s → value v t ≡ value w t
    unfolding count
    same_value t l = ap (λ n. n + t.steps.0)
        (by_eq (λ z. cond z 0 (v t.field) ≡ cond z 0 (w t.field)) t.field.0 0 (λ _. refl) (λ n. alike t.field (omega arith) l))

    -- "A choice of counts gives each of the n fields a natural number.": what a choice gives beyond them is never read
    pub same_question : (j : ℕ) → 1 ≤ j → j ≤ question_count s → truth v (question s j) ≡ truth w (question s j)
    same_question j h l =
        let k = sound_question snd j h l in
        ap₂ eqb (same_value (question s j).left k.left.field_in) (same_value (question s j).right k.right.field_in)
