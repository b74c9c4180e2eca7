-- The way that a sheet takes: on a handle of a sound store each entry can be asked, and each handle that follows is smaller and means the same.
use Prim.Native.Nat.{ℕ, ◌+◌, ◌-◌, ◌≤◌, ◌<◌}
use mathlib.Core.Path.{◌≡◌, refl, sym, ◌∙◌, ap, subst}
use mathlib.Core.Bool.{cond}
use mathlib.Core.List.{List}
use native.Mathlib.Omega.{arith}
use borrow.Author.Tests.{le-ltb}
use lib.Dec.{eqb}
use Rattle.reading.specs.Needs.{CanAsk, Readable}
use Rattle.reading.specs.Sheet.{sheet_counts}
use Rattle.store.specs.declared.entries.Entry.{Entry}
use Rattle.store.specs.Layout.{question, entry, leaves, used}
use Rattle.store.specs.Meaning.{next, meaning}
use Rattle.store.specs.Needs.{HasQuestion, HasEntry}
use Rattle.store.specs.SoundParts.{MayStand}
use Rattle.terms.specs.declared.term.Equation.{Equation}
use Rattle.terms.specs.Meaning.{truth}
use Rattle.store.proofs.ByHandles.{leaf_stays, by_handle}
use Rattle.store.proofs.SoundFacts.{sound_says, used_fits}
use Rattle.store.proofs.SoundList.{sound_question}
use Rattle.store.proofs.SoundTree.{meaning_entry}
use Rattle.terms.proofs.Cases.{by_test}

-- ---- handles
module _ {s : List ℕ} {h : ℕ} {sheet : List ℕ} (r : Readable s h sheet) (l : leaves ≤ h) where
  pub entry_there : HasEntry s (h - leaves)
  entry_there = omega (arith, used_fits (sound_says r.limits s r.sound_in), r.handle_in)

  module _ {e : Entry} {k : ℕ} (ee : e ≡ entry s (h - leaves)) (ek : k ≡ e.question) where
    asks : k ≡ (entry s (h - leaves)).question
    asks = ek ∙ ap (λ (x : Entry). x.question) ee

    kept : MayStand s (h - leaves) (entry s (h - leaves))
    kept = (sound_says r.limits s r.sound_in).entry_kept (h - leaves) (omega (arith, r.handle_in))

    pub asks_question : HasQuestion s k
    asks_question = record {
      from_one = omega (arith, asks, kept.asks_some);
      to_last = omega (arith, asks, kept.asks_listed);
      list_in = (sound_says r.limits s r.sound_in).list_in;
    }

    module _ {q : Equation} (eq : q ≡ question s k) where
      pub can_ask : CanAsk sheet q
      can_ask =
          let keeps = sound_question (sound_says r.limits s r.sound_in) k asks_question.from_one asks_question.to_last in
          subst (CanAsk sheet) (sym eq) (record {
            left = record { field_in = omega (arith, keeps.left.field_in, r.length_is); steps_few = omega (arith, keeps.left.steps_in, r.fit.counts_fit) };
            right = record { field_in = omega (arith, keeps.right.field_in, r.length_is); steps_few = omega (arith, keeps.right.steps_in, r.fit.counts_fit) };
          })

-- ---- the way down
-- the handle g is on the way that the sheet takes from the handle h
pub record OnWay (s : List ℕ) (h : ℕ) (sheet : List ℕ) (g : ℕ) : Type 0 where
  pub handle_in : g < used s + leaves
  pub same : meaning s g (sheet_counts sheet) ≡ meaning s h (sheet_counts sheet)

module _ {s : List ℕ} {h : ℕ} {sheet : List ℕ} (r : Readable s h sheet) where
  pub way_begins : {g : ℕ} → g ≡ h → OnWay s h sheet g
  way_begins e = record { handle_in = omega (arith, r.handle_in); same = ap (λ x. meaning s x (sheet_counts sheet)) e }

  -- an entry's handles are smaller, and the one that its question picks means the same
  abbrev Descends : ℕ → Type 0
  Descends g = (next s (sheet_counts sheet) g < g) × (meaning s (next s (sheet_counts sheet) g) (sheet_counts sheet) ≡ meaning s g (sheet_counts sheet))

  entry_descends : (i : ℕ) → i < used s → Descends (i + leaves)
  unfolding next
  entry_descends i k =
      let snd = sound_says r.limits s r.sound_in in
      let kept = snd.entry_kept i k in
      let v = sheet_counts sheet in
      let d : i + leaves - leaves ≡ i = omega arith in
      let p = entry s i in
      rw (le-ltb (i + leaves) leaves (omega arith), d, meaning_entry snd i k v)
      (by_test (λ t. (cond t p.yes p.no < i + leaves) × (meaning s (cond t p.yes p.no) v ≡ cond t (meaning s p.yes v) (meaning s p.no v)))
      (truth v (question s p.question)) (λ _. (kept.yes_below, refl)) (λ _. (kept.no_below, refl)))

  module _ {g : ℕ} (w : OnWay s h sheet g) where
    pub way_readable : Readable s g sheet
    way_readable = record { limits = r.limits; fit = r.fit; sound_in = r.sound_in; handle_in = w.handle_in; length_is = r.length_is }

    pub way_ends : g < leaves → eqb g 1 ≡ meaning s h (sheet_counts sheet)
    way_ends l = sym (ap (λ x. eqb x 1) (leaf_stays g s (sheet_counts sheet) g l)) ∙ w.same

    module _ (l : leaves ≤ g) {y : ℕ} (e : y ≡ next s (sheet_counts sheet) g) where
      descends : Descends g
      descends = by_handle (used s) (λ x. leaves ≤ x → Descends x) (λ x k m. absurd (omega arith)) (λ i k _. entry_descends i k) g w.handle_in l

      pub way_falls : y < g
      way_falls = rw e descends.0

      pub way_goes : OnWay s h sheet y
      way_goes = record {
        handle_in = omega (arith, way_falls, w.handle_in);
        same = ap (λ x. meaning s x (sheet_counts sheet)) e ∙ descends.1 ∙ w.same;
      }
