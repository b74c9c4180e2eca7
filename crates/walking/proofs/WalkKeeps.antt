-- The words that a walk leaves are fit for another: each entry that it adds asks a question of the list and names handles that stand already.
use Prim.Native.Nat.{ℕ, zero, suc, ◌+◌, ◌≤◌, ◌<◌}
use mathlib.Core.Path.{◌≡◌, refl, ap, ◌∙◌}
use mathlib.Core.Bool.{cond}
use mathlib.Core.List.{List}
use native.Mathlib.Omega.{arith}
use Rattle.std.proofs.Common.{Option, Some, None}
use Rattle.diagram.specs.Insert.{add_entry, place_entry, then_place}
use Rattle.facts.specs.declared.decision.Decision.{Decision}
use Rattle.facts.specs.declared.decision.Decision.TheVariants.{Always, Never, Open}
use Rattle.facts.specs.State.{State, no_to, yes_to, decide}
use Rattle.terms.specs.declared.limits.Limits.{Limits}
use Rattle.store.specs.declared.entries.Entry.{Entry}
use Rattle.store.specs.Entries.{find_entry, with_entry}
use Rattle.store.specs.Grown.{Agree}
use Rattle.store.specs.Layout.{question_count, used, question, entry_of, leaves, room}
use Rattle.store.specs.Needs.{HasEntry}
use Rattle.store.specs.Outcome.{Outcome, outcome}
use Rattle.walking.specs.declared.subject.Subject.{Subject}
use Rattle.terms.specs.Needs.{FitLimits}
use Rattle.walking.specs.Needs.{Walkable}
use Rattle.walking.specs.Value.{subject_value}
use Rattle.walking.specs.Walk.{place_parts, walk}
use Rattle.store.proofs.EntryAdded.{agree_added, used_added}
use Rattle.store.proofs.StoreWords.{questions_agree}
use Rattle.terms.proofs.Cases.{by_lt, by_eq}
use Rattle.walking.proofs.WalkableAdded.{Fine, walkable_added}

-- The words left can be walked again, the words before are among them, and a handle that is the answer stands in them.
pub record GoesOn (s : List ℕ) (o : Outcome (Option ℕ)) : Type 0 where
  pub walkable : Walkable o.words
  pub agrees : Agree s o.words (used s)
  pub grown : used s ≤ used o.words
  pub named : (h : ℕ) → o.answer ≡ Some h → h < used o.words + leaves

at_handle : Option ℕ → ℕ
at_handle (Some h) = h
at_handle None = 0

module _ {s : List ℕ} (w : Walkable s) where
  stays : (a : Option ℕ) → ((h : ℕ) → a ≡ Some h → h < used s + leaves) → GoesOn s (outcome a s)
  stays a f = record { walkable = w; agrees = record { word = λ _ _ _. refl }; grown = omega arith; named = f }

  stays_at : (h : ℕ) → h < used s + leaves → GoesOn s (outcome (Some h) s)
  unfolding at_handle
  stays_at h l = stays (Some h) (λ g e. let d : h ≡ g = ap at_handle e in omega arith)

  full_stays : GoesOn s (outcome None s)
  full_stays = stays None (λ h e. let z : ◌≡◌ {A = ℕ} 0 1 = cc in omega arith)

-- ---- one step after another
then_agrees : {s t u : List ℕ} → Agree s t (used s) → used s ≤ used t → Agree t u (used t) → Agree s u (used s)
then_agrees a g b = record { word = λ k h n. b.word k (omega (arith, questions_agree a)) n ∙ a.word k h n }

then_on : {s : List ℕ} {o p : Outcome (Option ℕ)} → GoesOn s o → GoesOn o.words p → GoesOn s p
then_on g h = record {
  walkable = h.walkable;
  agrees = then_agrees g.agrees g.grown h.agrees;
  grown = omega (arith, g.grown, h.grown);
  named = h.named;
}

module _ {s : List ℕ} {o : Outcome (Option ℕ)} (next : ℕ → List ℕ → Outcome (Option ℕ)) (g : GoesOn s o)
    (f : (h : ℕ) → o.answer ≡ Some h → GoesOn o.words (next h o.words)) where
  then_goes : GoesOn s (then_place o next)
  then_goes = go o.answer refl
    where
      go : (a : Option ℕ) → o.answer ≡ a → GoesOn s (then_place (outcome a o.words) next)
      go (Some h) e = then_on g (f h e)
      go None e = then_on g (full_stays g.walkable)

-- ---- placing
module _ (limits : Limits) (fit : FitLimits limits) {s : List ℕ} (w : Walkable s) (e : Entry) (fine : Fine (question_count s) (used s) e) where
  add_goes : GoesOn s (add_entry limits s e)
  unfolding add_entry at_handle
  add_goes = by_lt (λ t. GoesOn s (cond t (outcome (Some (used s + leaves)) (with_entry s e)) (outcome None s))) (used s) (room limits s)
      (λ l.
      let fits : HasEntry s (used s) = omega (arith, w.used_in) in
      let more = used_added s e fits in
      record {
        walkable = walkable_added s e w fits (omega (arith, fit.entries_fit)) fine;
        agrees = agree_added s e;
        grown = omega arith;
        named = λ h z. let d : used s + leaves ≡ h = ap at_handle z in omega arith;
      })
      (λ _. full_stays w)

  place_goes : GoesOn s (place_entry limits s e)
  unfolding place_entry
  place_goes = by_lt (λ t. GoesOn s (cond t (outcome (Some (find_entry s (used s) e + leaves)) s) (add_entry limits s e)))
      (find_entry s (used s) e) (used s) (λ l. stays_at w _ (omega arith)) (λ _. add_goes)

  parts_go : GoesOn s (place_parts limits s e)
  unfolding place_parts
  parts_go = by_eq (λ t. GoesOn s (cond t (outcome (Some e.yes) s) (place_entry limits s e))) e.yes e.no (λ _. stays_at w e.yes fine.yes_lower) (λ _. place_goes)

-- ---- the walk
by_decision : (P : Decision → Type 0) → P Always → P Never → P Open → (d : Decision) → P d
by_decision P a n o Always = a
by_decision P a n o Never = n
by_decision P a n o Open = o

leaf_goes : {s : List ℕ} → Walkable s → (h : ℕ) → h < leaves → GoesOn s (outcome (Some h) s)
leaf_goes w h l = stays_at w h (omega arith)

module _ (limits : Limits) (fit : FitLimits limits) (subject : Subject) where
  -- what follows the no part, and the yes part
  abbrev after_no : ℕ → ℕ → ℕ → List ℕ → Outcome (Option ℕ)
  after_no k y n s₂ = place_parts limits s₂ (entry_of k y n)

  abbrev after_yes : ℕ → ℕ → State → ℕ → List ℕ → Outcome (Option ℕ)
  after_yes left k st y s₁ = then_place (walk limits s₁ subject left (k + 1) st) (after_no k y)

  pub walk_goes : (left k : ℕ) (st : State) (s : List ℕ) → Walkable s → 1 ≤ k → k + left ≤ question_count s + 1 → GoesOn s (walk limits s subject left k st)
  unfolding walk
  walk_goes zero k st s w first last =
      by_decision (λ d. GoesOn s (elim d [ Always ↦ outcome (Some 1) s | Never ↦ outcome (Some 0) s | Open ↦ outcome (Some 0) s ]))
      (leaf_goes w 1 (omega arith)) (leaf_goes w 0 (omega arith)) (leaf_goes w 0 (omega arith)) (subject_value s subject st)
  walk_goes (suc left) k st s w first last =
      let q = question s k in
      let skipped : Outcome (Option ℕ) = walk limits s subject left (k + 1) st in
      let skip_goes : GoesOn s skipped = walk_goes left (k + 1) st s w (omega arith) (omega arith) in
      let yes_part : Outcome (Option ℕ) = walk limits s subject left (k + 1) (yes_to st q) in
      let yes_goes : GoesOn s yes_part = walk_goes left (k + 1) (yes_to st q) s w (omega arith) (omega arith) in
      let s₁ = yes_part.words in
      let same₁ = questions_agree yes_goes.agrees in
      let no_part : Outcome (Option ℕ) = walk limits s₁ subject left (k + 1) (no_to st q) in
      let no_goes : GoesOn s₁ no_part = walk_goes left (k + 1) (no_to st q) s₁ yes_goes.walkable (omega arith) (omega arith) in
      let same₂ = questions_agree no_goes.agrees in
      let asked : Outcome (Option ℕ) = then_place yes_part (after_yes left k (no_to st q)) in
      let asked_goes : GoesOn s asked = then_goes (after_yes left k (no_to st q)) yes_goes (λ y ey. then_goes (after_no k y) no_goes (λ n en.
      parts_go limits fit no_goes.walkable (entry_of k y n)
      (record { some = first; listed = omega arith; yes_lower = omega (arith, yes_goes.named y ey, no_goes.grown); no_lower = no_goes.named n en }))) in
      by_decision (λ d. GoesOn s (elim d [
        | Always ↦ outcome (Some 1) s
        | Never ↦ outcome (Some 0) s
        | Open ↦ elim (decide st q) [ Always ↦ skipped | Never ↦ skipped | Open ↦ asked ]
      ]))
      (leaf_goes w 1 (omega arith)) (leaf_goes w 0 (omega arith))
      (by_decision (λ d. GoesOn s (elim d [ Always ↦ skipped | Never ↦ skipped | Open ↦ asked ])) skip_goes skip_goes asked_goes (decide st q))
      (subject_value s subject st)
