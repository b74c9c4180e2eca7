-- One diagram added to two stores with the same entries: where both end with a handle, it is one handle, and the entries are the same again. Each entry is
-- found in both or in neither, and added in both, since a store that is full at one entry is full for the whole diagram.
use Prim.Native.Nat.{ℕ, ◌+◌}
use mathlib.Core.Path.{◌≡◌, refl, sym, ap₂, ◌∙◌, subst}
use mathlib.Core.Bool.{cond}
use mathlib.Core.List.{List}
use native.Mathlib.Omega.{arith}
use lib.Dec.{ltb}
use Rattle.std.proofs.Common.{Option, Some, None}
use Rattle.diagram.specs.Insert.{add_entry, place_entry, then_place, leaf_handle, insert}
use Rattle.store.specs.declared.entries.Entry.{Entry}
use Rattle.store.specs.Entries.{find_entry, with_entry}
use Rattle.store.specs.Layout.{used, entry_of, leaves, room}
use Rattle.store.specs.Outcome.{Outcome, outcome}
use Rattle.store.specs.Tree.{Tree, leaf, node}
use Rattle.terms.specs.declared.limits.Limits.{Limits}
use Rattle.diagram.proofs.InsertTree.{then_cases}
use Rattle.terms.proofs.Cases.{by_test, by_lt}
use Rattle.logger.proofs.SameEntries.{SameEntries, find_same, same_added}

-- a handle is no full store
pub not_full : {h : ℕ} → None ≡ Some h → ⊥
not_full e = let z : ◌≡◌ {A = ℕ} 0 1 = cc in omega arith

pub record PlacedSame (o o' : Outcome (Option ℕ)) : Type 0 where
  pub same : (h h' : ℕ) → o.answer ≡ Some h → o'.answer ≡ Some h' → (h ≡ h') × SameEntries o.words o'.words

full_first : (s : List ℕ) (o' : Outcome (Option ℕ)) → PlacedSame (outcome None s) o'
full_first s o' = record { same = λ h h' e e'. absurd (not_full e) }

full_second : (o : Outcome (Option ℕ)) (s' : List ℕ) → PlacedSame o (outcome None s')
full_second o s' = record { same = λ h h' e e'. absurd (not_full e') }

at_same : {s s' : List ℕ} (g g' : ℕ) → g ≡ g' → SameEntries s s' → PlacedSame (outcome (Some g) s) (outcome (Some g') s')
at_same g g' d same = record { same = λ h h' e e'. let p : g ≡ h = cc in let p' : g' ≡ h' = cc in (sym p ∙ d ∙ p', same) }

-- ---- an entry
module _ (limits limits' : Limits) {s s' : List ℕ} (same : SameEntries s s') (e : Entry) where
  add_same : PlacedSame (add_entry limits s e) (add_entry limits' s' e)
  unfolding add_entry
  add_same = by_lt (λ t. PlacedSame (cond t (outcome (Some (used s + leaves)) (with_entry s e)) (outcome None s)) (add_entry limits' s' e)) (used s) (room limits s)
      (λ l. by_lt (λ t. PlacedSame (outcome (Some (used s + leaves)) (with_entry s e)) (cond t (outcome (Some (used s' + leaves)) (with_entry s' e)) (outcome None s')))
      (used s') (room limits' s')
      (λ l'. at_same (used s + leaves) (used s' + leaves) (omega (arith, same.same_used)) (same_added same e (omega arith) (omega arith)))
      (λ _. full_second _ s'))
      (λ _. full_first s _)

  place_same : PlacedSame (place_entry limits s e) (place_entry limits' s' e)
  unfolding place_entry
  place_same =
      let i : ℕ = find_entry s (used s) e in
      let i' : ℕ = find_entry s' (used s') e in
      let found : i' ≡ i = find_same same e in
      let test : ltb i' (used s') ≡ ltb i (used s) = ap₂ ltb found same.same_used in
      by_test (λ t. ltb i' (used s') ≡ t → PlacedSame (cond t (outcome (Some (i + leaves)) s) (add_entry limits s e)) (place_entry limits' s' e)) (ltb i (used s))
      (λ _ d. rw (place_entry, d) (at_same (i + leaves) (i' + leaves) (omega arith) same))
      (λ _ d. rw (place_entry, d) add_same) test

-- ---- a diagram
then_same : {o o' : Outcome (Option ℕ)} (next next' : ℕ → List ℕ → Outcome (Option ℕ)) → PlacedSame o o'
    → ((h : ℕ) → SameEntries o.words o'.words → PlacedSame (next h o.words) (next' h o'.words)) → PlacedSame (then_place o next) (then_place o' next')
then_same {o} {o'} next next' p f = then_cases (λ x. PlacedSame x (then_place o' next')) o next
    (λ h e. then_cases (PlacedSame (next h o.words)) o' next'
    (λ h' e'. let both = p.same h h' e e' in subst (λ g. PlacedSame (next h o.words) (next' g o'.words)) both.0 (f h both.1))
    (λ _. full_second (next h o.words) o'.words))
    (λ _. full_first o.words (then_place o' next'))

-- what is left to do of a node once its no part has been added, and once its yes part has
abbrev pub after_no : Limits → ℕ → ℕ → ℕ → List ℕ → Outcome (Option ℕ)
after_no limits k hy hn s = place_entry limits s (entry_of k hy hn)

abbrev pub after_yes : Limits → ℕ → Tree → ℕ → List ℕ → Outcome (Option ℕ)
after_yes limits k n hy s = then_place (insert limits s n) (after_no limits k hy)

pub insert_same : (limits limits' : Limits) (t : Tree) {s s' : List ℕ} → SameEntries s s' → PlacedSame (insert limits s t) (insert limits' s' t)
unfolding insert
insert_same limits limits' (leaf b) same = at_same (leaf_handle b) (leaf_handle b) refl same
insert_same limits limits' (node k y n) same =
    then_same (after_yes limits k n) (after_yes limits' k n) (insert_same limits limits' y same) (λ hy same₁.
    then_same (after_no limits k hy) (after_no limits' k hy) (insert_same limits limits' n same₁) (λ hn same₂.
    place_same limits limits' same₂ (entry_of k hy hn)))
