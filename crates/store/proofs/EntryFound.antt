-- An entry that is looked for is found exactly if it is there, since the entries are compared in turn: the first that passes the test is the one
-- that does while none before it does.
use Prim.Native.Nat.{ℕ, zero, suc, ◌+◌, ◌≤◌, ◌<◌}
use mathlib.Core.Path.{◌≡◌, sym, ◌∙◌, subst}
use mathlib.Core.Logic.{◌≢◌}
use mathlib.Core.Bool.{Bool, true, false, true≢false}
use mathlib.Core.List.{List}
use native.Mathlib.Omega.{arith}
use native.Mathlib.Decide.{dec_lt}
use Rattle.store.specs.declared.entries.Entry.{Entry}
use Rattle.store.specs.Entries.{first, is_entry, find_entry}
use Rattle.store.specs.Layout.{used, entry}
use Rattle.store.proofs.SoundFacts.{same_entry_says, same_entry_from}
use Rattle.terms.proofs.Cases.{by_eq, by_test}

module _ (test : ℕ → Bool) where
  first_here : (left i : ℕ) → test i ≡ true → first test (suc left) i ≡ i
  unfolding first
  first_here left i e = rw (e, first)

  first_later : (left i : ℕ) → test i ≡ false → first test (suc left) i ≡ first test left (i + 1)
  unfolding first
  first_later left i e = rw (e, first)

  pub first_none : (left i : ℕ) → ((j : ℕ) → i ≤ j → j < i + left → test j ≡ false) → first test left i ≡ i + left
  unfolding first
  first_none zero i none = omega arith
  first_none (suc left) i none =
      let r = first_none left (i + 1) (λ j h l. none j (omega arith) (omega arith)) in
      first_later left i (none i (omega arith) (omega arith)) ∙ r ∙ omega arith

  pub first_at : (left i m : ℕ) → i ≤ m → m < i + left → test m ≡ true → ((j : ℕ) → i ≤ j → j < m → test j ≡ false)
      → first test left i ≡ m
  first_at zero i m h l e none = absurd (omega arith)
  first_at (suc left) i m h l e none =
      by_eq (λ _. first test (suc left) i ≡ m) i m
      (λ d. first_here left i (rw d e) ∙ d)
      (λ d. first_later left i (none i (omega arith) (omega arith))
      ∙ first_at left (i + 1) m (omega arith) (omega arith) e (λ j g k. none j (omega arith) k))

  -- a number that is found passes the test
  pub first_found : (left i : ℕ) → first test left i < i + left → test (first test left i) ≡ true
  unfolding first
  first_found zero i h = absurd (omega arith)
  first_found (suc left) i h =
      by_test (λ _. test (first test (suc left) i) ≡ true) (test i)
      (λ e. rw (first_here left i e) e)
      (λ e.
      let later = first_later left i e in
      rw later (first_found left (i + 1) (omega arith)))

  -- where none is found, none passes it
  pub first_fails : (left i : ℕ) → i + left ≤ first test left i → (j : ℕ) → i ≤ j → j < i + left → test j ≡ false
  first_fails zero i h j g l = absurd (omega arith)
  first_fails (suc left) i h j g l =
      by_test (λ _. test j ≡ false) (test i)
      (λ e. let here = first_here left i e in absurd (omega arith))
      (λ e.
      let later = first_later left i e in
      by_eq (λ _. test j ≡ false) j i (λ d. rw d e) (λ d. first_fails left (i + 1) (omega arith) j (omega arith) (omega arith)))

module _ (s : List ℕ) (k : ℕ) (e : Entry) where
  -- the entry that is found is the one looked for
  pub found_is : find_entry s k e < k → entry s (find_entry s k e) ≡ e
  unfolding is_entry
  found_is h = same_entry_says (entry s (find_entry s k e)) e (first_found (is_entry s e) k 0 (omega arith))

  -- where none is found, none of the entries is it
  pub none_found : k ≤ find_entry s k e → (i : ℕ) → i < k → entry s i ≢ e
  unfolding is_entry
  none_found h i l d = true≢false (sym (same_entry_from (entry s i) e d) ∙ first_fails (is_entry s e) k 0 (omega arith) i (omega arith) (omega arith))

-- no entry of the store is this one
abbrev pub Absent : List ℕ → Entry → Type 0
Absent s e = (i : ℕ) → i < used s → entry s i ≢ e

pub find_cases : (s : List ℕ) (e : Entry) (P : ℕ → Type 0) → ((i : ℕ) → i < used s → entry s i ≡ e → P i) → (Absent s e → P (used s))
    → P (find_entry s (used s) e)
find_cases s e P here none = elim (dec_lt (find_entry s (used s) e) (used s)) [
  | yes l ↦ here (find_entry s (used s) e) l (found_is s (used s) e l)
  | no l ↦
      let end : find_entry s (used s) e ≡ used s = first_none (is_entry s e) (used s) 0 (first_fails (is_entry s e) (used s) 0 (omega arith)) ∙ omega arith in
      subst P (sym end) (none (none_found s (used s) e (omega arith)))
]
