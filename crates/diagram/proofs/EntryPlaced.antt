-- An entry that is placed is found, or there is room for it after the last, or the store is full.
use Prim.Native.Nat.{ℕ, ◌+◌, ◌≤◌, ◌<◌}
use mathlib.Core.Path.{◌≡◌}
use mathlib.Core.Bool.{cond}
use mathlib.Core.List.{List}
use native.Mathlib.Omega.{arith}
use borrow.Author.Tests.{lt-ltb, le-ltb}
use lib.Dec.{ltb}
use Rattle.std.proofs.Common.{Option, Some, None}
use Rattle.diagram.specs.Insert.{add_entry, place_entry}
use Rattle.store.specs.declared.entries.Entry.{Entry}
use Rattle.store.specs.Entries.{with_entry}
use Rattle.store.specs.Layout.{used, entry, leaves, room}
use Rattle.store.specs.Outcome.{Outcome, outcome}
use Rattle.terms.specs.declared.limits.Limits.{Limits}
use Rattle.store.proofs.EntryFound.{Absent, find_cases}
use Rattle.terms.proofs.Cases.{by_lt}

pub place_cases : (limits : Limits) (s : List ℕ) (e : Entry) (P : Outcome (Option ℕ) → Type 0) → ((i : ℕ) → i < used s → entry s i ≡ e → P (outcome (Some (i + leaves)) s))
    → (Absent s e → used s < room limits s → P (outcome (Some (used s + leaves)) (with_entry s e)))
    → (Absent s e → room limits s ≤ used s → P (outcome None s)) → P (place_entry limits s e)
unfolding place_entry add_entry
place_cases limits s e P found added full = find_cases s e (λ i. P (cond (ltb i (used s)) (outcome (Some (i + leaves)) s) (add_entry limits s e)))
    (λ i h d. rw (lt-ltb i (used s) h) (found i h d))
    (λ a. rw (le-ltb (used s) (used s) (omega arith)) (
    by_lt (λ t. P (cond t (outcome (Some (used s + leaves)) (with_entry s e)) (outcome None s))) (used s) (room limits s) (added a) (full a)))
