-- What placing an entry is on each way through the code: the tests on that way decide its own tests.
use Prim.Native.Nat.{ℕ, ◌+◌, ◌≤◌, ◌<◌}
use mathlib.Core.Path.{◌≡◌, ap, sym, ◌∙◌}
use mathlib.Core.List.{List}
use native.Mathlib.Omega.{arith}
use borrow.Author.Tests.{lt-ltb, le-ltb}
use lib.Dec.{ltb}
use Rattle.std.proofs.Common.{Option, Some, None, cond}
use Rattle.diagram.specs.Insert.{add_entry, place_entry}
use Rattle.terms.specs.declared.limits.Limits.{Limits}
use Rattle.store.specs.declared.entries.Entry.{Entry}
use Rattle.index.specs.Needs.{found}
use Rattle.index.proofs.StoreIndex.{found_entry}
use Rattle.store.specs.Entries.{find_entry, with_entry}
use Rattle.store.specs.Sound.{same_entry}
use Rattle.terms.proofs.Cases.{by_lt}
use Rattle.store.specs.Layout.{used, leaves, entry, room}
use Rattle.store.specs.Outcome.{outcome}

-- ---- placing
module _ (limits : Limits) (s : List ℕ) (e : Entry) where
  added : used s < room limits s → outcome (Some (used s + leaves)) (with_entry s e) ≡ add_entry limits s e
  unfolding add_entry
  added h = rw (lt-ltb (used s) (room limits s) h)

  not_added : room limits s ≤ used s → outcome None s ≡ add_entry limits s e
  unfolding add_entry
  not_added h = rw (le-ltb (used s) (room limits s) h)

module _ (limits : Limits) (s : List ℕ) (e : Entry) {o : Option ℕ} {n : ℕ} (all : n ≡ used s) (eo : o ≡ found (entry s) same_entry e n) where
  answer : o ≡ cond (ltb (find_entry s (used s) e) (used s)) (Some (find_entry s (used s) e)) None
  answer = eo ∙ found_entry s n e ∙ ap (λ k. cond (ltb (find_entry s k e) k) (Some (find_entry s k e)) None) all

  pub placed_again : {i : ℕ} → o ≡ Some i → outcome (Some (i + leaves)) s ≡ place_entry limits s e
  unfolding place_entry
  placed_again {i} h = by_lt (λ t. Some i ≡ cond t (Some (find_entry s (used s) e)) None
      → outcome (Some (i + leaves)) s ≡ cond t (outcome (Some (find_entry s (used s) e + leaves)) s) (add_entry limits s e)) (find_entry s (used s) e) (used s)
      (λ l d. let same : i ≡ find_entry s (used s) e = cc in rw same)
      (λ l d. absurd (let z : ◌≡◌ {A = ℕ} 0 1 = cc in omega arith))
      (sym h ∙ answer)

  module _ (h : o ≡ None) where
    pub none_there : used s ≤ find_entry s (used s) e
    none_there = by_lt (λ t. None ≡ cond t (Some (find_entry s (used s) e)) None → used s ≤ find_entry s (used s) e) (find_entry s (used s) e) (used s)
        (λ l d. absurd (let z : ◌≡◌ {A = ℕ} 0 1 = cc in omega arith))
        (λ l d. l)
        (sym h ∙ answer)

    absent : add_entry limits s e ≡ place_entry limits s e
    unfolding place_entry
    absent = rw (le-ltb (find_entry s (used s) e) (used s) none_there)

    module _ {u r : ℕ} (eu : u ≡ used s) (er : r ≡ room limits s) where
      pub placed_new : {t : List ℕ} → u < r → t ≡ with_entry s e → outcome (Some (u + leaves)) t ≡ place_entry limits s e
      placed_new l et = (λ k. outcome (Some (eu k + leaves)) (et k)) ∙ added limits s e (omega arith) ∙ absent

      pub placed_nowhere : r ≤ u → outcome None s ≡ place_entry limits s e
      placed_nowhere l = not_added limits s e (omega arith) ∙ absent
