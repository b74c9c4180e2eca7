-- After an entry is placed all used entries are in the index: nothing was written, or the entry that is new is put there beside those before it,
-- which are as they were.
use Prim.Native.Nat.{ℕ, ◌+◌, ◌≤◌, ◌<◌}
use mathlib.Core.Path.{◌≡◌, refl}
use mathlib.Core.List.{List}
use native.Mathlib.Omega.{arith}
use Rattle.index.specs.declared.chains.Index.{Index}
use Rattle.index.specs.Needs.{hash_of, Holds}
use Rattle.index.proofs.StoreIndex.{searchable_added}
use Rattle.terms.specs.declared.limits.Limits.{Limits}
use Rattle.store.specs.declared.entries.Entry.{Entry}
use Rattle.store.specs.Entries.{find_entry, with_entry}
use Rattle.store.specs.Layout.{used, entries_start, entry, room}
use Rattle.store.specs.Needs.{CanAppend}
use Rattle.walking.specs.Needs.{InIndex, CanPlace}
use Rattle.store.proofs.EntryAdded.{length_added, agree_added, used_added, entry_added}
use Rattle.store.proofs.StoreWords.{questions_agree, entry_agrees}

module _ {limits : Limits} {s : List ℕ} {x : Index} (can : CanPlace limits s x) where
  module _ {u r : ℕ} (eu : u ≡ used s) (er : r ≡ room limits s) (more : u < r) where
    pub can_append : CanAppend s
    can_append = record { next_in = omega arith; few = omega (arith, can.fit.entries_fit) }

    module _ (e : Entry) {t : List ℕ} (et : t ≡ with_entry s e) where
      same : (i : ℕ) → i < x.count → entry t i ≡ entry s i
      same i h = rw et (entry_agrees (agree_added s e) i (omega (arith, can.index.all)))

      begin : entries_start t ≡ entries_start s
      begin = rw et (omega (arith, questions_agree (agree_added s e)))

      new : entry t x.count ≡ e
      new = rw (et, can.index.all) (entry_added s e can_append.next_in)

      pub indexed_new : {x' : Index} → used s ≤ find_entry s (used s) e → x'.count ≡ x.count + 1
          → ((f : ℕ → ℕ) → f x.count ≡ hash_of e → Holds f x → Holds f x') → InIndex t x'
      indexed_new {x'} none c put =
          let one_more : used t ≡ used s + 1 = rw et (used_added s e can_append.next_in) in
          let count : x'.count ≡ used t = omega (arith, c, can.index.all, one_more) in
          record {
            all = count;
            ready = searchable_added s t same new (rw can.index.all none) c put can.index.ready
                (record { begin = refl; within = omega (arith, can_append.next_in, rw (← et) at (length_added s e), count, one_more, begin); few = omega (arith, can.fit.entries_fit, count, one_more) });
          }
