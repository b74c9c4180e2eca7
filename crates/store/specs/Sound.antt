-- "A store is sound if n, q and the list keep the rules of groups L1 to L6, the length is at least 3 + 2q, used is at most room, each
-- entry's question number is 1 to q, its handles are smaller than its own and differ, an entry that another entry's handle names has a
-- larger question number than that other entry, no two entries are equal, and unused words are zero." Document 02 (ix): "within a later call an
-- unknown order is 22", and the length is at least 4 + 2q.
use Rattle.std.specs.Prelude.{ℕ, zero, suc, ◌+◌, ◌-◌, ◌*◌, Bool, true, false, cond, not, ◌&&◌, List, [], ◌∷◌, eqb, leb, ltb, length, drop}
use Rattle.terms.specs.Order.{order_of, order_named, if_known}
use Rattle.terms.specs.declared.limits.Limits.{Limits}
use Rattle.store.specs.declared.entries.Entry.{Entry}
use Rattle.store.specs.Layout.{field_count, question_count, used, store_order, list_words, entries_start, entry, leaves, room}
use Rattle.terms.specs.Limits.{terms_within}
use Rattle.store.specs.Open.{list_fault}
use Rattle.store.specs.Opened.{is_accepted}

-- the test passes for each number below
unfoldable pub all_below : ℕ → (ℕ → Bool) → Bool
all_below zero p = true
all_below (suc k) p = all_below k p && p k

unfoldable pub all_zero : List ℕ → Bool
all_zero [] = true
all_zero (w ∷ ws) = eqb w 0 && all_zero ws

-- the list keeps the rules L4 to L6 in the order that the store itself names; where it names none, no list does
unfoldable pub list_sound : Limits → List ℕ → Bool
list_sound limits s =
    if_known (order_named (store_order s))
    (λ order. is_accepted (list_fault (order_of order) (terms_within limits (field_count s)) (list_words s) (question_count s) 0)) false

-- "n, q and the list keep the rules of groups L1 to L6, the length is at least 3 + 2q", by document 02 (ix) 4 + 2q
unfoldable pub heading_sound : Limits → List ℕ → Bool
heading_sound limits s =
    leb (field_count s) limits.terms.field.0
    && leb (question_count s) limits.questions
    && leb (entries_start s) (length s)
    && list_sound limits s

-- "an entry that another entry's handle names has a larger question number than that other entry"; a leaf is no entry
abbrev pub asks_before : List ℕ → Entry → ℕ → Bool
asks_before s e handle = cond (ltb handle leaves) true (ltb e.question (entry s (handle - leaves)).question)

-- "each entry's question number is 1 to q, its handles are smaller than its own and differ": the i-th entry, whose handle is i + 2
unfoldable pub entry_sound : List ℕ → ℕ → Bool
entry_sound s i =
    let e = entry s i in
    leb 1 e.question && leb e.question (question_count s)
    && ltb e.yes (i + leaves) && ltb e.no (i + leaves)
    && not (eqb e.yes e.no)
    && asks_before s e e.yes && asks_before s e e.no

abbrev pub same_entry : Entry → Entry → Bool
same_entry d e = eqb d.question e.question && eqb d.yes e.yes && eqb d.no e.no

-- "no two entries are equal": of the first k
unfoldable pub differ_below : List ℕ → ℕ → Bool
differ_below s k = all_below k (λ i. all_below i (λ j. not (same_entry (entry s j) (entry s i))))

unfoldable pub sound : Limits → List ℕ → Bool
sound limits s =
    heading_sound limits s
    && leb (used s) (room limits s)
    && all_below (used s) (entry_sound s)
    && differ_below s (used s)
    && all_zero (drop (entries_start s + 3 * used s) s)
