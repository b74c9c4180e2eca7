-- The rows that are written back: two rows for the leaves, then two for each reachable entry, each well formed, since a handle that an entry
-- names is marked and has a lower row.
use Prim.Native.Nat.{ℕ, zero, suc, ◌+◌, ◌-◌, ◌*◌, ◌<◌}
use mathlib.Core.Path.{◌≡◌, refl, ◌∙◌, ap, subst}
use mathlib.Core.Logic.{◌≢◌}
use mathlib.Core.Bool.{Bool, true, false, cond}
use mathlib.Core.List.{List, [], ◌∷◌}
use native.Mathlib.Omega.{arith}
use native.Mathlib.Decide.{dec_lt, ℕ_discrete}
use borrow.Author.Tests.{eq-eqb, ne_eqb, lt-ltb}
use lib.ListN.{length, get_or, get_or-append}
use lib.Seq.{get_or-append-add}
use Rattle.store.specs.Layout.{question_start, question, entry, leaves, used}
use Rattle.store.specs.SoundParts.{Sound}
use Rattle.tables.specs.declared.decoding.Part.TheVariants as part
use Rattle.tables.specs.declared.decoding.Shape.TheVariants.{Leaf, Equation, Choice}
use Rattle.tables.specs.declared.row.Row.{Row}
use Rattle.tables.specs.Decoding.{decode}
use Rattle.tables.specs.Faults.{well_formed}
use Rattle.tables.specs.Rows.{row, row_length, row_count}
use Rattle.terms.specs.declared.limits.Limits.{Limits}
use Rattle.writing.specs.WriteBack.{reachable, marked_before, row_of, entry_rows, entries_rows, written_rows, written_count}
use Rattle.writing.specs.WrittenRow.{WrittenRow}
use Rattle.store.proofs.StoreWords.{question_words}
use Rattle.terms.proofs.Cases.{by_test, by_eq}
use Rattle.writing.proofs.Marks.{marked_closed}
use Rattle.writing.proofs.MarkedRows.{before_marked, before_unmarked, row_of_lower, entries_length, entry_word}

-- the rows of the leaves, never and always
abbrev pub leaf_rows : List ℕ
leaf_rows = 0 ∷ 0 ∷ 0 ∷ 0 ∷ 1 ∷ 0 ∷ 0 ∷ 0 ∷ []

module _ (s : List ℕ) (h : ℕ) where
  -- how many entries may be reachable from the handle, counted from the first
  abbrev pub entries_to : ℕ
  entries_to = suc h - leaves

  pub rows_of_never : h ≡ 0 → written_rows s h ≡ 0 ∷ 0 ∷ 0 ∷ 0 ∷ []
  unfolding written_rows
  rows_of_never e = rw (eq-eqb h 0 e) refl

  pub rows_of_other : h ≢ 0 → written_rows s h ≡ 0 ∷ 0 ∷ 0 ∷ 0 ∷ 1 ∷ 0 ∷ 0 ∷ 0 ∷ entries_rows s (reachable s h) entries_to
  unfolding written_rows
  rows_of_other n = rw (ne_eqb h 0 n) refl

  pub count_of_other : h ≢ 0 → written_count s h ≡ 2 + 2 * marked_before (reachable s h) entries_to
  count_of_other n = rw (ne_eqb h 0 n) refl

  pub written_length : length (written_rows s h) ≡ row_length * written_count s h
  unfolding written_rows
  written_length = by_eq
      (λ t. length (cond t (0 ∷ 0 ∷ 0 ∷ 0 ∷ []) (0 ∷ 0 ∷ 0 ∷ 0 ∷ 1 ∷ 0 ∷ 0 ∷ 0 ∷ entries_rows s (reachable s h) entries_to))
      ≡ row_length * cond t 1 (2 + 2 * marked_before (reachable s h) entries_to)) h 0
      (λ _. refl) (λ _. omega (arith, entries_length (reachable s h) s entries_to))

  -- The table has as many rows as is answered.
  pub written_row_count : row_count (written_rows s h) ≡ written_count s h
  written_row_count = omega (arith, written_length)

  module _ (n : h ≢ 0) where
    -- the words after the rows of the leaves
    later_word : (k : ℕ) → get_or (written_rows s h) (8 + k) 0 ≡ get_or (entries_rows s (reachable s h) entries_to) k 0
    later_word k = ap (λ t. get_or t (8 + k) 0) (rows_of_other n) ∙ get_or-append-add leaf_rows (entries_rows s (reachable s h) entries_to) k 0

    -- a word of a marked entry's two rows
    word_of_entry : (i : ℕ) → i < entries_to → get_or (reachable s h) (i + leaves) false ≡ true → (t at : ℕ) → t < 8
        → at ≡ 8 + (8 * marked_before (reachable s h) i + t) → get_or (written_rows s h) at 0 ≡ get_or (entry_rows s (reachable s h) i) t 0
    word_of_entry i l m t at k e =
        ap (λ x. get_or (written_rows s h) x 0) e ∙ later_word (8 * marked_before (reachable s h) i + t) ∙ entry_word (reachable s h) s i entries_to l m t k

-- the rows of marked entries, counted from the first: the first and the second of some entry
data RowPlace (marks : List Bool) (k r : ℕ) : Type 0 where
  first_of : (i : ℕ) → i < k → get_or marks (i + leaves) false ≡ true → r ≡ 2 * marked_before marks i → RowPlace marks k r
  second_of : (i : ℕ) → i < k → get_or marks (i + leaves) false ≡ true → r ≡ 1 + 2 * marked_before marks i → RowPlace marks k r

one_more : {marks : List Bool} {k r : ℕ} → RowPlace marks k r → RowPlace marks (suc k) r
one_more (first_of i h m e) = first_of i (omega arith) m e
one_more (second_of i h m e) = second_of i (omega arith) m e

placed : (marks : List Bool) (k r : ℕ) → r < 2 * marked_before marks k → RowPlace marks k r
unfolding marked_before
placed marks zero r h = absurd (omega arith)
placed marks (suc k) r h = by_test (λ t. get_or marks (k + leaves) false ≡ t → RowPlace marks (suc k) r) (get_or marks (k + leaves) false)
    (λ _ m. let b = before_marked marks k m in elim (dec_lt r (2 * marked_before marks k)) [
      | yes l ↦ one_more (placed marks k r l)
      | no l ↦ elim (ℕ_discrete r (2 * marked_before marks k)) [
        | yes e ↦ first_of k (omega arith) m e
        | no e ↦ second_of k (omega arith) m (omega arith)
      ]
    ])
    (λ _ m. one_more (placed marks k r (omega (arith, before_unmarked marks k m)))) refl

module _ {limits : Limits} {s : List ℕ} (snd : Sound limits s) (h : ℕ) (u : h < used s + leaves) (n : h ≢ 0) where
  -- the two rows of a marked entry
  module _ (i : ℕ) (l : i < suc h - leaves) (m : get_or (reachable s h) (i + leaves) false ≡ true) where
    abbrev before : ℕ
    before = marked_before (reachable s h) i

    abbrev word : (t at : ℕ) → t < 8 → at ≡ 8 + (8 * before + t) → get_or (written_rows s h) at 0 ≡ get_or (entry_rows s (reachable s h) i) t 0
    word = word_of_entry s h n i l m

    abbrev first : Row
    first = row (written_rows s h) (2 + 2 * before)

    abbrev second : Row
    second = row (written_rows s h) (3 + 2 * before)

    first_kind : first.kind ≡ 2
    unfolding entry_rows
    first_kind = word 0 _ (omega arith) (omega arith)

    first_a : first.a ≡ get_or s (question_start (entry s i).question) 0
    unfolding entry_rows
    first_a = word 1 _ (omega arith) (omega arith)

    first_b : first.b ≡ get_or s (question_start (entry s i).question + 1) 0
    unfolding entry_rows
    first_b = word 2 _ (omega arith) (omega arith)

    first_c : first.c ≡ 0
    unfolding entry_rows
    first_c = word 3 _ (omega arith) (omega arith)

    second_kind : second.kind ≡ 5
    unfolding entry_rows
    second_kind = word 4 _ (omega arith) (omega arith)

    second_a : second.a ≡ 2 + 2 * before
    unfolding entry_rows
    second_a = word 5 _ (omega arith) (omega arith)

    second_b : second.b ≡ row_of (reachable s h) (entry s i).yes
    unfolding entry_rows
    second_b = word 6 _ (omega arith) (omega arith)

    second_c : second.c ≡ row_of (reachable s h) (entry s i).no
    unfolding entry_rows
    second_c = word 7 _ (omega arith) (omega arith)

    pub yes_row_lower : row_of (reachable s h) (entry s i).yes < 2 + 2 * before
    yes_row_lower = row_of_lower (reachable s h) (entry s i).yes i (snd.entry_kept i (omega arith)).yes_below (marked_closed snd h u i l m).0

    pub no_row_lower : row_of (reachable s h) (entry s i).no < 2 + 2 * before
    no_row_lower = row_of_lower (reachable s h) (entry s i).no i (snd.entry_kept i (omega arith)).no_below (marked_closed snd h u i l m).1

    -- what they stand for
    pub first_shape : decode first ≡ Equation (question s (entry s i).question)
    unfolding decode
    first_shape =
        let k = snd.entry_kept i (omega arith) in
        rw (first_kind, first_a, first_b, question_words s (entry s i).question k.asks_some k.asks_listed)

    pub second_shape : decode second ≡ Choice (part.Row (2 + 2 * before)) (part.Row (row_of (reachable s h) (entry s i).yes)) (part.Row (row_of (reachable s h) (entry s i).no))
    unfolding decode
    second_shape = rw (second_kind, second_a, second_b, second_c)

    first_formed : WrittenRow s (2 + 2 * before) first
    unfolding well_formed
    first_formed =
        let k = snd.entry_kept i (omega arith) in
        record { formed = rw (first_kind, first_c); shape = rw first_shape ((entry s i).question, k.asks_some, k.asks_listed, refl) }

    second_formed : WrittenRow s (3 + 2 * before) second
    unfolding well_formed
    second_formed = record {
      formed = rw (
        second_kind,
        lt-ltb second.a (3 + 2 * before) (omega (arith, second_a)),
        lt-ltb second.b (3 + 2 * before) (omega (arith, second_b, yes_row_lower)),
        lt-ltb second.c (3 + 2 * before) (omega (arith, second_c, no_row_lower)),
      );
      shape = rw second_shape (tt, tt, tt);
    }

  pub leaf_word : (k : ℕ) → k < 8 → get_or (written_rows s h) k 0 ≡ get_or leaf_rows k 0
  leaf_word k l = ap (λ t. get_or t k 0) (rows_of_other s h n) ∙ get_or-append leaf_rows (entries_rows s (reachable s h) (suc h - leaves)) 0 k l

  -- the shapes of the leaves' rows
  pub never_shape : decode (row (written_rows s h) 0) ≡ Leaf false
  unfolding decode
  never_shape = rw (leaf_word 0 (omega arith))

  pub always_shape : decode (row (written_rows s h) 1) ≡ Leaf true
  unfolding decode
  always_shape = rw (leaf_word 4 (omega arith))

  row_formed : (r : ℕ) → r < 2 * marked_before (reachable s h) (suc h - leaves) → WrittenRow s (2 + r) (row (written_rows s h) (2 + r))
  row_formed r l = go r (placed (reachable s h) (suc h - leaves) r l)
    where
      go : (r : ℕ) → RowPlace (reachable s h) (suc h - leaves) r → WrittenRow s (2 + r) (row (written_rows s h) (2 + r))
      go r (first_of i k m e) = rw e (first_formed i k m)
      go r (second_of i k m e) =
          let d : 2 + r ≡ 3 + 2 * marked_before (reachable s h) i = omega arith in
          rw d (second_formed i k m)

-- a row of kind 0 or 1 with nothing beside it
leaf_formed : (s : List ℕ) (i : ℕ) (r : Row) (b : Bool) → decode r ≡ Leaf b → well_formed i r ≡ true → WrittenRow s i r
leaf_formed s i r b e f = record { formed = f; shape = rw e tt }

module _ (s : List ℕ) (i : ℕ) (r : Row) (a : r.a ≡ 0) (b : r.b ≡ 0) (c : r.c ≡ 0) where
  never_formed : r.kind ≡ 0 → WrittenRow s i r
  unfolding decode well_formed
  never_formed k = leaf_formed s i r false (rw k) (rw (k, a, b, c))

  always_formed : r.kind ≡ 1 → WrittenRow s i r
  unfolding decode well_formed
  always_formed k = leaf_formed s i r true (rw k) (rw (k, a, b, c))

-- Every written row is one that build takes.
pub written_formed : {limits : Limits} {s : List ℕ} → Sound limits s → (h : ℕ) → h < used s + leaves → (i : ℕ) → i < written_count s h
    → WrittenRow s i (row (written_rows s h) i)
written_formed {s = s} snd h u = elim (ℕ_discrete h 0) [
  | yes e ↦ λ i l. let d : i ≡ 0 = omega (arith, ap (λ t. cond t 1 (2 + 2 * marked_before (reachable s h) (suc h - leaves))) (eq-eqb h 0 e)) in
      rw (d, rows_of_never s h e) (never_formed s 0 (row (0 ∷ 0 ∷ 0 ∷ 0 ∷ []) 0) refl refl refl refl)
  | no n ↦ λ i l. let at = leaf_word snd h u n in elim (ℕ_discrete i 0) [
    | yes d ↦ rw d (never_formed s 0 (row (written_rows s h) 0) (at 1 (omega arith)) (at 2 (omega arith)) (at 3 (omega arith)) (at 0 (omega arith)))
    | no d ↦ elim (ℕ_discrete i 1) [
      | yes c ↦ rw c (always_formed s 1 (row (written_rows s h) 1) (at 5 (omega arith)) (at 6 (omega arith)) (at 7 (omega arith)) (at 4 (omega arith)))
      | no c ↦
          let e : 2 + (i - 2) ≡ i = omega arith in
          subst (λ k. WrittenRow s k (row (written_rows s h) k)) e (row_formed snd h u n (i - 2) (omega (arith, count_of_other s h n)))
    ]
  ]
]
