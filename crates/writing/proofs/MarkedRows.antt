-- Where the rows of the marked entries stand: each marked entry takes two rows after those of the marked entries before it, and the rows
-- that it names are lower.
use Prim.Native.Nat.{ℕ, zero, suc, ◌+◌, ◌-◌, ◌*◌, ◌≤◌, ◌<◌}
use mathlib.Core.Path.{◌≡◌, refl, sym, ◌∙◌, ap}
use mathlib.Core.Bool.{Bool, true, false, cond}
use mathlib.Core.List.{List, [], ◌++◌}
use native.Mathlib.Omega.{arith}
use native.Mathlib.Decide.{dec_lt, ℕ_discrete}
use borrow.Author.Tests.{lt-ltb, le-ltb}
use lib.Dec.{ltb}
use lib.ListN.{length, get_or, length-append, get_or-append}
use lib.Seq.{get_or-append-add}
use Rattle.store.specs.Layout.{leaves}
use Rattle.writing.specs.WriteBack.{marked_before, row_of, entry_rows, entries_rows}
use Rattle.terms.proofs.Cases.{by_test}

module _ (marks : List Bool) where
  pub before_marked : (k : ℕ) → get_or marks (k + leaves) false ≡ true → marked_before marks (suc k) ≡ suc (marked_before marks k)
  unfolding marked_before
  before_marked k e = rw e refl

  pub before_unmarked : (k : ℕ) → get_or marks (k + leaves) false ≡ false → marked_before marks (suc k) ≡ marked_before marks k
  unfolding marked_before
  before_unmarked k e = rw e refl

  before_next : (k : ℕ) → marked_before marks k ≤ marked_before marks (suc k)
  before_next k = by_test (λ t. get_or marks (k + leaves) false ≡ t → marked_before marks k ≤ marked_before marks (suc k)) (get_or marks (k + leaves) false)
      (λ _ e. omega (arith, before_marked k e)) (λ _ e. omega (arith, before_unmarked k e)) refl

  pub before_rises : (i k : ℕ) → i ≤ k → marked_before marks i ≤ marked_before marks k
  before_rises i zero h = let e : i ≡ 0 = omega arith in rw e (omega arith)
  before_rises i (suc k) h = elim (ℕ_discrete i (suc k)) [
    | yes e ↦ rw e (omega arith)
    | no n ↦ omega (arith, before_rises i k (omega arith), before_next k)
  ]

  before_later : (i k : ℕ) → i < k → get_or marks (i + leaves) false ≡ true → marked_before marks i < marked_before marks k
  before_later i k h e = omega (arith, before_rises (suc i) k h, before_marked i e)

  pub before_few : (k : ℕ) → marked_before marks k ≤ k
  unfolding marked_before
  before_few zero = omega arith
  before_few (suc k) = by_test (λ t. cond t (suc (marked_before marks k)) (marked_before marks k) ≤ suc k) (get_or marks (k + leaves) false)
      (λ _. omega (arith, before_few k)) (λ _. omega (arith, before_few k))

  -- ---- the rows of handles
  pub row_of_leaf : (h : ℕ) → h < leaves → row_of marks h ≡ h
  unfolding row_of
  row_of_leaf h l = rw (lt-ltb h leaves l) refl

  pub row_of_entry : (i : ℕ) → row_of marks (i + leaves) ≡ 3 + 2 * marked_before marks i
  unfolding row_of
  row_of_entry i = let e : i + leaves - leaves ≡ i = omega arith in rw (le-ltb (i + leaves) leaves (omega arith), e) refl

  -- a marked handle that is smaller than an entry's own has a row before the entry's two
  pub row_of_lower : (g i : ℕ) → g < i + leaves → get_or marks g false ≡ true → row_of marks g < 2 + 2 * marked_before marks i
  row_of_lower g i h e = elim (dec_lt g leaves) [
    | yes l ↦ omega (arith, row_of_leaf g l)
    | no l ↦
        let d : g - leaves + leaves ≡ g = omega arith in
        let r : row_of marks g ≡ 3 + 2 * marked_before marks (g - leaves) = ap (row_of marks) (sym d) ∙ row_of_entry (g - leaves) in
        omega (arith, r, before_later (g - leaves) i (omega arith) (ap (λ x. get_or marks x false) d ∙ e))
  ]

  -- ---- the words of the rows
  module _ (s : List ℕ) where
    pub unmarked_rows : (k : ℕ) → get_or marks (k + leaves) false ≡ false → entries_rows s marks (suc k) ≡ entries_rows s marks k ++ []
    unfolding entries_rows
    unmarked_rows k e = rw e refl

    pub marked_rows : (k : ℕ) → get_or marks (k + leaves) false ≡ true → entries_rows s marks (suc k) ≡ entries_rows s marks k ++ entry_rows s marks k
    unfolding entries_rows
    marked_rows k e = rw e refl

    entry_length : (i : ℕ) → length (entry_rows s marks i) ≡ 8
    unfolding entry_rows
    entry_length i = refl

    pub entries_length : (k : ℕ) → length (entries_rows s marks k) ≡ 8 * marked_before marks k
    unfolding entries_rows marked_before
    entries_length zero = refl
    entries_length (suc k) =
        length-append (entries_rows s marks k) (cond (get_or marks (k + leaves) false) (entry_rows s marks k) [])
        ∙ by_test (λ t. length (entries_rows s marks k) + length (cond t (entry_rows s marks k) []) ≡ 8 * cond t (suc (marked_before marks k)) (marked_before marks k))
        (get_or marks (k + leaves) false)
        (λ _. omega (arith, entries_length k, entry_length k)) (λ _. omega (arith, entries_length k))

    -- the words of a marked entry stand after those of the marked entries before it
    pub entry_word : (i k : ℕ) → i < k → get_or marks (i + leaves) false ≡ true → (t : ℕ) → t < 8
        → get_or (entries_rows s marks k) (8 * marked_before marks i + t) 0 ≡ get_or (entry_rows s marks i) t 0
    unfolding entries_rows
    entry_word i zero h e t l = absurd (omega arith)
    entry_word i (suc k) h e t l = elim (ℕ_discrete i k) [
      | yes d ↦ rw (← d, e) (ap (λ x. get_or (entries_rows s marks i ++ entry_rows s marks i) (x + t) 0) (sym (entries_length i))
          ∙ get_or-append-add (entries_rows s marks i) (entry_rows s marks i) t 0)
      | no d ↦ get_or-append (entries_rows s marks k) (cond (get_or marks (k + leaves) false) (entry_rows s marks k) []) 0 (8 * marked_before marks i + t)
          (omega (arith, entries_length k, before_later i k (omega arith) e)) ∙ entry_word i k (omega arith) e t l
    ]

-- ---- flags that agree
before_alike : (a b : List Bool) (k : ℕ) → ((i : ℕ) → i < k → get_or a (i + leaves) false ≡ get_or b (i + leaves) false) → marked_before a k ≡ marked_before b k
unfolding marked_before
before_alike a b zero f = refl
before_alike a b (suc k) f = rw (f k (omega arith), before_alike a b k (λ i h. f i (omega arith))) refl

module _ (a b : List Bool) (n : ℕ) (f : (g : ℕ) → g < n → get_or a g false ≡ get_or b g false) where
  pub count_alike : marked_before a (n - leaves) ≡ marked_before b (n - leaves)
  count_alike = before_alike a b (n - leaves) (λ i h. f (i + leaves) (omega arith))

  pub row_alike : (g : ℕ) → g < n → row_of a g ≡ row_of b g
  unfolding row_of
  row_alike g h = ap (λ k. cond (ltb g leaves) g (3 + 2 * k)) (before_alike a b (g - leaves) (λ i l. f (i + leaves) (omega arith)))
