-- The pass from a handle down marks just the handles that are reached: it marks only handles of marked entries, and since an entry's handles
-- are smaller than its own, an entry's flag no longer changes once the pass has come to it.
use Prim.Native.Nat.{ℕ, zero, suc, ◌+◌, ◌-◌, ◌≤◌, ◌<◌}
use mathlib.Core.Path.{◌≡◌, refl, sym, ◌∙◌, ap}
use mathlib.Core.Logic.{◌≢◌, ◌↔◌}
use mathlib.Core.Bool.{Bool, true, false, false≢true, cond, ◌&&◌, ◌||◌, or-true, or-false}
use mathlib.Core.List.{List}
use native.Mathlib.Omega.{arith}
use native.Mathlib.Decide.{ℕ_discrete}
use borrow.Author.Tests.{eq-eqb, ne_eqb}
use lib.Dec.{eqb}
use lib.ListN.{length, get_or, set, replicate, length-set, length-replicate}
use lib.Seq.{get_or-set_same, get_or-set_other}
use Rattle.terms.specs.declared.limits.Limits.{Limits}
use Rattle.store.specs.Layout.{entry, leaves, used}
use Rattle.writing.specs.WriteBack.{mark_parts, marks_down, reachable, Reaches, itself, by_yes, by_no}
use Rattle.terms.proofs.Cases.{by_test}
use Rattle.terms.proofs.OneValue.{all_alike}
use Rattle.store.proofs.ByHandles.{Falling}
use Rattle.store.specs.SoundParts.{Sound}
use Rattle.store.proofs.SoundTree.{falling}

-- ---- one entry
two_set : (marks : List Bool) (y n : ℕ) → y < length marks → n < length marks → (g : ℕ)
    → get_or (set (set marks y true) n true) g false ≡ (get_or marks g false || (eqb g y || eqb g n))
two_set marks y n hy hn g = elim (ℕ_discrete g n) [
  | yes e ↦ rw (eq-eqb g n e, e) (get_or-set_same (set marks y true) n true false (omega (arith, length-set marks y true))
      ∙ sym (ap (λ t. get_or marks n false || t) (or-true (eqb n y)) ∙ or-true (get_or marks n false)))
  | no d ↦ rw (ne_eqb g n d, or-false) (get_or-set_other (set marks y true) n g true false d ∙ elim (ℕ_discrete g y) [
    | yes e ↦ rw (eq-eqb g y e, e) (get_or-set_same marks y true false hy ∙ sym (or-true (get_or marks y false)))
    | no c ↦ rw (ne_eqb g y c, or-false) (get_or-set_other marks y g true false c)
  ])
]

module _ (s : List ℕ) (i : ℕ) (marks : List Bool) where
  pub parts_length : length (mark_parts s i marks) ≡ length marks
  unfolding mark_parts
  parts_length = by_test (λ t. length (cond t (set (set marks (entry s i).yes true) (entry s i).no true) marks) ≡ length marks) (get_or marks (i + leaves) false)
      (λ _. length-set (set marks (entry s i).yes true) (entry s i).no true ∙ length-set marks (entry s i).yes true) (λ _. refl)

  module _ (hy : (entry s i).yes < length marks) (hn : (entry s i).no < length marks) where
    -- a handle is marked after the entry if it was before, or if the entry is marked and names it
    parts_flag : (g : ℕ)
        → get_or (mark_parts s i marks) g false ≡ (get_or marks g false || (get_or marks (i + leaves) false && (eqb g (entry s i).yes || eqb g (entry s i).no)))
    unfolding mark_parts
    parts_flag g =
        let e = entry s i in
        by_test (λ t. get_or (cond t (set (set marks e.yes true) e.no true) marks) g false ≡ (get_or marks g false || (t && (eqb g e.yes || eqb g e.no))))
        (get_or marks (i + leaves) false)
        (λ _. two_set marks e.yes e.no hy hn g) (λ _. sym (or-false (get_or marks g false)))

    parts_keep : (g : ℕ) → get_or marks g false ≡ true → get_or (mark_parts s i marks) g false ≡ true
    parts_keep g e = rw (parts_flag g, e) refl

    -- a handle that is neither of the two has the flag that it had
    parts_other : (g : ℕ) → g ≢ (entry s i).yes → g ≢ (entry s i).no → get_or (mark_parts s i marks) g false ≡ get_or marks g false
    parts_other g y n = parts_flag g ∙ rw (ne_eqb g _ y, ne_eqb g _ n)
        (by_test (λ t. (get_or marks g false || (t && false)) ≡ get_or marks g false) (get_or marks (i + leaves) false) (λ _. or-false _) (λ _. or-false _))

    parts_yes : get_or marks (i + leaves) false ≡ true → get_or (mark_parts s i marks) (entry s i).yes false ≡ true
    parts_yes e = let y = (entry s i).yes in parts_flag y ∙ rw (e, eq-eqb y y refl) (or-true (get_or marks y false))

    parts_no : get_or marks (i + leaves) false ≡ true → get_or (mark_parts s i marks) (entry s i).no false ≡ true
    parts_no e = let n = (entry s i).no in parts_flag n ∙ rw (e, eq-eqb n n refl, or-true) (or-true (get_or marks n false))

-- ---- the pass
-- each of the entries from the k-th to the l-th that is marked has both its handles marked
Closed : List ℕ → ℕ → ℕ → List Bool → Type 0
Closed s k l marks = (i : ℕ) → k ≤ i → i < l → get_or marks (i + leaves) false ≡ true
    → (get_or marks (entry s i).yes false ≡ true) × (get_or marks (entry s i).no false ≡ true)

-- all that is marked is reached
OnlyReached : List ℕ → ℕ → List Bool → Type 0
OnlyReached s h marks = (g : ℕ) → get_or marks g false ≡ true → Reaches s h g

-- flags that agree below n
abbrev pub Alike : ℕ → List Bool → List Bool → Type 0
Alike n a b = (g : ℕ) → g < n → get_or a g false ≡ get_or b g false

module _ {s : List ℕ} {m : ℕ} (f : Falling s m) where
  module _ (k : ℕ) (marks : List Bool) (h : k < m) (l : k < length marks - leaves) where
    yes_in : (entry s k).yes < length marks
    yes_in = omega (arith, f.yes_below k h)

    no_in : (entry s k).no < length marks
    no_in = omega (arith, f.no_below k h)

    left_in : k ≤ length (mark_parts s k marks) - leaves
    left_in = omega (arith, parts_length s k marks)

    keep_part : (g : ℕ) → get_or marks g false ≡ true → get_or (mark_parts s k marks) g false ≡ true
    keep_part = parts_keep s k marks yes_in no_in

    -- the flags from the entry's own handle on stay
    same_above : (i : ℕ) → k ≤ i → get_or (mark_parts s k marks) (i + leaves) false ≡ get_or marks (i + leaves) false
    same_above i d = parts_other s k marks yes_in no_in (i + leaves) (omega (arith, f.yes_below k h)) (omega (arith, f.no_below k h))

    closed_part : (n : ℕ) → Closed s (suc k) n marks → Closed s k n (mark_parts s k marks)
    unfolding Closed
    closed_part n c i d u e =
        let was : get_or marks (i + leaves) false ≡ true = sym (same_above i d) ∙ e in
        elim (ℕ_discrete i k) [
          | yes q ↦ rw q ((parts_yes s k marks yes_in no_in (rw q at was)), (parts_no s k marks yes_in no_in (rw q at was)))
          | no q ↦ let both = c i (omega arith) u was in (keep_part _ both.0, keep_part _ both.1)
        ]

  down_keep : (k : ℕ) (marks : List Bool) → k ≤ m → k ≤ length marks - leaves → (g : ℕ)
      → get_or marks g false ≡ true → get_or (marks_down s k marks) g false ≡ true
  unfolding marks_down
  down_keep zero marks h l g e = e
  down_keep (suc k) marks h l g e =
      down_keep k (mark_parts s k marks) (omega arith) (left_in k marks (omega arith) (omega arith)) g (keep_part k marks (omega arith) (omega arith) g e)

  down_closed : (n k : ℕ) (marks : List Bool) → k ≤ m → k ≤ length marks - leaves → Closed s k n marks → Closed s 0 n (marks_down s k marks)
  unfolding marks_down
  down_closed n zero marks h l c = c
  down_closed n (suc k) marks h l c =
      down_closed n k (mark_parts s k marks) (omega arith) (left_in k marks (omega arith) (omega arith)) (closed_part k marks (omega arith) (omega arith) n c)

  only_part : (h k : ℕ) (marks : List Bool) → k < m → k < length marks - leaves → OnlyReached s h marks → OnlyReached s h (mark_parts s k marks)
  unfolding OnlyReached
  only_part h k marks b l only g = by_test (λ t. get_or marks (k + leaves) false ≡ t → get_or (mark_parts s k marks) g false ≡ true → Reaches s h g)
      (get_or marks (k + leaves) false)
      (λ _ t e. elim (ℕ_discrete g (entry s k).yes) [
        | yes y ↦ rw y (by_yes k (only (k + leaves) t))
        | no y ↦ elim (ℕ_discrete g (entry s k).no) [
          | yes n ↦ rw n (by_no k (only (k + leaves) t))
          | no n ↦ only g (sym (parts_other s k marks (yes_in k marks b l) (no_in k marks b l) g y n) ∙ e)
        ]
      ])
      (λ _ t e. only g (sym (parts_flag s k marks (yes_in k marks b l) (no_in k marks b l) g ∙ rw t (or-false (get_or marks g false))) ∙ e)) refl

  down_only : (h k : ℕ) (marks : List Bool) → k ≤ m → k ≤ length marks - leaves → OnlyReached s h marks → OnlyReached s h (marks_down s k marks)
  unfolding marks_down
  down_only h zero marks b l only = only
  down_only h (suc k) marks b l only =
      down_only h k (mark_parts s k marks) (omega arith) (left_in k marks (omega arith) (omega arith)) (only_part h k marks (omega arith) (omega arith) only)

  -- the pass reads and sets no flag from n on, so what agrees below n agrees there after it
  alike_part : (n k : ℕ) (a b : List Bool) → k < m → k < n - leaves → n ≤ length a → n ≤ length b → Alike n a b → Alike n (mark_parts s k a) (mark_parts s k b)
  alike_part n k a b h l la lb e g u =
      parts_flag s k a (yes_in k a h (omega arith)) (no_in k a h (omega arith)) g
      ∙ rw (e g u, e (k + leaves) (omega arith)) refl
      ∙ sym (parts_flag s k b (yes_in k b h (omega arith)) (no_in k b h (omega arith)) g)

  pub down_alike : (n k : ℕ) (a b : List Bool) → k ≤ m → k ≤ n - leaves → n ≤ length a → n ≤ length b → Alike n a b
      → Alike n (marks_down s k a) (marks_down s k b)
  unfolding marks_down
  down_alike n zero a b h l la lb e = e
  down_alike n (suc k) a b h l la lb e = down_alike n k (mark_parts s k a) (mark_parts s k b) (omega arith) (omega arith)
      (omega (arith, parts_length s k a)) (omega (arith, parts_length s k b)) (alike_part n k a b (omega arith) (omega arith) la lb e)

-- ---- the handles reachable from a handle
-- the flags that the pass from a handle begins with
abbrev pub first_marks : ℕ → List Bool
first_marks h = set (replicate (suc h) false) h true

pub first_length : (h : ℕ) → length (first_marks h) ≡ suc h
first_length h = length-set (replicate (suc h) false) h true ∙ length-replicate (suc h) false

module _ {limits : Limits} {s : List ℕ} (snd : Sound limits s) (h : ℕ) (l : h < used s + leaves) where
  first_only : OnlyReached s h (first_marks h)
  unfolding OnlyReached
  first_only g e = elim (ℕ_discrete g h) [
    | yes d ↦ rw d itself
    | no d ↦ absurd (false≢true (sym (get_or-set_other (replicate (suc h) false) h g true false d ∙ all_alike false (suc h) g) ∙ e))
  ]

  -- only what is reached is marked
  marked_reached : (g : ℕ) → get_or (reachable s h) g false ≡ true → Reaches s h g
  unfolding reachable OnlyReached
  marked_reached = down_only (falling snd) h (suc h - leaves) (first_marks h) (omega arith) (omega (arith, first_length h)) first_only

  -- the handle is marked
  pub handle_marked : get_or (reachable s h) h false ≡ true
  unfolding reachable
  handle_marked = down_keep (falling snd) (suc h - leaves) (first_marks h) (omega arith) (omega (arith, first_length h)) h
      (get_or-set_same (replicate (suc h) false) h true false (omega (arith, length-replicate (suc h) false)))

  -- both handles of a marked entry are marked
  pub marked_closed : (i : ℕ) → i < suc h - leaves → get_or (reachable s h) (i + leaves) false ≡ true
      → (get_or (reachable s h) (entry s i).yes false ≡ true) × (get_or (reachable s h) (entry s i).no false ≡ true)
  unfolding reachable Closed
  marked_closed i u = down_closed (falling snd) (suc h - leaves) (suc h - leaves) (first_marks h) (omega arith) (omega (arith, first_length h))
      (λ j a b _. absurd (omega arith)) i (omega arith) u

  reached_marked : (g : ℕ) → Reaches s h g → (g ≤ h) × (get_or (reachable s h) g false ≡ true)
  reached_marked g itself = (omega arith, handle_marked)
  reached_marked g (by_yes i r) =
      let at = reached_marked (i + leaves) r in
      (omega (arith, at.0, (snd.entry_kept i (omega (arith, at.0))).yes_below), (marked_closed i (omega (arith, at.0)) at.1).0)
  reached_marked g (by_no i r) =
      let at = reached_marked (i + leaves) r in
      (omega (arith, at.0, (snd.entry_kept i (omega (arith, at.0))).no_below), (marked_closed i (omega (arith, at.0)) at.1).1)

  -- The marks are exact.
  pub marks_exact : (g : ℕ) → (get_or (reachable s h) g false ≡ true) ↔ Reaches s h g
  marks_exact g = (marked_reached g, λ r. (reached_marked g r).1)
