-- A field's least count is found among its offset and the next counts, one more of them than there are noes: a no that is not settled shuts
-- out one count of a free field at most, and among that many counts one is shut out by none.
use Prim.Native.Nat.{ℕ, zero, suc, ◌+◌, ◌-◌, ◌≤◌}
use mathlib.Core.Path.{◌≡◌, refl, sym, ap, ◌∙◌}
use mathlib.Core.Logic.{◌≢◌}
use mathlib.Core.Bool.{Bool, true, false, cond, not, ◌&&◌, true≢false, false≢true}
use mathlib.Core.List.{List, [], ◌∷◌}
use native.Mathlib.Omega.{arith}
use native.Mathlib.Decide.{ℕ_discrete}
use lib.Dec.{eqb}
use lib.ListN.{length}
use Rattle.terms.specs.declared.term.Equation.{Equation}
use Rattle.facts.specs.State.{ZeroKept, Classes, State, left_side, right_side, settled, none_settled, free, joined, join, planned, some_sheet}
use Rattle.facts.specs.Least.{can_count, least_count}
use Rattle.terms.proofs.Cases.{by_eq, by_test}
use Rattle.facts.proofs.PlanCases.{plan_cases, settled_cases}
use Rattle.facts.proofs.StateFree.{free_fit}
use Rattle.facts.proofs.LeastSheet.{count_fits, least_count_can, least_count_le}

-- ---- a number that a list has not
has : List ℕ → ℕ → Bool
has [] x = false
has (y ∷ ys) x = cond (eqb y x) true (has ys x)

without : ℕ → List ℕ → List ℕ
without x [] = []
without x (y ∷ ys) = cond (eqb y x) ys (y ∷ without x ys)

shorter : (x : ℕ) (ys : List ℕ) → has ys x ≡ true → suc (length (without x ys)) ≡ length ys
unfolding has without
shorter x [] = λ h. absurd (false≢true h)
shorter x (y ∷ ys) = by_eq (λ t. cond t true (has ys x) ≡ true → suc (length (cond t ys (y ∷ without x ys))) ≡ suc (length ys)) y x
    (λ _ _. refl) (λ _ h. ap suc (shorter x ys h))

without_others : (x d : ℕ) → x ≢ d → (ys : List ℕ) → has (without x ys) d ≡ false → has ys d ≡ false
unfolding has without
without_others x d n [] = λ _. refl
without_others x d n (y ∷ ys) = by_eq (λ t. has (cond t ys (y ∷ without x ys)) d ≡ false → has (y ∷ ys) d ≡ false) y x
    (λ e h. by_eq (λ t. cond t true (has ys d) ≡ false) y d (λ g. absurd (n (sym e ∙ g))) (λ _. h))
    (λ _. by_eq (λ t. cond t true (has (without x ys) d) ≡ false → cond t true (has ys d) ≡ false) y d (λ _ h. h) (λ _ h. without_others x d n ys h))

not_in : (n : ℕ) (ys : List ℕ) → length ys ≡ n → (d : ℕ) × (d ≤ n) × (has ys d ≡ false)
unfolding has
not_in zero [] e = (0, omega arith, refl)
not_in zero (y ∷ ys) e = absurd (omega (arith, e))
not_in (suc n) ys e =
    by_test (λ t. has ys (suc n) ≡ t → (d : ℕ) × (d ≤ suc n) × (has ys d ≡ false)) (has ys (suc n))
    (λ _ h. let r = not_in n (without (suc n) ys) (omega (arith, e, shorter (suc n) ys h)) in
    (r.0, omega (arith, r.1), without_others (suc n) r.0 (λ g. omega (arith, g, r.1)) ys r.2))
    (λ _ h. (suc n, omega arith, h)) refl

-- ---- what a no shuts out
-- how far apart the two sides are
distance : Classes → Equation → ℕ
distance c q = (left_side c q - right_side c q) + (right_side c q - left_side c q)

distances : Classes → List Equation → List ℕ
distances c [] = []
distances c (q ∷ qs) = distance c q ∷ distances c qs

distances_length : (c : Classes) (qs : List Equation) → length (distances c qs) ≡ length qs
unfolding distances
distances_length c [] = refl
distances_length c (q ∷ qs) = ap suc (distances_length c qs)

-- joining class p to class t settles a question that was not, at one distance only
module _ (c : Classes) (t p d : ℕ) (q : Equation) where
  abbrev left_class : ℕ
  left_class = c.class q.left.field.0

  abbrev right_class : ℕ
  right_class = c.class q.right.field.0

  -- by whether the two sides are in class p
  abbrev AtOneDistance : Bool → Bool → Type 0
  AtOneDistance x y =
      cond x t left_class ≡ cond y t right_class
      → cond x (c.offset q.left.field.0 + d) (c.offset q.left.field.0) + q.left.steps.0
      ≡ cond y (c.offset q.right.field.0 + d) (c.offset q.right.field.0) + q.right.steps.0
      → distance c q ≡ d

  apart : settled c q ≡ false → left_class ≡ right_class → left_side c q ≢ right_side c q
  apart = settled_cases (λ b. b ≡ false → left_class ≡ right_class → left_side c q ≢ right_side c q) c q (λ _ _ f. absurd (true≢false f)) (λ n _. n)

  one_distance : settled c q ≡ false → settled (joined c (join t p d)) q ≡ true → distance c q ≡ d
  unfolding distance
  one_distance m = settled_cases (λ b. b ≡ true → distance c q ≡ d) (joined c (join t p d)) q
      (λ h g _. by_eq (λ x. AtOneDistance x (eqb right_class p)) left_class p
      (λ e. by_eq (AtOneDistance true) right_class p (λ k _ g. absurd (apart m (e ∙ sym k) (omega arith))) (λ _ _ g. omega arith))
      (λ _. by_eq (AtOneDistance false) right_class p (λ _ _ g. omega arith) (λ _ h g. absurd (apart m h g))) h g)
      (λ _ f. absurd (false≢true f))

none_shut_out : (c : Classes) (t p d : ℕ) (qs : List Equation) → none_settled c qs ≡ true → has (distances c qs) d ≡ false → none_settled (joined c (join t p d)) qs ≡ true
unfolding has distances
none_shut_out c t p d [] = λ _ _. refl
none_shut_out c t p d (q ∷ qs) =
    by_test (λ b. (not b && none_settled c qs) ≡ true → has (distances c (q ∷ qs)) d ≡ false → none_settled j (q ∷ qs) ≡ true) (settled c q)
    (λ _ h. absurd (false≢true h))
    (λ m h. by_eq (λ b. cond b true (has (distances c qs) d) ≡ false → none_settled j (q ∷ qs) ≡ true) (distance c q) d
    (λ _ g. absurd (true≢false g))
    (λ n g. by_test (λ b. (not b && none_settled j qs) ≡ true) (settled j q)
    (λ u. absurd (n (one_distance c t p d q m u)))
    (λ _. none_shut_out c t p d qs h g)))
  where
    j : Classes
    j = joined c (join t p d)

-- ---- the candidates
module _ (s : State) (z : ZeroKept s.classes) (t : free s ≡ true) (f : ℕ) where
  -- a count that no no shuts out
  can_from_offset : (d : ℕ) → s.classes.class f ≢ 0 → has (distances s.classes s.noes) d ≡ false → can_count s f (s.classes.offset f + d) ≡ true
  can_from_offset d n h =
      let c = s.classes in
      let a = c.offset f + 0 in
      let b = c.offset 0 + (c.offset f + d) in
      let joins : (k : ℕ) → k ≡ d → none_settled (joined c (join (c.class 0) (c.class f) k)) s.noes ≡ true =
      λ k e. rw e (none_shut_out c (c.class 0) (c.class f) d s.noes t h) in
      plan_cases (λ x. free (planned s x) ≡ true) (c.class f) (c.class 0) a b
      (λ _ _. t)
      (λ e _. absurd (n (e ∙ z.class_zero)))
      (λ _ _ e. joins 0 (omega (arith, e, z.offset_zero)))
      (λ _ _ l. absurd (omega (arith, l, z.offset_zero)))
      (λ _ m _. absurd (m z.class_zero))
      (λ _ e _. absurd (n e))
      (λ _ _ l. joins (b - a) (omega (arith, l, z.offset_zero)))

  -- the least count is the offset or one of the next counts, as many as there are noes
  pub few_candidates : (s.classes.offset f ≤ least_count s f) × (least_count s f ≤ s.classes.offset f + length s.noes)
  few_candidates = (
    let w = count_fits s z f (least_count s f) (least_count_can s z t f) in
        omega (arith, w.1.classed.at_field f, w.2),
    elim (ℕ_discrete (s.classes.class f) 0) [
      | yes e ↦
          let k = free_fit s z t in
          omega (arith, least_count_le s z t f (some_sheet s) k, k.classed.at_field f, ap k.base e, k.classed.at_zero)
      | no n ↦
          let r = not_in (length s.noes) (distances s.classes s.noes) (distances_length s.classes s.noes) in
          let w = count_fits s z f (s.classes.offset f + r.0) (can_from_offset r.0 n r.2) in
          omega (arith, least_count_le s z t f w.0 w.1, w.2, r.1)
    ],
  )
