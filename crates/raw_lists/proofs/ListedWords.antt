-- What the words of a list say at each place, and the list of their equations as a whole: a question stands at some place exactly if it is in the list, and a
-- list ascends exactly if each question comes before the next.
use Prim.Native.Nat.{ℕ, zero, suc, ◌+◌, ◌*◌, ◌/◌, ◌<◌}
use mathlib.Core.Path.{◌≡◌, refl, sym, ap, subst, ◌∙◌}
use mathlib.Core.Logic.{inl, inr}
use mathlib.Core.Bool.{true}
use mathlib.Core.List.Memᴰ
use mathlib.Core.List.{List, [], ◌∷◌}
use native.Mathlib.Omega.{arith}
use lib.ListN.{length}
use Rattle.store.specs.Layout.{question_in}
use Rattle.terms.specs.declared.term.Equation.{Equation}
use Rattle.terms.specs.Order.{Order, before, StrictTotal}
use Rattle.raw_lists.specs.IsResulting.{In, Ascends}
use Rattle.raw_lists.specs.Equations.{equations}

question_later : (l r : ℕ) (words : List ℕ) (k : ℕ) → question_in (l ∷ r ∷ words) (suc k) ≡ question_in words k
question_later l r words k =
    let left : 2 * suc k ≡ suc (suc (2 * k)) = omega arith in
    let right : suc (suc (2 * k)) + 1 ≡ suc (suc (2 * k + 1)) = omega arith in
    rw (left, right)

-- ---- places and members
pub member_at : (words : List ℕ) (k : ℕ) → k < length words / 2 → In (question_in words k) (equations words)
unfolding equations
member_at [] k h = absurd (omega arith)
member_at (l ∷ []) k h = absurd (omega arith)
member_at (l ∷ r ∷ words) zero h = Memᴰ.head refl
member_at (l ∷ r ∷ words) (suc k) h = Memᴰ.tail (Memᴰ.cast (question_later l r words k) (member_at words k (omega arith)))

pub each_member : (P : Equation → Type 0) (words : List ℕ) → ((k : ℕ) → k < length words / 2 → P (question_in words k)) → (e : Equation) → In e (equations words) → P e
unfolding equations
each_member P [] f e m = absurd (Memᴰ.not-nil m)
each_member P (l ∷ []) f e m = absurd (Memᴰ.not-nil m)
each_member P (l ∷ r ∷ words) f e m = elim (Memᴰ.cases_cons m) [
  | inl d ↦ subst P (sym d) (f 0 (omega arith))
  | inr n ↦ each_member P words (λ k h. subst P (question_later l r words k) (f (suc k) (omega arith))) e n
]

-- ---- neighbours
module _ (order : Order) where
  pub ascends_at : (words : List ℕ) → Ascends order (equations words) → (k : ℕ) → suc k < length words / 2 → before order (question_in words k) (question_in words (suc k)) ≡ true
  unfolding equations
  ascends_at [] a k h = absurd (omega arith)
  ascends_at (l ∷ []) a k h = absurd (omega arith)
  ascends_at (l ∷ r ∷ words) a zero h = a.0 _ (Memᴰ.cast (question_later l r words 0) (member_at words 0 (omega arith)))
  ascends_at (l ∷ r ∷ words) a (suc k) h = rw (question_later l r words k, question_later l r words (suc k)) (ascends_at words a.1 k (omega arith))

  module _ (total : StrictTotal (before order)) where
    pub ascends_from : (words : List ℕ) → ((k : ℕ) → suc k < length words / 2 → before order (question_in words k) (question_in words (suc k)) ≡ true) → Ascends order (equations words)
    unfolding equations
    ascends_from [] f = tt
    ascends_from (l ∷ []) f = tt
    ascends_from (l ∷ r ∷ []) f = (λ p m. absurd (Memᴰ.not-nil m), tt)
    ascends_from (l ∷ r ∷ x ∷ []) f = (λ p m. absurd (Memᴰ.not-nil m), tt)
    ascends_from (l ∷ r ∷ x ∷ y ∷ words) f =
        let first : Equation = question_in (l ∷ r ∷ x ∷ y ∷ words) 0 in
        let second : Equation = question_in (x ∷ y ∷ words) 0 in
        let rest = ascends_from (x ∷ y ∷ words) (λ k h. rw (← question_later l r (x ∷ y ∷ words) k, ← question_later l r (x ∷ y ∷ words) (suc k)) (f (suc k) (omega arith))) in
        let next : before order first second ≡ true = f 0 (omega arith) in (
          λ p m. elim (Memᴰ.cases_cons m) [ inl d ↦ ap (before order first) d ∙ next | inr n ↦ total.transitive first second p next (rest.0 p n) ],
          rest,
        )
