-- Sheets compared as lists and field by field are compared alike: one is before another exactly if it is smaller at the first field where they
-- differ.
use Prim.Native.Nat.{ℕ, zero, suc, ◌+◌, ◌≤◌, ◌<◌}
use mathlib.Core.Path.{◌≡◌, refl, sym, ap, ap₂, ◌∙◌}
use mathlib.Core.Logic.{◌≢◌, inl, inr}
use mathlib.Core.Bool.{true, false, true≢false, false≢true}
use mathlib.Core.List.{List, [], ◌∷◌}
use native.Mathlib.Omega.{arith}
use native.Mathlib.Decide.{dec_le, ℕ_discrete}
use lib.ListN.{length}
use Rattle.examples.specs.Best.{counts_from, sheet}
use Rattle.facts.specs.Least.{IsLeast}
use Rattle.facts.specs.State.{at}
use Rattle.terms.specs.Meaning.{Valuation}
use Rattle.terms.specs.Order.{lex}
use Rattle.terms.specs.Words.{field}
use Rattle.terms.proofs.Cases.{by_test}
use Rattle.terms.proofs.QuestionOrder.{lex_less, lex_equal, lex_more, lex_irreflexive, lex_transitive, lex_total}
use Rattle.terms.proofs.SimplifyTruth.{count_zero}

-- ---- not before
-- a list is not before itself, and what is not before is passed on, among lists of one length
not_both : (xs ys : List ℕ) → lex xs ys ≡ true → lex ys xs ≡ true → ⊥
not_both xs ys a b = false≢true (sym (lex_irreflexive xs) ∙ lex_transitive xs ys xs a b)

pub before_not_after : (xs ys : List ℕ) → lex xs ys ≡ true → lex ys xs ≡ false
before_not_after xs ys a = by_test (λ t. t ≡ false) (lex ys xs) (λ b. absurd (not_both xs ys a b)) (λ _. refl)

pub not_before_trans : (xs ys zs : List ℕ) → length xs ≡ length ys → lex xs ys ≡ false → lex ys zs ≡ false → lex xs zs ≡ false
not_before_trans xs ys zs l a b = by_test (λ t. t ≡ false) (lex xs zs) (λ c. absurd (go c)) (λ _. refl)
  where
    go : lex xs zs ≡ true → ⊥
    go c =
        let n : xs ≢ ys = λ e. true≢false (sym c ∙ ap (λ x. lex x zs) e ∙ b) in
        elim (lex_total xs ys l n) [
          | inl d ↦ true≢false (sym d ∙ a)
          | inr d ↦ true≢false (sym (lex_transitive ys xs zs d c) ∙ b)
        ]

-- sheets of which neither is before the other are the same
pub neither_before : (xs ys : List ℕ) → length xs ≡ length ys → lex xs ys ≡ false → lex ys xs ≡ false → xs ≡ ys
neither_before [] [] l a b = refl
neither_before [] (y ∷ ys) l a b = absurd (omega arith)
neither_before (x ∷ xs) [] l a b = absurd (omega arith)
neither_before (x ∷ xs) (y ∷ ys) l a b = elim (dec_le y x) [
  | no h ↦ absurd (true≢false (sym (lex_less x y xs ys (omega arith)) ∙ a))
  | yes h ↦ elim (dec_le x y) [
    | no g ↦ absurd (true≢false (sym (lex_less y x ys xs (omega arith)) ∙ b))
    | yes g ↦
        let e : x ≡ y = omega arith in
        ap₂ (λ (k : ℕ) (ks : List ℕ). k ∷ ks) e
        (neither_before xs ys (omega arith) (sym (lex_equal x y xs ys e) ∙ a) (sym (lex_equal y x ys xs (sym e)) ∙ b))
  ]
]

-- ---- the first field that differs
agree_lex : (n i f : ℕ) (c d : ℕ → ℕ) → i ≤ f → f < i + n → ((g : ℕ) → i ≤ g → g < f → c g ≡ d g) → c f < d f → lex (counts_from n i c) (counts_from n i d) ≡ true
unfolding counts_from
agree_lex zero i f c d h l e s = absurd (omega arith)
agree_lex (suc n) i f c d h l e s = elim (ℕ_discrete i f) [
  | yes p ↦ lex_less (c i) (d i) _ _ (rw p s)
  | no p ↦ lex_equal (c i) (d i) _ _ (e i (omega arith) (omega arith)) ∙ agree_lex n (i + 1) f c d (omega arith) (omega arith) (λ g a b. e g (omega arith) b) s
]

lex_agree : (n i : ℕ) (c d : ℕ → ℕ) → lex (counts_from n i c) (counts_from n i d) ≡ true
    → (f : ℕ) × (i ≤ f) × (f < i + n) × ((g : ℕ) → i ≤ g → g < f → c g ≡ d g) × (c f < d f)
unfolding counts_from lex
lex_agree zero i c d e = absurd (false≢true e)
lex_agree (suc n) i c d e = elim (dec_le (d i) (c i)) [
  | no l ↦ (i, omega arith, omega arith, λ g a b. absurd (omega arith), omega arith)
  | yes l ↦ elim (dec_le (c i) (d i)) [
    | no m ↦ absurd (false≢true (sym (lex_more (c i) (d i) (counts_from n (i + 1) c) (counts_from n (i + 1) d) (omega arith)) ∙ e))
    | yes m ↦
        let w = lex_agree n (i + 1) c d (sym (lex_equal (c i) (d i) (counts_from n (i + 1) c) (counts_from n (i + 1) d) (omega arith)) ∙ e) in
        (w.0, omega (arith, w.1), omega (arith, w.2), λ g a b. go g a b (omega arith) w.3 (ℕ_discrete g i), w.4)
  ]
]
  where
    go : {f : ℕ} (g : ℕ) → i ≤ g → g < f → c i ≡ d i → ((g : ℕ) → i + 1 ≤ g → g < f → c g ≡ d g) → Dec (g ≡ i) → c g ≡ d g
    go g a b here later (yes p) = rw p here
    go g a b here later (no p) = later g (omega arith) b

-- ---- the least sheet, as a list
module _ (n : ℕ) (Meets : Valuation → Type 0) (v : Valuation) where
  pub least_not_after : IsLeast n Meets v → (w : Valuation) → Meets w → lex (sheet n w) (sheet n v) ≡ false
  least_not_after is w m = by_test (λ t. t ≡ false) (lex (sheet n w) (sheet n v)) (λ b. absurd (go (lex_agree n 1 (at w) (at v) b))) (λ _. refl)
    where
      go : (f : ℕ) × (1 ≤ f) × (f < 1 + n) × ((g : ℕ) → 1 ≤ g → g < f → at w g ≡ at v g) × (at w f < at v f) → ⊥
      go d = omega (
        arith,
        d.4,
        is.least w m d.0 (omega (arith, d.2)) (λ g l. elim (ℕ_discrete g 0) [
          | yes z ↦ rw z (count_zero v (field 0) refl ∙ sym (count_zero w (field 0) refl))
          | no z ↦ sym (d.3 g (omega arith) l)
        ]),
      )

  pub not_after_least : Meets v → ((w : Valuation) → Meets w → lex (sheet n w) (sheet n v) ≡ false) → IsLeast n Meets v
  not_after_least m first = record { meets = m; least = go }
    where
      go : (w : Valuation) → Meets w → (f : ℕ) → f ≤ n → ((g : ℕ) → g < f → at v g ≡ at w g) → at v f ≤ at w f
      go w k zero l e = omega (arith, count_zero v (field 0) refl)
      go w k (suc f) l e = elim (dec_le (at v (suc f)) (at w (suc f))) [
        | yes h ↦ h
        | no h ↦ absurd (false≢true (sym (first w k) ∙ agree_lex n 1 (suc f) (at w) (at v) (omega arith) (omega arith) (λ g a b. sym (e g b)) (omega arith)))
      ]
