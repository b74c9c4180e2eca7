-- The best sheet is the least one that satisfies: each path to always gives the least sheet of its facts, every satisfying sheet follows such
-- a path, and the earlier of two is kept.
use Rattle.std.specs.Prelude.{Some, None}
use Prim.Native.Nat.{ℕ}
use mathlib.Core.Path.{◌≡◌, refl, sym, subst, ◌∙◌}
use mathlib.Core.Logic.{◌⊎◌, inl, inr}
use mathlib.Core.Bool.{true, false, cond, false≢true}
use mathlib.Core.List.{List, ◌∷◌}
use lib.ListN.{length}
use Rattle.examples.specs.Best.{sheet, Best, Sized, lesser, best}
use Rattle.facts.specs.declared.decision.Decision.{Decision}
use Rattle.facts.specs.declared.decision.Decision.TheVariants.{Always, Never, Open}
use Rattle.facts.specs.declared.fact.Fact.{Fact}
use Rattle.facts.specs.Facts.{fact, Fits, Forces}
use Rattle.facts.specs.Least.{least_sheet}
use Rattle.facts.specs.State.{State, at, Fit, free, no_to, yes_to, state_of, decide}
use Rattle.store.specs.Tree.{Tree, leaf, node}
use Rattle.terms.specs.declared.term.Equation.{Equation}
use Rattle.terms.specs.Meaning.{Valuation, truth}
use Rattle.terms.specs.Order.{lex}
use Rattle.examples.proofs.SheetOrder.{before_not_after, not_before_trans, least_not_after}
use Rattle.examples.proofs.Sheets.{counts_length}
use Rattle.facts.proofs.Decided.{fits_free, decided}
use Rattle.facts.proofs.LeastSheet.{least_sheet_least}
use Rattle.facts.proofs.StateExact.{state_exact}
use Rattle.facts.proofs.StateFree.{state_of_zero}
use Rattle.terms.proofs.Cases.{by_test}
use Rattle.terms.proofs.QuestionOrder.{lex_irreflexive}
use Rattle.verdicts.proofs.ReachedExact.{under}

pub same_some : {x y : List ℕ} → Some x ≡ Some y → x ≡ y
same_some e = cc

module _ (ask : ℕ → Equation) (n : ℕ) where
  -- a choice of counts fits the facts and satisfies the diagram
  abbrev pub Satisfies : List Fact → Tree → Valuation → Type 0
  Satisfies xs t v = Fits xs v × (under ask v t ≡ true)

  -- there is a best sheet, and the sheet y is not before it
  pub data NotBefore (y : List ℕ) : Best → Type 0 where
    not_before : {x : List ℕ} → lex y x ≡ false → NotBefore y (Some x)

  pub not_none : {y : List ℕ} → NotBefore y None → ⊥
  not_none {y} w = go w refl
    where
      go : {b : Best} → NotBefore y b → b ≡ None → ⊥
      go (not_before e) d = cc

  pub not_before_says : {y x : List ℕ} → NotBefore y (Some x) → lex y x ≡ false
  not_before_says (not_before e) = e

  pub record Right (xs : List Fact) (t : Tree) (b r : Best) : Type 0 where
    -- the best so far stands, or a satisfying sheet was found
    pub comes_of : (r ≡ b) ⊎ ((v : Valuation) × Satisfies xs t v × (r ≡ Some (sheet n v)))
    -- no satisfying sheet is before it, nor was the best so far
    pub is_least : (v : Valuation) → Satisfies xs t v → NotBefore (sheet n v) r
    pub keeps : (y : List ℕ) → b ≡ Some y → NotBefore y r

  pub sheet_size : (v : Valuation) → length (sheet n v) ≡ n
  sheet_size v = counts_length n 1 (at v)

  pub right_sized : {xs : List Fact} {t : Tree} {b r : Best} → Right xs t b r → Sized n b → Sized n r
  right_sized w z = elim w.comes_of [
    | inl e ↦ subst (Sized n) (sym e) z
    | inr f ↦ subst (Sized n) (sym f.2) (sheet_size f.0)
  ]

  pass_on : {y : List ℕ} {b r : Best} → length y ≡ n → Sized n b → NotBefore y b → ((x : List ℕ) → b ≡ Some x → NotBefore x r) → NotBefore y r
  pass_on {y} {r = r} l z (not_before {x = x} e) k = go (k x refl)
    where
      go : {r : Best} → NotBefore x r → NotBefore y r
      go (not_before {x = w} d) = not_before (not_before_trans y x w (l ∙ sym z) e d)

  -- ---- a leaf
  leaf_never : (xs : List Fact) (b : Best) → Right xs (leaf false) b b
  leaf_never xs b = record {
    comes_of = inl refl;
    is_least = λ v s. absurd (false≢true s.1);
    keeps = λ y e. subst (NotBefore y) (sym e) (not_before (lex_irreflexive y));
  }

  leaf_always : (xs : List Fact) (b : Best) → free (state_of xs) ≡ true → Sized n b → Right xs (leaf true) b (lesser b (sheet n (least_sheet n (state_of xs))))
  leaf_always xs b f = go b
    where
      fits : Fits xs (least_sheet n (state_of xs))
      fits = (state_exact xs (least_sheet n (state_of xs))).0 (least_sheet_least n (state_of xs) (state_of_zero xs) f).meets

      first : (v : Valuation) → Fits xs v → lex (sheet n v) (sheet n (least_sheet n (state_of xs))) ≡ false
      first v h = least_not_after n (Fit (state_of xs)) (least_sheet n (state_of xs)) (least_sheet_least n (state_of xs) (state_of_zero xs) f) v ((state_exact xs v).1 h)

      go : (b : Best) → Sized n b → Right xs (leaf true) b (lesser b (sheet n (least_sheet n (state_of xs))))
      go None z = record {
        comes_of = inr (least_sheet n (state_of xs), (fits, refl), refl);
        is_least = λ v s. not_before (first v s.0);
        keeps = λ y e. absurd (cc);
      }
      go (Some y) z = by_test (λ t. Right xs (leaf true) (Some y) (cond t (Some (sheet n (least_sheet n (state_of xs)))) (Some y))) (lex (sheet n (least_sheet n (state_of xs))) y)
          (λ t. record {
            comes_of = inr (least_sheet n (state_of xs), (fits, refl), refl);
            is_least = λ v s. not_before (first v s.0);
            keeps = λ w e. subst (λ u. NotBefore u (Some (sheet n (least_sheet n (state_of xs))))) (same_some e) (not_before (before_not_after (sheet n (least_sheet n (state_of xs))) y t));
          })
          (λ t. record {
            comes_of = inl refl;
            is_least = λ v s. not_before (not_before_trans (sheet n v) (sheet n (least_sheet n (state_of xs))) y (sheet_size v ∙ sym (sheet_size (least_sheet n (state_of xs)))) (first v s.0) t);
            keeps = λ w e. subst (λ u. NotBefore u (Some y)) (same_some e) (not_before (lex_irreflexive y));
          })

  -- ---- two parts, sought one after the other: what satisfies one of them satisfies the whole, and the other way round
  module _ {xs xs₁ xs₂ : List Fact} {t t₁ t₂ : Tree} (from_first : (v : Valuation) → Satisfies xs₁ t₁ v → Satisfies xs t v)
      (from_second : (v : Valuation) → Satisfies xs₂ t₂ v → Satisfies xs t v)
      (either : (v : Valuation) → Satisfies xs t v → Satisfies xs₁ t₁ v ⊎ Satisfies xs₂ t₂ v) where
    right_parts : {b r o : Best} → Sized n b → Right xs₁ t₁ b r → Right xs₂ t₂ r o → Right xs t b o
    right_parts {b} {r} {o} z w u = record {
      comes_of = elim u.comes_of [
        | inl e ↦ elim w.comes_of [ inl d ↦ inl (e ∙ d) | inr f ↦ inr (f.0, from_first f.0 f.1, e ∙ f.2) ]
        | inr f ↦ inr (f.0, from_second f.0 f.1, f.2)
      ];
      is_least = λ v s. elim (either v s) [
        | inl a ↦ pass_on (sheet_size v) (right_sized w z) (w.is_least v a) u.keeps
        | inr a ↦ u.is_least v a
      ];
      keeps = λ x e. pass_on (subst (Sized n) e z) (right_sized w z) (w.keeps x e) u.keeps;
    }

  -- ---- an entry
  best_cases : (P : Best → Type 0) (k : ℕ) (y m : Tree) (st : State) (b : Best)
      → (decide st (ask k) ≡ Always → P (best ask n y st b)) → (decide st (ask k) ≡ Never → P (best ask n m st b))
      → (decide st (ask k) ≡ Open → P (best ask n m (no_to st (ask k)) (best ask n y (yes_to st (ask k)) b)))
      → P (best ask n (node k y m) st b)
  unfolding best
  best_cases P k y m st b always never asks = go (decide st (ask k)) refl
    where
      go : (d : Decision) → decide st (ask k) ≡ d → P (best ask n (node k y m) st b)
      go Always e = rw (best, e) (always e)
      go Never e = rw (best, e) (never e)
      go Open e = rw (best, e) (asks e)

  -- the same choices satisfy an entry and the part that they all go on in
  module _ (xs : List Fact) (k : ℕ) (y m : Tree) where
    through_yes : (v : Valuation) → truth v (ask k) ≡ true → under ask v (node k y m) ≡ under ask v y
    through_yes v e = rw e refl

    through_no : (v : Valuation) → truth v (ask k) ≡ false → under ask v (node k y m) ≡ under ask v m
    through_no v e = rw e refl

    right_yes : {b r : Best} → ((v : Valuation) → Fits xs v → truth v (ask k) ≡ true) → Right xs y b r → Right xs (node k y m) b r
    right_yes forced w = record {
      comes_of = elim w.comes_of [
        | inl e ↦ inl e
        | inr f ↦ inr (f.0, (f.1.0, through_yes f.0 (forced f.0 f.1.0) ∙ f.1.1), f.2)
      ];
      is_least = λ v s. w.is_least v (s.0, sym (through_yes v (forced v s.0)) ∙ s.1);
      keeps = w.keeps;
    }

    right_no : {b r : Best} → ((v : Valuation) → Fits xs v → truth v (ask k) ≡ false) → Right xs m b r → Right xs (node k y m) b r
    right_no forced w = record {
      comes_of = elim w.comes_of [
        | inl e ↦ inl e
        | inr f ↦ inr (f.0, (f.1.0, through_no f.0 (forced f.0 f.1.0) ∙ f.1.1), f.2)
      ];
      is_least = λ v s. w.is_least v (s.0, sym (through_no v (forced v s.0)) ∙ s.1);
      keeps = w.keeps;
    }

    from_yes : (v : Valuation) → Satisfies (fact (ask k) true ∷ xs) y v → Satisfies xs (node k y m) v
    from_yes v s = (s.0.1, through_yes v s.0.0 ∙ s.1)

    from_no : (v : Valuation) → Satisfies (fact (ask k) false ∷ xs) m v → Satisfies xs (node k y m) v
    from_no v s = (s.0.1, through_no v s.0.0 ∙ s.1)

    either_way : (v : Valuation) → Satisfies xs (node k y m) v → Satisfies (fact (ask k) true ∷ xs) y v ⊎ Satisfies (fact (ask k) false ∷ xs) m v
    either_way v s = by_test (λ t. truth v (ask k) ≡ t → Satisfies (fact (ask k) true ∷ xs) y v ⊎ Satisfies (fact (ask k) false ∷ xs) m v) (truth v (ask k))
        (λ _ e. inl ((e, s.0), sym (through_yes v e) ∙ s.1)) (λ _ e. inr ((e, s.0), sym (through_no v e) ∙ s.1)) refl

    right_both : {b r o : Best} → Sized n b → Right (fact (ask k) true ∷ xs) y b r → Right (fact (ask k) false ∷ xs) m r o → Right xs (node k y m) b o
    right_both = right_parts from_yes from_no either_way

    -- the parts may be sought in the other order
    pub right_turned : {b r o : Best} → Sized n b → Right (fact (ask k) false ∷ xs) m b r → Right (fact (ask k) true ∷ xs) y r o → Right xs (node k y m) b o
    right_turned = right_parts from_no from_yes (λ v s. elim (either_way v s) [ inl a ↦ inr a | inr a ↦ inl a ])

  pub best_right : (t : Tree) (xs : List Fact) (b : Best) → free (state_of xs) ≡ true → Sized n b → Right xs t b (best ask n t (state_of xs) b)
  unfolding best
  best_right (leaf false) xs b f z = leaf_never xs b
  best_right (leaf true) xs b f z = leaf_always xs b f z
  best_right (node k y m) xs b f z =
      let st = state_of xs in
      let q = ask k in
      let forces : (d : Decision) → decide st q ≡ d → Forces xs q d = λ d e. subst (Forces xs q) e (decided xs q f) in
      best_cases (Right xs (node k y m) b) k y m st b
      (λ e. right_yes xs k y m (forces Always e) (best_right y xs b f z))
      (λ e. right_no xs k y m (forces Never e) (best_right m xs b f z))
      (λ e.
      let shown = forces Open e in
      let first = best_right y (fact q true ∷ xs) b (fits_free (fact q true ∷ xs) shown.0.0 (shown.0.2, shown.0.1)) z in
      right_both xs k y m z first
      (best_right m (fact q false ∷ xs) (best ask n y (yes_to st q) b) (fits_free (fact q false ∷ xs) shown.1.0 (shown.1.2, shown.1.1)) (right_sized first z)))
