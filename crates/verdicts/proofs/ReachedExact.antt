-- A leaf is reached exactly if some choice of counts that fits the facts leads there: a forced question leads every such choice the same way,
-- and an open one leads some of them each way.
use Prim.Native.Nat.{ℕ}
use mathlib.Core.Path.{◌≡◌, refl, sym, ap, subst, ◌∙◌}
use mathlib.Core.Logic.{◌⊎◌, inl, inr}
use mathlib.Core.Bool.{Bool, true, false, ◌||◌, or-true, false≢true}
use mathlib.Core.List.{List, ◌∷◌}
use Rattle.facts.specs.declared.decision.Decision.{Decision}
use Rattle.facts.specs.declared.decision.Decision.TheVariants.{Always, Never, Open}
use Rattle.facts.specs.declared.fact.Fact.{Fact}
use Rattle.facts.specs.Facts.{fact, Fits, Forces}
use Rattle.facts.specs.State.{State, free, no_to, yes_to, state_of, decide, some_sheet}
use Rattle.store.specs.Tree.{Tree, leaf, node, tree_truth}
use Rattle.terms.specs.declared.term.Equation.{Equation}
use Rattle.terms.specs.Meaning.{Valuation, truth}
use Rattle.verdicts.specs.declared.leaves.Leaves.{Leaves}
use Rattle.verdicts.specs.Leaves.{either, reached}
use Rattle.facts.proofs.Decided.{free_fits, fits_free, decided}

-- whether a leaf is reached
abbrev pub flag : Bool → Leaves → Bool
flag true l = l.always
flag false l = l.never

flag_either : (b : Bool) (l m : Leaves) → flag b (either l m) ≡ (flag b l || flag b m)
flag_either true l m = refl
flag_either false l m = refl

or_says : (a b : Bool) → (a || b) ≡ true → (a ≡ true) ⊎ (b ≡ true)
or_says true b e = inl refl
or_says false b e = inr e

or_left : (a b : Bool) → a ≡ true → (a || b) ≡ true
or_left a b e = rw e refl

or_right : (a b : Bool) → b ≡ true → (a || b) ≡ true
or_right a b e = rw (e, or-true) refl

module _ (ask : ℕ → Equation) where
  -- the truth of a diagram under a choice of counts
  abbrev pub under : Valuation → Tree → Bool
  under v t = tree_truth (λ k. truth v (ask k)) t

  -- some choice of counts that fits the facts leads to the leaf
  abbrev pub Leads : List Fact → Tree → Bool → Type 0
  Leads xs t b = (v : Valuation) × Fits xs v × (under v t ≡ b)

  under_yes : (v : Valuation) (k : ℕ) (y n : Tree) → truth v (ask k) ≡ true → under v (node k y n) ≡ under v y
  under_yes v k y n e = rw e refl

  under_no : (v : Valuation) (k : ℕ) (y n : Tree) → truth v (ask k) ≡ false → under v (node k y n) ≡ under v n
  under_no v k y n e = rw e refl

  -- a choice of counts goes on in the part that it answers
  one_part : (v : Valuation) (k : ℕ) (y n : Tree) (l m : Leaves) (b : Bool) → truth v (ask k) ≡ b
      → (truth v (ask k) ≡ true → flag (under v y) l ≡ true) → (truth v (ask k) ≡ false → flag (under v n) m ≡ true)
      → (flag (under v (node k y n)) l || flag (under v (node k y n)) m) ≡ true
  one_part v k y n l m true e goes_yes goes_no = or_left _ _ (ap (λ b. flag b l) (under_yes v k y n e) ∙ goes_yes e)
  one_part v k y n l m false e goes_yes goes_no = or_right (flag (under v (node k y n)) l) _ (ap (λ b. flag b m) (under_no v k y n e) ∙ goes_no e)

  -- A claim about what is reached at an entry holds if it holds for each answer of the decision.
  reached_cases : (P : Leaves → Type 0) (k : ℕ) (y n : Tree) (st : State)
      → (decide st (ask k) ≡ Always → P (reached ask y st)) → (decide st (ask k) ≡ Never → P (reached ask n st))
      → (decide st (ask k) ≡ Open → P (either (reached ask y (yes_to st (ask k))) (reached ask n (no_to st (ask k)))))
      → P (reached ask (node k y n) st)
  unfolding reached
  reached_cases P k y n st always never asks = go (decide st (ask k)) refl
    where
      go : (d : Decision) → decide st (ask k) ≡ d → P (reached ask (node k y n) st)
      go Always e = rw (reached, e) (always e)
      go Never e = rw (reached, e) (never e)
      go Open e = rw (reached, e) (asks e)

  forces : (xs : List Fact) (q : Equation) → free (state_of xs) ≡ true → (d : Decision) → decide (state_of xs) q ≡ d → Forces xs q d
  forces xs q t d e = subst (Forces xs q) e (decided xs q t)

  pub reached_leads : (t : Tree) (xs : List Fact) (b : Bool) → free (state_of xs) ≡ true → flag b (reached ask t (state_of xs)) ≡ true → Leads xs t b
  unfolding reached
  reached_leads (leaf true) xs true f = λ _. (some_sheet (state_of xs), free_fits xs f, refl)
  reached_leads (leaf true) xs false f = λ e. absurd (false≢true e)
  reached_leads (leaf false) xs true f = λ e. absurd (false≢true e)
  reached_leads (leaf false) xs false f = λ _. (some_sheet (state_of xs), free_fits xs f, refl)
  reached_leads (node k y n) xs b f =
      let st = state_of xs in
      let q = ask k in
      reached_cases (λ l. flag b l ≡ true → Leads xs (node k y n) b) k y n st
      (λ d e. let w = reached_leads y xs b f e in (w.0, w.1, under_yes w.0 k y n (forces xs q f Always d w.0 w.1) ∙ w.2))
      (λ d e. let w = reached_leads n xs b f e in (w.0, w.1, under_no w.0 k y n (forces xs q f Never d w.0 w.1) ∙ w.2))
      (λ d e.
      let shown = forces xs q f Open d in
      elim (or_says (flag b (reached ask y (yes_to st q))) (flag b (reached ask n (no_to st q))) (sym (flag_either b (reached ask y (yes_to st q)) (reached ask n (no_to st q))) ∙ e)) [
        | inl i ↦ let w = reached_leads y (fact q true ∷ xs) b (fits_free (fact q true ∷ xs) shown.0.0 (shown.0.2, shown.0.1)) i in
            (w.0, w.1.1, under_yes w.0 k y n w.1.0 ∙ w.2)
        | inr i ↦ let w = reached_leads n (fact q false ∷ xs) b (fits_free (fact q false ∷ xs) shown.1.0 (shown.1.2, shown.1.1)) i in
            (w.0, w.1.1, under_no w.0 k y n w.1.0 ∙ w.2)
      ])

  pub leads_reached : (t : Tree) (xs : List Fact) (v : Valuation) → Fits xs v → flag (under v t) (reached ask t (state_of xs)) ≡ true
  unfolding reached
  leads_reached (leaf true) xs v h = refl
  leads_reached (leaf false) xs v h = refl
  leads_reached (node k y n) xs v h =
      let st = state_of xs in
      let q = ask k in
      let f = fits_free xs v h in
      reached_cases (λ l. flag (under v (node k y n)) l ≡ true) k y n st
      (λ d. subst (λ b. flag b (reached ask y st) ≡ true) (sym (under_yes v k y n (forces xs q f Always d v h))) (leads_reached y xs v h))
      (λ d. subst (λ b. flag b (reached ask n st) ≡ true) (sym (under_no v k y n (forces xs q f Never d v h))) (leads_reached n xs v h))
      (λ d. flag_either (under v (node k y n)) (reached ask y (yes_to st q)) (reached ask n (no_to st q))
      ∙ one_part v k y n (reached ask y (yes_to st q)) (reached ask n (no_to st q)) (truth v q) refl
      (λ e. leads_reached y (fact q true ∷ xs) v (e, h)) (λ e. leads_reached n (fact q false ∷ xs) v (e, h)))
