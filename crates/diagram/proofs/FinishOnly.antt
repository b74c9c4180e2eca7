-- The finished diagram that the function computes is the one that the paper's words describe, and the only one: of consistent facts only one
-- decision is right.
use Prim.Native.Nat.{ℕ, ◌+◌}
use mathlib.Core.Path.{◌≡◌, refl, sym, ap, ap₂, ◌∙◌, subst}
use mathlib.Core.Logic.{◌≢◌}
use mathlib.Core.Bool.{Bool, true, false, true≢false, false≢true}
use mathlib.Core.List.{List, [], ◌∷◌}
use Rattle.facts.specs.declared.decision.Decision.{Decision}
use Rattle.facts.specs.declared.decision.Decision.TheVariants.{Always, Never, Open}
use Rattle.facts.specs.declared.fact.Fact.{Fact}
use Rattle.facts.specs.Facts.{fact, Fits, Forces}
use Rattle.facts.specs.State.{free, no_to, yes_to, state_of, decide, some_sheet}
use Rattle.store.specs.Tree.{Tree, leaf, node}
use Rattle.terms.specs.declared.term.Equation.{Equation}
use Rattle.terms.specs.Meaning.{Valuation}
use Rattle.diagram.specs.Finish.{parts, finish}
use Rattle.diagram.specs.Finished.{Finished, last, skipped_yes, skipped_no, asked, same_parts}
use Rattle.facts.proofs.Decided.{free_fits, decided}
use Rattle.diagram.proofs.FinishTree.{finish_cases}
use Rattle.diagram.specs.Settles.{Settles}
use Rattle.diagram.proofs.FinishTruth.{settles_forced, settles_asked, forces, yes_free, no_free}
use Rattle.diagram.proofs.Trees.{parts_cases}

-- ---- of consistent facts one decision is right
one_decision : (xs : List Fact) (q : Equation) (v : Valuation) → Fits xs v → (c d : Decision) → Forces xs q c → Forces xs q d → c ≡ d
one_decision xs q v h Always Always a b = refl
one_decision xs q v h Always Never a b = absurd (true≢false (sym (a v h) ∙ b v h))
one_decision xs q v h Always Open a b = let w = b.1 in absurd (true≢false (sym (a w.0 w.1) ∙ w.2))
one_decision xs q v h Never Always a b = absurd (false≢true (sym (a v h) ∙ b v h))
one_decision xs q v h Never Never a b = refl
one_decision xs q v h Never Open a b = let w = b.0 in absurd (false≢true (sym (a w.0 w.1) ∙ w.2))
one_decision xs q v h Open Always a b = let w = a.1 in absurd (false≢true (sym w.2 ∙ b w.0 w.1))
one_decision xs q v h Open Never a b = let w = a.0 in absurd (true≢false (sym w.2 ∙ b w.0 w.1))
one_decision xs q v h Open Open a b = refl

decision_is : (xs : List Fact) (q : Equation) (d : Decision) → free (state_of xs) ≡ true → Forces xs q d → decide (state_of xs) q ≡ d
decision_is xs q d t f = one_decision xs q (some_sheet (state_of xs)) (free_fits xs t) (decide (state_of xs) q) d (decided xs q t) f

-- ---- the function's diagram is one
pub finish_finished : (qs : List Equation) (k : ℕ) (xs : List Fact) (means : Valuation → Bool) → Settles means qs xs → free (state_of xs) ≡ true
    → Finished means qs k xs (finish qs k (state_of xs) means)
unfolding finish
finish_finished [] k xs means settles t = last (λ v h. settles v (some_sheet (state_of xs)) h (free_fits xs t) tt)
finish_finished (q ∷ qs) k xs means settles t =
    let s = state_of xs in
    finish_cases (Finished means (q ∷ qs) k xs) q qs k s means
    (λ e. skipped_yes (forces xs q t Always e) (finish_finished qs (k + 1) xs means (settles_forced means q qs xs settles true (forces xs q t Always e)) t))
    (λ e. skipped_no (forces xs q t Never e) (finish_finished qs (k + 1) xs means (settles_forced means q qs xs settles false (forces xs q t Never e)) t))
    (λ e.
    let open_is = forces xs q t Open e in
    let y = finish_finished qs (k + 1) (fact q true ∷ xs) means (settles_asked means q qs xs settles true) (yes_free xs q t e) in
    let n = finish_finished qs (k + 1) (fact q false ∷ xs) means (settles_asked means q qs xs settles false) (no_free xs q t e) in
    parts_cases (Finished means (q ∷ qs) k xs) k (finish qs (k + 1) (yes_to s q) means) (finish qs (k + 1) (no_to s q) means)
    (λ i. same_parts open_is y (subst (Finished means qs (k + 1) (fact q false ∷ xs)) (sym i) n))
    (λ d. asked open_is y n d))

-- ---- and the only one
parts_node : (k : ℕ) (y n y' n' : Tree) → y ≡ y' → n ≡ n' → y ≢ n → node k y n ≡ parts k y' n'
parts_node k y n y' n' ey en d = parts_cases (λ t. node k y n ≡ t) k y' n' (λ e. absurd (d (ey ∙ e ∙ sym en))) (λ _. ap₂ (node k) ey en)

parts_same : (k : ℕ) (t y n : Tree) → t ≡ y → t ≡ n → t ≡ parts k y n
parts_same k t y n ey en = parts_cases (λ u. t ≡ u) k y n (λ _. ey) (λ d. absurd (d (sym ey ∙ en)))

pub finished_only : {means : Valuation → Bool} {qs : List Equation} {k : ℕ} {xs : List Fact} {t : Tree} → Finished means qs k xs t → free (state_of xs) ≡ true
    → t ≡ finish qs k (state_of xs) means
unfolding finish
finished_only {means = means} (last {xs = xs} f) t = ap leaf (sym (f (some_sheet (state_of xs)) (free_fits xs t)))
finished_only {means = means} (skipped_yes {q = q} {xs = xs} f r) t = rw (finish, decision_is xs q Always t f) (finished_only r t)
finished_only {means = means} (skipped_no {q = q} {xs = xs} f r) t = rw (finish, decision_is xs q Never t f) (finished_only r t)
finished_only {means = means} (asked {q = q} {qs = qs} {k = k} {xs = xs} f y n d) t =
    let o = decision_is xs q Open t f in
    let ey = finished_only y (yes_free xs q t o) in
    let en = finished_only n (no_free xs q t o) in
    rw (finish, o) (parts_node k _ _ _ _ ey en d)
finished_only {means = means} (same_parts {q = q} {qs = qs} {k = k} {xs = xs} f y n) t =
    let o = decision_is xs q Open t f in
    rw (finish, o) (parts_same k _ _ _ (finished_only y (yes_free xs q t o)) (finished_only n (no_free xs q t o)))
