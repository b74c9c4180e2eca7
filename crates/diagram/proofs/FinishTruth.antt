-- The finished diagram agrees with the meaning under every choice of counts that fits the facts, and two meanings that agree there have the
-- same finished diagram: at the end the truth is forced, a skipped question has the forced answer, and an asked one splits the choices.
use Prim.Native.Nat.{ℕ, ◌+◌, ◌≤◌}
use mathlib.Core.Path.{◌≡◌, refl, sym, ap, ap₂, ◌∙◌, subst}
use mathlib.Core.Logic.{◌↔◌}
use mathlib.Core.Bool.{Bool, true, false, cond}
use mathlib.Core.List.{List, [], ◌∷◌}
use native.Mathlib.Omega.{arith}
use borrow.Author.Tests.{eq-eqb, ne_eqb}
use lib.ListN.{length}
use Rattle.facts.specs.declared.decision.Decision.{Decision}
use Rattle.facts.specs.declared.decision.Decision.TheVariants.{Always, Never, Open}
use Rattle.facts.specs.declared.fact.Fact.{Fact}
use Rattle.facts.specs.Facts.{fact, Fits, Forces}
use Rattle.facts.specs.State.{State, free, no_to, yes_to, state_of, decide, some_sheet}
use Rattle.store.specs.Tree.{leaf, tree_truth}
use Rattle.terms.specs.declared.term.Equation.{Equation}
use Rattle.terms.specs.Meaning.{Valuation, truth}
use Rattle.diagram.specs.Settles.{Settles}
use Rattle.diagram.specs.Finish.{parts, finish, answers_from}
use Rattle.facts.proofs.Decided.{free_fits, fits_free, decided}
use Rattle.terms.proofs.Cases.{by_test}
use Rattle.diagram.proofs.FinishTree.{finish_cases, finish_ascending}
use Rattle.diagram.proofs.Trees.{parts_cases, parts_truth}
use Rattle.store.proofs.TreeTruth.{truth_rests}

module _ (means : Valuation → Bool) (q : Equation) (qs : List Equation) (xs : List Fact) (settles : Settles means (q ∷ qs) xs) where
  pub settles_forced : (b : Bool) → ((v : Valuation) → Fits xs v → truth v q ≡ b) → Settles means qs xs
  settles_forced b forced v w h g same = settles v w h g (forced v h ∙ sym (forced w g), same)

  pub settles_asked : (b : Bool) → Settles means qs (fact q b ∷ xs)
  settles_asked b v w h g same = settles v w h.1 g.1 (h.0 ∙ sym g.0, same)

-- what the decision says of a question, as facts about choices that fit
module _ (xs : List Fact) (q : Equation) (t : free (state_of xs) ≡ true) where
  pub forces : (d : Decision) → decide (state_of xs) q ≡ d → Forces xs q d
  forces d e = subst (Forces xs q) e (decided xs q t)

  pub yes_free : decide (state_of xs) q ≡ Open → free (yes_to (state_of xs) q) ≡ true
  yes_free e = let w = (forces Open e).0 in fits_free (fact q true ∷ xs) w.0 (w.2, w.1)

  pub no_free : decide (state_of xs) q ≡ Open → free (no_to (state_of xs) q) ≡ true
  no_free e = let w = (forces Open e).1 in fits_free (fact q false ∷ xs) w.0 (w.2, w.1)

-- ---- answers by number
module _ (k : ℕ) (q : Equation) (qs : List Equation) (v : Valuation) where
  pub answers_first : answers_from k (q ∷ qs) v k ≡ truth v q
  unfolding answers_from
  answers_first = rw (eq-eqb k k refl) refl

  pub answers_later : (j : ℕ) → k + 1 ≤ j → answers_from k (q ∷ qs) v j ≡ answers_from (k + 1) qs v j
  unfolding answers_from
  answers_later j h = rw (ne_eqb j k (λ e. omega arith)) refl

  later_truth : (s : State) (means : Valuation → Bool)
      → tree_truth (answers_from k (q ∷ qs) v) (finish qs (k + 1) s means) ≡ tree_truth (answers_from (k + 1) qs v) (finish qs (k + 1) s means)
  later_truth s means = truth_rests (answers_from k (q ∷ qs) v) (answers_from (k + 1) qs v) (k + 1) (k + length qs) (finish qs (k + 1) s means)
      (finish_ascending qs (k + 1) (k + length qs) s means (omega arith)) (λ j h _. answers_later j h)

-- ---- the diagram means what it was finished for
pub finish_truth : (qs : List Equation) (k : ℕ) (xs : List Fact) (means : Valuation → Bool) → Settles means qs xs → free (state_of xs) ≡ true
    → (v : Valuation) → Fits xs v → tree_truth (answers_from k qs v) (finish qs k (state_of xs) means) ≡ means v
unfolding finish
finish_truth [] k xs means settles t v h = settles (some_sheet (state_of xs)) v (free_fits xs t) h tt
finish_truth (q ∷ qs) k xs means settles t v h =
    let s = state_of xs in
    let answers = answers_from k (q ∷ qs) v in
    finish_cases (λ d. tree_truth answers d ≡ means v) q qs k s means
    (λ e. later_truth k q qs v s means ∙ finish_truth qs (k + 1) xs means (settles_forced means q qs xs settles true (forces xs q t Always e)) t v h)
    (λ e. later_truth k q qs v s means ∙ finish_truth qs (k + 1) xs means (settles_forced means q qs xs settles false (forces xs q t Never e)) t v h)
    (λ e. parts_truth answers k (finish qs (k + 1) (yes_to s q) means) (finish qs (k + 1) (no_to s q) means)
    ∙ ap (λ b. cond b (tree_truth answers (finish qs (k + 1) (yes_to s q) means)) (tree_truth answers (finish qs (k + 1) (no_to s q) means))) (answers_first k q qs v)
    ∙ by_test (λ b. cond b (tree_truth answers (finish qs (k + 1) (yes_to s q) means)) (tree_truth answers (finish qs (k + 1) (no_to s q) means)) ≡ means v) (truth v q)
    (λ y. later_truth k q qs v (yes_to s q) means ∙ finish_truth qs (k + 1) (fact q true ∷ xs) means (settles_asked means q qs xs settles true) (yes_free xs q t e) v (y, h))
    (λ n. later_truth k q qs v (no_to s q) means ∙ finish_truth qs (k + 1) (fact q false ∷ xs) means (settles_asked means q qs xs settles false) (no_free xs q t e) v (n, h)))

-- ---- meanings that agree have one diagram
finish_equal : (q : Equation) (qs : List Equation) (k : ℕ) (s : State) (means others : Valuation → Bool) (d : Decision) → decide s q ≡ d
    → finish qs (k + 1) s means ≡ finish qs (k + 1) s others
    → (d ≡ Open → finish qs (k + 1) (yes_to s q) means ≡ finish qs (k + 1) (yes_to s q) others)
    → (d ≡ Open → finish qs (k + 1) (no_to s q) means ≡ finish qs (k + 1) (no_to s q) others)
    → finish (q ∷ qs) k s means ≡ finish (q ∷ qs) k s others
unfolding finish
finish_equal q qs k s means others Always e skipped asks_yes asks_no = rw (finish, e) skipped
finish_equal q qs k s means others Never e skipped asks_yes asks_no = rw (finish, e) skipped
finish_equal q qs k s means others Open e skipped asks_yes asks_no = rw (finish, e) (ap₂ (parts k) (asks_yes refl) (asks_no refl))

pub finish_same : (qs : List Equation) (k : ℕ) (xs : List Fact) (means others : Valuation → Bool) → free (state_of xs) ≡ true
    → ((v : Valuation) → Fits xs v → means v ≡ others v) → finish qs k (state_of xs) means ≡ finish qs k (state_of xs) others
unfolding finish
finish_same [] k xs means others t e = ap leaf (e (some_sheet (state_of xs)) (free_fits xs t))
finish_same (q ∷ qs) k xs means others t e =
    finish_equal q qs k (state_of xs) means others (decide (state_of xs) q) refl
    (finish_same qs (k + 1) xs means others t e)
    (λ o. finish_same qs (k + 1) (fact q true ∷ xs) means others (yes_free xs q t o) (λ v h. e v h.1))
    (λ o. finish_same qs (k + 1) (fact q false ∷ xs) means others (no_free xs q t o) (λ v h. e v h.1))

-- Two finished diagrams are equal exactly if the meanings agree where the facts hold.
pub finish_exact : (qs : List Equation) (k : ℕ) (xs : List Fact) (means others : Valuation → Bool) → Settles means qs xs → Settles others qs xs
    → free (state_of xs) ≡ true
    → (finish qs k (state_of xs) means ≡ finish qs k (state_of xs) others) ↔ ((v : Valuation) → Fits xs v → means v ≡ others v)
finish_exact qs k xs means others sm so t = (
  λ e v h. sym (finish_truth qs k xs means sm t v h) ∙ ap (tree_truth (answers_from k qs v)) e ∙ finish_truth qs k xs others so t v h,
  finish_same qs k xs means others t,
)

-- a meaning that is constant where the facts hold is a leaf
pub finish_constant : (qs : List Equation) (k : ℕ) (s : State) (b : Bool) → finish qs k s (λ _. b) ≡ leaf b
unfolding finish
finish_constant [] k s b = refl
finish_constant (q ∷ qs) k s b = finish_cases (λ t. t ≡ leaf b) q qs k s (λ _. b) (λ _. finish_constant qs (k + 1) s b) (λ _. finish_constant qs (k + 1) s b)
    (λ _. parts_cases (λ t. t ≡ leaf b) k (finish qs (k + 1) (yes_to s q) (λ _. b)) (finish qs (k + 1) (no_to s q) (λ _. b))
    (λ _. finish_constant qs (k + 1) (yes_to s q) b)
    (λ d. absurd (d (finish_constant qs (k + 1) (yes_to s q) b ∙ sym (finish_constant qs (k + 1) (no_to s q) b)))))

-- So a finished diagram is a leaf exactly if the rule has one truth where the facts hold.
pub finish_leaf : (qs : List Equation) (k : ℕ) (xs : List Fact) (means : Valuation → Bool) (b : Bool) → Settles means qs xs → free (state_of xs) ≡ true
    → (finish qs k (state_of xs) means ≡ leaf b) ↔ ((v : Valuation) → Fits xs v → means v ≡ b)
finish_leaf qs k xs means b sm t = (
  λ e v h. sym (finish_truth qs k xs means sm t v h) ∙ ap (tree_truth (answers_from k qs v)) e,
  λ e. finish_same qs k xs means (λ _. b) t e ∙ finish_constant qs k (state_of xs) b,
)
