-- Some sheet follows every path of a finished diagram: a question is asked only if it is open, so a sheet fits either answer.
use Prim.Native.Nat.{ℕ, suc, ◌+◌, ◌≤◌}
use mathlib.Core.Path.{◌≡◌, ◌∙◌}
use mathlib.Core.Bool.{Bool, true, false}
use mathlib.Core.List.{List, [], ◌∷◌}
use native.Mathlib.Omega.{arith}
use lib.ListN.{length}
use Rattle.facts.specs.declared.fact.Fact.{Fact}
use Rattle.facts.specs.Facts.{fact, Fits}
use Rattle.facts.specs.State.{State, free, no_to, yes_to, state_of, some_sheet}
use Rattle.store.specs.Tree.{Tree, leaf, node, Ascending}
use Rattle.terms.specs.declared.term.Equation.{Equation}
use Rattle.terms.specs.Meaning.{Valuation}
use Rattle.diagram.specs.Finish.{finish, answers_from}
use Rattle.diagram.specs.Paths.{Path, ends, goes_yes, goes_no, Follows, Followed}
use Rattle.facts.proofs.Decided.{free_fits}
use Rattle.diagram.proofs.FinishTree.{finish_cases, finish_ascending}
use Rattle.diagram.proofs.FinishTruth.{answers_first, answers_later, yes_free, no_free}
use Rattle.diagram.proofs.Trees.{parts_cases}

-- only the questions that stand in the tree matter
follows_rests : (answers others : ℕ → Bool) (least most : ℕ) {t : Tree} (p : Path t) → Ascending least most t
    → ((j : ℕ) → least ≤ j → others j ≡ answers j) → Follows answers p → Follows others p
follows_rests answers others least most ends a e f = tt
follows_rests answers others least most (goes_yes {k = k} p) a e f =
    (e k a.0 ∙ f.0, follows_rests answers others (suc k) most p a.2 (λ j h. e j (omega (arith, a.0))) f.1)
follows_rests answers others least most (goes_no {k = k} p) a e f =
    (e k a.0 ∙ f.0, follows_rests answers others (suc k) most p a.3 (λ j h. e j (omega (arith, a.0))) f.1)

module _ (q : Equation) (qs : List Equation) (k : ℕ) (xs : List Fact) (means : Valuation → Bool) where
  later_follows : (s : State) (v : Valuation) (p : Path (finish qs (k + 1) s means)) → Follows (answers_from (k + 1) qs v) p → Follows (answers_from k (q ∷ qs) v) p
  later_follows s v p f = follows_rests (answers_from (k + 1) qs v) (answers_from k (q ∷ qs) v) (k + 1) (k + length qs) p
      (finish_ascending qs (k + 1) (k + length qs) s means (omega arith)) (answers_later k q qs v) f

  skips : (s : State) (p : Path (finish qs (k + 1) s means)) → Followed qs (k + 1) xs (finish qs (k + 1) s means) p → Followed (q ∷ qs) k xs (finish qs (k + 1) s means) p
  skips s p w = (w.0, w.1, later_follows s w.0 p w.2)

  -- a path of one part, with the answer that leads there
  abbrev Answered : Bool → {t : Tree} → Path t → Type 0
  Answered b p = (v : Valuation) × Fits xs v × (answers_from k (q ∷ qs) v k ≡ b) × Follows (answers_from k (q ∷ qs) v) p

  answers : (s : State) (b : Bool) (p : Path (finish qs (k + 1) s means)) → Followed qs (k + 1) (fact q b ∷ xs) (finish qs (k + 1) s means) p
      → Answered b p
  answers s b p w = (w.0, w.1.1, answers_first k q qs w.0 ∙ w.1.0, later_follows s w.0 p w.2)

  -- a path through an entry goes on in one of its parts
  through : (y n : Tree) → ((p : Path y) → Answered true p)
      → ((p : Path n) → Answered false p)
      → (p : Path (node k y n)) → Followed (q ∷ qs) k xs (node k y n) p
  through y n f g (goes_yes p) = let w = f p in (w.0, w.1, (w.2, w.3))
  through y n f g (goes_no p) = let w = g p in (w.0, w.1, (w.2, w.3))

-- "and some sheet follows it"
pub path_followed : (qs : List Equation) (k : ℕ) (xs : List Fact) (means : Valuation → Bool) → free (state_of xs) ≡ true
    → (p : Path (finish qs k (state_of xs) means)) → Followed qs k xs (finish qs k (state_of xs) means) p
unfolding finish
path_followed [] k xs means t = λ p. leaf_followed p
  where
    leaf_followed : {b : Bool} (p : Path (leaf b)) → Followed [] k xs (leaf b) p
    leaf_followed ends = (some_sheet (state_of xs), free_fits xs t, tt)
path_followed (q ∷ qs) k xs means t =
    let s = state_of xs in
    let y = finish qs (k + 1) (yes_to s q) means in
    let n = finish qs (k + 1) (no_to s q) means in
    finish_cases (λ d. (p : Path d) → Followed (q ∷ qs) k xs d p) q qs k s means
    (λ _ p. skips q qs k xs means s p (path_followed qs (k + 1) xs means t p))
    (λ _ p. skips q qs k xs means s p (path_followed qs (k + 1) xs means t p))
    (λ e.
    let to_yes : (p : Path y) → Answered q qs k xs means true p = λ p. answers q qs k xs means (yes_to s q) true p (path_followed qs (k + 1) (fact q true ∷ xs) means (yes_free xs q t e) p) in
    let to_no : (p : Path n) → Answered q qs k xs means false p = λ p. answers q qs k xs means (no_to s q) false p (path_followed qs (k + 1) (fact q false ∷ xs) means (no_free xs q t e) p) in
    parts_cases (λ d. (p : Path d) → Followed (q ∷ qs) k xs d p) k y n
    (λ _ p. let w = to_yes p in (w.0, w.1, w.3))
    (λ _. through q qs k xs means y n to_yes to_no))
