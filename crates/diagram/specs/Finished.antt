-- The finished diagram in the paper's words (document 01, "The finished diagram"): a relation between the questions left, the facts gathered
-- so far, and a diagram. The questions' numbers count on from `k`.
use Rattle.std.specs.Prelude.{ℕ, ◌+◌, ◌≡◌, ◌≢◌, Bool, true, false, List, [], ◌∷◌}
use Rattle.facts.specs.declared.decision.Decision.TheVariants.{Always, Never, Open}
use Rattle.facts.specs.declared.fact.Fact.{Fact}
use Rattle.facts.specs.Facts.{fact, Fits, Forces}
use Rattle.store.specs.Tree.{Tree, leaf, node}
use Rattle.terms.specs.declared.term.Equation.{Equation}
use Rattle.terms.specs.Meaning.{Valuation}

pub data Finished (means : Valuation → Bool) : List Equation → ℕ → List Fact → Tree → Type 0 where
  -- "After the last question the rule's truth is forced, and is the leaf."
  last : {k : ℕ} {xs : List Fact} {b : Bool} → ((v : Valuation) → Fits xs v → means v ≡ b) → Finished means [] k xs (leaf b)
  -- "A question that is true under every choice of counts fitting the facts, or false under every such choice, is skipped with that answer."
  skipped_yes : {q : Equation} {qs : List Equation} {k : ℕ} {xs : List Fact} {t : Tree}
      → Forces xs q Always → Finished means qs (k + 1) xs t → Finished means (q ∷ qs) k xs t
  skipped_no : {q : Equation} {qs : List Equation} {k : ℕ} {xs : List Fact} {t : Tree}
      → Forces xs q Never → Finished means qs (k + 1) xs t → Finished means (q ∷ qs) k xs t
  -- "Otherwise it is asked: the yes part is finished with the fact added, then the no part with its opposite added."
  asked : {q : Equation} {qs : List Equation} {k : ℕ} {xs : List Fact} {y n : Tree}
      → Forces xs q Open → Finished means qs (k + 1) (fact q true ∷ xs) y → Finished means qs (k + 1) (fact q false ∷ xs) n → y ≢ n
      → Finished means (q ∷ qs) k xs (node k y n)
  -- "If both parts are the same diagram, that diagram stands and no entry is made."
  same_parts : {q : Equation} {qs : List Equation} {k : ℕ} {xs : List Fact} {t : Tree}
      → Forces xs q Open → Finished means qs (k + 1) (fact q true ∷ xs) t → Finished means qs (k + 1) (fact q false ∷ xs) t
      → Finished means (q ∷ qs) k xs t
