-- The paths of a diagram from its root to a leaf, and the choices of counts that follow one.
use Rattle.std.specs.Prelude.{Bool, true, false, cond, ◌⊎◌, List, [], ◌∷◌}
use Rattle.std.proofs.Common.{inl, inr}
use Rattle.facts.specs.declared.fact.Fact.{Fact}
use Rattle.facts.specs.Facts.{fact}
use Rattle.terms.specs.Meaning.{Valuation, truth}
use Rattle.normal_form.specs.Tree.{Tree, leaf, ite}

-- A path ends at a leaf; at a guard it goes into the yes part or into the no part.
abbrev pub Path : Tree → Type 0
Path (leaf b) = Unit {0}
Path (ite g y n) = Path y ⊎ Path n

-- the equations of a path with the answers that it takes, the root's first
abbrev pub facts_of : (d : Tree) → Path d → List Fact
facts_of (leaf b) p = []
facts_of (ite g y n) (inl p) = fact g true ∷ facts_of y p
facts_of (ite g y n) (inr p) = fact g false ∷ facts_of n p

-- the leaf at which a path ends
abbrev pub end_of : (d : Tree) → Path d → Bool
end_of (leaf b) p = b
end_of (ite g y n) (inl p) = end_of y p
end_of (ite g y n) (inr p) = end_of n p

-- the path that following the truth of the guards takes
abbrev pub followed : Valuation → (d : Tree) → Path d
followed v (leaf b) = tt
followed v (ite g y n) = cond (truth v g) (inl (followed v y)) (inr (followed v n))
