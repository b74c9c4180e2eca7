-- Equations and the words that hold them, "two term words each, left first": a raw list's, and a store's list's.
use Rattle.std.specs.Prelude.{ℕ, List, [], ◌∷◌}
use Rattle.terms.specs.declared.term.Equation.{Equation}
use Rattle.terms.specs.Words.{equation, term_of, word_of}

-- the equations that words hold; a last word without another holds none
unfoldable pub equations : List ℕ → List Equation
equations [] = []
equations (l ∷ []) = []
equations (l ∷ r ∷ words) = equation (term_of l) (term_of r) ∷ equations words

-- the words that hold equations
unfoldable pub words_of : List Equation → List ℕ
words_of [] = []
words_of (e ∷ es) = word_of e.left ∷ word_of e.right ∷ words_of es
