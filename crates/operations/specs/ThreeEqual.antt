-- The list, the rules and the words of document 01's cases 6 to 8, with the fourth heading word of document 02 (ix).
use Rattle.std.specs.Prelude.{ℕ, List, [], ◌∷◌}

-- n = 3, list 2 = 1, 3 = 1, 3 = 2
abbrev pub three_equal : List ℕ
three_equal = 2 ∷ 1 ∷ 3 ∷ 1 ∷ 3 ∷ 2 ∷ []

-- the same on paper: 1 = 2, S(3) = S(1), 2 = 3, 2 = 1 once more, 1 = 1 and S(2) = 0
abbrev pub three_equal_raw : List ℕ
three_equal_raw = 1 ∷ 2 ∷ 35 ∷ 33 ∷ 2 ∷ 3 ∷ 2 ∷ 1 ∷ 1 ∷ 1 ∷ 34 ∷ 0 ∷ []

-- the rule 3 = 2
abbrev pub last_equal : List ℕ
last_equal = 2 ∷ 3 ∷ 2 ∷ 0 ∷ []

-- the rule 3 = 1
abbrev pub outer_equal : List ℕ
outer_equal = 2 ∷ 3 ∷ 1 ∷ 0 ∷ []

-- the rule 2 = 1 and 3 = 2 and not 3 = 1
abbrev pub not_outer : List ℕ
not_outer = 2 ∷ 2 ∷ 1 ∷ 0 ∷ 2 ∷ 3 ∷ 2 ∷ 0 ∷ 4 ∷ 0 ∷ 1 ∷ 0 ∷ 2 ∷ 3 ∷ 1 ∷ 0 ∷ 3 ∷ 3 ∷ 0 ∷ 0 ∷ 4 ∷ 2 ∷ 4 ∷ 0 ∷ []

-- the words after building 3 = 2, in the order that a number names
abbrev pub after_case_6 : ℕ → List ℕ
after_case_6 order = 3 ∷ 3 ∷ 4 ∷ order ∷ 2 ∷ 1 ∷ 3 ∷ 1 ∷ 3 ∷ 2 ∷ 2 ∷ 1 ∷ 0 ∷ 3 ∷ 1 ∷ 0 ∷ 2 ∷ 0 ∷ 3 ∷ 1 ∷ 2 ∷ 4 ∷ []
