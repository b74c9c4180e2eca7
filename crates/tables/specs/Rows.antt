-- What a rule table means (document 01, "Operations": build).
use Rattle.std.specs.Prelude.{ℕ, zero, suc, ◌+◌, ◌-◌, ◌*◌, ◌/◌, Bool, true, false, cond, not, ◌&&◌, List, [], ◌∷◌, ◌++◌, eqb, length, get_or}
use Rattle.tables.specs.declared.row.Row.{Row}
use Rattle.terms.specs.Meaning.{Valuation, truth}
use Rattle.terms.specs.Words.{equation, term_of}

-- "a rule table of rows of four words (kind, a, b, c)"; "Rows count from 0"
abbrev pub row_length : ℕ
row_length = 4

abbrev pub row_count : List ℕ → ℕ
row_count table = length table / row_length

-- "33, more than 256 rows"; "53, write-back above 256 rows"
abbrev pub most_rows : ℕ
most_rows = 256

abbrev pub row : List ℕ → ℕ → Row
row table i =
    let at = row_length * i in
    record { kind = get_or table at 0; a = get_or table (at + 1) 0; b = get_or table (at + 2) 0; c = get_or table (at + 3) 0 }

-- "Kinds: 0 never; 1 always; 2 equation of term words a, b, simplified before it is looked up; 3 not row a; 4 rows a and b; 5 if row a then
-- row b else row c.": a row's truth, given the truth of the rows before it. (Another kind is refused; here it is never.)
unfoldable pub row_truth : Valuation → (ℕ → Bool) → Row → Bool
row_truth v before r =
    cond (eqb r.kind 0) false
    (cond (eqb r.kind 1) true
    (cond (eqb r.kind 2) (truth v (equation (term_of r.a) (term_of r.b)))
    (cond (eqb r.kind 3) (not (before r.a))
    (cond (eqb r.kind 4) (before r.a && before r.b)
    (cond (eqb r.kind 5) (cond (before r.a) (before r.b) (before r.c))
    false)))))

-- the truths of the first rows, in turn
unfoldable pub row_truths : Valuation → List ℕ → ℕ → List Bool
row_truths v table zero = []
row_truths v table (suc k) =
    let truths = row_truths v table k in
    truths ++ (row_truth v (λ i. get_or truths i false) (row table k) ∷ [])

-- "The last row is the rule."
abbrev pub rule_meaning : List ℕ → Valuation → Bool
rule_meaning table v = get_or (row_truths v table (row_count table)) (row_count table - 1) false
