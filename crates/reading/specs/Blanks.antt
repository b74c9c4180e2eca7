-- Document 02 (iii): "on our sheets it means 'not counted'", said of 65,535. The fillings of a sheet, and the facts that it has.
use Rattle.std.specs.Prelude.{ℕ, zero, suc, ◌≤◌, ◌<◌, ◌≡◌, Bool, true, false, cond, List, [], ◌∷◌, eqb, length, get_or}
use Rattle.facts.specs.declared.fact.Fact.{Fact}
use Rattle.facts.specs.Facts.{fact}
use Rattle.facts.specs.Least.{counts}
use Rattle.reading.specs.Sheet.{sheet_counts}
use Rattle.terms.specs.declared.term.Field.{Field}
use Rattle.terms.specs.Meaning.{Valuation}

-- "65,535 ... means 'not counted'"
abbrev pub blank : ℕ
blank = 65535

abbrev pub is_blank : ℕ → Bool
is_blank count = eqb count blank

-- "every filling of the blanks with natural numbers, each by itself": a choice of counts that gives each counted field its count. Nothing is asked of what it
-- gives a blank field, and nothing of two of them together.
pub record Fills (sheet : List ℕ) (v : Valuation) : Type 0 where
  pub counted : (f : Field) → 1 ≤ f.0 → f.0 ≤ length sheet → is_blank (sheet_counts sheet f) ≡ false → v f ≡ sheet_counts sheet f

-- the filling of a sheet that takes its blanks from a choice of counts
abbrev pub filled : List ℕ → Valuation → Valuation
filled sheet w f = cond (is_blank (sheet_counts sheet f)) (w f) (sheet_counts sheet f)

-- all fields were counted
abbrev pub NoBlank : List ℕ → Type 0
NoBlank sheet = (i : ℕ) → i < length sheet → is_blank (get_or sheet i 0) ≡ false

-- ---- as a function that computes
-- the facts with "the field counts so much", unless it is a blank
abbrev pub with_count : ℕ → ℕ → List Fact → List Fact
with_count field count facts = cond (is_blank count) facts (fact (counts field count) true ∷ facts)

-- of the first so many fields, the newest fact first
unfoldable pub facts_up_to : List ℕ → ℕ → List Fact
facts_up_to sheet zero = []
facts_up_to sheet (suc k) = with_count (suc k) (get_or sheet k 0) (facts_up_to sheet k)

-- a fact for each counted field of the sheet
abbrev pub sheet_facts : List ℕ → List Fact
sheet_facts sheet = facts_up_to sheet (length sheet)
