-- What is said of each row stands at its number, and rows not reached yet are never, in the numbers as in the list of values; so each turn
-- adds the value of one row.
use Prim.Native.Nat.{ℕ, zero, suc, ◌+◌, ◌-◌, ◌<◌}
use mathlib.Core.Path.{◌≡◌, refl, sym, ap, subst, ◌∙◌}
use mathlib.Core.Logic.{◌≢◌}
use mathlib.Core.List.{List, [], ◌∷◌, ◌++◌}
use native.Mathlib.Omega.{arith}
use native.Mathlib.Decide.{ℕ_discrete}
use native.Mathlib.Numerals.{add-one}
use lib.ListN.{length, get_or, set, replicate, length-append, length-set, length-replicate}
use lib.Seq.{get_or-set_same, get_or-set_other}
use Rattle.std.proofs.lemmas.List.{get_or_default}
use Rattle.facts.specs.declared.decision.Decision.{Decision}
use Rattle.facts.specs.declared.decision.Decision.TheVariants.{Never}
use Rattle.facts.specs.declared.record.Facts.{Facts}
use Rattle.facts.specs.Needs.{Askable}
use Rattle.facts.specs.Record.{state}
use Rattle.facts.specs.State.{State}
use Rattle.tables.specs.declared.decoding.Shape.{Shape}
use Rattle.tables.specs.declared.decoding.Shape.TheVariants as shape
use Rattle.tables.specs.declared.row.Row.{Row}
use Rattle.tables.specs.Decoding.{decode}
use Rattle.tables.specs.Rows.{row, row_count, most_rows}
use Rattle.terms.specs.declared.term.Equation.{Equation}
use Rattle.walking.specs.Needs.{said, SmallShape, AsksTable, AsksRow}
use Rattle.walking.specs.Value.{row_value, row_values, table_value}
use Rattle.facts.proofs.HeldFacts.{holds_ready}

-- ---- a row by what it stands for
module _ {table : List ℕ} {i : ℕ} {before : List Decision} {f : Facts} (asks : AsksRow table i before f) where
  pub asks_ready : {r : Row} {sh : Shape} → r ≡ row table i → sh ≡ decode r → {q : Equation} → sh ≡ shape.Equation q → Askable f q
  asks_ready er es {q} e =
      let d = es ∙ ap decode er in
      holds_ready asks.holds (omega arith) (omega arith) q (subst SmallShape e (rw d (asks.good_table.good i asks.row_in).small))

-- ---- all rows in turn
module _ (st : State) (table : List ℕ) where
  pub values_length : (i : ℕ) → length (row_values st table i) ≡ i
  unfolding row_values
  values_length zero = refl
  values_length (suc i) = length-append (row_values st table i) _ ∙ rw (values_length i) (omega arith)

-- the i-th value is added to the list
get_or_last : (ds : List Decision) (d : Decision) → get_or (ds ++ (d ∷ [])) (length ds) Never ≡ d
get_or_last [] d = refl
get_or_last (x ∷ ds) d = get_or_last ds d

get_or_other : (ds : List Decision) (d : Decision) (j : ℕ) → j ≢ length ds → get_or (ds ++ (d ∷ [])) j Never ≡ get_or ds j Never
get_or_other [] d zero n = absurd (n refl)
get_or_other [] d (suc j) n = refl
get_or_other (x ∷ ds) d zero n = refl
get_or_other (x ∷ ds) d (suc j) n = get_or_other ds d j (λ e. n (ap suc e))

-- what is said of the first i rows stands in the array
pub record SaidRows (table : List ℕ) (f : Facts) (values : List Decision) (i : ℕ) : Type 0 where
  pub long : length values ≡ most_rows
  pub says : (j : ℕ) → said values j ≡ get_or (row_values (state f) table i) j Never

nevers : (n j : ℕ) → said (replicate n Never) j ≡ Never
nevers zero j = refl
nevers (suc n) zero = refl
nevers (suc n) (suc j) = nevers n j

pub said_none : (table : List ℕ) (f : Facts) → SaidRows table f (replicate most_rows Never) 0
unfolding row_values
said_none table f = record { long = length-replicate {A = Decision} most_rows Never; says = nevers most_rows }

module _ {table : List ℕ} {f : Facts} (asks : AsksTable table f) {values : List Decision} {i : ℕ} (sr : SaidRows table f values i) where
  pub said_next : {d : Decision} → i < row_count table → d ≡ row_value (state f) (said values) (row table i) → SaidRows table f (set values i d) (i + 1)
  unfolding row_values
  said_next {d} h ed =
      let vs = row_values (state f) table i in
      let long = values_length (state f) table i in
      let inside : i < length values = omega (arith, sr.long, asks.good_table.few) in
      let new : d ≡ row_value (state f) (λ j. get_or vs j Never) (row table i) = ed ∙ (λ k. row_value (state f) (λ j. sr.says j k) (row table i)) in
      record {
        long = length-set values i d ∙ sr.long;
        says = λ j. rw (add-one, ← new) (elim (ℕ_discrete j i) [
          | yes e ↦ rw e (get_or-set_same values i d Never inside ∙ sym (ap (λ (m : ℕ). get_or (vs ++ (d ∷ [])) m Never) (sym long) ∙ get_or_last vs d))
          | no n ↦ get_or-set_other values i j d Never n ∙ sr.says j ∙ sym (get_or_other vs d j (λ e. n (e ∙ long)))
        ]);
      }

module _ {table : List ℕ} {f : Facts} (asks : AsksTable table f) {values : List Decision} {rows : ℕ} (er : rows ≡ row_count table)
    (sr : SaidRows table f values rows) where
  last_row : rows - 1 < length values
  last_row = omega (arith, sr.long, asks.good_table.few, asks.good_table.some)

  pub said_all : (d : Decision) → get_or values (rows - 1) d ≡ table_value table (state f)
  said_all d = get_or_default values (rows - 1) d Never last_row ∙ sr.says (rows - 1) ∙ (λ k. get_or (row_values (state f) table (er k)) (er k - 1) Never)
