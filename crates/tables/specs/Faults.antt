-- Which rule tables build takes (the numbers of the faults are in specs/TableFault).
use Rattle.std.specs.Prelude.{ℕ, zero, suc, ◌+◌, ◌%◌, Bool, false, cond, ◌&&◌, List, eqb, leb, ltb, length}
use Rattle.std.proofs.Math.Option.{Option, none, some}
use Rattle.store.specs.Layout.{field_count}
use Rattle.tables.specs.declared.answer.TableFault.{TableFault}
use Rattle.tables.specs.declared.answer.TableFault.TheVariants.{NoWords, NotRows, TooManyRows, BadRow, OutOfLimits, NotListed}
use Rattle.tables.specs.declared.decoding.Shape.{Shape}
use Rattle.tables.specs.declared.decoding.Shape.TheVariants as shape
use Rattle.tables.specs.declared.row.Row.{Row}
use Rattle.tables.specs.Decoding.{decode}
use Rattle.tables.specs.Listed.{guard_listed}
use Rattle.tables.specs.Rows.{row_length, row_count, most_rows, row}
use Rattle.terms.specs.declared.limits.Limits.{Limits}
use Rattle.terms.specs.declared.limits.TermLimits.{TermLimits}
use Rattle.terms.specs.declared.term.Equation.{Equation}
use Rattle.terms.specs.Limits.{terms_within}
use Rattle.terms.specs.Simplify.{simplify}
use Rattle.terms.specs.Words.{allows}

-- "unused columns are 0", "references go to lower rows": the i-th row
unfoldable pub well_formed : ℕ → Row → Bool
well_formed i r =
    cond (leb r.kind 1) (eqb r.a 0 && eqb r.b 0 && eqb r.c 0)
    (cond (eqb r.kind 2) (eqb r.c 0)
    (cond (eqb r.kind 3) (ltb r.a i && eqb r.b 0 && eqb r.c 0)
    (cond (eqb r.kind 4) (ltb r.a i && ltb r.b i && eqb r.c 0)
    (cond (eqb r.kind 5) (ltb r.a i && ltb r.b i && ltb r.c i)
    false))))

-- 35, 36 of an equation
unfoldable pub equation_fault : TermLimits → List ℕ → Equation → Option TableFault
equation_fault limits s e =
    cond (allows limits e.left && allows limits e.right) (cond (guard_listed s (simplify e)) none (some NotListed)) (some OutOfLimits)

abbrev pub shape_fault : TermLimits → List ℕ → Shape → Option TableFault
shape_fault limits s (shape.Leaf b) = none
shape_fault limits s (shape.Equation e) = equation_fault limits s e
shape_fault limits s (shape.Choice a b c) = none

-- 34, 35, 36 of the i-th row
unfoldable pub row_fault : TermLimits → List ℕ → ℕ → Row → Option TableFault
row_fault limits s i r = cond (well_formed i r) (shape_fault limits s (decode r)) (some BadRow)

-- the first of two faults
abbrev pub if_fine : {F : Type 0} → Option F → Option F → Option F
if_fine none next = next
if_fine (some f) next = some f

-- "row by row": the first fault that a test finds in so many rows from the i-th on
unfoldable pub rows_fault : {F : Type 0} → (ℕ → Row → Option F) → List ℕ → ℕ → ℕ → Option F
rows_fault test table zero i = none
rows_fault test table (suc left) i = if_fine (test i (row table i)) (rows_fault test table left (i + 1))

-- "31, 32, 33, then row by row 34, 35, 36"
unfoldable pub table_fault : Limits → List ℕ → List ℕ → Option TableFault
table_fault limits s table =
    cond (eqb (length table) 0) (some NoWords)
    (cond (eqb (length table % row_length) 0)
    (cond (ltb most_rows (row_count table)) (some TooManyRows) (rows_fault (row_fault (terms_within limits (field_count s)) s) table (row_count table) 0))
    (some NotRows))
