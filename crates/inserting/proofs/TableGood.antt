-- A table that build takes can be walked over: each row refers to lower rows, and the terms of each equation are within the limits.
use Prim.Native.Nat.{ℕ, ◌/◌, ◌%◌, ◌≤◌}
use mathlib.Core.Path.{◌≡◌}
use mathlib.Core.Logic.{◌≢◌}
use mathlib.Core.List.{List}
use mathlib.Core.Option.{none}
use native.Mathlib.Omega.{arith}
use lib.ListN.{length}
use Rattle.facts.specs.Record.{last_field, Small}
use Rattle.store.specs.Layout.{field_count}
use Rattle.tables.specs.declared.decoding.Shape.{Shape}
use Rattle.tables.specs.declared.decoding.Shape.TheVariants.{Leaf, Equation, Choice}
use Rattle.tables.specs.declared.row.Row.{Row}
use Rattle.tables.specs.Decoding.{decode}
use Rattle.tables.specs.Faults.{shape_fault, table_fault}
use Rattle.tables.specs.Rows.{row_length}
use Rattle.terms.specs.declared.limits.Limits.{Limits}
use Rattle.terms.specs.declared.limits.TermLimits.{TermLimits}
use Rattle.terms.specs.declared.term.Equation as equation
use Rattle.terms.specs.Limits.{terms_within, most_count}
use Rattle.walking.specs.Needs.{SmallShape, GoodRow, GoodTable}
use Rattle.tables.proofs.FormedRows.{formed_lower}
use Rattle.tables.proofs.TableTaken.{equation_taken, RowTaken, table_taken}
use Rattle.terms.proofs.TermKept.{allows_says}

module _ (limits : TermLimits) (s : List ℕ) (fields : limits.field.0 ≤ last_field) (steps : limits.steps.0 ≤ most_count) where
  equation_small : (e : equation.Equation) → shape_fault limits s (Equation e) ≡ none → Small most_count e
  equation_small e f =
      let taken = equation_taken limits s e f in
      let l = allows_says limits e.left taken.left_allowed in
      let r = allows_says limits e.right taken.right_allowed in
      record {
        left_in = omega (arith, l.field_in);
        right_in = omega (arith, r.field_in);
        left_steps = omega (arith, l.steps_in);
        right_steps = omega (arith, r.steps_in);
      }

  shape_small : (sh : Shape) → shape_fault limits s sh ≡ none → SmallShape sh
  shape_small (Leaf b) f = tt
  shape_small (Equation e) f = equation_small e f
  shape_small (Choice a b c) f = tt

  good_row : (i : ℕ) (r : Row) → RowTaken limits s i r → GoodRow r i
  good_row i r taken = record { lower = formed_lower i r taken.formed; small = shape_small (decode r) taken.shape_fine }

some_row : (n : ℕ) → n ≢ 0 → n % row_length ≡ 0 → 1 ≤ n / row_length
some_row n some whole = omega arith

pub good_table : (limits : Limits) (s table : List ℕ) → field_count s ≤ last_field → limits.terms.steps.0 ≤ most_count
    → table_fault limits s table ≡ none → GoodTable table
good_table limits s table fields steps e =
    let taken = table_taken limits s table e in
    record {
      some = some_row (length table) taken.some_words taken.whole;
      few = taken.few;
      good = λ i h. good_row (terms_within limits (field_count s)) s fields steps i _ (taken.row_fine i h);
    }
