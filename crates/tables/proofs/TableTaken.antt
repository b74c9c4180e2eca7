-- What it says that a table has no fault: no test of the definition refused. So each row refers to lower rows, and its equation is within the
-- limits and listed.
use Prim.Native.Nat.{ℕ, zero, suc, ◌+◌, ◌%◌, ◌≤◌, ◌<◌}
use mathlib.Core.Path.{◌≡◌, refl, sym, subst}
use mathlib.Core.Logic.{◌≢◌}
use mathlib.Core.Bool.{Bool, true, false, cond, ◌&&◌, and-false}
use mathlib.Core.List.{List}
use mathlib.Core.Option.{Option, none, some}
use native.Mathlib.Omega.{arith}
use native.Mathlib.Decide.{ℕ_discrete}
use borrow.Author.Tests.{eqb-true, eqb-false, ltb-false}
use lib.Dec.{eqb, ltb}
use lib.ListN.{length}
use Rattle.store.specs.Layout.{field_count}
use Rattle.tables.specs.declared.answer.TableFault.TheVariants.{NoWords, NotRows, TooManyRows, BadRow, OutOfLimits, NotListed}
use Rattle.tables.specs.declared.row.Row.{Row}
use Rattle.tables.specs.Decoding.{decode}
use Rattle.tables.specs.Faults.{well_formed, equation_fault, shape_fault, row_fault, if_fine, rows_fault, table_fault}
use Rattle.tables.specs.Listed.{guard_listed}
use Rattle.tables.specs.Rows.{row_length, row_count, most_rows, row}
use Rattle.terms.specs.declared.limits.Limits.{Limits}
use Rattle.terms.specs.declared.limits.TermLimits.{TermLimits}
use Rattle.terms.specs.declared.term.Equation.{Equation}
use Rattle.terms.specs.Limits.{terms_within}
use Rattle.terms.specs.Simplify.{simplify}
use Rattle.terms.specs.Words.{allows}
use Rattle.store.proofs.Tests.{passes}

-- ---- answers
faulty : {F : Type 0} {f : F} → some f ≡ none → ⊥
faulty {F} {f} e = let z : ◌≡◌ {A = ℕ} 0 1 = cc in omega arith

-- where the test fails there is a fault
passed : {F : Type 0} (t : Bool) (a : Option F) (f : F) → cond t a (some f) ≡ none → (t ≡ true) × (a ≡ none)
passed true a f e = (refl, e)
passed false a f e = absurd (faulty e)

not_passed : {F : Type 0} (t : Bool) (f : F) (a : Option F) → cond t (some f) a ≡ none → (t ≡ false) × (a ≡ none)
not_passed true f a e = absurd (faulty e)
not_passed false f a e = (refl, e)

both_fine : {F : Type 0} (a b : Option F) → if_fine a b ≡ none → (a ≡ none) × (b ≡ none)
both_fine none b e = (refl, e)
both_fine (some f) b e = absurd (faulty e)

-- ---- the rows, by any test
module _ {F : Type 0} (test : ℕ → Row → Option F) (table : List ℕ) where
  pub each_fine : (left i : ℕ) → rows_fault test table left i ≡ none → (j : ℕ) → i ≤ j → j < i + left → test j (row table j) ≡ none
  unfolding rows_fault
  each_fine zero i e j l k = absurd (omega arith)
  each_fine (suc left) i e j l k =
      let both = both_fine (test i (row table i)) (rows_fault test table left (i + 1)) e in
      elim (ℕ_discrete j i) [
        | yes d ↦ subst (λ x. test x (row table x) ≡ none) (sym d) both.0
        | no n ↦ each_fine left (i + 1) both.1 j (omega arith) (omega arith)
      ]

  pub all_fine : (left i : ℕ) → ((j : ℕ) → i ≤ j → j < i + left → test j (row table j) ≡ none) → rows_fault test table left i ≡ none
  unfolding rows_fault
  all_fine zero i f = refl
  all_fine (suc left) i f = rw (f i (omega arith) (omega arith)) (all_fine left (i + 1) (λ j l k. f j (omega arith) (omega arith)))

-- ---- an equation
pub record EquationTaken (limits : TermLimits) (s : List ℕ) (e : Equation) : Type 0 where
  pub left_allowed : allows limits e.left ≡ true
  pub right_allowed : allows limits e.right ≡ true
  pub listed : guard_listed s (simplify e) ≡ true

pub equation_taken : (limits : TermLimits) (s : List ℕ) (e : Equation) → equation_fault limits s e ≡ none → EquationTaken limits s e
unfolding equation_fault
equation_taken limits s e f =
    let l = allows limits e.left in
    let r = allows limits e.right in
    let within = passed (l && r) (cond (guard_listed s (simplify e)) none (some NotListed)) OutOfLimits f in
    record {
      left_allowed = passes l (λ d. rw d at within.0);
      right_allowed = passes r (λ d. simp (d, and-false) at within.0);
      listed = (passed (guard_listed s (simplify e)) none NotListed within.1).0;
    }

-- ---- a row
pub record RowTaken (limits : TermLimits) (s : List ℕ) (i : ℕ) (r : Row) : Type 0 where
  pub formed : well_formed i r ≡ true
  pub shape_fine : shape_fault limits s (decode r) ≡ none

pub row_taken : (limits : TermLimits) (s : List ℕ) (i : ℕ) (r : Row) → row_fault limits s i r ≡ none → RowTaken limits s i r
unfolding row_fault
row_taken limits s i r e =
    let both = passed (well_formed i r) (shape_fault limits s (decode r)) BadRow e in
    record { formed = both.0; shape_fine = both.1 }

-- ---- a table
pub record TableTaken (limits : Limits) (s table : List ℕ) : Type 0 where
  pub some_words : length table ≢ 0
  pub whole : length table % row_length ≡ 0
  pub few : row_count table ≤ most_rows
  pub row_fine : (j : ℕ) → j < row_count table → RowTaken (terms_within limits (field_count s)) s j (row table j)

pub table_taken : (limits : Limits) (s table : List ℕ) → table_fault limits s table ≡ none → TableTaken limits s table
unfolding table_fault
table_taken limits s table e =
    let within = terms_within limits (field_count s) in
    let test = row_fault within s in
    let words = not_passed (eqb (length table) 0) NoWords _ e in
    let rows = passed (eqb (length table % row_length) 0) _ NotRows words.1 in
    let few = not_passed (ltb most_rows (row_count table)) TooManyRows _ rows.1 in
    record {
      some_words = eqb-false (length table) 0 words.0;
      whole = eqb-true (length table % row_length) 0 rows.0;
      few = ltb-false most_rows (row_count table) few.0;
      row_fine = λ j h. row_taken within s j (row table j) (each_fine test table (row_count table) 0 few.1 j (omega arith) (omega arith));
    }
