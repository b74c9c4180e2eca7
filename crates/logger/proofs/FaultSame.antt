-- A call's own test reads the number of fields, the list, the limit of steps and the number of used entries: in two stores with the same entries, and at one limit
-- of steps, it says the same.
use Prim.Native.Nat.{ℕ, zero, suc, ◌+◌, ◌%◌}
use mathlib.Core.Path.{◌≡◌, refl, sym, ap, ap₂, ◌∙◌}
use mathlib.Core.Bool.{cond, ◌&&◌, ◌||◌}
use mathlib.Core.List.{List}
use mathlib.Core.Option.{none, some}
use lib.Dec.{eqb, ltb}
use lib.ListN.{length}
use Rattle.operations.specs.Handles.{Call, build, negate, join, choose}
use Rattle.store.specs.Layout.{field_count, question_count, leaves, is_handle}
use Rattle.tables.specs.declared.answer.TableFault.TheVariants.{NoWords, NotRows, TooManyRows, BadRow, OutOfLimits, NotListed}
use Rattle.tables.specs.declared.decoding.Shape.{Shape}
use Rattle.tables.specs.declared.decoding.Shape.TheVariants as shape
use Rattle.tables.specs.Decoding.{decode}
use Rattle.tables.specs.Faults.{well_formed, equation_fault, shape_fault, row_fault, rows_fault, table_fault}
use Rattle.tables.specs.Listed.{same_equation, on_list, guard_listed}
use Rattle.tables.specs.Rows.{row_length, row_count, most_rows}
use Rattle.terms.specs.declared.limits.Limits.{Limits}
use Rattle.terms.specs.declared.limits.TermLimits.{TermLimits}
use Rattle.terms.specs.declared.simplification.Guard.{Guard}
use Rattle.terms.specs.declared.simplification.Guard.TheVariants.{Never, Always, Question}
use Rattle.terms.specs.declared.term.Equation.{Equation}
use Rattle.terms.specs.Limits.{terms_within}
use Rattle.terms.specs.Simplify.{simplify}
use Rattle.terms.specs.Words.{field, allows}
use Rattle.store.proofs.StoreWords.{fields_agree, questions_agree, question_agrees}
use Rattle.logger.proofs.CallOnSound.{of_table, of_handles, call_fault}
use Rattle.logger.proofs.SameEntries.{SameEntries}

module _ {s s' : List ℕ} (same : SameEntries s s') where
  on_list_same : (q : Equation) (k : ℕ) → on_list s q k ≡ on_list s' q k
  unfolding on_list
  on_list_same q zero = refl
  on_list_same q (suc k) = ap₂ ◌||◌ (ap (λ p. same_equation p q) (sym (question_agrees same.agree (suc k)))) (on_list_same q k)

  listed_same : (g : Guard) → guard_listed s g ≡ guard_listed s' g
  listed_same Never = refl
  listed_same Always = refl
  listed_same (Question q) = on_list_same q (question_count s) ∙ ap (on_list s' q) (sym (questions_agree same.agree))

  module _ {within within' : TermLimits} (d : within ≡ within') where
    equation_same : (e : Equation) → equation_fault within s e ≡ equation_fault within' s' e
    unfolding equation_fault
    equation_same e = λ i. cond (allows (d i) e.left && allows (d i) e.right) (cond (listed_same (simplify e) i) none (some NotListed)) (some OutOfLimits)

    shape_same : (x : Shape) → shape_fault within s x ≡ shape_fault within' s' x
    shape_same (shape.Leaf b) = refl
    shape_same (shape.Equation e) = equation_same e
    shape_same (shape.Choice a b c) = refl

    row_same : row_fault within s ≡ row_fault within' s'
    unfolding row_fault
    row_same = λ i k r. cond (well_formed k r) (shape_same (decode r) i) (some BadRow)

    rows_same : (table : List ℕ) → rows_fault (row_fault within s) table (row_count table) 0 ≡ rows_fault (row_fault within' s') table (row_count table) 0
    rows_same table = ap (λ test. rows_fault test table (row_count table) 0) row_same

  has_same : (a : ℕ) → is_handle s a ≡ is_handle s' a
  has_same a = ap (λ u. ltb a (u + leaves)) (sym same.same_used)

  module _ (limits limits' : Limits) (steps : limits.terms.steps ≡ limits'.terms.steps) where
    table_same : (table : List ℕ) → table_fault limits s table ≡ table_fault limits' s' table
    unfolding table_fault
    table_same table =
        let within : terms_within limits (field_count s) ≡ terms_within limits' (field_count s') =
        λ i. record { field = field (sym (fields_agree same.agree) i); steps = steps i } in
        λ i. cond (eqb (length table) 0) (some NoWords)
        (cond (eqb (length table % row_length) 0) (cond (ltb most_rows (row_count table)) (some TooManyRows) (rows_same within table i)) (some NotRows))

    pub fault_same : (c : Call) → call_fault limits s c ≡ call_fault limits' s' c
    fault_same (build table) = ap of_table (table_same table)
    fault_same (negate a) = ap of_handles (has_same a)
    fault_same (join a b) = λ i. of_handles (has_same a i && has_same b i)
    fault_same (choose a b c) = λ i. of_handles (has_same a i && has_same b i && has_same c i)
