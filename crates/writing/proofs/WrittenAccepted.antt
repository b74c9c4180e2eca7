-- Build takes the table that is written back: its rows are well formed, and its equations are questions of the list, which are within the limits and
-- simplify to themselves.
use Prim.Native.Nat.{ℕ, zero, suc, ◌+◌, ◌-◌, ◌*◌, ◌%◌, ◌≤◌, ◌<◌}
use mathlib.Core.Path.{◌≡◌, refl}
use mathlib.Core.Logic.{◌≢◌}
use mathlib.Core.Bool.{true, cond, ◌&&◌, or-true}
use mathlib.Core.List.{List}
use mathlib.Core.Option.{none}
use native.Mathlib.Omega.{arith}
use native.Mathlib.Decide.{ℕ_discrete}
use borrow.Author.Tests.{eq-eqb, ne_eqb, le-ltb}
use lib.ListN.{length}
use Rattle.std.specs.Prelude.{Result, Ok, Err}
use Rattle.store.specs.declared.answer.OpenFault.{OpenFault}
use Rattle.store.specs.declared.answer.OpenFault.TheVariants.{OutOfLimits, NotSimplified, NotAbove}
use Rattle.store.specs.Layout.{field_count, question_count, used, list_words, question_in, question, leaves}
use Rattle.store.specs.Open.{above_last, question_fault}
use Rattle.store.specs.SoundParts.{Sound}
use Rattle.tables.specs.declared.decoding.Shape.{Shape}
use Rattle.tables.specs.declared.decoding.Shape.TheVariants.{Leaf, Equation, Choice}
use Rattle.tables.specs.declared.row.Row.{Row}
use Rattle.tables.specs.Decoding.{decode}
use Rattle.tables.specs.Faults.{equation_fault, shape_fault, row_fault, table_fault}
use Rattle.tables.specs.Listed.{same_equation, on_list, guard_listed}
use Rattle.tables.specs.Rows.{row_length, row_count, most_rows, row}
use Rattle.terms.specs.declared.limits.Limits.{Limits}
use Rattle.terms.specs.declared.limits.TermLimits.{TermLimits}
use Rattle.terms.specs.declared.simplification.Guard.TheVariants.{Question}
use Rattle.terms.specs.declared.term.Equation as term
use Rattle.terms.specs.Form.{is_simplified}
use Rattle.terms.specs.Limits.{terms_within}
use Rattle.terms.specs.Order.{Order, order_of}
use Rattle.terms.specs.Simplify.{simplify}
use Rattle.terms.specs.Words.{allows}
use Rattle.writing.specs.WriteBack.{reachable, marked_before, written_rows, written_count}
use Rattle.writing.specs.WrittenRow.{WrittenShape, WrittenRow}
use Rattle.store.proofs.SoundList.{each_accepted, accepted_allows}
use Rattle.tables.proofs.TableTaken.{all_fine}
use Rattle.terms.proofs.Cases.{by_eq, by_test}
use Rattle.terms.proofs.SimplifyForm.{simplified_stays, is_simplified_says}
use Rattle.writing.proofs.WrittenRows.{written_length, written_row_count, written_formed}

-- ---- a question of the list
same_equation_self : (q : term.Equation) → same_equation q q ≡ true
same_equation_self q = simp (
  eq-eqb q.left.field.0 q.left.field.0 refl,
  eq-eqb q.left.steps.0 q.left.steps.0 refl,
  eq-eqb q.right.field.0 q.right.field.0 refl,
  eq-eqb q.right.steps.0 q.right.steps.0 refl,
)

-- it is found by its number
numbered_listed : (s : List ℕ) (j k : ℕ) → 1 ≤ j → j ≤ k → on_list s (question s j) k ≡ true
unfolding on_list
numbered_listed s j zero h l = absurd (omega arith)
numbered_listed s j (suc k) h l = elim (ℕ_discrete j (suc k)) [
  | yes d ↦
      let e : same_equation (question s (suc k)) (question s j) ≡ true = rw d (same_equation_self (question s (suc k))) in
      rw e
  | no n ↦ rw (numbered_listed s j k h (omega arith), or-true)
]

accepted_simplified : (order : Order) (limits : TermLimits) (words : List ℕ) (k : ℕ) → question_fault order limits words k ≡ Ok tt → is_simplified (question_in words k) ≡ true
unfolding question_fault
accepted_simplified order limits words k e =
    let q = question_in words k in
    let rest : Result Unit OpenFault = cond (above_last order words k) (Ok tt) (Err NotAbove) in
    by_test (λ t. cond t (cond (is_simplified q) rest (Err NotSimplified)) (Err OutOfLimits) ≡ Ok tt → is_simplified q ≡ true)
    (allows limits q.left && allows limits q.right)
    (λ _. by_test (λ t. cond t rest (Err NotSimplified) ≡ Ok tt → t ≡ true) (is_simplified q)
    (λ _ _. refl) (λ _ r. absurd (let z : ◌≡◌ {A = ℕ} 0 1 = cc in omega arith)))
    (λ _ r. absurd (let z : ◌≡◌ {A = ℕ} 0 1 = cc in omega arith)) e

module _ {limits : Limits} {s : List ℕ} (snd : Sound limits s) where
  abbrev within : TermLimits
  within = terms_within limits (field_count s)

  question_fine : (j : ℕ) → 1 ≤ j → j ≤ question_count s → equation_fault within s (question s j) ≡ none
  unfolding equation_fault
  question_fine j first last =
      let passed : question_fault (order_of snd.order) within (list_words s) (j - 1) ≡ (Ok tt) =
      each_accepted (order_of snd.order) within (list_words s) (question_count s) 0 snd.list_kept (j - 1) (omega arith) (omega arith) in
      let allowed : (allows within (question s j).left && allows within (question s j).right) ≡ true = accepted_allows (order_of snd.order) within (list_words s) (j - 1) passed in
      let stays : simplify (question s j) ≡ Question (question s j) =
      simplified_stays (question s j) (is_simplified_says (question s j) (accepted_simplified (order_of snd.order) within (list_words s) (j - 1) passed)) in
      let listed : guard_listed s (simplify (question s j)) ≡ true = rw stays (numbered_listed s j (question_count s) first last) in
      rw (allowed, listed)

  shape_fine : (sh : Shape) → WrittenShape s sh → shape_fault within s sh ≡ none
  shape_fine (Leaf b) a = refl
  shape_fine (Equation e) a = rw a.3 (question_fine a.0 a.1 a.2)
  shape_fine (Choice x y z) a = refl

  row_fine : (i : ℕ) (r : Row) → WrittenRow s i r → row_fault within s i r ≡ none
  unfolding row_fault
  row_fine i r w = rw w.formed (shape_fine (decode r) w.shape)

  module _ (h : ℕ) (u : h < used s + leaves) where
    some_rows : 1 ≤ written_count s h
    some_rows = by_eq (λ t. 1 ≤ cond t 1 (2 + 2 * marked_before (reachable s h) (suc h - leaves))) h 0 (λ _. omega arith) (λ _. omega arith)

    pub written_accepted : written_count s h ≤ most_rows → table_fault limits s (written_rows s h) ≡ none
    unfolding table_fault
    written_accepted few =
        let table = written_rows s h in
        let n₁ : length table ≢ 0 = λ e. omega (arith, written_length s h, some_rows, e) in
        let n₂ : length table % row_length ≡ 0 = omega (arith, written_length s h) in
        let n₃ : row_count table ≤ most_rows = omega (arith, written_row_count s h, few) in
        rw (ne_eqb (length table) 0 n₁, eq-eqb (length table % row_length) 0 n₂, le-ltb most_rows (row_count table) n₃)
        (all_fine (row_fault within s) table (row_count table) 0 (λ j _ l. row_fine j (row table j) (written_formed snd h u j (omega (arith, written_row_count s h)))))
