-- A call that is accepted within smaller limits gives, within larger ones, the same handle and the same words: its table is taken there too, and each entry that
-- found room finds it there.
use Prim.Native.Nat.{ℕ, ◌+◌, ◌%◌}
use mathlib.Core.Path.{◌≡◌, refl, ap, ◌∙◌}
use mathlib.Core.Bool.{cond}
use mathlib.Core.List.{List, []}
use mathlib.Core.Option.{none}
use native.Mathlib.Omega.{arith}
use borrow.Author.Tests.{lt-ltb, le-ltb, eq-eqb, ne_eqb}
use lib.Dec.{ltb}
use lib.ListN.{length}
use Rattle.std.proofs.Common.{Option, Some, None}
use Rattle.diagram.specs.Insert.{add_entry, place_entry, then_place, insert}
use Rattle.diagram.specs.Questions.{finished_in}
use Rattle.logger.specs.SmallerLimits.{Smaller}
use Rattle.std.specs.Prelude.{Ok}
use Rattle.operations.specs.Handles.{Call, build, negate, join, choose, answer_to, rule_of_call}
use Rattle.operations.specs.Operations.{unless_full, added, add_meaning}
use Rattle.store.specs.declared.entries.Entry.{Entry}
use Rattle.store.specs.Entries.{find_entry, with_entry}
use Rattle.store.specs.Layout.{field_count, used, entry_of, leaves, room}
use Rattle.store.specs.Outcome.{Outcome, outcome}
use Rattle.store.specs.Tree.{Tree, leaf, node}
use Rattle.tables.specs.declared.decoding.Shape.{Shape}
use Rattle.tables.specs.declared.decoding.Shape.TheVariants as shape
use Rattle.tables.specs.declared.row.Row.{Row}
use Rattle.tables.specs.Decoding.{decode}
use Rattle.tables.specs.Faults.{equation_fault, shape_fault, row_fault, table_fault}
use Rattle.tables.specs.Rows.{row_length, row_count, most_rows, row}
use Rattle.terms.specs.declared.limits.Limits.{Limits}
use Rattle.terms.specs.declared.term.Equation.{Equation}
use Rattle.terms.specs.Limits.{terms_within}
use Rattle.diagram.proofs.InsertTree.{then_cases}
use Rattle.operations.proofs.BuiltCases.{not_both}
use Rattle.operations.proofs.CallCases.{TestPassed, call_cases}
use Rattle.operations.proofs.MeaningAdded.{added_cases}
use Rattle.store.proofs.SoundFacts.{sound_says}
use Rattle.tables.proofs.TableTaken.{all_fine, equation_taken, RowTaken, table_taken}
use Rattle.terms.proofs.Cases.{by_test, by_lt}
use Rattle.logger.proofs.CallOnSound.{of_table, of_handles, call_fault, unless_fault, call_on_sound}
use Rattle.logger.proofs.InsertSame.{not_full, after_no, after_yes}
use Rattle.logger.proofs.LargerLimits.{term_allowed, sound_larger}

-- ---- tables
module _ {limits larger : Limits} (small : Smaller limits larger) (s : List ℕ) where
  equation_larger : (e : Equation) → equation_fault (terms_within limits (field_count s)) s e ≡ none → equation_fault (terms_within larger (field_count s)) s e ≡ none
  unfolding equation_fault
  equation_larger e d =
      let k = equation_taken (terms_within limits (field_count s)) s e d in
      let allowed = term_allowed small (field_count s) in
      rw (equation_fault, allowed e.left k.left_allowed, allowed e.right k.right_allowed, k.listed)

  shape_larger : (x : Shape) → shape_fault (terms_within limits (field_count s)) s x ≡ none → shape_fault (terms_within larger (field_count s)) s x ≡ none
  shape_larger (shape.Leaf b) e = refl
  shape_larger (shape.Equation q) e = equation_larger q e
  shape_larger (shape.Choice a b c) e = refl

  row_larger : (i : ℕ) (r : Row) → RowTaken (terms_within limits (field_count s)) s i r → row_fault (terms_within larger (field_count s)) s i r ≡ none
  unfolding row_fault
  row_larger i r k = rw k.formed (shape_larger (decode r) k.shape_fine)

  table_larger : (table : List ℕ) → table_fault limits s table ≡ none → table_fault larger s table ≡ none
  unfolding table_fault
  table_larger table e =
      let k = table_taken limits s table e in
      rw (ne_eqb (length table) 0 k.some_words, eq-eqb (length table % row_length) 0 k.whole, le-ltb most_rows (row_count table) k.few)
      (all_fine (row_fault (terms_within larger (field_count s)) s) table (row_count table) 0 (λ i _ h. row_larger i (row table i) (k.row_fine i (omega arith))))

  test_larger : (c : Call) → TestPassed limits s c → call_fault larger s c ≡ none
  test_larger (build table) t = ap of_table (table_larger table t)
  test_larger (negate a) t = ap of_handles t
  test_larger (join a b) t = ap of_handles t
  test_larger (choose a b c) t = ap of_handles t

-- ---- diagrams
then_at : {o : Outcome (Option ℕ)} (next : ℕ → List ℕ → Outcome (Option ℕ)) {g : ℕ} → o.answer ≡ Some g → then_place o next ≡ next g o.words
then_at next e = rw e

module _ {limits larger : Limits} (small : Smaller limits larger) where
  place_larger : (s : List ℕ) (e : Entry) (h : ℕ) → (place_entry limits s e).answer ≡ Some h → place_entry larger s e ≡ place_entry limits s e
  unfolding place_entry add_entry
  place_larger s e h =
      let i : ℕ = find_entry s (used s) e in
      let new : Outcome (Option ℕ) = outcome (Some (used s + leaves)) (with_entry s e) in
      let found : Outcome (Option ℕ) = outcome (Some (i + leaves)) s in
      by_test (λ t. (cond t found (add_entry limits s e)).answer ≡ Some h → cond t found (add_entry larger s e) ≡ cond t found (add_entry limits s e)) (ltb i (used s))
      (λ _ _. refl)
      (λ _. by_lt (λ t. (cond t new (outcome None s)).answer ≡ Some h → add_entry larger s e ≡ cond t new (outcome None s)) (used s) (room limits s)
      (λ l _. rw (add_entry, lt-ltb (used s) (room larger s) (omega (arith, small.entries_in))))
      (λ _ d. absurd (not_full d)))

  module _ {o o' : Outcome (Option ℕ)} (next next' : ℕ → List ℕ → Outcome (Option ℕ)) (h : ℕ) where
    then_larger : ((g : ℕ) → o.answer ≡ Some g → o' ≡ o) → ((g : ℕ) (w : List ℕ) → (next g w).answer ≡ Some h → next' g w ≡ next g w)
        → (then_place o next).answer ≡ Some h → then_place o' next' ≡ then_place o next
    then_larger first later = then_cases (λ x. x.answer ≡ Some h → then_place o' next' ≡ x) o next
        (λ g e d. ap (λ x. then_place x next') (first g e) ∙ then_at next' e ∙ later g o.words d) (λ _ d. absurd (not_full d))

  insert_larger : (t : Tree) (s : List ℕ) (h : ℕ) → (insert limits s t).answer ≡ Some h → insert larger s t ≡ insert limits s t
  unfolding insert
  insert_larger (leaf b) s h = λ _. refl
  insert_larger (node k y n) s h =
      then_larger (after_yes limits k n) (after_yes larger k n) h (insert_larger y s) (λ hy w.
      then_larger (after_no limits k hy) (after_no larger k hy) h (insert_larger n w) (λ hn w'. place_larger w' (entry_of k hy hn) h))

  added_at : (s : List ℕ) (t : Tree) (g : ℕ) → (insert limits s t).answer ≡ Some g → added larger s t ≡ outcome (Ok g) (insert limits s t).words
  unfolding added
  added_at s t g e = ap (unless_full s) (insert_larger t s g e) ∙ rw e

  added_larger : (s : List ℕ) (t : Tree) (h : ℕ) → (added limits s t).answer ≡ Ok h → added larger s t ≡ added limits s t
  added_larger s t h = added_cases limits s t (λ o. o.answer ≡ Ok h → added larger s t ≡ o) (λ g e _. added_at s t g e) (λ e. absurd (not_both e refl))

  -- ---- the call
  pub smaller_calls : (s : List ℕ) (c : Call) (h : ℕ) → (answer_to limits s c).answer ≡ Ok h → answer_to larger s c ≡ answer_to limits s c
  smaller_calls s c h = call_cases limits s (λ o. o.answer ≡ Ok h → answer_to larger s c ≡ o)
      (λ f _ e. absurd (not_both e refl)) c
      (λ is t e.
      let rule = rule_of_call [] s c in
      call_on_sound (sound_larger small (sound_says limits s is)) c
      ∙ ap (λ x. unless_fault s x (add_meaning larger s rule)) (test_larger small s c t)
      ∙ added_larger s (finished_in s rule) h e)
