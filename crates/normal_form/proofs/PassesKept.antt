-- What a table and a root that pass 81 to 85 are like: each test says what it tests, and the handles marked are those reached.
use Prim.Native.Nat.{ℕ, ◌+◌, ◌≤◌, ◌<◌}
use mathlib.Core.Path.{◌≡◌, sym, ap, ◌∙◌}
use mathlib.Core.Bool.{Bool, true, false, false≢true, not, and-false}
use mathlib.Core.Logic.{◌≢◌}
use mathlib.Core.List.{List}
use native.Mathlib.Omega.{arith}
use native.Mathlib.Decide.{dec_lt}
use borrow.Author.Tests.{eq-eqb, leb-true, ltb-true, not-true}
use lib.Dec.{leb, ltb}
use lib.ListN.{get_or}
use Rattle.store.specs.Layout.{leaves}
use Rattle.store.specs.Sound.{all_below}
use Rattle.store.proofs.Tests.{passes, first_passes, second_passes, all_below_says}
use Rattle.terms.specs.declared.term.Equation.{Equation}
use Rattle.terms.specs.Form.{is_simplified}
use Rattle.terms.specs.Words.{allows}
use Rattle.terms.proofs.SimplifyForm.{is_simplified_says}
use Rattle.terms.proofs.TermKept.{TermKept, allows_says}
use Rattle.normal_form.specs.declared.entry.Entry.{Entry}
use Rattle.normal_form.specs.Accepted.{Passes81To85}
use Rattle.normal_form.specs.Check.{shape_kept, terms_kept, handles_lower, same_entry, entries_differ, all_reachable}
use Rattle.normal_form.specs.Falling.{Falling}
use Rattle.normal_form.specs.KeptTable.{Asked, KeptTable}
use Rattle.normal_form.specs.Limits.{most_table_entries, table_limits}
use Rattle.normal_form.specs.Reachable.{reachable}
use Rattle.normal_form.specs.Table.{entry_count, entry, asks}
use Rattle.normal_form.proofs.Marks.{marks_exact}

-- ---- 82
module _ (e : Entry) (k : terms_kept table_limits e ≡ true) where
  abbrev g : Equation
  g = asks e

  left_kept : TermKept table_limits.terms g.left
  unfolding terms_kept
  left_kept = allows_says table_limits.terms g.left (passes (allows table_limits.terms g.left) (λ f. simp f at k))

  right_kept : TermKept table_limits.terms g.right
  unfolding terms_kept
  right_kept = allows_says table_limits.terms g.right (passes (allows table_limits.terms g.right) (λ f. simp (f, and-false) at k))

  asked_from : Asked g
  unfolding terms_kept
  asked_from = record {
    form = is_simplified_says g (passes (is_simplified g) (λ f. simp (f, and-false) at k));
    left_steps = left_kept.steps_in;
    right_steps = right_kept.steps_in;
  }

-- ---- 83
module _ (e : Entry) (i : ℕ) (k : handles_lower e i ≡ true) where
  pub lower_yes : e.yes < i + leaves
  unfolding handles_lower
  lower_yes = ltb-true e.yes (i + leaves) (first_passes (ltb e.yes (i + leaves)) (ltb e.no (i + leaves)) k)

  pub lower_no : e.no < i + leaves
  unfolding handles_lower
  lower_no = ltb-true e.no (i + leaves) (second_passes (ltb e.yes (i + leaves)) (ltb e.no (i + leaves)) k)

-- ---- 84
pub same_entry_from : (d e : Entry) → d ≡ e → same_entry d e ≡ true
unfolding same_entry
same_entry_from d e p = simp (
  eq-eqb d.left e.left (ap (λ (x : Entry). x.left) p),
  eq-eqb d.right e.right (ap (λ (x : Entry). x.right) p),
  eq-eqb d.yes e.yes (ap (λ (x : Entry). x.yes) p),
  eq-eqb d.no e.no (ap (λ (x : Entry). x.no) p),
)

module _ (t : List ℕ) (n : ℕ) (k : entries_differ t n ≡ true) where
  lower_differs : (j i : ℕ) → j < i → i < n → entry t j ≢ entry t i
  unfolding entries_differ
  lower_differs j i h l d =
      let unlike : ℕ → ℕ → Bool = λ a b. not (same_entry (entry t b) (entry t a)) in
      let u : unlike i j ≡ true = all_below_says (unlike i) i (all_below_says (λ a. all_below a (unlike a)) n k i l) j h in
      false≢true (sym (not-true (same_entry (entry t j) (entry t i)) u) ∙ same_entry_from (entry t j) (entry t i) d)

  entry_alike : (i j : ℕ) → i < n → j < n → entry t i ≡ entry t j → i ≡ j
  entry_alike i j h l e = elim (dec_lt i j) [
    | yes a ↦ absurd (lower_differs i j a l e)
    | no a ↦ elim (dec_lt j i) [ yes b ↦ absurd (lower_differs j i b h (sym e)) | no b ↦ omega arith ]
  ]

-- ---- all of them
module _ (t : List ℕ) (root : ℕ) (p : Passes81To85 t root) where
  few_entries : entry_count t ≤ most_table_entries
  unfolding shape_kept
  few_entries = leb-true (entry_count t) most_table_entries (passes (leb (entry_count t) most_table_entries) (λ f. simp (f, and-false) at p.passes_81))

  root_below : root < entry_count t + leaves
  unfolding shape_kept
  root_below = ltb-true root (entry_count t + leaves) (passes (ltb root (entry_count t + leaves)) (λ f. simp (f, and-false) at p.passes_81))

  terms_of : (i : ℕ) → i < entry_count t → terms_kept table_limits (entry t i) ≡ true
  terms_of = all_below_says (λ i. terms_kept table_limits (entry t i)) (entry_count t) p.passes_82

  falls : Falling t (entry_count t)
  falls =
      let lower : (i : ℕ) → i < entry_count t → handles_lower (entry t i) i ≡ true = all_below_says (λ i. handles_lower (entry t i) i) (entry_count t) p.passes_83 in
      record { yes_below = λ i h. lower_yes (entry t i) i (lower i h); no_below = λ i h. lower_no (entry t i) i (lower i h) }

  pub passes_kept : KeptTable t root
  unfolding all_reachable
  passes_kept = record {
    few = few_entries;
    root_in = root_below;
    asked = λ i h. asked_from (entry t i) (terms_of i h);
    falling = falls;
    one_entry = entry_alike t (entry_count t) p.passes_84;
    reached = λ i h. (marks_exact table_limits falls root root_below few_entries (i + leaves)).0
        (all_below_says (λ j. get_or (reachable table_limits t root) (j + leaves) false) (entry_count t) p.passes_85 i h);
  }
