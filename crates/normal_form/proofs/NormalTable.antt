-- The tests of 86 and Definition 28's rules. If the tests of rules 3 to 7 pass at every entry, a part's first question is after its entry's, and so, the order being transitive, are all
-- its questions: every diagram of the table is sorted. If besides no left field is flagged in its entry's yes part, every diagram is in normal form. If a test fails at an
-- entry, the rule that it tests applies there; for rule 8', because the question found is after the entry's, as all are by then.
use Prim.Native.Nat.{ℕ, zero, suc, ◌+◌, ◌-◌, ◌<◌}
use mathlib.Core.Path.{◌≡◌, refl, sym, ap, ◌∙◌}
use mathlib.Core.Bool.{Bool, true, false, true≢false, false≢true, not, ◌&&◌, and-true, and-false}
use mathlib.Core.Logic.{◌≢◌, ◌↔◌, ◌⊎◌, inl, inr}
use mathlib.Core.List.{List}
use native.Mathlib.Omega.{arith}
use borrow.Author.Tests.{eq-eqb, eqb-true, lt-ltb, le-ltb, not-true, not-false}
use lib.Dec.{eqb}
use lib.ListN.{get_or}
use Rattle.store.specs.Layout.{leaves}
use Rattle.store.specs.Sound.{all_below}
use Rattle.store.proofs.ByHandles.{by_handle}
use Rattle.store.proofs.Tests.{passes, first_passes, second_passes, all_below_says}
use Rattle.terms.specs.declared.term.Equation.{Equation}
use Rattle.terms.specs.Order.{fields_first, before}
use Rattle.terms.proofs.Cases.{by_test}
use Rattle.terms.proofs.QuestionOrder.{fields_first_strict_total, neither_before}
use Rattle.normal_form.specs.Check.{asks_after, parts_ordered, left_apart, no_rule_applies}
use Rattle.normal_form.specs.KeptTable.{KeptTable}
use Rattle.normal_form.specs.Limits.{table_limits}
use Rattle.normal_form.specs.Named.{named}
use Rattle.normal_form.specs.Reachable.{Reaches, itself, by_yes, by_no}
use Rattle.normal_form.specs.Rules.{Precedes, Names, RootAsks, SomeAsks, RuleAt, rule_3, rule_4, rule_5, rule_6, rule_7, rule_8, Applies}
use Rattle.normal_form.specs.Table.{entry_count, entry, asks}
use Rattle.normal_form.specs.Tree.{Tree, ite, tree}
use Rattle.normal_form.proofs.ByHandles.{by_handles, tree_leaf, tree_entry}
use Rattle.normal_form.proofs.NamedFlags.{named_exact}
use Rattle.normal_form.proofs.NormalTree.{Each, Sorted, Apart, Unnamed, RootAfter, after_root, none_each, some_and, no_rule}
use Rattle.normal_form.proofs.OneHandle.{one_handle}

-- ---- tests that fail
-- a test of every number below k fails at one of them
some_fails : (p : ℕ → Bool) (k : ℕ) → all_below k p ≡ false → (i : ℕ) × (i < k) × (p i ≡ false)
unfolding all_below
some_fails p zero e = absurd (true≢false e)
some_fails p (suc k) e = by_test (λ b. p k ≡ b → (i : ℕ) × (i < suc k) × (p i ≡ false)) (p k)
    (λ _ b. let r = some_fails p k (simp (b, and-true) at e) in (r.0, omega (arith, r.1), r.2))
    (λ _ b. (k, omega arith, b)) refl

-- of two tests joined, the first fails, or passes and the second fails
first_or_second : (a b : Bool) → (a && b) ≡ false → (a ≡ false) ⊎ ((a ≡ true) × (b ≡ false))
first_or_second true b e = inr (refl, e)
first_or_second false b e = inl refl

-- ---- an equation that is not after g is g, or before g
not_after : (g h : Equation) → before fields_first g h ≡ false → (h ≡ g) ⊎ Precedes h g
not_after g h e = by_test (λ b. before fields_first h g ≡ b → (h ≡ g) ⊎ Precedes h g) (before fields_first h g) (λ _ b. inr b)
    (λ _ b. inl (neither_before fields_first_strict_total h g b e)) refl

module _ {t : List ℕ} {root : ℕ} (k : KeptTable t root) where
  abbrev m : ℕ
  m = entry_count t

  yes_in : (i : ℕ) → i < m → (entry t i).yes < m + leaves
  yes_in i h = omega (arith, k.falling.yes_below i h)

  no_in : (i : ℕ) → i < m → (entry t i).no < m + leaves
  no_in i h = omega (arith, k.falling.no_below i h)

  -- ---- rules 4 to 7
  -- the question of a handle is after g, or is g or before it
  after_says : (g : Equation) (h : ℕ) → h < m + leaves → asks_after t g h ≡ true → RootAfter g (tree t h)
  after_says g = by_handle m (λ h. asks_after t g h ≡ true → RootAfter g (tree t h)) (λ h l _. rw (tree_leaf t h l) tt)
      (λ j l e.
      let same : j + leaves - leaves ≡ j = omega arith in
      rw (tree_entry k.falling j l) (simp (le-ltb (j + leaves) leaves (omega arith), same) at e))

  after_fails : (g : Equation) (h : ℕ) → h < m + leaves → asks_after t g h ≡ false → RootAsks (λ q. q ≡ g) (tree t h) ⊎ RootAsks (λ q. Precedes q g) (tree t h)
  after_fails g = by_handle m (λ h. asks_after t g h ≡ false → RootAsks (λ q. q ≡ g) (tree t h) ⊎ RootAsks (λ q. Precedes q g) (tree t h))
      (λ h l e. absurd (true≢false (simp (lt-ltb h leaves l) at e)))
      (λ j l e.
      let same : j + leaves - leaves ≡ j = omega arith in
      rw (tree_entry k.falling j l) (not_after g (asks (entry t j)) (simp (le-ltb (j + leaves) leaves (omega arith), same) at e)))

  module _ (i : ℕ) (h : i < m) where
    abbrev g : Equation
    g = asks (entry t i)

    abbrev y : Tree
    y = tree t (entry t i).yes

    abbrev n : Tree
    n = tree t (entry t i).no

    -- rules 3 to 7 apply nowhere at the entry
    sorted_entry : parts_ordered t i ≡ true → Sorted y → Sorted n → Sorted (tree t (i + leaves))
    unfolding parts_ordered
    sorted_entry e sy sn =
        let differ : not (eqb (entry t i).yes (entry t i).no) ≡ true = passes (not (eqb (entry t i).yes (entry t i).no)) (λ f. simp f at e) in
        let ey : asks_after t g (entry t i).yes ≡ true = passes (asks_after t g (entry t i).yes) (λ f. simp (f, and-false) at e) in
        let en : asks_after t g (entry t i).no ≡ true = passes (asks_after t g (entry t i).no) (λ f. simp (f, and-false) at e) in
        let handles : (entry t i).yes ≢ (entry t i).no = λ d. false≢true (sym (not-true (eqb (entry t i).yes (entry t i).no) differ) ∙ eq-eqb (entry t i).yes (entry t i).no d) in
        rw (tree_entry k.falling i h) (
          k.asked i h,
          after_root g y sy (after_says g (entry t i).yes (yes_in i h) ey),
          after_root g n sn (after_says g (entry t i).no (no_in i h) en),
          λ d. handles (one_handle k (entry t i).yes (entry t i).no (yes_in i h) (no_in i h) d),
          sy,
          sn,
        )

    -- one of rules 3 to 7 applies at the entry
    parts_fail : parts_ordered t i ≡ false → RuleAt g y n
    unfolding parts_ordered
    parts_fail e = elim (first_or_second (not (eqb (entry t i).yes (entry t i).no) && asks_after t g (entry t i).yes) (asks_after t g (entry t i).no) e) [
      | inr b ↦ elim (after_fails g (entry t i).no (no_in i h) b.1) [ inl r ↦ rule_5 r | inr r ↦ rule_7 r ]
      | inl b ↦ elim (first_or_second (not (eqb (entry t i).yes (entry t i).no)) (asks_after t g (entry t i).yes) b) [
        | inl c ↦ rule_3 (ap (tree t) (eqb-true (entry t i).yes (entry t i).no (not-false (eqb (entry t i).yes (entry t i).no) c)))
        | inr c ↦ elim (after_fails g (entry t i).yes (yes_in i h) c.1) [ inl r ↦ rule_4 r | inr r ↦ rule_6 r ]
      ]
    ]

    -- ---- rule 8'
    -- the left field is named in the yes part exactly if its flag is set
    abbrev flag : Bool
    flag = get_or (named table_limits g.left.field.0 t m) (entry t i).yes false

    flag_exact : (flag ≡ true) ↔ SomeAsks (Names g.left.field) y
    flag_exact = named_exact table_limits k.falling g.left.field.0 k.few (entry t i).yes (yes_in i h)

    unnamed_entry : left_apart table_limits t i ≡ true → Each (Unnamed g) y
    unfolding left_apart
    unnamed_entry e = none_each (Names g.left.field) y (λ s. false≢true (sym (not-true flag e) ∙ flag_exact.1 s))

    -- it is named by a question that is after the entry's
    apart_fails : left_apart table_limits t i ≡ false → Each (Precedes g) y → RuleAt g y n
    unfolding left_apart
    apart_fails e after = rule_8 (some_and (Precedes g) (Names g.left.field) y after (flag_exact.0 (not-false flag e)))

  -- ---- the whole table
  table_sorted : all_below m (parts_ordered t) ≡ true → (h : ℕ) → h < m + leaves → Sorted (tree t h)
  table_sorted e = by_handles k.falling (λ h. Sorted (tree t h)) (λ h l. rw (tree_leaf t h l) tt)
      (λ i h. sorted_entry i h (all_below_says (parts_ordered t) m e i h))

  table_apart : all_below m (left_apart table_limits t) ≡ true → (h : ℕ) → h < m + leaves → Apart (tree t h)
  table_apart e = by_handles k.falling (λ h. Apart (tree t h)) (λ h l. rw (tree_leaf t h l) tt)
      (λ i h y n. rw (tree_entry k.falling i h) (unnamed_entry i h (all_below_says (left_apart table_limits t) m e i h), y, n))

  -- a rule that applies at an entry applies in the root's diagram, since the entry is reached
  reached_in : (h : ℕ) → Reaches t root h → h < m + leaves
  reached_in h itself = k.root_in
  reached_in h (by_yes i r) = yes_in i (omega (arith, reached_in (i + leaves) r))
  reached_in h (by_no i r) = no_in i (omega (arith, reached_in (i + leaves) r))

  applies_above : (h : ℕ) → Reaches t root h → Applies (tree t h) → Applies (tree t root)
  applies_above h itself a = a
  applies_above h (by_yes i r) a = applies_above (i + leaves) r (rw (tree_entry k.falling i (omega (arith, reached_in (i + leaves) r))) (inr (inl a)))
  applies_above h (by_no i r) a = applies_above (i + leaves) r (rw (tree_entry k.falling i (omega (arith, reached_in (i + leaves) r))) (inr (inr a)))

  rule_applies : (i : ℕ) (h : i < m) → RuleAt (asks (entry t i)) (tree t (entry t i).yes) (tree t (entry t i).no) → Applies (tree t root)
  rule_applies i h r = applies_above (i + leaves) (k.reached i h) (rw (tree_entry k.falling i h) (inl r))

  -- the questions of a yes part are after the entry's
  yes_after : all_below m (parts_ordered t) ≡ true → (i : ℕ) → i < m → Each (Precedes (asks (entry t i))) (tree t (entry t i).yes)
  yes_after e i h = let s : Sorted (ite (asks (entry t i)) (tree t (entry t i).yes) (tree t (entry t i).no)) = rw (tree_entry k.falling i h) at (table_sorted e (i + leaves) (omega arith)) in s.1

  -- If a test of 86 fails, a rule applies; if they all pass, none does.
  abbrev ordered : Bool
  ordered = all_below m (parts_ordered t)

  abbrev apart : Bool
  apart = all_below m (left_apart table_limits t)

  pub fails_applies : no_rule_applies table_limits t ≡ false → Applies (tree t root)
  unfolding no_rule_applies
  fails_applies e = elim (first_or_second ordered apart e) [
    | inl b ↦ let r = some_fails (parts_ordered t) m b in rule_applies r.0 r.1 (parts_fail r.0 r.1 r.2)
    | inr b ↦
        let r = some_fails (left_apart table_limits t) m b.1 in
        rule_applies r.0 r.1 (apart_fails r.0 r.1 r.2 (yes_after b.0 r.0 r.1))
  ]

  pub passes_sorted : no_rule_applies table_limits t ≡ true → Sorted (tree t root)
  unfolding no_rule_applies
  passes_sorted e = table_sorted (first_passes ordered apart e) root k.root_in

  pub passes_apart : no_rule_applies table_limits t ≡ true → Apart (tree t root)
  unfolding no_rule_applies
  passes_apart e = table_apart (second_passes ordered apart e) root k.root_in

  pub passes_none : no_rule_applies table_limits t ≡ true → Applies (tree t root) → ⊥
  passes_none e = no_rule (tree t root) (passes_sorted e) (passes_apart e)
