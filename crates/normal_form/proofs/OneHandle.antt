-- Two handles of one diagram are the same: equal diagrams ask one equation, which has one pair of words, and have equal parts, which have one handle each; so their entries have four
-- equal words and are one entry. So rule 3, which is about diagrams, is about handles.
use Prim.Native.Nat.{ℕ, ◌+◌, ◌<◌}
use mathlib.Core.Path.{◌≡◌, sym, ap, ◌∙◌}
use mathlib.Core.Bool.{true, false, true≢false, false≢true}
use mathlib.Core.Logic.{◌≢◌}
use mathlib.Core.List.{List}
use native.Mathlib.Omega.{arith}
use lib.Dec.{eqb}
use Rattle.store.specs.Layout.{leaves}
use Rattle.store.proofs.ByHandles.{by_handle}
use Rattle.terms.specs.declared.term.Equation.{Equation}
use Rattle.terms.specs.Words.{word_of}
use Rattle.terms.proofs.Cases.{by_eq}
use Rattle.terms.proofs.TermWords.{word_of_term_of}
use Rattle.normal_form.specs.declared.entry.Entry.{Entry}
use Rattle.normal_form.specs.KeptTable.{KeptTable}
use Rattle.normal_form.specs.Table.{entry_count, entry, asks}
use Rattle.normal_form.specs.Tree.{ite, tree}
use Rattle.normal_form.proofs.ByHandles.{by_handles, tree_leaf, tree_entry}

leaf_alike : (t : List ℕ) (g h : ℕ) → g < leaves → h < leaves → tree t g ≡ tree t h → g ≡ h
leaf_alike t g h k l e =
    let b : eqb g 1 ≡ eqb h 1 = cc (tree_leaf t g k, tree_leaf t h l) in
    by_eq (λ x. x ≡ eqb h 1 → g ≡ h) g 1
    (λ a. by_eq (λ x. true ≡ x → g ≡ h) h 1 (λ b _. omega arith) (λ b d. absurd (true≢false d)))
    (λ a. by_eq (λ x. false ≡ x → g ≡ h) h 1 (λ b d. absurd (false≢true d)) (λ b _. omega arith)) b

-- an equation has one pair of words
left_word : (d e : Entry) → asks d ≡ asks e → d.left ≡ e.left
left_word d e p = sym (word_of_term_of d.left) ∙ ap (λ (g : Equation). word_of g.left) p ∙ word_of_term_of e.left

right_word : (d e : Entry) → asks d ≡ asks e → d.right ≡ e.right
right_word d e p = sym (word_of_term_of d.right) ∙ ap (λ (g : Equation). word_of g.right) p ∙ word_of_term_of e.right

module _ {t : List ℕ} {root : ℕ} (k : KeptTable t root) where
  abbrev m : ℕ
  m = entry_count t

  leaf_unlike : (g i : ℕ) → g < leaves → i < m → tree t g ≢ tree t (i + leaves)
  leaf_unlike g i l h e = let z : ◌≡◌ {A = ℕ} 0 1 = cc (tree_leaf t g l, tree_entry k.falling i h) in omega arith

  abbrev OneHandle : ℕ → Type 0
  OneHandle g = (h : ℕ) → h < m + leaves → tree t g ≡ tree t h → g ≡ h

  one_of_entry : (i : ℕ) → i < m → OneHandle (entry t i).yes → OneHandle (entry t i).no → OneHandle (i + leaves)
  one_of_entry i l y n = by_handle m (λ h. tree t (i + leaves) ≡ tree t h → i + leaves ≡ h)
      (λ h b e. absurd (leaf_unlike h i b l (sym e)))
      (λ j b e.
      let d = entry t i in
      let c = entry t j in
      let a : ite (asks d) (tree t d.yes) (tree t d.no) ≡ ite (asks c) (tree t c.yes) (tree t c.no) = sym (tree_entry k.falling i l) ∙ e ∙ tree_entry k.falling j b in
      let q : asks d ≡ asks c = cc in
      let p : d.yes ≡ c.yes = y c.yes (omega (arith, k.falling.yes_below j b)) (cc) in
      let r : d.no ≡ c.no = n c.no (omega (arith, k.falling.no_below j b)) (cc) in
      ap (λ x. x + leaves) (k.one_entry i j l b (λ x. record { left = left_word d c q x; right = right_word d c q x; yes = p x; no = r x })))

  pub one_handle : (g h : ℕ) → g < m + leaves → h < m + leaves → tree t g ≡ tree t h → g ≡ h
  one_handle g h l = by_handles k.falling OneHandle
      (λ g l. by_handle m (λ h. tree t g ≡ tree t h → g ≡ h) (λ h b. leaf_alike t g h l b) (λ i b e. absurd (leaf_unlike g i l b e)))
      one_of_entry g l h
