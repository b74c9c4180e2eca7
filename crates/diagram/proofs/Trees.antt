-- Trees compared, and a question's two parts, which stand for one where they are the same.
use Prim.Native.Nat.{ℕ, ◌≤◌}
use mathlib.Core.Path.{◌≡◌, refl, sym, ap, ◌∙◌}
use mathlib.Core.Logic.{◌≢◌}
use mathlib.Core.Bool.{Bool, true, false, cond, ◌&&◌, true≢false, false≢true}
use native.Mathlib.Omega.{arith}
use borrow.Author.Tests.{eqb-true, eq-eqb}
use lib.Dec.{eqb}
use Rattle.store.specs.Tree.{Tree, leaf, node, tree_truth, Ascending}
use Rattle.diagram.specs.Finish.{same_truth, same_tree, parts}
use Rattle.store.proofs.Tests.{first_passes, second_passes}
use Rattle.terms.proofs.Cases.{by_test}

-- ---- comparing
same_truth_says : (a b : Bool) → same_truth a b ≡ true → a ≡ b
same_truth_says true true t = refl
same_truth_says true false t = absurd (false≢true t)
same_truth_says false true t = absurd (false≢true t)
same_truth_says false false t = refl

same_truth_self : (a : Bool) → same_truth a a ≡ true
same_truth_self true = refl
same_truth_self false = refl

pub same_tree_says : (s t : Tree) → same_tree s t ≡ true → s ≡ t
unfolding same_tree
same_tree_says (leaf a) (leaf b) e = ap leaf (same_truth_says a b e)
same_tree_says (leaf a) (node k y n) e = absurd (false≢true e)
same_tree_says (node j x m) (leaf b) e = absurd (false≢true e)
same_tree_says (node j x m) (node k y n) e =
    let both : (eqb j k && same_tree x y) ≡ true = first_passes (eqb j k && same_tree x y) (same_tree m n) e in
    let number : j ≡ k = eqb-true j k (first_passes (eqb j k) (same_tree x y) both) in
    let yes_part : x ≡ y = same_tree_says x y (second_passes (eqb j k) (same_tree x y) both) in
    let no_part : m ≡ n = same_tree_says m n (second_passes (eqb j k && same_tree x y) (same_tree m n) e) in
    λ i. node (number i) (yes_part i) (no_part i)

pub same_tree_self : (t : Tree) → same_tree t t ≡ true
unfolding same_tree
same_tree_self (leaf a) = same_truth_self a
same_tree_self (node k y n) = rw (eq-eqb k k refl, same_tree_self y, same_tree_self n) refl

pub same_tree_differ : (s t : Tree) → same_tree s t ≡ false → s ≢ t
same_tree_differ s t f e = true≢false (sym (same_tree_self s) ∙ ap (same_tree s) e ∙ f)

-- ---- two parts
pub parts_cases : (P : Tree → Type 0) (k : ℕ) (y n : Tree) → (y ≡ n → P y) → (y ≢ n → P (node k y n)) → P (parts k y n)
unfolding parts
parts_cases P k y n same differ =
    by_test (λ t. P (cond t y (node k y n))) (same_tree y n) (λ t. same (same_tree_says y n t)) (λ f. differ (same_tree_differ y n f))

pub parts_truth : (answers : ℕ → Bool) (k : ℕ) (y n : Tree) → tree_truth answers (parts k y n) ≡ cond (answers k) (tree_truth answers y) (tree_truth answers n)
parts_truth answers k y n = parts_cases (λ t. tree_truth answers t ≡ cond (answers k) (tree_truth answers y) (tree_truth answers n)) k y n
    (λ e. by_test (λ b. tree_truth answers y ≡ cond b (tree_truth answers y) (tree_truth answers n)) (answers k) (λ _. refl) (λ _. ap (tree_truth answers) e))
    (λ _. refl)

-- ---- the numbers that stand in it
pub ascending_less : (least lower most : ℕ) (t : Tree) → lower ≤ least → Ascending least most t → Ascending lower most t
ascending_less least lower most (leaf b) h a = tt
ascending_less least lower most (node k y n) h a = (omega (arith, a.0), a.1, a.2, a.3)
