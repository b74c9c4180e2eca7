-- Where each entry's handles are lower than its own, what holds of the leaves and passes from an entry's two handles to the entry holds of every handle.
-- So as many steps down as the handle's number reach a leaf, more of them change nothing, and following the truth of the equations gives what the handle's
-- diagram does.
use Prim.Native.Nat.{ℕ, zero, suc, ◌+◌, ◌-◌, ◌≤◌, ◌<◌}
use mathlib.Core.Path.{◌≡◌, refl, sym, ◌∙◌, ap, ap₂}
use mathlib.Core.Bool.{Bool, cond}
use mathlib.Core.List.{List}
use native.Mathlib.Omega.{arith}
use borrow.Author.Tests.{lt-ltb, le-ltb}
use lib.Dec.{eqb}
use Rattle.terms.specs.Meaning.{Valuation, truth}
use Rattle.terms.proofs.Cases.{by_test}
use Rattle.store.specs.Layout.{leaves}
use Rattle.store.proofs.ByHandles.{by_handle}
use Rattle.normal_form.specs.Falling.{Falling}
use Rattle.normal_form.specs.Meaning.{next, follow, meaning}
use Rattle.normal_form.specs.Table.{entry, asks}
use Rattle.normal_form.specs.Tree.{leaf, ite, tree_within, tree, tree_truth}

module _ {t : List ℕ} {m : ℕ} (f : Falling t m) (P : ℕ → Type 0) (at_leaf : (h : ℕ) → h < leaves → P h)
    (at_entry : (i : ℕ) → i < m → P (entry t i).yes → P (entry t i).no → P (i + leaves)) where
  handles_within : (bound h : ℕ) → h < bound → h < m + leaves → P h
  handles_within zero h b l = absurd (omega arith)
  handles_within (suc bound) h b l = by_handle m (λ g. g < suc bound → P g) (λ g k _. at_leaf g k)
      (λ i k c. at_entry i k
      (handles_within bound (entry t i).yes (omega (arith, f.yes_below i k)) (omega (arith, f.yes_below i k)))
      (handles_within bound (entry t i).no (omega (arith, f.no_below i k)) (omega (arith, f.no_below i k)))) h l b

  pub by_handles : (h : ℕ) → h < m + leaves → P h
  by_handles h = handles_within (suc h) h (omega arith)

-- ---- diagrams
leaf_within : (depth : ℕ) (t : List ℕ) (h : ℕ) → h < leaves → tree_within depth t h ≡ leaf (eqb h 1)
unfolding tree_within
leaf_within zero t h l = refl
leaf_within (suc depth) t h l = simp (lt-ltb h leaves l)

ite_within : (depth : ℕ) (t : List ℕ) (i : ℕ)
    → tree_within (suc depth) t (i + leaves) ≡ ite (asks (entry t i)) (tree_within depth t (entry t i).yes) (tree_within depth t (entry t i).no)
unfolding tree_within
ite_within depth t i =
    let e : i + leaves - leaves ≡ i = omega arith in
    simp (le-ltb (i + leaves) leaves (omega arith), e)

pub tree_leaf : (t : List ℕ) (h : ℕ) → h < leaves → tree t h ≡ leaf (eqb h 1)
tree_leaf t h = leaf_within h t h

-- any depth from the handle's number on gives its diagram
abbrev DepthEnough : List ℕ → ℕ → Type 0
DepthEnough t h = (depth : ℕ) → h ≤ depth → tree_within depth t h ≡ tree t h

-- ---- following the truth of the equations
leaf_stays : (steps : ℕ) (t : List ℕ) (v : Valuation) (h : ℕ) → h < leaves → follow steps t v h ≡ h
unfolding follow next
leaf_stays zero t v h l = refl
leaf_stays (suc steps) t v h l = simp (lt-ltb h leaves l) (leaf_stays steps t v h l)

follow_entry : (steps : ℕ) (t : List ℕ) (v : Valuation) (i : ℕ)
    → follow (suc steps) t v (i + leaves) ≡ follow steps t v (cond (truth v (asks (entry t i))) (entry t i).yes (entry t i).no)
unfolding follow next
follow_entry steps t v i =
    let e : i + leaves - leaves ≡ i = omega arith in
    simp (le-ltb (i + leaves) leaves (omega arith), e)

-- any number of steps from the handle's number on reaches the leaf that its diagram gives
abbrev StepsEnough : List ℕ → Valuation → ℕ → Type 0
StepsEnough t v h = (steps : ℕ) → h ≤ steps → eqb (follow steps t v h) 1 ≡ tree_truth v (tree t h)

module _ {t : List ℕ} {m : ℕ} (f : Falling t m) where
  entry_within : (i : ℕ) → i < m → DepthEnough t (entry t i).yes → DepthEnough t (entry t i).no → (depth : ℕ) → i + leaves ≤ depth
      → tree_within depth t (i + leaves) ≡ ite (asks (entry t i)) (tree t (entry t i).yes) (tree t (entry t i).no)
  entry_within i h y n zero l = absurd (omega arith)
  entry_within i h y n (suc depth) l =
      ite_within depth t i
      ∙ ap₂ (ite (asks (entry t i))) (y depth (omega (arith, f.yes_below i h))) (n depth (omega (arith, f.no_below i h)))

  depth_enough : (h : ℕ) → h < m + leaves → DepthEnough t h
  depth_enough = by_handles f (DepthEnough t) (λ h l d _. leaf_within d t h l ∙ sym (leaf_within h t h l))
      (λ i h y n d l. entry_within i h y n d l ∙ sym (entry_within i h y n (i + leaves) (omega arith)))

  pub tree_entry : (i : ℕ) → i < m → tree t (i + leaves) ≡ ite (asks (entry t i)) (tree t (entry t i).yes) (tree t (entry t i).no)
  tree_entry i h = entry_within i h (depth_enough (entry t i).yes (omega (arith, f.yes_below i h)))
      (depth_enough (entry t i).no (omega (arith, f.no_below i h))) (i + leaves) (omega arith)

  entry_follows : (v : Valuation) (i : ℕ) → i < m → StepsEnough t v (entry t i).yes → StepsEnough t v (entry t i).no → StepsEnough t v (i + leaves)
  entry_follows v i h y n zero l = absurd (omega arith)
  entry_follows v i h y n (suc steps) l =
      let e = entry t i in
      let says : ℕ → Bool = λ g. tree_truth v (tree t g) in
      ap (λ x. eqb x 1) (follow_entry steps t v i)
      ∙ by_test (λ b. eqb (follow steps t v (cond b e.yes e.no)) 1 ≡ cond b (says e.yes) (says e.no)) (truth v (asks e))
      (λ _. y steps (omega (arith, f.yes_below i h))) (λ _. n steps (omega (arith, f.no_below i h)))
      ∙ sym (ap (tree_truth v) (tree_entry i h))

  pub meaning_is_tree : (h : ℕ) → h < m + leaves → (v : Valuation) → meaning t h v ≡ tree_truth v (tree t h)
  meaning_is_tree h l v = by_handles f (StepsEnough t v) (λ g k s _. ap (λ x. eqb x 1) (leaf_stays s t v g k) ∙ sym (ap (tree_truth v) (tree_leaf t g k)))
      (entry_follows v) h l h (omega arith)
