-- Where each entry's handles are smaller than its own, what holds of the leaves and passes from an entry's two handles to the entry holds
-- of every handle. So as many steps down as the handle's number reach a leaf, and more of them change nothing.
use Prim.Native.Nat.{ℕ, zero, suc, ◌+◌, ◌-◌, ◌≤◌, ◌<◌}
use mathlib.Core.Path.{◌≡◌, refl, sym, ◌∙◌, ap₂, subst}
use mathlib.Core.Bool.{cond}
use mathlib.Core.List.{List}
use native.Mathlib.Omega.{arith}
use native.Mathlib.Decide.{dec_lt}
use borrow.Author.Tests.{lt-ltb, le-ltb}
use lib.Dec.{eqb}
use Rattle.terms.specs.Meaning.{Valuation, truth}
use Rattle.store.specs.Meaning.{next, follow}
use Rattle.store.specs.Layout.{question, entry, leaves}
use Rattle.store.specs.Tree.{leaf, node, tree_within, tree}

-- the handles of the first m entries are smaller than their own
pub record Falling (s : List ℕ) (m : ℕ) : Type 0 where
  pub yes_below : (i : ℕ) → i < m → (entry s i).yes < i + leaves
  pub no_below : (i : ℕ) → i < m → (entry s i).no < i + leaves

-- a handle is a leaf, or it is an entry's number and 2
pub by_handle : (m : ℕ) (P : ℕ → Type 0) → ((h : ℕ) → h < leaves → P h) → ((i : ℕ) → i < m → P (i + leaves)) → (h : ℕ) → h < m + leaves → P h
by_handle m P f g h l = elim (dec_lt h leaves) [
  | yes k ↦ f h k
  | no k ↦
      let e : h - leaves + leaves ≡ h = omega arith in
      subst P e (g (h - leaves) (omega arith))
]

module _ {s : List ℕ} {m : ℕ} (f : Falling s m) (P : ℕ → Type 0) (at_leaf : (h : ℕ) → h < leaves → P h)
    (at_entry : (i : ℕ) → i < m → P (entry s i).yes → P (entry s i).no → P (i + leaves)) where
  handles_within : (bound h : ℕ) → h < bound → h < m + leaves → P h
  handles_within zero h b l = absurd (omega arith)
  handles_within (suc bound) h b l = by_handle m (λ g. g < suc bound → P g) (λ g k _. at_leaf g k)
      (λ i k c. at_entry i k
      (handles_within bound (entry s i).yes (omega (arith, f.yes_below i k)) (omega (arith, f.yes_below i k)))
      (handles_within bound (entry s i).no (omega (arith, f.no_below i k)) (omega (arith, f.no_below i k)))) h l b

  pub by_handles : (h : ℕ) → h < m + leaves → P h
  by_handles h = handles_within (suc h) h (omega arith)

-- ---- trees
pub leaf_within : (depth : ℕ) (s : List ℕ) (h : ℕ) → h < leaves → tree_within depth s h ≡ leaf (eqb h 1)
unfolding tree_within
leaf_within zero s h l = refl
leaf_within (suc depth) s h l = simp (lt-ltb h leaves l)

pub node_within : (depth : ℕ) (s : List ℕ) (i : ℕ)
    → tree_within (suc depth) s (i + leaves) ≡ node (entry s i).question (tree_within depth s (entry s i).yes) (tree_within depth s (entry s i).no)
unfolding tree_within
node_within depth s i =
    let e : i + leaves - leaves ≡ i = omega arith in
    simp (le-ltb (i + leaves) leaves (omega arith), e)

-- any depth from the handle's number on gives its tree
abbrev DepthEnough : List ℕ → ℕ → Type 0
DepthEnough s h = (depth : ℕ) → h ≤ depth → tree_within depth s h ≡ tree s h

module _ {s : List ℕ} {m : ℕ} (f : Falling s m) where
  entry_within : (i : ℕ) → i < m → DepthEnough s (entry s i).yes → DepthEnough s (entry s i).no → (depth : ℕ) → i + leaves ≤ depth
      → tree_within depth s (i + leaves) ≡ node (entry s i).question (tree s (entry s i).yes) (tree s (entry s i).no)
  entry_within i h y n zero l = absurd (omega arith)
  entry_within i h y n (suc depth) l =
      node_within depth s i
      ∙ ap₂ (node (entry s i).question) (y depth (omega (arith, f.yes_below i h))) (n depth (omega (arith, f.no_below i h)))

  depth_enough : (h : ℕ) → h < m + leaves → DepthEnough s h
  depth_enough = by_handles f (DepthEnough s) (λ h l d _. leaf_within d s h l ∙ sym (leaf_within h s h l))
      (λ i h y n d l. entry_within i h y n d l ∙ sym (entry_within i h y n (i + leaves) (omega arith)))

  pub tree_entry : (i : ℕ) → i < m → tree s (i + leaves) ≡ node (entry s i).question (tree s (entry s i).yes) (tree s (entry s i).no)
  tree_entry i h = entry_within i h (depth_enough (entry s i).yes (omega (arith, f.yes_below i h)))
      (depth_enough (entry s i).no (omega (arith, f.no_below i h))) (i + leaves) (omega arith)

-- ---- following answers
pub leaf_stays : (steps : ℕ) (s : List ℕ) (v : Valuation) (h : ℕ) → h < leaves → follow steps s v h ≡ h
unfolding follow next
leaf_stays zero s v h l = refl
leaf_stays (suc steps) s v h l = simp (lt-ltb h leaves l) (leaf_stays steps s v h l)

pub follow_entry : (steps : ℕ) (s : List ℕ) (v : Valuation) (i : ℕ)
    → follow (suc steps) s v (i + leaves) ≡ follow steps s v (cond (truth v (question s (entry s i).question)) (entry s i).yes (entry s i).no)
unfolding follow next
follow_entry steps s v i =
    let e : i + leaves - leaves ≡ i = omega arith in
    simp (le-ltb (i + leaves) leaves (omega arith), e)
