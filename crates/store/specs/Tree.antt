-- The diagram that stands below a handle, as a tree.
use Rattle.std.specs.Prelude.{ℕ, zero, suc, ◌-◌, ◌≤◌, max, ◌≢◌, Bool, cond, List, eqb, ltb}
use Rattle.store.specs.Layout.{entry, leaves}

pub data Tree : Type 0 where
  leaf : Bool → Tree
  -- the question's number, the yes part and the no part
  node : ℕ → Tree → Tree → Tree

-- In a sound store each handle named is smaller, so no diagram is deeper than the number of its handle.
unfoldable pub tree_within : ℕ → List ℕ → ℕ → Tree
tree_within zero s handle = leaf (eqb handle 1)
tree_within (suc depth) s handle =
    let e = entry s (handle - leaves) in
    cond (ltb handle leaves) (leaf (eqb handle 1)) (node e.question (tree_within depth s e.yes) (tree_within depth s e.no))

abbrev pub tree : List ℕ → ℕ → Tree
tree s handle = tree_within handle s handle

-- a tree's truth, given the truth of each question by its number
abbrev pub tree_truth : (ℕ → Bool) → Tree → Bool
tree_truth answers (leaf b) = b
tree_truth answers (node k y n) = cond (answers k) (tree_truth answers y) (tree_truth answers n)

-- along every path the question numbers rise, from `least` at the lowest to `most` at the highest
abbrev pub Ascending : ℕ → ℕ → Tree → Type 0
Ascending least most (leaf b) = Unit {0}
Ascending least most (node k y n) = (least ≤ k) × (k ≤ most) × Ascending (suc k) most y × Ascending (suc k) most n

-- the two parts of every entry differ
abbrev pub Reduced : Tree → Type 0
Reduced (leaf b) = Unit {0}
Reduced (node k y n) = (y ≢ n) × Reduced y × Reduced n

-- the questions on the longest path
abbrev pub depth : Tree → ℕ
depth (leaf b) = 0
depth (node k y n) = suc (max (depth y) (depth n))

-- the questions on the path that the answers take
abbrev pub asked : (ℕ → Bool) → Tree → ℕ
asked answers (leaf b) = 0
asked answers (node k y n) = suc (cond (answers k) (asked answers y) (asked answers n))
