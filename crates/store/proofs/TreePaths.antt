-- A path of a tree asks at most as many questions as the tree is deep. Where the question numbers rise along every path, each question
-- asked takes one of the numbers left, so a diagram of a sound store is at most as deep as its list is long.
use Prim.Native.Nat.{ℕ, suc, ◌+◌, ◌≤◌, ◌<◌}
use mathlib.Core.Bool.{Bool, cond}
use mathlib.Core.List.{List}
use native.Mathlib.Omega.{arith}
use Rattle.terms.specs.declared.limits.Limits.{Limits}
use Rattle.store.specs.Layout.{leaves, question_count, used}
use Rattle.store.specs.Tree.{Tree, leaf, node, tree, Ascending, depth, asked}
use Rattle.terms.proofs.Cases.{by_test}
use Rattle.store.specs.SoundParts.{Sound}
use Rattle.store.proofs.SoundTree.{tree_ascending}

pub asked_deep : (answers : ℕ → Bool) (t : Tree) → asked answers t ≤ depth t
asked_deep answers (leaf b) = omega arith
asked_deep answers (node k y n) =
    by_test (λ a. suc (cond a (asked answers y) (asked answers n)) ≤ depth (node k y n)) (answers k)
    (λ _. omega (arith, asked_deep answers y)) (λ _. omega (arith, asked_deep answers n))

pub depth_left : (least most : ℕ) (t : Tree) → least ≤ suc most → Ascending least most t → depth t + least ≤ suc most
depth_left least most (leaf b) h a = omega arith
depth_left least most (node k y n) h a =
    omega (arith, depth_left (suc k) most y (omega (arith, a.1)) a.2, depth_left (suc k) most n (omega (arith, a.1)) a.3)

module _ {limits : Limits} {s : List ℕ} (snd : Sound limits s) (h : ℕ) (l : h < used s + leaves) where
  pub sound_depth : depth (tree s h) ≤ question_count s
  sound_depth = omega (arith, depth_left 1 (question_count s) (tree s h) (omega arith) (tree_ascending snd h l))

  -- "So a path asks at most q questions"
  pub path_asks : (answers : ℕ → Bool) → asked answers (tree s h) ≤ question_count s
  path_asks answers = omega (arith, asked_deep answers (tree s h), sound_depth)
