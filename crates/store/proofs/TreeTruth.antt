-- A tree's truth rests on the answers to the questions that stand in it, and on no others.
use Prim.Native.Nat.{ℕ, suc, ◌≤◌}
use mathlib.Core.Path.{◌≡◌, refl}
use mathlib.Core.Bool.{Bool}
use native.Mathlib.Omega.{arith}
use Rattle.store.specs.Tree.{Tree, leaf, node, tree_truth, Ascending}

pub truth_rests : (answers others : ℕ → Bool) (least most : ℕ) (t : Tree) → Ascending least most t
    → ((j : ℕ) → least ≤ j → j ≤ most → answers j ≡ others j) → tree_truth answers t ≡ tree_truth others t
truth_rests answers others least most (leaf b) a e = refl
truth_rests answers others least most (node k y n) a e =
    let yes_part = truth_rests answers others (suc k) most y a.2 (λ j h. e j (omega (arith, a.0))) in
    let no_part = truth_rests answers others (suc k) most n a.3 (λ j h. e j (omega (arith, a.0))) in
    rw (e k a.0 a.1, yes_part, no_part)
