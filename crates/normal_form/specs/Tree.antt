-- The diagram of a handle as document 000's Definition 1 has it: ⊥, ⊤, or ITE(guard, yes part, no part). The guards ⊥ and ⊤ are shut out by 82, so every guard here is an
-- equation.
use Rattle.std.specs.Prelude.{ℕ, zero, suc, ◌-◌, Bool, cond, List, eqb, ltb}
use Rattle.store.specs.Layout.{leaves}
use Rattle.terms.specs.declared.term.Equation.{Equation}
use Rattle.terms.specs.Meaning.{Valuation, truth}
use Rattle.normal_form.specs.Table.{entry, asks}

pub data Tree : Type 0 where
  leaf : Bool → Tree
  ite : Equation → Tree → Tree → Tree

-- Where each handle named is lower than its entry's own, no diagram is deeper than the number of its handle.
unfoldable pub tree_within : ℕ → List ℕ → ℕ → Tree
tree_within zero t handle = leaf (eqb handle 1)
tree_within (suc depth) t handle =
    let e = entry t (handle - leaves) in
    cond (ltb handle leaves) (leaf (eqb handle 1)) (ite (asks e) (tree_within depth t e.yes) (tree_within depth t e.no))

abbrev pub tree : List ℕ → ℕ → Tree
tree t handle = tree_within handle t handle

-- v(ITE(φ, ψ, χ)) = v(ψ), if v(φ) = 1, v(χ), otherwise (document 000, section 2.2)
abbrev pub tree_truth : Valuation → Tree → Bool
tree_truth v (leaf b) = b
tree_truth v (ite g y n) = cond (truth v g) (tree_truth v y) (tree_truth v n)
