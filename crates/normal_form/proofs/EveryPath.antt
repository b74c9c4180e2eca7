-- Every path of an accepted diagram is followed by some sheet: the root's diagram is in normal form, so the path's facts are in order, and their sheet fits them. A diagram in normal
-- form that is no leaf has a path to either leaf, so only bare leaves are never or always.
use Prim.Native.Nat.{ℕ, ◌+◌, ◌-◌, ◌≤◌, ◌<◌}
use mathlib.Core.Path.{◌≡◌, ap, ◌∙◌}
use mathlib.Core.Bool.{Bool, true, false}
use mathlib.Core.Logic.{◌≢◌}
use mathlib.Core.List.{List}
use native.Mathlib.Omega.{arith}
use lib.Dec.{eqb}
use Rattle.store.specs.Layout.{leaves}
use Rattle.terms.specs.Meaning.{Valuation}
use Rattle.normal_form.specs.Accepted.{Accepted}
use Rattle.normal_form.specs.Followed.{Followed}
use Rattle.normal_form.specs.KeptTable.{KeptTable}
use Rattle.normal_form.specs.Meaning.{meaning}
use Rattle.normal_form.specs.Paths.{Path, facts_of, end_of, followed}
use Rattle.normal_form.specs.Tree.{leaf, tree, tree_truth}
use Rattle.normal_form.specs.VerdictExact.{SomeButNotAll}
use Rattle.normal_form.proofs.ByHandles.{tree_leaf, tree_entry, meaning_is_tree}
use Rattle.normal_form.proofs.PassesKept.{passes_kept}
use Rattle.normal_form.proofs.NormalTable.{passes_sorted, passes_apart}
use Rattle.normal_form.proofs.NormalTree.{path_fits, fits_follows, truth_at_end, bare, both, ends}
use Rattle.normal_form.proofs.PathSheet.{sheet_of}
use Rattle.normal_form.proofs.RulesExactly.{passed_all}

module _ (t : List ℕ) (root : ℕ) (a : Accepted t root) where
  kept : KeptTable t root
  kept = passes_kept t root (passed_all t root a).0

  means : (v : Valuation) → meaning t root v ≡ end_of (tree t root) (followed v (tree t root))
  means v = meaning_is_tree kept.falling root kept.root_in v ∙ truth_at_end v (tree t root)

  -- Every path of an accepted diagram is followed by some sheet.
  pub every_path : (p : Path (tree t root)) → Followed t root p
  every_path p =
      let d = tree t root in
      let v = sheet_of (facts_of d p) in
      let fits = path_fits d (passes_sorted kept (passed_all t root a).1) (passes_apart kept (passed_all t root a).1) p in
      let takes = fits_follows v d p fits in
      record { counts = v; answers = fits; takes = takes; ends = means v ∙ ap (end_of d) takes }

  -- an entry's diagram is no leaf
  no_leaf : leaves ≤ root → (c : Bool) → tree t root ≢ leaf c
  no_leaf l c e =
      let back : root - leaves + leaves ≡ root = omega arith in
      let d = tree_entry kept.falling (root - leaves) (omega (arith, kept.root_in)) in
      let z : ◌≡◌ {A = ℕ} 0 1 = cc (d, back) in
      omega arith

  ends_at : leaves ≤ root → (b : Bool) → (v : Valuation) × (meaning t root v ≡ b)
  ends_at l b = elim (ends (tree t root) (passes_sorted kept (passed_all t root a).1)) [
    | bare c e p h ↦ absurd (no_leaf l c e)
    | both f ↦ let r = f b in let w = every_path r.0 in (w.counts, w.ends ∙ r.1)
  ]

  -- "so only bare leaves are never or always"
  pub only_bare_leaves : leaves ≤ root → SomeButNotAll t root
  only_bare_leaves l = (ends_at l true, ends_at l false)

  pub leaf_means : root < leaves → (v : Valuation) → meaning t root v ≡ eqb root 1
  leaf_means l v = meaning_is_tree kept.falling root kept.root_in v ∙ ap (tree_truth v) (tree_leaf t root l)
