-- A diagram that stands in the store already is found again, part by part, and nothing is added: no two entries are equal, so the entry found is
-- the handle's own.
use Prim.Native.Nat.{ℕ, ◌+◌, ◌<◌}
use mathlib.Core.Path.{◌≡◌, refl, sym, ap, ◌∙◌}
use mathlib.Core.List.{List}
use native.Mathlib.Omega.{arith}
use lib.Dec.{eqb}
use Rattle.std.proofs.Common.{Some}
use Rattle.terms.specs.declared.limits.Limits.{Limits}
use Rattle.store.specs.Layout.{used, entry, leaves}
use Rattle.store.specs.Outcome.{outcome}
use Rattle.store.specs.Tree.{Tree, tree}
use Rattle.diagram.specs.Insert.{place_entry, leaf_handle, insert}
use Rattle.store.proofs.ByHandles.{by_handles}
use Rattle.store.specs.SoundParts.{Sound}
use Rattle.store.proofs.SoundTree.{falling, tree_leaf, tree_node, one_handle}
use Rattle.terms.proofs.Cases.{by_eq}
use Rattle.diagram.proofs.EntryPlaced.{place_cases}
use Rattle.store.proofs.StoreGrown.{tree_at}

leaf_again : (h : ℕ) → h < leaves → leaf_handle (eqb h 1) ≡ h
leaf_again h l = by_eq (λ t. leaf_handle t ≡ h) h 1 (λ d. sym d) (λ d. omega arith)

module _ {limits : Limits} {s : List ℕ} (snd : Sound limits s) where
  entry_again : (i : ℕ) → i < used s → place_entry limits s (entry s i) ≡ outcome (Some (i + leaves)) s
  entry_again i h = place_cases limits s (entry s i) (λ o. o ≡ outcome (Some (i + leaves)) s)
      (λ j l d. ap (λ g. outcome (Some g) s) (one_handle snd (j + leaves) (i + leaves) (omega arith) (omega arith) (tree_at snd j l d ∙ sym (tree_node snd i h))))
      (λ a _. absurd (a i h refl))
      (λ a _. absurd (a i h refl))

  again : (h : ℕ) → h < used s + leaves → insert limits s (tree s h) ≡ outcome (Some h) s
  unfolding insert
  again = by_handles (falling snd) (λ h. insert limits s (tree s h) ≡ outcome (Some h) s)
      (λ h l. ap (λ t. insert limits s t) (tree_leaf s h l) ∙ ap (λ g. outcome (Some g) s) (leaf_again h l))
      (λ i h y n. ap (λ t. insert limits s t) (tree_node snd i h) ∙ rw (y, n) (entry_again i h))

  pub insert_again : (t : Tree) (h : ℕ) → h < used s + leaves → tree s h ≡ t → insert limits s t ≡ outcome (Some h) s
  insert_again t h l e = ap (λ x. insert limits s x) (sym e) ∙ again h l
