-- The example is the least satisfying sheet of a handle, and there is none exactly if nothing satisfies it: a handle means the truth of its
-- tree, and the best sheet over the tree's paths is the least.
use Rattle.std.specs.Prelude.{Some, None}
use Prim.Native.Nat.{ℕ, ◌+◌, ◌<◌}
use mathlib.Core.Path.{◌≡◌, refl, sym, subst, ◌∙◌}
use mathlib.Core.Logic.{inl, inr}
use mathlib.Core.Bool.{true, false}
use mathlib.Core.List.{List, []}
use Rattle.examples.specs.Best.{sheet, Best, best}
use Rattle.examples.specs.ExampleSays.{ExampleSays}
use Rattle.facts.specs.State.{start}
use Rattle.terms.specs.declared.limits.Limits.{Limits}
use Rattle.store.specs.Layout.{used, question, leaves}
use Rattle.store.specs.Meaning.{meaning}
use Rattle.store.specs.Tree.{tree}
use Rattle.terms.specs.Meaning.{Valuation}
use Rattle.terms.specs.Order.{lex}
use Rattle.examples.proofs.BestExact.{same_some, Satisfies, not_none, not_before_says, Right, best_right}
use Rattle.examples.proofs.SheetOrder.{not_after_least}
use Rattle.store.specs.SoundParts.{Sound}
use Rattle.store.proofs.SoundTree.{meaning_is_tree}

module _ {limits : Limits} {s : List ℕ} (snd : Sound limits s) (handle : ℕ) (h : handle < used s + leaves) (n : ℕ) where
  abbrev r : Best
  r = best (question s) n (tree s handle) start None

  right : Right (question s) n [] (tree s handle) None r
  right = best_right (question s) n (tree s handle) [] None refl tt

  meets : (v : Valuation) → meaning s handle v ≡ true → Satisfies (question s) n [] (tree s handle) v
  meets v m = (tt, sym (meaning_is_tree snd handle h v) ∙ m)

  says : (b : Best) → Right (question s) n [] (tree s handle) None b → ExampleSays n (meaning s handle) b
  says None w = λ v m. absurd (not_none (question s) n (w.is_least v (meets v m)))
  says (Some x) w = elim w.comes_of [
    | inl e ↦ absurd (cc)
    | inr f ↦
        let v = f.0 in
        let same : x ≡ sheet n v = same_some f.2 in (
          v,
          not_after_least n (λ u. meaning s handle u ≡ true) v (meaning_is_tree snd handle h v ∙ f.1.1)
              (λ u m. subst (λ y. lex (sheet n u) y ≡ false) same (not_before_says (question s) n (w.is_least u (meets u m)))),
          same,
        )
  ]

  -- "the least satisfying sheet, field 1 compared first"; "52, example of a rule that nothing satisfies"
  pub example_says : ExampleSays n (meaning s handle) (best (question s) n (tree s handle) start None)
  example_says = says r right
