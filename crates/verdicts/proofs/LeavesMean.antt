-- What the leaves reached from a handle say of its meaning, with any facts that some choice of counts fits: the handle means the truth of its tree, and a leaf of
-- the tree is reached exactly if some choice of counts that fits the facts leads there.
use Prim.Native.Nat.{ℕ, ◌+◌, ◌<◌}
use mathlib.Core.Path.{◌≡◌, refl, sym, ap, ◌∙◌}
use mathlib.Core.Bool.{Bool, true, false, cond, true≢false}
use mathlib.Core.List.{List}
use Rattle.facts.specs.declared.fact.Fact.{Fact}
use Rattle.facts.specs.Facts.{Fits}
use Rattle.facts.specs.State.{free, state_of}
use Rattle.terms.specs.declared.limits.Limits.{Limits}
use Rattle.store.specs.Layout.{used, question, leaves}
use Rattle.store.specs.Meaning.{meaning}
use Rattle.store.specs.SoundParts.{Sound}
use Rattle.store.specs.Tree.{tree}
use Rattle.terms.specs.Meaning.{Valuation}
use Rattle.verdicts.specs.declared.leaves.Leaves.{Leaves}
use Rattle.verdicts.specs.Leaves.{reached, by_leaves}
use Rattle.store.proofs.SoundTree.{meaning_is_tree}
use Rattle.terms.proofs.Cases.{by_test}
use Rattle.verdicts.proofs.ReachedExact.{flag, reached_leads, leads_reached}

-- every choice of counts that fits the facts gives a meaning this truth, or some does
module _ (xs : List Fact) (means : Valuation → Bool) where
  abbrev pub EveryFitting : Bool → Type 0
  EveryFitting b = (v : Valuation) → Fits xs v → means v ≡ b

  abbrev pub SomeFitting : Bool → Type 0
  SomeFitting b = (v : Valuation) × Fits xs v × (means v ≡ b)

module _ {limits : Limits} {s : List ℕ} (snd : Sound limits s) (handle : ℕ) (h : handle < used s + leaves) (xs : List Fact) (f : free (state_of xs) ≡ true) where
  abbrev l : Leaves
  l = reached (question s) (tree s handle) (state_of xs)

  -- a leaf that is reached is the meaning under some choice of counts
  some_means : (b : Bool) → flag b l ≡ true → SomeFitting xs (meaning s handle) b
  some_means b e =
      let w = reached_leads (question s) (tree s handle) xs b f e in
      (w.0, w.1, meaning_is_tree snd handle h w.0 ∙ w.2)

  -- and one that is not is the meaning under none
  none_means : (b : Bool) → flag b l ≡ false → (v : Valuation) → Fits xs v → meaning s handle v ≡ b → ⊥
  none_means b e v k m =
      true≢false (sym (leads_reached (question s) (tree s handle) xs v k) ∙ ap (λ c. flag c l) (sym (meaning_is_tree snd handle h v) ∙ m) ∙ e)

  -- A claim about what is answered by the leaves holds if it holds of each answer, with what the answer says.
  pub by_leaves_says : {A : Type 0} (Claim : A → Type 0) (never always both : A)
      → (EveryFitting xs (meaning s handle) false → Claim never) → (EveryFitting xs (meaning s handle) true → Claim always)
      → (SomeFitting xs (meaning s handle) true → SomeFitting xs (meaning s handle) false → Claim both) → Claim (by_leaves never always both l)
  by_leaves_says Claim never always both on_never on_always on_both =
      by_test (λ a. Claim (cond a (cond l.never both always) never)) l.always
      (λ a. by_test (λ n. Claim (cond n both always)) l.never
      (λ n. on_both (some_means true a) (some_means false n))
      (λ n. on_always (λ v k. by_test (λ b. b ≡ true) (meaning s handle v) (λ _. refl) (λ m. absurd (none_means false n v k m)))))
      (λ a. on_never (λ v k. by_test (λ b. b ≡ false) (meaning s handle v) (λ m. absurd (none_means true a v k m)) (λ _. refl)))
