-- Placing two parts one after the other, then their entry, adds the diagram that stands for both: parts that are one diagram have one handle, and adding
-- that diagram again changes nothing; parts that differ have handles that differ.
use Prim.Native.Nat.{ℕ, ◌+◌}
use mathlib.Core.Path.{◌≡◌, refl, sym, ap, ◌∙◌}
use mathlib.Core.Logic.{◌≢◌}
use mathlib.Core.Bool.{cond}
use mathlib.Core.List.{List}
use native.Mathlib.Omega.{arith}
use borrow.Author.Tests.{eq-eqb, ne_eqb}
use Rattle.std.proofs.Common.{Option, Some, None}
use Rattle.diagram.specs.Finish.{parts}
use Rattle.diagram.specs.Insert.{place_entry, then_place, insert}
use Rattle.terms.specs.declared.limits.Limits.{Limits}
use Rattle.store.specs.Layout.{question_count, entry_of}
use Rattle.store.specs.Outcome.{Outcome, outcome}
use Rattle.store.specs.Tree.{Tree, node, tree, Ascending, Reduced}
use Rattle.walking.specs.Walk.{place_parts}
use Rattle.diagram.proofs.InsertAgain.{insert_again}
use Rattle.diagram.proofs.InsertTree.{Puts, then_cases, insert_puts}
use Rattle.diagram.proofs.Trees.{parts_cases}
use Rattle.store.specs.SoundParts.{Sound}
use Rattle.store.proofs.SoundTree.{falling}
use Rattle.store.proofs.StoreWords.{questions_agree, tree_agrees}

-- steps that do the same at the handle and words before them
pub then_same : (o : Outcome (Option ℕ)) (f g : ℕ → List ℕ → Outcome (Option ℕ)) → ((h : ℕ) → o.answer ≡ Some h → f h o.words ≡ g h o.words)
    → then_place o f ≡ then_place o g
then_same o f g same = go o.answer refl
  where
    go : (a : Option ℕ) → o.answer ≡ a → then_place o f ≡ then_place o g
    go (Some h) d = rw d (same h d)
    go None d = rw d refl

-- a diagram whose questions come after the k-th
pub record PartAfter (s : List ℕ) (k : ℕ) (t : Tree) : Type 0 where
  pub ascending : Ascending (k + 1) (question_count s) t
  pub reduced : Reduced t

place_alike : (limits : Limits) (s : List ℕ) (k h : ℕ) → place_parts limits s (entry_of k h h) ≡ outcome (Some h) s
unfolding place_parts
place_alike limits s k h = ap (λ t. cond t (outcome (Some h) s) (place_entry limits s (entry_of k h h))) (eq-eqb h h refl)

place_differ : (limits : Limits) (s : List ℕ) (k y n : ℕ) → y ≢ n → place_parts limits s (entry_of k y n) ≡ place_entry limits s (entry_of k y n)
unfolding place_parts
place_differ limits s k y n d = ap (λ t. cond t (outcome (Some y) s) (place_entry limits s (entry_of k y n))) (ne_eqb y n d)

module _ {limits : Limits} {s : List ℕ} (snd : Sound limits s) (k : ℕ) (y n : Tree) (fy : PartAfter s k y) (fn : PartAfter s k n) where
  p₁ : Puts limits s y (insert limits s y)
  p₁ = insert_puts y snd (k + 1) (question_count s) fy.ascending fy.reduced (omega arith) (omega arith)

  p₂ : Puts limits (insert limits s y).words n (insert limits (insert limits s y).words n)
  p₂ = insert_puts n p₁.grown.sound (k + 1) (question_count s) fn.ascending fn.reduced (omega arith)
      (omega (arith, questions_agree p₁.grown.agree))

  -- the two parts, then their entry
  abbrev pub placed_parts : Outcome (Option ℕ)
  placed_parts = then_place (insert limits s y) (λ hy s₁. then_place (insert limits s₁ n) (λ hn s₂. place_parts limits s₂ (entry_of k hy hn)))

  one_part : y ≡ n → placed_parts ≡ insert limits s y
  one_part e = then_cases (λ o. o ≡ insert limits s y) (insert limits s y) (λ hy s₁. then_place (insert limits s₁ n) (λ hn s₂. place_parts limits s₂ (entry_of k hy hn)))
      (λ hy e₁.
      let s₁ = (insert limits s y).words in
      let again : insert limits s₁ n ≡ outcome (Some hy) s₁ = insert_again p₁.grown.sound n hy (p₁.handle_in hy e₁) (p₁.stands hy e₁ ∙ e) in
      ap (λ o. then_place o (λ hn s₂. place_parts limits s₂ (entry_of k hy hn))) again ∙ place_alike limits s₁ k hy ∙ ap (λ a. outcome a s₁) (sym e₁))
      (λ e₁. ap (λ a. outcome a (insert limits s y).words) (sym e₁))

  handles_differ : y ≢ n → (hy hn : ℕ) → (insert limits s y).answer ≡ Some hy → (insert limits (insert limits s y).words n).answer ≡ Some hn → hy ≢ hn
  handles_differ d hy hn e₁ e₂ same =
      let s₂ = (insert limits (insert limits s y).words n).words in
      let yes_tree : tree s₂ hy ≡ y = tree_agrees p₂.grown.agree (falling p₁.grown.sound) hy (p₁.handle_in hy e₁) ∙ p₁.stands hy e₁ in
      d (sym yes_tree ∙ ap (tree s₂) same ∙ p₂.stands hn e₂)

  two_parts : y ≢ n → placed_parts ≡ insert limits s (node k y n)
  unfolding insert
  two_parts d = then_same (insert limits s y) (λ hy s₁. then_place (insert limits s₁ n) (λ hn s₂. place_parts limits s₂ (entry_of k hy hn)))
      (λ hy s₁. then_place (insert limits s₁ n) (λ hn s₂. place_entry limits s₂ (entry_of k hy hn)))
      (λ hy e₁. then_same (insert limits (insert limits s y).words n) (λ hn s₂. place_parts limits s₂ (entry_of k hy hn))
      (λ hn s₂. place_entry limits s₂ (entry_of k hy hn))
      (λ hn e₂. place_differ limits (insert limits (insert limits s y).words n).words k hy hn (handles_differ d hy hn e₁ e₂)))

  pub parts_inserted : placed_parts ≡ insert limits s (parts k y n)
  parts_inserted = parts_cases (λ t. placed_parts ≡ insert limits s t) k y n one_part two_parts
