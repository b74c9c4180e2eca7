-- Handles at which finished diagrams stand. In a later store they stand still, since it has the same questions and keeps every older handle's diagram.
-- Two such handles are equal exactly if the meanings are: equal meanings finish alike, and one diagram has one handle.
use Prim.Native.Nat.{ℕ}
use mathlib.Core.Path.{◌≡◌, refl, sym, ap, ◌∙◌, subst}
use mathlib.Core.Logic.{◌↔◌}
use mathlib.Core.Bool.{Bool, true, false}
use mathlib.Core.List.{List}
use native.Mathlib.Omega.{arith}
use Rattle.diagram.specs.Finish.{finished}
use Rattle.diagram.specs.Questions.{questions, finished_in}
use Rattle.facts.specs.Least.{All}
use Rattle.facts.specs.State.{start}
use Rattle.operations.specs.Later.{Later}
use Rattle.operations.specs.Rests.{Rests}
use Rattle.operations.specs.Stands.{Stands}
use Rattle.store.specs.Layout.{question}
use Rattle.store.specs.Meaning.{meaning}
use Rattle.store.specs.SoundParts.{Sound}
use Rattle.store.specs.Tree.{tree_truth}
use Rattle.terms.specs.declared.limits.Limits.{Limits}
use Rattle.terms.specs.Meaning.{Valuation, truth}
use Rattle.diagram.proofs.FinishTruth.{finish_constant}
use Rattle.store.proofs.SoundTree.{meaning_is_tree, one_handle, tree_never, tree_always}
use Rattle.operations.proofs.FinishedInStore.{finished_truth, finished_alike}
use Rattle.operations.proofs.RestsOn.{rests_alike, rests_constant}

-- ---- a store after calls
pub later_same : {limits : Limits} {s : List ℕ} → Sound limits s → Later limits s s
later_same snd = record { sound = snd; grows = omega arith; older_tree = λ g l. refl; older_meaning = λ g l v. refl; same_fields = refl; same_order = refl; same_questions = refl; length_kept = refl }

pub later_on : {limits : Limits} {s s₁ s₂ : List ℕ} → Later limits s s₁ → Later limits s₁ s₂ → Later limits s s₂
later_on p q = record {
  sound = q.sound;
  grows = omega (arith, p.grows, q.grows);
  older_tree = λ g l. q.older_tree g (omega (arith, p.grows)) ∙ p.older_tree g l;
  older_meaning = λ g l v. q.older_meaning g (omega (arith, p.grows)) v ∙ p.older_meaning g l v;
  same_fields = q.same_fields ∙ p.same_fields;
  same_order = q.same_order ∙ p.same_order;
  same_questions = q.same_questions ∙ p.same_questions;
  length_kept = q.length_kept ∙ p.length_kept;
}

-- ---- a handle whose diagram is a finished one
-- The meaning may be said in other words.
pub stands_alike : {s : List ℕ} {h : ℕ} {means others : Valuation → Bool} → ((v : Valuation) → means v ≡ others v) → Stands s h means → Stands s h others
stands_alike {s} {h} {means} {others} e k = record {
  handle_in = k.handle_in;
  rests = rests_alike e k.rests;
  diagram = k.diagram ∙ finished_alike s means others e;
}

module _ {limits : Limits} {s s' : List ℕ} (l : Later limits s s') where
  pub rests_later : {means : Valuation → Bool} → Rests s means → Rests s' means
  rests_later r = record { same = λ v w a. r.same v w (subst (All (λ q. truth v q ≡ truth w q)) l.same_questions a) }

  pub finished_later : (means : Valuation → Bool) → finished_in s means ≡ finished_in s' means
  finished_later means = ap (λ qs. finished qs means) (sym l.same_questions)

  pub stands_later : {h : ℕ} {means : Valuation → Bool} → Stands s h means → Stands s' h means
  stands_later {h} {means} k = record {
    handle_in = omega (arith, k.handle_in, l.grows);
    rests = rests_later k.rests;
    diagram = l.older_tree h k.handle_in ∙ k.diagram ∙ finished_later means;
  }

module _ {limits : Limits} {s : List ℕ} (snd : Sound limits s) where
  -- The handle means what its diagram was finished for.
  pub stands_means : {h : ℕ} {means : Valuation → Bool} → Stands s h means → (v : Valuation) → meaning s h v ≡ means v
  stands_means {h} {means} k v = meaning_is_tree snd h k.handle_in v ∙ ap (tree_truth (λ k. truth v (question s k))) k.diagram ∙ finished_truth k.rests v

  -- Two handles are equal exactly if the meanings are alike.
  pub stands_exact : {g h : ℕ} {means others : Valuation → Bool} → Stands s g means → Stands s h others → (g ≡ h) ↔ ((v : Valuation) → means v ≡ others v)
  stands_exact {g} {h} {means} {others} k l = (
    λ e v. sym (stands_means k v) ∙ ap (λ x. meaning s x v) e ∙ stands_means l v,
    λ e. one_handle snd g h k.handle_in l.handle_in (k.diagram ∙ finished_alike s means others e ∙ sym l.diagram),
  )

  pub never_stands : Stands s 0 (λ _. false)
  never_stands = record { handle_in = omega arith; rests = rests_constant false; diagram = tree_never s ∙ sym (finish_constant (questions s) 1 start false) }

  pub always_stands : Stands s 1 (λ _. true)
  always_stands = record { handle_in = omega arith; rests = rests_constant true; diagram = tree_always s ∙ sym (finish_constant (questions s) 1 start true) }
