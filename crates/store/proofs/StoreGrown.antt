-- A store grows by entries after its last, one after the other, so every older handle keeps its tree, and the tree of a new entry is made of those of
-- the handles that it names.
use Prim.Native.Nat.{ℕ, ◌+◌, ◌<◌}
use mathlib.Core.Path.{◌≡◌, refl, ap, ap₂, ◌∙◌}
use mathlib.Core.List.{List}
use native.Mathlib.Omega.{arith}
use Rattle.terms.specs.declared.limits.Limits.{Limits}
use Rattle.store.specs.declared.entries.Entry.{Entry}
use Rattle.store.specs.Entries.{with_entry}
use Rattle.store.specs.Grown.{Grown}
use Rattle.store.specs.Layout.{used, entry, leaves, room}
use Rattle.store.specs.SoundParts.{MayStand, Sound}
use Rattle.store.specs.Tree.{Tree, node, tree}
use Rattle.store.proofs.EntryAdded.{length_added, agree_added, used_added, entry_added, next_in, sound_added}
use Rattle.store.proofs.EntryFound.{Absent}
use Rattle.store.proofs.SoundTree.{falling, tree_node}
use Rattle.store.proofs.StoreWords.{questions_agree, tree_agrees}

pub grown_same : {limits : Limits} {s : List ℕ} → Sound limits s → Grown limits s s
grown_same snd = record { sound = snd; agree = record { word = λ k h n. refl }; grows = omega arith; length_kept = refl }

pub grown_on : {limits : Limits} {s s₁ s₂ : List ℕ} → Grown limits s s₁ → Grown limits s₁ s₂ → Grown limits s s₂
grown_on f g = record {
  sound = g.sound;
  agree = record { word = λ k h n. g.agree.word k (omega (arith, questions_agree f.agree, f.grows)) n ∙ f.agree.word k h n };
  grows = omega (arith, f.grows, g.grows);
  length_kept = g.length_kept ∙ f.length_kept;
}

-- the tree of an entry
abbrev pub tree_of : List ℕ → Entry → Tree
tree_of s e = node e.question (tree s e.yes) (tree s e.no)

pub tree_at : {limits : Limits} {s : List ℕ} → Sound limits s → (i : ℕ) → i < used s → {e : Entry} → entry s i ≡ e → tree s (i + leaves) ≡ tree_of s e
tree_at {s = s} snd i h d = tree_node snd i h ∙ ap (tree_of s) d

module _ {limits : Limits} {s : List ℕ} (snd : Sound limits s) (e : Entry) (f : MayStand s (used s) e) (new : Absent s e) (space : used s < room limits s) where
  pub grown_added : Grown limits s (with_entry s e)
  grown_added = record {
    sound = sound_added snd space e f new;
    agree = agree_added s e;
    grows = omega (arith, used_added s e (next_in snd space));
    length_kept = length_added s e;
  }

  pub tree_added : tree (with_entry s e) (used s + leaves) ≡ tree_of s e
  tree_added =
      let fits = next_in snd space in
      let old : (h : ℕ) → h < used s + leaves → tree (with_entry s e) h ≡ tree s h = tree_agrees (agree_added s e) (falling snd) in
      tree_at grown_added.sound (used s) (omega (arith, used_added s e fits)) (entry_added s e fits)
      ∙ ap₂ (node e.question) (old e.yes f.yes_below) (old e.no f.no_below)
