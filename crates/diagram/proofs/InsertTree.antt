-- Adding a diagram keeps the store sound and every older handle's tree, since entries are only added after the last. The handle's tree is the diagram:
-- its two parts were added before it, and the entry names their handles.
use Prim.Native.Nat.{ℕ, suc, ◌+◌, ◌-◌, ◌≤◌, ◌<◌}
use mathlib.Core.Path.{◌≡◌, refl, sym, ap, ap₂, ◌∙◌, subst}
use mathlib.Core.Bool.{true, false}
use mathlib.Core.List.{List}
use native.Mathlib.Omega.{arith}
use Rattle.std.proofs.Common.{Option, Some, None}
use Rattle.diagram.specs.Insert.{place_entry, then_place, insert}
use Rattle.diagram.specs.Inserted.{Inserted}
use Rattle.store.specs.declared.entries.Entry.{Entry}
use Rattle.store.specs.Grown.{Grown}
use Rattle.store.specs.Layout.{question_count, used, entry, entry_of, leaves}
use Rattle.store.specs.Outcome.{Outcome, outcome}
use Rattle.store.specs.SoundParts.{MayStand, Sound}
use Rattle.store.specs.Tree.{Tree, leaf, node, tree, Ascending, Reduced}
use Rattle.terms.specs.declared.limits.Limits.{Limits}
use Rattle.diagram.proofs.EntryPlaced.{place_cases}
use Rattle.store.proofs.EntryAdded.{used_added, next_in}
use Rattle.store.proofs.ByHandles.{by_handle}
use Rattle.store.proofs.SoundTree.{falling, tree_node, tree_never, tree_always}
use Rattle.store.proofs.StoreGrown.{grown_same, grown_on, tree_of, tree_at, grown_added, tree_added}
use Rattle.store.proofs.StoreWords.{fields_agree, questions_agree, question_agrees, tree_agrees, meaning_agrees}

-- ---- what is placed
-- the words are the store grown, and at the handle, if there is one, stands the tree
pub record Puts (limits : Limits) (s : List ℕ) (t : Tree) (o : Outcome (Option ℕ)) : Type 0 where
  pub grown : Grown limits s o.words
  pub handle_in : (h : ℕ) → o.answer ≡ Some h → h < used o.words + leaves
  pub stands : (h : ℕ) → o.answer ≡ Some h → tree o.words h ≡ t

puts_at : {limits : Limits} {t : Tree} {s s' : List ℕ} (h : ℕ) → Grown limits s s' → h < used s' + leaves → tree s' h ≡ t → Puts limits s t (outcome (Some h) s')
puts_at {limits} {t} {s} {s'} h g l e = record {
  grown = g;
  handle_in = λ j p. let d : h ≡ j = cc in omega arith;
  stands = λ j p. let d : h ≡ j = cc in subst (λ x. tree s' x ≡ t) d e;
}

puts_full : {limits : Limits} {t : Tree} {s s' : List ℕ} → Grown limits s s' → Puts limits s t (outcome None s')
puts_full g = record {
  grown = g;
  handle_in = λ h p. let z : ◌≡◌ {A = ℕ} 0 1 = cc in absurd (omega arith);
  stands = λ h p. let z : ◌≡◌ {A = ℕ} 0 1 = cc in absurd (omega arith);
}

puts_after : {limits : Limits} {t t' : Tree} {s s' : List ℕ} {o : Outcome (Option ℕ)} → Grown limits s s' → t' ≡ t → Puts limits s' t' o → Puts limits s t o
puts_after g e p = record { grown = grown_on g p.grown; handle_in = p.handle_in; stands = λ h a. p.stands h a ∙ e }

-- ---- an entry
place_puts : {limits : Limits} {s : List ℕ} → Sound limits s → (e : Entry) → MayStand s (used s) e → Puts limits s (tree_of s e) (place_entry limits s e)
place_puts {limits} {s} snd e f = place_cases limits s e (Puts limits s (tree_of s e))
    (λ i h d. puts_at (i + leaves) (grown_same snd) (omega arith) (tree_at snd i h d))
    (λ new space. puts_at (used s + leaves) (grown_added snd e f new space) (omega (arith, used_added s e (next_in snd space))) (tree_added snd e f new space))
    (λ _ _. puts_full (grown_same snd))

-- ---- a diagram
-- A claim about the next step holds if it holds at each handle that the step before may give, and where that found no room.
pub then_cases : (P : Outcome (Option ℕ) → Type 0) (o : Outcome (Option ℕ)) (next : ℕ → List ℕ → Outcome (Option ℕ))
    → ((h : ℕ) → o.answer ≡ Some h → P (next h o.words)) → (o.answer ≡ None → P (outcome None o.words)) → P (then_place o next)
then_cases P o next at full = go o.answer refl
  where
    go : (a : Option ℕ) → o.answer ≡ a → P (then_place o next)
    go (Some h) d = rw d (at h d)
    go None d = rw d (full d)

-- the entry of a handle asks no question before the least of its tree
rises : {limits : Limits} {s : List ℕ} → Sound limits s → (least most h : ℕ) → h < used s + leaves → Ascending least most (tree s h) → leaves ≤ h
    → least ≤ (entry s (h - leaves)).question
rises {s = s} snd least most = by_handle (used s) (λ h. Ascending least most (tree s h) → leaves ≤ h → least ≤ (entry s (h - leaves)).question)
    (λ h l a k. absurd (omega arith))
    (λ i l a k.
    let z : i ≡ i + leaves - leaves = omega arith in
    let first : Ascending least most (tree_of s (entry s i)) = subst (Ascending least most) (tree_node snd i l) a in
    subst (λ j. least ≤ (entry s j).question) z first.0)

-- both parts of a node were added: its entry may stand after the last, and its tree is the node
module _ {limits : Limits} {s : List ℕ} (k : ℕ) {y n : Tree} {o₁ o₂ : Outcome (Option ℕ)} (p₁ : Puts limits s y o₁) (p₂ : Puts limits o₁.words n o₂)
    (hy hn : ℕ) (e₁ : o₁.answer ≡ Some hy) (e₂ : o₂.answer ≡ Some hn) where
  yes_in : hy < used o₂.words + leaves
  yes_in = omega (arith, p₁.handle_in hy e₁, p₂.grown.grows)

  yes_tree : tree o₂.words hy ≡ y
  yes_tree = tree_agrees p₂.grown.agree (falling p₁.grown.sound) hy (p₁.handle_in hy e₁) ∙ p₁.stands hy e₁

  pub node_tree : tree_of o₂.words (entry_of k hy hn) ≡ node k y n
  node_tree = ap₂ (node k) yes_tree (p₂.stands hn e₂)

  pub node_stands : (least most : ℕ) → Ascending least most (node k y n) → Reduced (node k y n) → 1 ≤ least → most ≤ question_count s
      → MayStand o₂.words (used o₂.words) (entry_of k hy hn)
  node_stands least most a r some listed =
      record {
        asks_some = omega (arith, a.0);
        asks_listed = omega (arith, a.1, questions_agree p₁.grown.agree, questions_agree p₂.grown.agree);
        yes_below = yes_in;
        no_below = p₂.handle_in hn e₂;
        differ = λ d. r.0 (sym yes_tree ∙ ap (tree o₂.words) d ∙ p₂.stands hn e₂);
        yes_later = rises p₂.grown.sound (suc k) most hy yes_in (subst (Ascending (suc k) most) (sym yes_tree) a.2);
        no_later = rises p₂.grown.sound (suc k) most hn (p₂.handle_in hn e₂) (subst (Ascending (suc k) most) (sym (p₂.stands hn e₂)) a.3);
      }

pub insert_puts : {limits : Limits} (t : Tree) {s : List ℕ} → Sound limits s → (least most : ℕ) → Ascending least most t → Reduced t → 1 ≤ least → most ≤ question_count s
    → Puts limits s t (insert limits s t)
unfolding insert
insert_puts (leaf true) {s} snd least most a r some listed = puts_at 1 (grown_same snd) (omega arith) (tree_always s)
insert_puts (leaf false) {s} snd least most a r some listed = puts_at 0 (grown_same snd) (omega arith) (tree_never s)
insert_puts {limits} (node k y n) {s} snd least most a r some listed =
    let o₁ = insert limits s y in
    let p₁ = insert_puts y snd (suc k) most a.2 r.1 (omega arith) listed in
    then_cases (Puts limits s (node k y n)) o₁ (λ hy s₁. then_place (insert limits s₁ n) (λ hn s₂. place_entry limits s₂ (entry_of k hy hn)))
    (λ hy e₁.
    let o₂ = insert limits o₁.words n in
    let p₂ = insert_puts n p₁.grown.sound (suc k) most a.3 r.2 (omega arith) (omega (arith, questions_agree p₁.grown.agree)) in
    then_cases (Puts limits s (node k y n)) o₂ (λ hn s₂. place_entry limits s₂ (entry_of k hy hn))
    (λ hn e₂. puts_after (grown_on p₁.grown p₂.grown) (node_tree k p₁ p₂ hy hn e₁ e₂)
    (place_puts p₂.grown.sound (entry_of k hy hn) (node_stands k p₁ p₂ hy hn e₁ e₂ least most a r some listed)))
    (λ _. puts_full (grown_on p₁.grown p₂.grown)))
    (λ _. puts_full p₁.grown)

-- ---- the diagram is added
module _ {limits : Limits} (t : Tree) {s : List ℕ} (snd : Sound limits s) (a : Ascending 1 (question_count s) t) (r : Reduced t) where
  from_one : Puts limits s t (insert limits s t)
  from_one = insert_puts t snd 1 (question_count s) a r (omega arith) (omega arith)

  pub insert_tree : (h : ℕ) → (insert limits s t).answer ≡ Some h → Inserted limits s t h (insert limits s t).words
  insert_tree h e =
      let g = from_one.grown in
      record {
        sound = g.sound;
        handle_in = from_one.handle_in h e;
        stands = from_one.stands h e;
        older_tree = tree_agrees g.agree (falling snd);
        older_meaning = meaning_agrees g.agree (falling snd);
        agree = g.agree;
        grows = g.grows;
        fields_kept = fields_agree g.agree;
        questions_kept = questions_agree g.agree;
        question_kept = question_agrees g.agree;
        length_kept = g.length_kept;
      }

  -- Where the store was full too, the words are those before but for word 2 and what stands after the last entry.
  pub insert_grows : Grown limits s (insert limits s t).words
  insert_grows = from_one.grown
