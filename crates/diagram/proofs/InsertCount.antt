-- At each step the trees of the store are those that it began with and those collected, one entry for each: an entry is added exactly where its tree
-- is collected, since equal trees have equal handles. So used grows by the number of trees collected, and the store is full if that is too many.
use Prim.Native.Nat.{ℕ, zero, suc, ◌+◌, ◌≤◌, ◌<◌}
use mathlib.Core.Path.{◌≡◌, refl, sym, ap, ap₂, ◌∙◌, subst}
use mathlib.Core.Logic.{◌≢◌}
use mathlib.Core.Bool.{Bool, true, false, cond, ◌||◌, or-true, or_assoc, or_comm, or-false}
use mathlib.Core.List.{List, [], ◌∷◌}
use native.Mathlib.Omega.{arith}
use native.Mathlib.Decide.{ℕ_discrete}
use lib.ListN.{length}
use Rattle.std.proofs.Common.{Option, Some, None}
use Rattle.terms.specs.declared.limits.Limits.{Limits}
use Rattle.store.specs.declared.entries.Entry.{Entry}
use Rattle.store.specs.Entries.{with_entry}
use Rattle.store.specs.Layout.{question_count, used, entry, entry_of, leaves, room}
use Rattle.store.specs.Outcome.{Outcome, outcome}
use Rattle.store.specs.Tree.{Tree, leaf, node, tree, Ascending, Reduced}
use Rattle.diagram.specs.Finish.{same_tree}
use Rattle.diagram.specs.Insert.{place_entry, then_place, leaf_handle, insert, some_below, is_stored, is_among, collect, new_trees}
use Rattle.diagram.specs.Inserted.{GrowsBy}
use Rattle.store.proofs.ByHandles.{by_handle}
use Rattle.store.specs.SoundParts.{MayStand, Sound}
use Rattle.store.proofs.SoundTree.{falling, tree_leaf, tree_node, one_handle}
use Rattle.store.proofs.StoreWords.{questions_agree, tree_agrees}
use Rattle.terms.proofs.Cases.{by_test}
use Rattle.diagram.proofs.EntryPlaced.{place_cases}
use Rattle.store.proofs.EntryAdded.{used_added, length_added, agree_added, room_agrees, next_in}
use Rattle.store.proofs.EntryFound.{Absent}
use Rattle.store.proofs.StoreGrown.{tree_of, tree_at, tree_added}
use Rattle.diagram.proofs.InsertTree.{then_cases, node_tree, node_stands, insert_puts, insert_grows}
use Rattle.diagram.proofs.Trees.{same_tree_self, same_tree_says}

-- ---- searches
some_from : (p : ℕ → Bool) (k i : ℕ) → i < k → p i ≡ true → some_below k p ≡ true
unfolding some_below
some_from p zero i h t = absurd (omega arith)
some_from p (suc k) i h t = elim (ℕ_discrete i k) [
  | yes d ↦ ap (λ b. some_below k p || b) (ap p (sym d) ∙ t) ∙ or-true (some_below k p)
  | no d ↦ ap (λ b. b || p k) (some_from p k i (omega arith) t)
]

none_from : (p : ℕ → Bool) (k : ℕ) → ((i : ℕ) → i < k → p i ≡ false) → some_below k p ≡ false
unfolding some_below
none_from p zero f = refl
none_from p (suc k) f = rw (none_from p k (λ i h. f i (omega arith)), f k (omega arith))

some_same : (p q : ℕ → Bool) (k : ℕ) → ((i : ℕ) → i < k → p i ≡ q i) → some_below k p ≡ some_below k q
unfolding some_below
some_same p q zero f = refl
some_same p q (suc k) f = ap₂ ◌||◌ (some_same p q k (λ i h. f i (omega arith))) (f k (omega arith))

-- ---- the trees of a store
module _ {limits : Limits} {s : List ℕ} (snd : Sound limits s) (e : Entry) where
  stored_at : (i : ℕ) → i < used s → entry s i ≡ e → is_stored s (tree_of s e) ≡ true
  unfolding is_stored
  stored_at i h d = some_from (λ g. same_tree (tree s g) (tree_of s e)) (used s + leaves) (i + leaves) (omega arith)
      (ap (λ t. same_tree t (tree_of s e)) (tree_at snd i h d) ∙ same_tree_self (tree_of s e))

  -- an entry that is not there makes a tree that no handle has
  unlike : MayStand s (used s) e → Absent s e → (h : ℕ) → h < used s + leaves → tree s h ≢ tree_of s e
  unlike f new = by_handle (used s) (λ h. tree s h ≢ tree_of s e)
      (λ h l d. let z : ◌≡◌ {A = ℕ} 0 1 = cc (tree_leaf s h l) in omega arith)
      (λ i l d.
      let k = snd.entry_kept i l in
      let a : tree_of s (entry s i) ≡ tree_of s e = sym (tree_node snd i l) ∙ d in
      let q : (entry s i).question ≡ e.question = cc in
      let y : (entry s i).yes ≡ e.yes = one_handle snd (entry s i).yes e.yes (omega (arith, k.yes_below)) f.yes_below (cc) in
      let n : (entry s i).no ≡ e.no = one_handle snd (entry s i).no e.no (omega (arith, k.no_below)) f.no_below (cc) in
      new i l (λ j. record { question = q j; yes = y j; no = n j }))

  not_stored : MayStand s (used s) e → Absent s e → is_stored s (tree_of s e) ≡ false
  unfolding is_stored
  not_stored f new = none_from (λ g. same_tree (tree s g) (tree_of s e)) (used s + leaves) (λ h l.
      by_test (λ t. same_tree (tree s h) (tree_of s e) ≡ t → t ≡ false) (same_tree (tree s h) (tree_of s e))
      (λ _ t. absurd (unlike f new h l (same_tree_says (tree s h) (tree_of s e) t))) (λ _ _. refl) refl)

  stored_added : (f : MayStand s (used s) e) (new : Absent s e) (space : used s < room limits s) (t : Tree)
      → is_stored (with_entry s e) t ≡ (is_stored s t || same_tree (tree_of s e) t)
  unfolding is_stored some_below
  stored_added f new space t =
      let more : used (with_entry s e) + leaves ≡ suc (used s + leaves) = omega (arith, used_added s e (next_in snd space)) in
      ap (λ k. some_below k (λ h. same_tree (tree (with_entry s e) h) t)) more
      ∙ ap₂ ◌||◌ (some_same (λ h. same_tree (tree (with_entry s e) h) t) (λ h. same_tree (tree s h) t) (used s + leaves)
      (λ h l. ap (λ x. same_tree x t) (tree_agrees (agree_added s e) (falling snd) h l)))
      (ap (λ x. same_tree x t) (tree_added snd e f new space))

-- ---- the count so far
-- the trees of s are those of s₀ and those collected, and each that was collected is one entry
record Collected (limits : Limits) (s₀ s : List ℕ) (xs : List Tree) : Type 0 where
  stored : (t : Tree) → is_stored s t ≡ (is_stored s₀ t || is_among t xs)
  counted : used s ≡ used s₀ + length xs
  same_room : room limits s ≡ room limits s₀

record Counts (limits : Limits) (s₀ : List ℕ) (xs : List Tree) (o : Outcome (Option ℕ)) : Type 0 where
  when_at : (h : ℕ) → o.answer ≡ Some h → Collected limits s₀ o.words xs
  when_full : o.answer ≡ None → room limits s₀ < used s₀ + length xs

counts_at : {limits : Limits} {s₀ s : List ℕ} {xs : List Tree} (h : ℕ) → Collected limits s₀ s xs → Counts limits s₀ xs (outcome (Some h) s)
counts_at h c = record { when_at = λ _ _. c; when_full = λ d. let z : ◌≡◌ {A = ℕ} 0 1 = cc in absurd (omega arith) }

counts_full : {limits : Limits} {s₀ s : List ℕ} {xs : List Tree} → room limits s₀ < used s₀ + length xs → Counts limits s₀ xs (outcome None s)
counts_full r = record { when_at = λ h d. let z : ◌≡◌ {A = ℕ} 0 1 = cc in absurd (omega arith); when_full = λ _. r }

collect_more : (s : List ℕ) (t : Tree) (xs : List Tree) → length xs ≤ length (collect s t xs)
unfolding collect
collect_more s t xs = by_test (λ b. length xs ≤ length (cond b xs (t ∷ xs))) (is_stored s t || is_among t xs) (λ _. omega arith) (λ _. omega arith)

new_more : (s : List ℕ) (t : Tree) (xs : List Tree) → length xs ≤ length (new_trees s t xs)
unfolding new_trees
new_more s (leaf b) xs = omega arith
new_more s (node k y n) xs =
    omega (arith, new_more s y xs, new_more s n (new_trees s y xs), collect_more s (node k y n) (new_trees s n (new_trees s y xs)))

module _ {limits : Limits} {s₀ s : List ℕ} (snd : Sound limits s) (e : Entry) (f : MayStand s (used s) e) {xs : List Tree} (c : Collected limits s₀ s xs) where
  place_counts : Counts limits s₀ (collect s₀ (tree_of s e) xs) (place_entry limits s e)
  unfolding collect is_among
  place_counts =
      let t : Tree = tree_of s e in
      place_cases limits s e (Counts limits s₀ (collect s₀ t xs))
      (λ i h d. rw (collect, sym (c.stored t) ∙ stored_at snd e i h d) (counts_at (i + leaves) c))
      (λ new space. rw (collect, sym (c.stored t) ∙ not_stored snd e f new) (counts_at (used s + leaves) record {
        stored = λ z. stored_added snd e f new space z ∙ ap (λ b. b || same_tree t z) (c.stored z)
            ∙ or_assoc (is_stored s₀ z) (is_among z xs) (same_tree t z) ∙ ap (λ b. is_stored s₀ z || b) (or_comm (is_among z xs) (same_tree t z));
        counted = omega (arith, used_added s e (next_in snd space), c.counted);
        same_room = room_agrees limits (agree_added s e) (length_added s e) ∙ c.same_room;
      }))
      (λ new none. rw (collect, sym (c.stored t) ∙ not_stored snd e f new) (counts_full (omega (arith, c.counted, c.same_room))))

insert_counts : {limits : Limits} {s₀ : List ℕ} (t : Tree) {s : List ℕ} (xs : List Tree) → Sound limits s → (least most : ℕ) → Ascending least most t → Reduced t
    → 1 ≤ least → most ≤ question_count s → Collected limits s₀ s xs → Counts limits s₀ (new_trees s₀ t xs) (insert limits s t)
unfolding insert new_trees
insert_counts (leaf b) xs snd least most a r some listed c = counts_at (leaf_handle b) c
insert_counts {limits} {s₀} (node k y n) {s} xs snd least most a r some listed c =
    let o₁ = insert limits s y in
    let p₁ = insert_puts y snd (suc k) most a.2 r.1 (omega arith) listed in
    let c₁ = insert_counts y xs snd (suc k) most a.2 r.1 (omega arith) listed c in
    let ys = new_trees s₀ y xs in
    let zs = new_trees s₀ n ys in
    let all = collect s₀ (node k y n) zs in
    then_cases (Counts limits s₀ all) o₁ (λ hy s₁. then_place (insert limits s₁ n) (λ hn s₂. place_entry limits s₂ (entry_of k hy hn)))
    (λ hy e₁.
    let o₂ = insert limits o₁.words n in
    let listed₁ : most ≤ question_count o₁.words = omega (arith, questions_agree p₁.grown.agree) in
    let p₂ = insert_puts n p₁.grown.sound (suc k) most a.3 r.2 (omega arith) listed₁ in
    let c₂ = insert_counts n ys p₁.grown.sound (suc k) most a.3 r.2 (omega arith) listed₁ (c₁.when_at hy e₁) in
    then_cases (Counts limits s₀ all) o₂ (λ hn s₂. place_entry limits s₂ (entry_of k hy hn))
    (λ hn e₂. subst (λ x. Counts limits s₀ (collect s₀ x zs) (place_entry limits o₂.words (entry_of k hy hn))) (node_tree k p₁ p₂ hy hn e₁ e₂)
    (place_counts p₂.grown.sound (entry_of k hy hn) (node_stands k p₁ p₂ hy hn e₁ e₂ least most a r some listed) (c₂.when_at hn e₂)))
    (λ e₂. counts_full (omega (arith, c₂.when_full e₂, collect_more s₀ (node k y n) zs))))
    (λ e₁. counts_full (omega (arith, c₁.when_full e₁, new_more s₀ n ys, collect_more s₀ (node k y n) zs)))

module _ {limits : Limits} (t : Tree) {s : List ℕ} (snd : Sound limits s) (a : Ascending 1 (question_count s) t) (r : Reduced t) where
  pub insert_count : GrowsBy limits s t (insert limits s t)
  unfolding is_among
  insert_count = go o.answer refl
    where
      o : Outcome (Option ℕ)
      o = insert limits s t

      none : Collected limits s s []
      none = record { stored = λ x. sym (or-false (is_stored s x)); counted = omega arith; same_room = refl }

      counts : Counts limits s (new_trees s t []) o
      counts = insert_counts t [] snd 1 (question_count s) a r (omega arith) (omega arith) none

      go : (p : Option ℕ) → o.answer ≡ p → GrowsBy limits s t o
      go (Some h) d =
          let c = counts.when_at h d in
          record { fits = λ _. (h, d, c.counted); full = λ l. absurd (omega (arith, c.counted, c.same_room, (insert_grows t snd a r).sound.used_in)) }
      go None d = record { fits = λ l. absurd (omega (arith, counts.when_full d)); full = λ _. d }
