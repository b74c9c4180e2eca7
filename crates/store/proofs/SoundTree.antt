-- The diagrams of a sound store: a handle means what its tree does, along every path the question numbers rise, the parts of an entry
-- differ, and two handles with one tree are the same, since no two entries are equal.
use Prim.Native.Nat.{ℕ, zero, suc, ◌+◌, ◌-◌, ◌≤◌, ◌<◌}
use mathlib.Core.Path.{◌≡◌, sym, ◌∙◌, ap, ap₂}
use mathlib.Core.Logic.{◌≢◌}
use mathlib.Core.Bool.{Bool, true, false, true≢false, false≢true, cond}
use mathlib.Core.List.{List}
use native.Mathlib.Omega.{arith}
use native.Mathlib.Decide.{dec_lt}
use lib.Dec.{eqb}
use Rattle.terms.specs.Meaning.{Valuation, truth}
use Rattle.terms.specs.declared.limits.Limits.{Limits}
use Rattle.store.specs.Layout.{entry, leaves, question, question_count, used}
use Rattle.store.specs.Meaning.{follow, meaning}
use Rattle.store.specs.Tree.{leaf, node, tree, tree_truth, Ascending, Reduced}
use Rattle.terms.proofs.Cases.{by_test, by_eq}
use Rattle.store.specs.SoundParts.{Sound}
use Rattle.store.proofs.ByHandles.{Falling, by_handle, by_handles, leaf_within, tree_entry, leaf_stays, follow_entry}

pub tree_leaf : (s : List ℕ) (h : ℕ) → h < leaves → tree s h ≡ leaf (eqb h 1)
tree_leaf s h = leaf_within h s h

pub tree_never : (s : List ℕ) → tree s 0 ≡ leaf false
tree_never s = tree_leaf s 0 (omega arith)

pub tree_always : (s : List ℕ) → tree s 1 ≡ leaf true
tree_always s = tree_leaf s 1 (omega arith)

-- as many steps as the handle's number, or more, end at the leaf that is its tree's truth
abbrev StepsEnough : List ℕ → Valuation → ℕ → Type 0
StepsEnough s v h = (steps : ℕ) → h ≤ steps → eqb (follow steps s v h) 1 ≡ tree_truth (λ k. truth v (question s k)) (tree s h)

module _ {limits : Limits} {s : List ℕ} (snd : Sound limits s) where
  pub falling : Falling s (used s)
  falling = record { yes_below = λ i h. (snd.entry_kept i h).yes_below; no_below = λ i h. (snd.entry_kept i h).no_below }

  pub tree_node : (i : ℕ) → i < used s → tree s (i + leaves) ≡ node (entry s i).question (tree s (entry s i).yes) (tree s (entry s i).no)
  tree_node = tree_entry falling

  -- the handle after an entry is below it
  entry_steps : (v : Valuation) (i : ℕ) → i < used s → StepsEnough s v (entry s i).yes → StepsEnough s v (entry s i).no → StepsEnough s v (i + leaves)
  entry_steps v i h y n zero l = absurd (omega arith)
  entry_steps v i h y n (suc steps) l =
      let e = entry s i in
      let answers : ℕ → Bool = λ k. truth v (question s k) in
      ap (λ x. eqb x 1) (follow_entry steps s v i)
      ∙ by_test (λ t. eqb (follow steps s v (cond t e.yes e.no)) 1 ≡ cond t (tree_truth answers (tree s e.yes)) (tree_truth answers (tree s e.no))) (answers e.question)
      (λ _. y steps (omega (arith, (snd.entry_kept i h).yes_below))) (λ _. n steps (omega (arith, (snd.entry_kept i h).no_below)))
      ∙ sym (ap (tree_truth answers) (tree_node i h))

  -- A handle means what its tree does.
  pub meaning_is_tree : (h : ℕ) → h < used s + leaves → (v : Valuation) → meaning s h v ≡ tree_truth (λ k. truth v (question s k)) (tree s h)
  meaning_is_tree h l v = by_handles falling (StepsEnough s v)
      (λ g k steps _. ap (λ x. eqb x 1) (leaf_stays steps s v g k) ∙ sym (ap (tree_truth (λ k. truth v (question s k))) (tree_leaf s g k)))
      (entry_steps v) h l h (omega arith)

  -- An entry means what its yes handle does where its question is true, and what its no handle does where it is not.
  pub meaning_entry : (i : ℕ) → i < used s → (v : Valuation)
      → meaning s (i + leaves) v ≡ cond (truth v (question s (entry s i).question)) (meaning s (entry s i).yes v) (meaning s (entry s i).no v)
  meaning_entry i h v =
      let e = entry s i in
      let answers : ℕ → Bool = λ k. truth v (question s k) in
      let k = snd.entry_kept i h in
      meaning_is_tree (i + leaves) (omega arith) v
      ∙ ap (tree_truth answers) (tree_node i h)
      ∙ ap₂ (cond (answers e.question)) (sym (meaning_is_tree e.yes (omega (arith, k.yes_below)) v)) (sym (meaning_is_tree e.no (omega (arith, k.no_below)) v))

  ascending_from : (h : ℕ) → h < used s + leaves → (least : ℕ) → (leaves ≤ h → least ≤ (entry s (h - leaves)).question) → Ascending least (question_count s) (tree s h)
  ascending_from = by_handles falling (λ h. (least : ℕ) → (leaves ≤ h → least ≤ (entry s (h - leaves)).question) → Ascending least (question_count s) (tree s h))
      (λ h l least _. rw (tree_leaf s h l) tt)
      (λ i h y n least f.
      let k = snd.entry_kept i h in
      let e : i + leaves - leaves ≡ i = omega arith in
      rw (tree_node i h) (rw e at (f (omega arith)), k.asks_listed, y (suc (entry s i).question) k.yes_later, n (suc (entry s i).question) k.no_later))

  -- "an entry that another entry's handle names has a larger question number than that other entry"
  pub tree_ascending : (h : ℕ) → h < used s + leaves → Ascending 1 (question_count s) (tree s h)
  tree_ascending h l = ascending_from h l 1 (λ k. (snd.entry_kept (h - leaves) (omega arith)).asks_some)

  -- ---- one tree, one handle
  leaf_alike : (g h : ℕ) → g < leaves → h < leaves → tree s g ≡ tree s h → g ≡ h
  leaf_alike g h k l e =
      let t : eqb g 1 ≡ eqb h 1 = cc (tree_leaf s g k, tree_leaf s h l) in
      by_eq (λ x. x ≡ eqb h 1 → g ≡ h) g 1
      (λ a. by_eq (λ x. true ≡ x → g ≡ h) h 1 (λ b _. omega arith) (λ b d. absurd (true≢false d)))
      (λ a. by_eq (λ x. false ≡ x → g ≡ h) h 1 (λ b d. absurd (false≢true d)) (λ b _. omega arith)) t

  leaf_unlike : (g i : ℕ) → g < leaves → i < used s → tree s g ≢ tree s (i + leaves)
  leaf_unlike g i k l e = let z : ◌≡◌ {A = ℕ} 0 1 = cc (tree_leaf s g k, tree_node i l) in omega arith

  -- "no two entries are equal"
  entry_alike : (i j : ℕ) → i < used s → j < used s → entry s i ≡ entry s j → i ≡ j
  entry_alike i j k l e = elim (dec_lt i j) [
    | yes h ↦ absurd (snd.entries_differ i j h l e)
    | no h ↦ elim (dec_lt j i) [ yes g ↦ absurd (snd.entries_differ j i g k (sym e)) | no g ↦ omega arith ]
  ]

  abbrev OneHandle : ℕ → Type 0
  OneHandle g = (h : ℕ) → h < used s + leaves → tree s g ≡ tree s h → g ≡ h

  one_entry : (i : ℕ) → i < used s → OneHandle (entry s i).yes → OneHandle (entry s i).no → OneHandle (i + leaves)
  one_entry i k y n = by_handle (used s) (λ h. tree s (i + leaves) ≡ tree s h → i + leaves ≡ h)
      (λ h l e. absurd (leaf_unlike h i l k (sym e)))
      (λ j l e.
      let u = snd.entry_kept j l in
      let a : node (entry s i).question (tree s (entry s i).yes) (tree s (entry s i).no) ≡ node (entry s j).question (tree s (entry s j).yes) (tree s (entry s j).no) = sym (tree_node i k) ∙ e ∙ tree_node j l in
      let q : (entry s i).question ≡ (entry s j).question = cc in
      let p : (entry s i).yes ≡ (entry s j).yes = y (entry s j).yes (omega (arith, u.yes_below)) (cc) in
      let r : (entry s i).no ≡ (entry s j).no = n (entry s j).no (omega (arith, u.no_below)) (cc) in
      ap (λ x. x + leaves) (entry_alike i j k l (λ d. record { question = q d; yes = p d; no = r d })))

  -- Two handles with one tree are the same.
  pub one_handle : (g h : ℕ) → g < used s + leaves → h < used s + leaves → tree s g ≡ tree s h → g ≡ h
  one_handle g h k = by_handles falling OneHandle
      (λ g k. by_handle (used s) (λ h. tree s g ≡ tree s h → g ≡ h) (λ h l. leaf_alike g h k l) (λ i l e. absurd (leaf_unlike g i k l e)))
      one_entry g k h

  -- "its handles ... differ"
  pub tree_reduced : (h : ℕ) → h < used s + leaves → Reduced (tree s h)
  tree_reduced = by_handles falling (λ h. Reduced (tree s h)) (λ h l. rw (tree_leaf s h l) tt)
      (λ i h y n.
      let k = snd.entry_kept i h in
      rw (tree_node i h) (λ e. k.differ (one_handle (entry s i).yes (entry s i).no (omega (arith, k.yes_below)) (omega (arith, k.no_below)) e), y, n))
