-- Two stores whose words agree up to the m-th entry, but for the number of entries used, have the same questions, the same first m entries,
-- and below a handle of these the same tree and meaning: nothing else is read.
use Prim.Native.Nat.{ℕ, zero, suc, ◌+◌, ◌-◌, ◌*◌, ◌≤◌, ◌<◌}
use mathlib.Core.Path.{◌≡◌, refl, sym, ◌∙◌, ap, ap₂}
use mathlib.Core.Logic.{◌≢◌}
use mathlib.Core.Bool.{cond}
use mathlib.Core.List.{List}
use native.Mathlib.Omega.{arith}
use native.Mathlib.Decide.{dec_lt}
use lib.Dec.{eqb}
use lib.ListN.{length, get_or, drop, length-take, length-drop, get_or-eq_default}
use lib.Seq.{get_or-take, get_or-drop, ext_get_or}
use Rattle.terms.specs.Words.{equation, term_of}
use Rattle.terms.specs.Meaning.{Valuation, truth}
use Rattle.store.specs.declared.entries.Entry.{Entry}
use Rattle.store.specs.Grown.{Agree}
use Rattle.store.specs.Layout.{heading_length, field_count, question_count, store_order, list_words, question, entries_start, entry, leaves}
use Rattle.store.specs.Meaning.{follow, meaning}
use Rattle.store.specs.Tree.{node, tree_within, tree}
use Rattle.terms.proofs.Cases.{by_test}
use Rattle.store.proofs.ByHandles.{Falling, by_handle, leaf_within, node_within, leaf_stays, follow_entry}

-- a word of the list, as a word of the store
pub list_word : (s : List ℕ) (k : ℕ) → k < 2 * question_count s → get_or (list_words s) k 0 ≡ get_or s (heading_length + k) 0
list_word s k h = get_or-take (2 * question_count s) (drop heading_length s) k 0 h ∙ get_or-drop heading_length s k 0

-- a question's two words stand in the list
pub question_words : (s : List ℕ) (k : ℕ) → 1 ≤ k → k ≤ question_count s
    → question s k ≡ equation (term_of (get_or s (heading_length + 2 * (k - 1)) 0)) (term_of (get_or s (heading_length + 2 * (k - 1) + 1) 0))
question_words s k h l =
    let r : heading_length + (2 * (k - 1) + 1) ≡ heading_length + 2 * (k - 1) + 1 = omega arith in
    ap₂ (λ x y. equation (term_of x) (term_of y)) (list_word s (2 * (k - 1)) (omega arith)) (list_word s (2 * (k - 1) + 1) (omega arith) ∙ ap (λ x. get_or s x 0) r)

list_end : (s : List ℕ) (k : ℕ) → 2 * question_count s ≤ k → get_or (list_words s) k 0 ≡ 0
list_end s k h = get_or-eq_default (list_words s) 0 (omega (arith, length-take (2 * question_count s) (drop heading_length s)))

list_length : (s : List ℕ) → entries_start s ≤ length s → length (list_words s) ≡ 2 * question_count s
list_length s h = omega (arith, length-take (2 * question_count s) (drop heading_length s), length-drop heading_length s)

module _ {s s' : List ℕ} {m : ℕ} (agree : Agree s s' m) where
  pub fields_agree : field_count s' ≡ field_count s
  fields_agree = agree.word 0 (omega arith) (omega arith)

  pub questions_agree : question_count s' ≡ question_count s
  questions_agree = agree.word 1 (omega arith) (omega arith)

  pub orders_agree : store_order s' ≡ store_order s
  orders_agree = agree.word 3 (omega arith) (omega arith)

  list_words_agree : (k : ℕ) → get_or (list_words s') k 0 ≡ get_or (list_words s) k 0
  list_words_agree k = elim (dec_lt k (2 * question_count s)) [
    | yes h ↦ list_word s' k (omega (arith, questions_agree)) ∙ agree.word (heading_length + k) (omega arith) (omega arith) ∙ sym (list_word s k h)
    | no h ↦ list_end s' k (omega (arith, questions_agree)) ∙ sym (list_end s k (omega arith))
  ]

  pub list_agrees : entries_start s ≤ length s → entries_start s ≤ length s' → list_words s' ≡ list_words s
  list_agrees h k = ext_get_or 0 (list_words s') (list_words s)
      (list_length s' (omega (arith, questions_agree)) ∙ ap (λ q. 2 * q) questions_agree ∙ sym (list_length s h)) (λ i _. list_words_agree i)

  pub question_agrees : (k : ℕ) → question s' k ≡ question s k
  question_agrees k = ap₂ (λ l r. equation (term_of l) (term_of r)) (list_words_agree (2 * (k - 1))) (list_words_agree (2 * (k - 1) + 1))

  entry_word_agrees : (k' k : ℕ) → k' ≡ k → k < entries_start s + 3 * m → k ≢ 2 → get_or s' k' 0 ≡ get_or s k 0
  entry_word_agrees k' k e h n = ap (λ x. get_or s' x 0) e ∙ agree.word k h n

  pub entry_agrees : (i : ℕ) → i < m → entry s' i ≡ entry s i
  entry_agrees i h =
      let e : entries_start s' + 3 * i ≡ entries_start s + 3 * i = omega (arith, questions_agree) in
      let q : (entry s' i).question ≡ (entry s i).question = entry_word_agrees _ _ e (omega arith) (omega arith) in
      let y : (entry s' i).yes ≡ (entry s i).yes = entry_word_agrees _ _ (ap (λ k. k + 1) e) (omega arith) (omega arith) in
      let n : (entry s' i).no ≡ (entry s i).no = entry_word_agrees _ _ (ap (λ k. k + 2) e) (omega arith) (omega arith) in
      λ d. record { question = q d; yes = y d; no = n d }

  module _ (falls : Falling s m) where
    tree_within_agrees : (depth h : ℕ) → h < m + leaves → tree_within depth s' h ≡ tree_within depth s h
    unfolding tree_within
    tree_within_agrees zero h l = refl
    tree_within_agrees (suc depth) h l = by_handle m (λ h. tree_within (suc depth) s' h ≡ tree_within (suc depth) s h)
        (λ h k. leaf_within (suc depth) s' h k ∙ sym (leaf_within (suc depth) s h k))
        (λ i k. node_within depth s' i
        ∙ ap (λ e. node e.question (tree_within depth s' e.yes) (tree_within depth s' e.no)) (entry_agrees i k)
        ∙ ap₂ (node (entry s i).question) (tree_within_agrees depth (entry s i).yes (omega (arith, falls.yes_below i k)))
        (tree_within_agrees depth (entry s i).no (omega (arith, falls.no_below i k)))
        ∙ sym (node_within depth s i)) h l

    pub tree_agrees : (h : ℕ) → h < m + leaves → tree s' h ≡ tree s h
    tree_agrees h = tree_within_agrees h h

    follow_agrees : (v : Valuation) (steps h : ℕ) → h < m + leaves → follow steps s' v h ≡ follow steps s v h
    unfolding follow
    follow_agrees v zero h l = refl
    follow_agrees v (suc steps) h l = by_handle m (λ h. follow (suc steps) s' v h ≡ follow (suc steps) s v h)
        (λ h k. leaf_stays (suc steps) s' v h k ∙ sym (leaf_stays (suc steps) s v h k))
        (λ i k. let e = entry s i in
        follow_entry steps s' v i
        ∙ ap (λ (e : Entry). follow steps s' v (cond (truth v (question s' e.question)) e.yes e.no)) (entry_agrees i k)
        ∙ ap (λ q. follow steps s' v (cond (truth v q) e.yes e.no)) (question_agrees e.question)
        ∙ follow_agrees v steps (cond (truth v (question s e.question)) e.yes e.no)
        (by_test (λ t. cond t e.yes e.no < m + leaves) (truth v (question s e.question))
        (λ _. omega (arith, falls.yes_below i k)) (λ _. omega (arith, falls.no_below i k)))
        ∙ sym (follow_entry steps s v i)) h l

    pub meaning_agrees : (h : ℕ) → h < m + leaves → (v : Valuation) → meaning s' h v ≡ meaning s h v
    meaning_agrees h l v = ap (λ x. eqb x 1) (follow_agrees v h h l)
