-- The parts of a store that was just opened are read off its words; two words for each question are the whole of an even list.
use Prim.Native.Nat.{ℕ, zero, suc, ◌+◌, ◌-◌, ◌*◌, ◌/◌, ◌≤◌}
use mathlib.Core.Path.{◌≡◌, refl, ap, ◌∙◌}
use mathlib.Core.Bool.{true}
use mathlib.Core.List.{List, ◌∷◌}
use native.Mathlib.Omega.{arith}
use lib.ListN.{length, drop, replicate, length-append, length-replicate}
use lib.Seq.{take_at, drop_at}
use Rattle.store.specs.Layout.{heading_length, field_count, question_count, used, store_order, list_words, entries_start}
use Rattle.store.specs.Open.{opened_words}
use Rattle.store.specs.Sound.{all_zero}

zeros_zero : (k : ℕ) → all_zero (replicate k 0) ≡ true
unfolding all_zero
zeros_zero zero = refl
zeros_zero (suc k) = zeros_zero k

module _ (n order : ℕ) (list : List ℕ) (words : ℕ) where
  pub opened_fields : field_count (opened_words n order list words) ≡ n
  unfolding opened_words
  opened_fields = refl

  pub opened_questions : question_count (opened_words n order list words) ≡ length list / 2
  unfolding opened_words
  opened_questions = refl

  pub opened_used : used (opened_words n order list words) ≡ 0
  unfolding opened_words
  opened_used = refl

  pub opened_order : store_order (opened_words n order list words) ≡ order
  unfolding opened_words
  opened_order = refl

  pub opened_length : heading_length + length list ≤ words → length (opened_words n order list words) ≡ words
  unfolding opened_words
  opened_length h = simp (length-append, length-replicate) (omega arith)

  module _ (even : 2 * (length list / 2) ≡ length list) where
    pub opened_list : list_words (opened_words n order list words) ≡ list
    unfolding opened_words
    opened_list = take_at list _ (2 * (length list / 2)) (omega arith)

    pub opened_rest : all_zero (drop (entries_start (opened_words n order list words)) (opened_words n order list words)) ≡ true
    unfolding opened_words
    opened_rest =
        let past = drop_at (n ∷ length list / 2 ∷ 0 ∷ order ∷ list) _ (heading_length + 2 * (length list / 2)) (omega arith) in
        ap all_zero past ∙ zeros_zero (words - (heading_length + length list))
