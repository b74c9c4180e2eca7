-- Two stores with the same heading, list and used entries, whatever their lengths. They find an entry at the same place, since only used entries are
-- compared; and where both have room for one more they are the same again.
use Prim.Native.Nat.{ℕ, zero, suc, ◌+◌, ◌-◌, ◌*◌, ◌<◌}
use mathlib.Core.Path.{◌≡◌, refl, sym, ap, ◌∙◌}
use mathlib.Core.Bool.{Bool, true, false}
use mathlib.Core.List.{List}
use native.Mathlib.Omega.{arith}
use native.Mathlib.Decide.{dec_lt}
use lib.ListN.{get_or}
use Rattle.store.specs.declared.entries.Entry.{Entry}
use Rattle.store.specs.Entries.{first, is_entry, find_entry, with_entry}
use Rattle.store.specs.Grown.{Agree}
use Rattle.store.specs.Layout.{used, entries_start}
use Rattle.store.specs.Needs.{HasEntry}
use Rattle.store.specs.Sound.{same_entry}
use Rattle.store.proofs.EntryAdded.{agree_added, used_added, question_added, yes_added, no_added}
use Rattle.store.proofs.StoreWords.{questions_agree, entry_agrees}

pub record SameEntries (s s' : List ℕ) : Type 0 where
  pub agree : Agree s s' (used s)
  pub same_used : used s' ≡ used s

-- ---- finding
first_same : (p q : ℕ → Bool) (left i : ℕ) → ((j : ℕ) → j < i + left → p j ≡ q j) → first p left i ≡ first q left i
unfolding first
first_same p q zero i e = refl
first_same p q (suc left) i e = λ d. elim (e i (omega arith) d) as (λ _. ℕ) [ true ↦ i | false ↦ first_same p q left (i + 1) (λ j l. e j (omega arith)) d ]

module _ {s s' : List ℕ} (same : SameEntries s s') where
  pub find_same : (e : Entry) → find_entry s' (used s') e ≡ find_entry s (used s) e
  unfolding is_entry
  find_same e = ap (λ k. find_entry s' k e) same.same_used
      ∙ first_same (is_entry s' e) (is_entry s e) (used s) 0 (λ j l. ap (λ x. same_entry x e) (entry_agrees same.agree j (omega arith)))

-- ---- one entry more
-- the words of the entry just added, in turn
abbrev word_in : Entry → ℕ → ℕ
word_in e zero = e.question
word_in e (suc zero) = e.yes
word_in e (suc (suc k)) = e.no

module _ (s : List ℕ) (e : Entry) (fits : HasEntry s (used s)) where
  entry_word : (r k : ℕ) → r < 3 → k ≡ entries_start s + 3 * used s + r → get_or (with_entry s e) k 0 ≡ word_in e r
  entry_word zero k h d = let at : k ≡ entries_start s + 3 * used s = omega arith in ap (λ x. get_or (with_entry s e) x 0) at ∙ question_added s e fits
  entry_word (suc zero) k h d = ap (λ x. get_or (with_entry s e) x 0) d ∙ yes_added s e fits
  entry_word (suc (suc zero)) k h d = ap (λ x. get_or (with_entry s e) x 0) d ∙ no_added s e fits
  entry_word (suc (suc (suc r))) k h d = absurd (omega arith)

pub same_added : {s s' : List ℕ} → SameEntries s s' → (e : Entry) → HasEntry s (used s) → HasEntry s' (used s') → SameEntries (with_entry s e) (with_entry s' e)
same_added {s} {s'} same e fits fits' =
    let at : ℕ = entries_start s + 3 * used s in
    let start : entries_start s' ≡ entries_start s = omega (arith, questions_agree same.agree) in
    let kept : entries_start (with_entry s e) ≡ entries_start s = omega (arith, questions_agree (agree_added s e)) in
    record {
      agree = record {
        word = λ k h n. elim (dec_lt k at) [
          | yes l ↦ (agree_added s' e).word k (omega (arith, same.same_used)) n ∙ same.agree.word k l n ∙ sym ((agree_added s e).word k l n)
          | no l ↦
              entry_word s' e fits' (k - at) k (omega (arith, used_added s e fits)) (omega (arith, same.same_used))
              ∙ sym (entry_word s e fits (k - at) k (omega (arith, used_added s e fits)) (omega arith))
        ];
      };
      same_used = omega (arith, used_added s e fits, used_added s' e fits', same.same_used);
    }
