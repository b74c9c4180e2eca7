-- The words with an entry after the last differ from those before only in that entry and in the number of entries used; so the store stays sound
-- if the entry keeps the rules and was not there.
use Prim.Native.Nat.{ℕ, ◌+◌, ◌-◌, ◌*◌, ◌/◌, ◌≤◌, ◌<◌, min}
use mathlib.Core.Path.{◌≡◌, sym, ap, ◌∙◌, subst}
use mathlib.Core.Logic.{◌≢◌}
use mathlib.Core.List.{List}
use native.Mathlib.Omega.{arith}
use native.Mathlib.Decide.{dec_lt}
use lib.ListN.{length, get_or, set, length-set}
use lib.Seq.{get_or-set_same, get_or-set_other}
use Rattle.terms.specs.declared.limits.Limits.{Limits}
use Rattle.store.specs.declared.entries.Entry.{Entry}
use Rattle.store.specs.Entries.{with_entry}
use Rattle.store.specs.Grown.{Agree}
use Rattle.store.specs.Layout.{heading_length, used_place, used, entries_start, entry, entry_of, leaves, room}
use Rattle.store.specs.Needs.{HasEntry}
use Rattle.store.specs.SoundParts.{MayStand, Sound}
use Rattle.store.proofs.EntryFound.{Absent}
use Rattle.store.proofs.StoreWords.{fields_agree, questions_agree, orders_agree, list_agrees, entry_agrees}

module _ (s : List ℕ) (e : Entry) where
  -- where the entry is written
  abbrev at : ℕ
  at = entries_start s + 3 * used s

  pub length_added : length (with_entry s e) ≡ length s
  unfolding with_entry
  length_added = simp length-set

  other_word : (k : ℕ) → k ≢ at → k ≢ at + 1 → k ≢ at + 2 → k ≢ used_place → get_or (with_entry s e) k 0 ≡ get_or s k 0
  unfolding with_entry
  other_word k a b c d = simp get_or-set_other

  -- the words before the entry stay, but for the number of entries used
  pub agree_added : Agree s (with_entry s e) (used s)
  agree_added = record { word = λ k h n. other_word k (omega arith) (omega arith) (omega arith) n }

  -- and so do those after it
  pub later_word : (k : ℕ) → at + 3 ≤ k → get_or (with_entry s e) k 0 ≡ get_or s k 0
  later_word k h = other_word k (omega arith) (omega arith) (omega arith) (omega arith)

  -- a word just written is read
  read_back : (xs : List ℕ) (i v : ℕ) → length xs ≡ length s → i < length s → get_or (set xs i v) i 0 ≡ v
  read_back xs i v l h = get_or-set_same xs i v 0 (subst (λ n. i < n) (sym l) h)

  module _ (fits : HasEntry s (used s)) where
    pub used_added : used (with_entry s e) ≡ used s + 1
    unfolding with_entry
    used_added =
        let in_words : used_place < length s = omega arith in
        simp (read_back, length-set)

    pub question_added : get_or (with_entry s e) at 0 ≡ e.question
    unfolding with_entry
    question_added =
        let in_words : at < length s = omega arith in
        let not_used : at ≢ used_place = omega arith in
        let not_yes : at ≢ at + 1 = omega arith in
        let not_no : at ≢ at + 2 = omega arith in
        simp (get_or-set_other, read_back)

    pub yes_added : get_or (with_entry s e) (at + 1) 0 ≡ e.yes
    unfolding with_entry
    yes_added =
        let in_words : at + 1 < length s = omega arith in
        let not_used : at + 1 ≢ used_place = omega arith in
        let not_no : at + 1 ≢ at + 2 = omega arith in
        simp (get_or-set_other, read_back, length-set)

    pub no_added : get_or (with_entry s e) (at + 2) 0 ≡ e.no
    unfolding with_entry
    no_added =
        let in_words : at + 2 < length s = omega arith in
        let not_used : at + 2 ≢ used_place = omega arith in
        simp (get_or-set_other, read_back, length-set)

    pub entry_added : entry (with_entry s e) (used s) ≡ e
    entry_added =
        let start : entries_start (with_entry s e) + 3 * used s ≡ at = omega (arith, questions_agree agree_added) in
        let word : (f : ℕ → ℕ) → get_or (with_entry s e) (f (entries_start (with_entry s e) + 3 * used s)) 0 ≡ get_or (with_entry s e) (f at) 0 =
        λ f. ap (λ (x : ℕ). get_or (with_entry s e) (f x) 0) start in
        λ i. entry_of ((word (λ x. x) ∙ question_added) i) ((word (λ x. x + 1) ∙ yes_added) i) ((word (λ x. x + 2) ∙ no_added) i)

    -- an entry of the longer store is one of the shorter, or the new one
    pub by_entry : (P : ℕ → Entry → Type 0) → ((i : ℕ) → i < used s → P i (entry s i)) → P (used s) e
        → (i : ℕ) → i < used (with_entry s e) → P i (entry (with_entry s e) i)
    by_entry P old new i h = elim (dec_lt i (used s)) [
      | yes l ↦ subst (P i) (sym (entry_agrees agree_added i l)) (old i l)
      | no l ↦
          let last : used s ≡ i = omega (arith, used_added) in
          subst (λ j. P j (entry (with_entry s e) j)) last (subst (P (used s)) (sym entry_added) new)
    ]

-- ---- soundness
pub room_agrees : (limits : Limits) {s s' : List ℕ} {m : ℕ} → Agree s s' m → length s' ≡ length s → room limits s' ≡ room limits s
room_agrees limits agree l = λ i. min ((l i - (heading_length + 2 * questions_agree agree i)) / 3) limits.entries

-- what may stand in a store may stand in one that agrees with it up to there
pub stands_agrees : {s s' : List ℕ} {m : ℕ} → Agree s s' m → (i : ℕ) → i ≤ m → {e : Entry} → MayStand s i e → MayStand s' i e
stands_agrees {s} {s'} agree i l {e} k =
    let later : (h : ℕ) → h < i + leaves → (leaves ≤ h → e.question < (entry s (h - leaves)).question) → leaves ≤ h → e.question < (entry s' (h - leaves)).question =
    λ h b g o. omega (arith, g o, ap (λ x. x.question) (entry_agrees agree (h - leaves) (omega arith))) in
    record {
      asks_some = k.asks_some;
      asks_listed = omega (arith, k.asks_listed, questions_agree agree);
      yes_below = k.yes_below;
      no_below = k.no_below;
      differ = k.differ;
      yes_later = later e.yes k.yes_below k.yes_later;
      no_later = later e.no k.no_below k.no_later;
    }

module _ {limits : Limits} {s : List ℕ} (snd : Sound limits s) (space : used s < room limits s) where
  pub next_in : HasEntry s (used s)
  next_in = omega (arith, snd.list_in)

  pub sound_added : (e : Entry) → MayStand s (used s) e → Absent s e → Sound limits (with_entry s e)
  sound_added e f new =
      let s' : List ℕ = with_entry s e in
      let agree : Agree s s' (used s) = agree_added s e in
      let long = length_added s e in
      record {
        fields_in = omega (arith, snd.fields_in, fields_agree agree);
        questions_in = omega (arith, snd.questions_in, questions_agree agree);
        list_in = omega (arith, snd.list_in, questions_agree agree, long);
        order = snd.order;
        order_is = orders_agree agree ∙ snd.order_is;
        list_kept = rw (list_agrees agree snd.list_in (omega (arith, snd.list_in, long)), fields_agree agree, questions_agree agree) snd.list_kept;
        used_in = omega (arith, used_added s e next_in, room_agrees limits agree long);
        entry_kept = by_entry s e next_in (MayStand s')
            (λ i h. stands_agrees agree i (omega arith) (snd.entry_kept i h))
            (stands_agrees agree (used s) (omega arith) f);
        entries_differ = λ j i l u. by_entry s e next_in (λ i d. j < i → entry s' j ≢ d)
            (λ i h l d. snd.entries_differ j i l h (sym (entry_agrees agree j (omega arith)) ∙ d))
            (λ l d. new j l (sym (entry_agrees agree j l) ∙ d)) i u l;
        unused_zero = λ k h. later_word s e k (omega (arith, used_added s e next_in, questions_agree agree))
            ∙ snd.unused_zero k (omega (arith, used_added s e next_in, questions_agree agree));
      }
