-- The same calls after the same opening, at two limits and on stores of two lengths: what the opening leaves is the same but for the zeros behind it, and each call
-- that both accept, or both refuse, keeps it so.
use Prim.Native.Nat.{ℕ, ◌+◌, ◌-◌, ◌*◌, ◌/◌, ◌<◌}
use mathlib.Core.Path.{◌≡◌, refl, sym, ap, ap₂, ◌∙◌}
use mathlib.Core.List.{List, [], ◌∷◌, map}
use native.Mathlib.Omega.{arith}
use native.Mathlib.Decide.{dec_lt, ℕ_discrete}
use lib.ListN.{length, get_or, drop, replicate, length-take, length-drop, get_or-append}
use lib.Seq.{get_or-take, get_or-drop, ext_get_or}
use Rattle.logger.specs.SameStores.{entry_words, SameStores, AcceptedAlike, SameRuns}
use Rattle.logger.specs.AnswersTo.{answers_to}
use Rattle.operations.specs.Built.{Built, built_number, built_result}
use Rattle.operations.specs.Handles.{Call, answer_to, Books, opened_books, after, run}
use Rattle.std.specs.Prelude.{Ok}
use Rattle.store.specs.Layout.{heading_length, used_place, used, entries_start}
use Rattle.store.specs.Open.{opening, opened_words}
use Rattle.store.specs.SoundParts.{Sound}
use Rattle.terms.specs.declared.limits.Limits.{Limits}
use Rattle.operations.proofs.HandleLaw.{opened_kept}
use Rattle.operations.proofs.RunLater.{call_later, run_later}
use Rattle.store.proofs.OpenAccepts.{accepts}
use Rattle.store.proofs.OpenedWords.{opened_length}
use Rattle.store.proofs.SoundFacts.{used_fits}
use Rattle.store.proofs.StoreWords.{fields_agree, questions_agree, orders_agree, list_agrees}
use Rattle.logger.proofs.CallSame.{AnsweredSame, result_same, number_same}
use Rattle.logger.proofs.FaultSame.{fault_same}
use Rattle.logger.proofs.SameEntries.{SameEntries}

-- ---- the opening
-- heading and list are the same, and only the number of zeros behind them differs
opened_same : (n order : ℕ) (list : List ℕ) (words words' : ℕ) → 2 * (length list / 2) ≡ length list
    → SameEntries (opened_words n order list words) (opened_words n order list words')
unfolding opened_words
opened_same n order list words words' even =
    let front : List ℕ = n ∷ length list / 2 ∷ 0 ∷ order ∷ list in
    let behind : ℕ → List ℕ = λ w. replicate (w - (heading_length + length list)) 0 in
    record {
      agree = record {
        word = λ k h _.
            let in_front : k < length front = omega arith in
            get_or-append front (behind words') 0 k in_front ∙ sym (get_or-append front (behind words) 0 k in_front);
      };
      same_used = refl;
    }

-- ---- a call, and a list of calls
-- two books, each sound within its limits, with the same entries
record Alike (limits limits' : Limits) (b b' : Books) : Type 0 where
  sound : Sound limits b.words
  sound' : Sound limits' b'.words
  entries : SameEntries b.words b'.words

-- a call's outcomes on such books are the same in this of their answers
abbrev EachSame : {A : Type 0} → (Built → A) → Limits → Limits → Type 0
EachSame of limits limits' = (b b' : Books) → Alike limits limits' b b' → (c : Call) → AnsweredSame of (answer_to limits b.words c) (answer_to limits' b'.words c)

module _ {A : Type 0} (of : Built → A) (limits limits' : Limits) (each : EachSame of limits limits') where
  run_same : (calls : List Call) (b b' : Books) → Alike limits limits' b b' → AcceptedAlike limits limits' b b' calls
      → (map of (answers_to limits b calls) ≡ map of (answers_to limits' b' calls)) × Alike limits limits' (run limits b calls) (run limits' b' calls)
  unfolding answers_to run
  run_same [] b b' a e = (refl, a)
  run_same (c ∷ cs) b b' a e =
      let now = (each b b' a c).same (cc) in
      let next : Alike limits limits' (after limits b c) (after limits' b' c) =
      record { sound = (call_later a.sound c).sound; sound' = (call_later a.sound' c).sound; entries = now.1 } in
      let rest = run_same cs (after limits b c) (after limits' b' c) next (cc) in
      (ap₂ ◌∷◌ now.0 rest.0, rest.1)

results_same : (limits limits' : Limits) → EachSame built_result limits limits'
results_same limits limits' b b' a c = result_same a.sound a.sound' a.entries c

numbers_same : (limits limits' : Limits) → limits.terms.steps ≡ limits'.terms.steps → EachSame built_number limits limits'
numbers_same limits limits' steps b b' a c = number_same a.sound a.sound' a.entries c (fault_same a.entries limits limits' steps c)

-- ---- the words
entry_words_same : {limits limits' : Limits} {s s' : List ℕ} → Sound limits s → Sound limits' s' → SameEntries s s' → entry_words s ≡ entry_words s'
unfolding entry_words
entry_words_same {s = s} {s'} snd snd' same =
    let start : entries_start s' ≡ entries_start s = omega (arith, questions_agree same.agree) in
    let long : length (entry_words s) ≡ 3 * used s =
    omega (arith, length-take (3 * used s) (drop (entries_start s) s), length-drop (entries_start s) s, used_fits snd) in
    let long' : length (entry_words s') ≡ 3 * used s' =
    omega (arith, length-take (3 * used s') (drop (entries_start s') s'), length-drop (entries_start s') s', used_fits snd') in
    ext_get_or 0 (entry_words s) (entry_words s') (omega (arith, same.same_used)) (λ k h.
    get_or-take (3 * used s) (drop (entries_start s) s) k 0 (omega arith) ∙ get_or-drop (entries_start s) s k 0
    ∙ sym (same.agree.word (entries_start s + k) (omega arith) (omega arith))
    ∙ ap (λ x. get_or s' (x + k) 0) (sym start)
    ∙ sym (get_or-take (3 * used s') (drop (entries_start s') s') k 0 (omega (arith, same.same_used)) ∙ get_or-drop (entries_start s') s' k 0))

stores_same : {limits limits' : Limits} {b b' : Books} → Alike limits limits' b b' → SameStores b.words b'.words
stores_same a =
    let agree = a.entries.agree in
    record {
      same_fields = sym (fields_agree agree);
      same_question_count = sym (questions_agree agree);
      same_used = sym a.entries.same_used;
      same_order = sym (orders_agree agree);
      same_list = sym (list_agrees agree a.sound.list_in (omega (arith, a.sound'.list_in, questions_agree agree)));
      same_entries = entry_words_same a.sound a.sound' a.entries;
    }

-- every word, where there are as many: the unused ones are zeros
words_same : {limits limits' : Limits} {b b' : Books} → Alike limits limits' b b' → length b.words ≡ length b'.words → b.words ≡ b'.words
words_same {b = b} {b'} a long =
    let s = b.words in
    let s' = b'.words in
    let same = a.entries in
    ext_get_or 0 s s' long (λ k _. elim (ℕ_discrete k used_place) [
      | yes d ↦ ap (λ x. get_or s x 0) d ∙ sym same.same_used ∙ ap (λ x. get_or s' x 0) (sym d)
      | no n ↦ elim (dec_lt k (entries_start s + 3 * used s)) [
        | yes l ↦ sym (same.agree.word k l n)
        | no l ↦ a.sound.unused_zero k (omega arith) ∙ sym (a.sound'.unused_zero k (omega (arith, same.same_used, questions_agree same.agree)))
      ]
    ])

-- ---- the theorem
-- any n, order and list, lent stores of any two lengths, opened at any two limits
module _ (limits limits' : Limits) (n order : ℕ) (list s s' : List ℕ)
    (e : opening limits n order list (length s) ≡ Ok tt) (e' : opening limits' n order list (length s') ≡ Ok tt) where
  abbrev books : Books
  books = opened_books n order list (length s)

  abbrev books' : Books
  books' = opened_books n order list (length s')

  opened_alike : Alike limits limits' books books'
  opened_alike = record {
    sound = (opened_kept limits n order list s e).sound;
    sound' = (opened_kept limits' n order list s' e').sound;
    entries = opened_same n order list (length s) (length s') (accepts limits n order list (length s) e).even;
  }

  pub same_calls : (calls : List Call) → AcceptedAlike limits limits' books books' calls → SameRuns limits limits' books books' calls
  same_calls calls alike =
      let r = run_same built_result limits limits' (results_same limits limits') calls books books' opened_alike alike in
      record { same_results = r.0; same_stores = stores_same r.1 }

  -- At one limit of steps the numbers are the same too: those of a table and of handles read nothing else that may differ, and no call answers 22.
  pub same_numbers : limits.terms.steps ≡ limits'.terms.steps → (calls : List Call) → AcceptedAlike limits limits' books books' calls
      → map built_number (answers_to limits books calls) ≡ map built_number (answers_to limits' books' calls)
  same_numbers steps calls alike =
      (run_same built_number limits limits' (numbers_same limits limits' steps) calls books books' opened_alike alike).0

  -- Where the lengths are the same too, so is every word: the unused ones are zeros.
  pub same_words : length s ≡ length s' → (calls : List Call) → AcceptedAlike limits limits' books books' calls → (run limits books calls).words ≡ (run limits' books' calls).words
  same_words long calls alike =
      let a = (run_same built_result limits limits' (results_same limits limits') calls books books' opened_alike alike).1 in
      words_same a ((run_later books opened_alike.sound calls).length_kept ∙ opened_length n order list (length s) (accepts limits n order list (length s) e).fits
      ∙ long ∙ sym ((run_later books' opened_alike.sound' calls).length_kept ∙ opened_length n order list (length s') (accepts limits' n order list (length s') e').fits))
