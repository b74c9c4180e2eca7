-- The handle law: at each pair's handle stands the finished diagram of its rule. A given handle means what its rule does, so an accepted call adds a
-- pair of that kind; and what stands at a handle stays, whatever is called later.
use Prim.Native.Nat.{ℕ, ◌≤◌}
use mathlib.Core.Path.{◌≡◌, refl, sym, ap, ap₂, ◌∙◌}
use mathlib.Core.Bool.{true, cond, not, ◌&&◌}
use mathlib.Core.List.{List, [], ◌∷◌}
use borrow.Author.Tests.{ltb-true}
use lib.ListN.{length}
use Rattle.operations.specs.Handles.{Call, build, negate, join, choose, answer_to, Pair, pair, rule_of, rule_of_call, Books, first_books, opened_books, after, run, In, newest, older, HandleLaw}
use Rattle.operations.specs.Kept.{AllStand, Kept}
use Rattle.operations.specs.Rests.{Rests}
use Rattle.operations.specs.Stands.{Stands}
use Rattle.std.specs.Prelude.{Ok}
use Rattle.store.specs.Layout.{field_count, is_handle}
use Rattle.store.specs.Meaning.{meaning}
use Rattle.store.specs.Open.{opening, opened_words}
use Rattle.store.specs.SoundParts.{Sound}
use Rattle.terms.specs.declared.limits.Limits.{Limits}
use Rattle.terms.specs.declared.term.Field.{Field}
use Rattle.terms.specs.Meaning.{Valuation}
use Rattle.store.proofs.OpenSound.{opened_sound}
use Rattle.store.proofs.SoundFacts.{sound_says}
use Rattle.store.proofs.Tests.{first_passes, second_passes}
use Rattle.terms.proofs.Cases.{by_eq}
use Rattle.operations.proofs.BuiltCases.{built_cases}
use Rattle.operations.proofs.CallCases.{TestPassed, call_cases}
use Rattle.operations.proofs.MeaningAdded.{Answered, answered_alike, refused_answered, meaning_added}
use Rattle.operations.proofs.RestsOn.{rests_not, rests_and, rests_if, handle_rests, table_rests, rests_fields}
use Rattle.operations.proofs.StandingDiagrams.{stands_later, stands_means, stands_exact, never_stands, always_stands}

-- ---- the rule of a call
-- it rests on the list, where the call's own test passes
module _ {limits : Limits} {s : List ℕ} (snd : Sound limits s) where
  handle_in : (a : ℕ) → is_handle s a ≡ true → Rests s (meaning s a)
  handle_in a t = handle_rests snd a (ltb-true _ _ t)

  pub call_rests : (c : Call) → TestPassed limits s c → Rests s (rule_of_call [] s c)
  unfolding rule_of
  call_rests (build table) t = table_rests limits s table t
  call_rests (negate a) t = rests_not (handle_in a t)
  call_rests (join a b) t =
      rests_and (handle_in a (first_passes (is_handle s a) (is_handle s b) t)) (handle_in b (second_passes (is_handle s a) (is_handle s b) t))
  call_rests (choose a b c) t =
      let two = first_passes (is_handle s a && is_handle s b) (is_handle s c) t in
      rests_if (handle_in a (first_passes (is_handle s a) (is_handle s b) two)) (handle_in b (second_passes (is_handle s a) (is_handle s b) two))
      (handle_in c (second_passes (is_handle s a && is_handle s b) (is_handle s c) t))

-- it is the same by two ledgers that give each handle one truth
module _ (s : List ℕ) (ps qs : List Pair) (v : Valuation) (alike : (h : ℕ) → rule_of ps s h v ≡ rule_of qs s h v) where
  calls_alike : (c : Call) → rule_of_call ps s c v ≡ rule_of_call qs s c v
  calls_alike (build table) = refl
  calls_alike (negate a) = ap not (alike a)
  calls_alike (join a b) = ap₂ ◌&&◌ (alike a) (alike b)
  calls_alike (choose a b c) = λ i. cond (alike a i) (alike b i) (alike c i)

-- ---- the books
with_pair : {s : List ℕ} {ps : List Pair} {q : Pair} → Stands s q.handle q.rule → AllStand s ps → AllStand s (q ∷ ps)
with_pair new old p newest = new
with_pair new old p (older i) = old p i

-- a handle means what its rule does, whether it has a pair or not
rule_means : {limits : Limits} {s : List ℕ} → Sound limits s → (ps : List Pair) → AllStand s ps
    → (h : ℕ) (v : Valuation) → meaning s h v ≡ rule_of ps s h v
unfolding rule_of
rule_means snd [] each h v = refl
rule_means {s = s} snd (p ∷ ps) each h v = by_eq (λ t. meaning s h v ≡ cond t p.rule (rule_of ps s h) v) p.handle h
    (λ d. ap (λ x. meaning s x v) (sym d) ∙ stands_means snd (each p newest) v)
    (λ _. rule_means snd ps (λ q i. each q (older i)) h v)

module _ {limits : Limits} {b : Books} (k : Kept limits b) where
  pub rule_is_meaning : (h : ℕ) (v : Valuation) → meaning b.words h v ≡ rule_of b.ledger b.words h v
  rule_is_meaning = rule_means k.sound b.ledger k.each

  pub call_answered : (c : Call) → Answered limits b.words (rule_of_call b.ledger b.words c) (answer_to limits b.words c)
  unfolding rule_of
  call_answered c =
      let s = b.words in
      call_cases limits s (Answered limits s (rule_of_call b.ledger s c)) (λ f _. refused_answered k.sound f) c
      (λ _ t. answered_alike (λ v. calls_alike s [] b.ledger v (λ h. rule_is_meaning h v) c) (meaning_added k.sound (call_rests k.sound c t)))

-- Each call keeps the books, whatever its arguments, refused or not.
pub kept_after : {limits : Limits} {b : Books} → Kept limits b → (c : Call) → Kept limits (after limits b c)
kept_after {limits} {b} k c =
    let o = answer_to limits b.words c in
    let r = rule_of_call b.ledger b.words c in
    let a = call_answered k c in
    let old : AllStand o.words b.ledger = λ p i. stands_later a.later (k.each p i) in
    record {
      sound = a.later.sound;
      each = built_cases (AllStand o.words) o.answer (λ h. pair h r ∷ b.ledger) (λ f. b.ledger) (λ h e. with_pair (a.stands h e) old) (λ _ _. old);
    }

pub kept_run : {limits : Limits} {b : Books} → Kept limits b → (calls : List Call) → Kept limits (run limits b calls)
unfolding run
kept_run k [] = k
kept_run {limits = limits} {b = b} k (c ∷ cs) = kept_run {b = after limits b c} (kept_after k c) cs

-- ---- the law
pub kept_law : {limits : Limits} {b : Books} → Kept limits b → HandleLaw b.ledger
kept_law k p q i j = stands_exact k.sound (k.each p i) (k.each q j)

-- a rule reads the counts of the n fields only
pub rule_fields : {limits : Limits} {b : Books} → Kept limits b → (p : Pair) → In p b.ledger
    → (v w : Valuation) → ((f : Field) → 1 ≤ f.0 → f.0 ≤ field_count b.words → v f ≡ w f) → p.rule v ≡ p.rule w
rule_fields k p i = rests_fields k.sound (k.each p i).rests

-- "It starts with the pairs 0, never and 1, always.": in any sound store
pub first_kept : {limits : Limits} {s : List ℕ} → Sound limits s → Kept limits (first_books s)
first_kept snd = record { sound = snd; each = with_pair (always_stands snd) (with_pair (never_stands snd) (λ p i. elim i [ ])) }

-- "It starts from a store that open has just accepted, with any n, list and length.", and with any order
module _ (limits : Limits) (n order : ℕ) (list s : List ℕ) (e : opening limits n order list (length s) ≡ Ok tt) where
  pub opened_kept : Kept limits (opened_books n order list (length s))
  opened_kept = first_kept (sound_says limits (opened_words n order list (length s)) (opened_sound limits n order list s e))

  -- the books after any list of calls
  pub run_kept : (calls : List Call) → Kept limits (run limits (opened_books n order list (length s)) calls)
  run_kept = kept_run opened_kept

  pub handle_law : (calls : List Call) → HandleLaw (run limits (opened_books n order list (length s)) calls).ledger
  handle_law calls = kept_law (run_kept calls)
