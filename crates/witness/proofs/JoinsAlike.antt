-- Two rules joined both ways round have one handle, by the handle law: and is alike in truth either way round.
use Prim.Native.Nat.{ℕ}
use mathlib.Core.Path.{◌≡◌, refl, sym, ap₂, ◌∙◌}
use mathlib.Core.Bool.{Bool, true, false, ◌&&◌}
use mathlib.Core.List.{List, [], ◌∷◌}
use lib.ListN.{length}
use Rattle.operations.specs.Built.{Built}
use Rattle.std.specs.Prelude.{Ok, Err, None}
use Rattle.operations.specs.Handles.{Call, build, join, answer_to, Rule, Pair, pair, first_ledger, rule_of, rule_of_call, enter, Books, opened_books, after, run, In, newest, older}
use Rattle.operations.specs.Kept.{Kept}
use Rattle.terms.specs.declared.limits.Limits.{Limits}
use Rattle.store.specs.Opened.{Opened}
use Rattle.store.specs.Open.{opening, opened_words, open_store}
use Rattle.store.specs.Open as spec
use Rattle.store.specs.Outcome.{Outcome, outcome}
use Rattle.tables.specs.Rows.{rule_meaning}
use Rattle.terms.specs.Meaning.{Valuation}
use Rattle.witness.specs.Joined.{Joins, SameHandles, after_opening, after_building, joined_both_ways}
use Rattle.operations.proofs.BuiltCases.{built_cases}
use Rattle.operations.proofs.HandleLaw.{rule_is_meaning, run_kept, handle_law}
use Rattle.operations.proofs.StandingDiagrams.{stands_means}

and_turned : (x y : Bool) → (x && y) ≡ (y && x)
and_turned true true = refl
and_turned true false = refl
and_turned false true = refl
and_turned false false = refl

-- ---- the ledger
-- an accepted call's pair is entered
entered : (ps : List Pair) (r : Rule) (a : Built) (h : ℕ) → a ≡ Ok h → In (pair h r) (enter ps r a)
entered ps r a h e = rw e newest

-- and the older pairs stay
stays : (ps : List Pair) (r : Rule) (a : Built) (h : ℕ) → a ≡ Ok h → (p : Pair) → In p ps → In p (enter ps r a)
stays ps r a h e p i = rw e (older i)

-- the rule of a handle in the ledger is as its pair says, whichever pair is the latest
known : {limits : Limits} {b : Books} → Kept limits b → (h : ℕ) (r : Rule) → In (pair h r) b.ledger
    → (v : Valuation) → rule_of b.ledger b.words h v ≡ r v
known k h r i v = sym (rule_is_meaning k h v) ∙ stands_means k.sound (k.each (pair h r) i) v

-- ---- the five calls
module _ (limits : Limits) (n order : ℕ) (list s first second : List ℕ) (e : opening limits n order list (length s) ≡ Ok tt) (a b c d : ℕ) where
  abbrev books₀ : Books
  books₀ = opened_books n order list (length s)

  abbrev books₁ : Books
  books₁ = after limits books₀ (build first)

  abbrev books₂ : Books
  books₂ = after limits books₁ (build second)

  abbrev books₃ : Books
  books₃ = after limits books₂ (join a b)

  abbrev answer_at : Call → Books → Built
  answer_at call x = (answer_to limits x.words call).answer

  module _ (e₁ : answer_at (build first) books₀ ≡ Ok a) (e₂ : answer_at (build second) books₁ ≡ Ok b)
      (e₃ : answer_at (join a b) books₂ ≡ Ok c) (e₄ : answer_at (join b a) books₃ ≡ Ok d) where
    kept₂ : Kept limits books₂
    unfolding run
    kept₂ = run_kept limits n order list s e (build first ∷ build second ∷ [])

    kept₃ : Kept limits books₃
    unfolding run
    kept₃ = run_kept limits n order list s e (build first ∷ build second ∷ join a b ∷ [])

    first_in : In (pair a (rule_meaning first)) books₂.ledger
    first_in = stays books₁.ledger (rule_meaning second) (answer_at (build second) books₁) b e₂ (pair a (rule_meaning first))
        (entered first_ledger (rule_meaning first) (answer_at (build first) books₀) a e₁)

    second_in : In (pair b (rule_meaning second)) books₂.ledger
    second_in = entered books₁.ledger (rule_meaning second) (answer_at (build second) books₁) b e₂

    abbrev forward : Rule
    forward = rule_of_call books₂.ledger books₂.words (join a b)

    abbrev backward : Rule
    backward = rule_of_call books₃.ledger books₃.words (join b a)

    later_in : (p : Pair) → In p books₂.ledger → In p books₃.ledger
    later_in p i = stays books₂.ledger forward (answer_at (join a b) books₂) c e₃ p i

    alike : (v : Valuation) → forward v ≡ backward v
    alike v =
        ap₂ ◌&&◌ (known kept₂ a (rule_meaning first) first_in v) (known kept₂ b (rule_meaning second) second_in v)
        ∙ and_turned (rule_meaning first v) (rule_meaning second v)
        ∙ sym (ap₂ ◌&&◌ (known kept₃ b (rule_meaning second) (later_in (pair b (rule_meaning second)) second_in) v)
        (known kept₃ a (rule_meaning first) (later_in (pair a (rule_meaning first)) first_in) v))

    joins_equal : c ≡ d
    unfolding run
    joins_equal = (handle_law limits n order list s e (build first ∷ build second ∷ join a b ∷ join b a ∷ []) (pair c forward) (pair d backward)
        (stays books₃.ledger backward (answer_at (join b a) books₃) d e₄ (pair c forward)
        (entered books₂.ledger forward (answer_at (join a b) books₂) c e₃))
        (entered books₃.ledger backward (answer_at (join b a) books₃) d e₄)).1 alike

-- ---- a claim about what follows a call, which is accepted or refused
module _ (P : Outcome Joins → Type 0) where
  by_opened : (limits : Limits) (n order : ℕ) (list s : List ℕ) (rest : List ℕ → Outcome Joins)
      → (opening limits n order list (length s) ≡ Ok tt → P (rest (opened_words n order list (length s)))) → P (outcome None s)
      → P (after_opening (open_store limits n order list s) rest)
  unfolding open_store after_opening
  by_opened limits n order list s rest goes_on stops = go (opening limits n order list (length s)) refl
    where
      go : (o : Opened) → opening limits n order list (length s) ≡ o → P (after_opening (spec.opened o n order list s) rest)
      go (Ok tt) e = goes_on e
      go (Err f) e = stops

  by_built : (o : Outcome Built) (rest : ℕ → List ℕ → Outcome Joins)
      → ((h : ℕ) → o.answer ≡ Ok h → P (rest h o.words)) → P (outcome None o.words) → P (after_building o rest)
  unfolding after_building
  by_built o rest goes_on stops = built_cases P o.answer (λ h. rest h o.words) (λ f. outcome None o.words) goes_on (λ f _. stops)

-- ---- the five calls, as the definition has them
abbrev Alike : Outcome Joins → Type 0
Alike o = SameHandles o.answer

pub joins_alike : (limits : Limits) (n order : ℕ) (list first second s : List ℕ) → SameHandles (joined_both_ways limits n order list first second s).answer
unfolding joined_both_ways
joins_alike limits n order list first second s =
    by_opened Alike limits n order list s _ (λ e.
    by_built Alike _ _ (λ a e₁.
    by_built Alike _ _ (λ b e₂.
    by_built Alike _ _ (λ c e₃.
    by_built Alike _ _ (λ d e₄.
    joins_equal limits n order list s first second e a b c d e₁ e₂ e₃ e₄) tt) tt) tt) tt) tt
