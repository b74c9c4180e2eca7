-- The list of questions answered no and its state agree: the last that was written is the newest, and each is found at its place.
use Prim.Native.Nat.{ℕ, zero, suc, ◌+◌, ◌≤◌, ◌<◌}
use mathlib.Core.Path.{◌≡◌, refl, sym, ap, ap₂, subst, ◌∙◌}
use mathlib.Core.Logic.{◌≢◌}
use mathlib.Core.Bool.{Bool, true, false, and-false}
use mathlib.Core.List.{List, ◌∷◌}
use native.Mathlib.Omega.{arith}
use native.Mathlib.Decide.{ℕ_discrete}
use native.Mathlib.Numerals.{add-one}
use lib.ListN.{length, get_or, set, take, length-take}
use lib.Seq.{get_or-set_same, get_or-set_other}
use Rattle.std.proofs.lemmas.List.{get_or-take, get_or_default}
use Rattle.terms.specs.Words.{equation, word_of}
use Rattle.terms.specs.declared.term.Equation.{Equation}
use Rattle.facts.specs.declared.record.Facts.{Facts}
use Rattle.facts.specs.declared.noes.WordPair.{WordPair}
use Rattle.facts.specs.Least.{All}
use Rattle.facts.specs.Needs.{CanJoin, HasPlaces}
use Rattle.facts.specs.declared.noes.Noes.{Noes}
use Rattle.facts.specs.Record.{questions_in, field_places, most_noes, question_in, noes_in, Small}
use Rattle.terms.specs.Limits.{most_count}
use Rattle.facts.specs.State.{Classes, settled, none_settled}
use Rattle.terms.proofs.TermWords.{term_of_word_of}

abbrev no_pair : WordPair
no_pair = record { left = 0; right = 0 }

-- ---- a question answered no
noes_in_set : (pairs : List WordPair) (i : ℕ) (w : WordPair) (k : ℕ) → k ≤ i → noes_in (set pairs i w) k ≡ noes_in pairs k
unfolding noes_in
noes_in_set pairs i w zero h = refl
noes_in_set pairs i w (suc k) h =
    let n : k ≢ i = λ e. omega arith in
    rw (get_or-set_other pairs i k w no_pair n, noes_in_set pairs i w k (omega arith)) refl

-- one question more, at the place after the last
pub listed_no : (n : Noes) (q : Equation) → Small most_count q → length n.pairs ≡ most_noes → n.count < most_noes
    → {w : WordPair} → w.left ≡ word_of q.left → w.right ≡ word_of q.right
    → questions_in (record { pairs = set n.pairs n.count w; count = n.count + 1 }) ≡ q ∷ questions_in n
unfolding noes_in
listed_no n q small l h {w} el er =
    rw (add-one, get_or-set_same n.pairs n.count w no_pair (omega arith), written, noes_in_set n.pairs n.count w n.count (omega arith)) refl
  where
    written : question_in w ≡ q
    written =
        rw (el, er) (ap₂ equation (term_of_word_of q.left (omega (arith, small.left_in))) (term_of_word_of q.right (omega (arith, small.right_in))))

-- ---- the questions answered no, one after the other
-- the first k of them are not settled by some classes
module _ (pairs : List WordPair) (c : Classes) where
  abbrev pub PassedNoes : ℕ → Type 0
  PassedNoes k = none_settled c (noes_in pairs k) ≡ true

  some_settled : (k n : ℕ) → settled c (question_in (get_or pairs k no_pair)) ≡ true → k < n → none_settled c (noes_in pairs n) ≡ false
  unfolding noes_in
  some_settled k zero t h = absurd (omega arith)
  some_settled k (suc n) t h = elim (ℕ_discrete k n) [
    | yes e ↦ rw (← e, t) refl
    | no d ↦ rw (some_settled k n t (omega arith), and-false) refl
  ]

-- ---- the part of the list that is gone through
all_at : (P : Equation → Type 0) (pairs : List WordPair) (n k : ℕ) → All P (noes_in pairs n) → k < n → P (question_in (get_or pairs k no_pair))
unfolding noes_in
all_at P pairs zero k a h = absurd (omega arith)
all_at P pairs (suc n) k a h = elim (ℕ_discrete k n) [
  | yes e ↦ subst (λ j. P (question_in (get_or pairs j no_pair))) (sym e) a.0
  | no d ↦ all_at P pairs n k a.1 (omega arith)
]

pub passed_none : (pairs : List WordPair) (c : Classes) → PassedNoes pairs c 0
unfolding noes_in
passed_none pairs c = refl

-- what is gone through are the first `count` pairs of the array
module _ (n : Noes) {items : List WordPair} (listed : items ≡ take n.count n.pairs) where
  size : length n.pairs ≡ most_noes → n.count ≤ most_noes → length items ≡ n.count
  size l few = ap length listed ∙ length-take n.count n.pairs ∙ omega arith

  module _ {k : ℕ} (h : k < length items) (d : WordPair) {q : Equation} (eq : q ≡ question_in (get_or items k d)) where
    below : k < n.count
    below = omega (arith, length-take n.count n.pairs, ap length listed)

    read : q ≡ question_in (get_or n.pairs k no_pair)
    read =
        eq ∙ ap (λ xs. question_in (get_or xs k d)) listed
        ∙ ap question_in (get_or-take n.count n.pairs k d below ∙ get_or_default n.pairs k d no_pair (omega (arith, length-take n.count n.pairs, ap length listed)))

    module _ (c : Classes) {b : Bool} (e : b ≡ settled c q) where
      tested : settled c (question_in (get_or n.pairs k no_pair)) ≡ b
      tested = ap (settled c) (sym read) ∙ sym e

      pub passed_next : PassedNoes n.pairs c k → b ≡ false → PassedNoes n.pairs c (k + 1)
      unfolding noes_in
      passed_next p t = rw (add-one, tested, t) p

      pub settled_found : b ≡ true → false ≡ none_settled c (questions_in n)
      settled_found t = sym (some_settled n.pairs c k n.count (tested ∙ t) below)

    -- a question answered no can be tested against a join
    pub raised_places : {f : Facts} {by : ℕ} → CanJoin f by → f.noes ≡ n → length f.places ≡ field_places → HasPlaces f.places q by
    raised_places {f} {by} can e l =
        let s : Small most_count q =
        subst (Small most_count) (sym read) (all_at (Small most_count) n.pairs n.count k (subst (λ m. All (Small most_count) (questions_in m)) e can.within.noes_small) below) in
        record {
          left = record { whole = l; field_in = s.left_in; fits = omega (arith, can.within.offset_in q.left.field.0 s.left_in, s.left_steps, can.raised_little) };
          right = record { whole = l; field_in = s.right_in; fits = omega (arith, can.within.offset_in q.right.field.0 s.right_in, s.right_steps, can.raised_little) };
        }
