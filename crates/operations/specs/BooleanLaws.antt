-- Laws of Boolean algebra, worked out by calls (document 01, "The handle laws").
use Rattle.std.specs.Prelude.{ℕ, ◌≡◌, Bool, true, false, cond, not, ◌&&◌, Ok}
use Rattle.operations.specs.Handles.{Call, negate, join, choose, answer_to, Rule, pair, Books, after, In}
use Rattle.terms.specs.declared.limits.Limits.{Limits}

-- "formulas of letters, never, always, not, and, if-then-else"; the letters are numbered
pub data Formula : Type 0 where
  letter : ℕ → Formula
  never : Formula
  always : Formula
  not_of : Formula → Formula
  and_of : Formula → Formula → Formula
  if_of : Formula → Formula → Formula → Formula

-- a formula's truth, by "the truth of the letters"
abbrev pub formula_truth : (ℕ → Bool) → Formula → Bool
formula_truth letters (letter x) = letters x
formula_truth letters never = false
formula_truth letters always = true
formula_truth letters (not_of f) = not (formula_truth letters f)
formula_truth letters (and_of f g) = formula_truth letters f && formula_truth letters g
formula_truth letters (if_of f g e) = cond (formula_truth letters f) (formula_truth letters g) (formula_truth letters e)

-- "A law of Boolean algebra is any two formulas ... that come out alike whatever the truth of the letters."
abbrev pub BooleanLaw : Formula → Formula → Type 0
BooleanLaw f g = (letters : ℕ → Bool) → formula_truth letters f ≡ formula_truth letters g

-- "Worked out by calls of the list, all accepted": from the books at the start calls led to these books, and a formula has this handle. A part may
-- serve twice, the parts may be worked out in any order, and other calls may come between.
pub data Worked (limits : Limits) (letters : ℕ → ℕ) (start : Books) : Formula → ℕ → Books → Type 0 where
  -- "Let each letter be a handle already in the ledger, the same in both."; "a letter or leaf by itself is its handle"
  is_letter : (x : ℕ) {r : Rule} → In (pair (letters x) r) start.ledger → Worked limits letters start (letter x) (letters x) start
  is_never : Worked limits letters start never 0 start
  is_always : Worked limits letters start always 1 start
  -- each call is accepted
  is_not : {f : Formula} {a h : ℕ} {b : Books} → Worked limits letters start f a b
      → (answer_to limits b.words (negate a)).answer ≡ Ok h
      → Worked limits letters start (not_of f) h (after limits b (negate a))
  is_and : {f g : Formula} {a c h : ℕ} {b : Books} → Worked limits letters start f a b → Worked limits letters start g c b
      → (answer_to limits b.words (join a c)).answer ≡ Ok h
      → Worked limits letters start (and_of f g) h (after limits b (join a c))
  is_if : {f g e : Formula} {a c d h : ℕ} {b : Books} → Worked limits letters start f a b → Worked limits letters start g c b → Worked limits letters start e d b
      → (answer_to limits b.words (choose a c d)).answer ≡ Ok h
      → Worked limits letters start (if_of f g e) h (after limits b (choose a c d))
  -- any other call of the list
  meanwhile : {f : Formula} {h : ℕ} {b : Books} → Worked limits letters start f h b → (c : Call) → Worked limits letters start f h (after limits b c)
