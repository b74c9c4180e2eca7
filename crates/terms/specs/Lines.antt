-- Simplifying case by case: the five lines of document 000, Definition 24, each a case that leads from a guard to another (document 02, iv).
use Rattle.std.specs.Prelude.{ℕ, ◌+◌, ◌*◌, ◌≡◌, Bool, true, cond, ◌&&◌, ◌||◌, eqb, ltb, List, [], ◌∷◌, Option, Some, None}
use Rattle.terms.specs.declared.term.Field.{Field}
use Rattle.terms.specs.declared.term.Term.{Term}
use Rattle.terms.specs.declared.term.Equation.{Equation}
use Rattle.terms.specs.declared.simplification.Guard.{Guard}
use Rattle.terms.specs.declared.simplification.Guard.TheVariants.{Never, Always, Question}
use Rattle.terms.specs.Words.{field, steps, term, equation}

-- ---- the terms of the lines
-- S^m(x): a field or zero, and m steps
abbrev pub S_times : ℕ → Field → Term
S_times m x = term x (steps m)

-- x: a field or zero itself, with no steps
abbrev pub bare : Field → Term
bare x = S_times 0 x

-- 0
abbrev pub zero_itself : Term
zero_itself = bare (field 0)

-- S(t)
abbrev pub S : Term → Term
S t = S_times (t.steps.0 + 1) t.field

-- r < t (Definition 3): "0 < u for each element u of V"; "S^m(x) < S^n(y) iff x < y or (x ≡ y and m < n)"
unfoldable pub is_before : Term → Term → Bool
is_before r t = ltb r.field.0 t.field.0 || (eqb r.field.0 t.field.0 && ltb r.steps.0 t.steps.0)

abbrev pub Before : Term → Term → Type 0
Before r t = is_before r t ≡ true

-- "either way round"
pub data Way : Type 0 where
  as_written : Way
  turned_round : Way

abbrev pub written : Way → Term → Term → Equation
written as_written l r = equation l r
written turned_round l r = equation r l

-- ---- the cases
-- A case leads from this guard to that one. None leads on from never and always.
pub data Case : Guard → Guard → Type 0 where
  -- x = x → ⊤
  line_1 : (x : Field) → Case (Question (equation (bare x) (bare x))) Always
  -- S(y) = S(x) → y = x
  line_2 : (y x : Term) → Case (Question (equation (S y) (S x))) (Question (equation y x))
  -- S(x) = 0 → ⊥, "either way round"
  line_3 : (x : Term) (w : Way) → Case (Question (written w (S x) zero_itself)) Never
  -- S^(m+1)(x) = x → ⊥ for all m ∈ ℕ, "either way round"
  line_4 : (x : Field) (m : ℕ) (w : Way) → Case (Question (written w (S_times (m + 1) x) (bare x))) Never
  -- r = t → t = r for all r, t ∈ W such that r < t
  line_5 : (r t : Term) → Before r t → Case (Question (equation r t)) (Question (equation t r))

-- the number of a case's line
abbrev pub line_of : {g h : Guard} → Case g h → ℕ
line_of (line_1 x) = 1
line_of (line_2 y x) = 2
line_of (line_3 x w) = 3
line_of (line_4 x m w) = 4
line_of (line_5 r t b) = 5

-- "repeated": any number of cases one after another, in any order
pub data Sequence : Guard → Guard → Type 0 where
  nothing : (g : Guard) → Sequence g g
  first : {g : Guard} (h : Guard) {k : Guard} → Case g h → Sequence h k → Sequence g k

-- the numbers of a sequence's lines, in turn
unfoldable pub line_numbers : {g h : Guard} → Sequence g h → List ℕ
line_numbers (nothing g) = []
line_numbers (first h c s) = line_of c ∷ line_numbers s

-- a sequence of these lines leads from g to h
abbrev pub ByLines : List ℕ → Guard → Guard → Type 0
ByLines ks g h = (s : Sequence g h) × (line_numbers s ≡ ks)

-- every case of a sequence is of line k
abbrev pub Only : ℕ → {g h : Guard} → Sequence g h → Type 0
Only k (nothing g) = Unit {0}
Only k (first h c s) = (line_of c ≡ k) × Only k s

-- line k and no other, any number of times, leads from g to h
abbrev pub Repeated : ℕ → Guard → Guard → Type 0
Repeated k g h = (s : Sequence g h) × Only k s

-- "until none applies"; "A normal form is a term to which no rule applies."
abbrev pub Normal : Guard → Type 0
Normal g = (h : Guard) → Case g h → ⊥

-- ---- a bound on the cases of a sequence
-- A number that falls with each case: line 2 takes four off it, and line 5 one.
unfoldable pub most_cases : Guard → ℕ
most_cases Never = 0
most_cases Always = 0
most_cases (Question e) = 1 + 2 * (e.left.steps.0 + e.right.steps.0) + cond (is_before e.left e.right) 1 0

-- ---- what the code's functions answer
-- line k leads from g to h
abbrev pub ByLine : ℕ → Guard → Guard → Type 0
ByLine k g h = (c : Case g h) × (line_of c ≡ k)

-- whether line k applies to a guard, and what it then gives
abbrev pub Tried : ℕ → Guard → Option Guard → Type 0
Tried k g None = (h : Guard) → ByLine k g h → ⊥
Tried k g (Some h) = ByLine k g h

-- line k, followed until it applies no more
abbrev pub Exhausted : ℕ → Guard → Guard → Type 0
Exhausted k g h = Repeated k g h × Tried k h None

-- whether any line applies to a guard, and what one of them gives
abbrev pub Stepped : Guard → Option Guard → Type 0
Stepped g None = Normal g
Stepped g (Some h) = Case g h
