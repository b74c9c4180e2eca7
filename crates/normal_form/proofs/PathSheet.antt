-- Facts in the order of a normal form's path are fitted by one sheet: a field that no yes speaks of as its left field counts its own number in units of 8,191, and any other counts
-- what that yes says of its right field. Fields are so far apart that a question with other fields is false, and a question with the same fields that is true has the
-- same steps, so it is the same question.
use Prim.Native.Nat.{ℕ, ◌+◌, ◌-◌, ◌*◌, ◌≤◌, ◌<◌}
use mathlib.Core.Path.{◌≡◌, refl, sym, ap, ap₂, ◌∙◌}
use mathlib.Core.Bool.{true, false, cond, ◌&&◌, and-false}
use mathlib.Core.Logic.{◌≢◌}
use mathlib.Core.List.{List, [], ◌∷◌}
use native.Mathlib.Omega.{arith}
use native.Mathlib.Decide.{ℕ_discrete}
use borrow.Author.Tests.{eq-eqb, ne_eqb}
use lib.Dec.{eqb}
use Rattle.facts.specs.declared.fact.Fact.{Fact}
use Rattle.facts.specs.Facts.{Fits}
use Rattle.terms.specs.declared.term.Equation.{Equation}
use Rattle.terms.specs.declared.term.Field.{Field}
use Rattle.terms.specs.Meaning.{Valuation, count, value, truth}
use Rattle.terms.proofs.Cases.{by_test, by_eq}
use Rattle.terms.proofs.SimplifyTruth.{count_field}
use Rattle.terms.proofs.Numbers.{equations_equal}
use Rattle.terms.proofs.SimplifyForm.{smaller_right, bare_side, bare_left}
use Rattle.normal_form.specs.KeptTable.{Asked}
use Rattle.normal_form.specs.Limits.{most_table_steps}

-- ---- what a path of a normal form is like
-- a fact, and one that comes later on a path
pub record Before (x z : Fact) : Type 0 where
  pub left_rises : x.question.left.field.0 ≤ z.question.left.field.0
  pub differs : x.question ≢ z.question
  pub left_unnamed : x.answer ≡ true → z.question.left.field.0 ≢ x.question.left.field.0
  pub right_unnamed : x.answer ≡ true → z.question.right.field.0 ≢ x.question.left.field.0

abbrev pub All : (Fact → Type 0) → List Fact → Type 0
All P [] = Unit {0}
All P (x ∷ xs) = P x × All P xs

-- facts from the root to a leaf
abbrev pub Ordered : List Fact → Type 0
Ordered [] = Unit {0}
Ordered (x ∷ xs) = Asked x.question × All (Before x) xs × Ordered xs

-- ---- the sheet
abbrev spacing : ℕ
spacing = 2 * most_table_steps + 1

-- what a question says of its left field, where its right field counts its number in units
abbrev said : Equation → ℕ
said q = q.right.field.0 * spacing + q.right.steps.0 - q.left.steps.0

pub sheet_of : List Fact → Valuation
sheet_of [] f = f.0 * spacing
sheet_of (x ∷ xs) f = cond (x.answer && eqb x.question.left.field.0 f.0) (said x.question) (sheet_of xs f)

module _ (x : Fact) (xs : List Fact) (f : Field) where
  sheet_here : x.answer ≡ true → x.question.left.field.0 ≡ f.0 → sheet_of (x ∷ xs) f ≡ said x.question
  unfolding sheet_of
  sheet_here a e = rw (a, eq-eqb x.question.left.field.0 f.0 e) refl

  sheet_no : x.answer ≡ false → sheet_of (x ∷ xs) f ≡ sheet_of xs f
  unfolding sheet_of
  sheet_no a = rw a refl

  sheet_other : x.question.left.field.0 ≢ f.0 → sheet_of (x ∷ xs) f ≡ sheet_of xs f
  unfolding sheet_of
  sheet_other n = simp (ne_eqb x.question.left.field.0 f.0 n, and-false)

-- what is taken off the right side is there
enough : (q : Equation) → Asked q → said q + q.left.steps.0 ≡ q.right.field.0 * spacing + q.right.steps.0
enough q a = elim (ℕ_discrete q.right.field.0 0) [
  | yes z ↦ omega (arith, bare_left q a.form z)
  | no n ↦ omega (arith, a.left_steps)
]

-- a field below all left fields counts its own number
low_field : (u : ℕ) (xs : List Fact) → All (λ z. u ≤ z.question.left.field.0) xs → (f : Field) → f.0 < u → sheet_of xs f ≡ f.0 * spacing
unfolding sheet_of
low_field u [] a f l = refl
low_field u (x ∷ xs) a f l = sheet_other x xs f (omega (arith, a.0)) ∙ low_field u xs a.1 f l

-- Any field counts its own number, or what some yes says of its right field.
data Counted (P : Fact → Type 0) (f : Field) (n : ℕ) : Type 0 where
  own_number : n ≡ f.0 * spacing → Counted P f n
  by_fact : (z : Fact) → P z → Asked z.question → z.question.left.field.0 ≡ f.0 → n ≡ said z.question → Counted P f n

counted : (P : Fact → Type 0) (xs : List Fact) → Ordered xs → All P xs → (f : Field) → Counted P f (sheet_of xs f)
unfolding sheet_of
counted P [] o a f = own_number refl
counted P (x ∷ xs) o a f = elim (ℕ_discrete x.question.left.field.0 f.0) [
  | no n ↦ rw (sheet_other x xs f n) (counted P xs o.2 a.1 f)
  | yes e ↦ by_test (λ t. x.answer ≡ t → Counted P f (sheet_of (x ∷ xs) f)) x.answer
      (λ _ t. by_fact x a.0 o.0 e (sheet_here x xs f t e))
      (λ _ t. rw (sheet_no x xs f t) (counted P xs o.2 a.1 f)) refl
]

-- ---- counts of a sheet
count_own : (v : Valuation) (f : Field) → v f ≡ f.0 * spacing → count v f ≡ f.0 * spacing
unfolding count
count_own v f e = by_eq (λ t. cond t 0 (v f) ≡ f.0 * spacing) f.0 0 (λ z. omega arith) (λ _. e)

count_same : (v w : Valuation) (f : Field) → v f ≡ w f → count v f ≡ count w f
unfolding count
count_same v w f e = ap (cond (eqb f.0 0) 0) e

-- a choice of counts that differs only in fields that no question names fits the same facts
fits_same : (v w : Valuation) (xs : List Fact) → All (λ z. (v z.question.left.field ≡ w z.question.left.field) × (v z.question.right.field ≡ w z.question.right.field)) xs
    → Fits xs v → Fits xs w
fits_same v w [] a h = tt
fits_same v w (z ∷ zs) a h =
    let q = z.question in (
      ap₂ (λ m n. eqb (m + q.left.steps.0) (n + q.right.steps.0)) (sym (count_same v w q.left.field a.0.0)) (sym (count_same v w q.right.field a.0.1)) ∙ h.0,
      fits_same v w zs a.1 h.1,
    )

all_map : {P Q : Fact → Type 0} → ((z : Fact) → P z → Q z) → (xs : List Fact) → All P xs → All Q xs
all_map f [] a = tt
all_map f (x ∷ xs) a = (f x a.0, all_map f xs a.1)

-- ---- one fact more, at the root's side
module _ (x : Fact) (xs : List Fact) (o : Ordered (x ∷ xs)) where
  abbrev q : Equation
  q = x.question

  rises : All (λ z. q.left.field.0 ≤ z.question.left.field.0) xs
  rises = all_map (λ z (b : Before x z). b.left_rises) xs o.1

  right_count : (v : Valuation) → v q.right.field ≡ sheet_of xs q.right.field → count v q.right.field ≡ q.right.field.0 * spacing
  right_count v e = count_own v q.right.field (e ∙ low_field q.left.field.0 xs rises q.right.field (smaller_right q o.0.form))

  left_count : (v : Valuation) → count v q.left.field ≡ v q.left.field
  left_count v = count_field v q.left.field (omega (arith, smaller_right q o.0.form))

  yes_true : x.answer ≡ true → truth (sheet_of (x ∷ xs)) q ≡ true
  yes_true t =
      let v = sheet_of (x ∷ xs) in
      eq-eqb (value v q.left) (value v q.right)
      (omega (
        arith,
        left_count v,
        sheet_here x xs q.left.field t refl,
        enough q o.0,
        right_count v (sheet_other x xs q.right.field (omega (arith, smaller_right q o.0.form))),
      ))

  -- a no is false: the left field's count puts it into another unit than the right field's, or z says of it what the no would say
  no_false : value (sheet_of xs) q.left ≢ value (sheet_of xs) q.right
  no_false e = elim (counted (Before x) xs o.2 o.1 q.left.field) [
    | own_number d ↦ omega (arith, left_count v, right, o.0.right_steps, smaller_right q o.0.form)
    | by_fact z b a l d ↦
        let w = z.question in
        let sum : w.right.field.0 * spacing + w.right.steps.0 + q.left.steps.0 ≡ q.right.field.0 * spacing + q.right.steps.0 + w.left.steps.0 =
        omega (arith, left_count v, right, enough w a) in
        let y : q.right.field.0 ≡ w.right.field.0 = omega (arith, o.0.left_steps, o.0.right_steps, a.left_steps, a.right_steps) in
        b.differs (equations_equal q w (sym l) (omega (arith, bare_side q o.0.form, bare_side w a.form)) y
        (omega (arith, bare_side q o.0.form, bare_side w a.form)))
  ]
    where
      v : Valuation
      v = sheet_of xs

      right : count v q.right.field ≡ q.right.field.0 * spacing
      right = right_count v refl

  -- no later question names the left field of a yes
  unnamed : x.answer ≡ true
      → All (λ z. (sheet_of xs z.question.left.field ≡ sheet_of (x ∷ xs) z.question.left.field) × (sheet_of xs z.question.right.field ≡ sheet_of (x ∷ xs) z.question.right.field)) xs
  unnamed t = all_map (λ z (b : Before x z).
      (sym (sheet_other x xs z.question.left.field (λ e. b.left_unnamed t (sym e))), sym (sheet_other x xs z.question.right.field (λ e. b.right_unnamed t (sym e))))) xs o.1

  fits_more : Fits xs (sheet_of xs) → Fits (x ∷ xs) (sheet_of (x ∷ xs))
  fits_more h = by_test (λ t. x.answer ≡ t → (truth (sheet_of (x ∷ xs)) q ≡ x.answer) × Fits xs (sheet_of (x ∷ xs))) x.answer
      (λ _ t. (yes_true t ∙ sym t, fits_same (sheet_of xs) (sheet_of (x ∷ xs)) xs (unnamed t) h))
      (λ _ t.
      let same : sheet_of (x ∷ xs) ≡ sheet_of xs = λ i f. sheet_no x xs f t i in
      (ap (λ (v : Valuation). truth v q) same ∙ ne_eqb (value (sheet_of xs) q.left) (value (sheet_of xs) q.right) no_false ∙ sym t, rw same h)) refl

-- Facts in the order of a normal form's path are fitted by their sheet.
pub ordered_fits : (xs : List Fact) → Ordered xs → Fits xs (sheet_of xs)
ordered_fits [] o = tt
ordered_fits (x ∷ xs) o = fits_more x xs o (ordered_fits xs o.2)
