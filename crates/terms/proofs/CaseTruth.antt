-- Each case by itself keeps the truth under every choice of counts: a term equals itself; a step on both sides changes no comparison; a count and one
-- step or more is neither zero nor the count itself; and an equation says the same the other way round.
use Prim.Native.Nat.{ℕ}
use mathlib.Core.Path.{◌≡◌, refl, sym}
use native.Mathlib.Omega.{arith}
use borrow.Author.Tests.{eq-eqb, ne_eqb}
use Rattle.terms.specs.declared.term.Field.{Field}
use Rattle.terms.specs.declared.term.Term.{Term}
use Rattle.terms.specs.declared.simplification.Guard.{Guard}
use Rattle.terms.specs.Words.{equation, field}
use Rattle.terms.specs.Meaning.{Valuation, count, guard_truth}
use Rattle.terms.specs.Lines.{Before, Way, as_written, turned_round, Case, line_1, line_2, line_3, line_4, line_5}
use Rattle.terms.proofs.SimplifyTruth.{same_test, count_zero, turned_truth}

-- both guards of a case have the same truth
abbrev pub KeepsTruth : Valuation → {g h : Guard} → Case g h → Type 0
KeepsTruth v {g} {h} c = guard_truth v g ≡ guard_truth v h

module _ (v : Valuation) where
  no_count : count v (field 0) ≡ 0
  no_count = count_zero v (field 0) refl

  pub line_1_keeps : (x : Field) → KeepsTruth v (line_1 x)
  line_1_keeps x = eq-eqb _ _ (omega arith)

  pub line_2_keeps : (y x : Term) → KeepsTruth v (line_2 y x)
  line_2_keeps y x = same_test _ _ _ _ (λ e. omega (arith, e)) (λ e. omega (arith, e))

  pub line_3_keeps : (x : Term) (w : Way) → KeepsTruth v (line_3 x w)
  line_3_keeps x as_written = ne_eqb _ _ (λ e. omega (arith, e, no_count))
  line_3_keeps x turned_round = ne_eqb _ _ (λ e. omega (arith, e, no_count))

  pub line_4_keeps : (x : Field) (m : ℕ) (w : Way) → KeepsTruth v (line_4 x m w)
  line_4_keeps x m as_written = ne_eqb _ _ (λ e. omega (arith, e))
  line_4_keeps x m turned_round = ne_eqb _ _ (λ e. omega (arith, e))

  pub line_5_keeps : (r t : Term) (b : Before r t) → KeepsTruth v (line_5 r t b)
  line_5_keeps r t b = sym (turned_truth v (equation r t))

  -- Whatever case leads from one guard to another, the two have the same truth.
  pub case_keeps_truth : {g h : Guard} → Case g h → guard_truth v g ≡ guard_truth v h
  case_keeps_truth (line_1 x) = line_1_keeps x
  case_keeps_truth (line_2 y x) = line_2_keeps y x
  case_keeps_truth (line_3 x w) = line_3_keeps x w
  case_keeps_truth (line_4 x m w) = line_4_keeps x m w
  case_keeps_truth (line_5 r t b) = line_5_keeps r t b
