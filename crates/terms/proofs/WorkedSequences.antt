-- Sequences of cases worked by hand: the lines followed, and the guards between them, each as two term words. Each ends where no case leads on.
use Prim.Native.Nat.{ℕ, zero, suc}
use mathlib.Core.Path.{◌≡◌, refl, ap, subst}
use native.Mathlib.Omega.{arith}
use Rattle.std.specs.Prelude.{List, [], ◌∷◌, ◌++◌, replicate, negsuc}
use Rattle.terms.specs.declared.term.Field.{Field}
use Rattle.terms.specs.declared.simplification.Guard.{Guard}
use Rattle.terms.specs.declared.simplification.Guard.TheVariants.{Never, Always, Question}
use Rattle.terms.specs.Form.{is_number, is_above, is_below}
use Rattle.terms.specs.Simplify.{gap}
use Rattle.terms.specs.Words.{field, equation, term_of}
use Rattle.terms.specs.Lines.{S_times, Case, line_of, is_before, as_written, turned_round, line_1, line_2, line_3, line_4, line_5, nothing, first, line_numbers, ByLine, ByLines, Normal}
use Rattle.terms.proofs.CaseOrForm.{normal_exactly}
use Rattle.terms.proofs.LineTests.{line_1_only, line_4_only}

-- the equation of two term words
abbrev pub words : ℕ → ℕ → Guard
words l r = Question (equation (term_of l) (term_of r))

-- a sequence that stands still, and one that begins with a case to h
ends_at : (g : Guard) → ByLines [] g g
unfolding line_numbers
ends_at g = (nothing g, refl)

leads_to : {g : Guard} (h : Guard) {k : Guard} {ks : List ℕ} (c : Case g h) → ByLines ks h k → ByLines (line_of c ∷ ks) g k
unfolding line_numbers
leads_to h c s = (first h c s.0, ap (λ ks. line_of c ∷ ks) s.1)

-- S3(1) = S(2), words 97 34. Line 2 leads to S2(1) = 2, and line 5 turns it round: 2 = S2(1).
pub s3_1_is_s_2 : ByLines (2 ∷ 5 ∷ []) (words 97 34) (words 2 65)
unfolding is_before
s3_1_is_s_2 =
    leads_to (words 65 2) (line_2 (term_of 65) (term_of 2))
    (leads_to (words 2 65) (line_5 (term_of 65) (term_of 2) refl)
    (ends_at (words 2 65)))

-- Or line 5 first, to S(2) = S3(1), then line 2: the same end,
pub s3_1_is_s_2_turned : ByLines (5 ∷ 2 ∷ []) (words 97 34) (words 2 65)
unfolding is_before
s3_1_is_s_2_turned =
    leads_to (words 34 97) (line_5 (term_of 97) (term_of 34) refl)
    (leads_to (words 2 65) (line_2 (term_of 2) (term_of 65))
    (ends_at (words 2 65)))

-- where no case leads on.
pub two_is_s2_1_normal : Normal (words 2 65)
two_is_s2_1_normal = (normal_exactly (words 2 65)).1 (is_above (omega arith) (omega arith) refl)

-- S2(1) = S2(0), words 65 64: line 2 twice, to 1 = 0.
pub s2_1_is_s2_0 : ByLines (2 ∷ 2 ∷ []) (words 65 64) (words 1 0)
s2_1_is_s2_0 =
    leads_to (words 33 32) (line_2 (term_of 33) (term_of 32))
    (leads_to (words 1 0) (line_2 (term_of 1) (term_of 0))
    (ends_at (words 1 0)))

pub one_is_zero_normal : Normal (words 1 0)
one_is_zero_normal = (normal_exactly (words 1 0)).1 (is_number (omega arith) refl refl)

-- S(1) = S(1), words 33 33: line 2, to 1 = 1, then line 1.
pub s_1_is_s_1 : ByLines (2 ∷ 1 ∷ []) (words 33 33) Always
s_1_is_s_1 =
    leads_to (words 1 1) (line_2 (term_of 1) (term_of 1))
    (leads_to Always (line_1 (field 1))
    (ends_at Always))

-- Line 1 does not apply to them: it is about bare terms.
pub s_1_is_s_1_not_by_1 : (h : Guard) → ByLine 1 (words 33 33) h → ⊥
s_1_is_s_1_not_by_1 h b = omega (arith, line_1_only b.0 b.1)

-- S(1) = S2(1), words 33 65: line 2, to 1 = S(1), then line 4, the other way round.
pub s_1_is_s2_1 : ByLines (2 ∷ 4 ∷ []) (words 33 65) Never
s_1_is_s2_1 =
    leads_to (words 1 33) (line_2 (term_of 1) (term_of 33))
    (leads_to Never (line_4 (field 1) 0 turned_round)
    (ends_at Never))

-- Or line 5 first, to S2(1) = S(1), then line 2, to S(1) = 1, and line 4.
pub s_1_is_s2_1_turned : ByLines (5 ∷ 2 ∷ 4 ∷ []) (words 33 65) Never
unfolding is_before
s_1_is_s2_1_turned =
    leads_to (words 65 33) (line_5 (term_of 33) (term_of 65) refl)
    (leads_to (words 33 1) (line_2 (term_of 33) (term_of 1))
    (leads_to Never (line_4 (field 1) 0 as_written)
    (ends_at Never)))

-- Line 4 does not apply at once: one of its terms is bare.
pub s_1_is_s2_1_not_by_4 : (h : Guard) → ByLine 4 (words 33 65) h → ⊥
s_1_is_s2_1_not_by_4 h b = omega (arith, line_4_only b.0 b.1)

-- 0 = S(0), words 0 32: never by line 3, the other way round,
pub zero_is_s_0_by_3 : ByLines (3 ∷ []) (words 0 32) Never
zero_is_s_0_by_3 =
    leads_to Never (line_3 (term_of 0) turned_round)
    (ends_at Never)

-- by line 4, the other way round,
pub zero_is_s_0_by_4 : ByLines (4 ∷ []) (words 0 32) Never
zero_is_s_0_by_4 =
    leads_to Never (line_4 (field 0) 0 turned_round)
    (ends_at Never)

-- and by line 5, to S(0) = 0, then line 3.
pub zero_is_s_0_turned : ByLines (5 ∷ 3 ∷ []) (words 0 32) Never
unfolding is_before
zero_is_s_0_turned =
    leads_to (words 32 0) (line_5 (term_of 0) (term_of 32) refl)
    (leads_to Never (line_3 (term_of 0) as_written)
    (ends_at Never))

-- S(0) = S2(3), words 32 67: line 2, to 0 = S(3), then line 3, the other way round.
pub s_0_is_s2_3 : ByLines (2 ∷ 3 ∷ []) (words 32 67) Never
s_0_is_s2_3 =
    leads_to (words 0 35) (line_2 (term_of 0) (term_of 35))
    (leads_to Never (line_3 (term_of 3) turned_round)
    (ends_at Never))

-- Or line 5, to S2(3) = S(0), line 2, to S(3) = 0, and line 3.
pub s_0_is_s2_3_turned : ByLines (5 ∷ 2 ∷ 3 ∷ []) (words 32 67) Never
unfolding is_before
s_0_is_s2_3_turned =
    leads_to (words 67 32) (line_5 (term_of 32) (term_of 67) refl)
    (leads_to (words 35 0) (line_2 (term_of 35) (term_of 0))
    (leads_to Never (line_3 (term_of 3) as_written)
    (ends_at Never)))

-- 1 = S2(2), words 1 66: line 5, to S2(2) = 1.
pub one_is_s2_2 : ByLines (5 ∷ []) (words 1 66) (words 66 1)
unfolding is_before
one_is_s2_2 =
    leads_to (words 66 1) (line_5 (term_of 1) (term_of 66) refl)
    (ends_at (words 66 1))

pub s2_2_is_one_normal : Normal (words 66 1)
s2_2_is_one_normal = (normal_exactly (words 66 1)).1 (is_below (omega arith) (omega arith) refl)

-- Its gap is -2.
pub s2_2_is_one_gap : gap (equation (term_of 66) (term_of 1)) ≡ negsuc 1
s2_2_is_one_gap = refl

-- 0 = S5(3), words 0 163: line 3 at once, the other way round, whatever steps are left.
pub zero_is_s5_3 : ByLines (3 ∷ []) (words 0 163) Never
zero_is_s5_3 =
    leads_to Never (line_3 (term_of 131) turned_round)
    (ends_at Never)

-- 1 = S3(1), words 1 97: line 4 at once, the other way round.
pub one_is_s3_1 : ByLines (4 ∷ []) (words 1 97) Never
one_is_s3_1 =
    leads_to Never (line_4 (field 1) 2 turned_round)
    (ends_at Never)

-- 1 = S(1), words 1 33: line 5 compares the steps of one field, and leads to S(1) = 1; then line 4.
pub one_is_s_1_turned : ByLines (5 ∷ 4 ∷ []) (words 1 33) Never
unfolding is_before
one_is_s_1_turned =
    leads_to (words 33 1) (line_5 (term_of 1) (term_of 33) refl)
    (leads_to Never (line_4 (field 1) 0 as_written)
    (ends_at Never))

-- S(0) = 0, words 32 0: line 4 takes it as well as line 3, since x may be zero.
pub s_0_is_zero_by_4 : ByLines (4 ∷ []) (words 32 0) Never
s_0_is_zero_by_4 =
    leads_to Never (line_4 (field 0) 0 as_written)
    (ends_at Never)

-- S^m(x) = S^m(x): line 2 m times, to x = x, then line 1.
pub steps_in_common : (x : Field) (m : ℕ) → ByLines (replicate m 2 ++ (1 ∷ [])) (Question (equation (S_times m x) (S_times m x))) Always
steps_in_common x zero = leads_to Always (line_1 x) (ends_at Always)
steps_in_common x (suc m) =
    subst (λ n. ByLines (2 ∷ replicate m 2 ++ (1 ∷ [])) (Question (equation (S_times n x) (S_times n x))) Always) (omega arith)
    (leads_to _ (line_2 (S_times m x) (S_times m x)) (steps_in_common x m))

-- S1023(0) = S1023(0), words 32736 32736: line 2 1,023 times, then line 1.
pub s1023_0_is_s1023_0 : ByLines (replicate 1023 2 ++ (1 ∷ [])) (words 32736 32736) Always
s1023_0_is_s1023_0 = steps_in_common (field 0) 1023
