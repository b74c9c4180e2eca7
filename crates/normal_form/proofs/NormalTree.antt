-- A diagram whose parts ask later questions, differ, and don't name the left field of a yes again is in normal form: no rule of Definition 28 applies in it. Every path of
-- it has facts in order, so some sheet follows it, and both leaves are reached unless it is a leaf itself.
use Prim.Native.Nat.{◌≤◌}
use mathlib.Core.Path.{◌≡◌, refl, sym, ap, ◌∙◌}
use mathlib.Core.Bool.{Bool, true, false, false≢true, cond, or-true}
use mathlib.Core.Logic.{◌≢◌, ◌⊎◌, inl, inr}
use native.Mathlib.Omega.{arith}
use native.Mathlib.Decide.{dec_lt}
use borrow.Author.Tests.{eq-eqb}
use Rattle.facts.specs.declared.fact.Fact.{Fact}
use Rattle.facts.specs.Facts.{fact, Fits}
use Rattle.terms.specs.declared.term.Equation.{Equation}
use Rattle.terms.specs.Meaning.{Valuation, truth}
use Rattle.terms.proofs.Cases.{by_test}
use Rattle.terms.proofs.QuestionOrder.{lex_more, fields_first_strict_total}
use Rattle.normal_form.specs.KeptTable.{Asked}
use Rattle.normal_form.specs.Paths.{Path, facts_of, end_of, followed}
use Rattle.normal_form.specs.Rules.{Precedes, Names, RootAsks, SomeAsks, RuleAt, rule_3, rule_4, rule_5, rule_6, rule_7, rule_8, Applies}
use Rattle.normal_form.specs.Tree.{Tree, leaf, ite, tree_truth}
use Rattle.normal_form.proofs.PathSheet.{Before, All, Ordered, sheet_of, ordered_fits}

-- ---- every equation of a diagram
abbrev pub Each : (Equation → Type 0) → Tree → Type 0
Each P (leaf b) = Unit {0}
Each P (ite g y n) = P g × Each P y × Each P n

module _ (P Q : Equation → Type 0) where
  pub each_map : ((h : Equation) → P h → Q h) → (d : Tree) → Each P d → Each Q d
  each_map f (leaf b) e = tt
  each_map f (ite g y n) e = (f g e.0, each_map f y e.1, each_map f n e.2)

  -- what every equation of a diagram has, and what the one at its root, or some one, has
  root_both : ((h : Equation) → P h → Q h → ⊥) → (d : Tree) → Each P d → RootAsks Q d → ⊥
  root_both f (leaf b) e r = r
  root_both f (ite g y n) e r = f g e.0 r

  some_both : ((h : Equation) → P h → Q h → ⊥) → (d : Tree) → Each P d → SomeAsks Q d → ⊥
  some_both f (leaf b) e s = s
  some_both f (ite g y n) e (inl q) = f g e.0 q
  some_both f (ite g y n) e (inr (inl s)) = some_both f y e.1 s
  some_both f (ite g y n) e (inr (inr s)) = some_both f n e.2 s

  -- some equation has both
  pub some_and : (d : Tree) → Each P d → SomeAsks Q d → SomeAsks (λ h. Q h × P h) d
  some_and (leaf b) e s = s
  some_and (ite g y n) e (inl q) = inl (q, e.0)
  some_and (ite g y n) e (inr (inl s)) = inr (inl (some_and y e.1 s))
  some_and (ite g y n) e (inr (inr s)) = inr (inr (some_and n e.2 s))

-- if no equation has a property, each lacks it
pub none_each : (P : Equation → Type 0) (d : Tree) → (SomeAsks P d → ⊥) → Each (λ h. P h → ⊥) d
none_each P (leaf b) n = tt
none_each P (ite g y m) n = (λ p. n (inl p), none_each P y (λ s. n (inr (inl s))), none_each P m (λ s. n (inr (inr s))))

-- ---- the order of questions
pub not_before_itself : (g : Equation) → Precedes g g → ⊥
not_before_itself g e = false≢true (sym (fields_first_strict_total.irreflexive g) ∙ e)

not_both_ways : (g h : Equation) → Precedes g h → Precedes h g → ⊥
not_both_ways g h e d = not_before_itself g (fields_first_strict_total.transitive g h g e d)

-- left fields are compared first
left_rises : (g h : Equation) → Precedes g h → g.left.field.0 ≤ h.left.field.0
left_rises g h e = elim (dec_lt h.left.field.0 g.left.field.0) [
  | yes l ↦ absurd (false≢true (sym (lex_more g.left.field.0 h.left.field.0 _ _ l) ∙ e))
  | no l ↦ omega arith
]

-- ---- normal form, in two parts
-- each part asks later questions, and the two differ
abbrev pub Sorted : Tree → Type 0
Sorted (leaf b) = Unit {0}
Sorted (ite g y n) = Asked g × Each (Precedes g) y × Each (Precedes g) n × (y ≢ n) × Sorted y × Sorted n

-- the left field of an equation is named nowhere in its yes part
abbrev pub Unnamed : Equation → Equation → Type 0
Unnamed g h = Names g.left.field h → ⊥

abbrev pub Apart : Tree → Type 0
Apart (leaf b) = Unit {0}
Apart (ite g y n) = Each (Unnamed g) y × Apart y × Apart n

-- a diagram whose root asks later than g asks later than g everywhere
abbrev pub RootAfter : Equation → Tree → Type 0
RootAfter g (leaf b) = Unit {0}
RootAfter g (ite h y n) = Precedes g h

pub after_root : (g : Equation) (d : Tree) → Sorted d → RootAfter g d → Each (Precedes g) d
after_root g (leaf b) s r = tt
after_root g (ite h y n) s r =
    let later : (k : Equation) → Precedes h k → Precedes g k = λ k. fields_first_strict_total.transitive g h k r in
    (r, each_map (Precedes h) (Precedes g) later y s.1, each_map (Precedes h) (Precedes g) later n s.2)

-- No rule applies.
pub no_rule : (d : Tree) → Sorted d → Apart d → Applies d → ⊥
no_rule (leaf b) s a r = r
no_rule (ite g y n) s a (inl r) = at_root r
  where
    at_root : RuleAt g y n → ⊥
    at_root (rule_3 e) = s.3 e
    at_root (rule_4 r) = root_both (Precedes g) (λ h. h ≡ g) (λ h p e. not_before_itself g (rw e at p)) y s.1 r
    at_root (rule_5 r) = root_both (Precedes g) (λ h. h ≡ g) (λ h p e. not_before_itself g (rw e at p)) n s.2 r
    at_root (rule_6 r) = root_both (Precedes g) (λ h. Precedes h g) (not_both_ways g) y s.1 r
    at_root (rule_7 r) = root_both (Precedes g) (λ h. Precedes h g) (not_both_ways g) n s.2 r
    at_root (rule_8 r) = some_both (Unnamed g) (λ h. Names g.left.field h × Precedes g h) (λ h u e. u e.0) y a.0 r
no_rule (ite g y n) s a (inr (inl r)) = no_rule y s.4 a.1 r
no_rule (ite g y n) s a (inr (inr r)) = no_rule n s.5 a.2 r

-- ---- paths
each_path : (Q : Equation → Type 0) (P : Fact → Type 0) → ((z : Fact) → Q z.question → P z) → (d : Tree) → Each Q d → (p : Path d) → All P (facts_of d p)
each_path Q P f (leaf b) e p = tt
each_path Q P f (ite g y n) e (inl p) = (f (fact g true) e.0, each_path Q P f y e.1 p)
each_path Q P f (ite g y n) e (inr p) = (f (fact g false) e.0, each_path Q P f n e.2 p)

named_by : (g h : Equation) → Unnamed g h → (h.left.field.0 ≢ g.left.field.0) × (h.right.field.0 ≢ g.left.field.0)
named_by g h u =
    let y = g.left.field.0 in
    (λ e. u (simp (eq-eqb h.left.field.0 y e)), λ e. u (simp (eq-eqb h.right.field.0 y e, or-true)))

before_yes : (g : Equation) (z : Fact) → Precedes g z.question × Unnamed g z.question → Before (fact g true) z
before_yes g z e = record {
  left_rises = left_rises g z.question e.0;
  differs = λ d. not_before_itself g (rw (← d) at e.0);
  left_unnamed = λ _. (named_by g z.question e.1).0;
  right_unnamed = λ _. (named_by g z.question e.1).1;
}

before_no : (g : Equation) (z : Fact) → Precedes g z.question → Before (fact g false) z
before_no g z e = record {
  left_rises = left_rises g z.question e;
  differs = λ d. not_before_itself g (rw (← d) at e);
  left_unnamed = λ f. absurd (false≢true f);
  right_unnamed = λ f. absurd (false≢true f);
}

each_and : (P Q : Equation → Type 0) (d : Tree) → Each P d → Each Q d → Each (λ h. P h × Q h) d
each_and P Q (leaf b) e f = tt
each_and P Q (ite g y n) e f = ((e.0, f.0), each_and P Q y e.1 f.1, each_and P Q n e.2 f.2)

ordered_path : (d : Tree) → Sorted d → Apart d → (p : Path d) → Ordered (facts_of d p)
ordered_path (leaf b) s a p = tt
ordered_path (ite g y n) s a (inl p) =
    (s.0, each_path (λ h. Precedes g h × Unnamed g h) (Before (fact g true)) (before_yes g) y (each_and (Precedes g) (Unnamed g) y s.1 a.0) p, ordered_path y s.4 a.1 p)
ordered_path (ite g y n) s a (inr p) = (s.0, each_path (Precedes g) (Before (fact g false)) (before_no g) n s.2 p, ordered_path n s.5 a.2 p)

-- A path's facts are fitted by their sheet.
pub path_fits : (d : Tree) → Sorted d → Apart d → (p : Path d) → Fits (facts_of d p) (sheet_of (facts_of d p))
path_fits d s a p = ordered_fits (facts_of d p) (ordered_path d s a p)

-- A choice of counts that fits a path's facts follows the path.
pub fits_follows : (v : Valuation) (d : Tree) (p : Path d) → Fits (facts_of d p) v → followed v d ≡ p
fits_follows v (leaf b) tt f = refl
fits_follows v (ite g y n) (inl p) f = rw f.0 (ap inl (fits_follows v y p f.1))
fits_follows v (ite g y n) (inr p) f = rw f.0 (ap inr (fits_follows v n p f.1))

-- A diagram's truth is the leaf at the end of the path that is followed.
pub truth_at_end : (v : Valuation) (d : Tree) → tree_truth v d ≡ end_of d (followed v d)
truth_at_end v (leaf b) = refl
truth_at_end v (ite g y n) = by_test (λ t. cond t (tree_truth v y) (tree_truth v n) ≡ end_of (ite g y n) (cond t (inl (followed v y)) (inr (followed v n)))) (truth v g)
    (λ _. truth_at_end v y) (λ _. truth_at_end v n)

-- ---- both leaves
leaf_of_two : (b c d : Bool) → leaf c ≢ leaf d → (b ≡ c) ⊎ (b ≡ d)
leaf_of_two true true d n = inl refl
leaf_of_two false false d n = inl refl
leaf_of_two true false true n = inr refl
leaf_of_two true false false n = absurd (n refl)
leaf_of_two false true false n = inr refl
leaf_of_two false true true n = absurd (n refl)

-- A sorted diagram is a bare leaf, or has a path to either leaf.
pub data Ends (d : Tree) : Type 0 where
  bare : (c : Bool) → d ≡ leaf c → (p : Path d) → end_of d p ≡ c → Ends d
  both : ((b : Bool) → (p : Path d) × (end_of d p ≡ b)) → Ends d

pub ends : (d : Tree) → Sorted d → Ends d
ends (leaf b) s = bare b refl tt refl
ends (ite g y n) s = both (λ b. elim (ends y s.4) [
  | both f ↦ let r = f b in (inl r.0, r.1)
  | bare c e p h ↦ elim (ends n s.5) [
    | both f ↦ let r = f b in (inr r.0, r.1)
    | bare d i q k ↦ elim (leaf_of_two b c d (λ z. s.3 (e ∙ z ∙ sym i))) [ inl x ↦ (inl p, h ∙ sym x) | inr x ↦ (inr q, k ∙ sym x) ]
  ]
])
