-- Document 000's Definition 28: a diagram is in normal form if none of these rules applies in it, at its root or within. Each rule is quoted with its left side and its condition;
-- what it rewrites to doesn't matter here. Rules 1 and 2, ITE(⊤, T1, T2) and ITE(⊥, T1, T2), speak of guards that 82 shuts out.
use Rattle.std.specs.Prelude.{ℕ, ◌≡◌, Bool, true, ◌||◌, ◌⊎◌, eqb}
use Rattle.terms.specs.declared.term.Equation.{Equation}
use Rattle.terms.specs.declared.term.Field.{Field}
use Rattle.terms.specs.Order.{fields_first, before}
use Rattle.normal_form.specs.Tree.{Tree, leaf, ite}

-- the order of Definition 27, whatever order a store names
abbrev pub Precedes : Equation → Equation → Type 0
Precedes f g = before fields_first f g ≡ true

-- "y occurs in g", on either side
abbrev pub names : ℕ → Equation → Bool
names y g = eqb g.left.field.0 y || eqb g.right.field.0 y

abbrev pub Names : Field → Equation → Type 0
Names y g = names y.0 g ≡ true

-- a part that is ITE(h, T1, T2) with such an h
abbrev pub RootAsks : (Equation → Type 0) → Tree → Type 0
RootAsks P (leaf b) = ⊥
RootAsks P (ite h y n) = P h

-- some equation with this property stands anywhere in a diagram: C[g]
abbrev pub SomeAsks : (Equation → Type 0) → Tree → Type 0
SomeAsks P (leaf b) = ⊥
SomeAsks P (ite h y n) = P h ⊎ SomeAsks P y ⊎ SomeAsks P n

-- a rule applies at ITE(g, y, n)
pub data RuleAt (g : Equation) (y n : Tree) : Type 0 where
  -- 3. ITE(g, T, T)
  rule_3 : y ≡ n → RuleAt g y n
  -- 4. ITE(g, ITE(g, T1, T2), T3)
  rule_4 : RootAsks (λ h. h ≡ g) y → RuleAt g y n
  -- 5. ITE(g, T1, ITE(g, T2, T3))
  rule_5 : RootAsks (λ h. h ≡ g) n → RuleAt g y n
  -- 6. ITE(g1, ITE(g2, T1, T2), T3) provided g1 ≻ g2
  rule_6 : RootAsks (λ h. Precedes h g) y → RuleAt g y n
  -- 7. ITE(g1, T1, ITE(g2, T2, T3)) provided g1 ≻ g2
  rule_7 : RootAsks (λ h. Precedes h g) n → RuleAt g y n
  -- 8'. ITE(S^m(y) = S^n(x), C[g], T) provided y occurs in g and S^m(y) = S^n(x) ≺ g; C is any diagram that is simplified, as 82 sees to
  rule_8 : SomeAsks (λ h. Names g.left.field h × Precedes g h) y → RuleAt g y n

-- a rule applies in a diagram, at its root or within
abbrev pub Applies : Tree → Type 0
Applies (leaf b) = ⊥
Applies (ite g y n) = RuleAt g y n ⊎ Applies y ⊎ Applies n
