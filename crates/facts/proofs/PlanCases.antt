-- A claim about a plan, about whether a question is settled, or about a decision holds if it holds on each outcome with what that outcome says.
use Prim.Native.Nat.{ℕ, ◌-◌, ◌≤◌, ◌<◌}
use mathlib.Core.Path.{◌≡◌}
use mathlib.Core.Logic.{◌≢◌}
use mathlib.Core.Bool.{Bool, true, false, cond, ◌&&◌}
use native.Mathlib.Omega.{arith}
use lib.Dec.{eqb, leb}
use Rattle.terms.specs.declared.term.Equation.{Equation}
use Rattle.facts.specs.declared.decision.Decision.{Decision}
use Rattle.facts.specs.declared.decision.Decision.TheVariants.{Always, Never, Open}
use Rattle.facts.specs.declared.decision.Plan.{Plan}
use Rattle.facts.specs.declared.decision.Plan.TheVariants.{Keep, Clash, Join}
use Rattle.facts.specs.State.{Classes, State, left_side, right_side, settled, free, join, plan, yes_to, decide}
use Rattle.terms.proofs.Cases.{by_eq, by_le, by_test}

pub plan_cases : (P : Plan → Type 0) (p t a c : ℕ)
    → (p ≡ t → a ≡ c → P Keep)
    → (p ≡ t → a ≢ c → P Clash)
    → (p ≢ t → t ≡ 0 → a ≡ c → P (Join (join t p 0)))
    → (p ≢ t → t ≡ 0 → c < a → P Clash)
    → (p ≢ t → t ≢ 0 → c ≤ a → P (Join (join p t (a - c))))
    → (p ≢ t → p ≡ 0 → a < c → P Clash)
    → (p ≢ t → p ≢ 0 → a < c → P (Join (join t p (c - a))))
    → P (plan p t a c)
unfolding plan
plan_cases P p t a c same apart into_zero above_zero left_base below_zero right_base =
    by_eq (λ x. P (cond x (cond (eqb a c) Keep Clash) between)) p t
    (λ e. by_eq (λ x. P (cond x Keep Clash)) a c (same e) (apart e))
    (λ n. by_le (λ x. P (cond x (cond (eqb t 0) (cond (eqb a c) (Join (join t p 0)) Clash) (Join (join p t (a - c)))) (cond (eqb p 0) Clash (Join (join t p (c - a)))))) c a
    (λ l. by_eq (λ x. P (cond x (cond (eqb a c) (Join (join t p 0)) Clash) (Join (join p t (a - c))))) t 0
    (λ z. by_eq (λ x. P (cond x (Join (join t p 0)) Clash)) a c (into_zero n z) (λ m. above_zero n z (omega arith)))
    (λ z. left_base n z l))
    (λ l. by_eq (λ x. P (cond x Clash (Join (join t p (c - a))))) p 0 (λ z. below_zero n z l) (λ z. right_base n z l)))
  where
    between : Plan
    between = cond (leb c a) (cond (eqb t 0) (cond (eqb a c) (Join (join t p 0)) Clash) (Join (join p t (a - c)))) (cond (eqb p 0) Clash (Join (join t p (c - a))))

pub settled_cases : (P : Bool → Type 0) (c : Classes) (q : Equation)
    → (c.class q.left.field.0 ≡ c.class q.right.field.0 → left_side c q ≡ right_side c q → P true)
    → ((c.class q.left.field.0 ≡ c.class q.right.field.0 → left_side c q ≢ right_side c q) → P false)
    → P (settled c q)
settled_cases P c q f g =
    by_eq (λ t. P (t && eqb (left_side c q) (right_side c q))) (c.class q.left.field.0) (c.class q.right.field.0)
    (λ h. by_eq P (left_side c q) (right_side c q) (f h) (λ n. g (λ _. n)))
    (λ n. g (λ h. absurd (n h)))

pub decide_cases : (P : Decision → Type 0) (s : State) (q : Equation)
    → (settled s.classes q ≡ true → P Always)
    → (settled s.classes q ≡ false → free (yes_to s q) ≡ true → P Open)
    → (settled s.classes q ≡ false → free (yes_to s q) ≡ false → P Never)
    → P (decide s q)
unfolding decide
decide_cases P s q always open_ never =
    by_test (λ b. P (cond b Always (cond (free (yes_to s q)) Open Never))) (settled s.classes q) always
    (λ n. by_test (λ b. P (cond b Open Never)) (free (yes_to s q)) (open_ n) (never n))
