-- The finished diagram asks its questions in order and never twice, and the two parts of every entry differ: each question's number is above
-- those before it, and equal parts are one.
use Prim.Native.Nat.{ℕ, suc, ◌+◌, ◌≤◌}
use mathlib.Core.Path.{◌≡◌, refl}
use mathlib.Core.Bool.{Bool}
use mathlib.Core.List.{List, [], ◌∷◌}
use native.Mathlib.Omega.{arith}
use lib.ListN.{length}
use Rattle.facts.specs.declared.decision.Decision.{Decision}
use Rattle.facts.specs.declared.decision.Decision.TheVariants.{Always, Never, Open}
use Rattle.facts.specs.State.{State, no_to, yes_to, decide}
use Rattle.store.specs.Tree.{Tree, Ascending, Reduced}
use Rattle.terms.specs.declared.term.Equation.{Equation}
use Rattle.terms.specs.Meaning.{Valuation}
use Rattle.diagram.specs.Finish.{parts, finish}
use Rattle.diagram.proofs.Trees.{parts_cases, ascending_less}

-- A claim about a finished diagram holds if it holds for each answer of the decision.
pub finish_cases : (P : Tree → Type 0) (q : Equation) (qs : List Equation) (k : ℕ) (s : State) (means : Valuation → Bool)
    → (decide s q ≡ Always → P (finish qs (k + 1) s means)) → (decide s q ≡ Never → P (finish qs (k + 1) s means))
    → (decide s q ≡ Open → P (parts k (finish qs (k + 1) (yes_to s q) means) (finish qs (k + 1) (no_to s q) means)))
    → P (finish (q ∷ qs) k s means)
unfolding finish
finish_cases P q qs k s means always never asks = go (decide s q) refl
  where
    go : (d : Decision) → decide s q ≡ d → P (finish (q ∷ qs) k s means)
    go Always e = rw (finish, e) (always e)
    go Never e = rw (finish, e) (never e)
    go Open e = rw (finish, e) (asks e)

pub finish_ascending : (qs : List Equation) (k most : ℕ) (s : State) (means : Valuation → Bool) → k + length qs ≤ suc most → Ascending k most (finish qs k s means)
unfolding finish
finish_ascending [] k most s means h = tt
finish_ascending (q ∷ qs) k most s means h =
    let later : (r : State) → Ascending (k + 1) most (finish qs (k + 1) r means) = λ r. finish_ascending qs (k + 1) most r means (omega arith) in
    finish_cases (Ascending k most) q qs k s means
    (λ _. ascending_less (k + 1) k most (finish qs (k + 1) s means) (omega arith) (later s))
    (λ _. ascending_less (k + 1) k most (finish qs (k + 1) s means) (omega arith) (later s))
    (λ _. parts_cases (Ascending k most) k (finish qs (k + 1) (yes_to s q) means) (finish qs (k + 1) (no_to s q) means)
    (λ _. ascending_less (k + 1) k most (finish qs (k + 1) (yes_to s q) means) (omega arith) (later (yes_to s q)))
    (λ _. (
      omega arith,
      omega arith,
      ascending_less (k + 1) (suc k) most (finish qs (k + 1) (yes_to s q) means) (omega arith) (later (yes_to s q)),
      ascending_less (k + 1) (suc k) most (finish qs (k + 1) (no_to s q) means) (omega arith) (later (no_to s q)),
    )))

pub finish_reduced : (qs : List Equation) (k : ℕ) (s : State) (means : Valuation → Bool) → Reduced (finish qs k s means)
unfolding finish
finish_reduced [] k s means = tt
finish_reduced (q ∷ qs) k s means =
    finish_cases Reduced q qs k s means (λ _. finish_reduced qs (k + 1) s means) (λ _. finish_reduced qs (k + 1) s means)
    (λ _. parts_cases Reduced k (finish qs (k + 1) (yes_to s q) means) (finish qs (k + 1) (no_to s q) means)
    (λ _. finish_reduced qs (k + 1) (yes_to s q) means)
    (λ d. (d, finish_reduced qs (k + 1) (yes_to s q) means, finish_reduced qs (k + 1) (no_to s q) means)))
