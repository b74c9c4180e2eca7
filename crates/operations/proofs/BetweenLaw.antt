-- The handle law with openings between the calls: a refused one leaves the books, and an accepted one begins them as the law's own run begins.
use Prim.Native.Nat.{ℕ}
use mathlib.Core.Path.{◌≡◌}
use mathlib.Core.Logic.{◌≢◌}
use mathlib.Core.List.{List, [], ◌∷◌}
use native.Mathlib.Decide.{ℕ_discrete}
use borrow.Author.Tests.{eq-eqb, ne_eqb}
use Rattle.operations.specs.Between.{Step, call, reopen, after_step, run_steps}
use Rattle.operations.specs.Handles.{Books, first_books, HandleLaw}
use Rattle.operations.specs.Kept.{Kept}
use Rattle.operations.specs.Openings.{Opening, opened_by}
use Rattle.terms.specs.declared.limits.Limits.{Limits}
use Rattle.operations.proofs.EitherOpening.{either_kept, refused_leaves}
use Rattle.operations.proofs.HandleLaw.{kept_after, kept_law}

module _ (limits : Limits) (b : Books) (o : Opening) where
  -- "On refusal ... all lent words are unchanged.": an opening that is refused is a call that leaves the store, and the ledger, as it is
  pub refused_opening_leaves : (opened_by limits o b.words).answer ≢ 0 → after_step limits b (reopen o) ≡ b
  refused_opening_leaves n = simp (ne_eqb (opened_by limits o b.words).answer 0 n, refused_leaves limits b.words o n)

  -- "It starts with the pairs 0, never and 1, always.": and so does an opening that is accepted
  pub accepted_opening_begins : (opened_by limits o b.words).answer ≡ 0 → after_step limits b (reopen o) ≡ first_books (opened_by limits o b.words).words
  accepted_opening_begins e = simp (eq-eqb (opened_by limits o b.words).answer 0 e)

  kept_reopened : Kept limits b → Kept limits (after_step limits b (reopen o))
  kept_reopened k = elim (ℕ_discrete (opened_by limits o b.words).answer 0) [
    | yes e ↦ rw (accepted_opening_begins e) (either_kept limits b.words o e)
    | no n ↦ rw (refused_opening_leaves n) k
  ]

kept_step : {limits : Limits} {b : Books} → Kept limits b → (x : Step) → Kept limits (after_step limits b x)
kept_step k (call c) = kept_after k c
kept_step {limits} {b} k (reopen o) = kept_reopened limits b o k

kept_steps : {limits : Limits} {b : Books} → Kept limits b → (steps : List Step) → Kept limits (run_steps limits b steps)
unfolding run_steps
kept_steps k [] = k
kept_steps {limits = limits} {b = b} k (x ∷ xs) = kept_steps {b = after_step limits b x} (kept_step k x) xs

-- "Calls that leave the store as it is may come between.": the handle law after any such list, from either opening
pub law_between : (limits : Limits) (o : Opening) (s : List ℕ) → (opened_by limits o s).answer ≡ 0
    → (steps : List Step) → HandleLaw (run_steps limits (first_books (opened_by limits o s).words) steps).ledger
law_between limits o s e steps = kept_law (kept_steps (either_kept limits s o e) steps)
