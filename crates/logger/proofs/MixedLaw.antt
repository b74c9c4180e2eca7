-- The handle law over calls of which each is made within limits of its own: an accepted call does what it would do within the largest limits, and a refused one
-- leaves the books.
use Prim.Native.Nat.{ℕ}
use mathlib.Core.Path.{◌≡◌, refl}
use mathlib.Core.List.{List, [], ◌∷◌, map}
use lib.ListN.{length}
use Rattle.logger.specs.MixedCalls.{CallWithin, within, run_within, EachSmaller}
use Rattle.logger.specs.SmallerLimits.{Smaller}
use Rattle.operations.specs.Built.{Built}
use Rattle.std.specs.Prelude.{Ok, Err}
use Rattle.operations.specs.Handles.{Call, answer_to, Books, opened_books, after, run, HandleLaw}
use Rattle.operations.specs.Kept.{Kept}
use Rattle.store.specs.Open.{opening}
use Rattle.terms.specs.declared.limits.Limits.{Limits}
use Rattle.operations.proofs.HandleLaw.{kept_after, kept_law, opened_kept}
use Rattle.operations.proofs.RefusedUnchanged.{refused_unchanged}
use Rattle.logger.proofs.LargerCalls.{smaller_calls}
use Rattle.logger.proofs.LargerLimits.{opening_larger}

-- with one and the same limits it is the handle law's run
pub one_within : (limits : Limits) (b : Books) (calls : List Call) → run_within b (map (within limits) calls) ≡ run limits b calls
unfolding run_within run
one_within limits b [] = refl
one_within limits b (c ∷ cs) = one_within limits (after limits b c) cs

kept_within : {limits larger : Limits} → Smaller limits larger → {b : Books} → Kept larger b → (c : Call) → Kept larger (after limits b c)
kept_within {limits} {larger} small {b} k c = go (answer_to limits b.words c).answer refl
  where
    go : (a : Built) → (answer_to limits b.words c).answer ≡ a → Kept larger (after limits b c)
    go (Ok h) e = rw (← smaller_calls small b.words c h e) (kept_after k c)
    go (Err f) e = rw (refused_unchanged limits b.words c f e, e) k

kept_run_within : {larger : Limits} {b : Books} → Kept larger b → (calls : List CallWithin) → EachSmaller larger calls → Kept larger (run_within b calls)
unfolding run_within
kept_run_within k [] small = k
kept_run_within {larger = larger} {b = b} k (c ∷ cs) small = kept_run_within {b = after c.limits b c.call} (kept_within small.0 k c.call) cs small.1

-- "any two pairs have equal handles exactly if their rules are alike in truth under every choice of counts", after an opening and calls within any limits that
-- are no larger than these
pub mixed_law : (limits larger : Limits) → Smaller limits larger → (n order : ℕ) (list s : List ℕ) → opening limits n order list (length s) ≡ Ok tt
    → (calls : List CallWithin) → EachSmaller larger calls → HandleLaw (run_within (opened_books n order list (length s)) calls).ledger
mixed_law limits larger small n order list s e calls each =
    kept_law (kept_run_within (opened_kept larger n order list s (opening_larger small n order list (length s) e)) calls each)
