-- The answers to a list of calls are those of the handle law's run, place by place: those to the first calls, then those to the rest on the books that the run of
-- the first has left.
use mathlib.Core.Path.{◌≡◌, refl, ap, ap₂}
use mathlib.Core.List.{List, [], ◌∷◌, ◌++◌}
use Rattle.logger.specs.AnswersTo.{answers_to, was_accepted}
use Rattle.logger.specs.SameStores.{AcceptedAlike}
use Rattle.operations.specs.Handles.{Call, answer_to, Books, after, run}
use Rattle.terms.specs.declared.limits.Limits.{Limits}

pub answers_in_turn : (limits : Limits) (b : Books) (first later : List Call)
    → answers_to limits b (first ++ later) ≡ answers_to limits b first ++ answers_to limits (run limits b first) later
unfolding answers_to run
answers_in_turn limits b [] later = refl
answers_in_turn limits b (c ∷ cs) later = ap (λ rest. (answer_to limits b.words c).answer ∷ rest) (answers_in_turn limits (after limits b c) cs later)

-- "each accepted by both or by neither" asks for no more than it says: that at each place of the list, after the calls before it, the call is accepted by both or
-- by neither
pub alike_at_each : (limits limits' : Limits) (b b' : Books) (calls : List Call)
    → ((first later : List Call) (c : Call) → calls ≡ first ++ c ∷ later
    → was_accepted (answer_to limits (run limits b first).words c).answer ≡ was_accepted (answer_to limits' (run limits' b' first).words c).answer)
    → AcceptedAlike limits limits' b b' calls
unfolding answers_to run
alike_at_each limits limits' b b' [] at = refl
alike_at_each limits limits' b b' (c ∷ cs) at =
    ap₂ ◌∷◌ (at [] cs c refl) (alike_at_each limits limits' (after limits b c) (after limits' b' c) cs (λ first later d e. at (c ∷ first) later d (ap (λ rest. c ∷ rest) e)))
