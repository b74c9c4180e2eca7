-- The claims are about something, by computing: cases 6 to 8 at the logger's limits and at the institute's, where every build is accepted by both; and limits of
-- three entries, where a build is refused that the institute accepts, and the entries differ from there on.
use Prim.Native.Nat.{ℕ}
use mathlib.Core.Path.{◌≡◌, refl}
use mathlib.Core.List.{List, [], ◌∷◌, map}
use native.Mathlib.Omega.{arith}
use Rattle.logger.specs.SameStores.{entry_words, AcceptedAlike}
use Rattle.logger.specs.MixedCalls.{within, run_within}
use Rattle.logger.specs.SmallerLimits.{Smaller}
use Rattle.logger.specs.AnswersTo.{answers_to, was_accepted}
use Rattle.operations.specs.Built.{built_number, built_result}
use Rattle.operations.specs.Handles.{Call, build, Books, opened_books, run}
use Rattle.operations.specs.ThreeEqual.{three_equal, last_equal, outer_equal, not_outer, after_case_6}
use Rattle.std.specs.Prelude.{Ok}
use Rattle.store.specs.Layout.{used}
use Rattle.store.specs.Open.{opening}
use Rattle.terms.specs.declared.limits.Limits.{Limits}
use Rattle.terms.specs.declared.order.ListOrder.{ListOrder}
use Rattle.terms.specs.declared.order.ListOrder.TheVariants.{FieldsFirst, LeftFirst}
use Rattle.terms.specs.Limits.{store_limits, logger_limits}
use Rattle.terms.specs.Order.{order_number}
use Rattle.terms.specs.Words.{field, steps}
use Rattle.operations.proofs.Computing.{operations_compute}

abbrev three_builds : List Call
three_builds = build last_equal ∷ build outer_equal ∷ build not_outer ∷ []

-- a store of so many words, opened for the cases' list in the order that a number names
abbrev three_fields : ℕ → ℕ → Books
three_fields order words = opened_books 3 order three_equal words

-- the numbers, the results and the entries used after builds in such a store, with order 0
abbrev Builds : Limits → ℕ → List Call → List ℕ → List ℕ → ℕ → Type 0
Builds limits words calls numbers results entries =
    (opening limits 3 0 three_equal words ≡ Ok tt)
    × (map built_number (answers_to limits (three_fields 0 words) calls) ≡ numbers)
    × (map built_result (answers_to limits (three_fields 0 words) calls) ≡ results)
    × (used (run limits (three_fields 0 words) calls).words ≡ entries)

-- ---- cases 6 to 8
-- The logger and the institute, on 22 words: all accepted, handles 5, 2, 0, and the paper's words.
pub logger_run :
    Builds logger_limits 22 three_builds (0 ∷ 0 ∷ 0 ∷ []) (5 ∷ 2 ∷ 0 ∷ []) 4
    × Builds store_limits 22 three_builds (0 ∷ 0 ∷ 0 ∷ []) (5 ∷ 2 ∷ 0 ∷ []) 4
    × ((run logger_limits (three_fields 0 22) three_builds).words ≡ after_case_6 0)
    × ((run store_limits (three_fields 0 22) three_builds).words ≡ after_case_6 0)
unfolding operations_compute answers_to
logger_run = ((refl, refl, refl, refl), (refl, refl, refl, refl), refl, refl)

-- In either order, and with a longer store of the institute's: both are opened, and what `same_builds` asks for holds.
abbrev OpenedAndAlike : ℕ → Type 0
OpenedAndAlike order =
    (opening logger_limits 3 order three_equal 22 ≡ Ok tt)
    × (opening store_limits 3 order three_equal 28 ≡ Ok tt)
    × AcceptedAlike logger_limits store_limits (three_fields order 22) (three_fields order 28) three_builds

pub logger_run_alike : (order : ListOrder) → OpenedAndAlike (order_number order)
unfolding operations_compute answers_to was_accepted
logger_run_alike FieldsFirst = (refl, refl, refl)
logger_run_alike LeftFirst = (refl, refl, refl)

-- the words of the used entries, and of none in a store that was just opened
pub entries_of_cases : (entry_words (after_case_6 0) ≡ 2 ∷ 1 ∷ 0 ∷ 3 ∷ 1 ∷ 0 ∷ 2 ∷ 0 ∷ 3 ∷ 1 ∷ 2 ∷ 4 ∷ []) × (entry_words (three_fields 0 22).words ≡ [])
unfolding operations_compute entry_words
entries_of_cases = (refl, refl)

-- ---- why "by both or by neither"
-- limits that are smaller than the institute's in all four
abbrev few : Limits
few = record { terms = record { field = field 3; steps = steps 2 }; questions = 3; entries = 3 }

pub few_smaller : Smaller few store_limits
few_smaller = record { fields_in = omega arith; steps_in = omega arith; questions_in = omega arith; entries_in = omega arith }

abbrev two_builds : List Call
two_builds = build last_equal ∷ build outer_equal ∷ []

-- With 22 words, 3 = 2 is refused with 51 where the institute accepts it. Then 3 = 1 has handle 2 in both, and the entries used are 1 and 4.
pub one_refused : Builds few 22 two_builds (51 ∷ 0 ∷ []) (0 ∷ 2 ∷ []) 1 × Builds store_limits 22 two_builds (0 ∷ 0 ∷ []) (5 ∷ 2 ∷ []) 4
unfolding operations_compute answers_to
one_refused = ((refl, refl, refl, refl), (refl, refl, refl, refl))

-- "by neither" asks for no equal numbers: S3(3) = 2 has steps above the one limit, 35, and is not on the list by the other, 36. Then 3 = 1 is handle 2 in both.
abbrev refused_first : List Call
refused_first = build (2 ∷ 99 ∷ 2 ∷ 0 ∷ []) ∷ build outer_equal ∷ []

pub both_refused :
    Builds few 22 refused_first (35 ∷ 0 ∷ []) (0 ∷ 2 ∷ []) 1
    × Builds store_limits 28 refused_first (36 ∷ 0 ∷ []) (0 ∷ 2 ∷ []) 1
    × AcceptedAlike few store_limits (three_fields 0 22) (three_fields 0 28) refused_first
unfolding operations_compute answers_to was_accepted
both_refused = ((refl, refl, refl, refl), (refl, refl, refl, refl), refl)

-- ---- calls within both limits on one store
-- 3 = 2 is refused within the smaller limits, 3 = 1 is handle 2 there, and 3 = 2 is handle 5 within the larger: the ledger's handles, the latest first.
abbrev mixed : Books
mixed = run_within (three_fields 0 22) (within few (build last_equal) ∷ within few (build outer_equal) ∷ within store_limits (build last_equal) ∷ [])

pub mixed_run : (used mixed.words ≡ 4) × (map (λ p. p.handle) mixed.ledger ≡ 5 ∷ 2 ∷ 1 ∷ 0 ∷ [])
unfolding operations_compute run_within
mixed_run = (refl, refl)
