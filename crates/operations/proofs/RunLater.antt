-- Any list of calls on any sound store leaves a later store: each call adds entries after the last or nothing. So a handle that a call returned keeps
-- its finished diagram, and a table that means what it does is built to that handle again.
use Prim.Native.Nat.{ℕ}
use mathlib.Core.Path.{◌≡◌}
use mathlib.Core.Bool.{Bool}
use mathlib.Core.List.{List, [], ◌∷◌}
use mathlib.Core.Option.{none}
use Rattle.std.specs.Prelude.{Ok}
use Rattle.operations.specs.Handles.{Call, answer_to, first_ledger, rule_of_call, Books, after, run}
use Rattle.operations.specs.Later.{Later}
use Rattle.operations.specs.Operations as operation
use Rattle.operations.specs.Stands.{Stands}
use Rattle.store.specs.Meaning.{meaning}
use Rattle.store.specs.Outcome.{outcome}
use Rattle.store.specs.SoundParts.{Sound}
use Rattle.tables.specs.Faults.{table_fault}
use Rattle.tables.specs.Rows.{rule_meaning}
use Rattle.terms.specs.declared.limits.Limits.{Limits}
use Rattle.terms.specs.Meaning.{Valuation}
use Rattle.store.proofs.SoundFacts.{sound_from}
use Rattle.operations.proofs.HandleLaw.{call_answered, first_kept}
use Rattle.operations.proofs.MeaningAdded.{rebuild_same}
use Rattle.operations.proofs.StandingDiagrams.{later_same, later_on, stands_later}

-- the words after a call are those of a later store
pub call_later : {limits : Limits} {s : List ℕ} → Sound limits s → (c : Call) → Later limits s (answer_to limits s c).words
call_later snd c = (call_answered (first_kept snd) c).later

-- The store stays sound, and no handle that it had changes its tree or its meaning.
pub run_later : {limits : Limits} (b : Books) → Sound limits b.words → (calls : List Call) → Later limits b.words (run limits b calls).words
unfolding run
run_later b snd [] = later_same snd
run_later {limits} b snd (c ∷ cs) = let l = call_later snd c in later_on l (run_later (after limits b c) l.sound cs)

pub run_sound : {limits : Limits} (b : Books) → Sound limits b.words → (calls : List Call) → Sound limits (run limits b calls).words
run_sound b snd calls = (run_later b snd calls).sound

-- a handle that an accepted call returned has its finished diagram still, after any further calls
pub returned_stands : {limits : Limits} (b : Books) → Sound limits b.words → (c : Call) (h : ℕ) → (answer_to limits b.words c).answer ≡ Ok h
    → (calls : List Call) → Stands (run limits (after limits b c) calls).words h (rule_of_call first_ledger b.words c)
returned_stands {limits} b snd c h e calls =
    let a = call_answered (first_kept snd) c in
    stands_later (run_later (after limits b c) a.later.sound calls) (a.stands h e)

-- any accepted table that means what such a handle does
pub build_again : {limits : Limits} {s : List ℕ} → Sound limits s → {h : ℕ} {means : Valuation → Bool} → Stands s h means
    → (table : List ℕ) → table_fault limits s table ≡ none → ((v : Valuation) → rule_meaning table v ≡ meaning s h v)
    → operation.build limits s table ≡ outcome (Ok h) s
unfolding operation.build
build_again {limits} {s} snd k table f e = rw (sound_from limits s snd, f) (rebuild_same snd k e)

-- "Building it on the same store gives that handle again if one of the operations had returned it.": so does every accepted table that means what
-- the handle does, and no word changes
pub returned_again : {limits : Limits} (b : Books) → Sound limits b.words → (c : Call) (h : ℕ) → (answer_to limits b.words c).answer ≡ Ok h
    → (calls : List Call) (table : List ℕ) → table_fault limits (run limits (after limits b c) calls).words table ≡ none
    → ((v : Valuation) → rule_meaning table v ≡ meaning (run limits (after limits b c) calls).words h v)
    → operation.build limits (run limits (after limits b c) calls).words table ≡ outcome (Ok h) (run limits (after limits b c) calls).words
returned_again {limits} b snd c h e calls =
    build_again (run_sound (after limits b c) (call_later snd c).sound calls) (returned_stands b snd c h e calls)
