-- What holds at any limits, at the logger's: each statement is an instance of the theorem that its proof names.
use Prim.Native.Nat.{ℕ, ◌+◌, ◌<◌}
use mathlib.Core.Path.{◌≡◌, refl}
use mathlib.Core.Logic.{◌⊎◌, inl, inr, ◌↔◌}
use mathlib.Core.Bool.{true}
use mathlib.Core.List.{List, [], ◌∷◌, map}
use mathlib.Core.Option.{none}
use native.Mathlib.Omega.{arith}
use lib.ListN.{length}
use Rattle.diagram.specs.Insert.{new_count}
use Rattle.diagram.specs.Questions.{finished_in}
use Rattle.logger.specs.SameStores.{AcceptedAlike, SameRuns}
use Rattle.logger.specs.SmallerLimits.{Smaller}
use Rattle.logger.specs.Beyond.{Beyond}
use Rattle.logger.specs.MixedCalls.{by_either, run_within, EachSmaller}
use Rattle.logger.specs.AnswersTo.{answers_to}
use Rattle.operations.specs.declared.answer.BuildFault.TheVariants.{NotSound, NoRoom}
use Rattle.std.specs.Prelude.{Ok, Err}
use Rattle.operations.specs.BooleanLaws.{Formula, BooleanLaw, Worked}
use Rattle.operations.specs.Built.{built_number}
use Rattle.operations.specs.Handles as handles
use Rattle.operations.specs.Handles.{Call, Books, opened_books, run, HandleLaw}
use Rattle.operations.specs.Operations.{refused, build}
use Rattle.store.specs.Layout.{used, room}
use Rattle.store.specs.Meaning.{meaning}
use Rattle.store.specs.Open.{opening, opened_words, open_store}
use Rattle.store.specs.Sound.{sound}
use Rattle.tables.specs.Faults.{table_fault}
use Rattle.tables.specs.Rows.{rule_meaning}
use Rattle.terms.specs.Limits.{store_limits, logger_limits}
use Rattle.terms.specs.Meaning.{Valuation}
use Rattle.operations.proofs.CallMeans.{build_means}
use Rattle.operations.proofs.FormulaHandles.{boolean_law}
use Rattle.operations.proofs.HandleLaw.{handle_law}
use Rattle.operations.proofs.NotVacuous.{full_exactly}
use Rattle.store.proofs.OpenSound.{opened_sound}
use Rattle.store.proofs.SoundFacts.{sound_says}
use Rattle.logger.proofs.MixedLaw.{mixed_law}
use Rattle.logger.proofs.BeyondLimits.{beyond_refused, beyond_exactly}
use Rattle.logger.proofs.CallOnSound.{call_on_sound}
use Rattle.logger.proofs.LargerCalls.{smaller_calls}
use Rattle.logger.proofs.LargerLimits.{smaller_same, smaller_sound, smaller_opens}
use Rattle.logger.proofs.SameCalls.{same_calls, same_numbers, same_words}

-- ---- the logger's store by itself
-- any n, order and list, and a store of any length, that the logger's opening accepts
module _ (n order : ℕ) (list s : List ℕ) (e : opening logger_limits n order list (length s) ≡ Ok tt) where
  pub logger_opened_sound : sound logger_limits (opened_words n order list (length s)) ≡ true
  logger_opened_sound = opened_sound logger_limits n order list s e

  pub logger_handle_law : (calls : List Call) → HandleLaw (run logger_limits (opened_books n order list (length s)) calls).ledger
  logger_handle_law = handle_law logger_limits n order list s e

  pub logger_boolean_law : (calls : List Call) (letters : ℕ → ℕ) (f g : Formula) → BooleanLaw f g → (h k : ℕ) (b : Books)
      → Worked logger_limits letters (run logger_limits (opened_books n order list (length s)) calls) f h b
      → Worked logger_limits letters (run logger_limits (opened_books n order list (length s)) calls) g k b → h ≡ k
  logger_boolean_law = boolean_law logger_limits n order list s e

module _ (s table : List ℕ) where
  -- the handle means what the table's last row does
  pub logger_build_means : (h : ℕ) → (build logger_limits s table).answer ≡ Ok h → (v : Valuation) → meaning (build logger_limits s table).words h v ≡ rule_meaning table v
  logger_build_means = build_means logger_limits s table

  -- "51 above 200 entries": of a sound store and a table without a fault, exactly if the entries used and the new ones exceed the room
  pub logger_full_exactly : sound logger_limits s ≡ true → table_fault logger_limits s table ≡ none
      → ((build logger_limits s table).answer ≡ Err NoRoom) ↔ (room logger_limits s < used s + new_count s (finished_in s (rule_meaning table)))
  logger_full_exactly is taken =
      let snd = sound_says logger_limits s is in
      rw (call_on_sound snd (handles.build table), taken) (full_exactly snd (rule_meaning table))

  -- "a store with larger n, q or used is 22 there", whatever the rule
  pub logger_beyond : Beyond logger_limits s → build logger_limits s table ≡ refused s NotSound
  logger_beyond b = beyond_refused logger_limits s b (handles.build table)

-- and of the institute's stores no others are
pub logger_beyond_exactly : (s : List ℕ) → sound store_limits s ≡ true → (sound logger_limits s ≡ true) ↔ (Beyond logger_limits s → ⊥)
logger_beyond_exactly s = beyond_exactly logger_limits s store_limits refl

-- ---- the logger's store and the institute's
pub logger_smaller : Smaller logger_limits store_limits
logger_smaller = record { fields_in = omega arith; steps_in = omega arith; questions_in = omega arith; entries_in = omega arith }

-- "After the same accepted opening, the same builds in the same order, nothing else writing, each accepted by both or by neither, give the same used entries and
-- handles.": any n, order and list, lent stores of any two lengths, and any list of rule tables, any words at all
module _ (n order : ℕ) (list s s' : List ℕ) (e : opening logger_limits n order list (length s) ≡ Ok tt) (e' : opening store_limits n order list (length s') ≡ Ok tt)
    (tables : List (List ℕ)) where
  abbrev logger_books : Books
  logger_books = opened_books n order list (length s)

  abbrev institute_books : Books
  institute_books = opened_books n order list (length s')

  abbrev builds : List Call
  builds = map handles.build tables

  pub same_builds : AcceptedAlike logger_limits store_limits logger_books institute_books builds → SameRuns logger_limits store_limits logger_books institute_books builds
  same_builds = same_calls logger_limits store_limits n order list s s' e e' builds

  -- the refusals' numbers too, as the limit of steps is one
  pub same_build_numbers : AcceptedAlike logger_limits store_limits logger_books institute_books builds
      → map built_number (answers_to logger_limits logger_books builds) ≡ map built_number (answers_to store_limits institute_books builds)
  same_build_numbers = same_numbers logger_limits store_limits n order list s s' e e' refl builds

  -- and every word, where the lengths are the same
  pub same_build_words : length s ≡ length s' → AcceptedAlike logger_limits store_limits logger_books institute_books builds
      → (run logger_limits logger_books builds).words ≡ (run store_limits institute_books builds).words
  same_build_words long = same_words logger_limits store_limits n order list s s' e e' long builds

-- ---- the logger's store among the institute's
-- A logger's store is a store of the institute's,
pub logger_store_sound : (s : List ℕ) → sound logger_limits s ≡ true → sound store_limits s ≡ true
logger_store_sound = smaller_sound logger_smaller

-- the logger's opening, where it is accepted, is the institute's,
pub logger_open_same : (n order : ℕ) (list s : List ℕ) → (open_store logger_limits n order list s).answer ≡ Ok tt
    → open_store store_limits n order list s ≡ open_store logger_limits n order list s
logger_open_same = smaller_opens logger_smaller

-- and so is its build: the same handle and the same words.
pub logger_build_same : (s table : List ℕ) (h : ℕ) → (build logger_limits s table).answer ≡ Ok h → build store_limits s table ≡ build logger_limits s table
logger_build_same s table = smaller_calls logger_smaller s (handles.build table)

-- The handle law covers the logger's calls and the institute's on the logger's store, in whatever order they come, accepted or refused.
pub logger_mixed_law : (n order : ℕ) (list s : List ℕ) → opening logger_limits n order list (length s) ≡ Ok tt → (calls : List (Call ⊎ Call))
    → HandleLaw (run_within (opened_books n order list (length s)) (map by_either calls)).ledger
logger_mixed_law n order list s e calls = mixed_law logger_limits store_limits logger_smaller n order list s e (map by_either calls) (each calls)
  where
    each : (calls : List (Call ⊎ Call)) → EachSmaller store_limits (map by_either calls)
    each [] = tt
    each (inl c ∷ cs) = (logger_smaller, each cs)
    each (inr c ∷ cs) = (smaller_same store_limits, each cs)
