-- Document 02 (xi): "After the same accepted opening, the same builds in the same order, nothing else writing, each accepted by both or by neither, give the
-- same used entries and handles."
use Rattle.std.specs.Prelude.{ℕ, ◌*◌, ◌≡◌, List, map, take, drop}
use Rattle.logger.specs.AnswersTo.{answers_to, was_accepted}
use Rattle.operations.specs.Built.{built_result}
use Rattle.operations.specs.Handles.{Call, Books, run}
use Rattle.store.specs.Layout.{field_count, question_count, used, store_order, list_words, entries_start}
use Rattle.terms.specs.declared.limits.Limits.{Limits}

-- the words of the used entries, in turn
unfoldable pub entry_words : List ℕ → List ℕ
entry_words s = take (3 * used s) (drop (entries_start s) s)

-- "the same used entries", and all that stands before them. Nothing is said of the unused words: the stores may be of different lengths.
pub record SameStores (s s' : List ℕ) : Type 0 where
  pub same_fields : field_count s ≡ field_count s'
  pub same_question_count : question_count s ≡ question_count s'
  pub same_used : used s ≡ used s'
  pub same_order : store_order s ≡ store_order s'
  pub same_list : list_words s ≡ list_words s'
  pub same_entries : entry_words s ≡ entry_words s'

-- "each accepted by both or by neither": at each place of the list, by the answers' numbers alone
abbrev pub AcceptedAlike : (limits limits' : Limits) → (b b' : Books) → List Call → Type 0
AcceptedAlike limits limits' b b' calls = map was_accepted (answers_to limits b calls) ≡ map was_accepted (answers_to limits' b' calls)

-- "give the same used entries and handles": the results at each place of the list, and the stores after it
pub record SameRuns (limits limits' : Limits) (b b' : Books) (calls : List Call) : Type 0 where
  pub same_results : map built_result (answers_to limits b calls) ≡ map built_result (answers_to limits' b' calls)
  pub same_stores : SameStores (run limits b calls).words (run limits' b' calls).words
