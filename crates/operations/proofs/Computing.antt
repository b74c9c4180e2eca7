-- Definitions that are opened together where a case is computed: to open one of these is to open all that its line names.
use Rattle.diagram.specs.Finish.{same_tree, parts, finish}
use Rattle.diagram.specs.Insert.{add_entry, place_entry, insert}
use Rattle.diagram.specs.Questions.{questions_from}
use Rattle.facts.specs.State.{plan, decide, spacing, some_sheet}
use Rattle.operations.specs.Handles.{run}
use Rattle.operations.specs.Operations.{added, build, negate, join, choose}
use Rattle.raw_lists.specs.Equations.{equations, words_of}
use Rattle.raw_lists.specs.OpenRaw.{all_allowed, open_resulting, open_collected, open_raw_in, open_raw}
use Rattle.raw_lists.specs.Resulting.{remaining, side, with_question, with_equation, collected}
use Rattle.store.specs.Entries.{first, is_entry, with_entry}
use Rattle.store.specs.Meaning.{next, follow}
use Rattle.store.specs.Open.{question_fault, list_fault, opening_in, opening, opened_words, open_store}
use Rattle.store.specs.Sound.{all_below, all_zero, list_sound, heading_sound, entry_sound, differ_below, sound}
use Rattle.store.specs.Tree.{tree_within}
use Rattle.tables.specs.Decoding.{decode}
use Rattle.tables.specs.Faults.{well_formed, equation_fault, row_fault, rows_fault, table_fault}
use Rattle.tables.specs.Listed.{on_list}
use Rattle.tables.specs.Rows.{row_truth, row_truths}
use Rattle.terms.specs.Form.{is_simplified}
use Rattle.terms.specs.Meaning.{count}
use Rattle.terms.specs.Order.{lex, order_named}
use Rattle.terms.specs.Simplify.{simplify, larger_left, lowered, never_or_question}
use Rattle.terms.specs.Words.{allows}

-- terms and facts
unfoldable pub facts_compute : Type 0
unfolding is_simplified count lex order_named simplify larger_left lowered never_or_question allows plan decide spacing some_sheet
facts_compute = Unit {0}

-- the words of a store: opening, soundness, meaning
unfoldable pub stores_compute : Type 0
unfolding facts_compute question_fault list_fault opening_in opening opened_words open_store all_below all_zero list_sound heading_sound entry_sound differ_below sound next follow tree_within
stores_compute = Unit {0}

-- raw lists, and opening with them
unfoldable pub raw_lists_compute : Type 0
unfolding stores_compute equations words_of remaining side with_question with_equation collected all_allowed open_resulting open_collected open_raw_in open_raw
raw_lists_compute = Unit {0}

-- rule tables
unfoldable pub tables_compute : Type 0
unfolding facts_compute decode on_list well_formed equation_fault row_fault rows_fault table_fault row_truth row_truths
tables_compute = Unit {0}

-- the finished diagram, and adding it
unfoldable pub diagrams_compute : Type 0
unfolding facts_compute same_tree parts finish questions_from first is_entry with_entry add_entry place_entry insert
diagrams_compute = Unit {0}

-- build, negate, join, choose, and a list of calls
unfoldable pub operations_compute : Type 0
unfolding raw_lists_compute tables_compute diagrams_compute added build negate join choose run
operations_compute = Unit {0}
