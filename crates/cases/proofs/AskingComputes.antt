-- Definitions that are opened together where a case is computed: simplify, and the calls that leave the store as it is.
use Rattle.examples.specs.Best.{counts_from, best}
use Rattle.examples.specs.Example.{example}
use Rattle.examples.specs.LargestGap.{largest_gap}
use Rattle.facts.specs.Least.{first_from, fixed}
use Rattle.reading.specs.Blanks.{facts_up_to}
use Rattle.reading.specs.Read.{read_sheet}
use Rattle.terms.specs.Simplify.{simplify_words}
use Rattle.verdicts.specs.Leaves.{reached}
use Rattle.verdicts.specs.Verdict.{verdict}
use Rattle.writing.specs.WriteBack.{mark_parts, marks_down, reachable, marked_before, row_of, entry_rows, entries_rows, written_rows, rows_written, write_back}

unfoldable pub writing_computes : Type 0
unfolding mark_parts marks_down reachable marked_before row_of entry_rows entries_rows written_rows rows_written write_back
writing_computes = Unit {0}

unfoldable pub asking_computes : Type 0
unfolding writing_computes simplify_words facts_up_to read_sheet reached verdict first_from fixed counts_from best example largest_gap
asking_computes = Unit {0}
