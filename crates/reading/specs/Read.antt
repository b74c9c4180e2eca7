-- "Read a sheet of n counts", by document 02 (iii) with blanks among them: "Reading must answer 1 if every filling of the blanks with natural numbers, each by itself,
-- satisfies the rule, 0 if none does, 2 otherwise."
use Rattle.std.specs.Prelude.{ℕ, cond, List, eqb, length, Result, Ok, Err}
use Rattle.facts.specs.State.{state_of}
use Rattle.reading.specs.declared.answer.ReadFault.{ReadFault}
use Rattle.reading.specs.declared.answer.ReadFault.TheVariants.{NotSound, NoHandle, WrongLength}
use Rattle.reading.specs.declared.answer.Reading.{Reading}
use Rattle.reading.specs.declared.answer.Reading.TheVariants.{Fails, Satisfies, Depends}
use Rattle.reading.specs.Blanks.{sheet_facts}
use Rattle.store.specs.Layout.{field_count, question, is_handle}
use Rattle.store.specs.Sound.{sound}
use Rattle.store.specs.Tree.{tree}
use Rattle.terms.specs.declared.limits.Limits.{Limits}
use Rattle.terms.specs.Refusal.{answer_number}
use Rattle.verdicts.specs.declared.leaves.Leaves.{Leaves}
use Rattle.verdicts.specs.Leaves.{reached, by_leaves}

-- What reading answers: whether no, every, or some but not every filling of the sheet satisfies the handle, or why it was not read.
abbrev pub Read : Type 0
Read = Result Reading ReadFault

-- the leaves that choices of counts fitting the sheet's facts reach from the handle
abbrev pub reached_by : List ℕ → ℕ → List ℕ → Leaves
reached_by s handle sheet = reached (question s) (tree s handle) (state_of (sheet_facts sheet))

abbrev pub read_by : Leaves → Reading
read_by = by_leaves Fails Satisfies Depends

-- "Read: 22, 41, 23."
unfoldable pub read_sheet : Limits → List ℕ → ℕ → List ℕ → Read
read_sheet limits s handle sheet =
    cond (sound limits s)
    (cond (is_handle s handle)
    (cond (eqb (length sheet) (field_count s)) (Ok (read_by (reached_by s handle sheet))) (Err WrongLength))
    (Err NoHandle))
    (Err NotSound)

-- "22, store not sound at any later call; 23, example or sheet slice not exactly n long"; "41, handle at or above used + 2"
abbrev pub read_fault_number : ReadFault → ℕ
read_fault_number NotSound = 22
read_fault_number NoHandle = 41
read_fault_number WrongLength = 23

abbrev pub read_number : Read → ℕ
read_number = answer_number read_fault_number

-- "1 if every filling ... satisfies the rule, 0 if none does, 2 otherwise"
abbrev pub reading_word : Reading → ℕ
reading_word Fails = 0
reading_word Satisfies = 1
reading_word Depends = 2

abbrev pub read_result : Read → ℕ
read_result (Ok r) = reading_word r
read_result (Err f) = 0
