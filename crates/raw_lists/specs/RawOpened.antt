-- The answer of the opening that takes raw lists, and its numbers (document 02, i): 15 and 16 are none of them.
use Rattle.std.specs.Prelude.{ℕ, Result}
use Rattle.terms.specs.Refusal.{answer_number}
use Rattle.raw_lists.specs.declared.answer.RawFault.{RawFault}
use Rattle.raw_lists.specs.declared.answer.RawFault.TheVariants.{TooManyFields, UnknownOrder, OddList, TooManyEquations, OutOfLimits, TooManyQuestions, TooShort}

-- What it answers: nothing more where the store was written, or why it was not.
abbrev pub RawOpened : Type 0
RawOpened = Result Unit RawFault

-- "17 for more than 64 raw equations"; the others are those of document 01's opening, 18 of document 02 (ix)
abbrev pub raw_fault_number : RawFault → ℕ
raw_fault_number TooManyFields = 11
raw_fault_number UnknownOrder = 18
raw_fault_number OddList = 12
raw_fault_number TooManyEquations = 17
raw_fault_number OutOfLimits = 14
raw_fault_number TooManyQuestions = 13
raw_fault_number TooShort = 21

-- "Number 0 is success."
abbrev pub raw_number : RawOpened → ℕ
raw_number = answer_number raw_fault_number
