-- What is wrong with a rule table, and its numbers (document 01, "Who can cause which refusal", the rule's author).
use Rattle.std.specs.Prelude.{ℕ, Result, Ok, Err}
use Rattle.std.proofs.Math.Option.{Option, none, some}
use Rattle.tables.specs.declared.answer.TableFault.{TableFault}
use Rattle.tables.specs.declared.answer.TableFault.TheVariants.{NoWords, NotRows, TooManyRows, BadRow, OutOfLimits, NotListed}

-- "31, no words; 32, words not a multiple of four; 33, more than 256 rows; 34, unknown kind, nonzero unused column, or a reference not lower;
-- 35, field above n or steps above 255; 36, an equation neither always nor never nor on the list."
-- Document 02 (viii): "14 and 35 start at 1,024."
abbrev pub table_fault_number : TableFault → ℕ
table_fault_number NoWords = 31
table_fault_number NotRows = 32
table_fault_number TooManyRows = 33
table_fault_number BadRow = 34
table_fault_number OutOfLimits = 35
table_fault_number NotListed = 36

-- what a test of a table answers: nothing more where nothing is wrong, or the first fault
abbrev pub Checked : Type 0
Checked = Result Unit TableFault

-- the code's answer for a fault, or for none
abbrev pub checked : Option TableFault → Checked
checked none = Ok tt
checked (some f) = Err f
