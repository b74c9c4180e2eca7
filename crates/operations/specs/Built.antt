-- The answer of build, negate, join and choose, and its numbers (document 01, "Who can cause which refusal").
use Rattle.std.specs.Prelude.{ℕ, Result, Ok, Err}
use Rattle.terms.specs.Refusal.{answer_number}
use Rattle.operations.specs.declared.answer.BuildFault.{BuildFault}
use Rattle.operations.specs.declared.answer.BuildFault.TheVariants.{NotSound, NoHandle, BadTable, NoRoom}
use Rattle.tables.specs.TableFault.{table_fault_number}

-- What the four operations answer: the handle of the finished diagram, or why there is none.
abbrev pub Built : Type 0
Built = Result ℕ BuildFault

-- What comes after an answer: an accepted call goes on with its handle, and a refusal stands, whichever it is.
abbrev pub if_built : {A : Type 0} → Built → (ℕ → A) → (BuildFault → A) → A
if_built (Ok h) next stop = next h
if_built (Err f) next stop = stop f

-- "22, store not sound at any later call"; "41, handle at or above used + 2"; 31 to 36 are the table's; "51, used plus new entries exceeds room"
abbrev pub build_fault_number : BuildFault → ℕ
build_fault_number NotSound = 22
build_fault_number NoHandle = 41
build_fault_number (BadTable t) = table_fault_number t
build_fault_number NoRoom = 51

-- "Number 0 is success."
abbrev pub built_number : Built → ℕ
built_number = answer_number build_fault_number

-- "The result of these and of build is the diagram's handle."; "On refusal the result is 0"
abbrev pub built_result : Built → ℕ
built_result b = if_built b (λ h. h) (λ f. 0)
