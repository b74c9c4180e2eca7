-- The answer of opening, and its numbers (document 01, "Who can cause which refusal", groups L1 to L6 and 21; document 02, ix).
use Rattle.std.specs.Prelude.{ℕ, Bool, true, false, Result, Ok, Err}
use Rattle.terms.specs.Refusal.{answer_number}
use Rattle.store.specs.declared.answer.OpenFault.{OpenFault}
use Rattle.store.specs.declared.answer.OpenFault.TheVariants.{TooManyFields, UnknownOrder, OddList, TooManyQuestions, OutOfLimits, NotSimplified, NotAbove, TooShort}

-- What opening answers: nothing more where the store was written, or why it was not.
abbrev pub Opened : Type 0
Opened = Result Unit OpenFault

-- What comes after an answer: an accepted call goes on, and a refusal stands, whichever it is.
abbrev pub if_accepted : {A : Type 0} → Opened → A → (OpenFault → A) → A
if_accepted (Ok done) next stop = next
if_accepted (Err f) next stop = stop f

-- "L1 = 11, n above 16; L2 = 12, odd number of list words; L3 = 13, more than 20 questions; L4 = 14, field above n or steps above 255;
-- L5 = 15, not a simplified question; L6 = 16, not strictly above the one before."; "21, store shorter than 3 + 2q at opening"
-- Document 02 (viii): "14 and 35 start at 1,024."; (ix): "18 for another order", and 21 is for a store shorter than 4 + 2q
abbrev pub open_fault_number : OpenFault → ℕ
open_fault_number TooManyFields = 11
open_fault_number UnknownOrder = 18
open_fault_number OddList = 12
open_fault_number TooManyQuestions = 13
open_fault_number OutOfLimits = 14
open_fault_number NotSimplified = 15
open_fault_number NotAbove = 16
open_fault_number TooShort = 21

-- "Number 0 is success."
abbrev pub open_number : Opened → ℕ
open_number = answer_number open_fault_number

abbrev pub is_accepted : Opened → Bool
is_accepted o = if_accepted o true (λ f. false)

-- the first of two answers that is a refusal
abbrev pub and_then : Opened → Opened → Opened
and_then a b = if_accepted a b Err
