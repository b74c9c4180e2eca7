-- "Example: writes n counts (16-bit), field 1 first: the least satisfying sheet, field 1 compared first."
use Rattle.std.specs.Prelude.{ℕ, cond, List, eqb, length, Result, Ok, Err, Some, None}
use Rattle.examples.specs.declared.answer.ExampleFault.{ExampleFault}
use Rattle.examples.specs.declared.answer.ExampleFault.TheVariants.{NotSound, NoHandle, WrongLength, Nothing}
use Rattle.examples.specs.Best.{Best, best}
use Rattle.facts.specs.State.{start}
use Rattle.store.specs.Layout.{field_count, question, is_handle}
use Rattle.store.specs.Outcome.{Outcome, outcome}
use Rattle.store.specs.Sound.{sound}
use Rattle.store.specs.Tree.{tree}
use Rattle.terms.specs.declared.limits.Limits.{Limits}
use Rattle.terms.specs.Refusal.{answer_number}

-- What example answers: that the sheet was written, or why not.
abbrev pub Example : Type 0
Example = Result (Unit {0}) ExampleFault

-- "52, example of a rule that nothing satisfies"
abbrev pub given : Best → List ℕ → Outcome Example
given None out = outcome (Err Nothing) out
given (Some x) out = outcome (Ok tt) x

-- the best sheet over all paths of the handle's diagram
abbrev pub best_sheet : List ℕ → ℕ → Best
best_sheet s handle = best (question s) (field_count s) (tree s handle) start None

-- "Example: 22, 41, 23, 52."
unfoldable pub example : Limits → List ℕ → ℕ → List ℕ → Outcome Example
example limits s handle out =
    cond (sound limits s)
    (cond (is_handle s handle)
    (cond (eqb (length out) (field_count s)) (given (best_sheet s handle) out) (outcome (Err WrongLength) out))
    (outcome (Err NoHandle) out))
    (outcome (Err NotSound) out)

abbrev pub example_fault_number : ExampleFault → ℕ
example_fault_number NotSound = 22
example_fault_number NoHandle = 41
example_fault_number WrongLength = 23
example_fault_number Nothing = 52

abbrev pub example_number : Example → ℕ
example_number = answer_number example_fault_number
