-- Terms, the words that hold them, and their limits (document 01, "Fields, terms, questions").
-- `Field`, `Steps`, `Term` and `Equation` are the structs of src/term.rt: a step count is never taken where a field number is due,
-- here as in the code.
use Rattle.std.specs.Prelude.{ℕ, ◌+◌, ◌*◌, ◌/◌, ◌%◌, Bool, ◌&&◌, leb}
use Rattle.terms.specs.declared.term.Field.{Field}
use Rattle.terms.specs.declared.term.Steps.{Steps}
use Rattle.terms.specs.declared.term.Term.{Term}
use Rattle.terms.specs.declared.limits.TermLimits.{TermLimits}
use Rattle.terms.specs.declared.term.Equation.{Equation}

abbrev pub field : ℕ → Field
field f = record { 0 = f }

abbrev pub steps : ℕ → Steps
steps s = record { 0 = s }

-- "A term is a field and a number of steps"
abbrev pub term : Field → Steps → Term
term f s = record { field = f; steps = s }

-- an equation of two terms, left = right
abbrev pub equation : Term → Term → Equation
equation l r = record { left = l; right = r }

-- "A term word (32 bits) is steps × 32 + field, field being the word's remainder by 32."
abbrev pub step_weight : ℕ
step_weight = 32

abbrev pub word_of : Term → ℕ
word_of t = t.steps.0 * step_weight + t.field.0

abbrev pub term_of : ℕ → Term
term_of word = term (field (word % step_weight)) (steps (word / step_weight))

-- neither "field above n" nor steps above the limit
unfoldable pub allows : TermLimits → Term → Bool
allows limits t = leb t.field.0 limits.field.0 && leb t.steps.0 limits.steps.0
