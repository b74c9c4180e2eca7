-- The limits of terms and of stores, each in this place alone.
use Rattle.std.specs.Prelude.{ℕ}
use Rattle.terms.specs.declared.limits.Limits.{Limits}
use Rattle.terms.specs.declared.limits.TermLimits.{TermLimits}
use Rattle.terms.specs.Words.{field, steps}

-- "A sheet has n fields, numbered 1 to n, n from 0 to 16."
abbrev pub most_fields : ℕ
most_fields = 16

-- "A term is a field and a number of steps", by document 02 (viii) "0 to 1,023"
abbrev pub most_steps : ℕ
most_steps = 1023

-- "the number of questions q (0 to 20)"
abbrev pub most_questions : ℕ
most_questions = 20

-- "at most 4,096 entries"
abbrev pub most_entries : ℕ
most_entries = 4096

-- "a sheet of n counts, each 0 to 65,535", of which the last means "not counted" since document 02 (iii)
abbrev pub most_count : ℕ
most_count = 65535

-- The largest field number and the largest step count of a term. A store's own n takes the place of the 16.
abbrev pub term_limits : TermLimits
term_limits = record { field = field most_fields; steps = steps most_steps }

-- What a store may hold.
abbrev pub store_limits : Limits
store_limits = record { terms = term_limits; questions = most_questions; entries = most_entries }

-- Document 02 (xi): "The logger needs its own open and build, for 6 fields, 8 questions and 200 entries."
abbrev pub logger_fields : ℕ
logger_fields = 6

abbrev pub logger_questions : ℕ
logger_questions = 8

abbrev pub logger_entries : ℕ
logger_entries = 200

-- What a logger's store may hold; the steps of its terms are those of every term.
abbrev pub logger_limits : Limits
logger_limits = record { terms = record { field = field logger_fields; steps = steps most_steps }; questions = logger_questions; entries = logger_entries }

-- the limits of a term in a store of n fields: "field above n", and the steps' own limit
abbrev pub terms_within : Limits → ℕ → TermLimits
terms_within limits n = record { field = field n; steps = limits.terms.steps }
