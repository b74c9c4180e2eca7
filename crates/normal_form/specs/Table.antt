-- The words of a table (document 02, vii): "a table of four-word entries: left term, right term, yes handle, no handle, numbered like ours", so that handle 0
-- is never, 1 is always, and the i-th entry, counted from 0, is handle i + 2.
use Rattle.std.specs.Prelude.{ℕ, ◌+◌, ◌*◌, ◌/◌, List, length, get_or}
use Rattle.terms.specs.declared.term.Equation.{Equation}
use Rattle.terms.specs.Words.{equation, term_of}
use Rattle.normal_form.specs.declared.entry.Entry.{Entry}

abbrev pub entry_length : ℕ
entry_length = 4

abbrev pub entry_count : List ℕ → ℕ
entry_count t = length t / entry_length

abbrev pub entry : List ℕ → ℕ → Entry
entry t i =
    let at = entry_length * i in
    record { left = get_or t at 0; right = get_or t (at + 1) 0; yes = get_or t (at + 2) 0; no = get_or t (at + 3) 0 }

-- the equation that an entry asks
abbrev pub asks : Entry → Equation
asks e = equation (term_of e.left) (term_of e.right)
