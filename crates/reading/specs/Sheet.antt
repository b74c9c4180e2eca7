-- The numbers of a sheet as a choice of counts: "n counts (16-bit), field 1 first". Of a field that was not counted it is the number that says so.
use Rattle.std.specs.Prelude.{ℕ, ◌-◌, List, get_or}
use Rattle.terms.specs.Meaning.{Valuation}

-- field f's number stands at place f - 1
abbrev pub sheet_counts : List ℕ → Valuation
sheet_counts sheet f = get_or sheet (f.0 - 1) 0
