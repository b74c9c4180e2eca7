-- The limit of raw lists, in this place alone.
use Rattle.std.specs.Prelude.{ℕ}

-- "the raw list may hold 64 equations"
abbrev pub most_equations : ℕ
most_equations = 64
