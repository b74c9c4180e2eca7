-- Sets of fields, each a number whose binary digit f stands for field f: the fields named at or below each handle, all of them at once (theorem `sets_are_flags`).
use Rattle.std.specs.Prelude.{ℕ, zero, suc, ◌+◌, ◌/◌, ◌%◌, ◌^◌, Bool, List, eqb, get_or, set, replicate}
use Rattle.std.specs.Int.Bits.{bit_or}
use Rattle.normal_form.specs.Limits.{table_limits}
use Rattle.normal_form.specs.Reachable.{flag_count}
use Rattle.normal_form.specs.Table.{entry, asks}
use Rattle.store.specs.Layout.{leaves}
use Rattle.terms.specs.declared.term.Equation.{Equation}

abbrev pub has_field : ℕ → ℕ → Bool
has_field f fields = eqb (fields / 2 ^ f % 2) 1

abbrev pub both_fields : Equation → ℕ
both_fields g = bit_or (2 ^ g.left.field.0) (2 ^ g.right.field.0)

-- the fields named at or below the i-th entry, by the sets of lower handles
unfoldable pub fields_at : List ℕ → ℕ → List ℕ → ℕ
fields_at t i sets = let e = entry t i in bit_or (both_fields (asks e)) (bit_or (get_or sets e.yes 0) (get_or sets e.no 0))

-- the fields named at or below each handle, after the first k entries
unfoldable pub field_sets : List ℕ → ℕ → List ℕ
field_sets t zero = replicate (flag_count table_limits) 0
field_sets t (suc k) = set (field_sets t k) (k + leaves) (fields_at t k (field_sets t k))
