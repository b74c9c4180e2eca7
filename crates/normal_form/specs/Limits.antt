-- The limits of a table (document 02, vii). Steps and entries are the aerial desk's, stand in this place alone, and do not move with those of terms and stores; 16 is the sheet's
-- number of fields.
use Rattle.std.specs.Prelude.{ℕ}
use Rattle.terms.specs.Limits.{most_fields}
use Rattle.terms.specs.Words.{field, steps}
use Rattle.normal_form.specs.declared.limits.TableLimits.{TableLimits}

-- "steps above 4,095"
abbrev pub most_table_steps : ℕ
most_table_steps = 4095

-- "at most 4,096"
abbrev pub most_table_entries : ℕ
most_table_entries = 4096

-- "field above 16": the fields of a sheet
abbrev pub table_limits : TableLimits
table_limits = record { terms = record { field = field most_fields; steps = steps most_table_steps }; entries = most_table_entries }
