-- Document 02 (xi): "a store with larger n, q or used".
use Rattle.std.specs.Prelude.{ℕ, ◌<◌, ◌⊎◌, List}
use Rattle.store.specs.Layout.{field_count, question_count, used}
use Rattle.terms.specs.declared.limits.Limits.{Limits}

abbrev pub Beyond : Limits → List ℕ → Type 0
Beyond limits s = (limits.terms.field.0 < field_count s) ⊎ (limits.questions < question_count s) ⊎ (limits.entries < used s)
