-- What the subject of a walk means under a choice of counts.
use Rattle.std.specs.Prelude.{ℕ, Bool, cond, List}
use Rattle.store.specs.Meaning.{meaning}
use Rattle.tables.specs.Rows.{rule_meaning}
use Rattle.terms.specs.Meaning.{Valuation}
use Rattle.walking.specs.declared.subject.Subject.{Subject}
use Rattle.walking.specs.declared.subject.Subject.TheVariants.{Table, Choice}

-- if-then-else of three handles
abbrev pub choice : List ℕ → ℕ → ℕ → ℕ → Valuation → Bool
choice s a b c v = cond (meaning s a v) (meaning s b v) (meaning s c v)

-- the rule of the last row of a table, or if-then-else of three handles of the store
abbrev pub subject_meaning : List ℕ → Subject → Valuation → Bool
subject_meaning s (Table rows) = rule_meaning rows.now
subject_meaning s (Choice a b c) = choice s a b c
