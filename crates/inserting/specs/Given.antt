-- What a walk may be given as its subject: a table that build takes, or three handles of the store.
use Rattle.std.specs.Prelude.{ℕ, ◌+◌, ◌<◌, ◌≡◌, List}
use Rattle.std.proofs.Math.Option.{none}
use Rattle.store.specs.Layout.{used, leaves}
use Rattle.tables.specs.Faults.{table_fault}
use Rattle.terms.specs.declared.limits.Limits.{Limits}
use Rattle.walking.specs.declared.subject.Subject.{Subject}
use Rattle.walking.specs.declared.subject.Subject.TheVariants.{Table, Choice}

abbrev pub Taken : Limits → List ℕ → Subject → Type 0
Taken limits s (Table rows) = table_fault limits s rows.now ≡ none
Taken limits s (Choice a b c) = (a < used s + leaves) × (b < used s + leaves) × (c < used s + leaves)

pub record Given (limits : Limits) (s : List ℕ) (subject : Subject) : Type 0 where
  pub taken : Taken limits s subject
