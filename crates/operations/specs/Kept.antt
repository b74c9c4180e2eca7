-- Books in which every pair is right: at its handle stands the finished diagram of its rule, in a sound store.
use Rattle.std.specs.Prelude.{ℕ, List}
use Rattle.operations.specs.Handles.{Pair, Books, In}
use Rattle.operations.specs.Stands.{Stands}
use Rattle.store.specs.SoundParts.{Sound}
use Rattle.terms.specs.declared.limits.Limits.{Limits}

abbrev pub AllStand : List ℕ → List Pair → Type 0
AllStand s ps = (p : Pair) → In p ps → Stands s p.handle p.rule

pub record Kept (limits : Limits) (b : Books) : Type 0 where
  pub sound : Sound limits b.words
  pub each : AllStand b.words b.ledger
