-- What example can answer where neither 22, 41 nor 23 is due: a sheet, or that there is none.
use Rattle.std.specs.Prelude.{◌≡◌, ◌⊎◌, Ok, Err}
use Rattle.examples.specs.Example.{Example}
use Rattle.examples.specs.declared.answer.ExampleFault.TheVariants.{Nothing}
use Rattle.store.specs.Outcome.{Outcome}

abbrev pub SheetOrNone : Outcome Example → Type 0
SheetOrNone o = (o.answer ≡ Ok tt) ⊎ (o.answer ≡ Err Nothing)
