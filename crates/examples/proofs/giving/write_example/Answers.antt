-- `write_example` meets its contract: the sheet that it writes is the best one found from no facts, and its counts are small.
use mathlib.Core.Path.{◌≡◌}
use native.Mathlib.Omega.{arith}
use Rattle.std.specs.Prelude.{Some}
use borrow.Author.Rules.{rules}
use Rattle.examples.proofs.ExampleWays.{heading_in, can_seek, can_write}
use Rattle.examples.proofs.giving.write_example.Goals as goal

pub field_count-requires : goal.field_count-requires
field_count-requires c = search (rules, heading_in)

pub best_from-found-requires : goal.best_from-found-requires
best_from-found-requires c = search (rules, can_seek)

pub write_sheet-requires : goal.write_sheet-requires
write_sheet-requires c =
    let t : c.best_from-found.result ≡ Some c.in_ok-ok_or.field-0 = grind arith in
    can_write c.requires _ c.no_facts.ensures c.field_count.ensures _ c.best_from-found.ensures t
