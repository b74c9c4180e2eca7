-- `example_within` meets its contract: its tests are the definition's, in the definition's order.
use borrow.Author.Rules.{rules}
use Rattle.examples.proofs.ExampleWays.{heading_fits, can_give}
use Rattle.examples.proofs.giving.example_within.Goals as goal

pub has_handle-requires : goal.has_handle-requires
has_handle-requires c = search (rules, heading_fits)

pub field_count-requires : goal.field_count-requires
field_count-requires c = search (rules, heading_fits)

pub write_example-requires : goal.write_example-requires
write_example-requires c = search (rules, can_give)
