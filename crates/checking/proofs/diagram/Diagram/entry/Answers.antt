-- `entry` meets its contract: of a table that passed number 83 each entry has passed its test.
use Rattle.checking.proofs.LowerParts.{yes_lower, no_lower}
use Rattle.checking.proofs.diagram.Diagram.entry.Goals as goal

pub returns-clause-yes_low : goal.returns-clause-yes_low
returns-clause-yes_low c = yes_lower c.args.self.table.words.now c.args.self.lower c.requires c.entry.ensures

pub returns-clause-no_low : goal.returns-clause-no_low
returns-clause-no_low c = no_lower c.args.self.table.words.now c.args.self.lower c.requires c.entry.ensures
