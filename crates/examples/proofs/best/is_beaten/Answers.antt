-- `is_beaten` meets its contract: it compares the least sheet of the facts with the best so far.
use Rattle.examples.proofs.BestLaws.{beats}
use Rattle.examples.proofs.best.is_beaten.Goals as goal

pub returns-in-Some : goal.returns-in-Some
returns-in-Some c = beats _ c.least_sheet.ensures c.is_before.ensures c.in-Some.is
