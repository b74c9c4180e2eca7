-- `build_within` meets its contract: soundness, then the table, then the finished diagram, as in the definition.
use borrow.Author.Rules.{rules}
use Rattle.building.proofs.CallWays.{build_unsound, build_refused, builds}
use Rattle.building.proofs.calls.build_within.Goals as goal

pub returns-then-not-is_sound : goal.returns-then-not-is_sound
returns-then-not-is_sound c = search (rules, build_unsound)

pub returns-in-Err : goal.returns-in-Err
returns-in-Err c = search (rules, build_refused)

pub returns-in-Ok : goal.returns-in-Ok
returns-in-Ok c = search (rules, builds)
