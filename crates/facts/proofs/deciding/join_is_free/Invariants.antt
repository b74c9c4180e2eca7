-- `join_is_free` meets its contract: no question passed is settled by the joined classes, and one that is settles the matter.
use Rattle.facts.specs.Record.{classes_in}
use Rattle.facts.specs.State.{joined}
use Rattle.facts.proofs.NoesWays.{PassedNoes}
use Rattle.facts.proofs.deciding.join_is_free.Given as goal

abbrev pub invariant-loop-pair : goal.invariant-loop-pair
invariant-loop-pair l = PassedNoes l.f.noes.pairs (joined (classes_in l.f.places) l.join) l.pair-index
