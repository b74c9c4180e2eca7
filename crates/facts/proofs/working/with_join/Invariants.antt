-- `with_join` meets its contract: the places up to one are joined, the rest are as they were.
use Rattle.facts.proofs.Joining.{Joining}
use Rattle.facts.proofs.working.with_join.Given as goal

abbrev pub invariant-loop-p : goal.invariant-loop-p
invariant-loop-p l = Joining l.join l.fn.f.places l.p-index l.p-items
