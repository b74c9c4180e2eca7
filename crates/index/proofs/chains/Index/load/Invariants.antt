-- `load` meets its contract: after each turn the entries passed are in the index and no two of them are equal.
use Rattle.index.proofs.IndexLaws.{Loading}
use Rattle.index.proofs.chains.Index.load.Given as goal

abbrev pub invariant-loop-i : goal.invariant-loop-i
invariant-loop-i g l = Loading (g.E.Indexed.fits l.words l.start) (g.E.Indexed.entry l.words) g.E.Indexed.bucket g.E.Indexed.same l.i l.self
