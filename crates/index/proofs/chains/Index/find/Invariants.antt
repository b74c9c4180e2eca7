-- `find` meets its contract: the entries that are e are below the link along the walk, and the measure is the link, since links fall.
use Rattle.index.proofs.IndexLaws.{Left}
use Rattle.index.proofs.chains.Index.find.Given as goal

abbrev pub invariant-loop-link : goal.invariant-loop-link
invariant-loop-link g l = Left (g.E.Indexed.entry l.words) g.E.Indexed.bucket g.E.Indexed.same l.self.count l.e l.link

abbrev pub decreases-loop-link : goal.decreases-loop-link
decreases-loop-link g l = l.link
