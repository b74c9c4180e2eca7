use Rattle.index.proofs.IndexLaws.{loading_begins, loading_more, equal_found}
use Rattle.index.proofs.chains.Index.load.Goals as goal

pub loop-i-init : goal.loop-i-init
loop-i-init g c = loading_begins g.met.E.Indexed.laws _ _ c.requires.fits c.requires.empty

pub returns-then-is_some-clause-differ : goal.returns-then-is_some-clause-differ
returns-then-is_some-clause-differ g c =
    equal_found g.met.E.Indexed.laws _ _ c.requires.fits c.loop-i.invariant c.loop-i-test.true c.read-e.ensures c.find.ensures c.if-is_some.ensures

pub loop-i-preserved : goal.loop-i-preserved
loop-i-preserved g c =
    loading_more g.met.E.Indexed.laws _ _ c.requires.fits c.loop-i.invariant c.loop-i-test.true c.read-e.ensures c.find.ensures c.if-is_some.ensures
    c.put.ensures.more c.put.ensures.holds
