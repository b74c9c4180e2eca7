use borrow.Author.Rules.{rules}
use Rattle.index.proofs.IndexLaws.{left_found, left_none}
use Rattle.index.proofs.chains.Index.find.Goals as goal

pub returns-then-eq : goal.returns-then-eq
returns-then-eq g c = search (rules, left_found {bucket = g.E.Indexed.bucket} g.met.E.Indexed.laws)

pub returns : goal.returns
returns g c = search (rules, left_none {bucket = g.E.Indexed.bucket} g.met.E.Indexed.laws)
