-- `push` meets its contract: the question stands after the last one, as the newest.
use borrow.Author.Rules.{rules}
use Rattle.facts.proofs.NoesWays.{listed_no}
use Rattle.facts.proofs.noes.Noes.push.Goals as goal

pub returns : goal.returns
returns c = search (rules, listed_no)
