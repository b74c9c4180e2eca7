-- `no_facts` meets its contract: each field is made with its own place.
use borrow.Author.Rules.{rules}
use Rattle.facts.proofs.Numbered.{numbered_start}
use Rattle.facts.proofs.record.no_facts.Goals as goal

pub returns : goal.returns
returns c = numbered_start _ c.from_fn.ensures.items (λ p q i x k. search rules) c.none.ensures
