-- `new` meets its contract: no chain has an entry.
use Rattle.index.proofs.IndexLaws.{empty_index}
use Rattle.index.proofs.chains.Index.new.Goals as goal

pub returns : goal.returns
returns c = empty_index
