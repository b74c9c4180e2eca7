-- `logger_open` meets its contract: it is `open_within` at the logger's limits.
use Rattle.logger.proofs.calls.logger_open.Goals as goal

pub returns : goal.returns
returns c = cc
