-- `logger_build` meets its contract: it is `build_within` at the logger's limits. The arrays have room for the institute's as well, so that the promise alone tells
-- which of the two are meant.
use borrow.Author.Rules.{rules}
use Rattle.terms.proofs.LimitsFit.{limits_fit, logger_fits}
use Rattle.logger.proofs.calls.logger_build.Goals as goal

pub build_within-requires : goal.build_within-requires
build_within-requires c = search (rules, limits_fit, logger_fits)

pub returns : goal.returns
returns c = cc
