-- `open_resulting` meets its contract: there are half as many questions as words, so the tests are the definition's own.
use Rattle.std.proofs.Common.{rules}
use Rattle.collecting.proofs.ResultingWays.{too_many_questions, too_short, opens}
use Rattle.collecting.proofs.opening.open_resulting.Goals as goal

pub returns-then-limits-questions : goal.returns-then-limits-questions
returns-then-limits-questions c = search (rules, too_many_questions)

pub returns-then-store-end : goal.returns-then-store-end
returns-then-store-end c = search (rules, too_short)

pub returns : goal.returns
returns c = search (rules, opens)
