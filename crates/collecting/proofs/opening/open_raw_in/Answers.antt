-- `open_raw_in` meets its contract: what was collected is what the definition says of the raw list.
use Rattle.std.proofs.Common.{rules}
use Rattle.collecting.proofs.ResultingWays.{out_of_limits, opens_resulting, taken_in}
use Rattle.collecting.proofs.opening.open_raw_in.Goals as goal

pub returns-in_err-questions : goal.returns-in_err-questions
returns-in_err-questions c =
    let a = c.args in
    taken_in a.known a.limits a.n a.raw.now a.store.now c.if-raw-eq1.false c.if-raw-gt-MOST_EQUATIONS.false
    (out_of_limits a.known a.limits a.n a.raw.now a.store.now (rw c.terms_within.ensures at c.collect.ensures) c.in_err-questions.was (search rules))

pub returns : goal.returns
returns c =
    let a = c.args in
    taken_in a.known a.limits a.n a.raw.now a.store.now c.if-raw-eq1.false c.if-raw-gt-MOST_EQUATIONS.false
    (opens_resulting a.known a.limits a.n a.raw.now a.store.now (rw c.terms_within.ensures at c.collect.ensures) c.in_ok-questions.was c.open_resulting.ensures)
