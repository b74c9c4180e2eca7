-- `join_both_ways` meets its contract: the promises of its calls, put one after the other, are the definition, whose two handles are equal.
use Rattle.std.proofs.Common.{rules, ◌≡◌, sym, subst}
use Rattle.std.specs.Prelude.{Some}
use Rattle.store.specs.Outcome.{Outcome, outcome}
use Rattle.terms.specs.Limits.{store_limits}
use Rattle.witness.specs.Joined.{Joins, SameHandles, after_opening, after_building, joined_both_ways}
use Rattle.witness.proofs.JoinsAlike.{joins_alike}
use Rattle.witness.proofs.joining.join_both_ways.Goals as goal

pub returns-clause-same_handles : goal.returns-clause-same_handles
unfolding joined_both_ways after_opening after_building
returns-clause-same_handles c =
    let a = c.args in
    let joined : outcome {A = Joins} (Some (c.in_ok-c.c, c.in_ok-d.d)) c.join-2.new.store
    ≡ joined_both_ways store_limits a.n a.order a.list.now a.first.now a.second.now a.store.now = search rules in
    subst (λ (o : Outcome Joins). SameHandles o.answer) (sym joined) (joins_alike store_limits a.n a.order a.list.now a.first.now a.second.now a.store.now)
