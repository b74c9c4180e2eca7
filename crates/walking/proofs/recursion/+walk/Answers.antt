-- `walk` meets its contract: each way through it is a line of the definition.
use native.Mathlib.Omega.{arith}
use Rattle.walking.proofs.WalkCalls.{can_ask, can_yes, can_no}
use Rattle.walking.proofs.WalkWays.{on_last, on_known, on_skip, asking, on_yes_full, on_no_full, on_parts}
use Rattle.walking.proofs.recursion.+walk.Goals as goal

pub returns-then-left-eq0-clause-store_after : goal.returns-then-left-eq0-clause-store_after
returns-then-left-eq0-clause-store_after t c = on_last _ _ _ _ _ _ c.value-known.ensures c.if-left-eq0.true c.leaf.ensures

pub returns-in_default-clause-store_after : goal.returns-in_default-clause-store_after
returns-in_default-clause-store_after t c = on_known _ _ _ _ _ _ c.value-known.ensures c.if-left-eq0.false c.in_default.not-Open c.leaf-in_default.ensures

pub ask-requires : goal.ask-requires
ask-requires t c = can_ask c.requires.can_walk c.if-left-eq0.false c.wide.ensures c.question_at-q.ensures

pub returns-in_default-ask : goal.returns-in_default-ask
returns-in_default-ask t c = record {
  store_after = on_skip _ _ _ _ _ _ c.value-known.ensures c.if-left-eq0.false c.in-Open.is c.wide.ensures c.question_at-q.ensures
      c.ask.ensures c.in_default-ask.not-Open c.walk.ensures.store_after;
  in_index_2 = c.walk.ensures.in_index_2;
}

pub walk-requires-2 : goal.walk-requires-2
walk-requires-2 t c = (
  omega (arith, c.decreases, c.if-left-eq0.false),
  (
    can_yes (asking _ _ _ _ _ _ c.value-known.ensures c.if-left-eq0.false c.in-Open.is c.wide.ensures c.question_at-q.ensures
        c.ask.ensures c.requires.can_walk c.in-Open-ask.is),
    c.requires.in_index,
  ),
)

pub returns-in_err-y-clause-store_after : goal.returns-in_err-y-clause-store_after
returns-in_err-y-clause-store_after t c =
    on_yes_full (asking _ _ _ _ _ _ c.value-known.ensures c.if-left-eq0.false c.in-Open.is c.wide.ensures c.question_at-q.ensures
    c.ask.ensures c.requires.can_walk c.in-Open-ask.is) c.walk-2.ensures.store_after c.in_err-y.was c.from_residual.ensures

pub walk-requires-3 : goal.walk-requires-3
walk-requires-3 t c = (
  omega (arith, c.decreases, c.if-left-eq0.false),
  (
    can_no (asking _ _ _ _ _ _ c.value-known.ensures c.if-left-eq0.false c.in-Open.is c.wide.ensures c.question_at-q.ensures
        c.ask.ensures c.requires.can_walk c.in-Open-ask.is) c.walk-2.ensures.store_after c.no-other.ensures,
    c.walk-2.ensures.in_index_2,
  ),
)

pub returns-in_err-n-clause-store_after : goal.returns-in_err-n-clause-store_after
returns-in_err-n-clause-store_after t c =
    on_no_full (asking _ _ _ _ _ _ c.value-known.ensures c.if-left-eq0.false c.in-Open.is c.wide.ensures c.question_at-q.ensures
    c.ask.ensures c.requires.can_walk c.in-Open-ask.is) c.walk-2.ensures.store_after c.in_ok-y.was c.no-other.result c.no-other.ensures
    c.walk-3.ensures.store_after c.in_err-n.was c.from_residual-in_err-n.ensures

pub returns-clause-store_after : goal.returns-clause-store_after
returns-clause-store_after t c =
    on_parts (asking _ _ _ _ _ _ c.value-known.ensures c.if-left-eq0.false c.in-Open.is c.wide.ensures c.question_at-q.ensures
    c.ask.ensures c.requires.can_walk c.in-Open-ask.is) c.walk-2.ensures.store_after c.in_ok-y.was c.no-other.result c.no-other.ensures
    c.walk-3.ensures.store_after c.in_ok-n.was c.place_parts.ensures.store_after
