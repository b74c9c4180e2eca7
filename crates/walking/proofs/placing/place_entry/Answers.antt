-- `place_entry` meets its contract: its two tests are those of the definition, and an entry that is written goes into the index.
use mathlib.Core.Path.{◌∙◌}
use Rattle.walking.proofs.PlaceIndexed.{indexed_new}
use Rattle.walking.proofs.PlaceWays.{placed_again, none_there, placed_new, placed_nowhere}
use Rattle.walking.proofs.placing.place_entry.Goals as goal

pub returns-in-Some-clause-store_after : goal.returns-in-Some-clause-store_after
returns-in-Some-clause-store_after c = placed_again _ _ _ c.requires.index.all c.find.ensures c.in-Some.is

pub returns-then-entries-room-clause-store_after : goal.returns-then-entries-room-clause-store_after
returns-then-entries-room-clause-store_after c =
    placed_new _ _ _ c.requires.index.all c.find.ensures c.in_default.is (c.wide-entries.ensures ∙ c.used.ensures) c.room.ensures c.if-entries-room.true
    c.append.ensures

pub returns-then-entries-room-clause-in_index : goal.returns-then-entries-room-clause-in_index
returns-then-entries-room-clause-in_index c =
    indexed_new c.requires (c.wide-entries.ensures ∙ c.used.ensures) c.room.ensures c.if-entries-room.true _ c.append.ensures
    (none_there c.args.limits _ _ c.requires.index.all c.find.ensures c.in_default.is) c.put.ensures.more c.put.ensures.holds

pub returns-clause-store_after : goal.returns-clause-store_after
returns-clause-store_after c =
    placed_nowhere _ _ _ c.requires.index.all c.find.ensures c.in_default.is (c.wide-entries.ensures ∙ c.used.ensures) c.room.ensures c.if-entries-room.false
