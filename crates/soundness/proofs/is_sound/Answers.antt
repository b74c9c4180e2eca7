-- `is_sound` meets its contract: the heading, the room and the body are tested in turn, and each test that passes has what the next one asks for.
use Rattle.std.proofs.Common.{rules}
use Rattle.soundness.proofs.is_sound.Goals as goal
use Rattle.soundness.proofs.SoundWays.{heading_fails, heading_whole, list_within, room_fits, room_fails, by_body}

pub returns-then-not-heading_sound : goal.returns-then-not-heading_sound
returns-then-not-heading_sound c = search (rules, heading_fails)

pub used-requires : goal.used-requires
used-requires c = search (rules, heading_whole)

pub room-requires : goal.room-requires
room-requires c = search (rules, list_within)

pub entries_start-requires : goal.entries_start-requires
entries_start-requires c = search (rules, heading_whole)

pub invariant_of-entries : goal.invariant_of-entries
invariant_of-entries c = search (rules, room_fits)

pub returns-then-room-count-clause-sound : goal.returns-then-room-count-clause-sound
returns-then-room-count-clause-sound c = search (rules, room_fails)

pub returns-clause-sound : goal.returns-clause-sound
returns-clause-sound c = search (rules, by_body)
