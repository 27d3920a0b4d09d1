-- The room is too short, or the index goes to its start.
use Rattle.glintstring.proofs.IndexedLaws.{length_fits, room_short, room_written}
use Rattle.glintstring.proofs.indexes.write_index.Goals as goal

pub returns-then-room-length : goal.returns-then-room-length
returns-then-room-length c = search room_short

pub overflow_cast-result : goal.overflow_cast-result
overflow_cast-result c = search length_fits

pub returns : goal.returns
returns c = search room_written
