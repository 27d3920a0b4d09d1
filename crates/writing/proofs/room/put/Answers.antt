-- A place beyond the end of the room is left out, and storing there changes nothing.
use lib.Seq.{set_out}
use Rattle.writing.proofs.room.put.Goals as goal

pub returns-else-q-room : goal.returns-else-q-room
returns-else-q-room c = search set_out
