-- So many bytes as fit go behind the place, and the others are left out.
use Rattle.writing.proofs.RoomLaws.{copying_starts, copying_next, part_out, part_put}
use Rattle.writing.proofs.room.put_part.Goals as goal

pub returns-then-room-q : goal.returns-then-room-q
returns-then-room-q c = search part_out

pub loop-i-init : goal.loop-i-init
loop-i-init c = search copying_starts

pub loop-i-preserved : goal.loop-i-preserved
loop-i-preserved c = search copying_next

pub returns : goal.returns
returns c = search part_put
