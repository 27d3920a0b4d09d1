-- Two bytes, one after another.
use Rattle.writing.proofs.RoomLaws.{number_put}
use Rattle.writing.proofs.room.put_number.Goals as goal

pub returns : goal.returns
returns c = search number_put
