-- Two stores, one after another.
use Rattle.indexing.proofs.BuildLaws.{low_room, offset_put}
use Rattle.indexing.proofs.building.put_offset.Goals as goal

pub bounds-room-q-2 : goal.bounds-room-q-2
bounds-room-q-2 c = search low_room

pub returns : goal.returns
returns c = search offset_put
