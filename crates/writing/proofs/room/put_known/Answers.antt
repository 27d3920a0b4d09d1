-- A turn puts the literal of one fluent, if the state knows it; what is left then makes of the room what the whole makes of it. At the end the count goes before them.
use Rattle.writing.proofs.RoomLaws.{listing_starts, place_fits, count_fits, unmarked_next, marked_next, known_ends, known_within, known_put}
use Rattle.writing.proofs.room.put_known.Goals as goal
use Rattle.writing.proofs.room.put_known.Goals.{then-mark-ne0, else-mark-ne0}

pub loop-f-init : goal.loop-f-init
loop-f-init c = search listing_starts

pub overflow_add-p-then-mark-ne0 : goal.overflow_add-p-then-mark-ne0
overflow_add-p-then-mark-ne0 c = search place_fits

pub overflow_add-count : goal.overflow_add-count
overflow_add-count c = search count_fits

pub loop-f-preserved : goal.loop-f-preserved
loop-f-preserved c =
    elim c.if-mark-ne0.branch [
      | then-mark-ne0 w ↦ rw (w.room-is, w.p-is, w.count-is) (search marked_next)
      | else-mark-ne0 w ↦ rw (w.room-is, w.p-is, w.count-is) (search unmarked_next)
    ]

pub returns : goal.returns
returns c = search (known_ends, known_within, known_put)
