-- A turn puts the offset of the first of the action's lines that are left; what is left then makes of the room what the whole makes of it, and line numbers rise in
-- file order. At the end their count goes before them.
use borrow.Author.Rules.{rules}
use Rattle.finding.proofs.AheadLaws.{line_few, line_less}
use Rattle.indexing.proofs.BuildLaws.{count_room, putting_starts, offset_inside, offset_near, offset_passed, count_passed, line_put, count_small, count_inside, lines_end, lines_put, lines_sized}
use Rattle.indexing.proofs.building.put_lines.Goals as goal

pub overflow_add-p : goal.overflow_add-p
overflow_add-p c = search count_room

pub loop-k-init : goal.loop-k-init
loop-k-init c = search putting_starts

pub line_place-place-requires : goal.line_place-place-requires
line_place-place-requires c = search (rules, line_few)

pub put_offset-requires : goal.put_offset-requires
put_offset-requires c = search (rules, offset_inside, offset_near)

pub overflow_add-p-in-loop-k : goal.overflow_add-p-in-loop-k
overflow_add-p-in-loop-k c = search offset_passed

pub overflow_add-count : goal.overflow_add-count
overflow_add-count c = search count_passed

pub next_line-k-requires : goal.next_line-k-requires
next_line-k-requires c = search (rules, line_few)

pub loop-k-smaller : goal.loop-k-smaller
loop-k-smaller c = search line_less

pub loop-k-preserved : goal.loop-k-preserved
loop-k-preserved c = search line_put

pub overflow_cast-room : goal.overflow_cast-room
overflow_cast-room c = search count_small

pub bounds-room-q : goal.bounds-room-q
bounds-room-q c = search count_inside

pub shape_of-room : goal.shape_of-room
shape_of-room c = search lines_sized

pub returns : goal.returns
returns c = search (lines_end, lines_put)
