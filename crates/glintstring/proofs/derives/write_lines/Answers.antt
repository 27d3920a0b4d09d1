-- The sizes that were measured are those of the lines, so 38 and 39 are told as defined; past them the lines fit the room.
use Rattle.glintstring.proofs.DeriveLaws.{lines_fit, bytes_fit, lines_many, bytes_many, room_few, all_written}
use Rattle.glintstring.proofs.derives.write_lines.Goals as goal

pub returns-then-lines-gt-LINES : goal.returns-then-lines-gt-LINES
returns-then-lines-gt-LINES c = search lines_many

pub returns-then-bytes-gt-DERIVATION : goal.returns-then-bytes-gt-DERIVATION
returns-then-bytes-gt-DERIVATION c = search bytes_many

pub returns-then-room-bytes : goal.returns-then-room-bytes
returns-then-room-bytes c = search room_few

pub write-requires-clause-t_len_bound : goal.write-requires-clause-t_len_bound
write-requires-clause-t_len_bound c = search lines_fit

pub write-requires-clause-t_in_bounds : goal.write-requires-clause-t_in_bounds
write-requires-clause-t_in_bounds c = search bytes_fit

pub returns : goal.returns
returns c = search all_written
