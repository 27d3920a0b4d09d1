-- The number of citation k stands in two bytes and is that of a line, which stands where its slots say; past the last citation there is none.
use Rattle.ruling.proofs.ReadingRuleLaws.{none_left, second_inside, number_below, number_line, line_there, cites_there, some_follows, some_lines, said_of, reading_told}
use Rattle.ruling.proofs.readings.one_reading.Goals as goal

pub bounds-d-own : goal.bounds-d-own
bounds-d-own c = search cites_there

pub returns-then-wide-k : goal.returns-then-wide-k
returns-then-wide-k c = search (none_left, said_of)

pub cited_of-cited-requires-clause-some_lines : goal.cited_of-cited-requires-clause-some_lines
cited_of-cited-requires-clause-some_lines c = search some_lines

pub cited_of-cited-requires-clause-number_there : goal.cited_of-cited-requires-clause-number_there
cited_of-cited-requires-clause-number_there c = search second_inside

pub cited_of-cited-requires-clause-number_below : goal.cited_of-cited-requires-clause-number_below
cited_of-cited-requires-clause-number_below c = search number_below

pub says_reading-requires-clause-stands_some : goal.says_reading-requires-clause-stands_some
says_reading-requires-clause-stands_some c = search number_line

pub says_reading-requires-clause-stands_some_2 : goal.says_reading-requires-clause-stands_some_2
says_reading-requires-clause-stands_some_2 c = search line_there

pub says_reading-requires-clause-some_follows : goal.says_reading-requires-clause-some_follows
says_reading-requires-clause-some_follows c = search some_follows

pub returns : goal.returns
returns c = search (reading_told, said_of)
