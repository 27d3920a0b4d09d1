-- What all lines give is what those from line i on give, where each line before it follows.
use Rattle.checking.proofs.OrderLaws.{checking_start, line_numbered, index_few, checking_next, line_stops, lines_through}
use Rattle.checking.proofs.each_line.check_lines.Goals as goal

pub loop-i-init : goal.loop-i-init
loop-i-init c = search checking_start

pub line_refused-requires : goal.line_refused-requires
line_refused-requires c = search line_numbered

pub place_of-requires : goal.place_of-requires
place_of-requires c = search index_few

pub returns-in-Some : goal.returns-in-Some
returns-in-Some c = search line_stops

pub loop-i-preserved : goal.loop-i-preserved
loop-i-preserved c = search checking_next

pub returns : goal.returns
returns c = search lines_through
