-- In the plain layout the last line is asked, in the closing one the closing list.
use Rattle.checking.proofs.ClosingLaws.{plain_lines, last_below, last_some, last_asks, last_other, closing_stands, end_closes}
use Rattle.checking.proofs.question.check_end.Goals as goal

pub spot_of-l-requires-clause-some_lines : goal.spot_of-l-requires-clause-some_lines
spot_of-l-requires-clause-some_lines c = search plain_lines

pub spot_of-l-requires-clause-k_lt_lines : goal.spot_of-l-requires-clause-k_lt_lines
spot_of-l-requires-clause-k_lt_lines c = search last_below

pub asks-requires : goal.asks-requires
asks-requires c = search last_some

pub returns-then-asks : goal.returns-then-asks
returns-then-asks c = search last_asks

pub check_closing-requires : goal.check_closing-requires
check_closing-requires c = search closing_stands

pub returns-else-asks : goal.returns-else-asks
returns-else-asks c = search last_other

pub returns-in-Closing : goal.returns-in-Closing
returns-in-Closing c = search end_closes
