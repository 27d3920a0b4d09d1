-- A number below the count of lines is that of a line, which stands where its slots say.
use Rattle.checking.proofs.ClosingLaws.{line_some, named, not_named}
use Rattle.checking.proofs.question.names.Goals as goal

pub asks-requires : goal.asks-requires
asks-requires c = search line_some

pub returns-then-number-lines : goal.returns-then-number-lines
returns-then-number-lines c = search named

pub returns-else-number-lines : goal.returns-else-number-lines
returns-else-number-lines c = search not_named
