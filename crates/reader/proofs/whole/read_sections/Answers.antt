-- A new reader stands at the start.
use borrow.Author.Rules.{rules}
use Rattle.reader.proofs.WholeLaws.{reader_starts}
use Rattle.reader.proofs.whole.read_sections.Goals as goal

pub sections-requires-clause-starts : goal.sections-requires-clause-starts
sections-requires-clause-starts g c = search (rules, reader_starts)
