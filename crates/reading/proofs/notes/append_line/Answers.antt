-- The line's place is set, and the slot of what it comes after, as the definition has it.
use Rattle.reading.proofs.NotesLaws.{link_fits, link_there, line_appended}
use borrow.Author.Rules.{rules}
use Rattle.reading.proofs.notes.append_line.Goals as goal

pub overflow_add-lines-3 : goal.overflow_add-lines-3
overflow_add-lines-3 c = search (rules, link_fits)

pub put-requires-2 : goal.put-requires-2
put-requires-2 c = search (rules, link_there)

pub returns : goal.returns
returns c = search line_appended
