-- The slice from the byte behind the count, of so many bytes, has just the list's entries.
use Rattle.reading.proofs.ListedLaws.{listed_taken}
use Rattle.reading.proofs.listed.listed.Goals as goal

pub returns-clause-entries : goal.returns-clause-entries
returns-clause-entries c = listed_taken _ _ c.requires _ c.from.ensures
