-- The slice from the byte behind the count, of twice so many bytes, has just the list's entries.
use Rattle.reading.proofs.ListedLaws.{bytes_in_twos}
use Rattle.reading.proofs.listed.listed_in_twos.Goals as goal

pub returns-clause-entries : goal.returns-clause-entries
returns-clause-entries c = bytes_in_twos _ _ c.requires _ c.from.ensures
