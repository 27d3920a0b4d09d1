-- 0 is no line, and then the action's own number stands for what comes before.
use Rattle.reading.proofs.NotesLaws.{before_first, before_later}
use Rattle.reading.proofs.notes.before.Goals as goal

pub returns-then-last-eq0 : goal.returns-then-last-eq0
returns-then-last-eq0 c = search before_first

pub returns : goal.returns
returns c = search before_later
