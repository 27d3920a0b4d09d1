-- The readings with the first unknown fluent true are used up, and then those with it false from there on; where none is unknown, the state is the
-- one reading. The next unknown fluent is above the first, or is the limit of fluents.
use Rattle.steps.proofs.LookLaws.{first_marked, second_marked}
use Rattle.ruling.proofs.ReadingRuleLaws.{next_falls, first_fails, both_read, read_whole}
use borrow.Author.Rules.{rules}
use Rattle.ruling.proofs.readings.+each_reading.Goals as goal

pub returns-then-f-ge-FLUENTS : goal.returns-then-f-ge-FLUENTS
returns-then-f-ge-FLUENTS t c = search read_whole

pub next_unknown-g-requires-clause-marked_as : goal.next_unknown-g-requires-clause-marked_as
next_unknown-g-requires-clause-marked_as t c = search first_marked

pub each_reading-requires : goal.each_reading-requires
each_reading-requires t c = (search next_falls, (search rules, (search first_marked, search rules)))

pub returns-in_err-j : goal.returns-in_err-j
returns-in_err-j t c = rw c.from_residual.ensures (search (first_fails, c.in_err-j.was))

pub each_reading-requires-2 : goal.each_reading-requires-2
each_reading-requires-2 t c = (search next_falls, (search rules, (search second_marked, search rules)))

pub returns : goal.returns
returns t c = search (both_read, c.in_ok-j.was)
