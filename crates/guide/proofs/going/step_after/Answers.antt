-- 41 goes before 42, and what is known with the readings goes on.
use Rattle.guide.proofs.SensedReadLaws.{told_count}
use Rattle.guide.proofs.TurnLaws.{asked_some, number_other, reads_against, reads_on}
use Rattle.guide.proofs.going.step_after.Goals as goal

pub returns-then-readings-sensed_by : goal.returns-then-readings-sensed_by
returns-then-readings-sensed_by c = search (number_other, asked_some)

pub is_against-requires-clause-readings_len : goal.is_against-requires-clause-readings_len
is_against-requires-clause-readings_len c = search told_count

pub returns-then-is_against : goal.returns-then-is_against
returns-then-is_against c = search (reads_against, asked_some)

pub taken_over-state-requires-clause-readings_len : goal.taken_over-state-requires-clause-readings_len
taken_over-state-requires-clause-readings_len c = search told_count

pub returns : goal.returns
returns c = search (reads_on, asked_some)
