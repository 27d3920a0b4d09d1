-- The goals stand where the notes say and the whether entries after them; the first that one of the two lists misses is what is missed.
use Rattle.steps.proofs.MissLaws.{goals_there, whether_there, goal_missed, whether_missed}
use borrow.Author.Rules.{rules}
use Rattle.steps.proofs.goals.missed.Goals as goal

pub goal_missed-requires : goal.goal_missed-requires
goal_missed-requires g c = search (rules, goals_there)

pub sequence_of-requires : goal.sequence_of-requires
sequence_of-requires g c = rw c.FORM.ensures (search goals_there)

pub first_missed-requires : goal.first_missed-requires
first_missed-requires g c = let place = rw c.FORM.ensures at c.sequence_of.ensures in search whether_there

pub returns-in-Some : goal.returns-in-Some
returns-in-Some g c = search goal_missed

pub returns-in-None : goal.returns-in-None
returns-in-None g c = let place = rw c.FORM.ensures at c.sequence_of.ensures in search whether_missed
