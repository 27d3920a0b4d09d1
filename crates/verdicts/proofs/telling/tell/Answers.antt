-- Each way in which the walk went has an answer, and the definition tells the same.
use Rattle.verdicts.proofs.TellingLaws.{tell_fine, tell_missed, tell_stuck, tell_broken, tell_other, tell_wide, tell_many, tell_spent}
use Rattle.verdicts.proofs.telling.tell.Goals as goal

pub returns-in-Fine : goal.returns-in-Fine
returns-in-Fine c = search tell_fine

pub returns-in-Missed : goal.returns-in-Missed
returns-in-Missed c = search tell_missed

pub returns-in-Stuck : goal.returns-in-Stuck
returns-in-Stuck c = search tell_stuck

pub returns-in-Broken : goal.returns-in-Broken
returns-in-Broken c = search tell_broken

pub returns-in-Other : goal.returns-in-Other
returns-in-Other c = search tell_other

pub returns-in-TooWide : goal.returns-in-TooWide
returns-in-TooWide c = search tell_wide

pub returns-in-TooMany : goal.returns-in-TooMany
returns-in-TooMany c = search tell_many

pub returns-in-Spent : goal.returns-in-Spent
returns-in-Spent c = search tell_spent
