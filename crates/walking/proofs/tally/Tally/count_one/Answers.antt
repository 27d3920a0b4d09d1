-- With nothing left the budget is spent; else one less is left.
use Rattle.walking.proofs.StandingLaws.{count_spent, count_left}
use Rattle.walking.proofs.tally.Tally.count_one.Goals as goal

pub returns-then-self-eq0 : goal.returns-then-self-eq0
returns-then-self-eq0 c = search count_spent

pub returns-else-self-eq0 : goal.returns-else-self-eq0
returns-else-self-eq0 c = search count_left
