-- Effects of other actions or of other fluents set nothing apart; of one fluent they do where the literals or the values differ.
use Rattle.refusing.proofs.Clashes.{action_other, literals_told, literals_other, values_told, values_other}
use Rattle.refusing.proofs.refusal_16.sets_apart.Goals as goal

pub returns-then-s-p : goal.returns-then-s-p
returns-then-s-p c = search action_other

pub returns-then-s-p-2 : goal.returns-then-s-p-2
returns-then-s-p-2 c = search literals_told

pub returns-else-s-p-2 : goal.returns-else-s-p-2
returns-else-s-p-2 c = search literals_other

pub returns-then-s-p-3 : goal.returns-then-s-p-3
returns-then-s-p-3 c = search values_told

pub returns-else-s-p-3 : goal.returns-else-s-p-3
returns-else-s-p-3 c = search values_other
