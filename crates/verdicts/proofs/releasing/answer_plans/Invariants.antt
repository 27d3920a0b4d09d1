-- What was answered so far and what is left are all the answers; at a plan that fails, its fault and the plans behind it are all that is left.
use Rattle.verdicts.proofs.ReleasingLaws.{Answering}
use Rattle.verdicts.proofs.releasing.answer_plans.Given as goal

abbrev pub invariant-loop-k : goal.invariant-loop-k
invariant-loop-k l = Answering l.file l.t l.row l.budget l.plans l.start l.k l.p
