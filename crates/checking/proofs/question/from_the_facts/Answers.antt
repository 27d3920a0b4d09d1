-- The facts stand at place 2 of the request, and its plan up to its goals where the notes say.
use Rattle.steps.proofs.HandLaws.{facts_here}
use Rattle.checking.proofs.QuestionLaws.{asked_some, other_facts, same_facts, own_plan}
use Rattle.checking.proofs.question.from_the_facts.Goals as goal

pub same_lists-requires-clause-list_here_2 : goal.same_lists-requires-clause-list_here_2
same_lists-requires-clause-list_here_2 c = search facts_here

pub same_plans-requires-clause-some_plan : goal.same_plans-requires-clause-some_plan
same_plans-requires-clause-some_plan c = search own_plan

pub same_plans-requires-clause-some_plan_2 : goal.same_plans-requires-clause-some_plan_2
same_plans-requires-clause-some_plan_2 c = search asked_some

pub returns-then-same_lists : goal.returns-then-same_lists
returns-then-same_lists c = search same_facts

pub returns-else-same_lists : goal.returns-else-same_lists
returns-else-same_lists c = rw c.if-same_lists.false (search other_facts)
