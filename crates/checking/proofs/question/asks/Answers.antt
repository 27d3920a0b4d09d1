-- After the start the conclusion is asked: as a list against the goals, or as a fluent by its byte; of another kind it is not what is asked.
use borrow.Author.Rules.{rules}
use Rattle.checking.proofs.QuestionLaws.{goals_there, own_list, other_start, goals_not_fluent, goals_asked, fluent_not_list, fluent_asked}
use Rattle.checking.proofs.question.asks.Goals as goal

pub returns-then-not-from_the_facts : goal.returns-then-not-from_the_facts
returns-then-not-from_the_facts c = search other_start

pub same_lists-requires-clause-list_here : goal.same_lists-requires-clause-list_here
same_lists-requires-clause-list_here c = search (rules, own_list)

pub same_lists-requires-clause-list_here_2 : goal.same_lists-requires-clause-list_here_2
same_lists-requires-clause-list_here_2 c = search goals_there

pub returns-in-None-Literals : goal.returns-in-None-Literals
returns-in-None-Literals c = search (rules, goals_asked)

pub returns-in-Some-Fluent : goal.returns-in-Some-Fluent
returns-in-Some-Fluent c = search (rules, fluent_asked)

pub returns-in_default : goal.returns-in_default
returns-in_default c = search (rules, goals_not_fluent, fluent_not_list)

pub returns-in_default-2 : goal.returns-in_default-2
returns-in_default-2 c = search (rules, goals_not_fluent, fluent_not_list)
