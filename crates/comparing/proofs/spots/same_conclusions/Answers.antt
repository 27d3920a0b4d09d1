-- Conclusions of two kinds differ; fluents are compared by their bytes, and lists as lists.
use borrow.Author.Rules.{rules}
use Rattle.comparing.proofs.SpotLaws.{concluded_list, fluents_same, fluent_to_list, list_to_fluent, concluded_same}
use Rattle.comparing.proofs.spots.same_conclusions.Goals as goal

pub same_lists-requires-clause-list_here : goal.same_lists-requires-clause-list_here
same_lists-requires-clause-list_here c = search (rules, concluded_list)

pub same_lists-requires-clause-list_here_2 : goal.same_lists-requires-clause-list_here_2
same_lists-requires-clause-list_here_2 c = search (rules, concluded_list)

pub returns-in-Fluent-Fluent : goal.returns-in-Fluent-Fluent
returns-in-Fluent-Fluent c = search (rules, fluents_same)

pub returns-in-Literals-Literals : goal.returns-in-Literals-Literals
returns-in-Literals-Literals c = search (rules, concluded_same)

pub returns-in_default : goal.returns-in_default
returns-in_default c = search (rules, fluent_to_list, list_to_fluent)

pub returns-in_default-2 : goal.returns-in_default-2
returns-in_default-2 c = search (rules, fluent_to_list, list_to_fluent)
