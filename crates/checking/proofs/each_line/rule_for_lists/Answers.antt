-- Each of the three rules has its own, and every other rule is its own.
use borrow.Author.Rules.{rules}
use Rattle.meaning.specs.Tests.{pick}
use Rattle.meaning.specs.Derivations.{for_lists}
use Rattle.checking.proofs.each_line.rule_for_lists.Goals as goal

pub returns-in-SensingWhether : goal.returns-in-SensingWhether
unfolding for_lists pick
returns-in-SensingWhether c = search rules

pub returns-in-CompositionWhether : goal.returns-in-CompositionWhether
unfolding for_lists pick
returns-in-CompositionWhether c = search rules

pub returns-in-BranchingWhether : goal.returns-in-BranchingWhether
unfolding for_lists pick
returns-in-BranchingWhether c = search rules

pub returns-in_default : goal.returns-in_default
unfolding for_lists pick
returns-in_default c = search rules
