-- Each rule by its own number, in each layout by itself.
use borrow.Author.Rules.{rules}
use Rattle.meaning.specs.Tests.{both, either}
use Rattle.meaning.specs.Derivations.{a_rule}
use Rattle.checking.proofs.EachLineLaws.{closing_rule}
use Rattle.checking.proofs.each_line.is_rule.Goals as goal

pub returns-in-Empty : goal.returns-in-Empty
unfolding a_rule both either
returns-in-Empty c = search rules

pub returns-in_default : goal.returns-in_default
unfolding a_rule both either
returns-in_default c = search rules

pub returns-in-Closing : goal.returns-in-Closing
unfolding a_rule both either
returns-in-Closing c = search closing_rule
