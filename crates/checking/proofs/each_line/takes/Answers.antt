-- Each rule takes its own number of citations, and the rules that are not named take one.
use borrow.Author.Rules.{rules}
use Rattle.checking.proofs.EachLineLaws.{takes_nothing, takes_sensing, takes_composition, takes_single}
use Rattle.checking.proofs.each_line.takes.Goals as goal

pub returns-in-Empty : goal.returns-in-Empty
returns-in-Empty c = search (rules, takes_nothing)

pub returns-in-Sensing : goal.returns-in-Sensing
returns-in-Sensing c = search takes_sensing

pub returns-in-Composition : goal.returns-in-Composition
returns-in-Composition c = search takes_composition

pub returns-in_default : goal.returns-in_default
returns-in_default c = search (rules, takes_single)
