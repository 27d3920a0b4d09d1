-- A goal is looked up as a literal known true; a whether entry by its mark, which is 1 or 2 where it is above 0.
use Rattle.steps.proofs.MissLaws.{goal_below, fluent_below, goal_met, whether_met}
use borrow.Author.Rules.{rules}
use Rattle.steps.proofs.goals.met.Goals as goal

pub holds-requires : goal.holds-requires
holds-requires c = search (rules, goal_below)

pub bounds-marks-x : goal.bounds-marks-x
bounds-marks-x c = search (rules, fluent_below)

pub returns-in-Goal : goal.returns-in-Goal
returns-in-Goal c = search goal_met

pub returns-in-Whether : goal.returns-in-Whether
returns-in-Whether c = search whether_met
