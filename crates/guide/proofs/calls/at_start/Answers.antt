-- A settled request is at hand, with its facts at place 2.
use borrow.Author.Rules.{rules}
use Rattle.verdicts.proofs.ReleasingLaws.{blank_is}
use Rattle.guide.proofs.GuideHeldLaws.{settled_facts, begins, begins_not}
use Rattle.guide.proofs.calls.at_start.Goals as goal

pub settle-requires : goal.settle-requires
settle-requires c = search (rules, blank_is)

pub state_of-requires : goal.state_of-requires
state_of-requires c = search (rules, settled_facts, blank_is)

pub returns-in-Ok : goal.returns-in-Ok
returns-in-Ok c = search (rules, begins, blank_is)

pub returns-in-Err : goal.returns-in-Err
returns-in-Err c = search (rules, begins_not)
