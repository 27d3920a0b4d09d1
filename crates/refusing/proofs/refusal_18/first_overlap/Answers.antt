-- At each turn the first overlap of the plan is the first among the items left.
use Rattle.finding.proofs.PlanHere.{item_there}
use Rattle.refusing.proofs.Laws18.{overlap_starts, overlap_here, overlap_next, overlap_done}
use borrow.Author.Rules.{rules}
use Rattle.refusing.proofs.refusal_18.first_overlap.Goals as goal

pub loop-i-init : goal.loop-i-init
loop-i-init g c = search (rules, overlap_starts)

pub apart-requires-clause-item_here : goal.apart-requires-clause-item_here
apart-requires-clause-item_here g c = search item_there

pub loop-i-preserved : goal.loop-i-preserved
loop-i-preserved g c = search (rules, overlap_next)

pub returns-then-not-apart : goal.returns-then-not-apart
returns-then-not-apart g c = search overlap_here

pub returns : goal.returns
returns g c = search overlap_done
