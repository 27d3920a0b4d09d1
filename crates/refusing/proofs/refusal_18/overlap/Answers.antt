-- Of whatever plan stands there, the first overlap is the first among all its items, in each form.
use Rattle.finding.proofs.PlanHere.{some_here}
use Rattle.refusing.proofs.PlanOverlaps.{overlap_found}
use borrow.Author.Rules.{rules}
use Rattle.refusing.proofs.refusal_18.overlap.Goals as goal

pub first_overlap-requires-clause-items_here : goal.first_overlap-requires-clause-items_here
first_overlap-requires-clause-items_here c = rw (← c.in-Flags.is) (search some_here)

pub first_overlap-requires-in-Valued-clause-items_here : goal.first_overlap-requires-in-Valued-clause-items_here
first_overlap-requires-in-Valued-clause-items_here c = rw (← c.in-Valued.is) (search some_here)

pub returns-in-Flags : goal.returns-in-Flags
returns-in-Flags c = search (rules, overlap_found)

pub returns-in-Valued : goal.returns-in-Valued
returns-in-Valued c = search (rules, overlap_found)
