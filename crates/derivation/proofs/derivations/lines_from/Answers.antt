-- At each turn what all lines give is what the lines left give, and the places noted are those of the lines read and of the ends of their plans.
use borrow.Author.Rules.{rules}
use Rattle.derivation.proofs.DerivationLaws.{places_start, places_done, places_fault, places_next, line_fits, end_fits}
use Rattle.derivation.proofs.derivations.lines_from.Goals as goal

pub loop-k-init : goal.loop-k-init
loop-k-init c = search (rules, places_start)

pub returns-in_err-plan_end : goal.returns-in_err-plan_end
returns-in_err-plan_end c = search (rules, places_fault)

pub note_place-requires : goal.note_place-requires
note_place-requires c = search (rules, line_fits)

pub note_place-requires-in-loop-k : goal.note_place-requires-in-loop-k
note_place-requires-in-loop-k c = search (rules, end_fits)

pub loop-k-preserved : goal.loop-k-preserved
loop-k-preserved c = places_next _ _ _ _ _ _ _ _ _ c.loop-k.invariant _ _ _ _ _ c.note_place.ensures c.note_place-in-loop-k.ensures c.loop-k-test.true c.line_at.ensures c.in_ok-plan_end.was

pub returns : goal.returns
returns c = search (rules, places_done)
