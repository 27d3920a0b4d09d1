-- Settling leaves the lines and what closes them where the places say; checking each line, and then the question, is what is left of the definition.
use Rattle.checking.proofs.QuestionLaws.{first_there, second_there, fluents_few, actions_few}
use Rattle.checking.proofs.CheckLaws.{settled_first, settled_second, settled_least, settled_stand, settled_some, settled_fault, lines_fault, lines_checked}
use borrow.Author.Rules.{rules}
use Rattle.checking.proofs.check.check_derivation.Goals as goal

pub bounds-r-0 : goal.bounds-r-0
bounds-r-0 c = search first_there

pub bounds-r-1 : goal.bounds-r-1
bounds-r-1 c = search second_there

pub settle_derivation-requires-clause-n_le_fluents : goal.settle_derivation-requires-clause-n_le_fluents
settle_derivation-requires-clause-n_le_fluents c = search fluents_few

pub settle_derivation-requires-clause-m_le_actions : goal.settle_derivation-requires-clause-m_le_actions
settle_derivation-requires-clause-m_le_actions c = search actions_few

pub bounds-d-0 : goal.bounds-d-0
bounds-d-0 c = search (rules, settled_first)

pub bounds-d-1 : goal.bounds-d-1
bounds-d-1 c = search (rules, settled_second)

pub check_lines-requires : goal.check_lines-requires
check_lines-requires c = let pre = c.args.r.now.at_hand in let few = fluents_few _ _ pre _ c.wide-n.ensures in let less = actions_few _ _ pre _ c.wide-m.ensures in settled_stand _ _ _ _ _ _ _ c.settle_derivation.ensures c.sized.ensures _ c.in_ok-settle_derivation.was _ c.two-count.ensures c.shared_slice_known-2-1.given few less

pub check_end-requires : goal.check_end-requires
check_end-requires c = let pre = c.args.r.now.at_hand in let few = fluents_few _ _ pre _ c.wide-n.ensures in let less = actions_few _ _ pre _ c.wide-m.ensures in let read = c.settle_derivation.ensures in let room = c.sized.ensures in let value = c.in_ok-settle_derivation.was in let count = c.two-count.ensures in record { some_derivation = settled_some _ _ _ _ _ _ _ read room _ value _ count c.shared_slice_known-2-1.given few less; le_lines = settled_least _ _ _ _ _ _ _ read room _ value _ count }

pub returns : goal.returns
returns c = let pre = c.args.r.now.at_hand in
    let n = c.wide-n.ensures in
    let m = c.wide-m.ensures in
    let bytes = c.shared_slice_known-2-1.given in
    lines_checked _ _ _ _ _ _ _ c.settle_derivation.ensures _ _ pre n m c.sized.ensures _ c.in_ok-settle_derivation.was _ c.check_lines.ensures _ c.in_ok-check_lines.was _ c.two-count.ensures bytes (fluents_few _ _ pre _ n) (actions_few _ _ pre _ m) _ c.check_end.ensures

pub returns-in_err-check_lines : goal.returns-in_err-check_lines
returns-in_err-check_lines c = search (rules, lines_fault)

pub returns-in_err-settle_derivation : goal.returns-in_err-settle_derivation
returns-in_err-settle_derivation c = search (rules, settled_fault)
