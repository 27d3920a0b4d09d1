-- What the literals from number k on tell, with what those before told, is what all of them tell.
use Prim.Native.Nat.{◌<◌, ◌≤◌}
use borrow.Author.Rules.{rules}
use native.Mathlib.Omega.{arith}
use lib.ListN.{get_or}
use Rattle.valuing.proofs.TwosLaws.{literal_second, at_number, some_left, number_next, number_first, number_last}
use Rattle.valuing.proofs.ValuedMarks.{look_starts, look_sure, look_unsure, look_known, look_open, look_never}
use Rattle.valuing.proofs.states.look_at.Goals as goal

pub loop-k-init : goal.loop-k-init
loop-k-init c = look_starts _ _ _ _ (number_first _ _)

pub known-requires-clause-l_bound_2 : goal.known-requires-clause-l_bound_2
known-requires-clause-l_bound_2 c = let more : c.loop-k.k < get_or c.args.s.now c.args.p 0 = omega arith in literal_second c.args.s.now c.args.p c.requires.values_here _ _ (at_number c.args.s.now c.args.p c.loop-k.k more) (some_left c.args.s.now c.args.p c.loop-k.k more) _ c.two-l.ensures

pub loop-k-preserved-then-known : goal.loop-k-preserved-then-known
loop-k-preserved-then-known c =
    let more : c.loop-k.k < get_or c.args.s.now c.args.p 0 = omega arith in
    let turn = number_next _ _ _ more _ c.two-l.ensures in
    search look_known

pub returns-then-marks-l-ne-UNKNOWN_MARK : goal.returns-then-marks-l-ne-UNKNOWN_MARK
returns-then-marks-l-ne-UNKNOWN_MARK c =
    let more : c.loop-k.k < get_or c.args.s.now c.args.p 0 = omega arith in
    let turn = number_next _ _ _ more _ c.two-l.ensures in
    search look_never

pub loop-k-preserved : goal.loop-k-preserved
loop-k-preserved c =
    let more : c.loop-k.k < get_or c.args.s.now c.args.p 0 = omega arith in
    let turn = number_next _ _ _ more _ c.two-l.ensures in
    search look_open

pub returns-then-sure : goal.returns-then-sure
returns-then-sure c =
    let over : get_or c.args.s.now c.args.p 0 ≤ c.loop-k.k = omega arith in
    let none = number_last _ _ _ over in
    look_sure _ _ _ _ _ c.loop-k.invariant none (search rules)

pub returns-else-sure : goal.returns-else-sure
returns-else-sure c =
    let over : get_or c.args.s.now c.args.p 0 ≤ c.loop-k.k = omega arith in
    let none = number_last _ _ _ over in
    look_unsure _ _ _ _ _ c.loop-k.invariant none (search rules)
