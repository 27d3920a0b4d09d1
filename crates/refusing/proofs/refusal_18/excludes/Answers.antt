-- At each turn what is held rules out every condition exactly where it rules out those left.
use Rattle.refusing.proofs.Laws18.{left_starts, left_condition, left_branch, out_not, out_next, out_done}
use Rattle.refusing.proofs.refusal_18.excludes.Goals as goal

pub loop-init : goal.loop-init
loop-init g c = search left_starts

pub agrees-requires-clause-literals_here : goal.agrees-requires-clause-literals_here
agrees-requires-clause-literals_here g c = search left_condition

pub returns-then-agrees : goal.returns-then-agrees
returns-then-agrees g c = search out_not

pub next_place-requires : goal.next_place-requires
next_place-requires g c = rw c.FORM.ensures (search left_branch)

pub next_item-requires : goal.next_item-requires
next_item-requires g c = rw c.FORM-in-loop.ensures (search left_branch)

pub loop-preserved : goal.loop-preserved
loop-preserved g c =
    let place = rw c.FORM.ensures at c.next_place.ensures in
    let item = rw c.FORM-in-loop.ensures at c.next_item.ensures in
    search out_next

pub returns : goal.returns
returns g c = search out_done
