use Rattle.steps.proofs.OnwardLaws.{place_fits, place_there, first_item_fits, second_there, second_fits, first_fits, choosing_starts, choosing_branch, choosing_condition, choosing_next, chosen_at, chosen_none}
use borrow.Author.Rules.{rules}
use Rattle.steps.proofs.onward.chosen.Goals as goal

pub overflow_add-i : goal.overflow_add-i
overflow_add-i g c = search place_fits

pub get-start-requires : goal.get-start-requires
get-start-requires g c = search place_there

pub overflow_add-start : goal.overflow_add-start
overflow_add-start g c = search second_fits

pub bounds-r-start : goal.bounds-r-start
bounds-r-start g c = search second_there

pub overflow_add-p : goal.overflow_add-p
overflow_add-p g c = search first_fits

pub overflow_add-item : goal.overflow_add-item
overflow_add-item g c = search first_item_fits

pub loop-init : goal.loop-init
loop-init g c = search choosing_starts

pub is_known-requires : goal.is_known-requires
is_known-requires g c = search (rules, choosing_condition)

pub into-requires-clause-branch_here : goal.into-requires-clause-branch_here
into-requires-clause-branch_here g c = search choosing_branch

pub returns-then-is_known : goal.returns-then-is_known
returns-then-is_known g c = search chosen_at

pub next_place-requires : goal.next_place-requires
next_place-requires g c = rw c.FORM.ensures (search choosing_branch)

pub next_item-requires : goal.next_item-requires
next_item-requires g c = rw c.FORM-in-loop.ensures (search choosing_branch)

pub loop-preserved : goal.loop-preserved
loop-preserved g c =
    let place = rw c.FORM.ensures at c.next_place.ensures in
    let item = rw c.FORM-in-loop.ensures at c.next_item.ensures in
    search choosing_next

pub returns : goal.returns
returns g c = search chosen_none
