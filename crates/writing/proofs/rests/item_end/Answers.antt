-- An action ends behind its byte; a branching behind its branches, which are passed one by one.
use Rattle.steps.proofs.OnwardLaws.{place_fits, place_there, first_item_fits}
use Rattle.writing.proofs.ItemEndLaws.{first_there, next_fits, action_ends, count_there, second_fits, ending_starts, branch_there, ending_next, ended}
use Rattle.writing.proofs.rests.item_end.Goals as goal

pub overflow_add-i : goal.overflow_add-i
overflow_add-i c = search place_fits

pub get-start-requires : goal.get-start-requires
get-start-requires c = search place_there

pub bounds-r-start : goal.bounds-r-start
bounds-r-start c = search first_there

pub overflow_add-result : goal.overflow_add-result
overflow_add-result c = search next_fits

pub returns-then-r-start : goal.returns-then-r-start
returns-then-r-start c = search action_ends

pub overflow_add-branches : goal.overflow_add-branches
overflow_add-branches c = search next_fits

pub bounds-r-start-2 : goal.bounds-r-start-2
bounds-r-start-2 c = search count_there

pub overflow_add-p : goal.overflow_add-p
overflow_add-p c = search second_fits

pub overflow_add-item : goal.overflow_add-item
overflow_add-item c = search first_item_fits

pub loop-init : goal.loop-init
loop-init c = search ending_starts

pub next_place-q-requires : goal.next_place-q-requires
next_place-q-requires c = search branch_there

pub next_item-item-requires : goal.next_item-item-requires
next_item-item-requires c = search branch_there

pub loop-preserved : goal.loop-preserved
loop-preserved c = search ending_next

pub returns : goal.returns
returns c = search ended
