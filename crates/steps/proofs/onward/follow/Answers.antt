-- What the notes have as the item's next, and then as the next of each branching around it, leads on to what is left after the item.
use Rattle.steps.proofs.OnwardLaws.{slot_fits, slot_there, goes_starts, goes_to, goes_fits, goes_inside, goes_less, goes_around}
use Rattle.steps.proofs.onward.follow.Goals as goal

pub overflow_add-i : goal.overflow_add-i
overflow_add-i g c = search slot_fits

pub get-at-requires : goal.get-at-requires
get-at-requires g c = search slot_there

pub loop-at-init : goal.loop-at-init
loop-at-init g c = search goes_starts

pub overflow_add-at : goal.overflow_add-at
overflow_add-at g c = search goes_fits

pub get-at-requires-in-loop-at : goal.get-at-requires-in-loop-at
get-at-requires-in-loop-at g c = search goes_inside

pub loop-at-smaller : goal.loop-at-smaller
loop-at-smaller g c = search goes_less

pub loop-at-preserved : goal.loop-at-preserved
loop-at-preserved g c = search goes_around

pub returns : goal.returns
returns g c = search goes_to
