-- A turn puts an action's part of the index behind those of the actions before it.
use borrow.Author.Rules.{rules}
use Rattle.finding.proofs.StartLaws.{second_byte}
use Rattle.indexing.proofs.BuildLaws.{building_starts, action_small, effects_led, effects_inside, runs_led, runs_inside, building_next, building_sized, index_put}
use Rattle.indexing.proofs.building.put_index.Goals as goal

pub bounds-s-1 : goal.bounds-s-1
bounds-s-1 c = search second_byte

pub loop-a-init : goal.loop-a-init
loop-a-init c = search building_starts

pub put_lines-middle-requires : goal.put_lines-middle-requires
put_lines-middle-requires c = search (rules, action_small, effects_led, effects_inside)

pub put_lines-q-requires : goal.put_lines-q-requires
put_lines-q-requires c = search (rules, action_small, runs_led, runs_inside)

pub loop-a-preserved : goal.loop-a-preserved
loop-a-preserved c = search building_next

pub shape_of-room : goal.shape_of-room
shape_of-room c = search building_sized

pub returns : goal.returns
returns c = search index_put
