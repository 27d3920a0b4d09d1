-- What comes from the position now is what comes from the first, and a branching leads to a later one. An action, the plan's end, or a branching with no condition known true is what comes next.
use Rattle.steps.proofs.OnwardLaws.{item_inside}
use Rattle.guide.proofs.LookAheadLaws.{looking_starts, looking_there, looking_on, looking_none, looking_end, looking_action, looking_item, no_action_none, no_action_end, chosen_falls, place_branching}
use Rattle.guide.proofs.going.look_ahead.Goals as goal

pub loop-i-init : goal.loop-i-init
loop-i-init c = search looking_starts

pub bounds-r-get : goal.bounds-r-get
bounds-r-get c = search (item_inside, looking_there)

pub returns-then-r-get-clause-result_value : goal.returns-then-r-get-clause-result_value
returns-then-r-get-clause-result_value c = search looking_action

pub returns-then-r-get-clause-action_there : goal.returns-then-r-get-clause-action_there
returns-then-r-get-clause-action_there c = search looking_item

pub chosen-requires-clause-i_bound : goal.chosen-requires-clause-i_bound
chosen-requires-clause-i_bound c = search looking_there

pub chosen-requires-clause-i_value : goal.chosen-requires-clause-i_value
chosen-requires-clause-i_value c = search place_branching

pub loop-i-smaller : goal.loop-i-smaller
loop-i-smaller c = search chosen_falls

pub loop-i-preserved : goal.loop-i-preserved
loop-i-preserved c = search looking_on

pub returns-in-None-clause-result_value : goal.returns-in-None-clause-result_value
returns-in-None-clause-result_value c = search looking_none

pub returns-in-None-clause-action_there : goal.returns-in-None-clause-action_there
returns-in-None-clause-action_there c = search no_action_none

pub returns-clause-result_value : goal.returns-clause-result_value
returns-clause-result_value c = search looking_end

pub returns-clause-action_there : goal.returns-clause-action_there
returns-clause-action_there c = search no_action_end
