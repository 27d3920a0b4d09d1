-- The lines stand where the notes lead, and no contradiction was found.
use Rattle.steps.proofs.FormSteps.{hand_effects, hand_values, valued_can}
use Rattle.steps.proofs.trying.OfValuesActs.after.Goals as goal

pub state_after-requires-clause-value_effects : goal.state_after-requires-clause-value_effects
state_after-requires-clause-value_effects c = search hand_effects

pub state_after-requires-clause-few_values : goal.state_after-requires-clause-few_values
state_after-requires-clause-few_values c = search hand_values

pub state_after-requires-clause-s_value : goal.state_after-requires-clause-s_value
state_after-requires-clause-s_value c = c.args.r.now.at_hand.no_contradiction

pub state_after-requires-clause-marks_value : goal.state_after-requires-clause-marks_value
state_after-requires-clause-marks_value c = search valued_can
