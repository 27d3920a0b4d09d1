-- The parts of the walk that the code walks, in either form.
use Rattle.std.specs.Prelude.{ℕ, ◌+◌, ◌-◌, List, [], ◌∷◌, get_or, set}
use Rattle.meaning.specs.declared.Form.{Form}
use Rattle.meaning.specs.Values.{numbers}
use Rattle.meaning.specs.States.{State}
use Rattle.meaning.specs.Walk.{Walked, each_reading, meet}
use Rattle.reading.specs.Noted.{item_place}
use Rattle.steps.specs.Steps.{values_as, unknown_as, readings_as, step_in, walk_after}
use Rattle.walking.specs.Standing.{Standing, add}

-- The action that is item i.
unfoldable pub action_at : (s t : List ℕ) → ℕ → ℕ
action_at s t i = get_or s (get_or t (item_place + i) 0) 0

-- The readings of these fluents, each followed by what follows the sensing action that is item i.
unfoldable pub read_on : Form → (s t : List ℕ) → (i : ℕ) → List ℕ → State → Walked State
read_on form s t i fs marks = each_reading (readings_as form s fs marks) (meet (step_in form s t) (walk_after form s t i))

-- The readings of fluent f and of the unknown ones above it that the action senses.
unfoldable pub fork_from : Form → (s t : List ℕ) → (i f : ℕ) → State → Walked State
fork_from form s t i f marks = read_on form s t i (f ∷ unknown_as form s (action_at s t i) marks (f + 1)) marks

-- One value of fluent f, and then those of the fluents above it.
unfoldable pub value_read : Form → (s t : List ℕ) → (i f : ℕ) → State → (value : ℕ) → Walked State
value_read form s t i f marks v = read_on form s t i (unknown_as form s (action_at s t i) marks (f + 1)) (set marks f (v + 1))

-- What these values of fluent f add to how the walk stands, one behind another.
unfoldable pub add_values : Form → (s t : List ℕ) → (i f : ℕ) → State → Standing → (values : List ℕ) → Standing
add_values form s t i f marks b [] = b
add_values form s t i f marks b (v ∷ vs) = add_values form s t i f marks (add b (value_read form s t i f marks v)) vs

-- What those above the one that its mark says add.
unfoldable pub add_higher : Form → (s t : List ℕ) → (i f : ℕ) → State → Standing → Standing
add_higher form s t i f marks b = add_values form s t i f marks b (numbers (get_or marks f 0) (values_as form s f - get_or marks f 0))
