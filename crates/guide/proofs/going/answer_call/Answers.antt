-- Where there was no action there are no readings, and the guide goes on with what it knows.
use mathlib.Core.Path.{◌≡◌}
use mathlib.Core.List.{[]}
use Rattle.steps.specs.Held.{table_in}
use Rattle.guide.specs.GuideHeld.{asked_by}
use Rattle.guide.proofs.TurnLaws.{after_large, after_none, number_some, reads_none}
use Rattle.meaning.specs.declared.Form.TheVariants.{Flags}
use Rattle.guide.proofs.going.answer_call.Goals as goal
use Rattle.guide.proofs.going.answer_call.Goals.{in_default-via-in-Some+else-a-lt-ACTIONS, in_default-via-in_default}

pub returns-in_default : goal.returns-in_default
returns-in_default c =
    let none : asked_by (table_in Flags c.args.r.now.bytes.now) c.args.action ≡ [] = elim c.in_default.branch [ in_default-via-in-Some+else-a-lt-ACTIONS w ↦ search after_large | in_default-via-in_default w ↦ search after_none ] in
    search number_some

pub returns-in_default-2 : goal.returns-in_default-2
returns-in_default-2 c =
    let none : asked_by (table_in Flags c.args.r.now.bytes.now) c.args.action ≡ [] = elim c.in_default.branch [ in_default-via-in-Some+else-a-lt-ACTIONS w ↦ search after_large | in_default-via-in_default w ↦ search after_none ] in
    search reads_none
