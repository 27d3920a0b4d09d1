-- By whether there was an action.
use mathlib.Core.Path.{◌≡◌}
use mathlib.Core.List.{[]}
use Rattle.steps.specs.Held.{table_in}
use Rattle.guide.specs.GuideHeld.{asked_by}
use Rattle.guide.proofs.TurnLaws.{after_some, after_large, after_none}
use Rattle.guide.proofs.GuideHeldLaws.{asked_are}
use Rattle.meaning.specs.declared.Form.TheVariants.{Flags}
use Rattle.guide.proofs.calls.asked_after.Goals as goal
use Rattle.guide.proofs.calls.asked_after.Goals.{in_default-via-in-Some+else-a-lt-ACTIONS, in_default-via-in_default}

pub returns-in-Some : goal.returns-in-Some
returns-in-Some c = search (asked_are, after_some)

pub returns-in_default : goal.returns-in_default
returns-in_default c =
    let none : asked_by (table_in Flags c.args.r.now.bytes.now) c.args.action ≡ [] = elim c.in_default.branch [ in_default-via-in-Some+else-a-lt-ACTIONS w ↦ search after_large | in_default-via-in_default w ↦ search after_none ] in
    search asked_are
