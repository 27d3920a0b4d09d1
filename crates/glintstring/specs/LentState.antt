-- What the walk call leaves in the lent bytes (FORMAT 4.45 to 4.49).
use Rattle.std.specs.Prelude.{ℕ, ◌≤◌, ◌≡◌, List, ◌⊎◌, get_or}
use Rattle.meaning.specs.Limits
use Rattle.meaning.specs.Limits.{format}
use Rattle.meaning.specs.Requests.{Request}
use Rattle.meaning.specs.Reading.{got}
use Rattle.meaning.specs.Refusals.{settled}
use Rattle.meaning.specs.States.{State}
use Rattle.steps.specs.AtHand.{Marked}

-- The answers that write them.
abbrev pub Writes : ℕ → Type 0
Writes n = (n ≡ Limits.goal_missed) ⊎ (n ≡ Limits.not_executable)

-- No mark stands from fluent n up.
abbrev pub BlankFrom : ℕ → State → Type 0
BlankFrom n s = (f : ℕ) → n ≤ f → get_or s f 0 ≡ 0

-- Such an answer is of a settled request, with n fluents by its first byte. It leaves as many marks as a state has, and none of them from n up.
abbrev pub Written : (request left : List ℕ) → Type 0
Written request left =
    (x : Request) × (e : ℕ) × (settled format request ≡ got x e) × (get_or request 0 0 ≡ x.table.fluents) × Marked left × BlankFrom x.table.fluents left
