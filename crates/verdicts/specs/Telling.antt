-- What the judging call says of a walk, by the tally that the walk leaves.
use Rattle.std.specs.Prelude.{ℕ, ◌-◌, ◌≤◌, ◌<◌, ◌≡◌, Bool, true, false, List}
use Rattle.meaning.specs.Limits
use Rattle.meaning.specs.Judging.{Judgement, ended}
use Rattle.walking.specs.declared.tally.Tally.{Tally}
use Rattle.walking.specs.declared.tally.Course.{Course}
use Rattle.walking.specs.declared.tally.Course.TheVariants.{Other, Spent}
use Rattle.walking.specs.Standing.{Standing, spent, so_far}

-- How the walk stands once it is over, of a budget: what is not left was counted.
unfoldable pub told : (lent : List ℕ) → (budget : ℕ) → Standing → Judgement
told lent budget spent = record { answer = record { number = Limits.budget_spent; input = Limits.neither_input; place = 0; count = budget }; state = lent }
told lent budget (so_far left end) = ended lent (budget - left) end

abbrev pub is_spent : Course → Bool
is_spent Spent = true
is_spent c = false

-- A tally that can be told: no more is left than the budget, unless that is spent, and the number of what stopped it otherwise is a byte.
pub record Tallied (tally : Tally) (budget : ℕ) : Type 0 where
  pub fewer : is_spent tally.course ≡ false → tally.left ≤ budget
  pub small : (number : ℕ) → tally.course ≡ Other number → number < 256
