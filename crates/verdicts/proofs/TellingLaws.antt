-- What the tally says: each way in which a walk goes is told by the definition as the code tells it. Assumes nothing.
use Prim.Native.Nat.{ℕ, ◌-◌, ◌≤◌}
use mathlib.Core.Path.{◌≡◌, sym, ◌∙◌, ap}
use mathlib.Core.Bool.{false}
use mathlib.Core.List.{List}
use Rattle.meaning.specs.declared.Answer.{Answer}
use Rattle.meaning.specs.States.{State}
use Rattle.meaning.specs.Walk.{in_state}
use Rattle.meaning.specs.Judging.{Judgement, written_over, reported, count_told, ended}
use Rattle.walking.specs.declared.tally.Tally.{Tally}
use Rattle.walking.specs.declared.tally.Course.{Course}
use Rattle.walking.specs.declared.tally.Course.TheVariants.{Fine, Missed, Stuck, Broken, Other, TooWide, TooMany, Spent}
use Rattle.walking.specs.Standing.{stands, standing}
use Rattle.verdicts.specs.Telling.{told, is_spent, Tallied}

-- Over the lent state goes that of the tally.
pub report_over : (lent left : List ℕ) (count number place : ℕ) (marks : State) → left ≡ marks → record { answer = record { number = number; input = 1; place = place; count = count }; state = left } ≡ reported lent count number place (in_state marks)
unfolding reported written_over
report_over lent left count number place marks over = ap (λ (u : State). record { answer = record { number = number; input = 1; place = place; count = count }; state = u }) over

module _ (tally : Tally) (budget : ℕ) where
  -- What is left where the budget is not spent.
  pub left_within : Tallied tally budget → (c : Course) → tally.course ≡ c → is_spent c ≡ false → tally.left ≤ budget
  left_within tallied c is some = tallied.fewer (ap is_spent is ∙ some)

  module _ (lent : List ℕ) (said : Judgement) where
    told_as : (c : Course) → tally.course ≡ c → said ≡ told lent budget (stands c tally.left tally.place tally.marks) → said ≡ told lent budget (standing tally)
    unfolding standing
    told_as c is says = says ∙ sym (ap (λ (d : Course). told lent budget (stands d tally.left tally.place tally.marks)) is)

    pub tell_missed : tally.course ≡ Missed → said ≡ reported lent (budget - tally.left) 1 tally.place (in_state tally.marks) → said ≡ told lent budget (standing tally)
    unfolding stands told ended
    tell_missed is says = told_as Missed is says

    pub tell_stuck : tally.course ≡ Stuck → said ≡ reported lent (budget - tally.left) 2 tally.place (in_state tally.marks) → said ≡ told lent budget (standing tally)
    unfolding stands told ended count_told
    tell_stuck is says = told_as Stuck is says

    pub tell_broken : tally.course ≡ Broken → said ≡ reported lent (budget - tally.left) 43 tally.place (in_state tally.marks) → said ≡ told lent budget (standing tally)
    unfolding stands told ended count_told
    tell_broken is says = told_as Broken is says

    pub tell_other : (number : ℕ) → tally.course ≡ Other number → said ≡ reported lent (budget - tally.left) number tally.place (in_state tally.marks) → said ≡ told lent budget (standing tally)
    unfolding stands told ended count_told
    tell_other number is says = told_as (Other number) is says

  -- Without a state.
  module _ (lent : List ℕ) (answer : Answer) where
    pub tell_fine : tally.course ≡ Fine → answer ≡ record { number = 0; input = 0; place = 0; count = budget - tally.left } → record { answer = answer; state = lent } ≡ told lent budget (standing tally)
    unfolding stands told ended
    tell_fine is says = told_as lent _ Fine is (ap (λ (a : Answer). record { answer = a; state = lent }) says)

    pub tell_wide : tally.course ≡ TooWide → answer ≡ record { number = 37; input = 1; place = tally.place; count = 0 } → record { answer = answer; state = lent } ≡ told lent budget (standing tally)
    unfolding stands told ended reported count_told written_over
    tell_wide is says = told_as lent _ TooWide is (ap (λ (a : Answer). record { answer = a; state = lent }) says)

    pub tell_many : tally.course ≡ TooMany → answer ≡ record { number = 44; input = 1; place = tally.place; count = 0 } → record { answer = answer; state = lent } ≡ told lent budget (standing tally)
    unfolding stands told ended reported count_told written_over
    tell_many is says = told_as lent _ TooMany is (ap (λ (a : Answer). record { answer = a; state = lent }) says)

    pub tell_spent : tally.course ≡ Spent → answer ≡ record { number = 3; input = 0; place = 0; count = budget } → record { answer = answer; state = lent } ≡ told lent budget (standing tally)
    unfolding stands told
    tell_spent is says = told_as lent _ Spent is (ap (λ (a : Answer). record { answer = a; state = lent }) says)
