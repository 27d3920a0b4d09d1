-- Demand 2 of the call by cases (FORMAT 22.18): past the refusals, within the budget and where no action has too many cases, the answers are exactly those of
-- the 1-approximation. There the walk is that of the step without the limit, which goes together with the 1-transition function. Assumes nothing.
use Prim.Native.Nat.{ℕ, ◌≤◌, ◌<◌}
use native.Mathlib.Omega.{arith}
use mathlib.Core.Path.{◌≡◌, ◌∙◌, ap, subst}
use mathlib.Core.List.{List}
use mathlib.Core.Logic.{⊎_elim, ◌↔◌}
use lib.ListN.{length}
use borrow.Author.Tests.{eq-eqb}
use Rattle.meaning.specs.Limits
use Rattle.meaning.specs.Limits.{Limits}
use Rattle.meaning.specs.Requests.{Table, Request}
use Rattle.meaning.specs.Reading.{got}
use Rattle.meaning.specs.Refusals.{settled}
use Rattle.meaning.specs.States.{State, first_state}
use Rattle.meaning.specs.Walk.{End, fine, missed, stopped, Walked, walk, judged}
use Rattle.meaning.specs.Judging.{within, judge_got}
use Rattle.meaning.specs.ByCases.{walk_of, judge_by_cases, number, count}
use Rattle.meaning.specs.Approximation.{failed, least}
use Rattle.meaning.specs.CaseApproximation.{Φ₁, Φ̂₁, Entailed₁}
use Rattle.meaning.proofs.TestLaws.{pick_true}
use Rattle.meaning.proofs.KeptEnds.{Stuck}
use Rattle.meaning.proofs.WithinLaws.{answered, enough_within, spent_within}
use Rattle.meaning.proofs.RangeLaws.{Ranged}
use Rattle.meaning.proofs.ExactEnds.{effects_within, knowledge_within, Exactly, exactly}
use Rattle.meaning.proofs.Exact.{ranged, fits}
use Rattle.meaning.proofs.CoverLaws.{Together}
use Rattle.meaning.proofs.CaseSteps.{unlimited_does, unlimited_step}
use Rattle.meaning.proofs.CaseWalks.{limited, StuckByCases, cases_stuck, cases_never}
use Rattle.demands.proofs.CaseCovers.{cases_together}

-- Where no stop is for too many cases, each is at an item that can't be run.
few_stuck : (e : End State) → StuckByCases e → (answered e ≡ Limits.too_many_cases → ⊥) → Stuck e
few_stuck fine stuck few = tt
few_stuck (missed p s) stuck few = tt
few_stuck (stopped n p u) stuck few = ⊎_elim (λ is. is) (λ is. absurd (few is.0)) stuck

acts : (lim : Limits) (room : lim.fluents ≤ lim.state) (t : Table) → Ranged lim t → Together lim.state (unlimited_does t) (Φ₁ t)
acts lim room t ranged = cases_together t lim.state (omega (arith, room, ranged.fluents)) (effects_within lim room t ranged) (knowledge_within lim room t ranged)

-- THE THEOREMS, of a settled request, with a lent state of its length.
module _ (lim : Limits) (room : lim.fluents ≤ lim.state) (b lent : List ℕ) (budget : ℕ) (r : Request) (e : ℕ) (lent_length : length lent ≡ lim.state) (past : settled lim b ≡ got r e) where
  judged_by_walk : judge_by_cases lim b lent budget ≡ within lent budget (walk_of lim r)
  unfolding judge_by_cases judge_got
  judged_by_walk = pick_true _ _ _ (eq-eqb _ _ lent_length) ∙ rw past

  -- The budget is spent exactly where the walk counts more.
  pub cases_spent_exactly : (number lim b lent budget ≡ Limits.budget_spent) ↔ (budget < count lim r)
  cases_spent_exactly = spent_within lent budget _ _ judged_by_walk (cases_never Limits.budget_spent (λ z. omega arith) (λ z. omega arith) r _)

  module _ (enough : count lim r ≤ budget) (few : number lim b lent budget ≡ Limits.too_many_cases → ⊥) where
    is_end : number lim b lent budget ≡ answered (walk_of lim r).end
    is_end = enough_within lent budget _ _ judged_by_walk enough

    -- The walk is that without the limit.
    unlimited : walk_of lim r ≡ walk (unlimited_step r.table) r.plan (judged r) (first_state lim r.table)
    unlimited = ⊎_elim (λ same. same) (λ many. absurd (few (is_end ∙ ap answered many.1))) (limited r (first_state lim r.table))

    exact : Exactly (Φ₁ r.table) r (number lim b lent budget)
    unfolding unlimited_step
    exact =
        let in_range = ranged lim room b r e past in
        exactly lim room r in_range (fits lim room b r e past) (unlimited_does r.table) (Φ₁ r.table) (acts lim room r.table in_range)
        (subst (λ (w : Walked State). Stuck w.end) unlimited (few_stuck (walk_of lim r).end (cases_stuck r (first_state lim r.table)) (λ q. few (is_end ∙ q))))
        (number lim b lent budget) (is_end ∙ ap (λ (w : Walked State). answered w.end) unlimited)

    -- Not executable, exactly where the plan fails from the least initial a-state.
    pub cases_stuck_exactly : (number lim b lent budget ≡ Limits.not_executable) ↔ Φ̂₁ r.table r.plan (least r.table) failed
    cases_stuck_exactly = exact.fails

    -- Verified, exactly where the goals and the whether fluents are entailed.
    pub cases_verified_exactly : (number lim b lent budget ≡ Limits.verified) ↔ Entailed₁ r
    cases_verified_exactly = exact.entailed

    -- A goal is missed, exactly where neither is so.
    pub cases_missed_exactly : (number lim b lent budget ≡ Limits.goal_missed) ↔ ((Φ̂₁ r.table r.plan (least r.table) failed → ⊥) × (Entailed₁ r → ⊥))
    cases_missed_exactly = exact.neither
