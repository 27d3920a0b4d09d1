-- Where the walk call verifies a request, the call by cases does with the same budget, with a count no larger, or some action has too many cases (FORMAT 22.21).
-- The step by cases does no less than the table's, since each filling of a state knows what the state does, and so do the states after it. Where the limit
-- stops the walk, it has counted no more. Assumes nothing.
use Prim.Native.Nat.{ℕ, ◌*◌, ◌≤◌, ◌<◌}
use native.Mathlib.Omega.{arith}
use mathlib.Core.Path.{◌≡◌, refl, ◌∙◌, ap}
use mathlib.Core.Bool.{true}
use mathlib.Core.List.{List, map}
use mathlib.Core.Logic.{◌⊎◌, inl, inr, ⊎_elim}
use Rattle.meaning.specs.Tests.{Has}
use Rattle.meaning.specs.Limits
use Rattle.meaning.specs.Limits.{Limits}
use Rattle.meaning.specs.Requests.{Effect, Table, Request}
use Rattle.meaning.specs.Reading.{got}
use Rattle.meaning.specs.Refusals.{settled}
use Rattle.meaning.specs.States.{State, first_state, can_be_run, state_after}
use Rattle.meaning.specs.Walk.{Walked, judged, walked}
use Rattle.meaning.specs.Judging
use Rattle.meaning.specs.Judging.{judge}
use Rattle.meaning.specs.ByCases.{upward, complete, runs_by_cases, after_cases, judge_by_cases, number, count}
use Rattle.meaning.proofs.TestLaws.{pick_true, has_each, map_has}
use Rattle.meaning.proofs.StateLaws.{known_within, after_length}
use Rattle.meaning.proofs.ToldLaws.{first_length}
use Rattle.meaning.proofs.FillingLaws.{filling_length, filling_more, cases_length, cases_known}
use Rattle.meaning.proofs.Exact.{fits}
use Rattle.meaning.proofs.WithinLaws.{answered, enough_within}
use Rattle.meaning.proofs.VerifiedLaws.{verified_so}
use Rattle.meaning.proofs.CaseSteps.{unlimited_does, unlimited_step}
use Rattle.meaning.proofs.CaseWalks.{unlimited_walk, counts_no_more}
use Rattle.demands.proofs.CaseReports.{cases_by_walk}
use Rattle.demands.proofs.MoreKnown.{NoWorse, KnowsMore, DoesMore, runs_more, after_more, step_more}
use Rattle.demands.proofs.PartsAlike.{judged_follows}
use Rattle.demands.proofs.MoreFacts.{effects_near}
use Rattle.demands.proofs.CaseVerified.{verified_cases}

-- THE STEP BY CASES does no less than the table's.
module _ (t : Table) (size : ℕ) (effects_within : (e : Effect) → Has t.effects e → e.literal < 2 * size) where
  -- A complete filling knows more.
  module _ (s u : State) (more : KnowsMore size s u) where
    filled_more : (v : State) → Has (complete t u) v → KnowsMore size s v
    unfolding complete
    filled_more v h =
        record {
          first = more.first;
          second = filling_length (upward 0 t.fluents) u v h ∙ more.second;
          more = λ l e. filling_more (upward 0 t.fluents) u v h l (more.more l e);
        }

    module _ (a : ℕ) where
      runs_filled : can_be_run t a s ≡ true → runs_by_cases t a u ≡ true
      unfolding runs_by_cases
      runs_filled runs = has_each (can_be_run t a) (complete t u) (λ v h. runs_more t a size s v (filled_more v h) runs)

      after_filled : KnowsMore size (state_after t a s) (after_cases t a u)
      after_filled =
          record {
            first = after_length t a s ∙ more.first;
            second = cases_length t a u ∙ more.second;
            more = λ l e.
                cases_known t a u l (omega (arith, known_within (state_after t a s) l e, after_length t a s, more.first, more.second))
                ∙ has_each _ (map (state_after t a) (complete t u)) λ x h.
                let w = map_has (state_after t a) (complete t u) x h in
                rw w.2 ((after_more t a size s w.0 (filled_more w.0 w.1) effects_within).more l e);
          }

  cases_more : DoesMore t size (unlimited_step t)
  unfolding unlimited_step unlimited_does
  cases_more =
      record {
        knows = refl;
        lacks = refl;
        after = after_cases t;
        leads = λ a s u more runs. pick_true _ _ _ (runs_filled s u more a runs);
        more = λ a s u more. after_filled s u more a;
      }

-- A SETTLED REQUEST whose walk is verified.
module _ (lim : Limits) (room : lim.fluents ≤ lim.state) (b : List ℕ) (r : Request) (e : ℕ) (past : settled lim b ≡ got r e) where
  abbrev first : State
  first = first_state lim r.table

  unlimited_more : NoWorse (unlimited_walk r first) (walked r first)
  unfolding walked
  unlimited_more =
      step_more r.table lim.state (unlimited_step r.table) (cases_more r.table lim.state (effects_near lim room b r e past)) r.plan (fits lim room b r e past) (judged r) (judged r)
      (judged_follows lim.state r r (λ l h. h) (λ f h. h)) first first
      (record { first = first_length lim r.table; second = first_length lim r.table; more = λ l h. h })

-- THE TWO CALLS, with one budget.
module _ (lim : Limits) (room : lim.fluents ≤ lim.state) (request lent : List ℕ) (budget : ℕ) where
  pub cases_verify_more : Judging.number lim request lent budget ≡ Limits.verified
      → ((number lim request lent budget ≡ Limits.verified) × ((judge_by_cases lim request lent budget).answer.count ≤ (judge lim request lent budget).answer.count))
      ⊎ (number lim request lent budget ≡ Limits.too_many_cases)
  cases_verify_more verified =
      let v = verified_so lim request lent budget verified in
      let r = v.says in
      let grown = unlimited_more lim room request r v.end v.settles v.fine in
      ⊎_elim
      (λ same.
      let counts : count lim r ≡ (unlimited_walk r (first_state lim r.table)).count = ap (λ (w : Walked State). w.count) same in
      let answer = verified_cases lim request lent budget v.sized r v.end v.settles (ap (λ (w : Walked State). w.end) same ∙ grown.0) (omega (arith, counts, grown.1, v.within)) in
      inl (answer.0, omega (arith, answer.1, counts, grown.1, v.counts)))
      (λ stop.
      let enough : count lim r ≤ budget = omega (arith, stop.2, grown.1, v.within) in
      inr (enough_within lent budget _ _ (cases_by_walk lim request lent budget r v.end v.sized v.settles) enough ∙ ap answered stop.1))
      (counts_no_more r (first_state lim r.table))
