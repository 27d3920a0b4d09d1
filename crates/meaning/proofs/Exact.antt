-- The answers are exactly those of the 0-approximation, past the refusals and within the budget: the table's actions and the 0-transition function go
-- together. Assumes nothing.
use Prim.Native.Nat.{ℕ, ◌≤◌, ◌<◌}
use native.Mathlib.Omega.{arith}
use mathlib.Core.Path.{◌≡◌, refl, ◌∙◌, ap}
use mathlib.Core.List.{List}
use mathlib.Core.Logic.{◌↔◌}
use lib.ListN.{length}
use borrow.Author.Tests.{eq-eqb}
use Rattle.meaning.specs.Limits
use Rattle.meaning.specs.Limits.{Limits, format}
use Rattle.meaning.specs.Requests.{Request}
use Rattle.meaning.specs.Reading.{got}
use Rattle.meaning.specs.Refusals.{settled}
use Rattle.meaning.specs.States.{State, first_state}
use Rattle.meaning.specs.Walk.{End, fine, table_does, table_step, missed_in, walked}
use Rattle.meaning.specs.Judging.{within, judge_got, judge, number, count}
use Rattle.meaning.specs.Approximation.{failed, Φ, Φ̂, least, Entailed}
use Rattle.meaning.specs.Paths.{Ending, paths, walked_along}
use Rattle.meaning.specs.Reported.{all_paths}
use Rattle.meaning.proofs.TestLaws.{pick_true}
use Rattle.meaning.proofs.KeptEnds.{Stuck, walked_stuck}
use Rattle.meaning.proofs.WithinLaws.{answered, walked_never, answered_fine, enough_within, spent_within}
use Rattle.meaning.proofs.SettledLaws.{Settled, settled_is, Fit, fit}
use Rattle.meaning.proofs.PathLaws.{walked_in_order}
use Rattle.meaning.proofs.RangeLaws.{Ranged, read_ranged}
use Rattle.meaning.proofs.EndLaws.{Ends, Says}
use Rattle.meaning.proofs.CoverLaws.{result_of, Together, together}
use Rattle.meaning.proofs.ExactEnds
use Rattle.meaning.proofs.ExactEnds.{effects_within, knowledge_within, end_says_by, Exactly, exactly}

-- The end of the whole walk.
abbrev pub walk_end : Limits → Request → End State
walk_end lim r = (walked r (first_state lim r.table)).end

-- THE WALK'S END AND THE 0-APPROXIMATION.
module _ (lim : Limits) (room : lim.fluents ≤ lim.state) (r : Request) (ranged : Ranged lim r.table) (fits : Fit r.plan) where
  acts : Together lim.state (table_does r.table) (Φ r.table)
  acts = together r.table lim.state (effects_within lim room r.table ranged) (knowledge_within lim room r.table ranged)

  -- Where a path ends, the function leads from the least initial a-state.
  pub leads : (g : Ending State) → Ends (all_paths lim r) g → Φ̂ r.table r.plan (least r.table) (result_of g)
  unfolding table_step
  leads = ExactEnds.leads lim room r ranged fits (table_does r.table) (Φ r.table) acts

  -- The walk is fine exactly where what is asked is entailed.
  pub end_entailed : (n : End State) → Stuck n → Says (missed_in r) (all_paths lim r) n → (answered n ≡ Limits.verified) ↔ Entailed r
  unfolding table_step
  end_entailed = ExactEnds.end_entailed lim room r ranged fits (table_does r.table) (Φ r.table) acts

-- A SETTLED REQUEST, whatever the budget.
module _ (lim : Limits) (room : lim.fluents ≤ lim.state) (b : List ℕ) (r : Request) (e : ℕ) (past : settled lim b ≡ got r e) where
  is_settled : Settled lim b r e
  is_settled = settled_is lim b r e past

  pub ranged : Ranged lim r.table
  ranged = read_ranged lim b r e is_settled.reads

  pub fits : Fit r.plan
  fits = fit r.plan is_settled.no_overlap

  pub says : Says (missed_in r) (all_paths lim r) (walk_end lim r)
  unfolding walked table_step
  says = end_says_by lim room r ranged fits (table_does r.table) (Φ r.table) (acts lim room r ranged fits)

  exact_answer : (n : ℕ) → n ≡ answered (walk_end lim r) → Exactly (Φ r.table) r n
  unfolding walked table_step
  exact_answer =
      exactly lim room r ranged fits (table_does r.table) (Φ r.table) (acts lim room r ranged fits) (walked_stuck r (first_state lim r.table))

  -- Where what is asked is entailed, the walk without a budget is verified.
  pub entailed_fine : Entailed r → (walked r (first_state lim r.table)).end ≡ fine
  entailed_fine k = answered_fine (walk_end lim r) (walked_never Limits.verified (λ z. omega arith) r _) ((exact_answer _ refl).entailed.1 k)

-- THE THEOREMS.
module _ (lim : Limits) (room : lim.fluents ≤ lim.state) (b lent : List ℕ) (budget : ℕ) (r : Request) (e : ℕ) (lent_length : length lent ≡ lim.state) (past : settled lim b ≡ got r e) where
  pub judged_by_walk : judge lim b lent budget ≡ within lent budget (walked r (first_state lim r.table))
  unfolding judge judge_got
  judged_by_walk = pick_true _ _ _ (eq-eqb _ _ lent_length) ∙ rw past

  within_budget : count lim r ≤ budget → number lim b lent budget ≡ answered (walk_end lim r)
  within_budget = enough_within lent budget _ _ judged_by_walk

  -- The judgement is what the list of paths says: the answer's count, place and state are those of the walk along it.
  pub in_order : judge lim b lent budget ≡ within lent budget (walked_along (missed_in r) (paths (table_step r.table) r.plan (first_state lim r.table)))
  in_order = judged_by_walk ∙ ap (within lent budget) (walked_in_order r (first_state lim r.table))

  -- The budget is spent exactly where the walk counts more.
  pub spent_exactly : (number lim b lent budget ≡ Limits.budget_spent) ↔ (budget < count lim r)
  spent_exactly = spent_within lent budget _ _ judged_by_walk (walked_never Limits.budget_spent (λ z. omega arith) r _)

  module _ (enough : count lim r ≤ budget) where
    exact : Exactly (Φ r.table) r (number lim b lent budget)
    exact = exact_answer lim room b r e past (number lim b lent budget) (within_budget enough)

    -- Not executable, exactly where the plan fails from the least initial a-state.
    pub stuck_exactly : (number lim b lent budget ≡ Limits.not_executable) ↔ Φ̂ r.table r.plan (least r.table) failed
    stuck_exactly = exact.fails

    -- Verified, exactly where the goals and the whether fluents are entailed.
    pub verified_exactly : (number lim b lent budget ≡ Limits.verified) ↔ Entailed r
    verified_exactly = exact.entailed

    -- A goal is missed, exactly where neither is so.
    pub missed_exactly : (number lim b lent budget ≡ Limits.goal_missed) ↔ ((Φ̂ r.table r.plan (least r.table) failed → ⊥) × (Entailed r → ⊥))
    missed_exactly = exact.neither

-- The format's own limits have the room.
pub format_room : format.fluents ≤ format.state
format_room = omega arith
