-- The line that answer 2 of the call by cases carries is that of the item at its place in the state that it leaves, and every other answer, 44 among them, carries
-- none (FORMAT 18.10 to 18.12, 22.14). An action that can't be run by cases can't be run as known, so none of its lines is known true there. Assumes nothing.
use Prim.Native.Nat.{ℕ, ◌≤◌}
use native.Mathlib.Omega.{arith}
use mathlib.Core.Path.{◌≡◌, refl, sym, ◌∙◌, ap}
use mathlib.Core.Bool.{false}
use mathlib.Core.List.{List, []}
use mathlib.Core.Logic.{◌⊎◌}
use lib.ListN.{length, get_or}
use borrow.Author.Tests.{eq-eqb}
use Rattle.meaning.specs.Limits
use Rattle.meaning.specs.Limits.{Limits}
use Rattle.meaning.specs.Requests.{Table, Item, act, branching, Request}
use Rattle.meaning.specs.Reading.{got}
use Rattle.meaning.specs.Refusals.{settled}
use Rattle.meaning.specs.Lines.{executability_of}
use Rattle.meaning.specs.States.{State, can_be_run}
use Rattle.meaning.specs.Asking.{asked, line_of, line_at, line_told, line_got}
use Rattle.meaning.specs.ByCases.{runs_by_cases, judge_by_cases, line_by_cases, number}
use Rattle.meaning.specs.Reported.{pair_of, ItemIn, item_place, NotRun, Nearest, item_line}
use Rattle.meaning.specs.CaseReported.{NotByCases}
use Rattle.meaning.proofs.TestLaws.{clash, by-test, pick_true}
use Rattle.meaning.proofs.SettledLaws.{settled_is}
use Rattle.meaning.proofs.PairLaws.{runs_pair}
use Rattle.meaning.proofs.FillLaws.{known_runs}
use Rattle.meaning.proofs.ItemBytes.{items_there}
use Rattle.meaning.proofs.ReportedLine.{line_of_item, line_not, not_run_near, same_action}
use Rattle.demands.proofs.CaseReports.{cases_stopped_there}

-- NOT BY CASES, and so not as known.
pub not_known : (t : Table) (a : ℕ) (s : State) → runs_by_cases t a s ≡ false → can_be_run t a s ≡ false
not_known t a s not = by-test (can_be_run t a s) (λ can. clash (known_runs t a s can) not) (λ f. f)

-- OTHER ANSWERS have the line 0.
module _ (lim : Limits) (b lent : List ℕ) (budget : ℕ) where
  pub cases_no_line : (number lim b lent budget ≡ Limits.not_executable → ⊥) → line_by_cases lim b lent budget ≡ 0
  unfolding line_by_cases
  cases_no_line other = line_not _ b (judge_by_cases lim b lent budget) other (settled lim b)

  -- So has 44.
  pub no_line_many : number lim b lent budget ≡ Limits.too_many_cases → line_by_cases lim b lent budget ≡ 0
  no_line_many q = cases_no_line (λ k. omega (arith, q, k))

  -- ANSWER 2 of a settled request.
  module _ (r : Request) (e : ℕ) (past : settled lim b ≡ got r e) where
    -- The line is that of the item which stands at the place, in the state left.
    pub cases_line_there : number lim b lent budget ≡ Limits.not_executable → (i : Item ℕ) → ItemIn r.plan i → item_place i ≡ (judge_by_cases lim b lent budget).answer.place
        → line_by_cases lim b lent budget ≡ item_line r.table i (judge_by_cases lim b lent budget).state
    unfolding line_by_cases line_got line_told
    cases_line_there stuck i within at =
        let is : line_by_cases lim b lent budget ≡ line_told r.table b (judge_by_cases lim b lent budget) = rw past in
        is
        ∙ pick_true _ _ _ (eq-eqb _ _ stuck)
        ∙ ap (λ (p : ℕ). line_at r.table (get_or b p 0) (judge_by_cases lim b lent budget).state) (sym at)
        ∙ line_of_item r.table b r.table.actions i (items_there lim b r e (settled_is lim b r e past).reads i within).byte (judge_by_cases lim b lent budget).state

    -- Where it is placed at an action, the line is 0 where the action has none; else none is short by fewer, and none before it by as few (FORMAT 18.21).
    pub cases_line_missing : lim.fluents ≤ lim.state → length lent ≡ lim.state → number lim b lent budget ≡ Limits.not_executable
        → (a : ℕ) → ItemIn r.plan (act (judge_by_cases lim b lent budget).answer.place a)
        → ((executability_of r.table a ≡ []) × (line_by_cases lim b lent budget ≡ 0))
        ⊎ Nearest (judge_by_cases lim b lent budget).state (executability_of r.table a) (line_by_cases lim b lent budget)
    unfolding item_place item_line
    cases_line_missing room lent_length stuck a within =
        let there = cases_stopped_there lim b lent budget r e lent_length past stuck in
        let u : State = (judge_by_cases lim b lent budget).state in
        let place : ℕ = (judge_by_cases lim b lent budget).answer.place in
        let not = same_action lim room b lent budget r e lent_length past place a within there.stop there.in_plan there.stands u (not_run there.stop u there.not_run) in
        let is : line_by_cases lim b lent budget ≡ line_of (asked r.table a u) = cases_line_there stuck (act place a) within refl in
        rw is (not_run_near r.table a u not)
      where
        not_run : (i : Item ℕ) (u : State) → NotByCases r.table i u → NotRun r.table i (pair_of u)
        not_run (act p c) u not = runs_pair r.table c u ∙ not_known r.table c u not
        not_run (branching p bs) u not = not
