-- Answer 44 is given exactly where the first path that stops, stops so and the count is within the budget, at that place; and a path stops so only at an action
-- that it meets in a state in which the action has too many cases, by induction on the plan (FORMAT 22.11, 22.12, 22.19). Answers 1 and 2 report the first miss
-- and the first stop on the paths, as those of the walk call do (FORMAT 22.14). Assumes nothing.
use Prim.Native.Nat.{ℕ, ◌≤◌}
use native.Mathlib.Omega.{arith}
use mathlib.Core.Path.{◌≡◌, refl, sym, ◌∙◌, ap, subst}
use mathlib.Core.Bool.{true, false}
use mathlib.Core.List.{List}
use mathlib.Core.Logic.{inl, inr, ⊎_elim, ◌↔◌}
use lib.ListN.{length}
use borrow.Author.Tests.{eq-eqb}
use Rattle.meaning.specs.Tests.{each_of}
use Rattle.meaning.specs.Limits
use Rattle.meaning.specs.Limits.{Limits}
use Rattle.meaning.specs.Requests.{Table, Sequence, done, item, Item, act, branching, Branches, none, branch, Request}
use Rattle.meaning.specs.Reading.{got}
use Rattle.meaning.specs.Refusals.{nowhere, settled}
use Rattle.meaning.specs.States.{State, first_state}
use Rattle.meaning.specs.Walk.{Concerned, no_state, in_state, stopped, Walked, refuses, Steps, missed_in, judged}
use Rattle.meaning.specs.Judging.{written_over, within, judge_got}
use Rattle.meaning.specs.Paths.{arrives, stops, paths, paths_item, paths_branch, stop_or_miss, walked_along}
use Rattle.meaning.specs.ByCases.{runs_by_cases, too_many, cases_does, cases_step, walked_by_cases, walk_of, judge_by_cases, number, count}
use Rattle.meaning.specs.CaseReported.{case_paths, FirstTooMany, MissesAt, NotByCases, SticksAt, MeetsIn, MeetsAt, MeetsUnder, TooManyAt}
use Rattle.meaning.proofs.TestLaws.{pick_true, pick-cases}
use Rattle.meaning.proofs.PickLaws.{has-picked}
use Rattle.meaning.proofs.WithinLaws.{answered, answered_stopped, enough_within, ended_within, missed_within, stopped_within}
use Rattle.meaning.proofs.PathLaws.{walk_along}
use Rattle.meaning.proofs.EndLaws.{first_map, Ends, arrives≢stops, all_arrive, ends_has, ends_one, went_on, stop_ends, stop_numbered, step_stops, first_stop_is, Says, end_says}
use Rattle.meaning.proofs.ReportLaws.{nothing_missed, entry_missed, StuckItem, stops_so, leads≢refuses, refuses_numbered, refuses_same}
use Rattle.meaning.proofs.CaseWalks.{StuckByCases, cases_stuck, cases_never}

-- A PATH THAT STOPS with another number than 2, where no state lacks a guard, stops at an action that it meets in a state in which the step is refused so.
module _ (step : Steps State ℕ) (free : step.lacks ≡ (λ _. nowhere)) (n : ℕ) (not_2 : n ≡ Limits.not_executable → ⊥) (p : ℕ) (u : Concerned State) where
  -- At one of these items.
  abbrev pub MetSo : (Item ℕ → State → Type 0) → Type 0
  MetSo Meets = (a : ℕ) × (v : State) × Meets (act p a) v × (step.does a v ≡ refuses n u)

  mutual
    unfolding paths

    pub stop_met : (c : Sequence ℕ) (s : State) → Ends (paths step c s) (stops n p u) → MetSo (MeetsIn step c s)
    stop_met done s h = absurd (arrives≢stops (sym (ends_one h)))
    stop_met (item i rest) s h =
        ⊎_elim
        (λ w. let m = stop_met_at i s (subst (Ends (paths_item step i s)) (sym w.4) w.3) in (m.0, m.1, inl m.2, m.3))
        (λ w.
        let m = stop_met rest w.0 w.2 in
        let x = ends_has (paths_item step i s) (arrives w.0) w.1 in
        (m.0, m.1, inr (x.0, w.0, x.1, x.2, m.2), m.3))
        (went_on (paths step rest) (paths_item step i s) (stops n p u) h)

    stop_met_at : (i : Item ℕ) (s : State) → Ends (paths_item step i s) (stops n p u) → MetSo (MeetsAt step i s)
    stop_met_at (act q a) s h =
        let w = step_stops n p u q a (step.does a s) (rw free at h) in
        (a, s, (ap (λ (i : ℕ). act i a) w.0, refl), w.1)
    stop_met_at (branching q bs) s h = let m = stop_met_under bs q s h in (m.0, m.1, inr m.2, m.3)

    stop_met_under : (bs : Branches ℕ) (q : ℕ) (s : State) → Ends (paths_branch step bs q s) (stops n p u) → MetSo (MeetsUnder step bs s)
    stop_met_under none q s h = absurd (not_2 (stop_numbered (ends_one h)))
    stop_met_under (branch c b bs) q s h =
        has-picked (λ xs. Ends xs (stops n p u)) (each_of (step.knows s) c) _ _ h
        (λ on k. let m = stop_met b s k in (m.0, m.1, inl (on, m.2), m.3))
        (λ off k. let m = stop_met_under bs q s k in (m.0, m.1, inr (off, m.2), m.3))

-- The step by cases is refused with 44 where the action has too many.
refused_many : (t : Table) (a : ℕ) (s : State) (u : Concerned State) → cases_does t a s ≡ refuses Limits.too_many_cases u → too_many t a s ≡ true
unfolding cases_does
refused_many t a s u e =
    pick-cases _ _ _ e (λ many _. many) λ _ k.
    pick-cases _ _ _ k (λ _ is. absurd (leads≢refuses is)) (λ _ is. absurd (omega (arith, refuses_numbered is)))

-- It is refused with 2 where the action can't be run by cases, in the state named.
stuck_by_cases : (t : Table) (a : ℕ) (s u : State) → cases_does t a s ≡ refuses Limits.not_executable (in_state u) → runs_by_cases t a u ≡ false
unfolding cases_does
stuck_by_cases t a s u e =
    pick-cases _ _ _ e (λ _ k. absurd (omega (arith, refuses_numbered k))) λ _ k.
    pick-cases _ _ _ k (λ _ l. absurd (leads≢refuses l)) (λ off l. subst (λ (v : State). runs_by_cases t a v ≡ false) (refuses_same l) off)

-- A SETTLED REQUEST, with a lent state of its length.
module _ (lim : Limits) (b lent : List ℕ) (budget : ℕ) (r : Request) (e : ℕ) (lent_length : length lent ≡ lim.state) (past : settled lim b ≡ got r e) where
  pub cases_by_walk : judge_by_cases lim b lent budget ≡ within lent budget (walk_of lim r)
  unfolding judge_by_cases judge_got
  cases_by_walk = pick_true _ _ _ (eq-eqb _ _ lent_length) ∙ rw past

  along : walk_of lim r ≡ walked_along (missed_in r) (case_paths lim r)
  unfolding walked_by_cases judged
  along = walk_along (missed_in r) (cases_step r.table) r.plan (first_state lim r.table)

  -- The judgement is what the list of paths says.
  pub in_case_order : judge_by_cases lim b lent budget ≡ within lent budget (walked_along (missed_in r) (case_paths lim r))
  in_case_order = cases_by_walk ∙ ap (within lent budget) along

  pub cases_say : Says (missed_in r) (case_paths lim r) (walk_of lim r).end
  cases_say = subst (λ (w : Walked State). Says (missed_in r) (case_paths lim r) w.end) (sym along) (end_says (missed_in r) (case_paths lim r))

  -- A stop with 44 is the first on the paths, and has no state.
  many_told : (p : ℕ) (u : Concerned State) → (walk_of lim r).end ≡ stopped Limits.too_many_cases p u → (u ≡ no_state) × FirstTooMany (case_paths lim r) p
  many_told p u q =
      let none : u ≡ no_state = ⊎_elim (λ is. absurd (omega (arith, is.0))) (λ is. is.1) (subst StuckByCases q (cases_stuck r (first_state lim r.table))) in
      let says = subst (Says (missed_in r) (case_paths lim r)) q cases_say in
      (none, rw none at says)

  -- Too many cases, exactly where the count is within the budget and the first path that stops, stops so.
  pub many_exactly : (number lim b lent budget ≡ Limits.too_many_cases) ↔ ((count lim r ≤ budget) × ((p : ℕ) × FirstTooMany (case_paths lim r) p))
  unfolding walked_along stop_or_miss
  many_exactly = (
    λ q.
        let w = ended_within lent budget _ _ cases_by_walk (λ z. omega (arith, q, z)) in
        let m = answered_stopped Limits.too_many_cases (λ z. omega arith) (λ z. omega arith) (walk_of lim r).end (sym w.2 ∙ q) in
        (w.0, (m.0, (many_told m.0 m.1 m.2).1)),
    λ w.
        enough_within lent budget _ _ cases_by_walk w.0
        ∙ ap (λ (v : Walked State). answered v.end) along
        ∙ rw (first_stop_is (case_paths lim r) Limits.too_many_cases w.1.0 no_state w.1.1),
  )

  -- What the first such stop is: an action of the plan, met in a state in which it has too many cases.
  pub many_at : (p : ℕ) → FirstTooMany (case_paths lim r) p → TooManyAt lim r p
  unfolding cases_step
  many_at p f =
      let m = stop_met (cases_step r.table) refl Limits.too_many_cases (λ z. omega arith) p no_state r.plan (first_state lim r.table) (stop_ends (case_paths lim r) Limits.too_many_cases p no_state f) in
      record { path = f; action = m.0; state = m.1; met = m.2; many = refused_many r.table m.0 m.1 no_state m.3 }

  -- Where it is 44, the place is that of the first such stop, and the lent state is as it was.
  pub many_there : number lim b lent budget ≡ Limits.too_many_cases → TooManyAt lim r (judge_by_cases lim b lent budget).answer.place × ((judge_by_cases lim b lent budget).state ≡ lent)
  unfolding written_over
  many_there q =
      stopped_within lent budget _ _ cases_by_walk (λ p s. TooManyAt lim r p × (s ≡ lent)) Limits.too_many_cases (λ z. omega arith) (λ z. omega arith) (λ z. omega arith) q
      (λ p u is. let t = many_told p u is in (many_at p t.1, ap (written_over lent) t.0))

  -- Where it is 1, its place and the state left are those of the first miss.
  pub cases_missed_there : number lim b lent budget ≡ Limits.goal_missed → MissesAt lim r (judge_by_cases lim b lent budget).answer.place (judge_by_cases lim b lent budget).state
  cases_missed_there q =
      missed_within lent budget _ _ cases_by_walk (MissesAt lim r) (cases_never Limits.goal_missed (λ z. omega arith) (λ z. omega arith) r (first_state lim r.table)) q
      (λ p u is.
      let w = subst (Says (missed_in r) (case_paths lim r)) is cases_say in
      record {
        all_arrive = all_arrive (case_paths lim r) w.0;
        path = first_map (λ x none v at. nothing_missed r v (none v at)) (λ x at. at.0) w.1;
        entry = entry_missed r u p w.1.so.1;
      })

  -- Where it is 2, they are those of the first stop, at an item that can't be run.
  pub cases_stopped_there : number lim b lent budget ≡ Limits.not_executable → SticksAt lim r (judge_by_cases lim b lent budget).answer.place (judge_by_cases lim b lent budget).state
  unfolding written_over cases_step
  cases_stopped_there q =
      stopped_within lent budget _ _ cases_by_walk (SticksAt lim r) Limits.not_executable (λ z. omega arith) (λ z. omega arith) (λ z. omega arith) q
      (λ p u is.
      let state = ⊎_elim (λ s. s.1) (λ s. absurd (omega (arith, s.0))) (subst StuckByCases is (cases_stuck r (first_state lim r.table))) in
      rw state.1 (sticks_at p state.0 (rw state.1 at is)))
    where
      Not : ℕ → State → Type 0
      Not a v = runs_by_cases r.table a v ≡ false

      by_item : (i : Item ℕ) (u : State) → StuckItem Not i u → NotByCases r.table i u
      by_item (act p a) u not = not
      by_item (branching p bs) u not = not

      sticks_at : (p : ℕ) (u : State) → (walk_of lim r).end ≡ stopped Limits.not_executable p (in_state u) → SticksAt lim r p u
      sticks_at p u is =
          let w = subst (Says (missed_in r) (case_paths lim r)) is cases_say in
          let v = stops_so (cases_does r.table) Not (stuck_by_cases r.table) r.plan (first_state lim r.table) p u (stop_ends (case_paths lim r) Limits.not_executable p (in_state u) w) in
          record { path = w; stop = v.0; in_plan = v.1; stands = v.2; not_run = by_item v.0 u v.3 }
