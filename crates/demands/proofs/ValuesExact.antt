-- Demand 2 of the values call (FORMAT 26.33): past the refusals it answers what the list of its paths says. 3 where the count is above the budget; else 2 where some
-- path stops, 0 where none does and no end state misses an entry, and 1 otherwise. By the end of the walk, which the list of paths tells. Assumes nothing.
use Prim.Native.Nat.{ℕ, ◌≤◌, ◌<◌}
use native.Mathlib.Omega.{arith}
use mathlib.Core.Path.{◌≡◌, refl, sym, ◌∙◌, ap, subst}
use mathlib.Core.List.{List}
use mathlib.Core.Logic.{◌↔◌}
use lib.ListN.{length}
use borrow.Author.Tests.{eq-eqb}
use Rattle.meaning.specs.Tests.{Has}
use Rattle.meaning.specs.Limits
use Rattle.meaning.specs.Limits.{Limits}
use Rattle.meaning.specs.Requests.{Request}
use Rattle.meaning.specs.Reading.{got, literals_in}
use Rattle.meaning.specs.Refusals.{Found, nowhere}
use Rattle.meaning.specs.States.{State}
use Rattle.meaning.specs.Walk.{Concerned, in_state, End, fine, missed, stopped, Walked}
use Rattle.meaning.specs.Paths.{arrives, stops, Path, walked_along}
use Rattle.meaning.specs.Reported.{Arrives}
use Rattle.meaning.specs.Judging.{within, judge_got}
use Rattle.meaning.specs.ValueStates.{first_state, table_step, missed_in, judged, walked}
use Rattle.meaning.specs.Valued.{settled_values, walk_of, judge_values, number, count}
use Rattle.demands.specs.ValuesReported.{value_paths, SomeStops, SomeMisses}
use Rattle.meaning.proofs.TestLaws.{pick_true}
use Rattle.meaning.proofs.KeptEnds.{Stuck}
use Rattle.meaning.proofs.WithinLaws.{answered, Never, answered_fine, answered_missed, answered_stopped, answered_else, enough_within, spent_within}
use Rattle.meaning.proofs.PathLaws.{walk_along}
use Rattle.meaning.proofs.EndLaws.{first_has, Stops, has_ends, all_arrive, Says, end_says, fine_each}
use Rattle.meaning.proofs.GuardedExact.{says_fine, says_missed}
use Rattle.meaning.proofs.ValueAnswers.{walked_values_stuck, walked_values_never}

-- Where a path stops, the walk does.
says_stopped : (miss : State → Found) (xs : List (Path State)) (e : End State) → Says miss xs e → Stops xs → (n p : ℕ) × (u : Concerned State) × (e ≡ stopped n p u)
says_stopped miss xs fine says stop = absurd (says.0 stop)
says_stopped miss xs (missed p s) says stop = absurd (says.0 stop)
says_stopped miss xs (stopped n p u) says stop = (n, p, u, refl)

-- A SETTLED VALUES REQUEST, with a lent state of its length.
module _ (lim : Limits) (b lent : List ℕ) (budget : ℕ) (r : Request) (e : ℕ) (lent_length : length lent ≡ lim.state) (past : settled_values lim b ≡ got r e) where
  abbrev walk_end : End State
  walk_end = (walk_of lim b r).end

  abbrev miss : State → Found
  miss = missed_in (literals_in b) r

  pub values_by_walk : judge_values lim b lent budget ≡ within lent budget (walk_of lim b r)
  unfolding judge_values judge_got
  values_by_walk = pick_true _ _ _ (eq-eqb _ _ lent_length) ∙ rw past

  along : walk_of lim b r ≡ walked_along miss (value_paths lim b r)
  unfolding walk_of walked judged
  along = walk_along miss (table_step (literals_in b) r.table) r.plan (first_state (literals_in b) lim r.table)

  -- The judgement is what the list of paths says: the answer's count, place and state are those of the walk along it.
  pub in_values_order : judge_values lim b lent budget ≡ within lent budget (walked_along miss (value_paths lim b r))
  in_values_order = values_by_walk ∙ ap (within lent budget) along

  end_told : Says miss (value_paths lim b r) walk_end
  end_told = subst (λ (w : Walked State). Says miss (value_paths lim b r) w.end) (sym along) (end_says miss (value_paths lim b r))

  end_stuck : Stuck walk_end
  unfolding walk_of
  end_stuck = walked_values_stuck (literals_in b) r _

  end_never : (i : ℕ) → (i ≡ Limits.not_executable → ⊥) → Never i walk_end
  unfolding walk_of
  end_never i not_2 = walked_values_never (literals_in b) r i not_2 _

  -- The budget is spent exactly where the walk counts more.
  pub values_spent_exactly : (number lim b lent budget ≡ Limits.budget_spent) ↔ (budget < count lim b r)
  values_spent_exactly = spent_within lent budget _ _ values_by_walk (end_never Limits.budget_spent (λ z. omega arith))

  module _ (enough : count lim b r ≤ budget) where
    within_budget : number lim b lent budget ≡ answered walk_end
    within_budget = enough_within lent budget _ _ values_by_walk enough

    -- Not executable, exactly where some path stops at an item that can't be run.
    pub values_stuck_exactly : (number lim b lent budget ≡ Limits.not_executable) ↔ SomeStops (value_paths lim b r)
    values_stuck_exactly = (
      λ q.
          let m = answered_stopped Limits.not_executable (λ z. omega arith) (λ z. omega arith) walk_end (sym within_budget ∙ q) in
          let stuck = subst Stuck m.2 end_stuck in
          let f = subst (Says miss (value_paths lim b r)) m.2 end_told in
          record { path = f.here; one = first_has f; place = m.0; state = stuck.1.0; stop = f.so ∙ ap (stops Limits.not_executable m.0) stuck.1.1 },
      λ w.
          let ends = has_ends (value_paths lim b r) w.path (stops Limits.not_executable w.place (in_state w.state)) w.one w.stop in
          let m = says_stopped miss (value_paths lim b r) walk_end end_told (Limits.not_executable, w.place, in_state w.state, ends) in
          within_budget ∙ ap answered m.3 ∙ (subst Stuck m.3 end_stuck).0,
    )

    -- Verified, exactly where each path arrives, and misses nothing.
    pub values_fine_exactly : (number lim b lent budget ≡ Limits.verified)
        ↔ ((x : Path State) → Has (value_paths lim b r) x → (u : State) × (x.ending ≡ arrives u) × (missed_in (literals_in b) r u ≡ nowhere))
    values_fine_exactly =
        let each = fine_each miss (value_paths lim b r) in (
          λ q.
              let is_fine = answered_fine walk_end (end_never Limits.verified (λ z. omega arith)) (sym within_budget ∙ q) in
              each.0 (subst (Says miss (value_paths lim b r)) is_fine end_told),
          λ all. let w = each.1 all in within_budget ∙ says_fine miss (value_paths lim b r) walk_end end_told w.0 w.1,
        )

    -- A goal missed, exactly where each path arrives and one misses an entry.
    pub values_missed_exactly : (number lim b lent budget ≡ Limits.goal_missed)
        ↔ (((x : Path State) → Has (value_paths lim b r) x → Arrives x) × SomeMisses (missed_in (literals_in b) r) (value_paths lim b r))
    values_missed_exactly = (
      λ q.
          let m = answered_missed walk_end (end_never Limits.goal_missed (λ z. omega arith)) (sym within_budget ∙ q) in
          let says = subst (Says miss (value_paths lim b r)) m.2 end_told in
          let f = says.1 in
          (all_arrive (value_paths lim b r) says.0, record { path = f.here; one = first_has f; state = m.1; end = f.so.0; place = m.0; entry = f.so.1 }),
      λ w. let x = w.1 in within_budget ∙ says_missed miss (value_paths lim b r) walk_end end_told w.0 x.path x.state x.place x.one x.end x.entry,
    )

    -- So it is 1 where it is neither 2 nor 0.
    pub values_missed_otherwise : (number lim b lent budget ≡ Limits.not_executable → ⊥) → (number lim b lent budget ≡ Limits.verified → ⊥) → number lim b lent budget ≡ Limits.goal_missed
    values_missed_otherwise not_2 not_0 = within_budget ∙ answered_else walk_end (end_never (answered walk_end) (λ q. not_2 (within_budget ∙ q))) (λ q. not_0 (within_budget ∙ q))
