-- Demand 2 of the guarded call (FORMAT 21.23, 21.24): past the refusals it answers what the list of its paths says. 43 and 2 are the first stop on the
-- paths, by its number; the place and the state of 43 are those of that stop, and the guard there is the first that is not true. Assumes nothing.
use Prim.Native.Nat.{ℕ, ◌≤◌, ◌<◌}
use native.Mathlib.Omega.{arith}
use mathlib.Core.Path.{◌≡◌, refl, sym, ◌∙◌, ap, subst}
use mathlib.Core.Bool.{true, false}
use mathlib.Core.List.{List, [], ◌∷◌}
use mathlib.Core.Logic.{⊎_elim, ◌↔◌}
use lib.ListN.{length}
use borrow.Author.Tests.{eq-eqb}
use Rattle.meaning.specs.Tests.{Has}
use Rattle.meaning.specs.Limits
use Rattle.meaning.specs.Limits.{Limits}
use Rattle.meaning.specs.Requests.{Entry}
use Rattle.meaning.specs.Reading.{got}
use Rattle.meaning.specs.Refusals.{Found, nowhere, at}
use Rattle.meaning.specs.States.{State, known, first_state}
use Rattle.meaning.specs.Walk.{Concerned, in_state, End, fine, missed, stopped, Walked, first_missed, missed_in}
use Rattle.meaning.specs.Judging.{written_over, within, judge_got}
use Rattle.meaning.specs.Guards.{GuardedRequest, settled_guarded, walk_of, judge_guarded, number, count}
use Rattle.meaning.specs.Approximation.{true_in}
use Rattle.meaning.specs.Paths.{arrives, Path, stop_or_miss, walked_along}
use Rattle.meaning.specs.Reported.{First, pair_of, Arrives}
use Rattle.meaning.specs.GuardedReported.{met_paths, FirstStop, BrokenAt}
use Rattle.meaning.proofs.TestLaws.{pick_true, pick-cases}
use Rattle.meaning.proofs.RefusalLaws.{at≢nowhere, at_same}
use Rattle.meaning.proofs.KeptEnds.{Sticks, StuckGuarded, guarded_stuck}
use Rattle.meaning.proofs.WithinLaws.{answered, Never, guarded_never, answered_fine, answered_missed, answered_stopped, answered_else, enough_within, spent_within, stopped_within}
use Rattle.meaning.proofs.PathLaws.{guarded_in_order}
use Rattle.meaning.proofs.EndLaws.{first_here, first_later, first_has, Ends, Stops, arrives≢stops, has_ends, all_arrive, stop_ends, first_stop_is, miss_ends, Says, end_says, fine_each}
use Rattle.meaning.proofs.PairLaws.{true_in_pair}

-- WHAT MAKES AN END. By what its walk says of the list of paths.
module _ (miss : State → Found) (xs : List (Path State)) where
  pub says_fine : (e : End State) → Says miss xs e → (Stops xs → ⊥) → ((u : State) → Ends xs (arrives u) → miss u ≡ nowhere) → answered e ≡ Limits.verified
  says_fine fine says none all = refl
  says_fine (missed p u) says none all = absurd (at≢nowhere (sym says.1.so.1 ∙ all u (miss_ends miss xs p u says.1)))
  says_fine (stopped m p u) says none all = absurd (none (m, p, u, stop_ends xs m p u says))

  pub says_missed : (e : End State) → Says miss xs e → ((x : Path State) → Has xs x → Arrives x) → (x : Path State) (u : State) (p : ℕ) → Has xs x → x.ending ≡ arrives u → miss u ≡ at p
      → answered e ≡ Limits.goal_missed
  says_missed fine says all x u p has is q = absurd (at≢nowhere (sym q ∙ says.1 u (has_ends xs x (arrives u) has is)))
  says_missed (missed i v) says all x u p has is q = refl
  says_missed (stopped m i v) says all x u p has is q = absurd (arrives≢stops (sym (all says.here (first_has says)).1 ∙ says.so))

-- GUARDS. Where a state lacks one, it is the first that is not true there.
first_lacked : (u : State) (es : List Entry) (p : ℕ) → first_missed (known u) es ≡ at p
    → First (λ (x : Entry). true_in (pair_of u) x.value ≡ true) (λ x. (true_in (pair_of u) x.value ≡ false) × (x.place ≡ p)) es
unfolding first_missed
first_lacked u [] p q = absurd (at≢nowhere (sym q))
first_lacked u (x ∷ es) p q =
    pick-cases _ _ _ q (λ t k. first_later (true_in_pair u x.value ∙ t) (first_lacked u es p k)) (λ f k. first_here (true_in_pair u x.value ∙ f, at_same k))

-- A SETTLED GUARDED REQUEST, with a lent state of its length.
module _ (lim : Limits) (b lent : List ℕ) (budget : ℕ) (g : GuardedRequest) (e : ℕ) (lent_length : length lent ≡ lim.state) (past : settled_guarded lim b ≡ got g e) where
  abbrev pub walk_end : End State
  walk_end = (walk_of lim g).end

  pub guarded_by_walk : judge_guarded lim b lent budget ≡ within lent budget (walk_of lim g)
  unfolding judge_guarded judge_got
  guarded_by_walk = pick_true _ _ _ (eq-eqb _ _ lent_length) ∙ rw past

  along : walk_of lim g ≡ walked_along (missed_in g.request) (met_paths lim g)
  unfolding walk_of
  along = guarded_in_order g.request g.guards (first_state lim g.request.table)

  -- The judgement is what the list of paths says: the answer's count, place and state are those of the walk along it.
  pub in_guarded_order : judge_guarded lim b lent budget ≡ within lent budget (walked_along (missed_in g.request) (met_paths lim g))
  in_guarded_order = guarded_by_walk ∙ ap (within lent budget) along

  pub guarded_says : Says (missed_in g.request) (met_paths lim g) walk_end
  guarded_says = subst (λ (w : Walked State). Says (missed_in g.request) (met_paths lim g) w.end) (sym along) (end_says (missed_in g.request) (met_paths lim g))

  pub end_stuck : StuckGuarded g.guards walk_end
  unfolding walk_of
  end_stuck = guarded_stuck g.guards g.request (first_state lim g.request.table)

  -- No stop has another number than 2 and 43.
  pub end_never : (i : ℕ) → (i ≡ Limits.not_executable → ⊥) → (i ≡ Limits.guard_broken → ⊥) → Never i walk_end
  unfolding walk_of
  end_never i not_2 not-43 = guarded_never i not_2 not-43 g.request g.guards _

  -- A stop of the walk is the first on the paths, and has a state.
  stop_told : (n p : ℕ) (u : Concerned State) → walk_end ≡ stopped n p u → (s : State) × (u ≡ in_state s) × FirstStop (met_paths lim g) n p s × Sticks g.guards n p s
  stop_told n p u q =
      let stuck = subst (StuckGuarded g.guards) q end_stuck in
      let says = subst (Says (missed_in g.request) (met_paths lim g)) q guarded_says in
      (stuck.0, stuck.1, rw stuck.1 at says, stuck.2)

  -- The budget is spent exactly where the walk counts more.
  pub guarded_spent_exactly : (number lim b lent budget ≡ Limits.budget_spent) ↔ (budget < count lim g)
  guarded_spent_exactly = spent_within lent budget _ _ guarded_by_walk (end_never Limits.budget_spent (λ z. omega arith) (λ z. omega arith))

  module _ (enough : count lim g ≤ budget) where
    pub within_budget : number lim b lent budget ≡ answered walk_end
    within_budget = enough_within lent budget _ _ guarded_by_walk enough

    stops_exactly : (n : ℕ) → (n ≡ Limits.verified → ⊥) → (n ≡ Limits.goal_missed → ⊥) → (number lim b lent budget ≡ n) ↔ ((p : ℕ) × (u : State) × FirstStop (met_paths lim g) n p u)
    unfolding walked_along stop_or_miss
    stops_exactly n not_0 not_1 = (
      λ q. let m = answered_stopped n not_0 not_1 walk_end (sym within_budget ∙ q) in let t = stop_told n m.0 m.1 m.2 in (m.0, t.0, t.2),
      λ w. within_budget ∙ ap (λ (v : Walked State). answered v.end) along ∙ rw (first_stop_is (met_paths lim g) n w.0 (in_state w.1) w.2),
    )

    -- Guard broken, exactly where the first path that stops, stops in a state that lacks one.
    pub broken_exactly : (number lim b lent budget ≡ Limits.guard_broken) ↔ ((p : ℕ) × (u : State) × FirstStop (met_paths lim g) Limits.guard_broken p u)
    broken_exactly = stops_exactly Limits.guard_broken (λ q. omega (arith, q)) (λ q. omega (arith, q))

    -- Not executable, exactly where it stops at an item that can't be run.
    pub guarded_stuck_exactly : (number lim b lent budget ≡ Limits.not_executable) ↔ ((p : ℕ) × (u : State) × FirstStop (met_paths lim g) Limits.not_executable p u)
    guarded_stuck_exactly = stops_exactly Limits.not_executable (λ q. omega (arith, q)) (λ q. omega (arith, q))

    -- A goal missed, exactly where no path stops and one misses an entry.
    pub guarded_missed_exactly : (number lim b lent budget ≡ Limits.goal_missed)
        ↔ (((x : Path State) → Has (met_paths lim g) x → Arrives x)
        × ((x : Path State) × (u : State) × (p : ℕ) × Has (met_paths lim g) x × (x.ending ≡ arrives u) × (missed_in g.request u ≡ at p)))
    guarded_missed_exactly = (
      λ q.
          let m = answered_missed walk_end (end_never Limits.goal_missed (λ z. omega arith) (λ z. omega arith)) (sym within_budget ∙ q) in
          let says = subst (Says (missed_in g.request) (met_paths lim g)) m.2 guarded_says in
          let f = says.1 in
          (all_arrive (met_paths lim g) says.0, (f.here, m.1, m.0, first_has f, f.so.0, f.so.1)),
      λ w. let x = w.1 in within_budget ∙ says_missed (missed_in g.request) (met_paths lim g) walk_end guarded_says w.0 x.0 x.1 x.2 x.3 x.4 x.5,
    )

    -- Verified, exactly where each path arrives and misses nothing.
    pub guarded_fine_exactly : (number lim b lent budget ≡ Limits.verified)
        ↔ ((x : Path State) → Has (met_paths lim g) x → (u : State) × (x.ending ≡ arrives u) × (missed_in g.request u ≡ nowhere))
    guarded_fine_exactly =
        let each = fine_each (missed_in g.request) (met_paths lim g) in (
          λ q.
              let is_fine = answered_fine walk_end (end_never Limits.verified (λ z. omega arith) (λ z. omega arith)) (sym within_budget ∙ q) in
              each.0 (subst (Says (missed_in g.request) (met_paths lim g)) is_fine guarded_says),
          λ all. let w = each.1 all in within_budget ∙ says_fine (missed_in g.request) (met_paths lim g) walk_end guarded_says w.0 w.1,
        )

    -- It is a goal missed where it is none of the other three.
    pub missed_otherwise : (number lim b lent budget ≡ Limits.guard_broken → ⊥) → (number lim b lent budget ≡ Limits.not_executable → ⊥) → (number lim b lent budget ≡ Limits.verified → ⊥)
        → number lim b lent budget ≡ Limits.goal_missed
    missed_otherwise not-43 not_2 not_0 =
        within_budget ∙ answered_else walk_end (end_never (answered walk_end) (λ q. not_2 (within_budget ∙ q)) (λ q. not-43 (within_budget ∙ q))) (λ q. not_0 (within_budget ∙ q))

  -- Where the answer is a stop, its place and the state left are those of the first stop.
  pub stop_there : (n : ℕ) → (n ≡ Limits.verified → ⊥) → (n ≡ Limits.goal_missed → ⊥) → (n ≡ Limits.budget_spent → ⊥) → number lim b lent budget ≡ n
      → FirstStop (met_paths lim g) n (judge_guarded lim b lent budget).answer.place (judge_guarded lim b lent budget).state
      × Sticks g.guards n (judge_guarded lim b lent budget).answer.place (judge_guarded lim b lent budget).state
  unfolding written_over
  stop_there n not_0 not_1 not_3 q =
      stopped_within lent budget _ _ guarded_by_walk (λ p u. FirstStop (met_paths lim g) n p u × Sticks g.guards n p u) n not_0 not_1 not_3 q
      (λ p u is. let t = stop_told n p u is in rw t.1 (t.2, t.3))

  -- Where it is 43, the guard at the place is the first that the state lacks.
  pub broken_there : number lim b lent budget ≡ Limits.guard_broken → BrokenAt g.guards (met_paths lim g) (judge_guarded lim b lent budget).answer.place (judge_guarded lim b lent budget).state
  broken_there q =
      let t = stop_there Limits.guard_broken (λ z. omega arith) (λ z. omega arith) (λ z. omega arith) q in
      record { path = t.0; guard = first_lacked _ g.guards _ (⊎_elim (λ is. absurd (omega (arith, is))) (λ is. is.1) t.1) }
