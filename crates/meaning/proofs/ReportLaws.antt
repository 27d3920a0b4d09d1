-- What answers 1 and 2 report: the place and the state are those of the first path that misses, where none stops, or of the first that stops.
-- The end of the walk says so of the list of paths (`EndLaws`); a state's tests are those of its a-state (`PairLaws`); and a path stops only
-- at an item that can't be run, by induction on the plan. Assumes nothing.
use Prim.Native.Nat.{ℕ, ◌≤◌}
use native.Mathlib.Omega.{arith}
use mathlib.Core.Path.{◌≡◌, refl, sym, ◌∙◌, ap, subst}
use mathlib.Core.Bool.{Bool, true, false}
use mathlib.Core.List.{List, [], ◌∷◌, map}
use mathlib.Core.Logic.{◌⊎◌, inl, inr, ⊎_elim, ◌↔◌}
use lib.ListN.{length}
use Rattle.meaning.specs.Tests.{each_of, Has}
use Rattle.meaning.specs.Limits
use Rattle.meaning.specs.Limits.{Limits}
use Rattle.meaning.specs.Requests.{Table, Sequence, done, item, Item, act, branching, Branches, none, branch, Entry, Request, values}
use Rattle.meaning.specs.Reading.{got}
use Rattle.meaning.specs.Refusals.{nowhere, at, or_else, settled}
use Rattle.meaning.specs.States.{State, known, known_whether, Outcome}
use Rattle.meaning.specs.Walk.{Concerned, no_state, in_state, End, missed, stopped, Step, leads_to, refuses, Steps, table_does, table_step, first_missed, missed_in}
use Rattle.meaning.specs.Judging.{written_over, judge, number, count}
use Rattle.meaning.specs.Approximation.{Pair, true_in, executable, state, NoneTrue, Φ̂, Initial, Entailed}
use Rattle.meaning.specs.Paths.{Ending, arrives, stops, paths, paths_item, paths_branch}
use Rattle.meaning.specs.Reported.{First, pair_of, Asked, goal, whether, asked_at, met_in, asked_by, AllMet, Misses, all_paths, MissedAt, ItemIn, ItemOf, ItemUnder, item_place, NotRun, StoppedAt}
use Rattle.meaning.proofs.TestLaws.{clash, pick-cases, each_has, has_each, has_split, has_map, map_has}
use Rattle.meaning.proofs.PickLaws.{has-picked}
use Rattle.meaning.proofs.KeptEnds.{Stuck, walked_stuck}
use Rattle.meaning.proofs.WithinLaws.{walked_never, missed_within, stopped_within}
use Rattle.meaning.proofs.RefusalLaws.{at≢nowhere, at_same}
use Rattle.meaning.proofs.PathLaws.{by_found}
use Rattle.meaning.proofs.EndLaws.{first_here, first_later, first_has, first_left, first_right, first_map, Ends, arrives≢stops, all_arrive, stops_same, ends_one, went_on, step_stops, stop_ends, miss_ends, Says, none_missed}
use Rattle.meaning.proofs.PairLaws.{true_in_pair, runs_pair}
use Rattle.meaning.proofs.CoverLaws.{knows_pair}
use Rattle.meaning.proofs.ExactEnds.{met, whether_pair, whether_in, least_initial}
use Rattle.meaning.proofs.Exact.{walk_end, leads, ranged, fits, says, judged_by_walk, missed_exactly}

-- ENTRIES. One list of them, where each is met exactly where its value passes a test.
module _ (σ : Pair) (test : ℕ → Bool) (asks : Entry → Asked) (same : (e : Entry) → met_in σ (asks e) ≡ test e.value) (stands : (e : Entry) → asked_at (asks e) ≡ e.place) where
  first_in : (es : List Entry) (p : ℕ) → first_missed test es ≡ at p → First (λ a. met_in σ a ≡ true) (λ a. (met_in σ a ≡ false) × (asked_at a ≡ p)) (map asks es)
  unfolding first_missed
  first_in [] p q = absurd (at≢nowhere (sym q))
  first_in (e ∷ es) p q = pick-cases _ _ _ q (λ t k. first_later (same e ∙ t) (first_in es p k)) (λ f k. first_here (same e ∙ f, stands e ∙ at_same k))

  all_in : (es : List Entry) → each_of test (values es) ≡ true → (a : Asked) → Has (map asks es) a → met_in σ a ≡ true
  unfolding values
  all_in es all a h =
      let w = map_has asks es a h in
      rw w.2 (same w.0 ∙ each_has test (values es) w.0.value all (has_map (λ (e : Entry). e.value) es w.0 w.1))

-- Both lists, of a state.
module _ (r : Request) (u : State) where
  goal_met : (e : Entry) → met_in (pair_of u) (goal e) ≡ known u e.value
  unfolding met_in
  goal_met e = true_in_pair u e.value

  whether_met : (e : Entry) → met_in (pair_of u) (whether e) ≡ known_whether u e.value
  unfolding met_in
  whether_met e = whether_pair u e.value

  goal_at : (e : Entry) → asked_at (goal e) ≡ e.place
  unfolding asked_at
  goal_at e = refl

  whether_at : (e : Entry) → asked_at (whether e) ≡ e.place
  unfolding asked_at
  whether_at e = refl

  goals_met : each_of (known u) (values r.goals) ≡ true → (a : Asked) → Has (map goal r.goals) a → met_in (pair_of u) a ≡ true
  goals_met = all_in (pair_of u) (known u) goal goal_met goal_at r.goals

  -- Where the walk misses nothing, all is met.
  pub nothing_missed : missed_in r u ≡ nowhere → AllMet r (pair_of u)
  unfolding asked_by
  nothing_missed q a h =
      let w = (met r u).0 q in
      ⊎_elim (goals_met w.0 a) (all_in (pair_of u) (known_whether u) whether whether_met whether_at r.whether w.1 a)
      (has_split (map goal r.goals) (map whether r.whether) a h)

  -- Where it misses an entry, that is the first not met.
  pub entry_missed : (p : ℕ) → missed_in r u ≡ at p → First (λ a. met_in (pair_of u) a ≡ true) (λ a. (met_in (pair_of u) a ≡ false) × (asked_at a ≡ p)) (asked_by r)
  unfolding missed_in or_else asked_by
  entry_missed p q =
      by_found (first_missed (known u) r.goals)
      (λ none. first_right (map goal r.goals) (goals_met ((none_missed (known u) r.goals).0 none))
      (first_in (pair_of u) (known_whether u) whether whether_met whether_at r.whether p (rw none at q)))
      (λ i is. first_left (map whether r.whether) (first_in (pair_of u) (known u) goal goal_met goal_at r.goals p (is ∙ (rw is at q))))

-- What is entailed is met in every end state.
entailed_met : (r : Request) (σ δ : Pair) → Initial r.table σ → Φ̂ r.table r.plan σ (state δ) → Entailed r → AllMet r δ
unfolding asked_by met_in asked_at
entailed_met r σ δ initial led k a h =
    ⊎_elim
    (all_in δ (true_in δ) goal (λ e. refl) (λ e. refl) r.goals (k.0.true_after σ initial δ led) a)
    (all_in δ (λ f. whether_in f δ) whether (λ e. refl) (λ e. refl) r.whether (has_each _ _ (λ f m. (k.1 f m).true_after σ initial δ led)) a)
    (has_split (map goal r.goals) (map whether r.whether) a h)

-- ITEMS. How a path stops at an item that can't be run.
abbrev pub sticks : ℕ → State → Ending State
sticks p u = stops Limits.not_executable p (in_state u)

-- An item can't be run in a state: this is so of an action, and no condition of a branching is true.
abbrev pub StuckItem : (ℕ → State → Type 0) → Item ℕ → State → Type 0
StuckItem Not (act p a) u = Not a u
StuckItem Not (branching p bs) u = NoneTrue bs (pair_of u)

-- One of the items stands at the place and can't be run in the state.
abbrev pub StopSo : (ℕ → State → Type 0) → (Item ℕ → Type 0) → ℕ → State → Type 0
StopSo Not Items p u = (i : Item ℕ) × Items i × (item_place i ≡ p) × StuckItem Not i u

-- A step without guards that goes by what is known, and what is so where it refuses an action with 2.
module _ (does : ℕ → State → Step State) (Not : ℕ → State → Type 0) (refused : (a : ℕ) (s u : State) → does a s ≡ refuses Limits.not_executable (in_state u) → Not a u) where
  abbrev step : Steps State ℕ
  step = record { does = does; knows = known; lacks = λ _. nowhere }

  mutual
    unfolding paths item_place

    -- A path stops at an item of the plan that can't be run.
    pub stops_so : (c : Sequence ℕ) (s : State) (p : ℕ) (u : State) → Ends (paths step c s) (sticks p u) → StopSo Not (ItemIn c) p u
    stops_so done s p u h = absurd (arrives≢stops (sym (ends_one h)))
    stops_so (item i rest) s p u h =
        ⊎_elim
        (λ w. let v = stops_of i s p u (subst (Ends (paths_item step i s)) (sym w.4) w.3) in (v.0, inl v.1, v.2, v.3))
        (λ w. let v = stops_so rest w.0 p u w.2 in (v.0, inr v.1, v.2, v.3))
        (went_on (paths step rest) (paths_item step i s) (sticks p u) h)

    stops_of : (i : Item ℕ) (s : State) (p : ℕ) (u : State) → Ends (paths_item step i s) (sticks p u) → StopSo Not (ItemOf i) p u
    stops_of (act q a) s p u h = let w = step_stops Limits.not_executable p (in_state u) q a (does a s) h in (act q a, refl, sym w.0, refused a s u w.1)
    stops_of (branching q bs) s p u h =
        ⊎_elim
        (λ w. (w.0, inr w.1, w.2, w.3))
        (λ w. (branching q bs, inl refl, sym w.0, rw w.1 w.2))
        (stops_under bs q s p u h)

    stops_under : (bs : Branches ℕ) (q : ℕ) (s : State) (p : ℕ) (u : State) → Ends (paths_branch step bs q s) (sticks p u) → StopSo Not (ItemUnder bs) p u ⊎ ((p ≡ q) × (u ≡ s) × NoneTrue bs (pair_of s))
    stops_under none q s p u h = let w = stops_same (ends_one h) in inr (w.0, w.1, tt)
    stops_under (branch c b bs) q s p u h =
        has-picked (λ xs. Ends xs (sticks p u)) (each_of (known s) c) _ _ h
        (λ _ k. let w = stops_so b s p u k in inl (w.0, inl w.1, w.2, w.3))
        (λ off k. ⊎_elim (λ w. inl (w.0, inr w.1, w.2, w.3)) (λ w. inr (w.0, w.1, (knows_pair s c ∙ off, w.2))) (stops_under bs q s p u k))

-- A step that leads somewhere does not refuse, and one that refuses has its number and names its state.
pub leads≢refuses : {o : Outcome State} {n : ℕ} {u : Concerned State} → leads_to o ≡ refuses n u → ⊥
leads≢refuses e = subst leads e tt
  where
    leads : Step State → Type 0
    leads (leads_to o) = Unit {0}
    leads (refuses n u) = ⊥

pub refuses_numbered : {m n : ℕ} {u v : Concerned State} → refuses m u ≡ refuses n v → m ≡ n
refuses_numbered {m} e = ap number_of e
  where
    number_of : Step State → ℕ
    number_of (leads_to o) = m
    number_of (refuses n u) = n

pub refuses_same : {m n : ℕ} {s u : State} → refuses m (in_state s) ≡ refuses n (in_state u) → s ≡ u
refuses_same {s = s} e = ap state_of e
  where
    state_of : Step State → State
    state_of (leads_to o) = s
    state_of (refuses n no_state) = s
    state_of (refuses n (in_state u)) = u

-- The table's.
module _ (t : Table) where
  abbrev pub Stop : (Item ℕ → Type 0) → ℕ → State → Type 0
  Stop Items p u = (i : Item ℕ) × Items i × (item_place i ≡ p) × NotRun t i (pair_of u)

  abbrev NotExecutable : ℕ → State → Type 0
  NotExecutable a u = executable t a (pair_of u) ≡ false

  table_refused : (a : ℕ) (s u : State) → table_does t a s ≡ refuses Limits.not_executable (in_state u) → NotExecutable a u
  unfolding table_does
  table_refused a s u e =
      pick-cases _ _ _ e (λ _ k. absurd (leads≢refuses k)) (λ off k. subst (NotExecutable a) (refuses_same k) (runs_pair t a s ∙ off))

  pub stops_in : (c : Sequence ℕ) (s : State) (p : ℕ) (u : State) → Ends (paths (table_step t) c s) (sticks p u) → Stop (ItemIn c) p u
  unfolding table_step
  stops_in c s p u h = let w = stops_so (table_does t) NotExecutable table_refused c s p u h in (w.0, w.1, w.2, by_item w.0 w.3)
    where
      by_item : (i : Item ℕ) → StuckItem NotExecutable i u → NotRun t i (pair_of u)
      by_item (act q a) not = not
      by_item (branching q bs) not = not

-- THE REPORTS, of a settled request.
module _ (lim : Limits) (room : lim.fluents ≤ lim.state) (b lent : List ℕ) (budget : ℕ) (r : Request) (e : ℕ) (lent_length : length lent ≡ lim.state) (past : settled lim b ≡ got r e) where
  end_reports : (n : End State) → walk_end lim r ≡ n → Says (missed_in r) (all_paths lim r) n
  end_reports n q = subst (Says (missed_in r) (all_paths lim r)) q (says lim room b r e past)

  missed_reports : (p : ℕ) (u : State) → walk_end lim r ≡ missed p u → MissedAt r (all_paths lim r) p u
  missed_reports p u q =
      let w = end_reports (missed p u) q in
      record {
        all_arrive = all_arrive (all_paths lim r) w.0;
        path = first_map (λ x none v is. nothing_missed r v (none v is)) (λ x is. is.0) w.1;
        entry = entry_missed r u p w.1.so.1;
        end_state = leads lim room r (ranged lim room b r e past) (fits lim room b r e past) (arrives u) (miss_ends (missed_in r) (all_paths lim r) p u w.1);
      }

  stuck_reports : (p : ℕ) (u : State) → walk_end lim r ≡ stopped Limits.not_executable p (in_state u) → StoppedAt r (all_paths lim r) p u
  stuck_reports p u q =
      let w = end_reports (stopped Limits.not_executable p (in_state u)) q in
      let ends = stop_ends (all_paths lim r) Limits.not_executable p (in_state u) w in
      let v = stops_in r.table r.plan _ p u ends in
      record {
        path = w;
        stop = v.0;
        in_plan = v.1;
        stands = v.2;
        not_run = v.3;
        fails = leads lim room r (ranged lim room b r e past) (fits lim room b r e past) (sticks p u) ends;
      }

  -- Where the answer is 1, its place and the state left are those of the first miss.
  pub missed_there : number lim b lent budget ≡ Limits.goal_missed → MissedAt r (all_paths lim r) (judge lim b lent budget).answer.place (judge lim b lent budget).state
  missed_there q =
      missed_within lent budget _ _ (judged_by_walk lim room b lent budget r e lent_length past) (MissedAt r (all_paths lim r)) (walked_never Limits.goal_missed (λ z. omega arith) r _) q missed_reports

  -- Where it is 2, they are those of the first stop.
  pub stopped_there : number lim b lent budget ≡ Limits.not_executable → StoppedAt r (all_paths lim r) (judge lim b lent budget).answer.place (judge lim b lent budget).state
  unfolding written_over
  stopped_there q =
      stopped_within lent budget _ _ (judged_by_walk lim room b lent budget r e lent_length past) (StoppedAt r (all_paths lim r)) Limits.not_executable
      (λ z. omega arith) (λ z. omega arith) (λ z. omega arith) q
      (λ p u is. let state = (subst Stuck is (walked_stuck r _)).1 in rw state.1 (stuck_reports p state.0 (rw state.1 at is)))

  -- A goal is missed, exactly where every path can be run and an entry is not met in some end state.
  pub missed_in_an_end_state : count lim r ≤ budget → (number lim b lent budget ≡ Limits.goal_missed) ↔ Misses r
  missed_in_an_end_state enough = (
    λ q.
        let m = missed_there q in
        record {
          executable = ((missed_exactly lim room b lent budget r e lent_length past enough).0 q).0;
          end_state = pair_of (judge lim b lent budget).state;
          reached = m.end_state;
          entry = m.entry.here;
          asked = first_has m.entry;
          not_met = m.entry.so.0;
        },
    λ m.
        (missed_exactly lim room b lent budget r e lent_length past enough).1 (
          m.executable,
          λ k. clash (entailed_met r _ m.end_state (least_initial lim room r.table (ranged lim room b r e past)) m.reached k m.entry m.asked) m.not_met,
        ),
  )
