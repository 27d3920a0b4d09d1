-- Answer 0 of the guarded call in the 0-approximation's own terms (FORMAT 21.23). Where no path with guards stops, its paths end as those without do, and
-- every a-state that is met is above a state that lacks no guard. And where the guards are true in each a-state that is met, each state that is met lacks
-- none, since its pair is one of these. So the state of answer 43 is met. Assumes nothing.
use Prim.Native.Nat.{ℕ, ◌*◌, ◌≤◌, ◌<◌}
use native.Mathlib.Omega.{arith}
use mathlib.Core.Path.{◌≡◌, refl, sym, ◌∙◌, ap, subst}
use mathlib.Core.Bool.{true}
use mathlib.Core.List.{List}
use mathlib.Core.Logic.{◌⊎◌, inl, inr, ⊎_elim, ◌↔◌}
use lib.ListN.{length}
use Rattle.meaning.specs.Tests.{each_of, Has}
use Rattle.meaning.specs.Limits
use Rattle.meaning.specs.Limits.{Limits}
use Rattle.meaning.specs.Requests.{Effect, Knowledge, Table, Sequence, done, item, Item, act, branching, Branches, none, branch, Entry, Request, values}
use Rattle.meaning.specs.Reading.{got}
use Rattle.meaning.specs.Refusals.{nowhere, at, conditions_of, all_exclusive, settled}
use Rattle.meaning.specs.States.{State, known, first_state, can_be_run, outcome}
use Rattle.meaning.specs.Lines.{sensing}
use Rattle.meaning.specs.Walk.{Concerned, no_state, in_state, fine, table_does, table_step, first_missed, missed_in, guarded_step}
use Rattle.meaning.specs.Guards.{GuardedRequest, settled_guarded, judge_guarded, number, count}
use Rattle.meaning.specs.Approximation.{Pair, true_in, state, NoneTrue, least, Entailed}
use Rattle.meaning.specs.Paths.{Ending, arrives, stops, Path, arrivals, paths, paths_item, paths_branch}
use Rattle.meaning.specs.Reported.{pair_of, all_paths}
use Rattle.meaning.specs.GuardedReported.{met_paths, FirstStop, MetIn, MetAt, MetUnder, GuardsTrue}
use Rattle.meaning.proofs.TestLaws.{by-test, clash, both_left, both_right, pick_true, pick_false}
use Rattle.meaning.proofs.PickLaws.{pick_has, has-picked}
use Rattle.meaning.proofs.SettledLaws.{Fit, FitItem, FitBranches}
use Rattle.meaning.proofs.RangeLaws.{Ranged}
use Rattle.meaning.proofs.RefusalLaws.{at≢nowhere}
use Rattle.meaning.proofs.EndLaws.{Ends, Stops, arrives≢stops, arrives_same, ends_one, went_on, stop_goes_on, arrives_on, stop_ends, fine_each, Says, none_missed}
use Rattle.meaning.proofs.PairLaws.{true_grows, true_in_pair}
use Rattle.meaning.proofs.SensingLaws.{reading_is}
use Rattle.meaning.proofs.ToldLaws.{first_length, first_least}
use Rattle.meaning.proofs.CoverLaws.{knows_pair, knows_true, others_false, none_taken, Below, reaches_item, reaches_act, covers_act, covers_item}
use Rattle.meaning.proofs.ExactEnds.{least_initial, first_below, effects_within, knowledge_within}
use Rattle.meaning.proofs.Exact.{end_entailed, ranged, says, entailed_fine}
use Rattle.meaning.proofs.Exact
use Rattle.meaning.proofs.GuardedPaths.{broken≢stuck, NeverBroken, stop_still, still, still_item, still_branch, first_lacks, met_on, on_met, step_lacks, not_broken, was, was_item, step_broken, met_broken}
use Rattle.meaning.proofs.GuardedReads.{own, parts, own_settled}
use Rattle.meaning.proofs.GuardedExact.{broken_exactly, guarded_stuck_exactly, guarded_fine_exactly, missed_otherwise, broken_there}

module _ (t : Table) (gs : List Entry) where
  -- A state lacks none exactly where each guard is true in its pair.
  abbrev Pass : Pair → Type 0
  Pass δ = each_of (true_in δ) (values gs) ≡ true

  pass_none : (u : State) → Pass (pair_of u) → first_missed (known u) gs ≡ nowhere
  pass_none u pass = (none_missed (known u) gs).1 (sym (knows_pair u (values gs)) ∙ pass)

  none_pass : (u : State) (δ : Pair) (size : ℕ) → Below size u δ → first_missed (known u) gs ≡ nowhere → Pass δ
  none_pass u δ size below q = knows_true u δ below.extends (values gs) ((none_missed (known u) gs).0 q)

  none_met : (bs : Branches ℕ) (σ δ : Pair) → NoneTrue bs σ → MetUnder t bs σ δ → ⊥
  none_met none σ δ n m = m
  none_met (branch c b bs) σ δ n (inl m) = clash m.0 n.0
  none_met (branch c b bs) σ δ n (inr m) = none_met bs σ δ n.1 m

  -- A state that lacks the guard at the place, and whose pair is met.
  abbrev Lacking : (Pair → Type 0) → ℕ → Concerned State → Type 0
  Lacking Met p u = (v : State) × (u ≡ in_state v) × (first_missed (known v) gs ≡ at p) × Met (pair_of v)

  never_refused : (a : ℕ) (s : State) → NeverBroken (table_does t a s)
  unfolding table_does
  never_refused a s = pick_has NeverBroken (can_be_run t a s) _ _ (λ _. tt) (λ _ q. omega (arith, q))

  -- A table whose lines are within states of a size.
  module _ (size : ℕ) (effects_in : (e : Effect) → Has t.effects e → e.literal < 2 * size) (knowledge_in : (k : Knowledge) → Has t.knowledge k → k.fluent < size) where
    mutual
      unfolding paths table_step guarded_step

      -- A STATE THAT LACKS A GUARD, in which a path stops, is met: its pair is an a-state that the plan meets.
      broken_met : (c : Sequence ℕ) (s : State) → length s ≡ size → (p : ℕ) (u : Concerned State) → Ends (paths (guarded_step t gs) c s) (stops Limits.guard_broken p u) → Lacking (MetIn t c (pair_of s)) p u
      broken_met done s sized p u h = absurd (arrives≢stops (sym (ends_one h)))
      broken_met (item i rest) s sized p u h =
          ⊎_elim
          (λ w. let k = broken_item i s sized p u (subst (Ends (paths_item (guarded_step t gs) i s)) (sym w.4) w.3) in (k.0, k.1, k.2, inl k.3))
          (λ w.
          let led = reaches_item t size effects_in knowledge_in i s sized (arrives w.0) (not_broken t gs (paths_item (table_step t) i s) w.0 (was_item t gs i s (arrives w.0) w.1)) in
          let k = broken_met rest w.0 led.1 p u w.2 in
          (k.0, k.1, k.2, inr (pair_of w.0, led.0, k.3)))
          (went_on (paths (guarded_step t gs) rest) (paths_item (guarded_step t gs) i s) (stops Limits.guard_broken p u) h)

      broken_item : (i : Item ℕ) (s : State) → length s ≡ size → (p : ℕ) (u : Concerned State) → Ends (paths_item (guarded_step t gs) i s) (stops Limits.guard_broken p u) → Lacking (MetAt t i (pair_of s)) p u
      broken_item (act q a) s sized p u h =
          let k = step_broken t gs q a (table_does t a s) (never_refused a s) p u h in
          (k.0, k.1, k.2, (reaches_act t size effects_in knowledge_in q a s sized (arrives k.0) k.3).0)
      broken_item (branching q bs) s sized p u h = broken_under bs q s sized p u h

      broken_under : (bs : Branches ℕ) (q : ℕ) (s : State) → length s ≡ size → (p : ℕ) (u : Concerned State) → Ends (paths_branch (guarded_step t gs) bs q s) (stops Limits.guard_broken p u) → Lacking (MetUnder t bs (pair_of s)) p u
      broken_under none q s sized p u h = absurd (broken≢stuck (sym (ends_one h)))
      broken_under (branch c b bs) q s sized p u h =
          has-picked (λ xs. Ends xs (stops Limits.guard_broken p u)) (each_of (known s) c) _ _ h
          (λ on k. let w = broken_met b s sized p u k in (w.0, w.1, w.2, inl (knows_pair s c ∙ on, w.3)))
          (λ _ k. let w = broken_under bs q s sized p u k in (w.0, w.1, w.2, inr w.3))

    mutual
      unfolding paths table_step guarded_step conditions_of all_exclusive

      -- WHERE NO PATH WITH GUARDS STOPS, the guards are true in each a-state that is met from a pair above.
      met_pass : (c : Sequence ℕ) → Fit c → (s : State) (σ : Pair) → Below size s σ → (Stops (paths (guarded_step t gs) c s) → ⊥) → (δ : Pair) → MetIn t c σ δ → Pass δ
      met_pass done fits s σ below never δ m = absurd m
      met_pass (item i rest) fits s σ below never δ m =
          let more = paths (guarded_step t gs) rest in
          let xs = paths_item (guarded_step t gs) i s in
          ⊎_elim
          (λ w. met_pass_item i fits.0 s σ below (λ stop. never (stop_goes_on more xs stop)) δ w)
          (λ w.
          ⊎_elim
          (λ stop. absurd (never (stop_goes_on more xs (stop_still t gs xs stop.0 stop.1 stop.2 (still_item t gs i s (stops stop.0 stop.1 stop.2) stop.3)))))
          (λ v.
          ⊎_elim
          (λ stop. absurd (never (stop_goes_on more xs stop)))
          (λ there. met_pass rest fits.1 v.0 w.0 v.2 (λ stop. never (stop.0, stop.1, stop.2, arrives_on more xs v.0 _ there stop.3)) δ w.2)
          (still_item t gs i s (arrives v.0) v.1))
          (covers_item t size effects_in knowledge_in i fits.0 s σ below (state w.0) w.1))
          m

      met_pass_item : (i : Item ℕ) → FitItem i → (s : State) (σ : Pair) → Below size s σ → (Stops (paths_item (guarded_step t gs) i s) → ⊥) → (δ : Pair) → MetAt t i σ δ → Pass δ
      met_pass_item (act p a) fits s σ below never δ m =
          let xs = paths_item (guarded_step t gs) (act p a) s in
          ⊎_elim
          (λ stop. absurd (never (stop_still t gs xs stop.0 stop.1 stop.2 (still_item t gs (act p a) s (stops stop.0 stop.1 stop.2) stop.3))))
          (λ v. ⊎_elim (λ stop. absurd (never stop)) (λ there. none_pass v.0 δ size v.2 (step_lacks t gs p a (table_does t a s) v.0 there)) (still_item t gs (act p a) s (arrives v.0) v.1))
          (covers_act t size effects_in knowledge_in p a s σ below (state δ) m)
      met_pass_item (branching p bs) fits s σ below never δ m = met_pass_under bs p fits.0 fits.1 s σ below never δ m

      met_pass_under : (bs : Branches ℕ) (p : ℕ) → all_exclusive (conditions_of bs) ≡ true → FitBranches bs → (s : State) (σ : Pair) → Below size s σ
          → (Stops (paths_branch (guarded_step t gs) bs p s) → ⊥) → (δ : Pair) → MetUnder t bs σ δ → Pass δ
      met_pass_under none p apart fits s σ below never δ m = absurd m
      met_pass_under (branch c b bs) p apart fits s σ below never δ m =
          by-test (each_of (known s) c)
          (λ on.
          ⊎_elim
          (λ w. met_pass b fits.0 s σ below (λ stop. never (subst (λ (xs : List (Path State)). Stops xs) (sym (pick_true _ _ _ on)) stop)) δ w.1)
          (λ w. absurd (none_met bs σ δ (others (knows_true s σ below.extends c on)) w))
          m)
          (λ off.
          let later : Stops (paths_branch (guarded_step t gs) bs p s) → ⊥ = λ stop. never (subst (λ (xs : List (Path State)). Stops xs) (sym (pick_false _ _ _ off)) stop) in
          ⊎_elim
          (λ w.
          let stop = none_taken (table_does t) bs p s σ below.extends (others w.0) in
          absurd (later (stop_still t gs (paths_branch (guarded_step t gs) bs p s) stop.0 stop.1 stop.2 (still_branch t gs bs p s (stops stop.0 stop.1 stop.2) stop.3))))
          (λ w. met_pass_under bs p (both_right _ _ apart) fits.1 s σ below later δ w)
          m)
        where
          others : each_of (true_in σ) c ≡ true → NoneTrue bs σ
          others holds = others_false σ below.disjoint c holds bs (both_left _ _ apart)

state_same : {u v : State} → in_state u ≡ in_state v → u ≡ v
state_same {u} q = ap held q
  where
    held : Concerned State → State
    held no_state = u
    held (in_state v) = v

-- THE THEOREMS.
module _ (lim : Limits) (room : lim.fluents ≤ lim.state) (b lent : List ℕ) (budget : ℕ) (g : GuardedRequest) (e : ℕ) (lent_length : length lent ≡ lim.state) (past : settled_guarded lim b ≡ got g e) where
  abbrev r : Request
  r = g.request

  abbrev first : State
  first = first_state lim r.table

  abbrev with_guards : Sequence ℕ → State → List (Path State)
  with_guards = paths (guarded_step r.table g.guards)

  settles : settled lim (own lim b g e past) ≡ got r (parts lim b g e past).request_end
  settles = own_settled lim b g e past

  in_range : Ranged lim r.table
  in_range = ranged lim room (own lim b g e past) r (parts lim b g e past).request_end settles

  apart : Fit r.plan
  apart = Exact.fits lim room (own lim b g e past) r (parts lim b g e past).request_end settles

  -- No path with guards stops and none misses anything: the same is so of the paths without, and the guards are true in what is met.
  fine_entails : (Stops (met_paths lim g) → ⊥) → ((u : State) → Ends (met_paths lim g) (arrives u) → missed_in r u ≡ nowhere) → Entailed r × GuardsTrue r (values g.guards)
  fine_entails never all = (
    (end_entailed lim room r in_range apart fine tt (plain_never, plain_all)).0 refl,
    record {
      first = λ σ initial. none_pass r.table g.guards first σ lim.state (first_below lim room r.table in_range σ initial) holds_first;
      met = λ σ initial. met_pass r.table g.guards lim.state (effects_within lim room r.table in_range) (knowledge_within lim room r.table in_range) r.plan apart first σ
          (first_below lim room r.table in_range σ initial) never_behind;
    },
  )
    where
      holds_first : first_missed (known first) g.guards ≡ nowhere
      holds_first = first_lacks r.table g.guards r.plan first never

      met : (x : Ending State) → Ends (with_guards r.plan first) x → Ends (met_paths lim g) x
      met = met_on r.table g.guards r.plan first holds_first

      never_behind : Stops (with_guards r.plan first) → ⊥
      never_behind stop = never (stop.0, stop.1, stop.2, met _ stop.3)

      plain_never : Stops (all_paths lim r) → ⊥
      plain_never stop =
          never_behind (stop_still r.table g.guards (with_guards r.plan first) stop.0 stop.1 stop.2 (still r.table g.guards r.plan first (stops stop.0 stop.1 stop.2) stop.3))

      plain_all : (u : State) → Ends (all_paths lim r) (arrives u) → missed_in r u ≡ nowhere
      plain_all u h = ⊎_elim (λ stop. absurd (never_behind stop)) (λ there. all u (met (arrives u) there)) (still r.table g.guards r.plan first (arrives u) h)

  is_least : pair_of first ≡ least r.table
  is_least = first_least lim room r.table in_range

  -- A path that stops behind the first state, in one that lacks a guard, stops in one that is met from the least initial a-state.
  broken_behind : (p : ℕ) (u : Concerned State) → Ends (with_guards r.plan first) (stops Limits.guard_broken p u) → Lacking r.table g.guards (MetIn r.table r.plan (least r.table)) p u
  broken_behind p u h =
      let k = broken_met r.table g.guards lim.state (effects_within lim room r.table in_range) (knowledge_within lim room r.table in_range) r.plan first (first_length lim r.table) p u h in
      (k.0, k.1, k.2, subst (λ (σ : Pair). MetIn r.table r.plan σ (pair_of k.0)) is_least k.3)

  entails_fine : Entailed r → GuardsTrue r (values g.guards) → (Stops (met_paths lim g) → ⊥) × ((u : State) → Ends (met_paths lim g) (arrives u) → missed_in r u ≡ nowhere)
  entails_fine k guards = (
    λ stop. plain_says.0 (stop.0, stop.1, stop.2, without _ stop.3),
    λ u h. plain_says.1 u (without (arrives u) h),
  )
    where
      plain_says : Says (missed_in r) (all_paths lim r) fine
      plain_says = subst (Says (missed_in r) (all_paths lim r)) (entailed_fine lim room (own lim b g e past) r (parts lim b g e past).request_end settles k)
          (says lim room (own lim b g e past) r (parts lim b g e past).request_end settles)

      holds_first : first_missed (known first) g.guards ≡ nowhere
      holds_first = pass_none r.table g.guards first (rw is_least (guards.first (least r.table) (least_initial lim room r.table in_range)))

      -- A state that lacks a guard would be met.
      never_lacking : (p : ℕ) (u : Concerned State) → Ends (with_guards r.plan first) (stops Limits.guard_broken p u) → ⊥
      never_lacking p u h =
          let k = broken_behind p u h in
          at≢nowhere (sym k.2 ∙ pass_none r.table g.guards k.0 (guards.met (least r.table) (least_initial lim room r.table in_range) (pair_of k.0) k.3))

      without : (x : Ending State) → Ends (met_paths lim g) x → Ends (all_paths lim r) x
      without x h =
          let there = on_met r.table g.guards r.plan first holds_first x h in
          ⊎_elim (λ w. absurd (never_lacking w.0 w.1 (subst (Ends (with_guards r.plan first)) w.2 there))) (λ k. k) (was r.table g.guards r.plan first x there)

  -- Where the answer is 43, the state left is the first one, or its pair is an a-state that is met.
  pub broken_where_met : number lim b lent budget ≡ Limits.guard_broken
      → ((judge_guarded lim b lent budget).state ≡ first) ⊎ MetIn r.table r.plan (least r.table) (pair_of (judge_guarded lim b lent budget).state)
  broken_where_met q =
      let u : State = (judge_guarded lim b lent budget).state in
      let p : ℕ = (judge_guarded lim b lent budget).answer.place in
      let ends = stop_ends (met_paths lim g) Limits.guard_broken p (in_state u) (broken_there lim b lent budget g e lent_length past q).path in
      ⊎_elim
      (λ is. inl (state_same is))
      (λ h. let k = broken_behind p (in_state u) h in inr (subst (λ (v : State). MetIn r.table r.plan (least r.table) (pair_of v)) (sym (state_same k.1)) k.3))
      (met_broken r.table g.guards r.plan first p (in_state u) ends)

  -- A reading takes away nothing that was known (FORMAT 21.15).
  pub reading_keeps : (a : ℕ) (s : State) → length s ≡ lim.state → sensing r.table a ≡ true → (u : State) → Ends (arrivals (outcome r.table a s)) (arrives u)
      → (l : ℕ) → known s l ≡ true → known u l ≡ true
  unfolding outcome
  reading_keeps a s sized senses u h l known-before =
      has-picked (λ o. Ends (arrivals o) (arrives u)) (sensing r.table a) _ _ h
      (λ _ k.
      let w = reading_is r.table a s (λ n m. rw sized (knowledge_within lim room r.table in_range n m)) (arrives u) k in
      rw (arrives_same w.1) (sym (true_in_pair w.0 l) ∙ true_grows w.3.extends l (true_in_pair s l ∙ known-before)))
      (λ off _. clash senses off)

  module _ (enough : count lim g ≤ budget) where
    -- Verified, exactly where the goals and the whether fluents are entailed and each guard is true in every a-state that is met.
    pub guarded_verified_exactly : (number lim b lent budget ≡ Limits.verified) ↔ (Entailed r × GuardsTrue r (values g.guards))
    guarded_verified_exactly =
        let exactly = guarded_fine_exactly lim b lent budget g e lent_length past enough in
        let each = fine_each (missed_in r) (met_paths lim g) in (
          λ q. let w = each.1 (exactly.0 q) in fine_entails w.0 w.1,
          λ k. exactly.1 (each.0 (entails_fine k.0 k.1)),
        )

    -- A goal missed, exactly where neither is so nor a path stops in a state that lacks a guard, or at an item, as the first that stops.
    pub guarded_missed_otherwise : (number lim b lent budget ≡ Limits.goal_missed)
        ↔ (((p : ℕ) (u : State) → FirstStop (met_paths lim g) Limits.guard_broken p u → ⊥) × ((p : ℕ) (u : State) → FirstStop (met_paths lim g) Limits.not_executable p u → ⊥)
        × (Entailed r × GuardsTrue r (values g.guards) → ⊥))
    guarded_missed_otherwise =
        let broken = broken_exactly lim b lent budget g e lent_length past enough in
        let stuck = guarded_stuck_exactly lim b lent budget g e lent_length past enough in (
          λ q. (
            λ p u f. omega (arith, q, broken.1 (p, u, f)),
            λ p u f. omega (arith, q, stuck.1 (p, u, f)),
            λ k. omega (arith, q, guarded_verified_exactly.1 k),
          ),
          λ w. missed_otherwise lim b lent budget g e lent_length past enough
              (λ q. let f = broken.0 q in w.0 f.0 f.1 f.2) (λ q. let f = stuck.0 q in w.1 f.0 f.1 f.2) (λ q. w.2 (guarded_verified_exactly.0 q)),
        )
