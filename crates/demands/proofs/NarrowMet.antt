-- The walk that is refused at a sensing action that is too wide ends fine exactly where the plain walk does and meets no such action; and where it stops with 37, the place is that
-- of an action of the plan that the plain walk meets in a state in which it is too wide (FORMAT 24.4, 24.16). For two steps that do the same wherever the first is not refused so
-- have the same paths up to such a refusal. By induction on the plan. Assumes nothing.
use Prim.Native.Nat.{ℕ, ◌<◌}
use native.Mathlib.Omega.{arith}
use mathlib.Core.Path.{◌≡◌, refl, sym, ◌∙◌, ap, subst}
use mathlib.Core.Bool.{true}
use mathlib.Core.List.{List, [], ◌∷◌}
use mathlib.Core.Logic.{◌⊎◌, inl, inr, ⊎_elim, ◌↔◌}
use lib.ListN.{length}
use lib.Dec.{eqb}
use borrow.Author.Tests.{ltb-true, lt-ltb}
use Rattle.meaning.specs.Tests.{both, each_of, Has}
use Rattle.meaning.specs.Limits
use Rattle.meaning.specs.Limits.{Limits}
use Rattle.meaning.specs.Requests.{Knowledge, Table, Sequence, done, item, Item, act, branching, Branches, none, branch, Request}
use Rattle.meaning.specs.Lines.{knowledge_of, sensing}
use Rattle.meaning.specs.Refusals.{nowhere}
use Rattle.meaning.specs.States.{State, first_state, unknown_sensed}
use Rattle.meaning.specs.Walk.{Concerned, no_state, End, stopped, Walked, Verified, Step, refuses, Steps, table_does, table_step, missed_in, judged}
use Rattle.meaning.specs.Judging.{walk_of}
use Rattle.meaning.specs.Approximation.{K}
use Rattle.meaning.specs.Paths.{Ending, arrives, stops, Path, paths_step, paths, paths_item, paths_branch, first_miss, stop_or_miss, walked_along}
use Rattle.meaning.specs.Reported.{ItemIn, ItemOf, ItemUnder}
use Rattle.meaning.specs.CaseReported.{MeetsIn, MeetsAt, MeetsUnder}
use Rattle.meaning.specs.Schemes.{too_wide, narrow_does, narrow_step, walked_narrow, narrow_walk_of}
use Rattle.meaning.specs.DeriveReported.{WalkMeets, NoneWide, narrow_paths, TooWideAt}
use Rattle.meaning.proofs.TestLaws.{by-test, clash, both_left, pick_true, pick_false, pick-cases, some_has, has_some, has_those}
use Rattle.meaning.proofs.PickLaws.{has-picked}
use Rattle.meaning.proofs.PathLaws.{walk_along}
use Rattle.meaning.proofs.EndLaws.{Ends, arrives≢stops, has_ends, ends_has, ends_one, went_on, stops_on, arrives_on, stop_ends, first_stop_is, Says, end_says}
use Rattle.meaning.proofs.ReportLaws.{leads≢refuses, refuses_numbered}
use Rattle.meaning.proofs.SensingLaws.{read_is}
use Rattle.meaning.proofs.CaseWalks.{LimitsTo}
use Rattle.meaning.proofs.NarrowWalks.{does_narrow, narrow_or_wide}
use Rattle.demands.proofs.CaseReports.{stop_met}

-- What is met is in the plan.
module _ (step : Steps State ℕ) (i : Item ℕ) (u : State) where
  mutual
    pub met_in_plan : (c : Sequence ℕ) (s : State) → MeetsIn step c s i u → ItemIn c i
    met_in_plan done s m = absurd m
    met_in_plan (item j rest) s (inl m) = inl (met_in_item j s m)
    met_in_plan (item j rest) s (inr m) = inr (met_in_plan rest m.1 m.4)

    met_in_item : (j : Item ℕ) (s : State) → MeetsAt step j s i u → ItemOf j i
    met_in_item (act p a) s m = m.0
    met_in_item (branching p bs) s (inl m) = inl m.0
    met_in_item (branching p bs) s (inr m) = inr (met_under bs s m)

    met_under : (bs : Branches ℕ) (s : State) → MeetsUnder step bs s i u → ItemUnder bs i
    met_under none s m = absurd m
    met_under (branch c b bs) s (inl m) = inl (met_in_plan b s m.1)
    met_under (branch c b bs) s (inr m) = inr (met_under bs s m.1)

-- ITEMS. An action is no branching.
action : Item ℕ → ℕ
action (act p a) = a
action (branching p bs) = 0

act≢branching : {p a q : ℕ} {bs : Branches ℕ} → act p a ≡ branching q bs → ⊥
act≢branching e = subst is_act e tt
  where
    is_act : Item ℕ → Type 0
    is_act (act p a) = Unit {0}
    is_act (branching p bs) = ⊥

-- TWO STEPS do the same, or the first is refused so; neither has guards.
module _ (n : ℕ) (u : Concerned State) (step other : Steps State ℕ) (knows : step.knows ≡ other.knows) (free : step.lacks ≡ (λ _. nowhere)) (other-free : other.lacks ≡ (λ _. nowhere))
    (does : (a : ℕ) (s : State) → LimitsTo n u (step.does a s) (other.does a s)) where
  -- Some of the paths stops so.
  abbrev RefusedOn : List (Path State) → Type 0
  RefusedOn xs = (p : ℕ) × Ends xs (stops n p u)

  same_test : (s : State) (c : List ℕ) → each_of (step.knows s) c ≡ each_of (other.knows s) c
  same_test s c = ap (λ (g : State → ℕ → _). each_of (g s) c) knows

  refused_here : (p a : ℕ) (s : State) → step.does a s ≡ refuses n u → RefusedOn (paths_item step (act p a) s)
  unfolding paths paths_step
  refused_here p a s is = (p, subst (λ (x : Step State). Ends (paths_step step.lacks p a x) (stops n p u)) (sym is) (inl refl))

  refused_arrives : (p a : ℕ) (s v : State) → step.does a s ≡ refuses n u → Ends (paths_item step (act p a) s) (arrives v) → ⊥
  unfolding paths paths_step
  refused_arrives p a s v is h = arrives≢stops (ends_one (subst (λ (x : Step State). Ends (paths_step step.lacks p a x) (arrives v)) is h))

  -- A path of the second is one of the first, or one of the first is refused.
  mutual
    unfolding paths

    pub kept_path : (c : Sequence ℕ) (s : State) (e : Ending State) → Ends (paths other c s) e → Ends (paths step c s) e ⊎ RefusedOn (paths step c s)
    kept_path done s e h = inl h
    kept_path (item i rest) s e h =
        let on : (x : Ending State) → RefusedOn (paths_item step i s) → Ends (paths step (item i rest) s) x ⊎ RefusedOn (paths step (item i rest) s) =
        λ x stop. inr (stop.0, stops_on (paths step rest) (paths_item step i s) n stop.0 u stop.1) in
        ⊎_elim
        (λ w.
        subst (λ (x : Ending State). Ends (paths step (item i rest) s) x ⊎ RefusedOn (paths step (item i rest) s)) (sym w.4)
        (⊎_elim (λ k. inl (stops_on (paths step rest) (paths_item step i s) w.0 w.1 w.2 k)) (on (stops w.0 w.1 w.2)) (kept_item i s (stops w.0 w.1 w.2) w.3)))
        (λ w.
        ⊎_elim
        (λ k.
        ⊎_elim (λ l. inl (arrives_on (paths step rest) (paths_item step i s) w.0 e k l))
        (λ stop. inr (stop.0, arrives_on (paths step rest) (paths_item step i s) w.0 (stops n stop.0 u) k stop.1))
        (kept_path rest w.0 e w.2))
        (on e) (kept_item i s (arrives w.0) w.1))
        (went_on (paths other rest) (paths_item other i s) e h)

    kept_item : (i : Item ℕ) (s : State) (e : Ending State) → Ends (paths_item other i s) e → Ends (paths_item step i s) e ⊎ RefusedOn (paths_item step i s)
    kept_item (act p a) s e h =
        ⊎_elim
        (λ same. inl (subst (λ (x : Step State). Ends (paths_step step.lacks p a x) e) (sym same) (subst (λ (g : State → _). Ends (paths_step g p a (other.does a s)) e) (other-free ∙ sym free) h)))
        (λ refused. inr (refused_here p a s refused)) (does a s)
    kept_item (branching p bs) s e h = kept_branch bs p s e h

    kept_branch : (bs : Branches ℕ) (p : ℕ) (s : State) (e : Ending State) → Ends (paths_branch other bs p s) e → Ends (paths_branch step bs p s) e ⊎ RefusedOn (paths_branch step bs p s)
    kept_branch none p s e h = inl h
    kept_branch (branch c b bs) p s e h =
        has-picked (λ xs. Ends xs e) (each_of (other.knows s) c) _ _ h
        (λ on k. subst (λ (xs : List (Path State)). Ends xs e ⊎ RefusedOn xs) (sym (pick_true _ _ _ (same_test s c ∙ on))) (kept_path b s e k))
        (λ off k. subst (λ (xs : List (Path State)). Ends xs e ⊎ RefusedOn xs) (sym (pick_false _ _ _ (same_test s c ∙ off))) (kept_branch bs p s e k))

  -- A path of the first that arrives is one of the second.
  mutual
    unfolding paths

    pub arrives_still : (c : Sequence ℕ) (s v : State) → Ends (paths step c s) (arrives v) → Ends (paths other c s) (arrives v)
    arrives_still done s v h = h
    arrives_still (item i rest) s v h =
        ⊎_elim (λ w. absurd (arrives≢stops w.4))
        (λ w. arrives_on (paths other rest) (paths_item other i s) w.0 (arrives v) (arrives_item i s w.0 w.1) (arrives_still rest w.0 v w.2))
        (went_on (paths step rest) (paths_item step i s) (arrives v) h)

    arrives_item : (i : Item ℕ) (s v : State) → Ends (paths_item step i s) (arrives v) → Ends (paths_item other i s) (arrives v)
    arrives_item (act p a) s v h =
        ⊎_elim
        (λ same. subst (λ (x : Step State). Ends (paths_step other.lacks p a x) (arrives v)) same (subst (λ (g : State → _). Ends (paths_step g p a (step.does a s)) (arrives v)) (free ∙ sym other-free) h))
        (λ refused. absurd (refused_arrives p a s v refused h)) (does a s)
    arrives_item (branching p bs) s v h = arrives_branch bs p s v h

    arrives_branch : (bs : Branches ℕ) (p : ℕ) (s v : State) → Ends (paths_branch step bs p s) (arrives v) → Ends (paths_branch other bs p s) (arrives v)
    arrives_branch none p s v h = h
    arrives_branch (branch c b bs) p s v h =
        has-picked (λ xs. Ends xs (arrives v)) (each_of (step.knows s) c) _ _ h
        (λ on k. subst (λ (xs : List (Path State)). Ends xs (arrives v)) (sym (pick_true _ _ _ (sym (same_test s c) ∙ on))) (arrives_still b s v k))
        (λ off k. subst (λ (xs : List (Path State)). Ends xs (arrives v)) (sym (pick_false _ _ _ (sym (same_test s c) ∙ off))) (arrives_branch bs p s v k))

  -- WHERE THE SECOND MEETS an action at which the first is refused, a path of the first is refused.
  module _ (p a : ℕ) (v : State) (refused : step.does a v ≡ refuses n u) where
    mutual
      unfolding paths action

      pub met_refused : (c : Sequence ℕ) (s : State) → MeetsIn other c s (act p a) v → RefusedOn (paths step c s)
      met_refused done s m = absurd m
      met_refused (item i rest) s (inl m) = let w = met_refused_at i s m in (w.0, stops_on (paths step rest) (paths_item step i s) n w.0 u w.1)
      met_refused (item i rest) s (inr m) =
          ⊎_elim
          (λ k. let w = met_refused rest m.1 m.4 in (w.0, arrives_on (paths step rest) (paths_item step i s) m.1 (stops n w.0 u) k w.1))
          (λ w. (w.0, stops_on (paths step rest) (paths_item step i s) n w.0 u w.1))
          (kept_item i s (arrives m.1) (has_ends (paths_item other i s) m.0 (arrives m.1) m.2 m.3))

      met_refused_at : (i : Item ℕ) (s : State) → MeetsAt other i s (act p a) v → RefusedOn (paths_item step i s)
      met_refused_at (act q b) s m = refused_here q b s (subst (λ (x : State). step.does b x ≡ refuses n u) m.1 (subst (λ (i : ℕ). step.does i v ≡ refuses n u) (ap action m.0) refused))
      met_refused_at (branching q bs) s (inl m) = absurd (act≢branching m.0)
      met_refused_at (branching q bs) s (inr m) = met_refused_under bs q s m

      met_refused_under : (bs : Branches ℕ) (q : ℕ) (s : State) → MeetsUnder other bs s (act p a) v → RefusedOn (paths_branch step bs q s)
      met_refused_under none q s m = absurd m
      met_refused_under (branch c b bs) q s (inl m) = subst RefusedOn (sym (pick_true _ _ _ (same_test s c ∙ m.0))) (met_refused b s m.1)
      met_refused_under (branch c b bs) q s (inr m) = subst RefusedOn (sym (pick_false _ _ _ (same_test s c ∙ m.0))) (met_refused_under bs q s m.1)

  -- What the first meets, the second meets.
  module _ (i : Item ℕ) (v : State) where
    mutual
      pub meets_still : (c : Sequence ℕ) (s : State) → MeetsIn step c s i v → MeetsIn other c s i v
      meets_still done s m = m
      meets_still (item j rest) s (inl m) = inl (meets_still_at j s m)
      meets_still (item j rest) s (inr m) =
          let w = ends_has (paths_item other j s) (arrives m.1) (arrives_item j s m.1 (has_ends (paths_item step j s) m.0 (arrives m.1) m.2 m.3)) in
          inr (w.0, m.1, w.1, w.2, meets_still rest m.1 m.4)

      meets_still_at : (j : Item ℕ) (s : State) → MeetsAt step j s i v → MeetsAt other j s i v
      meets_still_at (act p a) s m = m
      meets_still_at (branching p bs) s (inl m) = inl m
      meets_still_at (branching p bs) s (inr m) = inr (meets_still_under bs s m)

      meets_still_under : (bs : Branches ℕ) (s : State) → MeetsUnder step bs s i v → MeetsUnder other bs s i v
      meets_still_under none s m = m
      meets_still_under (branch c b bs) s (inl m) = inl (sym (same_test s c) ∙ m.0, meets_still b s m.1)
      meets_still_under (branch c b bs) s (inr m) = inr (sym (same_test s c) ∙ m.0, meets_still_under bs s m.1)

-- THE NARROW STEP is refused with 37 where the action is too wide, and such an action senses.
refused_wide : (t : Table) (a : ℕ) (s : State) (u : Concerned State) → narrow_does t a s ≡ refuses Limits.sensing_too_wide u → too_wide t a s ≡ true
unfolding narrow_does table_does
refused_wide t a s u e =
    pick-cases _ _ _ e (λ wide _. wide) λ _ k.
    pick-cases _ _ _ k (λ _ is. absurd (leads≢refuses is)) (λ _ is. absurd (omega (arith, refuses_numbered is)))

some_entry : (xs : List ℕ) → Limits.most_forked < length xs → (x : ℕ) × Has xs x
some_entry [] more = absurd (omega (arith, more))
some_entry (x ∷ xs) more = (x, inl refl)

wide_more : (t : Table) (a : ℕ) (s : State) → too_wide t a s ≡ true → Limits.most_forked < length (unknown_sensed t a s)
unfolding too_wide
wide_more t a s wide = ltb-true Limits.most_forked (length (unknown_sensed t a s)) wide

pub wide_senses : (t : Table) (a : ℕ) (s : State) → too_wide t a s ≡ true → sensing t a ≡ true
unfolding sensing knowledge_of K
wide_senses t a s wide =
    let f = some_entry (unknown_sensed t a s) (wide_more t a s wide) in
    let k = some_has (λ (k : Knowledge). both (eqb k.action a) (eqb k.fluent f.0)) t.knowledge (read_is t a s f.0 f.1).1 in
    has_some (λ (k : Knowledge). true) (knowledge_of t a) k.0 (has_those (λ (k : Knowledge). eqb k.action a) t.knowledge k.0 k.1 (both_left _ _ k.2)) refl

-- ITS WALK, of a request.
module _ (lim : Limits) (r : Request) where
  abbrev start : State
  start = first_state lim r.table

  narrow_along : narrow_walk_of lim r ≡ walked_along (missed_in r) (narrow_paths lim r)
  unfolding walked_narrow judged
  narrow_along = walk_along (missed_in r) (narrow_step r.table) r.plan start

  narrow_says : Says (missed_in r) (narrow_paths lim r) (narrow_walk_of lim r).end
  narrow_says = subst (λ (w : Walked State). Says (missed_in r) (narrow_paths lim r) w.end) (sym narrow_along) (end_says (missed_in r) (narrow_paths lim r))

  -- Where it stops with 37: what it reports, and back.
  pub wide_at : (p : ℕ) → (narrow_walk_of lim r).end ≡ stopped Limits.sensing_too_wide p no_state → TooWideAt lim r p
  unfolding narrow_step table_step
  wide_at p is =
      let first = subst (Says (missed_in r) (narrow_paths lim r)) is narrow_says in
      let m = stop_met (narrow_step r.table) refl Limits.sensing_too_wide (λ z. omega arith) p no_state r.plan start (stop_ends (narrow_paths lim r) Limits.sensing_too_wide p no_state first) in
      let wide = refused_wide r.table m.0 m.1 no_state m.3 in
      record {
        path = first;
        action = m.0;
        state = m.1;
        in_plan = met_in_plan (narrow_step r.table) (act p m.0) m.1 r.plan start m.2;
        met = meets_still Limits.sensing_too_wide no_state (narrow_step r.table) (table_step r.table) refl refl refl (does_narrow r.table) (act p m.0) m.1 r.plan start m.2;
        senses = wide_senses r.table m.0 m.1 wide;
        wide = wide_more r.table m.0 m.1 wide;
      }

  pub at_wide : (p : ℕ) → TooWideAt lim r p → (narrow_walk_of lim r).end ≡ stopped Limits.sensing_too_wide p no_state
  unfolding walked_along stop_or_miss
  at_wide p w =
      ap (λ (v : Walked State). v.end) narrow_along
      ∙ ap (λ (e : End State). stop_or_miss e (first_miss (missed_in r) (narrow_paths lim r))) (first_stop_is (narrow_paths lim r) Limits.sensing_too_wide p no_state w.path)

  -- Where the plain walk meets an action that is too wide, it is not fine.
  met_not_fine : (p a : ℕ) (u : State) → WalkMeets lim r (act p a) u → too_wide r.table a u ≡ true → Verified (narrow_walk_of lim r) → ⊥
  unfolding narrow_step table_step narrow_does
  met_not_fine p a u met wide is =
      let stop = met_refused Limits.sensing_too_wide no_state (narrow_step r.table) (table_step r.table) refl refl refl (does_narrow r.table) p a u (pick_true _ _ _ wide) r.plan start met in
      (subst (Says (missed_in r) (narrow_paths lim r)) is narrow_says).0 (Limits.sensing_too_wide, stop.0, no_state, stop.1)

  module _ (verified : Verified (walk_of lim r)) where
    -- Fine, exactly where no action that is met is too wide.
    pub narrow_exactly : Verified (narrow_walk_of lim r) ↔ NoneWide lim r
    unfolding too_wide
    narrow_exactly = (
      λ is p a u met. by-test (too_wide r.table a u) (λ wide. absurd (met_not_fine p a u met wide is)) (λ few. few),
      λ none.
          ⊎_elim (λ is. is) (λ stop. let w = wide_at stop.0 stop.1 in absurd (clash (lt-ltb _ _ w.wide) (none stop.0 w.action w.state w.met)))
          (narrow_or_wide r start verified).0,
    )

    -- And stopped with 37 where one is.
    pub stopped_wide : (p a : ℕ) (u : State) → WalkMeets lim r (act p a) u → too_wide r.table a u ≡ true → (q : ℕ) × ((narrow_walk_of lim r).end ≡ stopped Limits.sensing_too_wide q no_state)
    stopped_wide p a u met wide = ⊎_elim (λ is. absurd (met_not_fine p a u met wide is)) (λ stop. stop) (narrow_or_wide r start verified).0
