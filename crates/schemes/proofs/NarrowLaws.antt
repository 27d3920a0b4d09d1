-- A walk that ends with nothing missed, and on which no sensing action is too wide, is such a walk from each of its states on, and what is asked of its actions is so. Assumes nothing.
use Prim.Native.Nat.{ℕ, ◌+◌, ◌^◌, ◌≤◌, ◌<◌}
use native.Mathlib.Omega.{arith}
use native.Mathlib.Nat.{two-pow-succ, pow-le-pow_right}
use mathlib.Core.Path.{◌≡◌, refl, sym, ◌∙◌, ap, subst}
use mathlib.Core.Bool.{true, false}
use mathlib.Core.List.{List, [], ◌∷◌}
use mathlib.Core.Logic.{⊎_elim}
use lib.ListN.{length, set}
use lib.Dec.{ltb}
use lib.Seq.{set-set}
use borrow.Author.Tests.{ltb-true, ltb-false, lt-ltb, le-ltb}
use Rattle.std.specs.Prelude.{Option, None, Some}
use Rattle.meaning.specs.Limits
use Rattle.meaning.specs.Limits.{format}
use Rattle.meaning.specs.Requests.{Table, Sequence, Branches, none, branch}
use Rattle.meaning.specs.Lines.{sensing}
use Rattle.meaning.specs.States.{State, known, can_be_run, state_after, unknown_sensed, Outcome, fork, readings, outcome}
use Rattle.meaning.specs.Walk.{Concerned, in_state, fine, stopped, Walked, Verified, stopped_at, stuck_at, each_reading, Step, refuses, after_step, run_action, walk, walk_branch, table_does, judged}
use Rattle.meaning.specs.Schemes.{too_wide, narrow_does, narrow_step}
use Rattle.meaning.proofs.TestLaws.{by-test, pick_true, pick_false}
use Rattle.meaning.proofs.Sound.{counted_verified, then_verified}
use Rattle.steps.specs.Held.{table_in, plan_in, request_in}
use Rattle.steps.specs.AtHand.{Marked}
use Rattle.steps.specs.Rests.{rest_at, after_first}
use Rattle.steps.specs.Steps.{unknown_above, first_of, Followed, Takes, Taken, TakesNone, Untaken, Chosen}
use Rattle.steps.proofs.OnwardLaws.{walk_join}
use Rattle.steps.proofs.LookLaws.{first_marked, second_marked, told_true, told_false, unknown_after_set, unknown_first, unknown_no_first, sensed_first, sensed_no_first}
use Rattle.schemes.specs.Narrow.{narrow_from, NarrowFrom, fluents_from, narrow_readings, NarrowReadings, Acts}
use Rattle.meaning.specs.declared.Form.TheVariants.{Flags}

-- AN ACTION can be run, is not too wide, and what follows it is such a walk.
module _ (t : Table) (p a : ℕ) (k : State → Walked State) (s : State) where
  refused_stops : (n : ℕ) (u : Concerned State) (x : Step State) → x ≡ refuses n u → Verified (after_step p x k) → ⊥
  unfolding after_step stopped_at
  refused_stops n u x is good =
      let stops : stopped n p u ≡ fine = subst (λ (y : Step State). Verified (after_step p y k)) is good in
      let z : ◌≡◌ {A = ℕ} 0 1 = cc in omega arith

  module _ (good : Verified (run_action (narrow_step t) p a k s)) where
    does_good : Verified (after_step p (narrow_does t a s) k)
    unfolding run_action narrow_step
    does_good = good

    narrow : too_wide t a s ≡ false
    unfolding narrow_does
    narrow = by-test (too_wide t a s) (λ wide. absurd (refused_stops _ _ _ (pick_true _ _ _ wide) does_good)) (λ no_more. no_more)

    does_as_table : narrow_does t a s ≡ table_does t a s
    unfolding narrow_does
    does_as_table = pick_false _ _ _ narrow

    pub narrow_runs : can_be_run t a s ≡ true
    unfolding table_does
    narrow_runs = by-test (can_be_run t a s) (λ runs. runs) (λ stuck. absurd (refused_stops _ _ _ (does_as_table ∙ pick_false _ _ _ stuck) does_good))

    pub narrow_few : length (unknown_sensed t a s) ≤ Limits.most_forked
    unfolding too_wide
    narrow_few = ltb-false Limits.most_forked (length (unknown_sensed t a s)) narrow

    narrow_leads : Verified (each_reading (outcome t a s) k)
    unfolding table_does after_step
    narrow_leads =
        counted_verified 1 (each_reading (outcome t a s) k)
        (subst (λ (y : Step State). Verified (after_step p y k)) (does_as_table ∙ pick_true _ _ _ narrow_runs) does_good)

    pub narrow_moves : sensing t a ≡ false → Verified (k (state_after t a s))
    unfolding outcome each_reading
    narrow_moves none_sensed = subst (λ (o : Outcome State). Verified (each_reading o k)) (pick_false _ _ _ none_sensed) narrow_leads

    pub narrow_reads : sensing t a ≡ true → Verified (each_reading (readings (unknown_sensed t a s) s) k)
    unfolding outcome
    narrow_reads senses = subst (λ (o : Outcome State). Verified (each_reading o k)) (pick_true _ _ _ senses) narrow_leads

-- ITEM i is this action.
module _ (s t : List ℕ) (i a : ℕ) (acts : Acts s t i a) (marks : State) (good : NarrowFrom s t i marks) where
  abbrev walks_on : State → Walked State
  walks_on = walk (narrow_step (table_in Flags s)) acts.after (judged (request_in Flags s t))

  run_good : Verified (run_action (narrow_step (table_in Flags s)) acts.place a walks_on marks)
  unfolding narrow_from walk
  run_good = subst (λ (c : Sequence ℕ). Verified (walk (narrow_step (table_in Flags s)) c (judged (request_in Flags s t)) marks)) acts.is good

  pub action_runs : (n : ℕ) → n ≡ a → can_be_run (table_in Flags s) n marks ≡ true
  action_runs n is = ap (λ (b : ℕ). can_be_run (table_in Flags s) b marks) is ∙ narrow_runs (table_in Flags s) acts.place a walks_on marks run_good

  action_few : length (unknown_sensed (table_in Flags s) a marks) ≤ Limits.most_forked
  action_few = narrow_few (table_in Flags s) acts.place a walks_on marks run_good

-- WHAT FOLLOWS IT.
pub left_after : (s t : List ℕ) (i a : ℕ) (acts : Acts s t i a) (next : ℕ) → Followed Flags s t i next → rest_at (plan_in Flags s t) next ≡ acts.after
unfolding after_first
left_after s t i a acts next follows = follows.rest ∙ ap after_first acts.is

-- The fluents from the first one up are all of them.
module _ (s : List ℕ) (a : ℕ) (marks : State) (f : ℕ) where
  fluents_some : f < format.fluents → fluents_from s a f marks ≡ f ∷ unknown_above (table_in Flags s) a marks (f + 1)
  unfolding fluents_from
  fluents_some near = pick_true _ _ _ (lt-ltb f format.fluents near)

  pub fluents_none : format.fluents ≤ f → fluents_from s a f marks ≡ []
  unfolding fluents_from
  fluents_none far = pick_false _ _ _ (le-ltb f format.fluents far)

  module _ (marked : Marked marks) where
    fluents_above : (from : ℕ) → f ≡ first_of (unknown_above (table_in Flags s) a marks from) → fluents_from s a f marks ≡ unknown_above (table_in Flags s) a marks from
    fluents_above from first =
        by-test (ltb f format.fluents)
        (λ u. let near = ltb-true f format.fluents u in fluents_some near ∙ sym (unknown_first (table_in Flags s) a marks marked from f first near))
        (λ u. let far = ltb-false f format.fluents u in fluents_none far ∙ sym (unknown_no_first (table_in Flags s) a marks marked from f first far))

    pub fluents_sensed : f ≡ first_of (unknown_sensed (table_in Flags s) a marks) → fluents_from s a f marks ≡ unknown_sensed (table_in Flags s) a marks
    fluents_sensed first =
        by-test (ltb f format.fluents)
        (λ u. let near = ltb-true f format.fluents u in fluents_some near ∙ sym (sensed_first (table_in Flags s) a marks marked f first near))
        (λ u. let far = ltb-false f format.fluents u in fluents_none far ∙ sym (sensed_no_first (table_in Flags s) a marks marked f first far))

module _ (s t : List ℕ) (i a : ℕ) (acts : Acts s t i a) (marks : State) (good : NarrowFrom s t i marks) (next : ℕ) (follows : Followed Flags s t i next) where
  from_next : walks_on s t i a acts marks good ≡ narrow_from s t next
  unfolding narrow_from
  from_next = ap (λ (c : Sequence ℕ). walk (narrow_step (table_in Flags s)) c (judged (request_in Flags s t))) (sym (left_after s t i a acts next follows))

  pub action_moves : sensing (table_in Flags s) a ≡ false → (n : ℕ) → n ≡ a → (after : State) → after ≡ state_after (table_in Flags s) n marks → NarrowFrom s t next after
  action_moves unsensed n same after is =
      subst (λ (m : State). NarrowFrom s t next m) (sym (is ∙ ap (λ (b : ℕ). state_after (table_in Flags s) b marks) same))
      (subst (λ (k : State → Walked State). Verified (k (state_after (table_in Flags s) a marks))) from_next
      (narrow_moves (table_in Flags s) acts.place a (walks_on s t i a acts marks good) marks (run_good s t i a acts marks good) unsensed))

  pub action_reads : sensing (table_in Flags s) a ≡ true → Marked marks → (f : ℕ) → f ≡ first_of (unknown_sensed (table_in Flags s) a marks) → NarrowReadings s t a next f marks
  unfolding narrow_readings
  action_reads sensed marked f first =
      subst (λ (fs : List ℕ). Verified (each_reading (readings fs marks) (narrow_from s t next))) (sym (fluents_sensed s a marks f marked first))
      (subst (λ (k : State → Walked State). Verified (each_reading (readings (unknown_sensed (table_in Flags s) a marks) marks) k)) from_next
      (narrow_reads (table_in Flags s) acts.place a (walks_on s t i a acts marks good) marks (run_good s t i a acts marks good) sensed))

-- Rule 3 has citations enough for its readings.
pub sensing_few : (s t : List ℕ) (i a : ℕ) → Acts s t i a → (marks : State) → NarrowFrom s t i marks → Marked marks → (f : ℕ) → f ≡ first_of (unknown_sensed (table_in Flags s) a marks)
    → (cites : List ℕ) → cites ≡ [] → length cites + 2 ^ length (fluents_from s a f marks) ≤ format.citations
sensing_few s t i a acts marks good marked f first cites empty =
    let long = ap length empty in
    let few : length (fluents_from s a f marks) ≤ 6 = rw (fluents_sensed s a marks f marked first) (action_few s t i a acts marks good) in
    let most : 2 ^ length (fluents_from s a f marks) ≤ 2 ^ 6 = pow-le-pow_right {n = 2} (omega arith) few in
    omega arith

-- THE READINGS from fluent f up: of none, or of f as true and then as false, each with those of the next one.
pub readings_none : (s t : List ℕ) (a at f : ℕ) (marks : State) → format.fluents ≤ f → NarrowReadings s t a at f marks → NarrowFrom s t at marks
unfolding narrow_readings readings each_reading
readings_none s t a at f marks far good = subst (λ (fs : List ℕ). Verified (each_reading (readings fs marks) (narrow_from s t at))) (fluents_none s a marks f far) good

module _ (s : List ℕ) (a f : ℕ) (marks : State) (small : f < format.fluents) (marked : Marked marks) (g : ℕ) (next : g ≡ first_of (unknown_above (table_in Flags s) a (set marks f 1) (f + 1))) where
  first_fluents : fluents_from s a g (set marks f 1) ≡ unknown_above (table_in Flags s) a marks (f + 1)
  first_fluents = fluents_above s a (set marks f 1) g (first_marked f marks small marked) (f + 1) next ∙ unknown_after_set (table_in Flags s) a marks f 1

  second_fluents : fluents_from s a g (set (set marks f 1) f 2) ≡ unknown_above (table_in Flags s) a marks (f + 1)
  second_fluents =
      let same = unknown_after_set (table_in Flags s) a (set marks f 1) f 2 in
      fluents_above s a (set (set marks f 1) f 2) g (second_marked f marks small marked) (f + 1) (next ∙ ap first_of (sym same)) ∙ same ∙ unknown_after_set (table_in Flags s) a marks f 1

  -- There are twice as many.
  pub readings_double : 2 ^ length (fluents_from s a f marks) ≡ 2 ^ length (fluents_from s a g (set marks f 1)) + 2 ^ length (fluents_from s a g (set (set marks f 1) f 2))
  readings_double =
      ap (λ (fs : List ℕ). 2 ^ length fs) (fluents_some s a marks f small) ∙ two-pow-succ (length (unknown_above (table_in Flags s) a marks (f + 1))) ∙ rw (first_fluents, second_fluents)

  pub readings_fork : readings (fluents_from s a f marks) marks
      ≡ fork (readings (fluents_from s a g (set marks f 1)) (set marks f 1)) (λ _. readings (fluents_from s a g (set (set marks f 1) f 2)) (set (set marks f 1) f 2))
  unfolding readings
  readings_fork =
      ap (λ (fs : List ℕ). readings fs marks) (fluents_some s a marks f small)
      ∙ rw (first_fluents, second_fluents, told_true f marks, told_false f marks, set-set marks f 1 2)

  module _ (t : List ℕ) (at : ℕ) (good : NarrowReadings s t a at f marks) where
    both_good : Verified (each_reading (readings (fluents_from s a g (set marks f 1)) (set marks f 1)) (narrow_from s t at)) × Verified (each_reading (readings (fluents_from s a g (set (set marks f 1) f 2)) (set (set marks f 1) f 2)) (narrow_from s t at))
    unfolding narrow_readings each_reading
    both_good = then_verified _ _ (subst (λ (o : Outcome State). Verified (each_reading o (narrow_from s t at))) readings_fork good)

    pub readings_first : NarrowReadings s t a at g (set marks f 1)
    unfolding narrow_readings
    readings_first = both_good.0

    pub readings_second : NarrowReadings s t a at g (set (set marks f 1) f 2)
    unfolding narrow_readings
    readings_second = both_good.1

-- A BRANCHING.
module _ (t : Table) (s : State) (p : ℕ) (k : State → Walked State) where
  takes_walks : (bs : Branches ℕ) (b : Sequence ℕ) → Takes known s bs b → walk_branch (narrow_step t) bs p k s ≡ walk (narrow_step t) b k s
  unfolding Takes walk_branch narrow_step
  takes_walks none b takes = absurd takes
  takes_walks (branch c d bs) b takes =
      ⊎_elim (λ here. pick_true _ _ _ here.0 ∙ ap (λ (e : Sequence ℕ). walk (narrow_step t) e k s) (sym here.1))
      (λ later. pick_false _ _ _ later.0 ∙ takes_walks bs b later.1) takes

  none_stops : (bs : Branches ℕ) → TakesNone known s bs → walk_branch (narrow_step t) bs p k s ≡ stuck_at p s
  unfolding TakesNone walk_branch narrow_step
  none_stops none takes = refl
  none_stops (branch c d bs) takes = pick_false _ _ _ takes.0 ∙ none_stops bs takes.1

module _ (s t : List ℕ) (i : ℕ) (marks : State) (good : NarrowFrom s t i marks) where
  taken_good : (at : ℕ) → Taken known marks (rest_at (plan_in Flags s t) i) (rest_at (plan_in Flags s t) at) → NarrowFrom s t at marks
  unfolding narrow_from walk
  taken_good at taken =
      let step = narrow_step (table_in Flags s) in
      let end = judged (request_in Flags s t) in
      subst Verified
      (ap (λ (c : Sequence ℕ). walk step c end marks) taken.is
      ∙ takes_walks (table_in Flags s) marks taken.place (walk step taken.after end) taken.branches taken.chosen taken.takes
      ∙ sym (walk_join step taken.chosen taken.after end marks)
      ∙ ap (λ (c : Sequence ℕ). walk step c end marks) (sym taken.rest))
      good

  some_taken : Untaken known marks (rest_at (plan_in Flags s t) i) → ⊥
  unfolding narrow_from walk stopped_at
  some_taken untaken =
      let step = narrow_step (table_in Flags s) in
      let end = judged (request_in Flags s t) in
      let stops : stopped Limits.not_executable untaken.place (in_state marks) ≡ fine =
      subst Verified
      (ap (λ (c : Sequence ℕ). walk step c end marks) untaken.is ∙ none_stops (table_in Flags s) marks untaken.place (walk step untaken.after end) untaken.branches untaken.none)
      good in
      let z : ◌≡◌ {A = ℕ} 0 1 = cc in omega arith

  module _ (r : Option ℕ) (chosen : Chosen Flags s t i marks r) where
    pub chosen_good : (at : ℕ) → r ≡ Some at → NarrowFrom s t at marks
    chosen_good at is = taken_good at (chosen.takes at is)

    pub some_chosen : r ≡ None → ⊥
    some_chosen is = some_taken (chosen.stays is)
