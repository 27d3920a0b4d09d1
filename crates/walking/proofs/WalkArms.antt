-- The walk's arms: each is what the definition gives for the item met, by the standing that the tally held before. Assumes nothing.
use Prim.Native.Nat.{ℕ, ◌+◌, ◌≤◌, ◌<◌}
use native.Mathlib.Omega.{arith}
use mathlib.Core.Path.{◌≡◌, refl, sym, ◌∙◌, ap, subst}
use mathlib.Core.Bool.{Bool, true, false}
use mathlib.Core.List.{List, ◌∷◌}
use lib.ListN.{get_or}
use lib.Dec.{eqb}
use Rattle.std.specs.Prelude.{Option, None, Some}
use Rattle.meaning.specs.Limits.{format}
use Rattle.meaning.specs.declared.Form.{Form}
use Rattle.meaning.specs.Limits
use Rattle.meaning.specs.Refusals
use Rattle.meaning.specs.Refusals.{nowhere, at}
use Rattle.meaning.specs.Lines.{sensing}
use Rattle.meaning.specs.States.{State, Outcome}
use Rattle.meaning.specs.Walk.{no_state, in_state, fine, missed, Walked, stopped_at, stuck_at, counted, and_then, after_end, each_reading, Step, after_step, unless_broken, meet, run_action, end_of, stopped}
use Rattle.meaning.proofs.TestLaws.{by-test, clash, pick_true, pick_false}
use Rattle.reading.specs.Planned.{items_of}
use Rattle.finding.specs.Places.{found}
use Rattle.finding.proofs.FoundLaws.{found_none, found_at}
use Rattle.steps.specs.declared.cases.Tried.{Tried}
use Rattle.steps.specs.declared.cases.Tried.TheVariants.{Runs, Stuck, Many}
use Rattle.steps.specs.Held.{table_in, plan_in}
use Rattle.steps.specs.AtHand.{AtHand, MarkedAs}
use Rattle.steps.specs.Rests.{Position}
use Rattle.steps.specs.Steps.{narrow_mode, mode_in, does_as, after_as, refused_in, outcome_as, tries_as, lacks_as, missed_as, step_in, judged_in, walk_from, walk_after, met_from, first_of, unknown_as, all_unknown, Followed, Chosen, going_on}
use Rattle.steps.proofs.OnwardLaws.{end_judged, action_small, action_walked, followed_met}
use Rattle.steps.proofs.LookAs.{sensed_first_as, sensed_none_as}
use Rattle.walking.specs.declared.tally.Tally.{Tally}
use Rattle.walking.specs.declared.tally.Course.TheVariants.{Fine, Missed, Stuck, Broken, TooWide, TooMany}
use Rattle.walking.specs.Standing.{Standing, so_far, add, one, stands, standing, number_of, goes_on, Going, Breaks}
use Rattle.walking.specs.Walks.{action_at, read_on, fork_from}
use Rattle.walking.proofs.FallLaws.{action_there}
use Rattle.walking.proofs.StandingLaws.{add_then, add_counted, add_over, add_stopped, stands_fine, add_fine, add_kept}
use Rattle.walking.proofs.FitLaws.{no_readings}

-- GOING ON after a part, where the tally says so.
pub going_again : (after : Tally) (on : Bool) → on ≡ goes_on after.course → on ≡ true → Going after
going_again after on says yes-on = record { on = sym says ∙ yes-on }

-- And where it doesn't, nothing more is added.
pub over : (after : Tally) (on : Bool) → on ≡ goes_on after.course → on ≡ false → (w : Walked State) → standing after ≡ add (standing after) w
over after on says no_more w = add_over after (sym says ∙ no_more) w

-- A STATE THAT IS MET.
module _ (form : Form) (s t : List ℕ) (marks : State) (tally : Tally) (broken : Bool) (after : Tally) (looked : Breaks ((step_in form s t).lacks marks) marks tally broken after) where
  -- It lacks no guard.
  module _ (none : broken ≡ false) where
    pub passed_going : Going tally → Going after
    passed_going going = subst Going (sym (looked.passes none).1) going

    pub passed_lacks : (step_in form s t).lacks marks ≡ nowhere
    passed_lacks = (looked.passes none).0

    pub passed_on : (k : State → Walked State) → add (standing tally) (meet (step_in form s t) k marks) ≡ add (standing after) (k marks)
    passed_on k =
        ap (λ (f : Refusals.Found). add (standing tally) (unless_broken f marks (k marks))) passed_lacks
        ∙ ap (λ (u : Tally). add (standing u) (k marks)) (sym (looked.passes none).1)

  -- It lacks one.
  pub broken_stops : broken ≡ true → Going tally → (k : State → Walked State) → standing after ≡ add (standing tally) (meet (step_in form s t) k marks)
  broken_stops some going k =
      let is = looked.stops some in
      is.2 ∙ add_stopped tally going Limits.guard_broken is.0 (in_state marks)
      ∙ ap (λ (f : Refusals.Found). add (standing tally) (unless_broken f marks (k marks))) (sym is.1)

-- What was found broken, as it is noted.
module _ (form : Form) (s t : List ℕ) (marks : State) (tally : Tally) (f : Option ℕ) (answer : f ≡ found (lacks_as form s t marks)) where
  pub breaks_noted : (p : ℕ) → f ≡ Some p → (after : Tally) → standing after ≡ stands Broken tally.left p marks → Breaks ((step_in form s t).lacks marks) marks tally true after
  unfolding step_in stands
  breaks_noted p is after noted = record { stops = λ _. (p, found_at _ f answer p is, noted); passes = λ e. clash refl e }

  pub breaks_none : f ≡ None → Breaks ((step_in form s t).lacks marks) marks tally false tally
  unfolding step_in
  breaks_none is = record { stops = λ e. clash e refl; passes = λ _. (found_none _ f answer is, refl) }

-- AN END STATE.
module _ (tally counts : Tally) (one_more : standing counts ≡ add (standing tally) one) (form : Form) (s t : List ℕ) (marks : State) where
  -- What is counted, and then what is missed.
  judges : add (standing tally) (judged_in form s t marks) ≡ add (standing counts) (record { count = 0; end = end_of (missed_as form s t marks) marks })
  unfolding judged_in and_then after_end counted one
  judges = add_then (standing tally) one (λ _. record { count = 0; end = end_of (missed_as form s t marks) marks }) ∙ ap (λ (a : Standing). add a (record { count = 0; end = end_of (missed_as form s t marks) marks })) (sym one_more)

  module _ (none : counts.course ≡ Fine) (f : Option ℕ) (answer : f ≡ found (missed_as form s t marks)) where
    pub judged_missed : (p : ℕ) → f ≡ Some p → (after : Tally) → standing after ≡ stands Missed counts.left p marks → standing after ≡ add (standing tally) (judged_in form s t marks)
    unfolding stands end_of
    judged_missed p is after noted =
        let missed_at : missed_as form s t marks ≡ at p = found_at (missed_as form s t marks) f answer p is in
        noted ∙ sym (add_fine counts none (missed p marks)) ∙ ap (λ (g : Refusals.Found). add (standing counts) (record { count = 0; end = end_of g marks })) (sym missed_at) ∙ sym judges

    pub judged_fine : f ≡ None → standing counts ≡ add (standing tally) (judged_in form s t marks)
    unfolding end_of
    judged_fine is =
        let nothing : missed_as form s t marks ≡ nowhere = found_none (missed_as form s t marks) f answer is in
        stands_fine counts none ∙ sym (add_fine counts none fine) ∙ ap (λ (g : Refusals.Found). add (standing counts) (record { count = 0; end = end_of g marks })) (sym nothing) ∙ sym judges

  pub judged_before : (counts.course ≡ Fine → ⊥) → standing counts ≡ add (standing tally) (judged_in form s t marks)
  judged_before some = add_kept counts some (missed_as form s t marks) marks ∙ sym judges

-- The number that too many readings or cases are refused with.
pub refused_wide : (mode number : ℕ) → number ≡ refused_in mode → number ≡ Limits.sensing_too_wide → number_of TooWide ≡ refused_in mode
unfolding number_of
refused_wide mode number says is = sym is ∙ says

pub refused_many : (mode number : ℕ) → number ≡ refused_in mode → (number ≡ Limits.sensing_too_wide → ⊥) → number_of TooMany ≡ refused_in mode
unfolding number_of refused_in
refused_many mode number says other =
    by-test (eqb mode narrow_mode)
    (λ narrow. absurd (other (says ∙ pick_true _ _ _ narrow)))
    (λ plain. sym (pick_false _ _ _ plain))

-- What trying an action gave.
pub ran_there : (form : Form) (s t : List ℕ) (a : ℕ) (state : State) (tried : Tried) → does_as form s t a state ≡ tries_as form s t a state tried → tried ≡ Runs
    → does_as form s t a state ≡ tries_as form s t a state Runs
ran_there form s t a state tried asked is = asked ∙ ap (tries_as form s t a state) is

-- AN ACTION that is item i, at p.
module _ (form : Form) (s t : List ℕ) (here : AtHand form s t) (i : ℕ) (less : i < items_of (plan_in form s t)) (p : ℕ) (placed-there : p ≡ get_or t (0 + i) 0) (other : get_or s p 0 ≡ 255 → ⊥) (a : ℕ) (is_action : a ≡ get_or s p 0) (state : State) (tally : Tally) (going : Going tally)
    (tried : Tried) (asked : does_as form s t a state ≡ tries_as form s t a state tried) where
  -- What it does is what trying it gave.
  walked_as : (r : Tried) → tried ≡ r → walk_from form s t i state ≡ after_step p (tries_as form s t a state r) (meet (step_in form s t) (walk_after form s t i))
  unfolding run_action step_in
  walked_as r is =
      action_walked s t here i less p placed-there other a is_action state
      ∙ ap (λ (x : Step State). after_step p x (meet (step_in form s t) (walk_after form s t i))) (asked ∙ ap (tries_as form s t a state) is)

  -- It can't be run.
  pub item_stuck : tried ≡ Stuck → (after : Tally) → standing after ≡ stands Stuck tally.left p state → standing after ≡ add (standing tally) (walk_from form s t i state)
  unfolding after_step tries_as stands
  item_stuck is after noted = noted ∙ add_stopped tally going Limits.not_executable p (in_state state) ∙ ap (add (standing tally)) (sym (walked_as Stuck is))

  -- It has too many readings or cases.
  pub item_many : tried ≡ Many → (number : ℕ) → number ≡ refused_in (mode_in t) → (after : Tally) → standing after ≡ so_far tally.left (stopped number p no_state)
      → standing after ≡ add (standing tally) (walk_from form s t i state)
  unfolding after_step tries_as
  item_many is number says after noted =
      noted ∙ add_stopped tally going number p no_state ∙ ap (λ (n : ℕ). add (standing tally) (stopped_at n p no_state)) says ∙ ap (add (standing tally)) (sym (walked_as Many is))

  -- What it leads to.
  abbrev leads : Outcome State
  leads = outcome_as form s t a state

  module _ (can : tried ≡ Runs) (counts : Tally) (one_more : standing counts ≡ add (standing tally) one) where
    -- It is run and counted; then each reading is followed by what follows the action.
    run_on : add (standing tally) (walk_from form s t i state) ≡ add (standing counts) (each_reading leads (meet (step_in form s t) (walk_after form s t i)))
    unfolding after_step tries_as
    run_on =
        ap (add (standing tally)) (walked_as Runs can)
        ∙ add_counted (standing tally) (each_reading leads (meet (step_in form s t) (walk_after form s t i)))
        ∙ ap (λ (b : Standing). add b (each_reading leads (meet (step_in form s t) (walk_after form s t i)))) (sym one_more)

    module _ (on : Bool) (says : on ≡ goes_on counts.course) where
      -- The budget was spent with it.
      pub run_spent : on ≡ false → standing counts ≡ add (standing tally) (walk_from form s t i state)
      run_spent no_more = over counts on says no_more (each_reading leads (meet (step_in form s t) (walk_after form s t i))) ∙ sym run_on

    module _ (senses : Bool) (sensed : senses ≡ sensing (table_in form s) a) where
      -- It moves the state.
      pub run_moves : senses ≡ false → (next : State) → next ≡ after_as form s t a state → (r : ℕ) → Followed form s t i r
          → add (standing tally) (walk_from form s t i state) ≡ add (standing counts) (met_from form s t r next)
      unfolding each_reading outcome_as
      run_moves none next is r follows =
          run_on
          ∙ ap (λ (o : Outcome State). add (standing counts) (each_reading o (meet (step_in form s t) (walk_after form s t i)))) (pick_false _ _ _ (sym sensed ∙ none))
          ∙ ap (λ (m : State). add (standing counts) (meet (step_in form s t) (walk_after form s t i) m)) (sym is)
          ∙ ap (add (standing counts)) (followed_met s t i r follows next)

      module _ (marked : MarkedAs form s state) (f : ℕ) (first : f ≡ first_of (all_unknown form s a state)) (some : senses ≡ true) where
        reads_on : add (standing tally) (walk_from form s t i state) ≡ add (standing counts) (read_on form s t i (all_unknown form s a state) state)
        unfolding read_on outcome_as
        reads_on = run_on ∙ ap (λ (o : Outcome State). add (standing counts) (each_reading o (meet (step_in form s t) (walk_after form s t i)))) (pick_true _ _ _ (sym sensed ∙ some))

        -- It forks a fluent.
        pub run_forks : f < format.fluents → (after : Tally) → standing after ≡ add (standing counts) (fork_from form s t i f state) → standing after ≡ add (standing tally) (walk_from form s t i state)
        unfolding fork_from action_at
        run_forks small after forked =
            let same : get_or s (get_or t (0 + i) 0) 0 ≡ a = ap (λ (q : ℕ). get_or s q 0) (sym placed-there) ∙ sym is_action in
            forked
            ∙ ap (λ (b : ℕ). add (standing counts) (read_on form s t i (f ∷ unknown_as form s b state (f + 1)) state)) same
            ∙ ap (λ (fs : List ℕ). add (standing counts) (read_on form s t i fs state)) (sym (sensed_first_as form s a state marked f first small))
            ∙ sym reads_on

        -- It forks none.
        pub run_sees : format.fluents ≤ f → (r : ℕ) → Followed form s t i r → add (standing tally) (walk_from form s t i state) ≡ add (standing counts) (met_from form s t r state)
        unfolding read_on each_reading
        run_sees none r follows =
            reads_on
            ∙ ap (λ (fs : List ℕ). add (standing counts) (read_on form s t i fs state)) (sensed_none_as form s a state marked f first none)
            ∙ ap (λ (o : Outcome State). add (standing counts) (each_reading o (meet (step_in form s t) (walk_after form s t i)))) (no_readings form s state)
            ∙ ap (add (standing counts)) (followed_met s t i r follows state)

-- Its number is small.
pub action_low : (form : Form) (s t : List ℕ) → AtHand form s t → (i : ℕ) → i < items_of (plan_in form s t) → (p : ℕ) → p ≡ get_or t (0 + i) 0 → (get_or s p 0 ≡ 255 → ⊥) → action_at s t i < format.actions
unfolding action_at
action_low form s t here i less p place other = action_there s t i p (get_or s p 0) place refl (action_small s t here i less p place other (get_or s p 0) refl)

-- A BRANCHING that is item i.
module _ (form : Form) (s t : List ℕ) (i : ℕ) (marks : State) (f : Option ℕ) (chosen : Chosen form s t i marks f) (tally : Tally) where
  pub branch_taken : (step_in form s t).lacks marks ≡ nowhere → (q : ℕ) → f ≡ Some q → (after : Tally) → standing after ≡ add (standing tally) (met_from form s t q marks) → standing after ≡ add (standing tally) (walk_from form s t i marks)
  unfolding going_on
  branch_taken passed q is after walked =
      walked ∙ ap (λ (g : Refusals.Found). add (standing tally) (unless_broken g marks (walk_from form s t q marks))) passed ∙ ap (add (standing tally)) (sym (chosen.goes ∙ ap (going_on form s t (get_or t (0 + i) 0) marks) is))

  pub none_taken : Going tally → f ≡ None → (p : ℕ) → p ≡ get_or t (0 + i) 0 → (after : Tally) → standing after ≡ stands Stuck tally.left p marks → standing after ≡ add (standing tally) (walk_from form s t i marks)
  unfolding going_on stands
  none_taken going is p place after noted =
      noted ∙ add_stopped tally going Limits.not_executable p (in_state marks)
      ∙ ap (λ (q : ℕ). add (standing tally) (stuck_at q marks)) place
      ∙ ap (add (standing tally)) (sym (chosen.goes ∙ ap (going_on form s t (get_or t (0 + i) 0) marks) is))

-- THE LOOP over the actions of a sequence: what is left to add from the position now is what was to be added from the first.
pub record Walking (form : Form) (s t : List ℕ) (start : ℕ) (marks : State) (tally₀ tally : Tally) (i : ℕ) (state : State) : Type 0 where
  pub here : AtHand form s t
  pub position : Position (plan_in form s t) i
  pub marked : MarkedAs form s state
  pub going : Going tally
  pub later : start ≤ i
  pub same : add (standing tally₀) (met_from form s t start marks) ≡ add (standing tally) (met_from form s t i state)

pub walking_starts : (form : Form) (s t : List ℕ) (start : ℕ) (marks : State) (tally : Tally) → AtHand form s t → Position (plan_in form s t) start → MarkedAs form s marks → Going tally → Walking form s t start marks tally tally start marks
walking_starts form s t start marks tally here position marked going = record { here = here; position = position; marked = marked; going = going; later = omega arith; same = refl }

module _ (form : Form) (s t : List ℕ) (start : ℕ) (marks : State) (tally₀ tally : Tally) (i : ℕ) (state : State) (now : Walking form s t start marks tally₀ tally i state) where
  pub walking_here : AtHand form s t
  walking_here = now.here

  pub walking_there : i < format.items → i < items_of (plan_in form s t)
  walking_there less = now.position.there (λ e. omega arith)

  pub walking_marked : MarkedAs form s state
  walking_marked = now.marked

  pub walking_going : Going tally
  walking_going = now.going

  pub walking_later : start ≤ i
  walking_later = now.later

  module _ (broken : Bool) (passed : Tally) (looked : Breaks ((step_in form s t).lacks state) state tally broken passed) where
    -- The state lacks a guard.
    pub walking_broken : broken ≡ true → standing passed ≡ add (standing tally₀) (met_from form s t start marks)
    walking_broken some = broken_stops form s t state tally broken passed looked some now.going (walk_from form s t i) ∙ sym now.same

    -- It lacks none.
    module _ (none : broken ≡ false) where
      pub walking_passed : Going passed
      walking_passed = passed_going form s t state tally broken passed looked none now.going

      left : add (standing tally₀) (met_from form s t start marks) ≡ add (standing passed) (walk_from form s t i state)
      left = now.same ∙ passed_on form s t state tally broken passed looked none (walk_from form s t i)

      -- One of the walk's ends.
      pub walking_ends : (after : Tally) → standing after ≡ add (standing passed) (walk_from form s t i state) → standing after ≡ add (standing tally₀) (met_from form s t start marks)
      walking_ends after is = is ∙ sym left

      pub walking_judged : format.items ≤ i → (after : Tally) → standing after ≡ add (standing passed) (judged_in form s t state) → standing after ≡ add (standing tally₀) (met_from form s t start marks)
      walking_judged done after is =
          let most = now.position.most in
          let end : i ≡ format.items = omega arith in
          walking_ends after (is ∙ ap (add (standing passed)) (sym (end_judged s t now.here state) ∙ ap (λ (j : ℕ). walk_from form s t j state) (sym end)))

      -- The next item.
      pub walking_on : (after : Tally) → Going after → (next : State) → MarkedAs form s next → (r : ℕ) → Followed form s t i r → add (standing passed) (walk_from form s t i state) ≡ add (standing after) (met_from form s t r next) → Walking form s t start marks tally₀ after r next
      walking_on after going next marked r follows is =
          let before = now.later in
          let beyond = follows.later in
          record { here = now.here; position = follows.at; marked = marked; going = going; later = omega arith; same = left ∙ is }
