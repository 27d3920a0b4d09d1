-- A fork adds the readings of its fluent one behind another, a value each; each is followed by the fork of the next unknown fluent, or by what follows the action.
-- Assumes nothing.
use Prim.Native.Nat.{ℕ, zero, suc, ◌+◌, ◌-◌, ◌≤◌, ◌<◌}
use native.Mathlib.Omega.{arith}
use mathlib.Core.Path.{◌≡◌, refl, sym, ◌∙◌, ap}
use mathlib.Core.Bool.{Bool, true, false}
use mathlib.Core.List.{List, [], ◌∷◌}
use lib.ListN.{get_or, set}
use lib.Seq.{set-set, get_or-set_same}
use lib.Dec.{ltb}
use mir.Syntax.{w8}
use mir.Val.{Fits}
use borrow.Author.Tests.{ltb-true, ltb-false}
use Rattle.meaning.specs.Tests.{both}
use Rattle.meaning.specs.Limits.{format}
use Rattle.meaning.specs.declared.Form.{Form}
use Rattle.meaning.specs.declared.Form.TheVariants.{Flags}
use Rattle.meaning.specs.Values.{numbers}
use Rattle.meaning.specs.States.{State, Outcome}
use Rattle.meaning.specs.ValueStates.{each_value}
use Rattle.meaning.specs.Walk.{Walked, each_reading, meet}
use Rattle.meaning.proofs.TestLaws.{by-test, clash, both_left, both_right, both_true}
use Rattle.steps.specs.AtHand.{AtHand, MarkedAs}
use Rattle.steps.specs.Steps.{values_as, readings_as, step_in, walk_after, met_from, first_of, unknown_as, Followed}
use Rattle.steps.proofs.OnwardLaws.{followed_met}
use Rattle.steps.proofs.FormSteps.{flags_count}
use Rattle.steps.proofs.LookAs.{unknown_set_as, unknown_first_as, unknown_above_as, unknown_unmarked_as, unknown_none_as}
use Rattle.walking.specs.declared.tally.Tally.{Tally}
use Rattle.walking.specs.Standing.{Standing, add, standing, goes_on, Going}
use Rattle.walking.specs.Walks.{action_at, read_on, fork_from, value_read, add_values, add_higher}
use Rattle.walking.proofs.FitLaws.{fit_sized, fit_told, few_values, many_values, readings_first, no_readings}
use Rattle.walking.proofs.StandingLaws.{add_then}
use Rattle.walking.proofs.WalkArms.{over}

module _ (form : Form) (s t : List ℕ) (i f : ℕ) (marks : State) where
  abbrev adds : Standing → List ℕ → Standing
  adds = add_values form s t i f marks

  abbrev above : List ℕ
  above = unknown_as form s (action_at s t i) marks (f + 1)

  abbrev reading : ℕ → Outcome State
  reading v = readings_as form s above (set marks f (v + 1))

  values_walked : (b : Standing) (v : ℕ) (vs : List ℕ) → add b (each_reading (each_value (v ∷ vs) reading marks) (meet (step_in form s t) (walk_after form s t i))) ≡ adds b (v ∷ vs)
  unfolding add_values each_value each_reading value_read read_on
  values_walked b v [] = refl
  values_walked b v (u ∷ us) =
      add_then b (each_reading (reading v) (meet (step_in form s t) (walk_after form s t i))) (λ _. each_reading (each_value (u ∷ us) reading marks) (meet (step_in form s t) (walk_after form s t i)))
      ∙ values_walked (add b (each_reading (reading v) (meet (step_in form s t) (walk_after form s t i)))) u us

  some_values : (b : Standing) (n : ℕ) → 0 < n → add b (each_reading (each_value (numbers 0 n) reading marks) (meet (step_in form s t) (walk_after form s t i))) ≡ adds b (numbers 0 n)
  unfolding numbers
  some_values b zero some = absurd (omega arith)
  some_values b (suc n) some = values_walked b 0 (numbers 1 n)

  fork_values : (b : Standing) → 0 < values_as form s f → add b (fork_from form s t i f marks) ≡ adds b (numbers 0 (values_as form s f))
  unfolding fork_from read_on
  fork_values b some =
      ap (λ (o : Outcome State). add b (each_reading o (meet (step_in form s t) (walk_after form s t i)))) (readings_first form s f above marks)
      ∙ some_values b (values_as form s f) some

  -- Nothing more is added to what has stopped or is spent.
  stopped_values : (after : Tally) (on : Bool) → on ≡ goes_on after.course → on ≡ false → (vs : List ℕ) → standing after ≡ adds (standing after) vs
  unfolding add_values
  stopped_values after on says no_more [] = refl
  stopped_values after on says no_more (v ∷ vs) =
      stopped_values after on says no_more vs ∙ ap (λ (b : Standing). adds b vs) (over after on says no_more (value_read form s t i f marks v))

-- ONE READING of the fluent, in a state that has the value's mark: a fork of the next unknown fluent, or what follows the action.
module _ (form : Form) (s t : List ℕ) (i f : ℕ) (marks : State) (p a : ℕ) (place : p ≡ get_or t (0 + i) 0) (action : a ≡ get_or s p 0) (g : ℕ) (next : g ≡ first_of (unknown_as form s a marks (f + 1))) (state : State) (v : ℕ) (told : state ≡ set marks f (v + 1)) (fit : MarkedAs form s state) (before after : Tally) where
  is_action : action_at s t i ≡ a
  unfolding action_at
  is_action = ap (λ (q : ℕ). get_or s q 0) (sym place) ∙ sym action

  -- The unknown fluents above it are the same after every reading.
  alike : unknown_as form s (action_at s t i) state (f + 1) ≡ unknown_as form s (action_at s t i) marks (f + 1)
  alike = ap (λ (m : State). unknown_as form s (action_at s t i) m (f + 1)) told ∙ unknown_set_as form s (action_at s t i) marks f (v + 1)

  first_next : g ≡ first_of (unknown_as form s (action_at s t i) state (f + 1))
  first_next =
      next ∙ ap (λ (b : ℕ). first_of (unknown_as form s b marks (f + 1))) (sym is_action)
      ∙ ap first_of (sym alike)

  read_here : read_on form s t i (unknown_as form s (action_at s t i) state (f + 1)) state ≡ value_read form s t i f marks v
  unfolding value_read
  read_here = ap (λ (fs : List ℕ). read_on form s t i fs state) alike ∙ ap (read_on form s t i (unknown_as form s (action_at s t i) marks (f + 1))) told

  -- There is another unknown fluent.
  read_forks : g < format.fluents → standing after ≡ add (standing before) (fork_from form s t i g state) → standing after ≡ add (standing before) (value_read form s t i f marks v)
  unfolding fork_from
  read_forks near walked =
      walked
      ∙ ap (λ (fs : List ℕ). add (standing before) (read_on form s t i fs state)) (sym (unknown_first_as form s (action_at s t i) state fit (f + 1) g first_next near))
      ∙ ap (add (standing before)) read_here

  -- There is none.
  read_walks : format.fluents ≤ g → (r : ℕ) → Followed form s t i r → standing after ≡ add (standing before) (met_from form s t r state) → standing after ≡ add (standing before) (value_read form s t i f marks v)
  unfolding read_on each_reading
  read_walks far r follows walked =
      walked
      ∙ ap (add (standing before)) (sym (followed_met s t i r follows state))
      ∙ ap (λ (o : Outcome State). add (standing before) (each_reading o (meet (step_in form s t) (walk_after form s t i)))) (sym (no_readings form s state))
      ∙ ap (λ (fs : List ℕ). add (standing before) (read_on form s t i fs state)) (sym (unknown_none_as form s (action_at s t i) state fit (f + 1) g first_next far))
      ∙ ap (add (standing before)) read_here

-- The values above those of an unknown fluent are all that it has.
higher_all : (form : Form) (s t : List ℕ) → AtHand form s t → (i g : ℕ) (marks : State) → get_or marks g 0 ≡ 0 → (b : Standing) → add_higher form s t i g marks b ≡ add b (fork_from form s t i g marks)
unfolding add_higher
higher_all form s t here i g marks none b =
    let many = many_values form s t here g in
    let whole : values_as form s g - 0 ≡ values_as form s g = omega arith in
    ap (λ (m : ℕ). add_values form s t i g marks b (numbers m (values_as form s g - m))) none
    ∙ ap (λ (n : ℕ). add_values form s t i g marks b (numbers 0 n)) whole
    ∙ sym (fork_values form s t i g marks b (omega arith))

-- THE LOOP over the values of the fluent: what is left to add is what was to be added from the first.
pub record Forking (form : Form) (s t : List ℕ) (i f : ℕ) (marks : State) (whole : Standing) (tally : Tally) (state : State) : Type 0 where
  pub same : (m : ℕ) → set state f m ≡ set marks f m
  pub fit : MarkedAs form s state
  pub rest : whole ≡ add_values form s t i f marks (standing tally) (numbers (get_or state f 0) (values_as form s f - get_or state f 0))

-- It starts with the next value.
pub forking_starts : (form : Form) (s t : List ℕ) (i f : ℕ) (marks : State) (tally : Tally) → MarkedAs form s marks → Forking form s t i f marks (add_higher form s t i f marks (standing tally)) tally marks
unfolding add_higher
forking_starts form s t i f marks tally fit = record { same = λ m. refl; fit = fit; rest = refl }

module _ (form : Form) (s t : List ℕ) (i f : ℕ) (marks : State) (whole : Standing) (tally : Tally) (state : State) (now : Forking form s t i f marks whole tally state)
    (more : Bool) (says : more ≡ both (goes_on tally.course) (ltb (get_or state f 0) (values_as form s f))) where
  -- No value is left, or the walk is over.
  pub forking_ends : more ≡ false → standing tally ≡ whole
  unfolding numbers add_values
  forking_ends e =
      by-test (goes_on tally.course)
      (λ goes.
      by-test (ltb (get_or state f 0) (values_as form s f))
      (λ low. clash (both_true _ _ goes low) (sym says ∙ e))
      (λ high.
      let past : values_as form s f ≤ get_or state f 0 = ltb-false _ _ high in
      let none : values_as form s f - get_or state f 0 ≡ 0 = omega arith in
      sym (now.rest ∙ ap (λ (n : ℕ). add_values form s t i f marks (standing tally) (numbers (get_or state f 0) n)) none)))
      (λ off. stopped_values form s t i f marks tally (goes_on tally.course) refl off (numbers (get_or state f 0) (values_as form s f - get_or state f 0)) ∙ sym now.rest)

  -- There is another.
  module _ (small : f < format.fluents) (on : more ≡ true) where
    pub forking_going : Going tally
    forking_going = record { on = both_left _ _ (sym says ∙ on) }

    forking_low : get_or state f 0 < values_as form s f
    forking_low = ltb-true _ _ (both_right _ _ (sym says ∙ on))

    pub forking_fits : AtHand form s t → Fits w8 (get_or state f 0 + 1)
    forking_fits here = let low = forking_low in let few = few_values form s t here f in record { fits = omega arith }

    pub forking_fit : MarkedAs form s (set state f (get_or state f 0 + 1))
    forking_fit = fit_told form s state now.fit f (get_or state f 0) small forking_low

    turned : set state f (get_or state f 0 + 1) ≡ set marks f (get_or state f 0 + 1)
    turned = now.same (get_or state f 0 + 1)

    new_mark : get_or (set state f (get_or state f 0 + 1)) f 0 ≡ get_or state f 0 + 1
    new_mark = let sized = fit_sized form s state now.fit in get_or-set_same state f (get_or state f 0 + 1) 0 (omega (arith, sized))

    pub forking_less : values_as form s f - get_or (set state f (get_or state f 0 + 1)) f 0 < values_as form s f - get_or state f 0
    forking_less = let low = forking_low in let mark = new_mark in omega arith

    -- One value was read.
    on_from : (after : Tally) → standing after ≡ add (standing tally) (value_read form s t i f marks (get_or state f 0)) → Forking form s t i f marks whole after (set state f (get_or state f 0 + 1))
    unfolding numbers add_values
    on_from after read = record { same = λ m. set-set state f (get_or state f 0 + 1) m ∙ now.same m; fit = forking_fit; rest = ahead }
      where
        later : List ℕ
        later = numbers (get_or (set state f (get_or state f 0 + 1)) f 0) (values_as form s f - get_or (set state f (get_or state f 0 + 1)) f 0)

        split : numbers (get_or state f 0) (values_as form s f - get_or state f 0) ≡ get_or state f 0 ∷ later
        split =
            let low = forking_low in
            let one : values_as form s f - get_or state f 0 ≡ suc (values_as form s f - (get_or state f 0 + 1)) = omega arith in
            ap (numbers (get_or state f 0)) one
            ∙ ap (λ (m : ℕ). get_or state f 0 ∷ numbers m (values_as form s f - m)) (sym new_mark)

        ahead : whole ≡ add_values form s t i f marks (standing after) later
        ahead =
            now.rest
            ∙ ap (add_values form s t i f marks (standing tally)) split
            ∙ ap (λ (b : Standing). add_values form s t i f marks b later) (sym read)

    module _ (p a : ℕ) (place : p ≡ get_or t (0 + i) 0) (action : a ≡ get_or s p 0) (g : ℕ) (next : g ≡ first_of (unknown_as form s a marks (f + 1))) (after : Tally) where
      pub forking_forks : AtHand form s t → g < format.fluents → standing after ≡ add_higher form s t i g (set state f (get_or state f 0 + 1)) (standing tally) → Forking form s t i f marks whole after (set state f (get_or state f 0 + 1))
      forking_forks here near walked =
          let above = first_next form s t i f marks p a place action g next _ (get_or state f 0) turned forking_fit tally after in
          let none = unknown_unmarked_as form s (action_at s t i) _ forking_fit (f + 1) g above near in
          on_from after (read_forks form s t i f marks p a place action g next _ (get_or state f 0) turned forking_fit tally after near (walked ∙ higher_all form s t here i g _ none (standing tally)))

      pub forking_walks : format.fluents ≤ g → (r : ℕ) → Followed form s t i r → standing after ≡ add (standing tally) (met_from form s t r (set state f (get_or state f 0 + 1))) → Forking form s t i f marks whole after (set state f (get_or state f 0 + 1))
      forking_walks far r follows walked = on_from after (read_walks form s t i f marks p a place action g next _ (get_or state f 0) turned forking_fit tally after far r follows walked)

-- THE FIRST TWO VALUES, which every fluent has, and then the others.
module _ (form : Form) (s t : List ℕ) (here : AtHand form s t) (f : ℕ) (small : f < format.fluents) (marks : State) (fit : MarkedAs form s marks) where
  pub first_fits : MarkedAs form s (set marks f 1)
  first_fits = let many = many_values form s t here f in fit_told form s marks fit f 0 small (omega arith)

  pub second_fits : MarkedAs form s (set (set marks f 1) f 2)
  second_fits = let many = many_values form s t here f in fit_told form s (set marks f 1) first_fits f 1 small (omega arith)

module _ (form : Form) (s t : List ℕ) (here : AtHand form s t) (i f : ℕ) (small : f < format.fluents) (marks : State) (fit : MarkedAs form s marks) where
  -- What was known of the fluent before does not matter.
  value_forgotten : (m v : ℕ) → value_read form s t i f (set marks f m) v ≡ value_read form s t i f marks v
  unfolding value_read
  value_forgotten m v = rw (unknown_set_as form s (action_at s t i) marks f m, set-set marks f m (v + 1))

  values_forgotten : (m : ℕ) (b : Standing) (vs : List ℕ) → add_values form s t i f (set marks f m) b vs ≡ add_values form s t i f marks b vs
  unfolding add_values
  values_forgotten m b [] = refl
  values_forgotten m b (v ∷ vs) = values_forgotten m (add b (value_read form s t i f (set marks f m) v)) vs ∙ ap (λ (w : Walked State). add_values form s t i f marks (add b w) vs) (value_forgotten m v)

  module _ (tally after : Tally) (first : standing after ≡ add (standing tally) (value_read form s t i f marks 0)) where
    later : List ℕ
    later = numbers 2 (values_as form s f - 2)

    forked : add (standing tally) (fork_from form s t i f marks) ≡ add_values form s t i f marks (standing after) (1 ∷ later)
    unfolding numbers add_values later
    forked =
        let many = many_values form s t here f in
        let two : values_as form s f ≡ suc (suc (values_as form s f - 2)) = omega arith in
        fork_values form s t i f marks (standing tally) (omega arith)
        ∙ ap (λ (n : ℕ). add_values form s t i f marks (standing tally) (numbers 0 n)) two
        ∙ ap (λ (b : Standing). add_values form s t i f marks b (1 ∷ later)) (sym first)

    read_once : (on : Bool) → on ≡ goes_on after.course → on ≡ false → standing after ≡ add (standing tally) (fork_from form s t i f marks)
    read_once on says off = stopped_values form s t i f marks after on says off (1 ∷ later) ∙ sym forked

    read_flags : Flags ≡ form → (second : Tally) → standing second ≡ add (standing after) (value_read form s t i f marks 1) → standing second ≡ add (standing tally) (fork_from form s t i f marks)
    unfolding add_values later numbers
    read_flags flags second read =
        let two : 2 ≡ values_as form s f = flags_count form s f (sym flags) in
        let none : values_as form s f - 2 ≡ 0 = omega arith in
        read ∙ sym (forked ∙ ap (λ (n : ℕ). add_values form s t i f marks (standing after) (1 ∷ numbers 2 n)) none)

    read_all : (second third : Tally) → standing second ≡ add (standing after) (value_read form s t i f marks 1) → standing third ≡ add_higher form s t i f (set (set marks f 1) f 2) (standing second)
        → standing third ≡ add (standing tally) (fork_from form s t i f marks)
    unfolding add_higher add_values later
    read_all second third read rest =
        let sized = fit_sized form s (set marks f 1) (first_fits form s t here f small marks fit) in
        let mark : get_or (set (set marks f 1) f 2) f 0 ≡ 2 = get_or-set_same (set marks f 1) f 2 0 (omega (arith, sized)) in
        rest
        ∙ ap (λ (m : ℕ). add_values form s t i f (set (set marks f 1) f 2) (standing second) (numbers m (values_as form s f - m))) mark
        ∙ ap (λ (u : State). add_values form s t i f u (standing second) later) (set-set marks f 1 2)
        ∙ values_forgotten 2 (standing second) later
        ∙ ap (λ (b : Standing). add_values form s t i f marks b later) read
        ∙ sym forked

  module _ (p a : ℕ) (place : p ≡ get_or t (0 + i) 0) (action : a ≡ get_or s p 0) (g : ℕ) (next : g ≡ first_of (unknown_as form s a (set marks f 1) (f + 1))) (tally after : Tally) where
    next_above : g ≡ first_of (unknown_as form s a marks (f + 1))
    next_above = next ∙ ap first_of (unknown_set_as form s a marks f 1)

    -- There is another unknown fluent.
    module _ (near : g < format.fluents) (walked : standing after ≡ add (standing tally) (fork_from form s t i g (set marks f 1))) where
      first_forks : standing after ≡ add (standing tally) (value_read form s t i f marks 0)
      first_forks = read_forks form s t i f marks p a place action g next_above (set marks f 1) 0 refl (first_fits form s t here f small marks fit) tally after near walked

      second_forks : (second : Tally) → standing second ≡ add (standing after) (fork_from form s t i g (set (set marks f 1) f 2)) → standing second ≡ add (standing after) (value_read form s t i f marks 1)
      second_forks second again = read_forks form s t i f marks p a place action g next_above (set (set marks f 1) f 2) 1 (set-set marks f 1 2) (second_fits form s t here f small marks fit) after second near again

      pub forks_once : (on : Bool) → on ≡ goes_on after.course → on ≡ false → standing after ≡ add (standing tally) (fork_from form s t i f marks)
      forks_once = read_once tally after first_forks

      -- A flag has no other value.
      pub forks_twice : Flags ≡ form → (second : Tally) → standing second ≡ add (standing after) (fork_from form s t i g (set (set marks f 1) f 2)) → standing second ≡ add (standing tally) (fork_from form s t i f marks)
      forks_twice flags second again = read_flags tally after first_forks flags second (second_forks second again)

      pub forks_all : (second third : Tally) → standing second ≡ add (standing after) (fork_from form s t i g (set (set marks f 1) f 2)) → standing third ≡ add_higher form s t i f (set (set marks f 1) f 2) (standing second)
          → standing third ≡ add (standing tally) (fork_from form s t i f marks)
      forks_all second third again = read_all tally after first_forks second third (second_forks second again)

    -- There is none.
    module _ (far : format.fluents ≤ g) (r : ℕ) (follows : Followed form s t i r) (walked : standing after ≡ add (standing tally) (met_from form s t r (set marks f 1))) where
      first_walks : standing after ≡ add (standing tally) (value_read form s t i f marks 0)
      first_walks = read_walks form s t i f marks p a place action g next_above (set marks f 1) 0 refl (first_fits form s t here f small marks fit) tally after far r follows walked

      second_walks : (second : Tally) → standing second ≡ add (standing after) (met_from form s t r (set (set marks f 1) f 2)) → standing second ≡ add (standing after) (value_read form s t i f marks 1)
      second_walks second again = read_walks form s t i f marks p a place action g next_above (set (set marks f 1) f 2) 1 (set-set marks f 1 2) (second_fits form s t here f small marks fit) after second far r follows again

      pub walks_once : (on : Bool) → on ≡ goes_on after.course → on ≡ false → standing after ≡ add (standing tally) (fork_from form s t i f marks)
      walks_once = read_once tally after first_walks

      pub walks_twice : Flags ≡ form → (second : Tally) → standing second ≡ add (standing after) (met_from form s t r (set (set marks f 1) f 2)) → standing second ≡ add (standing tally) (fork_from form s t i f marks)
      walks_twice flags second again = read_flags tally after first_walks flags second (second_walks second again)

      pub walks_all : (second third : Tally) → standing second ≡ add (standing after) (met_from form s t r (set (set marks f 1) f 2)) → standing third ≡ add_higher form s t i f (set (set marks f 1) f 2) (standing second)
          → standing third ≡ add (standing tally) (fork_from form s t i f marks)
      walks_all second third again = read_all tally after first_walks second third (second_walks second again)

-- The next unknown fluent is a higher one.
pub next_rises : (form : Form) (s t : List ℕ) (f : ℕ) (marks : State) → MarkedAs form s marks → (a g : ℕ) → g ≡ first_of (unknown_as form s a marks (f + 1)) → g < format.fluents → f < g
next_rises form s t f marks fit a g next near = let h = unknown_above_as form s a marks fit (f + 1) g next near in omega arith
