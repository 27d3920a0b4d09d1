-- An action tried by cases, by what is known unless it is too wide, and in the mode of the walk. More open fluents than the limit end the walk; else those that are held are the
-- open ones, and it is enough to fill these. Assumes nothing.
use Prim.Native.Nat.{ℕ, zero, suc, ◌≤◌, ◌<◌}
use native.Mathlib.Omega.{arith}
use native.Mathlib.Decide.{dec_lt}
use native.Mathlib.Nat.{not-suc-le-zero, le_of_suc-le-suc}
use mathlib.Core.Path.{◌≡◌, refl, sym, ◌∙◌, ap, subst}
use mathlib.Core.Bool.{Bool, true, false}
use mathlib.Core.List.{List, [], ◌∷◌}
use mathlib.Core.Logic.{◌⊎◌, inl, inr}
use lib.ListN.{length, get_or, drop}
use lib.Dec.{eqb}
use borrow.Author.Tests.{eqb-true, eq-eqb, ne_eqb, lt-ltb, le-ltb, ltb-false}
use Rattle.meaning.specs.Tests.{both, fails, pick, each_of, Has}
use Rattle.meaning.specs.Limits
use Rattle.meaning.specs.Limits.{format, most_open}
use Rattle.meaning.specs.Requests.{Table}
use Rattle.meaning.specs.States.{State, known_whether, can_be_run, state_after, Outcome, outcome, outcome_to}
use Rattle.meaning.specs.Walk.{Concerned, no_state, in_state, Step, leads_to, refuses, table_does}
use Rattle.meaning.specs.Schemes.{too_wide, narrow_does}
use Rattle.meaning.specs.ByCases.{upward, fillings, runs_by_cases, after_each, after_cases, in_bodies, open_fluents, too_many, cases_does}
use Rattle.meaning.proofs.TestLaws.{both_right, fails_true, pick_true, pick_false, pick-cases, those_has}
use Rattle.meaning.proofs.SensingLaws.{Distinct}
use Rattle.meaning.proofs.FillLaws.{upward_within, upward_distinct, those_distinct, fills_run, fills_after, known_runs}
use Rattle.reading.specs.Noted.{mode_slot}
use Rattle.steps.specs.declared.trying.Mode.{Mode}
use Rattle.steps.specs.declared.trying.Mode.TheVariants.{ByKnown, Narrow, Values, ByCases}
use Rattle.steps.specs.declared.cases.Tried.{Tried}
use Rattle.steps.specs.declared.cases.Tried.TheVariants.{Runs, Stuck, Many}
use Rattle.steps.specs.Held.{table_in}
use Rattle.steps.specs.AtHand.{AtHand, Marked}
use Rattle.steps.specs.Opened.{open_in, Opened, Filling}
use Rattle.steps.specs.Steps.{narrow_mode, values_mode, mode_named, mode_in, does_in, after_in, refused_in, tried_as}
use Rattle.steps.proofs.HandLaws.{sections}
use Rattle.meaning.specs.declared.Form.TheVariants.{Flags}

-- ENTRIES BY THEIR NUMBERS.
has_at : (fs : List ℕ) (j : ℕ) → j < length fs → Has fs (get_or fs j 0)
has_at [] j h = absurd (not-suc-le-zero h)
has_at (f ∷ fs) zero h = inl refl
has_at (f ∷ fs) (suc j) h = inr (has_at fs j (le_of_suc-le-suc h))

once_each : (fs : List ℕ) → Distinct fs → (j k : ℕ) → j < k → k < length fs → get_or fs j 0 ≡ get_or fs k 0 → ⊥
once_each [] distinct j k less near same = not-suc-le-zero near
once_each (f ∷ fs) distinct j zero less near same = not-suc-le-zero less
once_each (f ∷ fs) distinct zero (suc k) less near same = distinct.0 (subst (Has fs) (sym same) (has_at fs k (le_of_suc-le-suc near)))
once_each (f ∷ fs) distinct (suc j) (suc k) less near same = once_each fs distinct.1 j k (le_of_suc-le-suc less) (le_of_suc-le-suc near) same

-- THE OPEN FLUENTS of an action.
module _ (t : Table) (a : ℕ) (marks : State) where
  open_is : (f : ℕ) → Has (open_fluents t a marks) f → (f < t.fluents) × (known_whether marks f ≡ false)
  unfolding open_fluents
  open_is f h =
      let w = those_has (λ (g : ℕ). both (in_bodies t a g) (fails (known_whether marks g))) (upward 0 t.fluents) f h in
      (omega (arith, (upward_within 0 t.fluents f w.0).1), fails_true _ (both_right _ _ w.1))

  open_distinct : Distinct (open_fluents t a marks)
  unfolding open_fluents
  open_distinct = those_distinct (λ (g : ℕ). both (in_bodies t a g) (fails (known_whether marks g))) (upward 0 t.fluents) (upward_distinct 0 t.fluents)

  few_known : length (open_fluents t a marks) ≤ most_open → too_many t a marks ≡ false
  unfolding too_many
  few_known few = le-ltb most_open _ few

  known_few : too_many t a marks ≡ false → length (open_fluents t a marks) ≤ most_open
  unfolding too_many
  known_few few = ltb-false most_open _ few

  -- Where they are held and few, they can be filled.
  filling_from : t.fluents ≤ format.fluents → Marked marks → (held : List ℕ) → Opened (open_fluents t a marks) held → length (open_fluents t a marks) ≤ most_open → Filling held 0 marks
  filling_from narrow marked held found few =
      let same : open_in held ≡ open_fluents t a marks = found.fluents few in
      record {
        marked = marked;
        few = omega (arith, found.number few, few);
        number = ap length same ∙ sym (found.number few);
        small = rw same (λ j h. omega (arith, (open_is (get_or (open_fluents t a marks) j 0) (has_at (open_fluents t a marks) j h)).0, narrow));
        unknown = rw same (λ j _ h. (open_is (get_or (open_fluents t a marks) j 0) (has_at (open_fluents t a marks) j h)).1);
        once = rw same (once_each (open_fluents t a marks) open_distinct);
      }

-- AN ACTION TRIED BY CASES.
module _ (s notes : List ℕ) (here : AtHand Flags s notes) (a : ℕ) (marks : State) (marked : Marked marks) (held : List ℕ) (found : Opened (open_fluents (table_in Flags s) a marks) held) where
  abbrev t : Table
  t = table_in Flags s

  narrow : t.fluents ≤ format.fluents
  narrow = (sections s notes here).few

  wide : t.fluents ≤ length marks
  wide = omega (arith, narrow, marked.sized)

  held_runs : length (open_fluents t a marks) ≤ most_open → runs_by_cases t a marks ≡ each_of (can_be_run t a) (fillings (drop 0 (open_in held)) marks)
  held_runs few = fills_run t a marks wide ∙ ap (λ (fs : List ℕ). each_of (can_be_run t a) (fillings fs marks)) (sym (found.fluents few))

  held_after : length (open_fluents t a marks) ≤ most_open → after_cases t a marks ≡ after_each t a (fillings (drop 0 (open_in held)) marks) marks
  held_after few = fills_after t a marks wide ∙ ap (λ (fs : List ℕ). after_each t a (fillings fs marks) marks) (sym (found.fluents few))

  module _ (n : ℕ) (is : n ≡ get_or held 0 0) where
    few_open : n ≤ most_open → length (open_fluents t a marks) ≤ most_open
    few_open low = elim (dec_lt most_open (length (open_fluents t a marks))) [ yes more ↦ absurd (omega (arith, found.more more, low, is)) | no few ↦ omega (arith, few) ]

    pub tried_many : most_open < n → cases_does t a marks ≡ tried_as 1 t a marks Many
    unfolding cases_does tried_as refused_in too_many pick
    tried_many high =
        let many : too_many t a marks ≡ true =
        elim (dec_lt most_open (length (open_fluents t a marks))) [
          | yes more ↦ lt-ltb most_open _ more
          | no few ↦ absurd (omega (arith, found.number (omega (arith, few)), high, is, few))
        ] in
        pick_true _ _ _ many

    module _ (low : n ≤ most_open) where
      pub tried_filling : Filling held 0 marks
      tried_filling = filling_from t a marks narrow marked held found (few_open low)

      not_many : cases_does t a marks ≡ pick (runs_by_cases t a marks) (λ _. tried_as 1 t a marks Runs) (λ _. tried_as 1 t a marks Stuck)
      unfolding cases_does tried_as after_in pick
      not_many = pick_false _ _ _ (few_known t a marks (few_open low))

      pub tried_known : (b : Bool) → b ≡ can_be_run t a marks → b ≡ true → cases_does t a marks ≡ tried_as 1 t a marks Runs
      tried_known b asked runs = not_many ∙ pick_true _ _ _ (known_runs t a marks (sym asked ∙ runs))

      module _ (b v : Bool) (asked : b ≡ each_of (can_be_run t a) (fillings (drop 0 (open_in held)) marks)) (is-value : v ≡ b) where
        pub tried_filled : v ≡ true → cases_does t a marks ≡ tried_as 1 t a marks Runs
        tried_filled runs = not_many ∙ pick_true _ _ _ (held_runs (few_open low) ∙ sym asked ∙ sym is-value ∙ runs)

        pub tried_stuck : v ≡ false → cases_does t a marks ≡ tried_as 1 t a marks Stuck
        tried_stuck stuck = not_many ∙ pick_false _ _ _ (held_runs (few_open low) ∙ sym asked ∙ sym is-value ∙ stuck)

  -- The state after it.
  module _ (few : too_many t a marks ≡ false) where
    pub cases_filling : Filling held 0 marks
    cases_filling = filling_from t a marks narrow marked held found (known_few t a marks few)

    pub cases_can : runs_by_cases t a marks ≡ true → each_of (can_be_run t a) (fillings (drop 0 (open_in held)) marks) ≡ true
    cases_can runs = sym (held_runs (known_few t a marks few)) ∙ runs

    pub cases_after : (r : State) → r ≡ after_each t a (fillings (drop 0 (open_in held)) marks) marks → r ≡ after_cases t a marks
    cases_after r is = is ∙ sym (held_after (known_few t a marks few))

-- AN ACTION TRIED BY WHAT IS KNOWN, unless it is too wide.
module _ (t : Table) (a : ℕ) (marks : State) (w : Bool) (looked : w ≡ too_wide t a marks) where
  pub narrow_many : w ≡ true → narrow_does t a marks ≡ tried_as narrow_mode t a marks Many
  unfolding narrow_does tried_as refused_in pick
  narrow_many some = pick_true _ _ _ (sym looked ∙ some)

  module _ (none : w ≡ false) (b : Bool) (asked : b ≡ can_be_run t a marks) where
    not_wide : narrow_does t a marks ≡ pick (can_be_run t a marks) (λ _. tried_as narrow_mode t a marks Runs) (λ _. tried_as narrow_mode t a marks Stuck)
    unfolding narrow_does table_does outcome tried_as after_in pick
    not_wide = pick_false _ _ _ (sym looked ∙ none)

    pub narrow_runs : b ≡ true → narrow_does t a marks ≡ tried_as narrow_mode t a marks Runs
    narrow_runs runs = not_wide ∙ pick_true _ _ _ (sym asked ∙ runs)

    pub narrow_stuck : b ≡ false → narrow_does t a marks ≡ tried_as narrow_mode t a marks Stuck
    narrow_stuck stuck = not_wide ∙ pick_false _ _ _ (sym asked ∙ stuck)

-- IN THE MODE OF THE WALK.
Led : Step State → Type 0
Led (leads_to o) = Unit {0}
Led (refuses n c) = ⊥

pub not_led : (n : ℕ) (c : Concerned State) (o : Outcome State) → refuses n c ≡ leads_to o → ⊥
unfolding Led
not_led n c o e = subst Led (sym e) tt

-- What a number does as a mode.
module _ (m : ℕ) where
  named_known : m ≡ 0 → mode_named m ≡ ByKnown
  unfolding mode_named
  named_known e = pick_true _ _ _ (eq-eqb m 0 e)

  named_narrow : m ≡ narrow_mode → mode_named m ≡ Narrow
  unfolding mode_named pick
  named_narrow e = rw e refl

  known_named : mode_named m ≡ ByKnown → m ≡ 0
  unfolding mode_named
  known_named e =
      pick-cases (eqb m 0) _ _ e (λ zero-mode _. eqb-true _ _ zero-mode)
      (λ _ f. pick-cases (eqb m narrow_mode) _ _ f (λ _ g. absurd (cc)) (λ _ g. pick-cases (eqb m values_mode) _ _ g (λ _ h. absurd (cc)) (λ _ h. absurd (cc))))

  narrow_named : mode_named m ≡ Narrow → m ≡ narrow_mode
  unfolding mode_named
  narrow_named e =
      pick-cases (eqb m 0) _ _ e (λ _ f. absurd (cc))
      (λ _ f. pick-cases (eqb m narrow_mode) _ _ f (λ narrow _. eqb-true _ _ narrow) (λ _ g. pick-cases (eqb m values_mode) _ _ g (λ _ h. absurd (cc)) (λ _ h. absurd (cc))))

  pub named_values : m ≡ values_mode → mode_named m ≡ Values
  unfolding mode_named pick
  named_values e = rw e refl

-- The mode of the notes.
module _ (notes : List ℕ) (mode : ℕ) (is : mode ≡ get_or notes mode_slot 0) where
  at_mode : mode_named mode ≡ mode_named (mode_in notes)
  unfolding mode_in
  at_mode = ap mode_named is

  pub mode_known : mode ≡ 0 → ByKnown ≡ mode_named (mode_in notes)
  mode_known e = sym (named_known mode e) ∙ at_mode

  pub mode_narrow : mode ≡ narrow_mode → Narrow ≡ mode_named (mode_in notes)
  mode_narrow e = sym (named_narrow mode e) ∙ at_mode

  pub mode_values : mode ≡ values_mode → Values ≡ mode_named (mode_in notes)
  mode_values e = sym (named_values mode e) ∙ at_mode

  pub mode_cases : (mode ≡ 0 → ⊥) → (mode ≡ narrow_mode → ⊥) → (mode ≡ values_mode → ⊥) → ByCases ≡ mode_named (mode_in notes)
  unfolding mode_named
  mode_cases known narrow valued = sym (pick_false _ _ _ (ne_eqb _ 0 known) ∙ pick_false _ _ _ (ne_eqb _ narrow_mode narrow) ∙ pick_false _ _ _ (ne_eqb _ values_mode valued)) ∙ at_mode

-- The number with which too many readings or cases are refused.
module _ (notes : List ℕ) (mode : Mode) (is : mode ≡ mode_named (mode_in notes)) where
  in_narrow : mode ≡ Narrow → mode_in notes ≡ narrow_mode
  in_narrow narrow = narrow_named _ (sym is ∙ narrow)

  not_narrow : (mode ≡ Narrow → ⊥) → eqb (mode_in notes) narrow_mode ≡ false
  not_narrow wide = ne_eqb _ narrow_mode (λ e. wide (is ∙ named_narrow _ e))

  pub refused_narrow : mode ≡ Narrow → Limits.sensing_too_wide ≡ refused_in (mode_in notes)
  unfolding refused_in pick
  refused_narrow narrow = ap refused_in (sym (in_narrow narrow))

  pub refused_many : (mode ≡ Narrow → ⊥) → Limits.too_many_cases ≡ refused_in (mode_in notes)
  unfolding refused_in
  refused_many wide = sym (pick_false _ _ _ (not_narrow wide))

-- What an action does.
module _ (notes : List ℕ) (t : Table) (a : ℕ) (marks : State) (mode : Mode) (is : mode ≡ mode_named (mode_in notes)) where
  -- By what is known.
  module _ (plain : mode ≡ ByKnown) where
    by_known : eqb (mode_in notes) 0 ≡ true
    by_known = eq-eqb _ 0 (known_named _ (sym is ∙ plain))

    known_does : does_in (mode_in notes) t a marks ≡ pick (can_be_run t a marks) (λ _. tried_as (mode_in notes) t a marks Runs) (λ _. tried_as (mode_in notes) t a marks Stuck)
    unfolding does_in tried_as after_in table_does outcome pick
    known_does = rw by_known refl

    pub known_tried : (b : Bool) → b ≡ can_be_run t a marks → b ≡ true → does_in (mode_in notes) t a marks ≡ tried_as (mode_in notes) t a marks Runs
    known_tried b asked runs = known_does ∙ pick_true _ _ _ (sym asked ∙ runs)

    pub known_stuck : (b : Bool) → b ≡ can_be_run t a marks → b ≡ false → does_in (mode_in notes) t a marks ≡ tried_as (mode_in notes) t a marks Stuck
    known_stuck b asked stuck = known_does ∙ pick_false _ _ _ (sym asked ∙ stuck)

    known_can : does_in (mode_in notes) t a marks ≡ tried_as (mode_in notes) t a marks Runs → can_be_run t a marks ≡ true
    unfolding tried_as
    known_can does = pick-cases (can_be_run t a marks) _ _ (sym known_does ∙ does) (λ e _. e) (λ _ e. absurd (not_led _ _ _ e))

    known_after_in : (r : State) → r ≡ state_after t a marks → r ≡ after_in (mode_in notes) t a marks
    unfolding after_in
    known_after_in r at = at ∙ sym (pick_true _ _ _ by_known)

  -- The same, unless it is too wide.
  module _ (narrow : mode ≡ Narrow) where
    by_narrow : mode_in notes ≡ narrow_mode
    by_narrow = in_narrow notes mode is narrow

    narrow_do : does_in (mode_in notes) t a marks ≡ narrow_does t a marks
    unfolding does_in pick
    narrow_do = ap (λ (m : ℕ). does_in m t a marks) by_narrow

    pub narrow_tried : (r : Tried) → narrow_does t a marks ≡ tried_as narrow_mode t a marks r → does_in (mode_in notes) t a marks ≡ tried_as (mode_in notes) t a marks r
    narrow_tried r does = narrow_do ∙ does ∙ ap (λ (m : ℕ). tried_as m t a marks r) (sym by_narrow)

    narrow_can : does_in (mode_in notes) t a marks ≡ tried_as (mode_in notes) t a marks Runs → can_be_run t a marks ≡ true
    unfolding tried_as narrow_does table_does
    narrow_can does =
        pick-cases (too_wide t a marks) _ _ (sym narrow_do ∙ does) (λ _ e. absurd (not_led _ _ _ e))
        (λ _ e. pick-cases (can_be_run t a marks) _ _ e (λ runs _. runs) (λ _ q. absurd (not_led _ _ _ q)))

    narrow_after_in : (r : State) → r ≡ state_after t a marks → r ≡ after_in (mode_in notes) t a marks
    unfolding after_in pick
    narrow_after_in r at = at ∙ ap (λ (m : ℕ). after_in m t a marks) (sym by_narrow)

  -- In these two the state after it is found alike.
  module _ (no-cases : (mode ≡ ByKnown) ⊎ (mode ≡ Narrow)) where
    pub plain_can : does_in (mode_in notes) t a marks ≡ tried_as (mode_in notes) t a marks Runs → can_be_run t a marks ≡ true
    plain_can does = elim no-cases [ inl plain ↦ known_can plain does | inr narrow ↦ narrow_can narrow does ]

    pub plain_after_in : (r : State) → r ≡ state_after t a marks → r ≡ after_in (mode_in notes) t a marks
    plain_after_in r at = elim no-cases [ inl plain ↦ known_after_in plain r at | inr narrow ↦ narrow_after_in narrow r at ]

  -- By cases.
  module _ (other : mode ≡ ByKnown → ⊥) (wide : mode ≡ Narrow → ⊥) where
    not_known : eqb (mode_in notes) 0 ≡ false
    not_known = ne_eqb _ 0 (λ e. other (is ∙ named_known _ e))

    cases_do : does_in (mode_in notes) t a marks ≡ cases_does t a marks
    unfolding does_in
    cases_do = pick_false _ _ _ not_known ∙ pick_false _ _ _ (not_narrow notes mode is wide)

    after_by_cases : after_in (mode_in notes) t a marks ≡ after_cases t a marks
    unfolding after_in
    after_by_cases = pick_false _ _ _ not_known ∙ pick_false _ _ _ (not_narrow notes mode is wide)

    pub cases_tried : (r : Tried) → cases_does t a marks ≡ tried_as 1 t a marks r → does_in (mode_in notes) t a marks ≡ tried_as (mode_in notes) t a marks r
    unfolding tried_as after_in refused_in pick
    cases_tried r does =
        let tries : State → ℕ → Step State = λ after n. elim r [ Runs ↦ leads_to (outcome_to t a marks after) | Stuck ↦ refuses Limits.not_executable (in_state marks) | Many ↦ refuses n no_state ] in
        cases_do ∙ does
        ∙ ap (λ (after : State). tries after Limits.too_many_cases) (sym after_by_cases)
        ∙ ap (tries (after_in (mode_in notes) t a marks)) (refused_many notes mode is wide)

    cases_led : does_in (mode_in notes) t a marks ≡ tried_as (mode_in notes) t a marks Runs → (too_many t a marks ≡ false) × (runs_by_cases t a marks ≡ true)
    unfolding tried_as cases_does
    cases_led does =
        pick-cases (too_many t a marks) _ _ (sym cases_do ∙ does) (λ _ e. absurd (not_led _ _ _ e))
        (λ few e. (few, pick-cases (runs_by_cases t a marks) _ _ e (λ runs _. runs) (λ _ q. absurd (not_led _ _ _ q))))

    pub cases_few : does_in (mode_in notes) t a marks ≡ tried_as (mode_in notes) t a marks Runs → too_many t a marks ≡ false
    cases_few does = (cases_led does).0

    pub cases_run : does_in (mode_in notes) t a marks ≡ tried_as (mode_in notes) t a marks Runs → runs_by_cases t a marks ≡ true
    cases_run does = (cases_led does).1

    pub cases_after_in : (r : State) → r ≡ after_cases t a marks → r ≡ after_in (mode_in notes) t a marks
    cases_after_in r at = at ∙ sym after_by_cases
