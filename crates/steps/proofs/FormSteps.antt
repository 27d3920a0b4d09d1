-- What an action does, as the form has it: of flags in the mode of the walk, of values as the table's step does. Assumes nothing.
use Prim.Native.Nat.{ℕ}
use mathlib.Core.Path.{◌≡◌, refl, sym, ◌∙◌, subst}
use mathlib.Core.Bool.{Bool, true, false}
use mathlib.Core.List.{List, []}
use Rattle.meaning.specs.Tests.{pick}
use Rattle.meaning.specs.Refusals.{nowhere, first_against}
use Rattle.meaning.specs.declared.Form.{Form}
use Rattle.meaning.specs.declared.Form.TheVariants.{Flags, Valued}
use Rattle.meaning.specs.Reading.{values_in, literals_in}
use Rattle.meaning.specs.Values.{contradictory}
use Rattle.meaning.specs.States.{State}
use Rattle.meaning.specs.ValueStates as Value
use Rattle.meaning.proofs.TestLaws.{pick_true, pick_false, pick-cases}
use Rattle.parsing.specs.Masks.{FewValues}
use Rattle.parsing.proofs.LineReaderLaws.{counted_values}
use Rattle.valuing.specs.Valuing.{ValuedMarks}
use Rattle.finding.specs.ValueLines.{ValueEffects, ValueRuns}
use Rattle.finding.proofs.ValueLineLaws.{effect_stands, body_stands}
use Rattle.steps.specs.declared.cases.Tried.{Tried}
use Rattle.steps.specs.declared.cases.Tried.TheVariants.{Runs, Stuck, Many}
use Rattle.steps.specs.Held.{table_in}
use Rattle.steps.specs.AtHand.{AtHand, Marked, MarkedAs}
use Rattle.steps.specs.LinesFound.{run_places, effect_places}
use Rattle.steps.specs.Steps.{mode_in, does_in, after_in, tried_as, does_as, after_as, outcome_as, tries_as, values_as}
use Rattle.steps.proofs.HandLaws.{sections}
use Rattle.steps.proofs.TriedLaws.{not_led}

-- BY THE FORM.
module _ (form : Form) (s t : List ℕ) (here : AtHand form s t) where
  pub flags_hand : form ≡ Flags → AtHand Flags s t
  flags_hand is = subst (λ (f : Form). AtHand f s t) is here

  pub values_hand : form ≡ Valued → AtHand Valued s t
  values_hand is = subst (λ (f : Form). AtHand f s t) is here

module _ (form : Form) (s marks : List ℕ) (marked : MarkedAs form s marks) where
  pub flags_marked : form ≡ Flags → Marked marks
  flags_marked is = subst (λ (f : Form). MarkedAs f s marks) is marked

  pub values_marked : form ≡ Valued → ValuedMarks s marks
  values_marked is = subst (λ (f : Form). MarkedAs f s marks) is marked

-- A REQUEST WITH VALUES at hand: its lines stand where the notes lead.
module _ (s t : List ℕ) (here : AtHand Valued s t) where
  pub hand_effects : ValueEffects s t
  unfolding effect_places
  hand_effects = record { order = here.effects; line = effect_stands s (table_in Valued s) here.table.end (sections s t here) }

  pub hand_runs : ValueRuns s t
  unfolding run_places
  hand_runs = record { order = here.runs; line = body_stands s (table_in Valued s) here.table.end (sections s t here) }

  pub hand_values : FewValues s
  hand_values = counted_values Valued s refl (sections s t here).values

module _ (form : Form) (s t : List ℕ) (here : AtHand form s t) (is : form ≡ Valued) where
  pub values_few : FewValues s
  values_few = hand_values s t (values_hand form s t here is)

  pub values_apart : first_against (contradictory (literals_in s) (table_in Valued s)) [] (table_in Valued s).effects ≡ nowhere
  values_apart = (values_hand form s t here is).no_contradiction

-- An action of values.
module _ (s t : List ℕ) (a : ℕ) (marks : State) where
  valued_does : does_as Valued s t a marks ≡ pick (Value.can_be_run (literals_in s) (table_in Valued s) a marks) (λ _. tries_as Valued s t a marks Runs) (λ _. tries_as Valued s t a marks Stuck)
  unfolding Value.table_does Value.outcome tries_as outcome_as
  valued_does = refl

  module _ (b : Bool) (asked : b ≡ Value.can_be_run (literals_in s) (table_in Valued s) a marks) where
    pub valued_runs : b ≡ true → does_as Valued s t a marks ≡ tries_as Valued s t a marks Runs
    valued_runs runs = valued_does ∙ pick_true _ _ _ (sym asked ∙ runs)

    pub valued_stuck : b ≡ false → does_as Valued s t a marks ≡ tries_as Valued s t a marks Stuck
    valued_stuck stuck = valued_does ∙ pick_false _ _ _ (sym asked ∙ stuck)

  pub valued_can : (form : Form) → form ≡ Valued → does_as form s t a marks ≡ tries_as form s t a marks Runs → Value.can_be_run (literals_in s) (table_in Valued s) a marks ≡ true
  unfolding tries_as
  valued_can form is does =
      pick-cases (Value.can_be_run (literals_in s) (table_in Valued s) a marks) _ _ (sym valued_does ∙ subst (λ (f : Form). does_as f s t a marks ≡ tries_as f s t a marks Runs) is does)
      (λ e _. e) (λ _ e. absurd (not_led _ _ _ e))

  -- An action of flags.
  same_tries : (r : Tried) → tried_as (mode_in t) (table_in Flags s) a marks r ≡ tries_as Flags s t a marks r
  unfolding tried_as tries_as outcome_as
  same_tries r = elim r [ Runs ↦ refl | Stuck ↦ refl | Many ↦ refl ]

  module _ (form : Form) (is : form ≡ Flags) where
    pub flags_tried : (r : Tried) → does_in (mode_in t) (table_in Flags s) a marks ≡ tried_as (mode_in t) (table_in Flags s) a marks r → does_as form s t a marks ≡ tries_as form s t a marks r
    flags_tried r does = subst (λ (f : Form). does_as f s t a marks ≡ tries_as f s t a marks r) (sym is) (does ∙ same_tries r)

    pub flags_led : does_as form s t a marks ≡ tries_as form s t a marks Runs → does_in (mode_in t) (table_in Flags s) a marks ≡ tried_as (mode_in t) (table_in Flags s) a marks Runs
    flags_led does = subst (λ (f : Form). does_as f s t a marks ≡ tries_as f s t a marks Runs) is does ∙ sym (same_tries Runs)

    pub flags_after : (r : State) → r ≡ after_in (mode_in t) (table_in Flags s) a marks → r ≡ after_as form s t a marks
    flags_after r e = rw is e

  module _ (form : Form) (is : form ≡ Valued) where
    pub values_tried : (r : Tried) → does_as Valued s t a marks ≡ tries_as Valued s t a marks r → does_as form s t a marks ≡ tries_as form s t a marks r
    values_tried r does = subst (λ (f : Form). does_as f s t a marks ≡ tries_as f s t a marks r) (sym is) does

    pub values_after : (r : State) → r ≡ Value.state_after (literals_in s) (table_in Valued s) a marks → r ≡ after_as form s t a marks
    values_after r e = rw is e

-- How many values a fluent has.
pub flags_count : (form : Form) (s : List ℕ) (f : ℕ) → form ≡ Flags → 2 ≡ values_as form s f
flags_count form s f is = rw is

pub values_count : (form : Form) (s : List ℕ) (f r : ℕ) → form ≡ Valued → r ≡ values_in s f → r ≡ values_as form s f
values_count form s f r is e = rw is e
