-- The first state, in either form, and the walk of flags: from a state of marks 0, 1 and 2 it ends in such a state, wherever it misses or stops. What sets a mark sets one of these, and a walk keeps what
-- its steps keep. The number that a walk of either form stops with is a byte. Assumes nothing.
use Prim.Native.Nat.{ℕ, ◌<◌}
use native.Mathlib.Omega.{arith}
use mathlib.Core.List.{List}
use Rattle.meaning.specs.Limits.{format}
use Rattle.meaning.specs.declared.Form.{Form}
use Rattle.meaning.specs.declared.Form.TheVariants.{Flags, Valued}
use Rattle.meaning.specs.Literals.{says_true, says_false}
use Rattle.meaning.specs.Reading.{literals_in}
use Rattle.meaning.specs.Requests.{Table}
use Rattle.meaning.specs.States.{State, first_state, state_after, outcome_to}
use Rattle.meaning.specs.ValueStates as Value
use Rattle.meaning.specs.ValueStates.{each_value}
use Rattle.meaning.specs.Walk.{End, walk, table_does}
use Rattle.meaning.specs.ByCases.{after_cases, cases_does}
use Rattle.meaning.specs.Schemes.{narrow_does}
use Rattle.meaning.proofs.PickLaws.{pick_has}
use Rattle.meaning.proofs.KeptEnds.{on_places, any_outcome, EndSo, StepSo, meet_so, walk_so, end_of_so}
use Rattle.valuing.proofs.FirstMarks.{first_valued}
use Rattle.steps.specs.Held.{table_in, plan_in}
use Rattle.steps.specs.AtHand.{Marked, MarkedAs}
use Rattle.steps.specs.Steps.{does_in, step_in, judged_in, missed_as, first_in, walk_held}
use Rattle.steps.proofs.LookLaws.{marked_after}
use Rattle.steps.proofs.ModeLaws.{marked_after_cases}
use Rattle.steps.proofs.HeldEnds.{held_so}
use Rattle.steps.proofs.ToldMarks.{told_marked, state_marked}
use Rattle.verdicts.proofs.KeepingLaws.{EndHas, KeptBy, DoesKeep, table_keeps, narrow_keeps, cases_keep, held_kept}

-- THE FIRST STATE.
pub first_marked : (t : Table) → Marked (first_state format t)
unfolding first_state
first_marked t = state_marked t.facts

pub first_as : (form : Form) (s : List ℕ) → MarkedAs form s (first_in form s)
unfolding Value.first_state
first_as Flags s = first_marked (table_in Flags s)
first_as Valued s = first_valued s (table_in Valued s).facts

-- THE WALK of flags.
abbrev pub EndMarked : End State → Type 0
EndMarked = EndHas Marked

marked_by : (t : Table) (after : ℕ → State → State) → ((a : ℕ) (s : State) → Marked s → Marked (after a s)) → KeptBy Marked t after
marked_by t after acts = record { reads = λ a s f h u marked. (told_marked (says_true f) u marked, told_marked (says_false f) u marked); acts = acts }

pub known_marked : (t : Table) (a : ℕ) (s : State) → Marked s → DoesKeep Marked (table_does t a s)
known_marked t = table_keeps Marked t (marked_by t (state_after t) (marked_after t))

narrow_marked : (t : Table) (a : ℕ) (s : State) → Marked s → DoesKeep Marked (narrow_does t a s)
narrow_marked t = narrow_keeps Marked t (marked_by t (state_after t) (marked_after t))

pub cases_marked : (t : Table) (a : ℕ) (s : State) → Marked s → DoesKeep Marked (cases_does t a s)
cases_marked t = cases_keep Marked t (marked_by t (after_cases t) (marked_after_cases t))

-- Of the walk of what is held, whatever its mode.
pub held_marked : (s t : List ℕ) → EndMarked (walk_held Flags s t).end
unfolding step_in does_in
held_marked s t =
    held_kept Marked Flags s t
    (λ a u marked. pick_has (DoesKeep Marked) _ _ _ (λ _. known_marked (table_in Flags s) a u marked)
    (λ _. pick_has (DoesKeep Marked) _ _ _ (λ _. narrow_marked (table_in Flags s) a u marked) (λ _. cases_marked (table_in Flags s) a u marked)))
    (first_marked (table_in Flags s))

-- ITS NUMBERS ARE BYTES in either form.
abbrev pub EndSmall : End State → Type 0
EndSmall = EndSo (λ _ _. Unit {0}) (λ n _ _. n < 256)

pub held_small : (form : Form) (s t : List ℕ) → EndSmall (walk_held form s t).end
unfolding walk_held step_in judged_in Value.table_does
held_small Flags s t =
    held_so (λ _ _. Unit {0}) (λ n _ _. n < 256) (λ _. Unit {0}) (λ _. Unit {0})
    (record { misses = λ _ _ _. tt; stuck = λ _ _ _ _. omega arith; wide = λ _ _. omega arith; many = λ _ _. omega arith; breaks = λ _ _ _. omega arith }) s t
    (λ a u _. any_outcome (outcome_to (table_in Flags s) a u (state_after (table_in Flags s) a u))) (λ a u _. any_outcome (outcome_to (table_in Flags s) a u (after_cases (table_in Flags s) a u)))
    (on_places (λ _. Unit {0}) (λ _. tt) (plan_in Flags s t)) tt
held_small Valued s t =
    let step = step_in Valued s t in
    let does : (a : ℕ) (u : State) → Unit {0} → StepSo {S = State} (λ _ _. Unit {0}) (λ n _ _. n < 256) (λ _. Unit {0}) (λ _. Unit {0}) (step.does a u) =
    λ a u _. pick_has (StepSo {S = State} (λ _ _. Unit {0}) (λ n _ _. n < 256) (λ _. Unit {0}) (λ _. Unit {0})) _ _ _ (λ _. any_outcome (Value.outcome (literals_in s) (table_in Valued s) a u)) (λ _ _ _. omega arith) in
    meet_so (λ _ _. Unit {0}) (λ n _ _. n < 256) (λ _. Unit {0}) (λ _. Unit {0}) step does (λ _ _ _ _. omega arith) (λ _ _ _ _. omega arith) (walk step (plan_in Valued s t) (judged_in Valued s t))
    (walk_so (λ _ _. Unit {0}) (λ n _ _. n < 256) (λ _. Unit {0}) (λ _. Unit {0}) step does (λ _ _ _ _. omega arith) (λ _ _ _ _. omega arith) (plan_in Valued s t)
    (on_places (λ _. Unit {0}) (λ _. tt) (plan_in Valued s t)) (judged_in Valued s t) (λ u _. end_of_so (λ _ _. Unit {0}) (λ n _ _. n < 256) (missed_as Valued s t u) u (λ _ _. tt)))
    (first_in Valued s) tt
