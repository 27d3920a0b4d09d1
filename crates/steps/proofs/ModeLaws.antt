-- What the mode of a walk says: the state after an action is marked whichever it is, and the walk of what is held is that of the mode. Assumes nothing.
use Prim.Native.Nat.{ℕ, zero, suc, ◌+◌, ◌≤◌}
use native.Mathlib.Omega.{arith}
use mathlib.Core.Path.{◌≡◌, refl, sym, ◌∙◌, ap, subst, fun_ext}
use mathlib.Core.List.{List, [], ◌∷◌, map}
use lib.ListN.{length, get_or}
use borrow.Author.Tests.{eq-eqb, ne_eqb}
use Rattle.meaning.specs.Tests.{pick}
use Rattle.meaning.specs.Limits.{format}
use Rattle.meaning.specs.Requests.{Table, Entry}
use Rattle.meaning.specs.States.{State, known, first_state, state_after}
use Rattle.meaning.specs.Refusals.{Found, nowhere}
use Rattle.meaning.specs.Reading.{literals_in}
use Rattle.meaning.specs.ValueStates as Value
use Rattle.meaning.specs.Walk.{Walked, Step, Steps, table_does, first_missed, meet, walk, judged, walked, guarded_step, walked_guarded}
use Rattle.meaning.specs.ByCases.{complete, shared_mark, shared_marks, after_each, after_cases, cases_does, cases_step, walked_by_cases}
use Rattle.meaning.specs.Schemes.{narrow_does, narrow_step, walked_narrow, narrow_walk_of}
use Rattle.meaning.proofs.TestLaws.{pick_true, pick_false}
use Rattle.meaning.proofs.PickLaws.{pick_has}
use Rattle.meaning.proofs.KeptEnds.{walked_unguarded}
use Rattle.steps.specs.Held.{table_in, plan_in, guards_in, request_in}
use Rattle.steps.specs.AtHand.{Marked}
use Rattle.steps.specs.Steps.{narrow_mode, mode_in, does_in, after_in, lacks_as, step_in, judged_in, walk_held}
use Rattle.steps.proofs.LookLaws
use Rattle.meaning.specs.declared.Form.TheVariants.{Flags, Valued}

-- What states share is marked.
shared_small : (us : List State) (f : ℕ) → shared_mark us f ≤ 2
unfolding shared_mark
shared_small us f = pick_has (λ (n : ℕ). n ≤ 2) _ _ _ (λ _. omega arith) (λ _. pick_has (λ (n : ℕ). n ≤ 2) _ _ _ (λ _. omega arith) (λ _. omega arith))

shared_each : (us : List State) (f : ℕ) (ms : List ℕ) → (length (shared_marks us f ms) ≡ length ms) × ((j : ℕ) → get_or (shared_marks us f ms) j 0 ≤ 2)
unfolding shared_marks
shared_each us f [] = (refl, λ j. omega arith)
shared_each us f (m ∷ ms) = (ap suc (shared_each us (f + 1) ms).0, by_index (shared_each us (f + 1) ms).1)
  where
    by_index : ((j : ℕ) → get_or (shared_marks us (f + 1) ms) j 0 ≤ 2) → (j : ℕ) → get_or (shared_mark us f ∷ shared_marks us (f + 1) ms) j 0 ≤ 2
    by_index later zero = shared_small us f
    by_index later (suc j) = later j

pub marked_after_cases : (t : Table) (a : ℕ) (s : State) → Marked s → Marked (after_cases t a s)
unfolding after_cases after_each
marked_after_cases t a s marked = let w = shared_each (map (state_after t a) (complete t s)) 0 s in record { sized = w.0 ∙ marked.sized; small = w.1 }

pub after_marked : (m : ℕ) (t : Table) (a : ℕ) (marks r : State) → Marked marks → r ≡ after_in m t a marks → Marked r
unfolding after_in
after_marked m t a marks r marked e =
    let known : Marked (state_after t a marks) = LookLaws.after_marked t a marks _ marked refl in
    subst Marked (sym e) (pick_has Marked _ _ _ (λ _. known) (λ _. pick_has Marked _ _ _ (λ _. known) (λ _. marked_after_cases t a marks marked)))

-- THE WALK of what is held. In mode 0 it goes by what is known.
does_known : (m : ℕ) (t : Table) → m ≡ 0 → does_in m t ≡ table_does t
unfolding does_in
does_known m t zero_is = fun_ext (λ a. fun_ext (λ s. pick_true _ _ _ (eq-eqb m 0 zero_is)))

pub held_known : (s t : List ℕ) → mode_in t ≡ 0 → walk_held Flags s t ≡ walked_guarded (request_in Flags s t) (guards_in s t) (first_state format (table_in Flags s))
unfolding walk_held step_in judged_in judged walked_guarded guarded_step request_in
held_known s t zero_is = rw (does_known (mode_in t) (table_in Flags s) zero_is) refl

pub held_plain : (s t : List ℕ) → mode_in t ≡ 0 → guards_in s t ≡ [] → walk_held Flags s t ≡ walked (request_in Flags s t) (first_state format (table_in Flags s))
held_plain s t zero_is none =
    held_known s t zero_is ∙ ap (λ (gs : List Entry). walked_guarded (request_in Flags s t) gs (first_state format (table_in Flags s))) none
    ∙ walked_unguarded (request_in Flags s t) (first_state format (table_in Flags s))

-- What is held, walked by what an action does and what a state lacks.
abbrev walks : (s t : List ℕ) → (ℕ → State → Step State) → (State → Found) → Walked State
walks s t does lacks =
    let step : Steps State ℕ = record { does = does; knows = known; lacks = lacks } in
    meet step (walk step (plan_in Flags s t) (judged (request_in Flags s t))) (first_state format (table_in Flags s))

held_walks : (s t : List ℕ) → walk_held Flags s t ≡ walks s t (does_in (mode_in t) (table_in Flags s)) (lacks_as Flags s t)
unfolding walk_held step_in judged_in judged
held_walks s t = refl

unguarded : (s t : List ℕ) → guards_in s t ≡ [] → lacks_as Flags s t ≡ (λ _. nowhere)
unfolding first_missed
unguarded s t none = ap (λ (gs : List Entry). λ (marks : State). first_missed (known marks) gs) none

-- In mode 2, and without guards, it is refused at the first sensing action that is too wide.
does_narrow : (m : ℕ) (t : Table) → m ≡ narrow_mode → does_in m t ≡ narrow_does t
unfolding does_in pick
does_narrow m t is = ap (λ (n : ℕ). does_in n t) is ∙ fun_ext (λ a. fun_ext (λ s. refl))

pub held_narrow : (s t : List ℕ) → mode_in t ≡ narrow_mode → guards_in s t ≡ [] → walk_held Flags s t ≡ narrow_walk_of format (request_in Flags s t)
unfolding walked_narrow narrow_step request_in
held_narrow s t is none =
    held_walks s t
    ∙ ap (λ (does : ℕ → State → Step State). walks s t does (lacks_as Flags s t)) (does_narrow (mode_in t) (table_in Flags s) is)
    ∙ ap (walks s t (narrow_does (table_in Flags s))) (unguarded s t none)

-- In every other mode, and without guards, it goes by cases.
does_cases : (m : ℕ) (t : Table) → (m ≡ 0 → ⊥) → (m ≡ narrow_mode → ⊥) → does_in m t ≡ cases_does t
unfolding does_in
does_cases m t other wide = fun_ext (λ a. fun_ext (λ s. pick_false _ _ _ (ne_eqb m 0 other) ∙ pick_false _ _ _ (ne_eqb m narrow_mode wide)))

pub held_cases : (s t : List ℕ) → (mode_in t ≡ 0 → ⊥) → (mode_in t ≡ narrow_mode → ⊥) → guards_in s t ≡ [] → walk_held Flags s t ≡ walked_by_cases (request_in Flags s t) (first_state format (table_in Flags s))
unfolding walked_by_cases cases_step request_in
held_cases s t other wide none =
    held_walks s t
    ∙ ap (λ (does : ℕ → State → Step State). walks s t does (lacks_as Flags s t)) (does_cases (mode_in t) (table_in Flags s) other wide)
    ∙ ap (walks s t (cases_does (table_in Flags s))) (unguarded s t none)

-- WITH VALUES it is the walk of such a request.
pub held_values : (s t : List ℕ) → walk_held Valued s t ≡ Value.walked (literals_in s) (request_in Valued s t) (Value.first_state (literals_in s) format (table_in Valued s))
unfolding walk_held step_in judged_in Value.judged Value.walked Value.table_step request_in
held_values s t = refl
