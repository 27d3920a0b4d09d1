-- The step by cases is sound, and with it the walk (FORMAT 22.20). A world that agrees with a state agrees with one of its complete fillings. There the table's
-- own step is sound: the action may be run, and the world moved agrees with the state after it, so with what all of these share. Assumes nothing.
use Prim.Native.Nat.{ℕ, ◌+◌}
use native.Mathlib.Omega.{arith}
use native.Mathlib.Decide.{dec_lt, ℕ_discrete}
use mathlib.Core.Path.{◌≡◌, refl, sym, ◌∙◌, subst}
use mathlib.Core.Bool.{Bool, true, false}
use mathlib.Core.List.{List, [], ◌∷◌, map}
use mathlib.Core.Logic.{◌⊎◌, inl, inr, ⊎_elim}
use lib.ListN.{length, get_or, get_or-eq_default}
use borrow.Author.Tests.{eqb-true}
use Rattle.meaning.specs.Tests.{pick, each_of, Has}
use Rattle.meaning.specs.Limits
use Rattle.meaning.specs.Limits.{Limits}
use Rattle.meaning.specs.Literals.{says_true, says_false}
use Rattle.meaning.specs.Requests.{Table, Request}
use Rattle.meaning.specs.Reading.{got}
use Rattle.meaning.specs.Refusals.{settled}
use Rattle.meaning.specs.Lines.{sensing}
use Rattle.meaning.specs.States.{State, known, known_whether, told, can_be_run, state_after, Outcome, single, outcome_to}
use Rattle.meaning.specs.Walk.{Verified, leads_to}
use Rattle.meaning.specs.Worlds.{CarriedOut}
use Rattle.meaning.specs.ByCases.{upward, fillings, complete, runs_by_cases, shared_marks, after_each, after_cases, cases_does, cases_step, walked_by_cases, walk_of}
use Rattle.meaning.specs.ValueStates
use Rattle.meaning.specs.ValueWorlds
use Rattle.meaning.specs.ValueWorlds.{World}
use Rattle.meaning.specs.Values.{flags}
use Rattle.meaning.specs.ValueStates.{is_known}
use Rattle.meaning.proofs.TestLaws.{pick-cases, each_has, has_left, has_right, has_map}
use Rattle.meaning.proofs.PickLaws.{pick_has}
use Rattle.meaning.proofs.LiteralLaws.{fluent_true, fluent_false}
use Rattle.meaning.proofs.PairLaws.{mark_by}
use Rattle.meaning.proofs.Sound.{leads_same, refuses≢leads, SoundStep}
use Rattle.meaning.proofs.ValueSound.{Agrees, Exclusive, after_agrees, told_agrees, runs_agree, led_sound}
use Rattle.meaning.proofs.TwoValues.{sets_true, sets_false, known_value, known_is, told_true, told_false, same_can_be_run, same_state_after, same_unknown_sensed, same_readings}
use Rattle.meaning.proofs.WalkSound.{stepped_walk_sound}
use Rattle.meaning.proofs.FillingLaws.{shared_length, shared_at}

-- A WORLD that agrees with a state agrees with one of its fillings.
agreeing : (w : World) (fs : List ℕ) (s : State) → Agrees flags w s → (u : State) × Has (fillings fs s) u × Agrees flags w u
unfolding fillings
agreeing w [] s g = (s, inl refl, g)
agreeing w (f ∷ fs) s g =
    pick_has (λ (xs : List State). (u : State) × Has xs u × Agrees flags w u) (known_whether s f) _ _
    (λ _. agreeing w fs s g)
    (λ _.
    elim (ℕ_discrete (w f) 0) [
      | yes q ↦
          let m = agreeing w fs (told (says_true f) s) (subst (Agrees flags w) (sym (told_true f s)) (told_agrees flags w s f 0 q g)) in
          (m.0, has_left (fillings fs (told (says_true f) s)) (fillings fs (told (says_false f) s)) m.0 m.1, m.2)
      | no q ↦
          let m = agreeing w fs (told (says_false f) s) (subst (Agrees flags w) (sym (told_false f s)) (told_agrees flags w s f 1 (omega (arith, q, g.within f)) g)) in
          (m.0, has_right (fillings fs (told (says_true f) s)) (fillings fs (told (says_false f) s)) m.0 m.1, m.2)
    ])

-- WHAT STATES SHARE agrees with a world that agrees with one of them.
marked_so : (x y : Bool) (v : ℕ) → mark_by x y ≡ v + 1 → ((v ≡ 0) × (x ≡ true)) ⊎ ((v ≡ 1) × (y ≡ true))
unfolding pick
marked_so true y v e = inl (omega (arith, e), refl)
marked_so false true v e = inr (omega (arith, e), refl)
marked_so false false v e = absurd (omega (arith, e))

shared_agrees : (w : World) (us : List State) (s x : State) → Has us x → Agrees flags w x → Agrees flags w (shared_marks us 0 s)
unfolding is_known
shared_agrees w us s x here g =
    record {
      within = g.within;
      right = λ f v e.
          let mark : get_or (shared_marks us 0 s) f Limits.unknown_mark ≡ v + 1 = eqb-true _ _ e in
          elim (dec_lt f (length s)) [
            | yes near ↦
                ⊎_elim
                (λ is. g.right f v (rw is.0 (is_true f (each_has _ us x is.1 here))))
                (λ is. g.right f v (rw is.0 (is_false f (each_has _ us x is.1 here))))
                (marked_so _ _ v (sym (shared_at us s f near) ∙ mark))
            | no far ↦ absurd (omega (arith, mark, get_or-eq_default (shared_marks us 0 s) Limits.unknown_mark {n = f} (rw (shared_length us 0 s) (omega arith))))
          ];
    }
  where
    is_true : (f : ℕ) → known x (says_true f) ≡ true → is_known x f 0 ≡ true
    is_true f e = rw (fluent_true f, sets_true f) at (sym (known_value x (says_true f)) ∙ e)

    is_false : (f : ℕ) → known x (says_false f) ≡ true → is_known x f 1 ≡ true
    is_false f e = rw (fluent_false f, sets_false f) at (sym (known_value x (says_false f)) ∙ e)

-- THE STEP. What it leads to, where it leads somewhere.
does_lead : (t : Table) (a : ℕ) (s : State) (o : Outcome State) → cases_does t a s ≡ leads_to o → (runs_by_cases t a s ≡ true) × (outcome_to t a s (after_cases t a s) ≡ o)
unfolding cases_does
does_lead t a s o e =
    pick-cases _ _ _ e (λ _ is. absurd (refuses≢leads is)) λ _ k.
    pick-cases _ _ _ k (λ runs is. (runs, leads_same is)) (λ _ is. absurd (refuses≢leads is))

module _ (t : Table) (a : ℕ) (s : State) (w : World) (g : Agrees flags w s) where
  runs_in_cases : runs_by_cases t a s ≡ true → ValueWorlds.may_be_run flags t a w ≡ true
  unfolding runs_by_cases complete
  runs_in_cases runs =
      let u = agreeing w (upward 0 t.fluents) s g in
      runs_agree flags t a u.0 w u.2 (sym (same_can_be_run t a u.0) ∙ each_has (can_be_run t a) (complete t s) u.0 runs u.1)

  after_cases_agrees : Agrees flags (ValueWorlds.moved flags t a w) (after_cases t a s)
  unfolding after_cases after_each complete
  after_cases_agrees =
      let u = agreeing w (upward 0 t.fluents) s g in
      shared_agrees (ValueWorlds.moved flags t a w) (map (state_after t a) (complete t s)) s (state_after t a u.0) (has_map (state_after t a) (complete t s) u.0 u.1)
      (subst (Agrees flags (ValueWorlds.moved flags t a w)) (sym (same_state_after t a u.0)) (after_agrees flags t a u.0 w u.2))

same_outcome_to : (t : Table) (a : ℕ) (s after : State)
    → outcome_to t a s after ≡ pick (sensing t a) (λ _. ValueStates.readings flags (ValueStates.unknown_sensed flags t a s) s) (λ _. single after)
same_outcome_to t a s after = rw (same_unknown_sensed t a s, same_readings (ValueStates.unknown_sensed flags t a s) s)

pub cases_sound : (t : Table) → SoundStep (cases_step t) (ValueWorlds.table_domain flags t) (Exclusive flags) (Agrees flags)
unfolding cases_step
cases_sound t =
    led_sound flags t (cases_step t) known_is λ a s o is.
    let led = does_lead t a s o is in
    record { after = after_cases t a s; is = sym led.1 ∙ same_outcome_to t a s (after_cases t a s); runs = λ w g. runs_in_cases t a s w g led.0; agrees = after_cases_agrees t a s }

-- DEMAND 3, of a settled request whose walk by cases is verified.
pub cases_walk_sound : (lim : Limits) (b : List ℕ) (r : Request) (e : ℕ) → settled lim b ≡ got r e → Verified (walk_of lim r) → CarriedOut r
unfolding walked_by_cases cases_step each_of
cases_walk_sound lim b r e past = stepped_walk_sound lim b r e past (cases_step r.table) (cases_sound r.table) [] (λ s _. refl)
