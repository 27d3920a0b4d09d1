-- A request whose walk is verified is carried out as demand 3 says, its guards with it, and a world's move is single-valued where 16 has passed: what is proved in
-- `ValueSound` for any number of values, of the instance with two, since its definitions are those of the format (`TwoValues`). 18 keeps the
-- conditions apart. Assumes nothing.
use Prim.Native.Nat.{ℕ}
use mathlib.Core.Path.{◌≡◌, sym, ◌∙◌, subst, fun_ext}
use mathlib.Core.Bool.{Bool, true}
use mathlib.Core.List.{List, []}
use Rattle.meaning.specs.Tests.{each_of}
use Rattle.meaning.specs.Limits.{Limits}
use Rattle.meaning.specs.Literals.{fluent_of, complement}
use Rattle.meaning.specs.Requests.{Table, Entry, Request, values}
use Rattle.meaning.specs.Reading.{got}
use Rattle.meaning.specs.Refusals.{nowhere, contradiction_in, settled}
use Rattle.meaning.specs.Lines.{effects_of, given}
use Rattle.meaning.specs.States.{State, known, first_state}
use Rattle.meaning.specs.Walk.{Verified, Steps, meet, walk, table_step, first_missed, judged, walked, guarded_step, walked_guarded}
use Rattle.meaning.specs.Worlds.{World, holds, may_be_run, table_domain, Facts, Reached, CarriedOut, CarriedOutUnder}
use Rattle.meaning.specs.ValueStates
use Rattle.meaning.specs.ValueWorlds
use Rattle.meaning.specs.Values.{flags}
use Rattle.meaning.proofs.TestLaws.{same_map}
use Rattle.meaning.proofs.RefusalLaws.{past_16}
use Rattle.meaning.proofs.RangeLaws.{read_ranged}
use Rattle.meaning.proofs.SettledLaws.{Settled, settled_is, fit}
use Rattle.meaning.proofs.WalkLaws.{OnConditions}
use Rattle.meaning.proofs.EndLaws.{none_missed}
use Rattle.meaning.proofs.Sound.{SoundStep}
use Rattle.meaning.proofs.ValueSound
use Rattle.meaning.proofs.ValueSound.{Agrees, Exclusive, guarded_sound, seen_stepped_sound}
use Rattle.meaning.proofs.TwoValues.{valued, valued_same, valued_within, same_given, same_given_other, same_guarded_step, same_judged, same_first_state, same_contradictory, same_all_exclusive, same_holds, same_domain}

pub holds_is : (w : World) → holds w ≡ ValueWorlds.holds flags (valued w)
holds_is w = fun_ext (same_holds w)

-- THE WALK IS SOUND, of a settled request, by any step that is, and with any guards, each of which is known true in every state that lacks none.
pub stepped_walk_sound : (lim : Limits) (b : List ℕ) (r : Request) (e : ℕ) → settled lim b ≡ got r e → (step : Steps State ℕ)
    → SoundStep step (ValueWorlds.table_domain flags r.table) (Exclusive flags) (Agrees flags) → (gs : List ℕ)
    → ((s : State) → step.lacks s ≡ nowhere → each_of (step.knows s) gs ≡ true)
    → Verified (meet step (walk step r.plan (judged r)) (first_state lim r.table)) → CarriedOutUnder gs r
stepped_walk_sound lim b r e past step sound gs guarded fine_end =
    seen_stepped_sound flags r (table_domain r.table) valued (same_domain r.table) step sound gs guarded lim
    (subst (λ (p : List (List ℕ) → Bool). OnConditions (λ cs. p cs ≡ true) r.plan) (fun_ext same_all_exclusive) (fit r.plan passed.no_overlap))
    (subst Verified same_walk fine_end)
    (Reached r)
    (λ v P true_world goals whether. record {
      true_world = true_world;
      goals = λ w m. rw (holds_is w) (goals w m);
      whether = λ w u m n. same_map w u (values r.whether) (λ f i. valued_same w u f (whether w u m n f i));
    })
    (Facts r.table) (λ w m. (valued_within w, rw (holds_is w) at m))
  where
    passed : Settled lim b r e
    passed = settled_is lim b r e past

    same_walk : meet step (walk step r.plan (judged r)) (first_state lim r.table) ≡ meet step (walk step r.plan (ValueStates.judged flags r)) (ValueStates.first_state flags lim r.table)
    same_walk = rw (fun_ext (same_judged r), same_first_state lim r.table (read_ranged lim b r e passed.reads).consistent)

-- By the table's own.
pub guarded_walk_sound : (lim : Limits) (b : List ℕ) (r : Request) (e : ℕ) → settled lim b ≡ got r e → (gs : List Entry)
    → Verified (walked_guarded r gs (first_state lim r.table)) → CarriedOutUnder (values gs) r
unfolding walked_guarded guarded_step
guarded_walk_sound lim b r e past gs =
    stepped_walk_sound lim b r e past (guarded_step r.table gs)
    (subst (λ (step : Steps State ℕ). SoundStep step (ValueWorlds.table_domain flags r.table) (Exclusive flags) (Agrees flags)) (sym (same_guarded_step r.table gs)) (guarded_sound flags r.table gs))
    (values gs) (λ s. (none_missed (known s) gs).0)

-- Without guards.
pub walk_sound : (lim : Limits) (b : List ℕ) (r : Request) (e : ℕ) → settled lim b ≡ got r e → Verified (walked r (first_state lim r.table)) → CarriedOut r
unfolding walked walked_guarded table_step guarded_step first_missed values
walk_sound lim b r e past = guarded_walk_sound lim b r e past []

-- A WORLD'S MOVE IS SINGLE-VALUED where the action may be run and 16 has passed: no effects whose bodies hold give a literal and its complement.
pub move_is_single_valued : (t : Table) → contradiction_in t ≡ nowhere → (a : ℕ) (w : World) → may_be_run t a w ≡ true → (l : ℕ)
    → given (holds w) (effects_of t a) l ≡ true → given (holds w) (effects_of t a) (complement l) ≡ true → ⊥
unfolding table_domain ValueWorlds.table_domain
move_is_single_valued t passed a w runs l p q =
    ValueSound.move_is_single_valued flags t (λ e g he hg. sym (same_contradictory t e g) ∙ past_16 t passed e g he hg)
    a (valued w) (valued_within w) (sym ((same_domain t).may_be_run a w) ∙ runs) (fluent_of l) (flags.sets l)
    (rw (same_given (holds w) (effects_of t a) l, holds_is w) at p)
    (rw (same_given_other (holds w) (effects_of t a) l, holds_is w) at q)
