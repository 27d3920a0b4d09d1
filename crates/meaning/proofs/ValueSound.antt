-- Demand 3 for fluents with any number of values: the step of any structure of literals satisfies the record of `Sound`, with "agrees" as: each
-- value known is the world's. Known true is within holds in the world, which is within possible, and a move is given by the same lines under
-- these three tests. Nothing is asked of the structure. Assumes nothing.
use Prim.Native.Nat.{ℕ, ◌+◌, ◌<◌}
use native.Mathlib.Omega.{arith}
use native.Mathlib.Decide.{dec_lt, ℕ_discrete}
use mathlib.Core.Path.{◌≡◌, refl, sym, ◌∙◌, ap, subst}
use mathlib.Core.Bool.{Bool, true, false}
use mathlib.Core.List.{List, [], ◌∷◌}
use mathlib.Core.Logic.{◌⊎◌, inl, inr, ⊎_elim}
use lib.ListN.{length}
use lib.Dec.{eqb}
use borrow.Author.Tests.{eqb-true, eq-eqb, ne_eqb}
use Rattle.meaning.specs.Tests.{either, fails, pick, each_of, those_of, Has}
use Rattle.meaning.specs.Limits
use Rattle.meaning.specs.Limits.{Limits}
use Rattle.meaning.specs.Requests.{EffectOver, ExecutabilityOver, Knowledge, TableOver, EntryOver, RequestOver, values}
use Rattle.meaning.specs.Refusals.{Found, nowhere, at}
use Rattle.meaning.specs.Lines.{effects_of, executability_of, knowledge_of, allowed, sensing, senses}
use Rattle.meaning.specs.States.{State, Outcome, single}
use Rattle.meaning.specs.Walk.{fine, Verified, leads_to, Steps, meet, walk, first_missed, end_of}
use Rattle.meaning.specs.Worlds.{Domain, Worlds, Guarded, CarriedUnder, Carried}
use Rattle.meaning.specs.Values.{Literals, numbers, values_of, fits, set_by, disagree, exclusive, clashing, runs_with, contradictory, all_exclusive}
use Rattle.meaning.specs.ValueStates.{mark_left, told, is_known, known_as, known, possible, known_whether, first_state, can_be_run, known_after, mark_after, state_after, unknown_sensed, readings, outcome, table_does, table_step, missed_in, judged, walked, guarded_step}
use Rattle.meaning.specs.ValueWorlds.{World, shown, Within, holds, may_be_run, moved, table_domain, Facts, Reached, CarriedOut}
use Rattle.meaning.proofs.TestLaws.{by-test, clash, both_left, both_right, both_true, either_split, fails_true, fails_false, pick_true, pick_false, pick-cases, some_has, has_some, each_has, has_each, some_mono, each_mono, those_has, has_those, some_those, map_same, same_map}
use Rattle.meaning.proofs.WalkLaws.{OnConditions}
use Rattle.meaning.proofs.SettledLaws.{or_else_nowhere}
use Rattle.meaning.proofs.EndLaws.{none_missed}
use Rattle.meaning.proofs.ValueLaws.{has_numbers, numbers_has, known_there, first-such-cases, one_left, told_elsewhere, told_there, told_far, some_value}
use Rattle.meaning.proofs.Sound.{SomeState, some_state_map, missed≢fine, leads_same, refuses≢leads, SoundStep, Seen, seen_sound, meet_sound, plan_sound}

-- A state missed nothing where it ends fine.
fine_nowhere : (f : Found) (s : State) → end_of f s ≡ fine → f ≡ nowhere
unfolding end_of
fine_nowhere nowhere s e = refl
fine_nowhere (at p) s e = absurd (missed≢fine e)

-- Worlds in which an action shows the same agree on each fluent that it senses.
shown_same : {L : Type 0} (t : TableOver L) (a : ℕ) (w v : World) (f : ℕ) → shown t a w ≡ shown t a v → senses (knowledge_of t a) f ≡ true → w f ≡ v f
unfolding shown senses
shown_same t a w v f e s =
    let k = some_has _ (knowledge_of t a) s in
    let q : k.0.fluent ≡ f = eqb-true _ _ k.2 in
    ap w (sym q) ∙ map_same (λ (j : Knowledge). w j.fluent) (λ (j : Knowledge). v j.fluent) (knowledge_of t a) k.0 e k.1 ∙ ap v q

module _ {L : Type 0} (ls : Literals L) where
  -- A value is one of its fluent's exactly where it is below their number.
  has_value : (f v : ℕ) → v < ls.count f → Has (values_of ls f) v
  unfolding values_of
  has_value f v h = has_numbers 0 (ls.count f) v (omega arith) (omega (arith, h))

  value_within : (f v : ℕ) → Has (values_of ls f) v → v < ls.count f
  unfolding values_of
  value_within f v h = omega (arith, numbers_has 0 (ls.count f) v h)

  -- Each value that a state knows is the world's.
  pub record Agrees (w : World) (s : State) : Type 0 where
    pub within : Within ls w
    pub right : (f v : ℕ) → is_known s f v ≡ true → w f ≡ v

  known_holds : (w : World) (s : State) → Agrees w s → (l : L) → known ls s l ≡ true → holds ls w l ≡ true
  unfolding known known_as holds
  known_holds w s g l e =
      let t = some_has _ (values_of ls (ls.fluent l)) e in
      ap (ls.satisfied l) (g.right (ls.fluent l) t.0 (both_left _ _ t.2)) ∙ both_right _ _ t.2

  holds_possible : (w : World) (s : State) → Agrees w s → (l : L) → holds ls w l ≡ true → possible ls s l ≡ true
  unfolding possible known_as holds
  holds_possible w s g l h =
      fails_false _
      (by-test _
      (λ k.
      let t = some_has _ (values_of ls (ls.fluent l)) k in
      clash h (ap (ls.satisfied l) (g.right (ls.fluent l) t.0 (both_left _ _ t.2)) ∙ fails_true _ (both_right _ _ t.2)))
      (λ f. f))

  -- LINES. A stronger test gives no more.
  allowed_mono : (p q : L → Bool) → ((l : L) → p l ≡ true → q l ≡ true) → (xs : List (ExecutabilityOver L)) → allowed p xs ≡ true → allowed q xs ≡ true
  unfolding allowed
  allowed_mono p q h = some_mono _ _ (λ x. each_mono p q h x.body)

  set_mono : (p q : L → Bool) → ((l : L) → p l ≡ true → q l ≡ true) → (value : ℕ → Bool) (es : List (EffectOver L)) (f : ℕ) → set_by ls p value es f ≡ true → set_by ls q value es f ≡ true
  unfolding set_by
  set_mono p q h value es f = some_mono _ _ (λ e t. both_true _ _ (both_left _ _ t) (each_mono p q h e.body (both_right _ _ t))) es

  -- An effect that sets a value sets whatever kind of value it is.
  set_kind : (p : L → Bool) (u : ℕ) (value : ℕ → Bool) → value u ≡ true → (es : List (EffectOver L)) (f : ℕ) → set_by ls p (eqb u) es f ≡ true → set_by ls p value es f ≡ true
  unfolding set_by
  set_kind p u value is es f =
      some_mono _ _ (λ e t. both_true _ _ (both_true _ _ (both_left _ _ (both_left _ _ t))
      (subst (λ (n : ℕ). value n ≡ true) (eqb-true u _ (both_right _ _ (both_left _ _ t))) is)) (both_right _ _ t)) es

  -- THE STATE AFTER IS SOUND. In the moved world a fluent has the value that it had or is set to, where it is set to no other.
  moved_value : (t : TableOver L) (a : ℕ) (w : World) (f v : ℕ) → v < ls.count f
      → (w f ≡ v) ⊎ (set_by ls (holds ls w) (eqb v) (effects_of t a) f ≡ true)
      → set_by ls (holds ls w) (λ u. fails (eqb v u)) (effects_of t a) f ≡ false → moved ls t a w f ≡ v
  unfolding moved
  moved_value t a w f v low on off =
      first-such-cases _ (λ u. u) (values_of ls f) (w f)
      (λ u h is q. q ∙ elim (ℕ_discrete u v) [
        | yes same ↦ same
        | no other ↦ clash (set_kind (holds ls w) u (λ x. fails (eqb v x)) (fails_false _ (ne_eqb v u (λ e. other (sym e)))) (effects_of t a) f is) off
      ])
      (λ none q. q ∙ ⊎_elim (λ e. e) (λ is. clash is (none v (has_value f v low))) on)

  moved_within : (t : TableOver L) (a : ℕ) (w : World) → Within ls w → Within ls (moved ls t a w)
  unfolding moved
  moved_within t a w low f =
      first-such-cases _ (λ u. u) (values_of ls f) (w f)
      (λ u h is q. subst (λ (x : ℕ). x < ls.count f) (sym q) (value_within f u h))
      (λ none q. subst (λ (x : ℕ). x < ls.count f) (sym q) (low f))

  known_was_after : (es : List (EffectOver L)) (s : State) (f v : ℕ) → mark_after ls es s f ≡ v + 1 → (v < ls.count f) × (known_after ls es s f v ≡ true)
  unfolding mark_after
  known_was_after es s f v e =
      first-such-cases (known_after ls es s f) (λ u. u + 1) (values_of ls f) Limits.unknown_mark
      (λ u h is q.
      let same : u ≡ v = omega (arith, e, q) in
      (subst (λ (x : ℕ). x < ls.count f) same (value_within f u h), subst (λ (x : ℕ). known_after ls es s f x ≡ true) same is))
      (λ none q. absurd (omega (arith, e, q)))

  pub after_agrees : (t : TableOver L) (a : ℕ) (s : State) (w : World) → Agrees w s → Agrees (moved ls t a w) (state_after ls t a s)
  unfolding state_after known_after
  after_agrees t a s w g =
      record {
        within = moved_within t a w g.within;
        right = λ f v e.
            let es = effects_of t a in
            let k = known_was_after es s f v (known_there (mark_after ls es s) (length s) f v e) in
            moved_value t a w f v k.0
            (⊎_elim (λ is. inl (g.right f v is)) (λ is. inr (set_mono (known ls s) (holds ls w) (known_holds w s g) (eqb v) es f is)) (either_split _ _ (both_left _ _ k.1)))
            (by-test _ (λ h. clash (set_mono (holds ls w) (possible ls s) (holds_possible w s g) (λ u. fails (eqb v u)) es f h) (fails_true _ (both_right _ _ k.1))) (λ no-h. no-h));
      }

  -- A READING IS SOUND. A state is told the world's value.
  pub told_agrees : (w : World) (s : State) (f v : ℕ) → w f ≡ v → Agrees w s → Agrees w (told f v s)
  told_agrees w s f v is g =
      record {
        within = g.within;
        right = λ i u e.
            elim (ℕ_discrete i f) [
              | yes same ↦ elim (dec_lt f (length s)) [
                | yes near ↦ ap w same ∙ is ∙ sym (told_there f v s u near (rw same at e))
                | no far ↦ g.right i u (subst (λ (x : State). is_known x i u ≡ true) (told_far f v s (omega arith)) e)
              ]
              | no other ↦ g.right i u (sym (told_elsewhere f v s i u other) ∙ e)
            ];
      }

  -- The readings of fluents on which all the worlds in P have the value that v has: one of them agrees with all of P.
  readings_agree : (fs : List ℕ) (s : State) (v : World) (P : World → Type 0) → Within ls v → ((w : World) → P w → Agrees w s) → ((f : ℕ) → Has fs f → (w : World) → P w → w f ≡ v f)
      → SomeState (readings ls fs s) (λ u. (w : World) → P w → Agrees w u)
  unfolding readings
  readings_agree [] s v P low g same = g
  readings_agree (f ∷ fs) s v P low g same =
      some_value (values_of ls f) (λ u. readings ls fs (told f u s)) s _ (v f) (has_value f (v f) (low f))
      (readings_agree fs (told f (v f) s) v P low (λ w h. told_agrees w s f (v f) (same f (inl refl) w h) (g w h)) (λ i m. same i (inr m)))

  -- EXCLUSIVE CONDITIONS do not hold together.
  held_fits : (w : World) (b : List L) → each_of (holds ls w) b ≡ true → (f : ℕ) → fits ls b f (w f) ≡ true
  unfolding fits holds either fails
  held_fits w b h f = has_each _ b (λ l m. by-test (eqb (ls.fluent l) f) (λ t. here l m (eqb-true _ f t)) (λ u. away l u))
    where
      here : (l : L) → Has b l → ls.fluent l ≡ f → either (fails (eqb (ls.fluent l) f)) (ls.satisfied l (w f)) ≡ true
      here l m q = rw (eq-eqb (ls.fluent l) f q, fails) (ap (λ (g : ℕ). ls.satisfied l (w g)) (sym q) ∙ each_has _ b l h m)

      away : (l : L) → eqb (ls.fluent l) f ≡ false → either (fails (eqb (ls.fluent l) f)) (ls.satisfied l (w f)) ≡ true
      away l u = rw (u, fails)

  exclusive_apart : (c e : List L) (w : World) → Within ls w → exclusive ls c e ≡ true → each_of (holds ls w) c ≡ true → each_of (holds ls w) e ≡ true → ⊥
  unfolding exclusive disagree
  exclusive_apart c e w low x hc he =
      let t = some_has _ c x in
      let f = ls.fluent t.0 in
      clash (has_some _ (values_of ls f) (w f) (has_value f (w f) (low f)) (both_true _ _ (held_fits w c hc f) (held_fits w e he f))) (fails_true _ (both_right _ _ t.2))

  -- ONE ACTION. Where it can be run in a state, it may be run in each world that agrees.
  pub runs_agree : (t : TableOver L) (a : ℕ) (s : State) (w : World) → Agrees w s → can_be_run ls t a s ≡ true → may_be_run ls t a w ≡ true
  unfolding can_be_run may_be_run
  runs_agree t a s w g = allowed_mono (known ls s) (holds ls w) (known_holds w s g) (executability_of t a)

  unknown_is_sensed : (t : TableOver L) (a : ℕ) (s : State) (f : ℕ) → Has (unknown_sensed ls t a s) f → senses (knowledge_of t a) f ≡ true
  unfolding unknown_sensed
  unknown_is_sensed t a s f h = both_left _ _ (those_has _ (numbers 0 (length s)) f h).1

  -- One of its readings agrees with each world that agreed and shows what v shows.
  sensed_agree : (t : TableOver L) (a : ℕ) (s : State) (v : World) → Agrees v s
      → SomeState (readings ls (unknown_sensed ls t a s) s) (λ u. (w : World) → Agrees w s → shown t a w ≡ shown t a v → Agrees w u)
  sensed_agree t a s v g =
      some_state_map (λ u h w agree same. h w (agree, same)) (readings ls (unknown_sensed ls t a s) s)
      (readings_agree (unknown_sensed ls t a s) s v (λ w. Agrees w s × (shown t a w ≡ shown t a v)) g.within (λ w p. p.0)
      (λ f m w p. shown_same t a w v f p.1 (unknown_is_sensed t a s f m)))

  -- THE RECORD, for any step that knows what a state does, and whose action, where it is not refused, leads to the readings of the state or to another that
  -- agrees with the worlds moved.
  abbrev pub Exclusive : List (List L) → Type 0
  Exclusive cs = all_exclusive ls cs ≡ true

  pub record Leads (t : TableOver L) (a : ℕ) (s : State) (o : Outcome State) : Type 0 where
    pub after : State
    pub is : o ≡ pick (sensing t a) (λ _. readings ls (unknown_sensed ls t a s) s) (λ _. single after)
    pub runs : (w : World) → Agrees w s → may_be_run ls t a w ≡ true
    pub agrees : (w : World) → Agrees w s → Agrees (moved ls t a w) after

  pub led_sound : (t : TableOver L) (step : Steps State L) → step.knows ≡ known ls → ((a : ℕ) (s : State) (o : Outcome State) → step.does a s ≡ leads_to o → Leads t a s o)
      → SoundStep step (table_domain ls t) Exclusive Agrees
  unfolding table_domain all_exclusive
  led_sound t step knowing leads =
      record {
        runs = λ a s o is. (leads a s o is).runs;
        moves = λ a s o is off.
            let led = leads a s o is in
            subst (λ (x : Outcome State). SomeState x (λ u. (w : World) → Agrees w s → Agrees (moved ls t a w) u)) (sym (led.is ∙ pick_false _ _ _ off)) led.agrees;
        reads = λ a s o is v on g.
            subst (λ (x : Outcome State). SomeState x (λ u. (w : World) → Agrees w s → shown t a w ≡ shown t a v → Agrees w u)) (sym ((leads a s o is).is ∙ pick_true _ _ _ on)) (sensed_agree t a s v g);
        knows = λ l w s g k. known_holds w s g l (sym (ap (λ (k : State → L → Bool). k s l) knowing) ∙ k);
        apart = λ c cs x w s g hc e m he. exclusive_apart c e w g.within (each_has (exclusive ls c) cs e (both_left _ _ x) m) hc he;
        others = λ c cs x. both_right _ _ x;
      }

  -- What the table's step leads to is the outcome of an action that can be run.
  does_lead : (t : TableOver L) (a : ℕ) (s : State) (o : Outcome State) → table_does ls t a s ≡ leads_to o → (can_be_run ls t a s ≡ true) × (outcome ls t a s ≡ o)
  unfolding table_does
  does_lead t a s o e = pick-cases _ _ _ e (λ run is. (run, leads_same is)) (λ _ is. absurd (refuses≢leads is))

  pub guarded_sound : (t : TableOver L) (gs : List (EntryOver L)) → SoundStep (guarded_step ls t gs) (table_domain ls t) Exclusive Agrees
  unfolding guarded_step outcome
  guarded_sound t gs =
      led_sound t (guarded_step ls t gs) refl λ a s o is.
      let led = does_lead t a s o is in
      record { after = state_after ls t a s; is = sym led.1; runs = λ w g. runs_agree t a s w g led.0; agrees = after_agrees t a s }

  -- THE FIRST STATE agrees with every world that has the facts.
  first_agrees : (lim : Limits) (t : TableOver L) (w : World) → Facts ls t w → Agrees w (first_state ls lim t)
  unfolding first_state
  first_agrees lim t w h =
      record {
        within = h.0;
        right = λ f v e.
            one_left (those_of (fits ls t.facts f) (values_of ls f)) v (w f)
            (known_there (λ (i : ℕ). mark_left (those_of (fits ls t.facts i) (values_of ls i))) lim.state f v e)
            (has_those _ (values_of ls f) (w f) (has_value f (w f) (h.0 f)) (held_fits w t.facts h.1 f));
      }

  -- THE LAST STATE. Worlds that agree with a state have the same values of the fluents known in it.
  known_value : (s : State) (w u : World) → Agrees w s → Agrees u s → (f : ℕ) → known_whether ls s f ≡ true → w f ≡ u f
  unfolding known_whether known_as
  known_value s w u g h f e =
      let t = some_has _ (values_of ls f) e in
      g.right f t.0 (both_left _ _ t.2) ∙ sym (h.right f t.0 (both_left _ _ t.2))

  -- What an end state must have: each goal known true, and each whether fluent known.
  nothing_missed : (r : RequestOver L) (s : State) → Verified (judged ls r s)
      → (each_of (known ls s) (values r.goals) ≡ true) × (each_of (known_whether ls s) (values r.whether) ≡ true)
  unfolding judged missed_in
  nothing_missed r s e =
      let q = or_else_nowhere _ _ (fine_nowhere (missed_in ls r s) s e) in
      ((none_missed (known ls s) r.goals).0 q.0, (none_missed (known_whether ls s) r.whether).0 q.1)

  -- DEMAND 3, for any structure of literals, and for worlds of any kind that are seen as giving values: where every two conditions of each
  -- branching are exclusive, a plan whose walk is verified is carried out from all worlds with the initial facts. What is wanted at its end
  -- is to follow from this: the true world is possible, the goals hold in each possible world, and these agree on each whether fluent. Where the
  -- walk is guarded, the guards hold as well.
  module _ (r : RequestOver L) {U Q : Type 0} (d : Domain U L Q) (valued : U → World) (same : Seen d (table_domain ls r.table) valued) where
    -- By any step that is sound, with guards each of which is known true in every state that lacks none.
    module _ (step : Steps State L) (sound : SoundStep step (table_domain ls r.table) Exclusive Agrees) (gs : List L) (guarded : (s : State) → step.lacks s ≡ nowhere → each_of (step.knows s) gs ≡ true) where
      pub seen_stepped_sound : (lim : Limits) → OnConditions Exclusive r.plan → Verified (meet step (walk step r.plan (judged ls r)) (first_state ls lim r.table))
          → (K : U → Worlds U → Type 0)
          → ((v : U) (P : Worlds U) → P v → ((w : U) → P w → each_of (holds ls (valued w)) (values r.goals) ≡ true)
          → ((w u : U) → P w → P u → (f : ℕ) → Has (values r.whether) f → valued w f ≡ valued u f) → K v P)
          → (P : Worlds U) → ((w : U) → P w → Facts ls r.table (valued w)) → (v : U) → P v → Guarded d gs (CarriedUnder d gs r.plan K) v P
      seen_stepped_sound lim apart fine_end K reached P facts v h =
          let seen = seen_sound step d (table_domain ls r.table) valued Exclusive Agrees same sound in
          meet_sound step d Exclusive (λ w s. Agrees (valued w) s) seen gs guarded (walk step r.plan (judged ls r)) (CarriedUnder d gs r.plan K)
          (plan_sound step d Exclusive (λ w s. Agrees (valued w) s) seen gs guarded r.plan apart (judged ls r) K
          (λ s u A g e.
          let q = nothing_missed r s e in
          reached u A g.actual
          (λ w m. each_mono (known ls s) (holds ls (valued w)) (known_holds (valued w) s (g.agree w m)) _ q.0)
          (λ w x m n f i. known_value s (valued w) (valued x) (g.agree w m) (g.agree x n) f (each_has _ (values r.whether) f q.1 i))))
          (first_state ls lim r.table) v P
          (record { agree = λ w m. first_agrees lim r.table (valued w) (facts w m); actual = h }) fine_end

    -- By the table's own, without guards.
    pub seen_walk_sound : (lim : Limits) → OnConditions Exclusive r.plan → Verified (walked ls r (first_state ls lim r.table))
        → (K : U → Worlds U → Type 0)
        → ((v : U) (P : Worlds U) → P v → ((w : U) → P w → each_of (holds ls (valued w)) (values r.goals) ≡ true)
        → ((w u : U) → P w → P u → (f : ℕ) → Has (values r.whether) f → valued w f ≡ valued u f) → K v P)
        → (P : Worlds U) → ((w : U) → P w → Facts ls r.table (valued w)) → (v : U) → P v → Carried d r.plan K v P
    unfolding walked table_step guarded_step first_missed each_of
    seen_walk_sound = seen_stepped_sound (table_step ls r.table) (guarded_sound r.table []) [] (λ s _. refl)

  -- And of the worlds of the structure itself.
  pub walk_sound : (lim : Limits) (r : RequestOver L) → OnConditions Exclusive r.plan → Verified (walked ls r (first_state ls lim r.table)) → CarriedOut ls r
  walk_sound lim r apart fine_end v h =
      seen_walk_sound r (table_domain ls r.table) (λ w. w) itself lim apart fine_end (Reached ls r)
      (λ u P true_world goals whether. record { true_world = true_world; goals = goals; whether = λ w x m n. same_map w x (values r.whether) (whether w x m n) })
      (Facts ls r.table) (λ w m. m) v h
    where
      itself : Seen (table_domain ls r.table) (table_domain ls r.table) (λ w. w)
      itself = record { may_be_run = λ a w. refl; sensing = λ a. refl; shows = λ a w u e. e; moved = λ a w. refl; holds = λ w. refl }

  -- A WORLD'S MOVE IS SINGLE-VALUED where the action may be run and no two effects are contradictory: no effects whose bodies hold set two values
  -- of one fluent.
  pub move_is_single_valued : (t : TableOver L) → ((e g : EffectOver L) → Has t.effects e → Has t.effects g → contradictory ls t e g ≡ false)
      → (a : ℕ) (w : World) → Within ls w → may_be_run ls t a w ≡ true → (f v : ℕ) → set_by ls (holds ls w) (eqb v) (effects_of t a) f ≡ true
      → set_by ls (holds ls w) (λ u. fails (eqb v u)) (effects_of t a) f ≡ true → ⊥
  unfolding set_by effects_of contradictory clashing runs_with may_be_run allowed
  move_is_single_valued t free a w low runs f v p q =
      let x = some_has _ t.effects (sym (some_those _ _ t.effects) ∙ p) in
      let y = some_has _ t.effects (sym (some_those _ _ t.effects) ∙ q) in
      let x-sets = both_right _ _ x.2 in
      let y-sets = both_right _ _ y.2 in
      let actions : x.0.action ≡ y.0.action = eqb-true _ _ (both_left _ _ x.2) ∙ sym (eqb-true _ _ (both_left _ _ y.2)) in
      let fluents : ls.fluent x.0.literal ≡ ls.fluent y.0.literal =
      eqb-true _ f (both_left _ _ (both_left _ _ x-sets)) ∙ sym (eqb-true _ f (both_left _ _ (both_left _ _ y-sets))) in
      let value : v ≡ ls.sets x.0.literal = eqb-true v _ (both_right _ _ (both_left _ _ x-sets)) in
      let runs_here : allowed (holds ls w) (executability_of t x.0.action) ≡ true = rw (eqb-true x.0.action a (both_left _ _ x.2)) runs in
      let line = some_has _ (executability_of t x.0.action) runs_here in
      clash
      (both_true _ _
      (both_true _ _ (eq-eqb _ _ actions)
      (both_true _ _ (both_true _ _ (eq-eqb _ _ (sym fluents)) (subst (λ (n : ℕ). fails (eqb n (ls.sets y.0.literal)) ≡ true) value (both_right _ _ (both_left _ _ y-sets))))
      (together x.0.body y.0.body (both_right _ _ x-sets) (both_right _ _ y-sets))))
      (has_some _ (executability_of t x.0.action) line.0 line.1
      (both_true _ _ (together x.0.body line.0.body (both_right _ _ x-sets) line.2) (together y.0.body line.0.body (both_right _ _ y-sets) line.2))))
      (free x.0 y.0 x.1 y.1)
    where
      together : (b c : List L) → each_of (holds ls w) b ≡ true → each_of (holds ls w) c ≡ true → fails (exclusive ls b c) ≡ true
      together b c hb hc = fails_false _ (by-test _ (λ o. absurd (exclusive_apart b c w low o hb hc)) (λ no-o. no-o))
