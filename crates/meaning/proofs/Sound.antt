-- Whatever a walk verifies is carried out as demand 3 says, for any states, worlds, literals and readings, from a record of what one step must
-- satisfy. The induction keeps that every possible world agrees with the state and that the true world is among them. Assumes nothing.
use Prim.Native.Nat.{ℕ}
use mathlib.Core.Path.{◌≡◌, refl, sym, ◌∙◌, ap, subst}
use mathlib.Core.Bool.{Bool, true, false}
use mathlib.Core.List.{List, [], ◌∷◌}
use mathlib.Core.Logic.{◌⊎◌, inl, inr, ⊎_elim}
use Rattle.meaning.specs.Tests.{pick, each_of, Has}
use Rattle.meaning.specs.Requests.{Sequence, done, item, Item, act, branching, Branches, none, branch}
use Rattle.meaning.specs.Refusals.{Found, nowhere, at, conditions_of}
use Rattle.meaning.specs.States.{Outcome, single, fork}
use Rattle.meaning.specs.Walk.{Concerned, End, fine, missed, stopped, Walked, Verified, stopped_at, counted, keep_miss, after_miss, after_end, and_then, each_reading, Step, leads_to, refuses, Steps, after_step, unless_broken, meet, run_action, walk, walk_item, walk_branch}
use Rattle.meaning.specs.Worlds.{Domain, Worlds, Sure, Kept, Moved, Acted, NoneSure, Guarded, CarriedUnder, CarriedItem, Chosen}
use Rattle.meaning.proofs.TestLaws.{by-test, each_mono}
use Rattle.meaning.proofs.WalkLaws.{OnConditions, OnConditionsItem, OnConditionsBelow}

-- Where an action is carried out, it drops no world: each that shows what the true world shows is kept, and each is moved.
module _ {W L R : Type 0} (d : Domain W L R) where
  pub none_is_dropped : (a : ℕ) (K : W → Worlds W → Type 0) (v : W) (P : Worlds W) → Acted d a K v P
      → ((w : W) → P w → d.shows a w ≡ d.shows a v → Kept d a v P w) × ((w : W) → P w → Moved d a P (d.moved a w))
  none_is_dropped a K v P acted = (λ w h shows. (h, acted.allowed w h, shows), λ w h. (w, h, acted.allowed w h, refl))

-- ENDS.
module _ {S : Type 0} where
  pub missed≢fine : {p : ℕ} {s : S} → missed p s ≡ fine → ⊥
  missed≢fine e = subst is_missed e tt
    where
      is_missed : End S → Type 0
      is_missed fine = ⊥
      is_missed (missed p s) = Unit {0}
      is_missed (stopped n p u) = ⊥

  pub stopped≢fine : {n p : ℕ} {u : Concerned S} → stopped n p u ≡ fine → ⊥
  stopped≢fine e = subst is_stopped e tt
    where
      is_stopped : End S → Type 0
      is_stopped fine = ⊥
      is_stopped (missed p s) = ⊥
      is_stopped (stopped n p u) = Unit {0}

  stopped_not_verified : (n p : ℕ) (u : Concerned S) → Verified (stopped_at n p u) → ⊥
  unfolding stopped_at
  stopped_not_verified n p u e = stopped≢fine e

  pub counted_verified : (c : ℕ) (w : Walked S) → Verified (counted c w) → Verified w
  unfolding counted
  counted_verified c w e = e

  -- STEPS. A step that leads to an outcome leads to no other, and is not refused.
  pub leads_same : {o x : Outcome S} → leads_to o ≡ leads_to x → o ≡ x
  leads_same {o} e = ap led e
    where
      led : Step S → Outcome S
      led (leads_to x) = x
      led (refuses n u) = o

  pub refuses≢leads : {o : Outcome S} {n : ℕ} {u : Concerned S} → refuses n u ≡ leads_to o → ⊥
  refuses≢leads e = subst refused e tt
    where
      refused : Step S → Type 0
      refused (leads_to x) = ⊥
      refused (refuses n u) = Unit {0}

  -- Two walks, one after the other, are verified where both are.
  pub then_verified : (w : Walked S) (more : Unit {0} → Walked S) → Verified (and_then w more) → Verified w × Verified (more tt)
  unfolding and_then after_end counted after_miss keep_miss
  then_verified w more e = go w.end (more tt).end refl refl e
    where
      kept : (p : ℕ) (s : S) (x : End S) → keep_miss p s x ≡ fine → ⊥
      kept p s fine q = missed≢fine q
      kept p s (missed i u) q = missed≢fine q
      kept p s (stopped n i u) q = stopped≢fine q

      go : (x y : End S) → w.end ≡ x → (more tt).end ≡ y → (after_end x w.count more).end ≡ fine → (w.end ≡ fine) × ((more tt).end ≡ fine)
      go fine y p q r = (p, r)
      go (missed i u) y p q r = absurd (kept i u (more tt).end r)
      go (stopped n i u) y p q r = absurd (stopped≢fine r)

  -- Something holds of one of the states that an action leads to.
  abbrev pub SomeState : Outcome S → (S → Type 0) → Type 0
  SomeState (single s) Q = Q s
  SomeState (fork o p) Q = SomeState o Q ⊎ SomeState (p tt) Q

  pub some_state_map : {P Q : S → Type 0} → ((s : S) → P s → Q s) → (o : Outcome S) → SomeState o P → SomeState o Q
  some_state_map h (single s) x = h s x
  some_state_map h (fork o p) x = ⊎_elim (λ y. inl (some_state_map h o y)) (λ y. inr (some_state_map h (p tt) y)) x

  -- Where every reading is verified, so is the one that Q holds of.
  pub reading_verified : (o : Outcome S) (k : S → Walked S) (Q : S → Type 0) → Verified (each_reading o k) → SomeState o Q → (s : S) × Q s × Verified (k s)
  unfolding each_reading
  reading_verified (single s) k Q e h = (s, h, e)
  reading_verified (fork o p) k Q e h =
      let b = then_verified (each_reading o k) (λ _. each_reading (p tt) k) e in
      ⊎_elim (reading_verified o k Q b.0) (reading_verified (p tt) k Q b.1) h

module _ {S W L R : Type 0} where
  -- What a step must satisfy, where `Agrees w s` says that all that s knows is right in the world w. Nothing is asked of what it refuses.
  pub record SoundStep (step : Steps S L) (d : Domain W L R) (Apart : List (List L) → Type 0) (Agrees : W → S → Type 0) : Type 0 where
    -- what isn't refused may be run
    pub runs : (a : ℕ) (s : S) (o : Outcome S) → step.does a s ≡ leads_to o → (w : W) → Agrees w s → d.may_be_run a w ≡ true
    -- the state after is sound
    pub moves : (a : ℕ) (s : S) (o : Outcome S) → step.does a s ≡ leads_to o → d.sensing a ≡ false → SomeState o (λ u. (w : W) → Agrees w s → Agrees (d.moved a w) u)
    -- a reading is sound: the one that the true world v gives
    pub reads : (a : ℕ) (s : S) (o : Outcome S) → step.does a s ≡ leads_to o → (v : W) → d.sensing a ≡ true → Agrees v s
        → SomeState o (λ u. (w : W) → Agrees w s → d.shows a w ≡ d.shows a v → Agrees w u)
    -- a branching is sound: what is known holds, and conditions that are apart don't hold together
    pub knows : (l : L) (w : W) (s : S) → Agrees w s → step.knows s l ≡ true → d.holds w l ≡ true
    pub apart : (c : List L) (cs : List (List L)) → Apart (c ∷ cs) → (w : W) (s : S) → Agrees w s → each_of (d.holds w) c ≡ true → (e : List L) → Has cs e → each_of (d.holds w) e ≡ true → ⊥
    pub others : (c : List L) (cs : List (List L)) → Apart (c ∷ cs) → Apart cs

-- A DOMAIN SEEN THROUGH ANOTHER: its worlds are some of the other's, they move there as here and have the same literals, and where they show the
-- same here, they do there.
pub record Seen {U W L Q R : Type 0} (d : Domain U L Q) (other : Domain W L R) (seen : U → W) : Type 0 where
  pub may_be_run : (a : ℕ) (v : U) → d.may_be_run a v ≡ other.may_be_run a (seen v)
  pub sensing : (a : ℕ) → d.sensing a ≡ other.sensing a
  pub shows : (a : ℕ) (v u : U) → d.shows a v ≡ d.shows a u → other.shows a (seen v) ≡ other.shows a (seen u)
  pub moved : (a : ℕ) (v : U) → seen (d.moved a v) ≡ other.moved a (seen v)
  pub holds : (v : U) → d.holds v ≡ other.holds (seen v)

-- A step that is sound for the other is sound for it.
pub seen_sound : {S U W L Q R : Type 0} (step : Steps S L) (d : Domain U L Q) (other : Domain W L R) (seen : U → W) (Apart : List (List L) → Type 0) (Agrees : W → S → Type 0)
    → Seen d other seen → SoundStep step other Apart Agrees → SoundStep step d Apart (λ v s. Agrees (seen v) s)
seen_sound {L = L} step d other seen Apart Agrees same sound =
    record {
      runs = λ a s o is v g. same.may_be_run a v ∙ sound.runs a s o is (seen v) g;
      moves = λ a s o is off.
          some_state_map (λ u h v g. rw (same.moved a v) (h (seen v) g)) o (sound.moves a s o is (sym (same.sensing a) ∙ off));
      reads = λ a s o is v on g.
          some_state_map (λ u h w agree shows. h (seen w) agree (same.shows a w v shows)) o (sound.reads a s o is (seen v) (sym (same.sensing a) ∙ on) g);
      knows = λ l v s g k. ap (λ (h : L → Bool). h l) (same.holds v) ∙ sound.knows l (seen v) s g k;
      apart = λ c cs x v s g hc e m he. sound.apart c cs x (seen v) s g (rw (same.holds v) at hc) e m (rw (same.holds v) at he);
      others = sound.others;
    }

-- With guards, each known true in every state that does not lack one.
module _ {S W L R : Type 0} (step : Steps S L) (d : Domain W L R) (Apart : List (List L) → Type 0) (Agrees : W → S → Type 0) (sound : SoundStep step d Apart Agrees)
    (gs : List L) (guarded : (s : S) → step.lacks s ≡ nowhere → each_of (step.knows s) gs ≡ true) where
  -- Every possible world agrees with the state, and the true one is among them.
  pub record Known (v : W) (P : Worlds W) (s : S) : Type 0 where
    pub agree : (w : W) → P w → Agrees w s
    pub actual : P v

  -- What is wanted after a plan follows from what the walk makes of it.
  abbrev pub Follows : (S → Walked S) → (W → Worlds W → Type 0) → Type 1
  Follows k K = (s : S) (v : W) (P : Worlds W) → Known v P s → Verified (k s) → K v P

  pub sure : {v : W} {P : Worlds W} {s : S} (c : List L) → Known v P s → each_of (step.knows s) c ≡ true → Sure d c P
  sure {s = s} c g e = λ w h. each_mono (step.knows s) (d.holds w) (λ l. sound.knows l w s (g.agree w h)) c e

  -- None of the conditions holds in the true world, so none holds in every possible one.
  none_sure : (P : Worlds W) (v : W) (bs : Branches L) → P v → ((e : List L) → Has (conditions_of bs) e → each_of (d.holds v) e ≡ true → ⊥) → NoneSure d bs P
  unfolding conditions_of
  none_sure P v none h no-e = tt
  none_sure P v (branch e b bs) h no-e = (λ se. no-e e (inl refl) (se v h), none_sure P v bs h (λ g m. no-e g (inr m)))

  -- A branch was followed, so some condition holds in the true world.
  pub none_followed : (k : S → Walked S) {v : W} {P : Worlds W} {s : S} (bs : Branches L) (p : ℕ) → Known v P s
      → Verified (walk_branch step bs p k s) → ((e : List L) → Has (conditions_of bs) e → each_of (d.holds v) e ≡ true → ⊥) → ⊥
  unfolding walk pick conditions_of
  none_followed k {s = s} none p g r no-e = stopped_not_verified _ p _ r
  none_followed k {v} {s = s} (branch e b bs) p g r no-e =
      by-test (each_of (step.knows s) e)
      (λ q. no-e e (inl refl) (sure e g q v g.actual))
      (λ q. none_followed k bs p g (rw (q, pick) at r) (λ i m. no-e i (inr m)))

  -- A STATE THAT IS MET and lacks no guard.
  with_guards : (hs : List L) (K : W → Worlds W → Type 0) (v : W) (P : Worlds W) → Sure d hs P → K v P → Guarded d hs K v P
  with_guards [] K v P sure-of then = then
  with_guards (h ∷ hs) K v P sure-of then = (sure-of, then)

  pub meet_sound : (k : S → Walked S) (K : W → Worlds W → Type 0) → Follows k K → Follows (meet step k) (Guarded d gs K)
  meet_sound k K then s v P g e = by_found (step.lacks s) refl e
    where
      by_found : (f : Found) → step.lacks s ≡ f → Verified (unless_broken f s (k s)) → Guarded d gs K v P
      by_found nowhere q fine-after = with_guards gs K v P (sure gs g (guarded s q)) (then s v P g fine-after)
      by_found (at p) q fine-after = absurd (stopped_not_verified _ p _ fine-after)

  -- An action, and what follows it.
  act_sound : (p a : ℕ) (k : S → Walked S) (K : W → Worlds W → Type 0) → Follows k K → Follows (λ s. after_step p (step.does a s) k) (Acted d a K)
  unfolding after_step
  act_sound p a k K then s v P g e = by_step (step.does a s) refl e
    where
      by_step : (x : Step S) → step.does a s ≡ x → Verified (after_step p x k) → Acted d a K v P
      by_step (refuses n u) is e = absurd (stopped_not_verified n p u e)
      by_step (leads_to o) is fine-after =
          let each = counted_verified 1 (each_reading o k) fine-after in
          let may : (w : W) → P w → d.may_be_run a w ≡ true = λ w h. sound.runs a s o is w (g.agree w h) in
          record {
            allowed = may;
            read = λ sens.
                let t = reading_verified o k _ each (sound.reads a s o is v sens (g.agree v g.actual)) in
                then t.0 v (Kept d a v P) (record { agree = λ w h. t.1 w (g.agree w h.0) h.2; actual = (g.actual, may v g.actual, refl) }) t.2;
            done = λ off.
                let t = reading_verified o k _ each (sound.moves a s o is off) in
                then t.0 (d.moved a v) (Moved d a P)
                (record { agree = λ w h. subst (λ (u : W). Agrees u t.0) (sym h.3) (t.1 h.0 (g.agree h.0 h.1)); actual = (v, g.actual, may v g.actual, refl) })
                t.2;
          }

  run_sound : (p a : ℕ) (k : S → Walked S) (K : W → Worlds W → Type 0) → Follows k K → Follows (run_action step p a k) (Acted d a (Guarded d gs K))
  unfolding run_action
  run_sound p a k K then = act_sound p a (meet step k) (Guarded d gs K) (meet_sound k K then)

  mutual
    unfolding walk pick conditions_of

    -- DEMAND 3 from the record: where what follows is sound, so is the plan before it.
    pub plan_sound : (p : Sequence L) → OnConditions Apart p → (k : S → Walked S) (K : W → Worlds W → Type 0) → Follows k K → Follows (walk step p k) (CarriedUnder d gs p K)
    plan_sound done fit k K then s v P g e = then s v P g e
    plan_sound (item i rest) fit k K then s v P g e =
        item_sound i fit.0 (walk step rest k) (CarriedUnder d gs rest K) (plan_sound rest fit.1 k K then) s v P g e

    item_sound : (i : Item L) → OnConditionsItem Apart i → (k : S → Walked S) (K : W → Worlds W → Type 0) → Follows k K → Follows (walk_item step i k) (CarriedItem d gs i K)
    item_sound (act p a) fit k K then s v P g e = run_sound p a k K then s v P g e
    item_sound (branching p bs) fit k K then s v P g e = branches_sound bs fit.0 fit.1 p k K then s v P g e

    branches_sound : (bs : Branches L) → Apart (conditions_of bs) → OnConditionsBelow Apart bs → (p : ℕ) (k : S → Walked S) (K : W → Worlds W → Type 0) → Follows k K
        → Follows (walk_branch step bs p k) (Chosen d gs bs K)
    branches_sound none apart fit p k K then s v P g e = stopped_not_verified _ p _ e
    branches_sound (branch c b bs) apart fit p k K then s v P g e =
        by-test (each_of (step.knows s) c)
        (λ q.
        let here = sure c g q in
        inl (here, none_sure P v bs g.actual (sound.apart c (conditions_of bs) apart v s (g.agree v g.actual) (here v g.actual)), plan_sound b fit.0 k K then s v P g (rw (q, pick) at e)))
        (λ q.
        let later : Verified (walk_branch step bs p k s) = rw (q, pick) at e in
        inr (
          λ sc. none_followed k bs p g later (sound.apart c (conditions_of bs) apart v s (g.agree v g.actual) (sc v g.actual)),
          branches_sound bs (sound.others c (conditions_of bs) apart) fit.1 p k K then s v P g later,
        ))
