-- Theorem 7 of the paper on IndiGolog, for a guide that starts: whatever world with the initial facts is the true one, the guide answers so many actions as a plan may have items
-- at most, and then that it is done; none of its calls is refused where the readings are truthful; what it answers is what carrying the plan out runs; and at the end what is asked
-- is known to it and is so in every possible world. By induction on the items on a path, with: the state is right in every possible world, and the true one is possible.
-- Assumes nothing.
use Prim.Native.Nat.{ℕ, zero, suc, ◌≤◌}
use native.Mathlib.Omega.{arith}
use native.Mathlib.Nat.{suc_inj}
use mathlib.Core.Path.{◌≡◌, refl, sym, ◌∙◌, ap, subst, fun_ext}
use mathlib.Core.Bool.{Bool, true, false}
use mathlib.Core.List.{List, [], ◌∷◌, map}
use mathlib.Core.Logic.{⊎_elim}
use lib.ListN.{length}
use Rattle.meaning.specs.Limits
use Rattle.meaning.specs.Limits.{Limits}
use Rattle.meaning.specs.Requests.{Table, Sequence, Request, values}
use Rattle.meaning.specs.Reading.{got}
use Rattle.meaning.specs.Refusals.{Found, nowhere, at, settled}
use Rattle.meaning.specs.Lines.{sensing}
use Rattle.meaning.specs.States.{State, Outcome, single, known, known_whether, told_all, first_state, can_be_run, state_after, unknown_sensed, readings, outcome}
use Rattle.meaning.specs.Walk.{fine, Walked, Verified, stopped_at, each_reading, Step, leads_to, after_step, run_action, walk, table_does, table_step, missed_in, end_of, judged, walked}
use Rattle.meaning.specs.Worlds.{Worlds, Kept, Moved, Acted, World, holds, table_domain, Facts}
use Rattle.meaning.specs.Values.{flags}
use Rattle.demands.specs.Depth.{most_items}
use Rattle.guidance.specs.declared.Told.TheVariants.{Do, Done}
use Rattle.guidance.specs.Guides.{Guide, going, ended, Turn, Ahead, the_end, an_action, no_branch, ahead, sensed, state_done, met, next, start}
use Rattle.guidance.specs.Guided.{asked_for, Truthful, Guided, ToldReached, Runs, RunsExactly}
use Rattle.meaning.proofs.TestLaws.{by-test, clash, either_split, fails_true, pick_true, pick_false, each_has, each_mono, same_map}
use Rattle.meaning.proofs.PickLaws.{has-picked}
use Rattle.meaning.proofs.ToldLaws.{told_all_length, first_length}
use Rattle.meaning.proofs.StateLaws.{after_length}
use Rattle.meaning.proofs.WalkLaws.{OnConditions}
use Rattle.meaning.proofs.SettledLaws.{settled_is, or_else_nowhere, fit}
use Rattle.meaning.proofs.EndLaws.{none_missed}
use Rattle.meaning.proofs.Sound.{missed≢fine, stopped≢fine, counted_verified, SomeState, reading_verified}
use Rattle.meaning.proofs.ValueSound.{Exclusive}
use Rattle.meaning.proofs.TwoValues.{same_all_exclusive}
use Rattle.demands.proofs.Meeting.{holds_true, holds_false}
use Rattle.demands.proofs.DepthLaws.{read_few}
use Rattle.demands.proofs.GuideReadings.{Right, table_sound, known_right, first_right, true_literal, next_taken, true_led, sensed_right, none_sensed}
use Rattle.demands.proofs.GuideSteps.{Possible, NoneLeft, LedTo, ahead_led}
use Rattle.demands.proofs.GuideAnswers.{begun}

-- THE END. A state that ends fine misses nothing,
fine_nowhere : (f : Found) (s : State) → end_of f s ≡ fine → f ≡ nowhere
unfolding end_of
fine_nowhere nowhere s e = refl
fine_nowhere (at p) s e = absurd (missed≢fine e)

-- and so every possible world has what is asked.
known_same : (t : Table) (s : State) (w u : World) → Right w s → Right u s → (f : ℕ) → known_whether s f ≡ true → w f ≡ u f
unfolding known_whether
known_same t s w u g h f k =
    ⊎_elim
    (λ up. sym (holds_true w f) ∙ known_right t w s g _ up ∙ sym (sym (holds_true u f) ∙ known_right t u s h _ up))
    (λ down. fails_true _ (sym (holds_false w f) ∙ known_right t w s g _ down) ∙ sym (fails_true _ (sym (holds_false u f) ∙ known_right t u s h _ down)))
    (either_split _ _ k)

end_reached : (r : Request) (s : State) (v : World) (P : Worlds World) → Possible r.table v P s → Verified (judged r s) → ToldReached r s v P
unfolding judged missed_in
end_reached r s v P g is_fine =
    let none = fine_nowhere (missed_in r s) s is_fine in
    let q = or_else_nowhere _ _ none in
    let goals = (none_missed (known s) r.goals).0 q.0 in
    let whether = (none_missed (known_whether s) r.whether).0 q.1 in (
      none,
      record {
        true_world = g.actual;
        goals = λ w h. each_mono (known s) (holds w) (known_right r.table w s (g.agree w h)) _ goals;
        whether = λ w u h i. same_map w u (values r.whether) (λ f m. known_same r.table s w u (g.agree w h) (g.agree u i) f (each_has _ (values r.whether) f whether m));
      },
    )

-- AN ACTION THAT THE WALK RUNS can be run, and each of its readings is verified.
pub ran : (t : Table) (p a : ℕ) (k : State → Walked State) (s : State) → Verified (run_action (table_step t) p a k s) → (can_be_run t a s ≡ true) × Verified (each_reading (outcome t a s) k)
unfolding run_action table_step table_does after_step stopped_at
ran t p a k s is_fine =
    has-picked (λ (x : Step State). Verified (after_step p x k)) _ _ _ is_fine
    (λ run e. (run, counted_verified 1 (each_reading (outcome t a s) k) e))
    (λ _ e. absurd (stopped≢fine e))

does_lead : (t : Table) (a : ℕ) (s : State) → can_be_run t a s ≡ true → (table_step t).does a s ≡ leads_to (outcome t a s)
unfolding table_step table_does
does_lead t a s run = pick_true _ _ _ run

module _ (lim : Limits) (r : Request) where
  -- A turn that answers the first of these actions, and what comes after it; or that the plan has ended.
  abbrev Answered : List ℕ → Turn → World → Worlds World → Type 0
  Answered [] turn v P = (s : State) × (turn ≡ record { guide = ended s; told = Done }) × ToldReached r s v P
  Answered (a ∷ acts) turn v P =
      (h : Guide) × (turn ≡ record { guide = h; told = Do a })
      × Acted (table_domain r.table) a (λ u Q. (bytes : List ℕ) → Truthful u (asked_for h) bytes → Guided lim r.table acts (ToldReached r) h bytes u Q) v P

  answered_guided : (acts : List ℕ) (g : Guide) (bytes : List ℕ) (turn : Turn) (v : World) (P : Worlds World) → next lim g bytes ≡ turn → Answered acts turn v P
      → Guided lim r.table acts (ToldReached r) g bytes v P
  answered_guided [] g bytes turn v P is h = (h.0, is ∙ h.1, h.2)
  answered_guided (a ∷ acts) g bytes turn v P is h = (h.0, is ∙ h.1, h.2)

  -- From a state on: the actions that are answered, at most so many, from whatever guide, and run.
  abbrev Goes : (most : ℕ) → (v : World) → Worlds World → (Guide → Turn) → (List ℕ → Type 0) → Type 0
  Goes n v P turn R = (acts : List ℕ) × (length acts ≤ n) × ((g : Guide) → Answered acts (turn g) v P) × R acts

  abbrev Onward : ℕ → Type 1
  Onward n =
      (b : Sequence ℕ) → most_items b ≤ n → OnConditions (Exclusive flags) b → (s : State) → length s ≡ lim.state → (v : World) (P : Worlds World) → Possible r.table v P s
      → Verified (walk (table_step r.table) b (judged r) s)
      → Goes n v P (λ g. met lim r.table g s (ahead s b)) (λ acts. RunsExactly (table_domain r.table) b acts v P)

  -- AN ACTION, and what is left behind it.
  module _ (n : ℕ) (onward-n : Onward n) (p a : ℕ) (rest : Sequence ℕ) (few : most_items rest ≤ n) (on : OnConditions (Exclusive flags) rest) (s : State) (sized : length s ≡ lim.state)
      (v : World) (P : Worlds World) (g : Possible r.table v P s) (runs : Verified (run_action (table_step r.table) p a (walk (table_step r.table) rest (judged r)) s)) where
    can_run : can_be_run r.table a s ≡ true
    can_run = (ran r.table p a (walk (table_step r.table) rest (judged r)) s runs).0

    each_fine : Verified (each_reading (outcome r.table a s) (walk (table_step r.table) rest (judged r)))
    each_fine = (ran r.table p a (walk (table_step r.table) rest (judged r)) s runs).1

    may : (w : World) → P w → (table_domain r.table).may_be_run a w ≡ true
    may w h = (table_sound r.table).runs a s (outcome r.table a s) (does_lead r.table a s can_run) w (g.agree w h)

    abbrev Goes_on : Type 0
    Goes_on = (acts : List ℕ) × (length acts ≤ n) × ((h : Guide) → Answered (a ∷ acts) (met lim r.table h s (an_action a rest)) v P) × Acted (table_domain r.table) a (Runs (table_domain r.table) rest NoneLeft acts) v P

    -- It senses: the readings that the true world gives are told.
    read_on : sensing r.table a ≡ true → Goes_on
    unfolding outcome met state_done asked_for table_domain
    read_on senses =
        let u = told_all (map (true_literal v) (sensed lim r.table a)) s in
        let k = walk (table_step r.table) rest (judged r) in
        let each : Verified (each_reading (readings (unknown_sensed r.table a s) s) k) = subst (λ (o : Outcome State). Verified (each_reading o k)) (pick_true _ _ _ senses) each_fine in
        let led = reading_verified (readings (unknown_sensed r.table a s) s) k (λ x. x ≡ u) each (true_led lim r.table a s v sized (g.agree v g.actual)) in
        let h = going r.table (sensed lim r.table a) rest s in
        let later = onward-n rest few on u (told_all_length _ s ∙ sized) v (Kept (table_domain r.table) a v P)
        (record { agree = λ w m. sensed_right lim r.table a s v w (g.agree w m.0) m.2; actual = (g.actual, may v g.actual, refl) })
        (subst (λ (x : State). Verified (k x)) led.1 led.2) in (
          later.0,
          later.1,
          λ before. (
            h,
            pick_true _ _ _ can_run ∙ ap (λ (x : State). record { guide = going r.table (sensed lim r.table a) rest x; told = Do a }) (pick_true _ _ _ senses),
            record {
              allowed = may;
              read = λ _ bytes is_true. answered_guided later.0 h bytes _ v (Kept (table_domain r.table) a v P)
                  (next_taken lim r.table (sensed lim r.table a) rest s v bytes (g.agree v g.actual) is_true) (later.2 h);
              done = λ off. clash senses off;
            },
          ),
          record { allowed = may; read = λ _. later.3; done = λ off. clash senses off },
        )

    -- It does not: nothing is read, and the worlds move.
    done_on : sensing r.table a ≡ false → Goes_on
    unfolding outcome met state_done asked_for table_domain each_reading told_all
    done_on off =
        let u = state_after r.table a s in
        let k = walk (table_step r.table) rest (judged r) in
        let d = table_domain r.table in
        let is_single : outcome r.table a s ≡ single u = pick_false _ _ _ off in
        let moves : (w : World) → Right w s → Right (d.moved a w) u =
        subst (λ (o : Outcome State). SomeState o (λ x. (w : World) → Right w s → Right (d.moved a w) x)) is_single ((table_sound r.table).moves a s (outcome r.table a s) (does_lead r.table a s can_run) off) in
        let h = going r.table [] rest u in
        let possible : Possible r.table (d.moved a v) (Moved d a P) u =
        record {
          agree = λ w m. subst (λ (x : World). Right x u) (sym m.3) (moves m.0 (g.agree m.0 m.1));
          actual = (v, g.actual, may v g.actual, refl);
        } in
        let later = onward-n rest few on u (after_length r.table a s ∙ sized) (d.moved a v) (Moved d a P) possible
        (subst (λ (o : Outcome State). Verified (each_reading o k)) is_single each_fine) in (
          later.0,
          later.1,
          λ before. (
            h,
            pick_true _ _ _ can_run
                ∙ ap (λ (x : State). record { guide = going r.table (sensed lim r.table a) rest x; told = Do a }) (pick_false _ _ _ off)
                ∙ ap (λ (fs : List ℕ). record { guide = going r.table fs rest u; told = Do a }) (none_sensed lim r.table a off),
            record {
              allowed = may;
              read = λ senses. clash senses off;
              done = λ _ bytes is_true. answered_guided later.0 h bytes _ (d.moved a v) (Moved d a P)
                  (next_taken lim r.table [] rest u (d.moved a v) bytes (possible.agree _ possible.actual) is_true) (later.2 h);
            },
          ),
          record { allowed = may; read = λ senses. clash senses off; done = λ _. later.3 },
        )

    act_on : Goes_on
    act_on = by-test (sensing r.table a) read_on done_on

  -- WHATEVER COMES NEXT.
  by_next : (n m : ℕ) → m ≤ n → ((i : ℕ) → n ≡ suc i → Onward i) → (s : State) → length s ≡ lim.state → (v : World) (P : Worlds World) (g : Possible r.table v P s) (x : Ahead) (R : List ℕ → Type 0)
      → LedTo r.table (judged r) s v P g x m R → Goes n v P (λ h. met lim r.table h s x) R
  unfolding met
  by_next n m few later s sized v P g the_end R led = ([], omega arith, λ h. (s, refl, end_reached r s v P g led.0), led.1)
  by_next zero m few later s sized v P g (an_action a rest) R led = absurd (omega (arith, few, led.2))
  by_next (suc n) m few later s sized v P g (an_action a rest) R led =
      let w = act_on n (later n refl) led.0 a rest (omega (arith, few, led.2)) led.3 s sized v P g led.1 in
      (a ∷ w.0, omega (arith, w.1), w.2, led.4 w.0 w.3)
  by_next n m few later s sized v P g no_branch R led = absurd led

  onward : (n : ℕ) → Onward n
  onward zero b few on s sized v P g is_fine =
      by_next zero (most_items b) few (λ i q. absurd (omega (arith, q))) s sized v P g (ahead s b) _ (ahead_led r.table (judged r) s v P g b on is_fine)
  onward (suc n) b few on s sized v P g is_fine =
      by_next (suc n) (most_items b) few (λ i q. subst Onward (suc_inj q) (onward n)) s sized v P g (ahead s b) _ (ahead_led r.table (judged r) s v P g b on is_fine)

-- THEOREM 7.
pub guided : (lim : Limits) (request : List ℕ) (budget : ℕ) → (start lim request budget).answer.number ≡ Limits.verified
    → (r : Request) × (e : ℕ) × (settled lim request ≡ got r e)
    × ((v : World) → Facts r.table v
    → (acts : List ℕ) × (length acts ≤ lim.items) × Guided lim r.table acts (ToldReached r) (start lim request budget).guide [] v (Facts r.table)
    × RunsExactly (table_domain r.table) r.plan acts v (Facts r.table))
unfolding walked told_all
guided lim request budget starts =
    let b = begun lim request budget starts in
    let r = b.says in
    let passed = settled_is lim request r b.end b.settles in
    let first = first_state lim r.table in (
      r,
      b.end,
      b.settles,
      λ v facts.
          let g : Possible r.table v (Facts r.table) first = record { agree = λ w h. first_right lim r.table w h; actual = facts } in
          let w = onward lim r lim.items r.plan (read_few lim request r b.end passed.reads)
          (subst (λ (p : List (List ℕ) → Bool). OnConditions (λ cs. p cs ≡ true) r.plan) (fun_ext same_all_exclusive) (fit r.plan passed.no_overlap))
          first (first_length lim r.table) v (Facts r.table) g b.fine in (
            w.0,
            w.1,
            subst (λ (h : Guide). Guided lim r.table w.0 (ToldReached r) h [] v (Facts r.table)) (sym b.guide_is)
                (answered_guided lim r w.0 (going r.table [] r.plan first) [] _ v (Facts r.table)
                (next_taken lim r.table [] r.plan first v [] (g.agree v facts) tt) (w.2 (going r.table [] r.plan first))),
            w.3,
          ),
    )
