-- A guide that started refuses a call with 41 or 42 and no other number, whatever the readings were: where these have the right number and none is against what is known, the state that
-- is told them is one that the walk's readings lead to, so the walk is verified from there. By induction on the calls. Assumes nothing.
use Prim.Native.Nat.{ℕ, ◌+◌}
use native.Mathlib.Omega.{arith}
use mathlib.Core.Path.{◌≡◌, refl, sym, ◌∙◌, subst, subst₂, fun_ext}
use mathlib.Core.Bool.{Bool, true, false}
use mathlib.Core.List.{List, [], ◌∷◌}
use mathlib.Core.Logic.{◌⊎◌, inl, inr}
use lib.ListN.{length, get_or}
use borrow.Author.Tests.{eqb-true, eqb-false}
use Rattle.meaning.specs.declared.Answer.{Answer}
use Rattle.meaning.specs.Limits
use Rattle.meaning.specs.Limits.{Limits}
use Rattle.meaning.specs.Literals.{says_true}
use Rattle.meaning.specs.Requests.{Table, Sequence}
use Rattle.meaning.specs.Lines.{sensing}
use Rattle.meaning.specs.States.{State, Outcome, known, told, told_all, first_state, readings, unknown_sensed, outcome}
use Rattle.meaning.specs.Walk.{Walked, Verified, each_reading, run_action, walk, table_step, judged, walked}
use Rattle.meaning.specs.Worlds.{Worlds, World}
use Rattle.meaning.specs.Values.{flags}
use Rattle.meaning.specs.ValueStates.{is_known}
use Rattle.guidance.specs.declared.Told.TheVariants.{Refused}
use Rattle.guidance.specs.Guides.{wrong_number, against_known, of_guide, Guide, refusing, going, ended, Turn, Ahead, the_end, an_action, no_branch, ahead, sensed, literals_read, against, state_done, stays, met, take_over, next, start, after_calls}
use Rattle.meaning.proofs.TestLaws.{by-test, pick_true, pick_false}
use Rattle.meaning.proofs.PickLaws.{pick_has}
use Rattle.meaning.proofs.StateLaws.{known_true}
use Rattle.meaning.proofs.WalkLaws.{OnConditions}
use Rattle.meaning.proofs.SettledLaws.{settled_is, fit}
use Rattle.meaning.proofs.Sound.{reading_verified}
use Rattle.meaning.proofs.ValueSound.{Exclusive}
use Rattle.meaning.proofs.TwoValues.{valued, valued_within, same_all_exclusive}
use Rattle.demands.proofs.ListedStates.{Marked, told_marked, state_marked, after_marked}
use Rattle.demands.proofs.GuideReadings.{Right, sensed_led, none_sensed}
use Rattle.demands.proofs.GuideSteps.{Possible, LedTo, ahead_led}
use Rattle.demands.proofs.GuideAnswers.{begun, do_not_refused, done_not_refused, same_answer}
use Rattle.demands.proofs.GuideSound.{ran}

-- A WORLD in which a state of marks 0, 1 and 2 is right: what is not known true is false there.
true_known : State → World
true_known s f = known s (says_true f)

true_known_right : (lim : Limits) (s : State) → Marked lim s → Right (true_known s) s
unfolding true_known is_known valued
true_known_right lim s marked = record {
  within = valued_within (true_known s);
  right = λ f v e.
      let mark = get_or s f Limits.unknown_mark in
      let is : mark ≡ v + 1 = eqb-true mark (v + 1) e in
      by-test (known s (says_true f))
      (λ up. pick_true _ _ _ up ∙ (let one : mark ≡ Limits.true_mark = eqb-true _ _ (sym (known_true s f) ∙ up) in omega (arith, is, one)))
      (λ other. pick_false _ _ _ other ∙ (let not_1 : mark ≡ Limits.true_mark → ⊥ = eqb-false _ _ (sym (known_true s f) ∙ other) in omega (arith, is, not_1, marked.small f)));
}

told_all_marked : (lim : Limits) (ls : List ℕ) (s : State) → Marked lim s → Marked lim (told_all ls s)
unfolding told_all
told_all_marked lim [] s marked = marked
told_all_marked lim (l ∷ ls) s marked = told_all_marked lim ls (told l s) (told_marked lim l s marked)

module _ (lim : Limits) (k : State → Walked State) where
  abbrev Apart : List (List ℕ) → Type 0
  Apart = Exclusive flags

  -- WHAT IS KEPT. A guide on its way is where the walk is verified from, with whatever readings are taken over.
  record KeptGoing (t : Table) (fs : List ℕ) (b : Sequence ℕ) (s : State) : Type 0 where
    marked : Marked lim s
    apart : OnConditions Apart b
    onward : (bytes : List ℕ) → length bytes ≡ length fs → against s (literals_read fs bytes) ≡ false → Verified (walk (table_step t) b k (told_all (literals_read fs bytes) s))

  abbrev KeptUp : Guide → Type 0
  KeptUp (refusing x) = ⊥
  KeptUp (going t fs b s) = KeptGoing t fs b s
  KeptUp (ended s) = Unit {0}

  -- A turn keeps it, and is refused with 41 or 42 alone.
  record Keeps (turn : Turn) : Type 0 where
    guide : KeptUp turn.guide
    refused : (x : Answer) → turn.told ≡ Refused x → (x ≡ of_guide wrong_number) ⊎ (x ≡ of_guide against_known)

  stays_41 : (g : Guide) → KeptUp g → Keeps (stays g wrong_number)
  unfolding stays
  stays_41 g kept = record { guide = kept; refused = λ x q. inl (sym (same_answer _ x q)) }

  stays_42 : (g : Guide) → KeptUp g → Keeps (stays g against_known)
  unfolding stays
  stays_42 g kept = record { guide = kept; refused = λ x q. inr (sym (same_answer _ x q)) }

  -- AN ACTION that the walk runs from a state, and the guide once it is answered.
  act_kept : (t : Table) (p a : ℕ) (rest : Sequence ℕ) (s : State) → Marked lim s → OnConditions Apart rest → Verified (run_action (table_step t) p a (walk (table_step t) rest k) s)
      → KeptGoing t (sensed lim t a) rest (state_done t a s)
  unfolding state_done outcome each_reading told_all literals_read
  act_kept t p a rest s marked apart runs =
      let j = walk (table_step t) rest k in
      let each = (ran t p a j s runs).1 in
      by-test (sensing t a)
      (λ on.
      subst (KeptGoing t (sensed lim t a) rest) (sym (pick_true _ _ _ on)) (record {
        marked = marked;
        apart = apart;
        onward = λ bytes long free.
            let led = reading_verified (readings (unknown_sensed t a s) s) j (λ u. u ≡ told_all (literals_read (sensed lim t a) bytes) s)
            (subst (λ (o : Outcome State). Verified (each_reading o j)) (pick_true _ _ _ on) each) (sensed_led lim t a s marked.sized bytes long free) in
            subst (λ (u : State). Verified (j u)) led.1 led.2;
      }))
      (λ off.
      subst₂ (λ fs u. KeptGoing t fs rest u) (sym (none_sensed lim t a off)) (sym (pick_false _ _ _ off)) (record {
        marked = after_marked lim t a s marked;
        apart = apart;
        onward = λ bytes long free. subst (λ (o : Outcome State). Verified (each_reading o j)) (pick_false _ _ _ off) each;
      }))

  -- WHATEVER COMES NEXT.
  met_kept : (t : Table) (g : Guide) (s : State) → Marked lim s → (v : World) (P : Worlds World) (possible : Possible t v P s) (x : Ahead) (m : ℕ) (R : List ℕ → Type 0)
      → LedTo t k s v P possible x m R → Keeps (met lim t g s x)
  unfolding met
  met_kept t g s marked v P possible the_end m R led = record { guide = tt; refused = λ x q. absurd (done_not_refused x q) }
  met_kept t g s marked v P possible (an_action a rest) m R led =
      subst Keeps (sym (pick_true _ _ _ (ran t led.0 a (walk (table_step t) rest k) s led.1).0))
      (record { guide = act_kept t led.0 a rest s marked led.3 led.1; refused = λ x q. absurd (do_not_refused a x q) })
  met_kept t g s marked v P possible no_branch m R led = absurd led

  -- A CALL.
  next_kept : (g : Guide) → KeptUp g → (bytes : List ℕ) → Keeps (next lim g bytes)
  unfolding next take_over
  next_kept (refusing x) kept bytes = absurd kept
  next_kept (going t fs b s) kept bytes =
      pick_has Keeps _ _ _
      (λ q. pick_has Keeps _ _ _ (λ _. stays_42 (going t fs b s) kept) (λ free.
      let u = told_all (literals_read fs bytes) s in
      let marked = told_all_marked lim (literals_read fs bytes) s kept.marked in
      let possible : Possible t (true_known u) (λ w. w ≡ true_known u) u = record { agree = λ w is. subst (λ (x : World). Right x u) (sym is) (true_known_right lim u marked); actual = refl } in
      met_kept t (going t fs b s) u marked (true_known u) (λ w. w ≡ true_known u) possible (ahead u b) _ _
      (ahead_led t k u (true_known u) (λ w. w ≡ true_known u) possible b kept.apart (kept.onward bytes (eqb-true _ _ q) free))))
      (λ _. stays_41 (going t fs b s) kept)
  next_kept (ended s) kept bytes = record { guide = tt; refused = λ x q. absurd (done_not_refused x q) }

  calls_kept : (g : Guide) → KeptUp g → (calls : List (List ℕ)) → KeptUp (after_calls lim g calls)
  unfolding after_calls
  calls_kept g kept [] = kept
  calls_kept g kept (c ∷ cs) = calls_kept (next lim g c).guide (next_kept g kept c).guide cs

-- A GUIDE THAT STARTED.
pub refused_with : (lim : Limits) (request : List ℕ) (budget : ℕ) → (start lim request budget).answer.number ≡ Limits.verified → (calls : List (List ℕ)) (bytes : List ℕ) (x : Answer)
    → (next lim (after_calls lim (start lim request budget).guide calls) bytes).told ≡ Refused x → (x ≡ of_guide wrong_number) ⊎ (x ≡ of_guide against_known)
unfolding walked told_all literals_read first_state
refused_with lim request budget starts calls bytes =
    let b = begun lim request budget starts in
    let r = b.says in
    let passed = settled_is lim request r b.end b.settles in
    let first : KeptUp lim (judged r) (going r.table [] r.plan (first_state lim r.table)) =
    record {
      marked = state_marked lim r.table.facts;
      apart = subst (λ (p : List (List ℕ) → Bool). OnConditions (λ cs. p cs ≡ true) r.plan) (fun_ext same_all_exclusive) (fit r.plan passed.no_overlap);
      onward = λ bytes long free. b.fine;
    } in
    (next_kept lim (judged r) _ (calls_kept lim (judged r) (start lim request budget).guide (subst (KeptUp lim (judged r)) (sym b.guide_is) first) calls) bytes).refused
