-- Readings that a guide takes over, where they are truthful: they are the literals that the true world has, none is against what is known, and the state that is
-- told them is one that the walk's readings lead to and agrees with every world that shows the same. By induction on the fluents. Assumes nothing.
use Prim.Native.Nat.{ℕ, zero, suc, ◌+◌, ◌≤◌}
use native.Mathlib.Omega.{arith}
use native.Mathlib.Nat.{suc_inj}
use mathlib.Core.Path.{◌≡◌, refl, sym, ◌∙◌, ap, ap₂, subst, subst₂}
use mathlib.Core.Bool.{Bool, true, false}
use mathlib.Core.List.{List, [], ◌∷◌, map}
use mathlib.Core.Logic.{inl, inr, ⊎_elim}
use lib.ListN.{length, get_or, set}
use lib.Seq.{get_or-set_other, set-get_or}
use lib.Dec.{eqb}
use borrow.Author.Tests.{eqb-true, eq-eqb}
use Rattle.meaning.specs.Tests.{both, either, fails, pick, some_of, each_of, Has}
use Rattle.meaning.specs.Limits
use Rattle.meaning.specs.Limits.{Limits}
use Rattle.meaning.specs.Literals.{says_true, says_false, fluent_of, complement}
use Rattle.meaning.specs.Requests.{Knowledge, Table, Sequence}
use Rattle.meaning.specs.Lines.{knowledge_of, sensing, senses}
use Rattle.meaning.specs.States.{State, mark_of, known, known_whether, told, told_all, state_of, first_state, unknown_from, unknown_sensed, readings}
use Rattle.meaning.specs.Walk.{Steps, table_step, first_missed}
use Rattle.meaning.specs.Worlds.{World, holds, shown, table_domain, Facts}
use Rattle.meaning.specs.Values.{flags}
use Rattle.meaning.specs.ValueStates
use Rattle.meaning.specs.ValueStates.{is_known}
use Rattle.meaning.specs.ValueWorlds
use Rattle.guidance.specs.Guides.{going, ahead, sensed_from, sensed, literal_read, literals_read, against, met, take_over, next}
use Rattle.guidance.specs.Guided.{Truthful}
use Rattle.meaning.proofs.TestLaws.{by-test, clash, both_left, both_right, either_split, either_false, fails_true, fails_false, pick_true, pick_false, some_has, has_each, each_mapped, map_has, map_same}
use Rattle.meaning.proofs.PickLaws.{pick_has, has-picked}
use Rattle.meaning.proofs.LiteralLaws.{fluent_true, fluent_false, complement_true, complement_false, by_literal}
use Rattle.meaning.proofs.StateLaws.{nothing_told, unknown_mark}
use Rattle.meaning.proofs.Sound.{SomeState, SoundStep, seen_sound}
use Rattle.meaning.proofs.ValueSound.{Agrees, Exclusive, told_agrees, guarded_sound}
use Rattle.meaning.proofs.TwoValues.{sets_true, sets_false, valued, valued_within, same_told, same_table_step, same_domain}
use Rattle.demands.proofs.Meeting.{holds_true, holds_false, holds_apart}

-- A WORLD AND A STATE. Each value that the state knows is the world's.
abbrev pub Right : World → State → Type 0
Right w s = Agrees flags (valued w) s

-- The table's step is sound for such states.
pub table_sound : (t : Table) → SoundStep (table_step t) (table_domain t) (Exclusive flags) Right
unfolding ValueStates.table_step ValueStates.guarded_step first_missed
table_sound t =
    seen_sound (table_step t) (table_domain t) (ValueWorlds.table_domain flags t) valued (Exclusive flags) (Agrees flags) (same_domain t)
    (subst (λ (step : Steps State ℕ). SoundStep step (ValueWorlds.table_domain flags t) (Exclusive flags) (Agrees flags)) (sym (same_table_step t)) (guarded_sound flags t []))

pub known_right : (t : Table) (w : World) (s : State) → Right w s → (l : ℕ) → known s l ≡ true → holds w l ≡ true
unfolding table_step table_domain
known_right t w s g l k = (table_sound t).knows l w s g k

held_value : (w : World) (l : ℕ) → holds w l ≡ true → valued w (fluent_of l) ≡ flags.sets l
unfolding valued
held_value w =
    by_literal (λ l. holds w l ≡ true → valued w (fluent_of l) ≡ flags.sets l)
    (λ f. rw (fluent_true f, sets_true f, holds_true w f) (λ h. pick_true _ _ _ h))
    (λ f. rw (fluent_false f, sets_false f, holds_false w f) (λ h. pick_false _ _ _ (fails_true _ h)))

-- A state that is told what holds stays right.
told_right : (w : World) (l : ℕ) (s : State) → holds w l ≡ true → Right w s → Right w (told l s)
told_right w l s h g = subst (Agrees flags (valued w)) (sym (same_told l s)) (told_agrees flags (valued w) s (fluent_of l) (flags.sets l) (held_value w l h) g)

told_all_right : (w : World) (ls : List ℕ) (s : State) → each_of (holds w) ls ≡ true → Right w s → Right w (told_all ls s)
unfolding told_all each_of
told_all_right w [] s h g = g
told_all_right w (l ∷ ls) s h g = told_all_right w ls (told l s) (both_right _ _ h) (told_right w l s (both_left _ _ h) g)

nothing_right : (w : World) (n : ℕ) → Right w (nothing_told n)
unfolding is_known
nothing_right w n = record {
  within = valued_within w;
  right = λ f v e. absurd (omega (arith, sym (unknown_mark n f) ∙ eqb-true _ _ e));
}

-- The first state is right in every world that has the facts.
pub first_right : (lim : Limits) (t : Table) (w : World) → Facts t w → Right w (first_state lim t)
unfolding first_state state_of
first_right lim t w h = told_all_right w t.facts (nothing_told lim.state) h (nothing_right w lim.state)

-- THE LITERAL OF A FLUENT that a world has.
unfoldable pub true_literal : World → ℕ → ℕ
true_literal v f = pick (v f) (λ _. says_true f) (λ _. says_false f)

true_holds : (v w : World) (f : ℕ) → w f ≡ v f → holds w (true_literal v f) ≡ true
unfolding true_literal
true_holds v w f same =
    pick_has (λ (l : ℕ). holds w l ≡ true) (v f) _ _
    (λ t. holds_true w f ∙ same ∙ t)
    (λ u. holds_false w f ∙ fails_false _ (same ∙ u))

-- Those of several fluents, in a world that has the same of each.
true_all : (v w : World) (fs : List ℕ) → ((f : ℕ) → Has fs f → w f ≡ v f) → each_of (holds w) (map (true_literal v) fs) ≡ true
true_all v w fs same = each_mapped (true_literal v) (holds w) fs ∙ has_each _ fs (λ f m. true_holds v w f (same f m))

-- TRUTHFUL READINGS are these literals, one for each fluent.
read_literal : (v : World) (f b : ℕ) → v f ≡ fails (eqb b 0) → literal_read f b ≡ true_literal v f
unfolding literal_read true_literal fails
read_literal v f b is =
    by-test (eqb b 0)
    (λ t. pick_true _ _ _ t ∙ sym (pick_false _ _ _ (is ∙ rw t)))
    (λ u. pick_false _ _ _ u ∙ sym (pick_true _ _ _ (is ∙ rw u)))

truthful_literals : (v : World) (fs bytes : List ℕ) → Truthful v fs bytes → literals_read fs bytes ≡ map (true_literal v) fs
unfolding literals_read
truthful_literals v [] [] h = refl
truthful_literals v [] (b ∷ bs) h = absurd h
truthful_literals v (f ∷ fs) [] h = absurd h
truthful_literals v (f ∷ fs) (b ∷ bs) h = ap₂ {C = List ℕ} (λ l ls. l ∷ ls) (read_literal v f b h.0) (truthful_literals v fs bs h.1)

truthful_length : (v : World) (fs bytes : List ℕ) → Truthful v fs bytes → length bytes ≡ length fs
truthful_length v [] [] h = refl
truthful_length v [] (b ∷ bs) h = absurd h
truthful_length v (f ∷ fs) [] h = absurd h
truthful_length v (f ∷ fs) (b ∷ bs) h = ap suc (truthful_length v fs bs h.1)

-- None is against what is known.
none_against : (t : Table) (v : World) (s : State) → Right v s → (fs : List ℕ) → against s (map (true_literal v) fs) ≡ false
unfolding against
none_against t v s g fs =
    by-test (against s (map (true_literal v) fs))
    (λ some.
    let w = some_has _ (map (true_literal v) fs) some in
    let m = map_has (true_literal v) fs w.0 w.1 in
    absurd (holds_apart v w.0 (subst (λ (l : ℕ). holds v l ≡ true) (sym m.2) (true_holds v v m.0 refl)) (known_right t v s g _ w.2)))
    (λ none. none)

-- So they are taken over.
pub next_taken : (lim : Limits) (t : Table) (fs : List ℕ) (b : Sequence ℕ) (s : State) (v : World) (bytes : List ℕ) → Right v s → Truthful v fs bytes
    → next lim (going t fs b s) bytes
    ≡ met lim t (going t fs b s) (told_all (map (true_literal v) fs) s) (ahead (told_all (map (true_literal v) fs) s) b)
unfolding next take_over
next_taken lim t fs b s v bytes g true-ones =
    pick_true _ _ _ (eq-eqb _ _ (truthful_length v fs bytes true-ones))
    ∙ pick_false _ _ _ (ap (against s) (truthful_literals v fs bytes true-ones) ∙ none_against t v s g fs)
    ∙ ap (λ (ls : List ℕ). met lim t (going t fs b s) (told_all ls s) (ahead (told_all ls s) b)) (truthful_literals v fs bytes true-ones)

-- THE STATE THAT IS TOLD THEM. A literal that is known changes no mark.
known_again : (l : ℕ) (s u : State) → get_or s (fluent_of l) Limits.unknown_mark ≡ get_or u (fluent_of l) Limits.unknown_mark → known u l ≡ true → told l s ≡ s
unfolding told known
known_again l s u same k = ap (set s (fluent_of l)) (sym (same ∙ eqb-true _ _ k)) ∙ set-get_or s (fluent_of l) Limits.unknown_mark

-- Where it is known whether and the complement is not known, it is.
whether_known : (s : State) (l : ℕ) → known_whether s (fluent_of l) ≡ true → known s (complement l) ≡ false → known s l ≡ true
unfolding known_whether
whether_known s =
    by_literal (λ l. known_whether s (fluent_of l) ≡ true → known s (complement l) ≡ false → known s l ≡ true)
    (λ f. rw (fluent_true f, complement_true f) (λ k free. ⊎_elim (λ up. up) (λ down. clash down free) (either_split _ _ k)))
    (λ f. rw (fluent_false f, complement_false f) (λ k free. ⊎_elim (λ up. clash up free) (λ down. down) (either_split _ _ k)))

read_fluent : (f b : ℕ) → fluent_of (literal_read f b) ≡ f
unfolding literal_read
read_fluent f b = pick_has (λ (l : ℕ). fluent_of l ≡ f) (eqb b 0) _ _ (λ _. fluent_false f) (λ _. fluent_true f)

module _ (ks : List Knowledge) (first : State) where
  -- A state is among the readings of the unknown fluents where it is told readings of all, none of which is against the first state.
  abbrev Led : (unknown literals : List ℕ) → State → Type 0
  Led unknown ls s = SomeState (readings unknown s) (λ u. u ≡ told_all ls s)

  abbrev LedBy : (unknown all : List ℕ) → State → Type 0
  LedBy unknown all s = (bytes : List ℕ) → length bytes ≡ length all → against first (literals_read all bytes) ≡ false → Led unknown (literals_read all bytes) s

  -- From fluent f up it has the first one's marks.
  abbrev SameFrom : ℕ → State → Type 0
  SameFrom f s = (i : ℕ) → f ≤ i → get_or s i Limits.unknown_mark ≡ get_or first i Limits.unknown_mark

  told_same : (f : ℕ) (s : State) → SameFrom f s → (l : ℕ) → fluent_of l ≡ f → SameFrom (f + 1) (told l s)
  unfolding told
  told_same f s same l is i far = get_or-set_other s (fluent_of l) i (mark_of l) Limits.unknown_mark (λ q. omega (arith, q, is, far)) ∙ same i (omega (arith, far))

  -- An unknown fluent is read,
  unknown_led : (f : ℕ) (unknown all : List ℕ) (s : State) → SameFrom f s → ((u : State) → SameFrom (f + 1) u → LedBy unknown all u) → LedBy (f ∷ unknown) (f ∷ all) s
  unfolding readings told_all literals_read literal_read against some_of
  unknown_led f unknown all s same rest [] long free = absurd (omega (arith, long))
  unknown_led f unknown all s same rest (b ∷ bs) long free =
      let later : (l : ℕ) → fluent_of l ≡ f → Led unknown (literals_read all bs) (told l s) = λ l is. rest (told l s) (told_same f s same l is) bs (suc_inj long) (either_false _ _ free).1 in
      by-test (eqb b 0)
      (λ no_one. inr (subst (λ (l : ℕ). SomeState (readings unknown (told (says_false f) s)) (λ u. u ≡ told_all (literals_read all bs) (told l s))) (sym (pick_true _ _ _ no_one)) (later (says_false f) (fluent_false f))))
      (λ some. inl (subst (λ (l : ℕ). SomeState (readings unknown (told (says_true f) s)) (λ u. u ≡ told_all (literals_read all bs) (told l s))) (sym (pick_false _ _ _ some)) (later (says_true f) (fluent_true f))))

  -- and one that is known changes no mark.
  known_led : (f : ℕ) (unknown all : List ℕ) (s : State) → SameFrom f s → known_whether first f ≡ true → LedBy unknown all s → LedBy unknown (f ∷ all) s
  unfolding told_all literals_read against some_of
  known_led f unknown all s same k rest [] long free = absurd (omega (arith, long))
  known_led f unknown all s same k rest (b ∷ bs) long free =
      let here : fluent_of (literal_read f b) ≡ f = read_fluent f b in
      subst (λ (u : State). SomeState (readings unknown s) (λ x. x ≡ told_all (literals_read all bs) u))
      (sym (known_again (literal_read f b) s first (rw here (same f (omega arith))) (whether_known first (literal_read f b) (rw here k) (either_false _ _ free).0)))
      (rest bs (suc_inj long) (either_false _ _ free).1)

  led_from : (ms : List ℕ) (f : ℕ) (s : State) → SameFrom f s → LedBy (unknown_from ks first f ms) (sensed_from ks f (length ms)) s
  unfolding unknown_from sensed_from readings told_all literals_read both fails
  led_from [] f s same = λ bytes long free. refl
  led_from (m ∷ ms) f s same =
      let later : SameFrom (f + 1) s = λ i far. same i (omega (arith, far)) in
      let U = unknown_from ks first (f + 1) ms in
      let S = sensed_from ks (f + 1) (length ms) in
      by-test (senses ks f)
      (λ on. by-test (known_whether first f)
      (λ k. subst₂ (λ U S. LedBy U S s) (sym (pick_false _ _ _ (rw (on, k)))) (sym (pick_true _ _ _ on)) (known_led f U S s same k (led_from ms (f + 1) s later)))
      (λ n. subst₂ (λ U S. LedBy U S s) (sym (pick_true _ _ _ (rw (on, n)))) (sym (pick_true _ _ _ on)) (unknown_led f U S s same (led_from ms (f + 1)))))
      (λ off. subst₂ (λ U S. LedBy U S s) (sym (pick_false _ _ _ (rw off))) (sym (pick_false _ _ _ off)) (led_from ms (f + 1) s later))

-- Whatever the readings are, where their number is right and none is against what is known.
pub sensed_led : (lim : Limits) (t : Table) (a : ℕ) (s : State) → length s ≡ lim.state → (bytes : List ℕ) → length bytes ≡ length (sensed lim t a)
    → against s (literals_read (sensed lim t a) bytes) ≡ false → SomeState (readings (unknown_sensed t a s) s) (λ u. u ≡ told_all (literals_read (sensed lim t a) bytes) s)
unfolding unknown_sensed sensed
sensed_led lim t a s sized =
    subst (λ (n : ℕ). LedBy (knowledge_of t a) s (unknown_sensed t a s) (sensed_from (knowledge_of t a) 0 n) s) sized (led_from (knowledge_of t a) s s 0 s (λ i _. refl))

-- There are truthful ones in every world,
pub true_bytes : World → List ℕ → List ℕ
true_bytes v = map (λ (f : ℕ). pick (v f) (λ _. 1) (λ _. 0))

pub some_truthful : (v : World) (fs : List ℕ) → Truthful v fs (true_bytes v fs)
unfolding true_bytes pick fails
some_truthful v [] = tt
some_truthful v (f ∷ fs) = (says (v f), some_truthful v fs)
  where
    says : (x : Bool) → x ≡ fails (eqb (pick x (λ _. 1) (λ _. 0)) 0)
    says true = refl
    says false = refl

-- and so the state that is told the world's own is one that the walk's readings lead to.
pub true_led : (lim : Limits) (t : Table) (a : ℕ) (s : State) (v : World) → length s ≡ lim.state → Right v s
    → SomeState (readings (unknown_sensed t a s) s) (λ u. u ≡ told_all (map (true_literal v) (sensed lim t a)) s)
true_led lim t a s v sized g =
    let fs = sensed lim t a in
    let is = truthful_literals v fs (true_bytes v fs) (some_truthful v fs) in
    subst (λ (ls : List ℕ). SomeState (readings (unknown_sensed t a s) s) (λ u. u ≡ told_all ls s)) is
    (sensed_led lim t a s sized (true_bytes v fs) (truthful_length v fs (true_bytes v fs) (some_truthful v fs)) (ap (against s) is ∙ none_against t v s g fs))

-- EVERY WORLD THAT SHOWS THE SAME has the same of each fluent that is sensed.
sensed_is : (ks : List Knowledge) (f n i : ℕ) → Has (sensed_from ks f n) i → senses ks i ≡ true
unfolding sensed_from
sensed_is ks f zero i h = absurd h
sensed_is ks f (suc n) i h =
    has-picked (λ (fs : List ℕ). Has fs i) _ _ _ h
    (λ on m. ⊎_elim (λ q. rw q on) (λ k. sensed_is ks (f + 1) n i k) m)
    (λ _ k. sensed_is ks (f + 1) n i k)

shown_same : (t : Table) (a : ℕ) (w v : World) (f : ℕ) → shown t a w ≡ shown t a v → senses (knowledge_of t a) f ≡ true → w f ≡ v f
unfolding shown senses
shown_same t a w v f e s =
    let k = some_has _ (knowledge_of t a) s in
    let q : k.0.fluent ≡ f = eqb-true _ _ k.2 in
    ap w (sym q) ∙ map_same (λ (j : Knowledge). w j.fluent) (λ (j : Knowledge). v j.fluent) (knowledge_of t a) k.0 e k.1 ∙ ap v q

pub sensed_right : (lim : Limits) (t : Table) (a : ℕ) (s : State) (v w : World) → Right w s → (table_domain t).shows a w ≡ (table_domain t).shows a v
    → Right w (told_all (map (true_literal v) (sensed lim t a)) s)
unfolding table_domain sensed
sensed_right lim t a s v w g same =
    told_all_right w _ s (true_all v w (sensed lim t a) (λ f m. shown_same t a w v f same (sensed_is (knowledge_of t a) 0 lim.state f m))) g

-- AN ACTION THAT DOES NOT SENSE has no readings.
no_lines : (ks : List Knowledge) → some_of (λ (k : Knowledge). true) ks ≡ false → ks ≡ []
unfolding some_of either
no_lines [] e = refl
no_lines (k ∷ ks) e = clash refl e

none_from : (f n : ℕ) → sensed_from [] f n ≡ []
unfolding sensed_from senses some_of pick
none_from f zero = refl
none_from f (suc n) = none_from (f + 1) n

pub none_sensed : (lim : Limits) (t : Table) (a : ℕ) → sensing t a ≡ false → sensed lim t a ≡ []
unfolding sensing sensed
none_sensed lim t a off = ap (λ (ks : List Knowledge). sensed_from ks 0 lim.state) (no_lines (knowledge_of t a) off) ∙ none_from 0 lim.state
