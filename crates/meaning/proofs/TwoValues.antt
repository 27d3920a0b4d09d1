-- The format's requests are the instance with two values: what States, Refusals, Walk and Worlds define is what Values defines for `flags`.
-- By the two literals of a fluent: the mark of each is its value and 1 more, and the values are 0 and 1. Assumes nothing.
use Prim.Native.Nat.{ℕ, ◌+◌, ◌<◌}
use native.Mathlib.Omega.{arith}
use native.Mathlib.Decide.{ℕ_discrete}
use mathlib.Core.Path.{◌≡◌, refl, sym, ◌∙◌, ap, ap₂, subst, fun_ext}
use mathlib.Core.Bool.{Bool, true, false, false≢true}
use mathlib.Core.List.{List, [], ◌∷◌, map}
use mathlib.Core.Logic.{inl, inr, ⊎_elim}
use lib.ListN.{length, get_or, set, length-set, length-replicate}
use lib.Seq.{get_or-set_same, get_or-set_other, ext_get_or}
use lib.Dec.{eqb}
use borrow.Author.Tests.{eqb-true, eq-eqb, ne_eqb}
use Rattle.meaning.specs.Tests.{both, either, fails, pick, some_of, each_of, those_of, Has}
use Rattle.meaning.specs.Limits
use Rattle.meaning.specs.Limits.{Limits}
use Rattle.meaning.specs.Literals.{says_true, says_false, fluent_of, complement, among, exclusive}
use Rattle.meaning.specs.Requests.{Effect, Executability, Knowledge, Table, Entry, Request}
use Rattle.meaning.specs.Refusals.{clashing, runs_with, contradictory, all_exclusive}
use Rattle.meaning.specs.Lines.{effects_of, executability_of, knowledge_of, allowed, given, sensing, senses}
use Rattle.meaning.specs.States.{State, Outcome, fork, mark_of, known, possible, known_whether, told, told_all, state_of, first_state, can_be_run, known_after, mark_after, marks_after, state_after, unknown_from, unknown_sensed, readings, outcome}
use Rattle.meaning.specs.Walk.{table_does, table_step, first_missed, missed_in, judged, walked, guarded_step, walked_guarded}
use Rattle.meaning.specs.Worlds.{World, holds, may_be_run, moved, shown, table_domain}
use Rattle.meaning.specs.Values
use Rattle.meaning.specs.ValueStates
use Rattle.meaning.specs.ValueWorlds
use Rattle.meaning.specs.Values.{flags, numbers, first_such, values_of, fits, set_by, disagree}
use Rattle.meaning.specs.ValueStates.{mark_left, is_known, each_value, known_as}
use Rattle.meaning.proofs.RangeLaws.{Consistent}
use Rattle.meaning.proofs.TestLaws.{by-test, clash, same_test, both_left, both_right, both_true, either_left, either_right, either_split, fails_true, fails_false, pick_true, pick_false, some_has, has_some, each_has, has_each, map_same, same_map}
use Rattle.meaning.proofs.LiteralLaws.{positive_true, positive_false, fluent_true, fluent_false, complement_true, complement_false, complement_twice, by_literal, one_of_two, fluent_complement, same_fluent, among_has, has_among}
use Rattle.meaning.proofs.StateLaws.{mark_true, mark_false, known_true, known_false, nothing_told, unknown_mark}
use Rattle.meaning.proofs.ToldLaws.{either_none, state_length}
use Rattle.meaning.proofs.Sound.{Seen}
use Rattle.meaning.proofs.ValueLaws.{numbered_at, numbered_length}

-- THE TWO VALUES.
some_value : (p : ℕ → Bool) (f : ℕ) → some_of p (values_of flags f) ≡ either (p 0) (p 1)
unfolding some_of values_of numbers
some_value p f = ap (either (p 0)) (either_none (p 1))

pub sets_true : (f : ℕ) → flags.sets (says_true f) ≡ 0
sets_true f = pick_true _ _ _ (positive_true f)

pub sets_false : (f : ℕ) → flags.sets (says_false f) ≡ 1
sets_false f = pick_false _ _ _ (positive_false f)

says_0 : (f v : ℕ) → flags.satisfied (says_true f) v ≡ eqb v 0
says_0 f v = pick_true _ _ _ (positive_true f)

says_not_0 : (f v : ℕ) → flags.satisfied (says_false f) v ≡ fails (eqb v 0)
says_not_0 f v = pick_false _ _ _ (positive_false f)

-- A literal sets a value that satisfies it, and its complement another.
sets_itself : (l : ℕ) → flags.satisfied l (flags.sets l) ≡ true
sets_itself =
    by_literal (λ l. flags.satisfied l (flags.sets l) ≡ true)
    (λ f. ap (flags.satisfied (says_true f)) (sets_true f) ∙ says_0 f 0)
    (λ f. ap (flags.satisfied (says_false f)) (sets_false f) ∙ says_not_0 f 1 ∙ fails_false _ refl)

sets_other : (l : ℕ) → flags.sets l ≡ flags.sets (complement l) → ⊥
sets_other =
    by_literal (λ l. flags.sets l ≡ flags.sets (complement l) → ⊥)
    (λ f q. let e : ◌≡◌ {A = ℕ} 0 1 = sym (sets_true f) ∙ q ∙ ap flags.sets (complement_true f) ∙ sets_false f in omega arith)
    (λ f q. let e : ◌≡◌ {A = ℕ} 1 0 = sym (sets_false f) ∙ q ∙ ap flags.sets (complement_false f) ∙ sets_true f in omega arith)

complement_satisfied : (l v : ℕ) → flags.satisfied l v ≡ true → flags.satisfied (complement l) v ≡ true → ⊥
complement_satisfied =
    by_literal (λ l. (v : ℕ) → flags.satisfied l v ≡ true → flags.satisfied (complement l) v ≡ true → ⊥)
    (λ f v h k. clash {C = ⊥} (sym (says_0 f v) ∙ h) (fails_true _ (sym (says_not_0 f v) ∙ subst (λ (l : ℕ). flags.satisfied l v ≡ true) (complement_true f) k)))
    (λ f v h k. clash {C = ⊥} (sym (says_0 f v) ∙ subst (λ (l : ℕ). flags.satisfied l v ≡ true) (complement_false f) k) (fails_true _ (sym (says_not_0 f v) ∙ h)))

-- Which literal it is shows in its fluent and its value.
same_literal : (k l : ℕ) → eqb k l ≡ both (eqb (fluent_of k) (fluent_of l)) (eqb (flags.sets l) (flags.sets k))
same_literal k l =
    same_test _ _
    (λ e. let q : k ≡ l = eqb-true k l e in both_true _ _ (eq-eqb _ _ (ap fluent_of q)) (eq-eqb _ _ (ap flags.sets (sym q))))
    (λ e. ⊎_elim (λ q. eq-eqb k l q) (λ q. absurd (sets_other l (eqb-true _ _ (both_right _ _ e) ∙ ap flags.sets q))) (same_fluent k l (eqb-true _ _ (both_left _ _ e))))

other_literal : (k l : ℕ) → eqb k (complement l) ≡ both (eqb (fluent_of k) (fluent_of l)) (fails (eqb (flags.sets l) (flags.sets k)))
other_literal k l =
    same_test _ _
    (λ e.
    let q : k ≡ complement l = eqb-true k (complement l) e in
    both_true _ _ (eq-eqb _ _ (ap fluent_of q ∙ fluent_complement l)) (fails_false _ (ne_eqb _ _ (λ s. sets_other l (s ∙ ap flags.sets q)))))
    (λ e.
    ⊎_elim
    (λ q. clash (eq-eqb _ _ (ap flags.sets (sym q))) (fails_true _ (both_right _ _ e)))
    (λ q. eq-eqb k (complement l) q)
    (same_fluent k l (eqb-true _ _ (both_left _ _ e))))

-- PARTIAL STATES.
known_value_0 : (s : State) (f : ℕ) → eqb (get_or s f Limits.unknown_mark) Limits.true_mark ≡ is_known s f 0
unfolding is_known
known_value_0 s f = refl

known_value_1 : (s : State) (f : ℕ) → eqb (get_or s f Limits.unknown_mark) Limits.false_mark ≡ is_known s f 1
unfolding is_known
known_value_1 s f = refl

pub known_value : (s : State) (l : ℕ) → known s l ≡ is_known s (fluent_of l) (flags.sets l)
known_value s =
    by_literal (λ l. known s l ≡ is_known s (fluent_of l) (flags.sets l))
    (λ f. known_true s f ∙ rw (fluent_true f, sets_true f) (known_value_0 s f))
    (λ f. known_false s f ∙ rw (fluent_false f, sets_false f) (known_value_1 s f))

-- What is known of a fluent, by its two literals.
known_by_two : (s : State) (f : ℕ) (test : ℕ → Bool) → known_as flags s f test ≡ either (both (known s (says_true f)) (test 0)) (both (known s (says_false f)) (test 1))
unfolding known_as
known_by_two s f test = some_value _ f ∙ sym (rw (known_value s (says_true f), known_value s (says_false f), fluent_true f, fluent_false f, sets_true f, sets_false f))

first_only : (a b c d : Bool) → c ≡ true → d ≡ false → either (both a c) (both b d) ≡ a
unfolding either both
first_only true b c d p q = rw p
first_only false true c d p q = q
first_only false false c d p q = refl

second_only : (a b c d : Bool) → c ≡ false → d ≡ true → either (both a c) (both b d) ≡ b
unfolding either both
second_only true true c d p q = rw (p, q)
second_only true false c d p q = rw p
second_only false true c d p q = q
second_only false false c d p q = refl

known_0_only : (s : State) (f : ℕ) (test : ℕ → Bool) → test 0 ≡ true → test 1 ≡ false → known s (says_true f) ≡ known_as flags s f test
known_0_only s f test p q = sym (known_by_two s f test ∙ first_only _ _ _ _ p q)

known_1_only : (s : State) (f : ℕ) (test : ℕ → Bool) → test 0 ≡ false → test 1 ≡ true → known s (says_false f) ≡ known_as flags s f test
known_1_only s f test p q = sym (known_by_two s f test ∙ second_only _ _ _ _ p q)

pub same_known : (s : State) (l : ℕ) → known s l ≡ ValueStates.known flags s l
unfolding ValueStates.known fails
same_known s =
    by_literal (λ l. known s l ≡ known_as flags s (fluent_of l) (flags.satisfied l))
    (λ f. rw (fluent_true f) (known_0_only s f (flags.satisfied (says_true f)) (says_0 f 0) (says_0 f 1)))
    (λ f. rw (fluent_false f) (known_1_only s f (flags.satisfied (says_false f)) (says_not_0 f 0) (says_not_0 f 1)))

pub same_possible : (s : State) (l : ℕ) → possible s l ≡ ValueStates.possible flags s l
unfolding possible ValueStates.possible fails
same_possible s l =
    ap fails
    (by_literal (λ k. known s (complement k) ≡ known_as flags s (fluent_of k) (λ v. fails (flags.satisfied k v)))
    (λ f. rw (complement_true f, fluent_true f) (known_1_only s f (λ v. fails (flags.satisfied (says_true f) v)) (ap fails (says_0 f 0)) (ap fails (says_0 f 1))))
    (λ f. rw (complement_false f, fluent_false f) (known_0_only s f (λ v. fails (flags.satisfied (says_false f) v)) (ap fails (says_not_0 f 0)) (ap fails (says_not_0 f 1))))
    l)

both_yes : (b : Bool) → both b true ≡ b
unfolding both
both_yes true = refl
both_yes false = refl

pub same_known_whether : (s : State) (f : ℕ) → known_whether s f ≡ ValueStates.known_whether flags s f
unfolding known_whether ValueStates.known_whether
same_known_whether s f = sym (known_by_two s f (λ v. true) ∙ ap₂ either (both_yes _) (both_yes _))

pub same_told : (l : ℕ) (s : State) → told l s ≡ ValueStates.told (fluent_of l) (flags.sets l) s
unfolding told ValueStates.told
same_told l s = ap (set s (fluent_of l)) (mark_is l)
  where
    mark_is : (k : ℕ) → mark_of k ≡ flags.sets k + 1
    mark_is =
        by_literal (λ k. mark_of k ≡ flags.sets k + 1)
        (λ f. mark_true f ∙ ap (λ (v : ℕ). v + 1) (sym (sets_true f)))
        (λ f. mark_false f ∙ ap (λ (v : ℕ). v + 1) (sym (sets_false f)))

pub told_true : (f : ℕ) (s : State) → told (says_true f) s ≡ ValueStates.told f 0 s
told_true f s = same_told (says_true f) s ∙ rw (fluent_true f, sets_true f)

pub told_false : (f : ℕ) (s : State) → told (says_false f) s ≡ ValueStates.told f 1 s
told_false f s = same_told (says_false f) s ∙ rw (fluent_false f, sets_false f)

-- THE STEP.
pub known_is : known ≡ ValueStates.known flags
known_is = fun_ext (λ s. fun_ext (same_known s))

pub same_can_be_run : (t : Table) (a : ℕ) (s : State) → can_be_run t a s ≡ ValueStates.can_be_run flags t a s
unfolding can_be_run ValueStates.can_be_run
same_can_be_run t a s = ap (λ (test : ℕ → Bool). allowed test (executability_of t a)) (fun_ext (same_known s))

pub same_given : (test : ℕ → Bool) (es : List Effect) (l : ℕ) → given test es l ≡ set_by flags test (eqb (flags.sets l)) es (fluent_of l)
unfolding given set_by
same_given test es l = ap (λ (p : Effect → Bool). some_of p es) (fun_ext (λ (e : Effect). ap (λ (b : Bool). both b (each_of test e.body)) (same_literal e.literal l)))

pub same_given_other : (test : ℕ → Bool) (es : List Effect) (l : ℕ) → given test es (complement l) ≡ set_by flags test (λ u. fails (eqb (flags.sets l) u)) es (fluent_of l)
unfolding given set_by
same_given_other test es l = ap (λ (p : Effect → Bool). some_of p es) (fun_ext (λ (e : Effect). ap (λ (b : Bool). both b (each_of test e.body)) (other_literal e.literal l)))

pub same_known_after : (es : List Effect) (s : State) (l : ℕ) → known_after es s l ≡ ValueStates.known_after flags es s (fluent_of l) (flags.sets l)
unfolding known_after ValueStates.known_after
same_known_after es s l =
    ap₂ both
    (ap₂ either (known_value s l) (same_given (known s) es l ∙ ap (λ (p : ℕ → Bool). set_by flags p (eqb (flags.sets l)) es (fluent_of l)) (fun_ext (same_known s))))
    (ap fails (same_given_other (possible s) es l ∙ ap (λ (p : ℕ → Bool). set_by flags p (λ u. fails (eqb (flags.sets l) u)) es (fluent_of l)) (fun_ext (same_possible s))))

pub same_mark_after : (es : List Effect) (s : State) (f : ℕ) → mark_after es s f ≡ ValueStates.mark_after flags es s f
unfolding mark_after ValueStates.mark_after values_of numbers first_such
same_mark_after es s f =
    rw (same_known_after es s (says_true f), same_known_after es s (says_false f), fluent_true f, fluent_false f, sets_true f, sets_false f)

same_marks_after : (es : List Effect) (s : State) (f : ℕ) (ms : List ℕ) → marks_after es s f ms ≡ map (ValueStates.mark_after flags es s) (numbers f (length ms))
unfolding marks_after numbers
same_marks_after es s f [] = refl
same_marks_after es s f (m ∷ ms) = ap₂ {C = List ℕ} (λ x xs. x ∷ xs) (same_mark_after es s f) (same_marks_after es s (f + 1) ms)

pub same_state_after : (t : Table) (a : ℕ) (s : State) → state_after t a s ≡ ValueStates.state_after flags t a s
unfolding state_after ValueStates.state_after
same_state_after t a s = same_marks_after (effects_of t a) s 0 s

same_unknown : (ks : List Knowledge) (s : State) (f : ℕ) (ms : List ℕ)
    → unknown_from ks s f ms ≡ those_of (λ (i : ℕ). both (senses ks i) (fails (ValueStates.known_whether flags s i))) (numbers f (length ms))
unfolding unknown_from numbers those_of
same_unknown ks s f [] = refl
same_unknown ks s f (m ∷ ms) = rw (same_unknown ks s (f + 1) ms, same_known_whether s f)

pub same_unknown_sensed : (t : Table) (a : ℕ) (s : State) → unknown_sensed t a s ≡ ValueStates.unknown_sensed flags t a s
unfolding unknown_sensed ValueStates.unknown_sensed
same_unknown_sensed t a s = same_unknown (knowledge_of t a) s 0 s

pub same_readings : (fs : List ℕ) (s : State) → readings fs s ≡ ValueStates.readings flags fs s
unfolding readings ValueStates.readings values_of numbers each_value
same_readings [] s = refl
same_readings (f ∷ fs) s =
    ap₂ {C = Outcome State} (λ o p. fork o (λ _. p))
    (ap (readings fs) (told_true f s) ∙ same_readings fs (ValueStates.told f 0 s))
    (ap (readings fs) (told_false f s) ∙ same_readings fs (ValueStates.told f 1 s))

pub same_outcome : (t : Table) (a : ℕ) (s : State) → outcome t a s ≡ ValueStates.outcome flags t a s
unfolding outcome ValueStates.outcome
same_outcome t a s = rw (same_unknown_sensed t a s, same_readings (ValueStates.unknown_sensed flags t a s) s, same_state_after t a s)

pub same_table_does : (t : Table) (a : ℕ) (s : State) → table_does t a s ≡ ValueStates.table_does flags t a s
unfolding table_does ValueStates.table_does
same_table_does t a s = rw (same_can_be_run t a s, same_outcome t a s)

pub same_guarded_step : (t : Table) (gs : List Entry) → guarded_step t gs ≡ ValueStates.guarded_step flags t gs
unfolding guarded_step ValueStates.guarded_step
same_guarded_step t gs = λ i. record { does = fun_ext (λ (a : ℕ). fun_ext (same_table_does t a)) i; knows = known_is i; lacks = λ s. first_missed (known_is i s) gs }

pub same_table_step : (t : Table) → table_step t ≡ ValueStates.table_step flags t
unfolding table_step ValueStates.table_step guarded_step ValueStates.guarded_step first_missed
same_table_step t = same_guarded_step t []

-- THE WALK.
pub same_judged : (r : Request) (s : State) → judged r s ≡ ValueStates.judged flags r s
unfolding judged ValueStates.judged missed_in ValueStates.missed_in
same_judged r s =
    rw (fun_ext (same_known s), fun_ext (same_known_whether s))

pub same_walked : (r : Request) (s : State) → walked r s ≡ ValueStates.walked flags r s
unfolding walked ValueStates.walked
same_walked r s = rw (same_table_step r.table, fun_ext (same_judged r))

pub same_walked_guarded : (r : Request) (gs : List Entry) (s : State) → walked_guarded r gs s ≡ ValueStates.walked_guarded flags r gs s
unfolding walked_guarded ValueStates.walked_guarded
same_walked_guarded r gs s = rw (same_guarded_step r.table gs, fun_ext (same_judged r))

-- REFUSALS.
literal_fits : (b : List ℕ) (l v : ℕ) → Has b l → fits flags b (fluent_of l) v ≡ true → flags.satisfied l v ≡ true
unfolding fits either
literal_fits b l v m h =
    ⊎_elim (λ e. clash (eq-eqb (fluent_of l) (fluent_of l) refl) (fails_true _ e)) (λ e. e) (either_split _ _ (each_has _ b l h m))

value_fits : (b : List ℕ) (l : ℕ) → among (complement l) b ≡ false → fits flags b (fluent_of l) (flags.sets l) ≡ true
unfolding fits
value_fits b l no-c =
    has_each _ b λ k m.
    by-test (eqb (fluent_of k) (fluent_of l))
    (λ t. either_right _ _
    (⊎_elim (λ q. rw q (sets_itself l)) (λ q. clash (has_among (complement l) b (rw q at m)) no-c) (same_fluent k l (eqb-true _ _ t))))
    (λ u. either_left _ _ (fails_false _ u))

a_value : (l : ℕ) → Has (values_of flags (fluent_of l)) (flags.sets l)
unfolding values_of numbers
a_value l = ⊎_elim (λ q. inl (rw q (sets_true (fluent_of l)))) (λ q. inr (inl (rw q (sets_false (fluent_of l))))) (one_of_two l)

pub same_exclusive : (b c : List ℕ) → exclusive b c ≡ Values.exclusive flags b c
unfolding exclusive Values.exclusive disagree
same_exclusive b c =
    same_test _ _
    (λ e.
    let t = some_has _ b e in
    let l = t.0 in
    let m = among_has (complement l) c t.2 in
    has_some _ b l t.1
    (both_true _ _ (has_some _ c (complement l) m (eq-eqb _ _ (fluent_complement l)))
    (fails_false _ (by-test _
    (λ s.
    let v = some_has _ (values_of flags (fluent_of l)) s in
    absurd (complement_satisfied l v.0 (literal_fits b l v.0 t.1 (both_left _ _ v.2))
    (literal_fits c (complement l) v.0 m (subst (λ (f : ℕ). fits flags c f v.0 ≡ true) (sym (fluent_complement l)) (both_right _ _ v.2)))))
    (λ no-s. no-s)))))
    (λ e.
    let t = some_has _ b e in
    let l = t.0 in
    let k = some_has _ c (both_left _ _ t.2) in
    by-test (among (complement l) c)
    (λ here. has_some _ b l t.1 here)
    (λ no-c.
    by-test (among (complement l) b)
    (λ there.
    let q : k.0 ≡ l = ⊎_elim (λ s. s) (λ s. clash (has_among (complement l) c (rw s at k.1)) no-c) (same_fluent k.0 l (eqb-true _ _ k.2)) in
    has_some _ b (complement l) (among_has (complement l) b there) (has_among _ c (rw (complement_twice l) (rw q at k.1))))
    (λ no-b.
    clash (has_some _ (values_of flags (fluent_of l)) (flags.sets l) (a_value l) (both_true _ _ (value_fits b l no-b) (value_fits c l no-c)))
    (fails_true _ (both_right _ _ t.2)))))

same_runs_with : (t : Table) (a : ℕ) (b c : List ℕ) → runs_with t a b c ≡ Values.runs_with flags t a b c
unfolding runs_with Values.runs_with
same_runs_with t a b c =
    ap (λ (test : Executability → Bool). some_of test (executability_of t a))
    (fun_ext λ (x : Executability). ap₂ both (ap fails (same_exclusive b x.body)) (ap fails (same_exclusive c x.body)))

pub same_contradictory : (t : Table) (e g : Effect) → contradictory t e g ≡ Values.contradictory flags t e g
unfolding contradictory Values.contradictory clashing Values.clashing
same_contradictory t e g = rw (other_literal g.literal e.literal, same_exclusive e.body g.body, same_runs_with t e.action e.body g.body)

pub same_all_exclusive : (cs : List (List ℕ)) → all_exclusive cs ≡ Values.all_exclusive flags cs
unfolding all_exclusive Values.all_exclusive
same_all_exclusive [] = refl
same_all_exclusive (c ∷ cs) = ap₂ both (ap (λ (p : List ℕ → Bool). each_of p cs) (fun_ext (same_exclusive c))) (same_all_exclusive cs)

-- WORLDS. True is value 0, and false is value 1.
abbrev number : Bool → ℕ
number b = pick b (λ _. 0) (λ _. 1)

unfoldable pub valued : World → ValueWorlds.World
valued w f = number (w f)

pub valued_same : (w u : World) (f : ℕ) → valued w f ≡ valued u f → w f ≡ u f
unfolding valued pick
valued_same w u f = go (w f) (u f)
  where
    go : (a b : Bool) → number a ≡ number b → a ≡ b
    go true true e = refl
    go true false e = absurd (omega arith)
    go false true e = absurd (omega arith)
    go false false e = refl

is_0 : (b : Bool) → eqb (number b) 0 ≡ b
unfolding pick
is_0 true = refl
is_0 false = refl

pub same_holds : (w : World) (l : ℕ) → holds w l ≡ ValueWorlds.holds flags (valued w) l
unfolding holds ValueWorlds.holds valued
same_holds w l = rw (is_0 (w (fluent_of l)))

pub valued_within : (w : World) → ValueWorlds.Within flags (valued w)
unfolding valued pick
valued_within w f = go (w f)
  where
    go : (b : Bool) → number b < 2
    go true = omega arith
    go false = omega arith

-- A value set by one effect or the other, or kept.
set_to : (up down b : Bool) → number (pick up (λ _. true) (λ _. pick down (λ _. false) (λ _. b))) ≡ pick up (λ _. number true) (λ _. pick down (λ _. number false) (λ _. number b))
unfolding pick
set_to true down b = refl
set_to false true b = refl
set_to false false b = refl

pub same_moved : (t : Table) (a : ℕ) (w : World) → valued (moved t a w) ≡ ValueWorlds.moved flags t a (valued w)
unfolding moved ValueWorlds.moved valued values_of numbers first_such pick
same_moved t a w =
    fun_ext λ (f : ℕ).
    rw (fun_ext (same_holds w), same_given (ValueWorlds.holds flags (valued w)) (effects_of t a) (says_true f), same_given (ValueWorlds.holds flags (valued w)) (effects_of t a) (says_false f), fluent_true f, fluent_false f, sets_true f, sets_false f)
    (set_to (set_by flags (ValueWorlds.holds flags (valued w)) (eqb 0) (effects_of t a) f) (set_by flags (ValueWorlds.holds flags (valued w)) (eqb 1) (effects_of t a) f) (w f))

-- The domain of a table is seen through that of values.
pub same_domain : (t : Table) → Seen (table_domain t) (ValueWorlds.table_domain flags t) valued
unfolding table_domain ValueWorlds.table_domain may_be_run ValueWorlds.may_be_run shown ValueWorlds.shown valued
same_domain t =
    record {
      may_be_run = λ a w. ap (λ (test : ℕ → Bool). allowed test (executability_of t a)) (fun_ext (same_holds w));
      sensing = λ a. refl;
      shows = λ a w u e. same_map _ _ (knowledge_of t a) (λ k m. ap number (map_same (λ (j : Knowledge). w j.fluent) (λ (j : Knowledge). u j.fluent) (knowledge_of t a) k e m));
      moved = same_moved t;
      holds = λ w. fun_ext (same_holds w);
    }

-- THE FIRST STATE, of facts none of which stands beside its complement: the mark that telling leaves.
-- The mark of a fluent that is told true, told false, or left as it was.
abbrev marked : (t u : Bool) → (before : ℕ) → ℕ
marked t u before = pick t (λ _. Limits.true_mark) (λ _. pick u (λ _. Limits.false_mark) (λ _. before))

true_stays : (t u : Bool) → u ≡ false → marked t u Limits.true_mark ≡ Limits.true_mark
unfolding pick
true_stays true u e = refl
true_stays false true e = absurd (false≢true (sym e))
true_stays false false e = refl

false_stays : (t u : Bool) → t ≡ false → marked t u Limits.false_mark ≡ Limits.false_mark
unfolding pick
false_stays true u e = absurd (false≢true (sym e))
false_stays false true e = refl
false_stays false false e = refl

true≢false : (f : ℕ) → says_true f ≡ says_false f → ⊥
unfolding says_true says_false
true≢false f q = omega arith

told_mark : (ls : List ℕ) (s : State) (f : ℕ) → f < length s → Consistent ls
    → get_or (told_all ls s) f Limits.unknown_mark ≡ marked (among (says_true f) ls) (among (says_false f) ls) (get_or s f Limits.unknown_mark)
unfolding told_all told among some_of pick either
told_mark [] s f near apart = refl
told_mark (l ∷ ls) s f near apart =
    told_mark ls (told l s) f (rw (length-set s (fluent_of l) (mark_of l)) near) (λ k m n. apart k (inr m) (inr n))
    ∙ elim (ℕ_discrete f (fluent_of l)) [
      | yes same ↦ ⊎_elim (λ q. is_true (q ∙ ap says_true (sym same))) (λ q. is_false (q ∙ ap says_false (sym same))) (one_of_two l)
      | no other ↦ rw (
        ne_eqb (says_true f) l (λ q. other (sym (fluent_true f) ∙ ap fluent_of q)),
        ne_eqb (says_false f) l (λ q. other (sym (fluent_false f) ∙ ap fluent_of q)),
        get_or-set_other s (fluent_of l) f (mark_of l) Limits.unknown_mark other,
      )
    ]
  where
    after : ℕ
    after = marked (among (says_true f) ls) (among (says_false f) ls) (get_or (told l s) f Limits.unknown_mark)

    whole : ℕ
    whole = marked (among (says_true f) (l ∷ ls)) (among (says_false f) (l ∷ ls)) (get_or s f Limits.unknown_mark)

    absent : (k : ℕ) → k ≡ complement l → among k ls ≡ false
    absent k q = by-test (among k ls) (λ t. absurd (apart l (inl refl) (inr (subst (Has ls) q (among_has k ls t))))) (λ u. u)

    is_true : l ≡ says_true f → after ≡ whole
    is_true q =
        ap (marked (among (says_true f) ls) (among (says_false f) ls)) (rw (q, fluent_true f, mark_true f) (get_or-set_same s f Limits.true_mark Limits.unknown_mark near))
        ∙ true_stays (among (says_true f) ls) (among (says_false f) ls) (absent (says_false f) (sym (complement_true f) ∙ ap complement (sym q)))
        ∙ sym (rw (eq-eqb (says_true f) l (sym q)))

    is_false : l ≡ says_false f → after ≡ whole
    is_false q =
        let no_true = absent (says_true f) (sym (complement_false f) ∙ ap complement (sym q)) in
        ap (marked (among (says_true f) ls) (among (says_false f) ls)) (rw (q, fluent_false f, mark_false f) (get_or-set_same s f Limits.false_mark Limits.unknown_mark near))
        ∙ false_stays (among (says_true f) ls) (among (says_false f) ls) no_true
        ∙ sym (rw (ne_eqb (says_true f) l (λ p. true≢false f (p ∙ q)), no_true, eq-eqb (says_false f) l (sym q)))

-- The value of a literal fits a list exactly where the list has not its complement.
fits_unless : (b : List ℕ) (l : ℕ) → fits flags b (fluent_of l) (flags.sets l) ≡ fails (among (complement l) b)
fits_unless b l =
    same_test _ _
    (λ h. fails_false _ (by-test _
    (λ t. absurd (complement_satisfied l (flags.sets l) (sets_itself l)
    (literal_fits b (complement l) (flags.sets l) (among_has (complement l) b t) (subst (λ (f : ℕ). fits flags b f (flags.sets l) ≡ true) (sym (fluent_complement l)) h))))
    (λ u. u)))
    (λ n. value_fits b l (fails_true _ n))

left_mark : (t u : Bool) → (t ≡ true → u ≡ true → ⊥)
    → mark_left (pick (fails u) (λ _. 0 ∷ pick (fails t) (λ _. 1 ∷ []) (λ _. [])) (λ _. pick (fails t) (λ _. 1 ∷ []) (λ _. []))) ≡ marked t u Limits.unknown_mark
unfolding mark_left pick fails
left_mark true true no_both = absurd (no_both refl refl)
left_mark true false no_both = refl
left_mark false true no_both = refl
left_mark false false no_both = refl

same_mark : (ls : List ℕ) (n f : ℕ) → f < n → Consistent ls → get_or (told_all ls (nothing_told n)) f Limits.unknown_mark ≡ mark_left (those_of (fits flags ls f) (values_of flags f))
unfolding values_of numbers those_of
same_mark ls n f near apart =
    told_mark ls (nothing_told n) f (rw (length-replicate n Limits.unknown_mark) near) apart
    ∙ rw (unknown_mark n f) (sym (rw (fits_0, fits_1) (left_mark (among (says_true f) ls) (among (says_false f) ls) not_both)))
  where
    fits_0 : fits flags ls f 0 ≡ fails (among (says_false f) ls)
    fits_0 = rw (fluent_true f, sets_true f, complement_true f) at (fits_unless ls (says_true f))

    fits_1 : fits flags ls f 1 ≡ fails (among (says_true f) ls)
    fits_1 = rw (fluent_false f, sets_false f, complement_false f) at (fits_unless ls (says_false f))

    not_both : among (says_true f) ls ≡ true → among (says_false f) ls ≡ true → ⊥
    not_both t u = apart (says_true f) (among_has _ ls t) (subst (Has ls) (sym (complement_true f)) (among_has _ ls u))

pub same_first_state : (lim : Limits) (t : Table) → Consistent t.facts → first_state lim t ≡ ValueStates.first_state flags lim t
unfolding first_state state_of ValueStates.first_state
same_first_state lim t apart =
    ext_get_or Limits.unknown_mark (state_of lim t.facts) _
    (state_length lim t.facts ∙ sym (numbered_length _ 0 lim.state))
    (λ f h.
    let near : f < lim.state = rw (state_length lim t.facts) at h in
    same_mark t.facts lim.state f near apart ∙ sym (numbered_at _ lim.state f Limits.unknown_mark near))
