-- It is enough to fill the open fluents of an action (FORMAT 22.22). A fluent that is unknown and in no body of the action changes neither whether the action can
-- be run nor, in both of its fillings together, what is known afterwards, so it need not be filled. By induction on the fluents, which stand once each.
-- Assumes nothing.
use Prim.Native.Nat.{ℕ, zero, suc, ◌+◌, ◌≤◌, ◌<◌}
use native.Mathlib.Omega.{arith}
use native.Mathlib.Decide.{dec_lt, ℕ_discrete}
use mathlib.Core.Path.{◌≡◌, refl, sym, ◌∙◌, ap, ap₂, subst}
use mathlib.Core.Bool.{Bool, true, false}
use mathlib.Core.List.{List, [], ◌∷◌, ◌++◌, map}
use mathlib.Core.Logic.{inl, inr, ⊎_elim}
use lib.ListN.{length, length-set}
use lib.Seq.{ext_get_or}
use lib.Dec.{eqb}
use borrow.Author.Tests.{eqb-false}
use Rattle.meaning.specs.Tests.{both, either, fails, some_of, each_of, those_of, Has}
use Rattle.meaning.specs.Limits
use Rattle.meaning.specs.Literals.{says_true, says_false, fluent_of, complement}
use Rattle.meaning.specs.Requests.{Effect, Executability, Table}
use Rattle.meaning.specs.Lines.{effects_of, executability_of, allowed, given}
use Rattle.meaning.specs.States.{State, mark_of, known, known_whether, possible, told, can_be_run, known_after, state_after}
use Rattle.meaning.specs.ByCases.{upward, fillings, complete, runs_by_cases, shared_mark, shared_marks, after_each, after_cases, in_body, in_bodies, open_fluents}
use Rattle.meaning.proofs.TestLaws.{by-test, both_none, both_all, both_same, both_crossed, either_false, pick_true, pick_false, each_append, each_mapped, has_each, each_mono, some_mono, those_has}
use Rattle.meaning.proofs.LiteralLaws.{fluent_true, fluent_false, fluent_complement, complement_true, complement_false, by_literal, one_of_two}
use Rattle.meaning.proofs.StateLaws.{unknown_far, after_length}
use Rattle.meaning.proofs.ToldLaws.{told_keeps, told_beside, whether_keeps, told_swap}
use Rattle.meaning.proofs.PairLaws.{after_known}
use Rattle.meaning.proofs.SensingLaws.{Distinct, unknown_neither}
use Rattle.meaning.proofs.FillingLaws.{filling_more, shared_length, shared_at, shared_known}

-- THE FLUENTS of a table, each once.
pub upward_within : (f n g : ℕ) → Has (upward f n) g → (f ≤ g) × (g < f + n)
unfolding upward
upward_within f zero g h = absurd h
upward_within f (suc n) g (inl q) = (omega (arith, q), omega (arith, q))
upward_within f (suc n) g (inr h) = let w = upward_within (f + 1) n g h in (omega (arith, w.0), omega (arith, w.1))

pub upward_distinct : (f n : ℕ) → Distinct (upward f n)
unfolding upward
upward_distinct f zero = tt
upward_distinct f (suc n) = (λ h. let w = upward_within (f + 1) n f h in omega (arith, w.0), upward_distinct (f + 1) n)

pub those_distinct : (p : ℕ → Bool) (fs : List ℕ) → Distinct fs → Distinct (those_of p fs)
unfolding those_of
those_distinct p [] once = tt
those_distinct p (f ∷ fs) once =
    by-test (p f)
    (λ e. subst Distinct (sym (pick_true (p f) _ _ e)) (λ h. once.0 (those_has p fs f h).0, those_distinct p fs once.1))
    (λ e. subst Distinct (sym (pick_false (p f) _ _ e)) (those_distinct p fs once.1))

-- WHAT STATES SHARE, fluent by fluent.
pub shared_alike : (us vs : List State) (s r : State) → length s ≡ length r → ((f : ℕ) → f < length s → shared_mark us f ≡ shared_mark vs f) → shared_marks us 0 s ≡ shared_marks vs 0 r
unfolding shared_mark
shared_alike us vs s r long same =
    ext_get_or Limits.unknown_mark (shared_marks us 0 s) (shared_marks vs 0 r) (shared_length us 0 s ∙ long ∙ sym (shared_length vs 0 r))
    (λ f h. let near : f < length s = omega (arith, h, shared_length us 0 s) in shared_at us s f near ∙ same f near ∙ sym (shared_at vs r f (omega (arith, near, long))))

-- What two lists of states share is what the states share that each of the two lists shares.
pub shared_joined : (us vs : List State) (u v : State) → Has us u → Has vs v → (s r q : State) → length r ≡ length s → length q ≡ length s
    → shared_marks (us ++ vs) 0 s ≡ shared_marks (shared_marks us 0 r ∷ shared_marks vs 0 q ∷ []) 0 (shared_marks us 0 r)
unfolding shared_mark each_of
shared_joined us vs u v has has-too s r q long long-too =
    shared_alike (us ++ vs) (shared_marks us 0 r ∷ shared_marks vs 0 q ∷ []) s (shared_marks us 0 r) (sym (shared_length us 0 r ∙ long))
    (λ f near. rw (same (says_true f) (rw (fluent_true f) near), same (says_false f) (rw (fluent_false f) near)))
  where
    same : (k : ℕ) → fluent_of k < length s → each_of (λ (w : State). known w k) (us ++ vs) ≡ both (known (shared_marks us 0 r) k) (both (known (shared_marks vs 0 q) k) true)
    same k near =
        each_append (λ (w : State). known w k) us vs
        ∙ ap₂ both
        (sym (shared_known us r u has k (omega (arith, near, long))))
        (sym (both_all (known (shared_marks vs 0 q) k) ∙ shared_known vs q v has-too k (omega (arith, near, long-too))))

-- ONE FLUENT: known it is not filled, and else it is made true, and made false.
pub filled_known : (f : ℕ) (fs : List ℕ) (s : State) → known_whether s f ≡ true → fillings (f ∷ fs) s ≡ fillings fs s
unfolding fillings
filled_known f fs s on = pick_true _ _ _ on

pub filled_both : (f : ℕ) (fs : List ℕ) (s : State) → known_whether s f ≡ false → fillings (f ∷ fs) s ≡ fillings fs (told (says_true f) s) ++ fillings fs (told (says_false f) s)
unfolding fillings
filled_both f fs s off = pick_false _ _ _ off

-- What each filling passes.
module _ (test : State → Bool) where
  abbrev InBoth : ℕ → List ℕ → State → Bool
  InBoth f fs s = both (each_of test (fillings fs (told (says_true f) s))) (each_of test (fillings fs (told (says_false f) s)))

  pub each_both : (f : ℕ) (fs : List ℕ) (s : State) → known_whether s f ≡ false → each_of test (fillings (f ∷ fs) s) ≡ InBoth f fs s
  each_both f fs s off = ap (each_of test) (filled_both f fs s off) ∙ each_append test (fillings fs (told (says_true f) s)) (fillings fs (told (says_false f) s))

-- A FLUENT THAT DOES NOT MATTER to a test of states: where it is unknown, its two fillings pass together exactly where the state passes.
pub record Idle (n : ℕ) (test : State → Bool) (f : ℕ) : Type 0 where
  pub passes : (s : State) → length s ≡ n → known_whether s f ≡ false → both (test (told (says_true f) s)) (test (told (says_false f) s)) ≡ test s

told_long : (n l : ℕ) (s : State) → length s ≡ n → length (told l s) ≡ n
unfolding told
told_long n l s long = length-set s (fluent_of l) (mark_of l) ∙ long

module _ (n : ℕ) (test : State → Bool) where
  -- Other fluents may be filled meanwhile.
  idle_through : (f : ℕ) → Idle n test f → (gs : List ℕ) → (Has gs f → ⊥) → (s : State) → length s ≡ n → known_whether s f ≡ false → InBoth test f gs s ≡ each_of test (fillings gs s)
  unfolding fillings each_of
  idle_through f idle [] other s long off = ap₂ both (both_all _) (both_all _) ∙ idle.passes s long off ∙ sym (both_all _)
  idle_through f idle (g ∷ gs) other s long off =
      by-test (known_whether s g)
      (λ on.
      ap₂ both
      (ap (each_of test) (filled_known g gs _ (still (says_true f) (fluent_true f) ∙ on)))
      (ap (each_of test) (filled_known g gs _ (still (says_false f) (fluent_false f) ∙ on)))
      ∙ idle_through f idle gs (λ h. other (inr h)) s long off
      ∙ sym (ap (each_of test) (filled_known g gs s on)))
      (λ none.
      ap₂ both
      (each_both test g gs _ (still (says_true f) (fluent_true f) ∙ none))
      (each_both test g gs _ (still (says_false f) (fluent_false f) ∙ none))
      ∙ both_crossed _ _ _ _
      ∙ ap₂ both
      (ap₂ both (swapped (says_true f) (fluent_true f) (says_true g) (fluent_true g)) (swapped (says_false f) (fluent_false f) (says_true g) (fluent_true g))
      ∙ idle_through f idle gs (λ h. other (inr h)) (told (says_true g) s) (told_long n (says_true g) s long) (whether_keeps (says_true g) s f (λ q. apart (q ∙ fluent_true g)) ∙ off))
      (ap₂ both (swapped (says_true f) (fluent_true f) (says_false g) (fluent_false g)) (swapped (says_false f) (fluent_false f) (says_false g) (fluent_false g))
      ∙ idle_through f idle gs (λ h. other (inr h)) (told (says_false g) s) (told_long n (says_false g) s long) (whether_keeps (says_false g) s f (λ q. apart (q ∙ fluent_false g)) ∙ off))
      ∙ sym (each_both test g gs s none))
    where
      apart : f ≡ g → ⊥
      apart q = other (inl q)

      still : (l : ℕ) → fluent_of l ≡ f → known_whether (told l s) g ≡ known_whether s g
      still l of = whether_keeps l s g (λ q. apart (sym (q ∙ of)))

      swapped : (l : ℕ) → fluent_of l ≡ f → (k : ℕ) → fluent_of k ≡ g → each_of test (fillings gs (told k (told l s))) ≡ each_of test (fillings gs (told l (told k s)))
      swapped l of k at = ap (λ (u : State). each_of test (fillings gs u)) (told_swap l k s (λ q. apart (sym of ∙ q ∙ at)))

  -- Where a choice leaves out none but such fluents, the chosen ones are enough.
  pub chosen_enough : (chosen : ℕ → Bool) (fs : List ℕ) → Distinct fs → ((f : ℕ) → Has fs f → chosen f ≡ false → Idle n test f) → (s : State) → length s ≡ n
      → each_of test (fillings fs s) ≡ each_of test (fillings (those_of chosen fs) s)
  unfolding those_of
  chosen_enough chosen [] once idle s long = refl
  chosen_enough chosen (f ∷ fs) once idle s long =
      let later : (u : State) → length u ≡ n → each_of test (fillings fs u) ≡ each_of test (fillings (those_of chosen fs) u) = chosen_enough chosen fs once.1 (λ g h. idle g (inr h)) in
      by-test (known_whether s f)
      (λ on. ap (each_of test) (filled_known f fs s on) ∙ later s long ∙ by-test (chosen f)
      (λ e. sym (ap (each_of test) (ap (λ (gs : List ℕ). fillings gs s) (pick_true _ _ _ e) ∙ filled_known f (those_of chosen fs) s on)))
      (λ e. sym (ap (λ (gs : List ℕ). each_of test (fillings gs s)) (pick_false _ _ _ e))))
      (λ off. each_both test f fs s off ∙ ap₂ both (later _ (told_long n _ s long)) (later _ (told_long n _ s long)) ∙ by-test (chosen f)
      (λ e. sym (ap (λ (gs : List ℕ). each_of test (fillings gs s)) (pick_true _ _ _ e) ∙ each_both test f (those_of chosen fs) s off))
      (λ e. idle_through f (idle f (inl refl) e) (those_of chosen fs) (λ h. once.0 (those_has chosen fs f h).0) s long off
      ∙ sym (ap (λ (gs : List ℕ). each_of test (fillings gs s)) (pick_false _ _ _ e))))

-- Fluents that are known may be left out of a choice: they are not filled.
known_left_out : (chosen on : ℕ → Bool) (fs : List ℕ) → Distinct fs → (s : State) → ((f : ℕ) → Has fs f → on f ≡ known_whether s f)
    → fillings (those_of chosen fs) s ≡ fillings (those_of (λ (f : ℕ). both (chosen f) (fails (on f))) fs) s
unfolding those_of both fails
known_left_out chosen on [] once s same = refl
known_left_out chosen on (f ∷ fs) once s same =
    let later : (u : State) → ((g : ℕ) → Has fs g → on g ≡ known_whether u g) → fillings (those_of chosen fs) u ≡ fillings (those_of (λ (g : ℕ). both (chosen g) (fails (on g))) fs) u = known_left_out chosen on fs once.1 in
    by-test (chosen f)
    (λ e. by-test (known_whether s f)
    (λ is.
    ap (λ (gs : List ℕ). fillings gs s) (pick_true _ _ _ e) ∙ filled_known f (those_of chosen fs) s is ∙ later s (λ g h. same g (inr h))
    ∙ sym (ap (λ (gs : List ℕ). fillings gs s) (pick_false _ _ _ (rw (e, same f (inl refl), is) refl))))
    (λ off.
    ap (λ (gs : List ℕ). fillings gs s) (pick_true _ _ _ e) ∙ filled_both f (those_of chosen fs) s off
    ∙ ap₂ {C = List State} (λ xs ys. xs ++ ys) (later _ (told_same (says_true f) (fluent_true f))) (later _ (told_same (says_false f) (fluent_false f)))
    ∙ sym (ap (λ (gs : List ℕ). fillings gs s) (pick_true _ _ _ (rw (e, same f (inl refl), off) refl)) ∙ filled_both f _ s off)))
    (λ e.
    ap (λ (gs : List ℕ). fillings gs s) (pick_false _ _ _ e) ∙ later s (λ g h. same g (inr h))
    ∙ sym (ap (λ (gs : List ℕ). fillings gs s) (pick_false _ _ _ (rw e refl))))
  where
    told_same : (l : ℕ) → fluent_of l ≡ f → (g : ℕ) → Has fs g → on g ≡ known_whether (told l s) g
    told_same l of g h = same g (inr h) ∙ sym (whether_keeps l s g (λ q. once.0 (subst (Has fs) (q ∙ of) h)))

-- AN ACTION'S BODIES. Tests of literals that agree on every literal of other fluents agree on bodies without the fluent.
module _ (f : ℕ) (test other : ℕ → Bool) (agree : (l : ℕ) → (fluent_of l ≡ f → ⊥) → test l ≡ other l) where
  body_same : (b : List ℕ) → in_body f b ≡ false → each_of test b ≡ each_of other b
  unfolding in_body some_of each_of
  body_same [] none = refl
  body_same (l ∷ ls) none = let w = either_false _ _ none in ap₂ both (agree l (eqb-false _ _ w.0)) (body_same ls w.1)

  allowed_same : (xs : List Executability) → some_of (λ (x : Executability). in_body f x.body) xs ≡ false → allowed test xs ≡ allowed other xs
  unfolding allowed some_of
  allowed_same [] none = refl
  allowed_same (x ∷ xs) none = let w = either_false _ _ none in ap₂ either (body_same x.body w.0) (allowed_same xs w.1)

  given_same : (es : List Effect) → some_of (λ (e : Effect). in_body f e.body) es ≡ false → (l : ℕ) → given test es l ≡ given other es l
  unfolding given some_of
  given_same [] none l = refl
  given_same (e ∷ es) none l = let w = either_false _ _ none in ap₂ either (ap (both (eqb e.literal l)) (body_same e.body w.0)) (given_same es w.1 l)

-- Two tests with the rest in common.
shared_out : (x y g p : Bool) → both (both (either x g) p) (both (either y g) p) ≡ both (either (both x y) g) p
unfolding both either
shared_out true true g p = both_same p
shared_out true false true p = both_same p
shared_out true false false true = refl
shared_out true false false false = refl
shared_out false true true p = both_same p
shared_out false false true p = both_same p
shared_out false y false p = refl

-- Of an unknown fluent nothing is known in both of its fillings, and of others what was.
both_told : (f : ℕ) (s : State) → f < length s → known_whether s f ≡ false → (k : ℕ) → both (known (told (says_true f) s) k) (known (told (says_false f) s) k) ≡ known s k
unfolding both
both_told f s near off k =
    elim (ℕ_discrete (fluent_of k) f) [
      | yes same ↦ ⊎_elim (λ q. one (q ∙ ap says_true same)) (λ q. other (q ∙ ap says_false same)) (one_of_two k) ∙ sym (unknown_neither s k (rw same off))
      | no apart ↦ ap₂ both (told_keeps (says_true f) s k (λ q. apart (q ∙ fluent_true f))) (told_keeps (says_false f) s k (λ q. apart (q ∙ fluent_false f))) ∙ both_same _
    ]
  where
    one : k ≡ says_true f → both (known (told (says_true f) s) k) (known (told (says_false f) s) k) ≡ false
    one q = ap (both (known (told (says_true f) s) k)) (ap (known (told (says_false f) s)) (q ∙ sym (complement_false f)) ∙ told_beside (says_false f) s (rw (fluent_false f) near)) ∙ both_none (known (told (says_true f) s) k)

    other : k ≡ says_false f → both (known (told (says_true f) s) k) (known (told (says_false f) s) k) ≡ false
    other q = rw (ap (known (told (says_true f) s)) (q ∙ sym (complement_true f)) ∙ told_beside (says_true f) s (rw (fluent_true f) near)) refl

-- Nothing is known beyond the state's end.
none_after : (t : Table) (a : ℕ) (s : State) (k : ℕ) → length s ≤ fluent_of k → known (state_after t a s) k ≡ false
none_after t a s =
    by_literal (λ k. length s ≤ fluent_of k → known (state_after t a s) k ≡ false)
    (λ f. rw (fluent_true f) λ far. (unknown_far (state_after t a s) f (rw (after_length t a s) far)).0)
    (λ f. rw (fluent_false f) λ far. (unknown_far (state_after t a s) f (rw (after_length t a s) far)).1)

-- A fluent in no body of the action.
module _ (t : Table) (a f : ℕ) (none : in_bodies t a f ≡ false) where
  effects_without : some_of (λ (e : Effect). in_body f e.body) (effects_of t a) ≡ false
  unfolding in_bodies
  effects_without = (either_false _ _ none).0

  lines_without : some_of (λ (x : Executability). in_body f x.body) (executability_of t a) ≡ false
  unfolding in_bodies
  lines_without = (either_false _ _ none).1

  module _ (l : ℕ) (of : fluent_of l ≡ f) (s : State) where
    known_same : (k : ℕ) → (fluent_of k ≡ f → ⊥) → known (told l s) k ≡ known s k
    known_same k other = told_keeps l s k (λ q. other (q ∙ of))

    possible_same : (k : ℕ) → (fluent_of k ≡ f → ⊥) → possible (told l s) k ≡ possible s k
    unfolding possible
    possible_same k other = ap fails (known_same (complement k) (λ q. other (sym (fluent_complement k) ∙ q)))

    runs_told : can_be_run t a (told l s) ≡ can_be_run t a s
    unfolding can_be_run
    runs_told = allowed_same f (known (told l s)) (known s) known_same (executability_of t a) lines_without

    after_told : (k : ℕ) → known_after (effects_of t a) (told l s) k ≡ both (either (known (told l s) k) (given (known s) (effects_of t a) k)) (fails (given (possible s) (effects_of t a) (complement k)))
    unfolding known_after
    after_told k = ap₂ both
        (ap (either (known (told l s) k)) (given_same f (known (told l s)) (known s) known_same (effects_of t a) effects_without k))
        (ap fails (given_same f (possible (told l s)) (possible s) possible_same (effects_of t a) effects_without (complement k)))

  -- It does not matter to whether the action can be run,
  pub runs_idle : (n : ℕ) → Idle n (can_be_run t a) f
  runs_idle n = record { passes = λ s long off. ap₂ both (runs_told (says_true f) (fluent_true f) s) (runs_told (says_false f) (fluent_false f) s) ∙ both_same _ }

  -- nor to whether a literal is known afterwards.
  module _ (n : ℕ) (near : f < n) (k : ℕ) where
    after_near : (s : State) → length s ≡ n → known_whether s f ≡ false → fluent_of k < length s
        → both (known (state_after t a (told (says_true f) s)) k) (known (state_after t a (told (says_false f) s)) k) ≡ known (state_after t a s) k
    unfolding known_after
    after_near s long off within =
        ap₂ both (side (says_true f) (fluent_true f)) (side (says_false f) (fluent_false f))
        ∙ shared_out (known (told (says_true f) s) k) (known (told (says_false f) s) k) _ _
        ∙ ap (λ (b : Bool). both (either b (given (known s) (effects_of t a) k)) (fails (given (possible s) (effects_of t a) (complement k)))) (both_told f s (omega (arith, near, long)) off k)
        ∙ sym (after_known t a s k within)
      where
        side : (l : ℕ) → fluent_of l ≡ f
            → known (state_after t a (told l s)) k ≡ both (either (known (told l s) k) (given (known s) (effects_of t a) k)) (fails (given (possible s) (effects_of t a) (complement k)))
        side l of = after_known t a (told l s) k (rw (told_long (length s) l s refl) within) ∙ after_told l of s k

    pub after_idle : Idle n (λ (u : State). known (state_after t a u) k) f
    unfolding both
    after_idle = record {
      passes = λ s long off. elim (dec_lt (fluent_of k) (length s)) [
        | yes within ↦ after_near s long off within
        | no far ↦ rw (none_after t a (told (says_true f) s) k (rw (told_long (length s) (says_true f) s refl) (omega (arith, far))), none_after t a s k (omega (arith, far)))
      ];
    }

-- IT IS ENOUGH to fill the open fluents, for a test to which no other fluent of the table matters.
module _ (t : Table) (a : ℕ) (s : State) (wide : t.fluents ≤ length s) where
  open_enough : (test : State → Bool) → ((f : ℕ) → f < length s → in_bodies t a f ≡ false → Idle (length s) test f) → each_of test (complete t s) ≡ each_of test (fillings (open_fluents t a s) s)
  unfolding complete open_fluents
  open_enough test idle =
      chosen_enough (length s) test (in_bodies t a) (upward 0 t.fluents) (upward_distinct 0 t.fluents)
      (λ f h none. idle f (omega (arith, (upward_within 0 t.fluents f h).1, wide)) none) s refl
      ∙ ap (each_of test) (known_left_out (in_bodies t a) (known_whether s) (upward 0 t.fluents) (upward_distinct 0 t.fluents) s (λ f h. refl))

  -- The action can be run by cases exactly where it can be run in each filling of its open fluents.
  pub fills_run : runs_by_cases t a s ≡ each_of (can_be_run t a) (fillings (open_fluents t a s) s)
  unfolding runs_by_cases
  fills_run = open_enough (can_be_run t a) (λ f near none. runs_idle t a f none (length s))

  shared_same : (f : ℕ) → shared_mark (map (state_after t a) (complete t s)) f ≡ shared_mark (map (state_after t a) (fillings (open_fluents t a s) s)) f
  unfolding shared_mark
  shared_same f = rw (same (says_true f), same (says_false f))
    where
      same : (k : ℕ) → each_of (λ (u : State). known u k) (map (state_after t a) (complete t s)) ≡ each_of (λ (u : State). known u k) (map (state_after t a) (fillings (open_fluents t a s) s))
      same k =
          each_mapped (state_after t a) (λ (u : State). known u k) (complete t s)
          ∙ open_enough (λ (u : State). known (state_after t a u) k) (λ g near none. after_idle t a g none (length s) near k)
          ∙ sym (each_mapped (state_after t a) (λ (u : State). known u k) (fillings (open_fluents t a s) s))

  -- What the states after it share is the same.
  pub fills_after : after_cases t a s ≡ after_each t a (fillings (open_fluents t a s) s) s
  unfolding after_cases after_each
  fills_after = shared_alike (map (state_after t a) (complete t s)) (map (state_after t a) (fillings (open_fluents t a s) s)) s s refl (λ f _. shared_same f)

-- What can be run where it is known, can be run by cases.
pub known_runs : (t : Table) (a : ℕ) (s : State) → can_be_run t a s ≡ true → runs_by_cases t a s ≡ true
unfolding runs_by_cases complete can_be_run allowed
known_runs t a s can = has_each _ (complete t s) (λ u h. some_mono _ _ (λ x. each_mono _ _ (filling_more (upward 0 t.fluents) s u h) x.body) (executability_of t a) can)
