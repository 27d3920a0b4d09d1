-- A partial state is an a-state, and the walk's tests and steps on the one are the 0-approximation's on the other. Both say of each literal
-- whether it is known, and every literal is one of the two of its fluent. Assumes nothing.
use Prim.Native.Nat.{ℕ, ◌+◌, ◌*◌, ◌≤◌, ◌<◌}
use native.Mathlib.Omega.{arith}
use native.Mathlib.Decide.{dec_lt}
use mathlib.Core.Path.{◌≡◌, refl, sym, ◌∙◌, ap, fun_ext}
use mathlib.Core.Bool.{Bool, true, false}
use mathlib.Core.Logic.{⊎_elim}
use lib.ListN.{length, get_or}
use lib.Dec.{eqb}
use borrow.Author.Tests.{eqb-true}
use Rattle.meaning.specs.Tests.{both, either, fails, pick, some_of, Has}
use Rattle.meaning.specs.Limits
use Rattle.meaning.specs.Literals.{says_true, says_false, fluent_of, complement}
use Rattle.meaning.specs.Requests.{Effect, Knowledge, Table}
use Rattle.meaning.specs.Lines.{effects_of, executability_of, knowledge_of, allowed, given, sensing, senses}
use Rattle.meaning.specs.States.{State, known, possible, can_be_run, known_after, mark_after, state_after}
use Rattle.meaning.specs.Approximation.{Pair, Disjoint, true_in, false_in, possibly_true, ◌≼◌, executable, caused, e⁺, e⁻, F⁺, F⁻, K, sensing_action, Res}
use Rattle.meaning.specs.Reported.{pair_of}
use Rattle.meaning.proofs.TestLaws.{by-test, clash, same_test, both_left, both_right, both_true, either_left, either_right, either_split, fails_true, fails_false, pick_true, pick_false, some_has, some_mono, each_mono, some_those}
use Rattle.meaning.proofs.LiteralLaws.{positive_true, positive_false, fluent_true, fluent_false, complement_true, complement_false, by_literal}
use Rattle.meaning.proofs.StateLaws.{known_true, known_false, unknown_far, marks_at, after_length}

-- WHAT A PAIR SAYS OF THEM.
module _ (σ : Pair) where
  pub true_in_true : (f : ℕ) → true_in σ (says_true f) ≡ σ.T f
  unfolding true_in
  true_in_true f = pick_true _ _ _ (positive_true f) ∙ ap σ.T (fluent_true f)

  pub true_in_false : (f : ℕ) → true_in σ (says_false f) ≡ σ.F f
  unfolding true_in
  true_in_false f = pick_false _ _ _ (positive_false f) ∙ ap σ.F (fluent_false f)

  pub false_in_true : (f : ℕ) → false_in σ (says_true f) ≡ σ.F f
  unfolding false_in
  false_in_true f = pick_true _ _ _ (positive_true f) ∙ ap σ.F (fluent_true f)

  false_in_false : (f : ℕ) → false_in σ (says_false f) ≡ σ.T f
  unfolding false_in
  false_in_false f = pick_false _ _ _ (positive_false f) ∙ ap σ.T (fluent_false f)

  -- What is false has a true complement.
  false_complement : (l : ℕ) → false_in σ l ≡ true_in σ (complement l)
  false_complement =
      by_literal (λ l. false_in σ l ≡ true_in σ (complement l))
      (λ f. rw (complement_true f) (false_in_true f ∙ sym (true_in_false f)))
      (λ f. rw (complement_false f) (false_in_false f ∙ sym (true_in_true f)))

  -- Of a literal and its complement one at most is true.
  pub not_both : Disjoint σ → (l : ℕ) → true_in σ l ≡ true → true_in σ (complement l) ≡ true → ⊥
  not_both apart =
      by_literal (λ l. true_in σ l ≡ true → true_in σ (complement l) ≡ true → ⊥)
      (λ f. rw (complement_true f, true_in_true f, true_in_false f) (λ t u. clash (both_true _ _ t u) (apart f)))
      (λ f. rw (complement_false f, true_in_true f, true_in_false f) (λ u t. clash (both_true _ _ t u) (apart f)))

  -- What is true is possible.
  true_possible : Disjoint σ → (l : ℕ) → true_in σ l ≡ true → possibly_true σ l ≡ true
  unfolding possibly_true
  true_possible apart l t =
      fails_false _ (by-test _ (λ u. absurd (not_both apart l t (sym (false_complement l) ∙ u))) (λ f. f))

-- THE EXTENSION ORDER: the more is known, the more is true and the less is possible.
pub ≼_trans : {σ δ τ : Pair} → σ ≼ δ → δ ≼ τ → σ ≼ τ
≼_trans p q = record { T = λ f e. q.T f (p.T f e); F = λ f e. q.F f (p.F f e) }

module _ {σ δ : Pair} (more : σ ≼ δ) where
  pub true_grows : (l : ℕ) → true_in σ l ≡ true → true_in δ l ≡ true
  true_grows =
      by_literal (λ l. true_in σ l ≡ true → true_in δ l ≡ true)
      (λ f. rw (true_in_true σ f, true_in_true δ f) (more.T f))
      (λ f. rw (true_in_false σ f, true_in_false δ f) (more.F f))

  possible_shrinks : (l : ℕ) → possibly_true δ l ≡ true → possibly_true σ l ≡ true
  unfolding possibly_true
  possible_shrinks l e =
      fails_false _ (by-test _ (λ t. clash (false_complement δ l ∙ true_grows (complement l) (sym (false_complement σ l) ∙ t)) (fails_true _ e)) (λ f. f))

module _ (t : Table) (a : ℕ) where
  pub executable_grows : {σ δ : Pair} → σ ≼ δ → executable t a σ ≡ true → executable t a δ ≡ true
  unfolding executable
  executable_grows more = some_mono _ _ (λ x e. both_true _ _ (both_left _ _ e) (each_mono _ _ (true_grows more) x.body (both_right _ _ e))) t.executability

  caused_mono : (p q : ℕ → Bool) → ((l : ℕ) → p l ≡ true → q l ≡ true) → (l : ℕ) → caused t a p l ≡ true → caused t a q l ≡ true
  unfolding caused
  caused_mono p q h l =
      some_mono _ _ (λ x e. both_true _ _ (both_left _ _ e) (both_true _ _ (both_left _ _ (both_right _ _ e)) (each_mono p q h x.body (both_right _ _ (both_right _ _ e))))) t.effects

  -- A non-sensing action keeps the order.
  pub ResGrows : {σ δ : Pair} → σ ≼ δ → Res t a σ ≼ Res t a δ
  unfolding Res e⁺ e⁻ F⁺ F⁻
  ResGrows {σ} {δ} more = record { T = λ f. grows _ _ (more.T f); F = λ f. grows _ _ (more.F f) }
    where
      grows : {b d : Bool} (l k : ℕ) → (b ≡ true → d ≡ true)
          → both (either b (caused t a (true_in σ) l)) (fails (caused t a (possibly_true σ) k)) ≡ true
          → both (either d (caused t a (true_in δ) l)) (fails (caused t a (possibly_true δ) k)) ≡ true
      grows l k h e =
          both_true _ _
          (⊎_elim (λ x. either_left _ _ (h x)) (λ x. either_right _ _ (caused_mono _ _ (true_grows more) l x)) (either_split _ _ (both_left _ _ e)))
          (fails_false _ (by-test _ (λ x. clash (caused_mono _ _ (possible_shrinks more) k x) (fails_true _ (both_right _ _ e))) (λ x. x)))

  -- It leads to disjoint sets: what a body known true gives, a possible one gives too.
  pub ResDisjoint : (σ : Pair) → Disjoint σ → Disjoint (Res t a σ)
  unfolding Res e⁺ e⁻ F⁺ F⁻
  ResDisjoint σ apart f = by-test _ (λ x. absurd (go (both_left _ _ x) (both_right _ _ x))) (λ x. x)
    where
      possible_too : (l : ℕ) → caused t a (true_in σ) l ≡ true → fails (caused t a (possibly_true σ) l) ≡ true → ⊥
      possible_too l x y = clash (caused_mono _ _ (true_possible σ apart) l x) (fails_true _ y)

      go : both (either (σ.T f) (caused t a (true_in σ) (says_true f))) (fails (caused t a (possibly_true σ) (says_false f))) ≡ true
          → both (either (σ.F f) (caused t a (true_in σ) (says_false f))) (fails (caused t a (possibly_true σ) (says_true f))) ≡ true → ⊥
      go x y =
          ⊎_elim
          (λ p. ⊎_elim (λ q. clash (both_true _ _ p q) (apart f)) (λ q. possible_too _ q (both_right _ _ x)) (either_split _ _ (both_left _ _ y)))
          (λ p. possible_too _ p (both_right _ _ y))
          (either_split _ _ (both_left _ _ x))

-- A PARTIAL STATE AS A PAIR.
module _ (s : State) where
  pub true_in_pair : (l : ℕ) → true_in (pair_of s) l ≡ known s l
  unfolding pair_of
  true_in_pair = by_literal (λ l. true_in (pair_of s) l ≡ known s l) (true_in_true (pair_of s)) (true_in_false (pair_of s))

  pub true_test : true_in (pair_of s) ≡ known s
  true_test = fun_ext true_in_pair

  possible_in_pair : (l : ℕ) → possibly_true (pair_of s) l ≡ possible s l
  unfolding possibly_true possible
  possible_in_pair l = ap fails (false_complement (pair_of s) l ∙ true_in_pair (complement l))

  possible_test : possibly_true (pair_of s) ≡ possible s
  possible_test = fun_ext possible_in_pair

  pub pair_disjoint : Disjoint (pair_of s)
  unfolding pair_of
  pair_disjoint f = by-test _ (λ e. absurd (two_marks (get_or s f Limits.unknown_mark) (eqb-true _ _ (sym (known_true s f) ∙ both_left _ _ e)) (eqb-true _ _ (sym (known_false s f) ∙ both_right _ _ e)))) (λ e. e)
    where
      two_marks : (m : ℕ) → m ≡ Limits.true_mark → m ≡ Limits.false_mark → ⊥
      two_marks m p q = omega arith

-- The tests of lines.
module _ (t : Table) (a : ℕ) where
  pub sensing_pair : sensing_action t a ≡ sensing t a
  unfolding sensing_action sensing knowledge_of
  sensing_pair =
      sym (some_those _ _ t.knowledge ∙ ap (λ (test : Knowledge → Bool). some_of test t.knowledge) (fun_ext λ (k : Knowledge). same_test _ _ (both_left _ _) (λ e. both_true _ _ e refl)))

  pub senses_pair : (f : ℕ) → K t a f ≡ senses (knowledge_of t a) f
  unfolding K senses knowledge_of
  senses_pair f = sym (some_those _ _ t.knowledge)

  pub given_pair : (test : ℕ → Bool) (l : ℕ) → caused t a test l ≡ given test (effects_of t a) l
  unfolding caused given effects_of
  given_pair test l = sym (some_those _ _ t.effects)

  pub runs_pair : (s : State) → executable t a (pair_of s) ≡ can_be_run t a s
  unfolding executable can_be_run allowed executability_of
  runs_pair s = rw (true_test s) (sym (some_those _ _ t.executability))

  -- What is known after an action is what its result says.
  after_true : (s : State) (f : ℕ) → (Res t a (pair_of s)).T f ≡ known_after (effects_of t a) s (says_true f)
  unfolding Res e⁺ F⁻ known_after pair_of
  after_true s f = rw (given_pair (true_in (pair_of s)) (says_true f), given_pair (possibly_true (pair_of s)) (says_false f), true_test s, possible_test s, complement_true f)

  after_false : (s : State) (f : ℕ) → (Res t a (pair_of s)).F f ≡ known_after (effects_of t a) s (says_false f)
  unfolding Res e⁻ F⁺ known_after pair_of
  after_false s f = rw (given_pair (true_in (pair_of s)) (says_false f), given_pair (possibly_true (pair_of s)) (says_true f), true_test s, possible_test s, complement_false f)

-- The mark of a fluent by what is known of it.
abbrev pub mark_by : Bool → Bool → ℕ
mark_by x y = pick x (λ _. Limits.true_mark) (λ _. pick y (λ _. Limits.false_mark) (λ _. Limits.unknown_mark))

pub marked_true : (x y : Bool) → eqb (mark_by x y) Limits.true_mark ≡ x
unfolding pick
marked_true true y = refl
marked_true false true = refl
marked_true false false = refl

pub marked_false : (x y : Bool) → both x y ≡ false → eqb (mark_by x y) Limits.false_mark ≡ y
unfolding pick both
marked_false true y e = sym e
marked_false false true e = refl
marked_false false false e = refl

pub after_mark : (t : Table) (a : ℕ) (s : State) (f : ℕ) → f < length s → get_or (state_after t a s) f Limits.unknown_mark ≡ mark_after (effects_of t a) s f
unfolding state_after
after_mark t a s f near = marks_at (effects_of t a) s 0 s f near ∙ ap (mark_after (effects_of t a) s) (omega arith)

-- A literal of the state's fluents is known in the state after exactly where the definition says so.
pub after_known : (t : Table) (a : ℕ) (s : State) (l : ℕ) → fluent_of l < length s → known (state_after t a s) l ≡ known_after (effects_of t a) s l
unfolding mark_after
after_known t a s =
    by_literal (λ l. fluent_of l < length s → known (state_after t a s) l ≡ known_after (effects_of t a) s l)
    (λ f. rw (fluent_true f) λ near. known_true (state_after t a s) f ∙ ap (λ (m : ℕ). eqb m Limits.true_mark) (after_mark t a s f near) ∙ marked_true _ _)
    (λ f. rw (fluent_false f) λ near. known_false (state_after t a s) f ∙ ap (λ (m : ℕ). eqb m Limits.false_mark) (after_mark t a s f near) ∙ marked_false _ _ (apart f))
  where
    apart : (f : ℕ) → both (known_after (effects_of t a) s (says_true f)) (known_after (effects_of t a) s (says_false f)) ≡ false
    apart f = rw (after_true t a s f, after_false t a s f) at (ResDisjoint t a (pair_of s) (pair_disjoint s) f)

-- What effects give is below the bound of their literals.
pub caused_within : (t : Table) (a n : ℕ) → ((e : Effect) → Has t.effects e → e.literal < 2 * n) → (test : ℕ → Bool) (l : ℕ) → 2 * n ≤ l → caused t a test l ≡ false
unfolding caused
caused_within t a n within test l far =
    by-test _
    (λ e.
    let w = some_has _ t.effects e in
    let same : w.0.literal ≡ l = eqb-true _ _ (both_left _ _ (both_right _ _ w.2)) in
    let near = within w.0 w.1 in
    absurd (omega arith))
    (λ e. e)

module _ (t : Table) (a : ℕ) (s : State) (within : (e : Effect) → Has t.effects e → e.literal < 2 * length s) where
  abbrev KnownAsInRes : ℕ → Type 0
  KnownAsInRes f = (known (state_after t a s) (says_true f) ≡ (Res t a (pair_of s)).T f) × (known (state_after t a s) (says_false f) ≡ (Res t a (pair_of s)).F f)

  known_near : (f : ℕ) → f < length s → KnownAsInRes f
  known_near f near = (
    after_known t a s (says_true f) (rw (fluent_true f) near) ∙ sym (after_true t a s f),
    after_known t a s (says_false f) (rw (fluent_false f) near) ∙ sym (after_false t a s f),
  )

  known_far : (f : ℕ) → length s ≤ f → KnownAsInRes f
  unfolding Res e⁺ e⁻ pair_of says_true says_false either both
  known_far f far =
      let now = unknown_far s f far in
      let later = unknown_far (state_after t a s) f (rw (after_length t a s) far) in (
        later.0 ∙ rw (now.0, caused_within t a (length s) within (true_in (pair_of s)) (2 * f) (omega arith)),
        later.1 ∙ rw (now.1, caused_within t a (length s) within (true_in (pair_of s)) (2 * f + 1) (omega arith)),
      )

  -- The state after a non-sensing action is the action's result.
  pub pair_after : pair_of (state_after t a s) ≡ Res t a (pair_of s)
  unfolding pair_of
  pair_after = λ i. record { T = fun_ext (λ (f : ℕ). (at_each f).0) i; F = fun_ext (λ (f : ℕ). (at_each f).1) i }
    where
      at_each : (f : ℕ) → KnownAsInRes f
      at_each f = elim (dec_lt f (length s)) [ yes near ↦ known_near f near | no far ↦ known_far f (omega arith) ]
