-- The pass over an action's effects gives the state that the definition gives. In its turn an effect tells the value that it sets by a body known
-- true, or forgets another that it may change. Past 16, where the action can be run, no effect changes what another tells, so that the order of
-- the turns does not matter. Assumes nothing.
use Prim.Native.Nat.{ℕ, ◌+◌, ◌-◌, ◌≤◌, ◌<◌}
use native.Mathlib.Omega.{arith}
use native.Mathlib.Decide.{ℕ_discrete}
use mathlib.Core.Path.{◌≡◌, refl, sym, ◌∙◌, ap, subst}
use mathlib.Core.Bool.{Bool, true, false}
use mathlib.Core.List.{List, [], ◌∷◌, map}
use mathlib.Core.Logic.{inl, inr}
use lib.ListN.{length, get_or, set, length-set}
use lib.Seq.{get_or-set_same, get_or-set_other, ext_get_or}
use lib.Dec.{eqb}
use borrow.Author.Tests.{eqb-true, eqb-false, eq-eqb, ne_eqb}
use Rattle.meaning.specs.Tests.{both, either, fails, pick, some_of, each_of, Has}
use Rattle.meaning.specs.Requests.{Effect, Table}
use Rattle.meaning.specs.Lines.{effects_of}
use Rattle.meaning.specs.States.{State}
use Rattle.meaning.specs.Values.{Literals, numbers, values_of, set_by}
use Rattle.meaning.specs.ValueStates.{is_known, known, possible, known_after, mark_after, state_after}
use Rattle.meaning.proofs.TestLaws.{by-test, clash, both_all, both_none, either_left, either_right, pick_true, pick_false, each_mono}
use Rattle.meaning.proofs.ToldLaws.{either_none}
use Rattle.meaning.proofs.ValueLaws.{has_numbers, numbered_length, numbered_at, first-such-cases}
use Rattle.acting.proofs.ValueApart.{known_possible}

-- What one effect sets, no later one changes: the order of the two does not matter.
in_turn : (n g h gs hs : Bool) → (gs ≡ true → h ≡ true → ⊥) → both (either (both (either n g) (fails h)) gs) (fails hs) ≡ both (either n (either g gs)) (fails (either h hs))
unfolding both either fails
in_turn n g true true hs apart = absurd (apart refl refl)
in_turn true g true false hs apart = refl
in_turn false true true false hs apart = refl
in_turn false false true false hs apart = refl
in_turn true g false gs hs apart = refl
in_turn false true false gs hs apart = refl
in_turn false false false gs hs apart = refl

neither : (a b : Bool) → a ≡ false → b ≡ false → either a b ≡ false
unfolding either
neither a b e f = rw e f

module _ (ls : Literals ℕ) (marks : State) where
  -- ONE TURN. The effect tells its value by a body known true in `marks`, or forgets another by a possible one; neither where its value is known already.
  unfoldable pub turned : Effect → State → State
  turned e next =
      pick (eqb (get_or next (ls.fluent e.literal) 0) (ls.sets e.literal + 1)) (λ _. next) λ _.
      pick (each_of (known ls marks) e.body) (λ _. set next (ls.fluent e.literal) (ls.sets e.literal + 1)) λ _.
      pick (each_of (possible ls marks) e.body) (λ _. set next (ls.fluent e.literal) 0) λ _.
      next

  unfoldable pub swept : List Effect → State → State
  swept [] next = next
  swept (e ∷ es) next = swept es (turned e next)

  module _ (e : Effect) (next : State) where
    abbrev fluent : ℕ
    fluent = ls.fluent e.literal

    abbrev value : ℕ
    value = ls.sets e.literal

    abbrev sure : Bool
    sure = each_of (known ls marks) e.body

    abbrev may : Bool
    may = each_of (possible ls marks) e.body

    -- The four ways that a turn goes.
    turn-cases {ℓ} : {C : Type ℓ}
        → (get_or next fluent 0 ≡ value + 1 → turned e next ≡ next → C)
        → ((get_or next fluent 0 ≡ value + 1 → ⊥) → sure ≡ true → turned e next ≡ set next fluent (value + 1) → C)
        → ((get_or next fluent 0 ≡ value + 1 → ⊥) → sure ≡ false → may ≡ true → turned e next ≡ set next fluent 0 → C)
        → ((get_or next fluent 0 ≡ value + 1 → ⊥) → sure ≡ false → may ≡ false → turned e next ≡ next → C) → C
    unfolding turned
    turn-cases there tells forgets keeps =
        by-test (eqb (get_or next fluent 0) (value + 1))
        (λ t. there (eqb-true _ _ t) (pick_true _ _ _ t))
        (λ u. by-test sure
        (λ t. tells (eqb-false _ _ u) t (pick_false _ _ _ u ∙ pick_true _ _ _ t))
        (λ n. by-test may
        (λ t. forgets (eqb-false _ _ u) n t (pick_false _ _ _ u ∙ pick_false _ _ _ n ∙ pick_true _ _ _ t))
        (λ m. keeps (eqb-false _ _ u) n m (pick_false _ _ _ u ∙ pick_false _ _ _ n ∙ pick_false _ _ _ m))))

    turned_length : length (turned e next) ≡ length next
    turned_length = turn-cases {C = length (turned e next) ≡ length next}
        (λ _ is. ap length is)
        (λ _ _ is. ap length is ∙ length-set next fluent (value + 1))
        (λ _ _ _ is. ap length is ∙ length-set next fluent 0)
        (λ _ _ _ is. ap length is)

    -- What is known after it, of any value of any fluent.
    abbrev Stepped : (f v : ℕ) → Bool → Type 0
    Stepped f v b = b ≡ both (either (is_known next f v) (both (both (eqb fluent f) (eqb v value)) sure)) (fails (both (both (eqb fluent f) (fails (eqb v value))) may))

    sure_possible : sure ≡ true → may ≡ true
    sure_possible = each_mono (known ls marks) (possible ls marks) (known_possible ls marks) e.body

    other_fluent : (f v : ℕ) → (f ≡ fluent → ⊥) → Stepped f v (is_known (turned e next) f v)
    unfolding is_known both either fails
    other_fluent f v other =
        ap (λ (m : ℕ). eqb m (v + 1)) (turn-cases {C = get_or (turned e next) f 0 ≡ get_or next f 0}
        (λ _ is. ap (λ (u : State). get_or u f 0) is)
        (λ _ _ is. ap (λ (u : State). get_or u f 0) is ∙ get_or-set_other next fluent f (value + 1) 0 other)
        (λ _ _ _ is. ap (λ (u : State). get_or u f 0) is ∙ get_or-set_other next fluent f 0 0 other)
        (λ _ _ _ is. ap (λ (u : State). get_or u f 0) is))
        ∙ sym (rw (ne_eqb fluent f (λ q. other (sym q))) (both_all _ ∙ either_none (eqb (get_or next f 0) (v + 1))))

    module _ (within : fluent < length next) where
      told_mark : (m : ℕ) → turned e next ≡ set next fluent m → get_or (turned e next) fluent 0 ≡ m
      told_mark m is = ap (λ (u : State). get_or u fluent 0) is ∙ get_or-set_same next fluent m 0 within

      same_value : Stepped fluent value (is_known (turned e next) fluent value)
      unfolding is_known both either fails
      same_value = rw (eq-eqb fluent fluent refl, eq-eqb value value refl, fails)
          (turn-cases {C = eqb (get_or (turned e next) fluent 0) (value + 1) ≡ both (either (eqb (get_or next fluent 0) (value + 1)) sure) true}
          (λ t is. ap (λ (u : State). eqb (get_or u fluent 0) (value + 1)) is ∙ eq-eqb _ _ t ∙ sym (both_all _ ∙ either_left _ _ (eq-eqb _ _ t)))
          (λ _ t is. eq-eqb _ _ (told_mark (value + 1) is) ∙ sym (both_all _ ∙ either_right (eqb (get_or next fluent 0) (value + 1)) sure t))
          (λ u n _ is. ne_eqb (get_or (turned e next) fluent 0) (value + 1) (λ q. let z = told_mark 0 is in omega (arith, z, q)) ∙ sym (both_all _ ∙ neither _ _ (ne_eqb _ _ u) n))
          (λ u n _ is. ap (λ (w : State). eqb (get_or w fluent 0) (value + 1)) is ∙ ne_eqb _ _ u ∙ sym (both_all _ ∙ neither _ _ (ne_eqb _ _ u) n)))

      other_value : (v : ℕ) → (v ≡ value → ⊥) → Stepped fluent v (is_known (turned e next) fluent v)
      unfolding is_known both either fails
      other_value v other = rw (eq-eqb fluent fluent refl, ne_eqb v value other, fails)
          (turn-cases {C = eqb (get_or (turned e next) fluent 0) (v + 1) ≡ both (either (eqb (get_or next fluent 0) (v + 1)) false) (fails may)}
          (λ t is.
          let none = ne_eqb (get_or next fluent 0) (v + 1) (λ q. other (omega (arith, t, q))) in
          ap (λ (u : State). eqb (get_or u fluent 0) (v + 1)) is ∙ none ∙ sym (ap (λ (b : Bool). both (either b false) (fails may)) none))
          (λ _ t is.
          ne_eqb (get_or (turned e next) fluent 0) (v + 1) (λ q. let z = told_mark (value + 1) is in other (omega (arith, z, q)))
          ∙ sym (ap (λ (b : Bool). both (either (eqb (get_or next fluent 0) (v + 1)) false) (fails b)) (sure_possible t) ∙ both_none (either (eqb (get_or next fluent 0) (v + 1)) false)))
          (λ _ _ t is.
          ne_eqb (get_or (turned e next) fluent 0) (v + 1) (λ q. let z = told_mark 0 is in omega (arith, z, q))
          ∙ sym (ap (λ (b : Bool). both (either (eqb (get_or next fluent 0) (v + 1)) false) (fails b)) t ∙ both_none (either (eqb (get_or next fluent 0) (v + 1)) false)))
          (λ _ _ n is.
          ap (λ (w : State). eqb (get_or w fluent 0) (v + 1)) is
          ∙ sym (ap (λ (b : Bool). both (either (eqb (get_or next fluent 0) (v + 1)) false) (fails b)) n ∙ both_all _ ∙ either_none _)))

      turn_known : (f v : ℕ) → Stepped f v (is_known (turned e next) f v)
      turn_known f v = elim (ℕ_discrete f fluent) [
        | yes same ↦ subst (λ (g : ℕ). Stepped g v (is_known (turned e next) g v)) (sym same) (elim (ℕ_discrete v value) [
          | yes is ↦ subst (λ (u : ℕ). Stepped fluent u (is_known (turned e next) fluent u)) (sym is) same_value
          | no other ↦ other_value v other
        ])
        | no other ↦ other_fluent f v other
      ]

  -- ALL THE TURNS. What one effect sets, no later one changes.
  pub swept_known : (es : List Effect) (next : State) → ((e : Effect) → Has es e → ls.fluent e.literal < length next) → (f v : ℕ)
      → (set_by ls (known ls marks) (eqb v) es f ≡ true → set_by ls (possible ls marks) (λ u. fails (eqb v u)) es f ≡ true → ⊥)
      → is_known (swept es next) f v ≡ both (either (is_known next f v) (set_by ls (known ls marks) (eqb v) es f)) (fails (set_by ls (possible ls marks) (λ u. fails (eqb v u)) es f))
  unfolding swept set_by some_of fails
  swept_known [] next near f v apart = sym (both_all _ ∙ either_none (is_known next f v))
  swept_known (e ∷ es) next near f v apart =
      swept_known es (turned e next) (λ g h. subst (λ (n : ℕ). ls.fluent g.literal < n) (sym (turned_length e next)) (near g (inr h))) f v (λ g h. apart (either_right _ _ g) (either_right _ _ h))
      ∙ ap (λ (c : Bool). both (either c (set_by ls (known ls marks) (eqb v) es f)) (fails (set_by ls (possible ls marks) (λ u. fails (eqb v u)) es f))) (turn_known e next (near e (inl refl)) f v)
      ∙ in_turn (is_known next f v) _ _ _ _ (λ g h. apart (either_right _ _ g) (either_left _ _ h))

-- THE STATE AFTER. A state within the numbers of values that knows of each fluent what is known after the action is the state after it.
module _ (ls : Literals ℕ) (marks : State) (es : List Effect) (r : State) (small : (f : ℕ) → get_or r f 0 ≤ ls.count f)
    (says : (f v : ℕ) → is_known r f v ≡ known_after ls es marks f v) where
  mark_is : (f : ℕ) → get_or r f 0 ≡ mark_after ls es marks f
  unfolding mark_after values_of is_known
  mark_is f =
      first-such-cases (known_after ls es marks f) (λ v. v + 1) (numbers 0 (ls.count f)) 0
      (λ v _ is q. eqb-true _ _ (says f v ∙ is) ∙ sym q)
      (λ none q.
      by-test (eqb (get_or r f 0) 0)
      (λ t. eqb-true _ _ t ∙ sym q)
      (λ u.
      let some = eqb-false (get_or r f 0) 0 u in
      let low = small f in
      let v = get_or r f 0 - 1 in
      let has = has_numbers 0 (ls.count f) v (omega arith) (omega (arith, some, low)) in
      clash (eq-eqb (get_or r f 0) (v + 1) (omega (arith, some))) (says f v ∙ none v has)))

pub after_is : (ls : Literals ℕ) (t : Table) (a : ℕ) (marks r : State) → length r ≡ length marks → ((f : ℕ) → get_or r f 0 ≤ ls.count f)
    → ((f v : ℕ) → is_known r f v ≡ known_after ls (effects_of t a) marks f v) → r ≡ state_after ls t a marks
unfolding state_after
after_is ls t a marks r sized small says =
    let mark = mark_after ls (effects_of t a) marks in
    ext_get_or 0 r (map mark (numbers 0 (length marks))) (sized ∙ sym (numbered_length mark 0 (length marks)))
    (λ f near. mark_is ls marks (effects_of t a) r small says f ∙ sym (numbered_at mark (length marks) f 0 (subst (λ (n : ℕ). f < n) sized near)))
