-- The pass over an action's effects gives the state that the definition gives. In its turn an effect adds what it gives by a body known true and
-- takes away what it may undo. Past 16, where the action can be run, no effect takes away what another gives, so that the order of the
-- turns does not matter. Assumes nothing.
use Prim.Native.Nat.{ℕ, ◌+◌, ◌≤◌, ◌<◌}
use native.Mathlib.Omega.{arith}
use native.Mathlib.Decide.{ℕ_discrete}
use mathlib.Core.Path.{◌≡◌, refl, sym, ◌∙◌, ap, subst}
use mathlib.Core.Bool.{Bool, true, false}
use mathlib.Core.List.{List, [], ◌∷◌}
use mathlib.Core.Logic.{inl, inr, ⊎_elim}
use lib.ListN.{length, get_or, set}
use lib.Seq.{get_or-set_same, get_or-set_other, ext_get_or}
use lib.Dec.{eqb}
use borrow.Author.Tests.{eqb-true, eqb-false, eq-eqb, ne_eqb}
use Rattle.meaning.specs.Tests.{both, either, fails, pick, some_of, each_of, Has}
use Rattle.meaning.specs.Limits.{format}
use Rattle.meaning.specs.Limits
use Rattle.meaning.specs.Literals.{says_true, says_false, fluent_of, complement}
use Rattle.meaning.specs.Requests.{Table}
use Rattle.meaning.specs.Lines.{effects_of, given}
use Rattle.meaning.specs.States.{State, mark_of, known, possible, told, can_be_run, known_after, mark_after, state_after}
use Rattle.meaning.proofs.TestLaws.{by-test, both_none, both_all, either_left, either_right, pick_true, pick_false, each_mono}
use Rattle.meaning.proofs.PickLaws.{pick_has}
use Rattle.meaning.proofs.LiteralLaws.{complement_twice, complement_other, fluent_complement, same_fluent}
use Rattle.meaning.proofs.StateLaws.{known_true, known_false, known_one, known_possible, after_length}
use Rattle.meaning.proofs.ApartLaws.{given_apart}
use Rattle.meaning.proofs.ToldLaws.{either_none, told_here, told_elsewhere}
use Rattle.meaning.proofs.PairLaws.{after_mark}
use Rattle.reading.specs.Listed.{listed}
use Rattle.finding.specs.LinesHere.{EffectHere}
use Rattle.reading.proofs.MarkLaws.{mark_most}
use Rattle.steps.specs.Held.{table_in}
use Rattle.steps.specs.AtHand.{AtHand, Marked}
use Rattle.steps.specs.LinesFound.{effect_places, given_at}
use Rattle.steps.proofs.Served.{effects_at_hand}
use Rattle.steps.proofs.Sweeps.{mark_some, undone, swept_one, swept_at}
use Rattle.steps.proofs.LookLaws.{marked_set}
use Rattle.steps.proofs.ActionLaws.{Sweeping, sweep_done}
use Rattle.meaning.specs.declared.Form.TheVariants.{Flags}

-- ONE LITERAL.
-- Told a literal, with the complement of another left alone.
told_one : (x l : ℕ) (next : State) → fluent_of x < length next → (x ≡ complement l → ⊥) → known (told x next) l ≡ either (known next l) (eqb x l)
told_one x l next within other = elim (ℕ_discrete (fluent_of l) (fluent_of x)) [ yes same ↦ ⊎_elim here (λ q. absurd (beside q)) (same_fluent l x same) | no apart ↦ elsewhere apart ]
  where
    here : l ≡ x → known (told x next) l ≡ either (known next l) (eqb x l)
    here q = rw q (told_here x next within ∙ sym (either_right _ _ (eq-eqb x x refl)))

    beside : l ≡ complement x → ⊥
    beside q = other (sym (complement_twice x) ∙ ap complement (sym q))

    elsewhere : (fluent_of l ≡ fluent_of x → ⊥) → known (told x next) l ≡ either (known next l) (eqb x l)
    elsewhere apart = told_elsewhere x next within l apart ∙ sym (rw (ne_eqb x l (λ q. apart (ap fluent_of (sym q)))) (either_none (known next l)))

-- A literal's fluent set unknown.
module _ (f l : ℕ) (next : State) (within : f < length next) where
  forgotten : fluent_of l ≡ f → known (set next f Limits.unknown_mark) l ≡ false
  unfolding known
  forgotten e = rw (e, get_or-set_same next f Limits.unknown_mark Limits.unknown_mark within) (ne_eqb 0 (mark_of l) (λ q. let some = mark_some l in omega arith))

  remembered : (fluent_of l ≡ f → ⊥) → known (set next f Limits.unknown_mark) l ≡ known next l
  unfolding known
  remembered other = ap (λ (m : ℕ). eqb m (mark_of l)) (get_or-set_other next f (fluent_of l) Limits.unknown_mark Limits.unknown_mark other)

module _ (x l : ℕ) (next : State) (within : fluent_of x < length next) where
  undone_same : x ≡ complement l → known (undone x next) l ≡ false
  unfolding undone
  undone_same e =
      pick_has (λ (u : State). known u l ≡ false) _ _ _
      (λ _. forgotten (fluent_of x) l next within (sym (fluent_complement l) ∙ ap fluent_of (sym e)))
      (λ k. ap (known next) (sym (complement_twice l) ∙ ap complement (sym e)) ∙ k)

  undone_other : (x ≡ complement l → ⊥) → known (undone x next) l ≡ known next l
  unfolding undone
  undone_other other =
      pick_has (λ (u : State). known u l ≡ known next l) _ _ _
      (λ k. elim (ℕ_discrete (fluent_of l) (fluent_of x)) [
        | yes same ↦ ⊎_elim (here k) (λ q. absurd (other (sym (complement_twice x) ∙ ap complement (sym q)))) (same_fluent l x same)
        | no apart ↦ remembered (fluent_of x) l next within apart
      ])
      (λ _. refl)
    where
      here : known next (complement x) ≡ true → l ≡ x → known (set next (fluent_of x) Limits.unknown_mark) l ≡ known next l
      here k q = forgotten (fluent_of x) l next within (ap fluent_of q) ∙ sym (ap (known next) (q ∙ sym (complement_twice x)) ∙ known_one next (complement x) k)

  undone_known : known (undone x next) l ≡ both (known next l) (fails (eqb x (complement l)))
  unfolding fails
  undone_known =
      by-test (eqb x (complement l))
      (λ e. undone_same (eqb-true _ _ e) ∙ sym (rw e (both_none (known next l))))
      (λ e. undone_other (eqb-false _ _ e) ∙ sym (rw e (both_all (known next l))))

-- ONE EFFECT, whose body passes the test or not.
module _ (s : List ℕ) (p : ℕ) (line : EffectHere Flags s p) (next : State) (marked : Marked next) where
  abbrev gives : ℕ
  gives = get_or s (p + 1) 0

  fluent_within : fluent_of gives < length next
  unfolding fluent_of
  fluent_within = let below = line.literal in rw marked.sized (omega arith)

  fluent_small : fluent_of gives < format.fluents
  unfolding fluent_of
  fluent_small = let below = line.literal in omega arith

  undone_step : Bool → State
  undone_step b = pick b (λ _. undone gives next) (λ _. next)

  undone_marked : (b : Bool) → Marked (undone_step b)
  unfolding undone_step undone
  undone_marked b =
      pick_has Marked b _ _
      (λ _. pick_has Marked _ _ _ (λ _. marked_set next (fluent_of gives) Limits.unknown_mark marked fluent_small (omega arith)) (λ _. marked))
      (λ _. marked)

  undone_stepped : (b : Bool) (l : ℕ) → known (undone_step b) l ≡ both (known next l) (fails (both (eqb gives (complement l)) b))
  unfolding undone_step fails
  undone_stepped b l =
      by-test b
      (λ e. rw (pick_true _ (λ _. undone gives next) (λ _. next) e) (undone_known gives l next fluent_within ∙ sym (rw (e, both_all (eqb gives (complement l))))))
      (λ e. rw (pick_false _ (λ _. undone gives next) (λ _. next) e) (sym (rw (e, both_none (eqb gives (complement l))) (both_all (known next l)))))

  -- Its turn.
  module _ (marks : State) where
    abbrev sure : Bool
    sure = each_of (known marks) (listed s (p + 2))

    abbrev may : Bool
    may = each_of (possible marks) (listed s (p + 2))

    sure_may : sure ≡ true → may ≡ true
    sure_may = each_mono (known marks) (possible marks) (known_possible marks) (listed s (p + 2))

    swept_marked : Marked (swept_one s marks p next)
    unfolding swept_one told undone_step
    swept_marked =
        pick_has Marked _ _ _
        (λ _. marked)
        (λ _. pick_has Marked _ _ _ (λ _. marked_set next (fluent_of gives) (mark_of gives) marked fluent_small (mark_most gives)) (λ _. undone_marked may))

    module _ (l : ℕ) where
      abbrev After : Bool → Type 0
      After b = b ≡ both (either (known next l) (both (eqb gives l) sure)) (fails (both (eqb gives (complement l)) may))

      -- It gives the complement, and does so or undoes.
      module _ (q : gives ≡ complement l) where
        against : complement gives ≡ l
        against = ap complement q ∙ complement_twice l

        other : eqb gives l ≡ false
        other = ne_eqb _ _ (λ r. complement_other l (sym q ∙ r))

      swept_stepped : After (known (swept_one s marks p next) l)
      unfolding swept_one undone_step both either fails
      swept_stepped = by-test (known next gives) there (λ n. by-test sure (tells n) (undoes n))
        where
          there : known next gives ≡ true → After (known (swept_one s marks p next) l)
          there e =
              ap (λ (u : State). known u l) (pick_true _ _ _ e)
              ∙ by-test (eqb gives (complement l))
              (λ c. let q = eqb-true _ _ c in let n : known next l ≡ false = ap (known next) (sym (against q)) ∙ known_one next gives e in rw (n, other q))
              (λ c. by-test (eqb gives l)
              (λ q. let k : known next l ≡ true = subst (λ (x : ℕ). known next x ≡ true) (eqb-true _ _ q) e in rw (c, k))
              (λ q. sym (rw (c, q) (both_all _ ∙ either_none (known next l)))))

          tells : known next gives ≡ false → sure ≡ true → After (known (swept_one s marks p next) l)
          tells n e =
              ap (λ (u : State). known u l) (pick_false _ _ _ n ∙ pick_true _ _ _ e)
              ∙ by-test (eqb gives (complement l))
              (λ c.
              let q = eqb-true _ _ c in
              let none : known (told gives next) l ≡ false = ap (known (told gives next)) (sym (against q)) ∙ known_one (told gives next) gives (told_here gives next fluent_within) in
              none ∙ sym (rw (c, sure_may e) (both_none (either (known next l) (both (eqb gives l) sure)))))
              (λ c. told_one gives l next fluent_within (eqb-false _ _ c) ∙ sym (rw (c, e) (both_all _ ∙ ap (either (known next l)) (both_all (eqb gives l)))))

          undoes : known next gives ≡ false → sure ≡ false → After (known (swept_one s marks p next) l)
          undoes n e =
              let nothing : either (known next l) (both (eqb gives l) sure) ≡ known next l = rw (e, both_none (eqb gives l)) (either_none (known next l)) in
              ap (λ (u : State). known u l) (pick_false _ _ _ n ∙ pick_false _ _ _ e)
              ∙ undone_stepped may l
              ∙ ap (λ (b : Bool). both b (fails (both (eqb gives (complement l)) may))) (sym nothing)

-- ALL THE EFFECTS. What one gives, no later one undoes.
in_turn : (n g h gs hs : Bool) → (gs ≡ true → h ≡ true → ⊥) → both (either (both (either n g) (fails h)) gs) (fails hs) ≡ both (either n (either g gs)) (fails (either h hs))
unfolding both either fails
in_turn n g true true hs apart = absurd (apart refl refl)
in_turn true g true false hs apart = refl
in_turn false true true false hs apart = refl
in_turn false false true false hs apart = refl
in_turn true g false gs hs apart = refl
in_turn false true false gs hs apart = refl
in_turn false false false gs hs apart = refl

module _ (s : List ℕ) (marks : State) where
  swept_at_marked : (ps : List ℕ) → ((p : ℕ) → Has ps p → EffectHere Flags s p) → (next : State) → Marked next → Marked (swept_at s marks ps next)
  unfolding swept_at
  swept_at_marked [] lines next marked = marked
  swept_at_marked (p ∷ ps) lines next marked = swept_at_marked ps (λ q h. lines q (inr h)) _ (swept_marked s p (lines p (inl refl)) next marked marks)

  swept_known : (ps : List ℕ) → ((p : ℕ) → Has ps p → EffectHere Flags s p) → (next : State) → Marked next → (l : ℕ)
      → (given_at s (known marks) ps l ≡ true → given_at s (possible marks) ps (complement l) ≡ true → ⊥)
      → known (swept_at s marks ps next) l ≡ both (either (known next l) (given_at s (known marks) ps l)) (fails (given_at s (possible marks) ps (complement l)))
  unfolding swept_at given_at some_of fails
  swept_known [] lines next marked l apart = sym (both_all _ ∙ either_none (known next l))
  swept_known (p ∷ ps) lines next marked l apart =
      let line = lines p (inl refl) in
      swept_known ps (λ q h. lines q (inr h)) _ (swept_marked s p line next marked marks) l (λ g h. apart (either_right _ _ g) (either_right _ _ h))
      ∙ ap (λ (c : Bool). both (either c (given_at s (known marks) ps l)) (fails (given_at s (possible marks) ps (complement l)))) (swept_stepped s p line next marked marks l)
      ∙ in_turn (known next l) _ _ _ _ (λ g h. apart (either_right _ _ g) (either_left _ _ h))

-- A mark is told by what is known of its fluent.
pub mark_told : (m : ℕ) → m ≤ 2 → m ≡ pick (eqb m 1) (λ _. 1) (λ _. pick (eqb m 2) (λ _. 2) (λ _. 0))
mark_told m most =
    by-test (eqb m 1)
    (λ e. eqb-true _ _ e ∙ sym (pick_true _ _ _ e))
    (λ e. by-test (eqb m 2)
    (λ f. eqb-true _ _ f ∙ sym (pick_false _ _ _ e ∙ pick_true _ _ _ f))
    (λ f. let one = eqb-false m 1 e in let two = eqb-false m 2 f in let none : m ≡ 0 = omega arith in none ∙ sym (pick_false _ _ _ e ∙ pick_false _ _ _ f)))

module _ (s : List ℕ) (marks : State) (marked : Marked marks) (ps : List ℕ) (lines : (p : ℕ) → Has ps p → EffectHere Flags s p) (t : Table) (a : ℕ)
    (same : (test : ℕ → Bool) (l : ℕ) → given_at s test ps l ≡ given test (effects_of t a) l) where
  module _ (r : State) (fine : Marked r) (says : (l : ℕ) → known r l ≡ known_after (effects_of t a) marks l) where
    mark_is : (f : ℕ) → get_or r f 0 ≡ mark_after (effects_of t a) marks f
    unfolding mark_after
    mark_is f =
        mark_told (get_or r f 0) (fine.small f)
        ∙ rw (sym (known_true r f), sym (known_false r f), says (says_true f), says (says_false f))

    state_is : r ≡ state_after t a marks
    state_is =
        ext_get_or 0 r (state_after t a marks) (fine.sized ∙ sym (after_length t a marks ∙ marked.sized))
        (λ f h. mark_is f ∙ sym (after_mark t a marks f (let e = fine.sized in let g = marked.sized in omega arith)))

  -- Where no two effects meet, what is left is the state after.
  swept_after : ((l : ℕ) → given (known marks) (effects_of t a) l ≡ true → given (possible marks) (effects_of t a) (complement l) ≡ true → ⊥) → swept_at s marks ps marks ≡ state_after t a marks
  unfolding known_after
  swept_after apart =
      state_is _ (swept_at_marked s marks ps lines marks marked) λ l.
      swept_known s marks ps lines marks marked l (λ g h. apart l (sym (same (known marks) l) ∙ g) (sym (same (possible marks) (complement l)) ∙ h))
      ∙ rw (same (known marks) l, same (possible marks) (complement l))

-- What the test of an action said.
pub runs_there : (t : Table) (a : ℕ) (marks : State) (runs : Bool) → runs ≡ can_be_run t a marks → runs ≡ true → can_be_run t a marks ≡ true
runs_there t a marks runs asked e = sym asked ∙ e

pub after_swept : (s t : List ℕ) (a : ℕ) (marks next : State) (k : ℕ) → AtHand Flags s t → Marked marks → can_be_run (table_in Flags s) a marks ≡ true
    → Sweeping s t a marks next k → k ≤ 0 → next ≡ state_after (table_in Flags s) a marks
after_swept s t a marks next k here marked runs sweeps h =
    let all = effects_at_hand s t here a in
    sym (sweep_done s t a marks next k sweeps h)
    ∙ swept_after s marks marked (effect_places Flags s a) all.lines (table_in Flags s) a all.same (given_apart (table_in Flags s) here.no_contradiction a marks runs)
