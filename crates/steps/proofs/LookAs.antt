-- The sensed fluents that are unknown, as the form has it: a fluent is known where there is a mark of it, so those from a fluent up are found by their marks, and what an action senses
-- is in the notes. Assumes nothing.
use Prim.Native.Nat.{ℕ, zero, suc, ◌+◌, ◌-◌, ◌≤◌, ◌<◌}
use native.Mathlib.Omega.{arith}
use mathlib.Core.Path.{◌≡◌, refl, sym, ◌∙◌, ap}
use mathlib.Core.Bool.{Bool, true, false}
use mathlib.Core.List.{List, [], ◌∷◌}
use lib.ListN.{length, get_or, set, length-set}
use lib.Seq.{get_or-set_other}
use lib.Dec.{eqb, ltb}
use borrow.Author.Tests.{eqb-true, eq-eqb, lt-ltb, le-ltb, ltb-true}
use Rattle.meaning.specs.Tests.{both, fails, pick, some_of, those_of}
use Rattle.meaning.specs.Limits.{format}
use Rattle.meaning.specs.Lines.{knowledge_of, sensing, senses}
use Rattle.meaning.specs.declared.Form.{Form}
use Rattle.meaning.specs.declared.Form.TheVariants.{Flags, Valued}
use Rattle.meaning.specs.Reading.{values_in, literals_in}
use Rattle.meaning.specs.Values.{numbers, values_of}
use Rattle.meaning.specs.States.{State, known_whether}
use Rattle.meaning.specs.ValueStates as Value
use Rattle.meaning.proofs.TestLaws.{by-test, clash, same_test, both_left, both_right, both_true, fails_true, fails_false, pick_true, pick_false, some_has, has_some}
use Rattle.meaning.proofs.ValueLaws.{has_numbers}
use Rattle.reading.specs.Noted.{sensed_from, sensed_to, pair_there}
use Rattle.steps.specs.Held.{table_in}
use Rattle.steps.specs.AtHand.{AtHand, MarkedAs}
use Rattle.steps.specs.LinesFound.{Senses}
use Rattle.steps.specs.Steps.{unknown_as, all_unknown, first_of, has_mark}
use Rattle.steps.proofs.UnknownFirst
use Rattle.steps.proofs.LookLaws
use Rattle.steps.proofs.LookLaws.{unmarked_unknown, marked_known}

-- WHETHER A FLUENT IS KNOWN, which its mark tells.
abbrev pub whether_as : Form → List ℕ → State → ℕ → Bool
whether_as Flags s = known_whether
whether_as Valued s = Value.known_whether (literals_in s)

pub marked_whether : (form : Form) (s marks : State) → MarkedAs form s marks → (f : ℕ) → has_mark marks f ≡ whether_as form s marks f
unfolding has_mark Value.known_whether Value.known_as Value.is_known values_of
marked_whether Flags s marks marked f =
    same_test _ _
    (λ e. marked_known marks f marked (λ none. let some = ltb-true 0 (get_or marks f 0) e in omega (arith, some, none)))
    (λ e. by-test (eqb (get_or marks f 0) 0) (λ z. clash e (unmarked_unknown marks f (eqb-true _ _ z))) (λ z. lt-ltb 0 (get_or marks f 0) (above z)))
  where
    above : eqb (get_or marks f 0) 0 ≡ false → 0 < get_or marks f 0
    above z = by_index (get_or marks f 0) z
      where
        by_index : (m : ℕ) → eqb m 0 ≡ false → 0 < m
        by_index zero e = clash (eq-eqb 0 0 refl) e
        by_index (suc m) e = omega arith
marked_whether Valued s marks marked f =
    same_test _ _
    (λ e.
    let some = ltb-true 0 (get_or marks f 0) e in
    let most = marked.small f in
    has_some _ (numbers 0 (values_in s f)) (get_or marks f 0 - 1) (has_numbers 0 (values_in s f) (get_or marks f 0 - 1) (omega arith) (omega arith))
    (both_true (eqb (get_or marks f 0) (get_or marks f 0 - 1 + 1)) true (eq-eqb (get_or marks f 0) (get_or marks f 0 - 1 + 1) (omega arith)) refl))
    (λ e.
    let w = some_has _ (numbers 0 (values_in s f)) e in
    let is = eqb-true (get_or marks f 0) (w.0 + 1) (both_left _ _ w.2) in
    lt-ltb 0 (get_or marks f 0) (omega (arith, is)))

module _ (form : Form) (s marks : State) (marked : MarkedAs form s marks) (f : ℕ) where
  pub none_known : get_or marks f 0 ≡ 0 → whether_as form s marks f ≡ false
  unfolding has_mark
  none_known none = sym (marked_whether form s marks marked f) ∙ le-ltb 0 (get_or marks f 0) (omega (arith, none))

  pub some_known : (get_or marks f 0 ≡ 0 → ⊥) → whether_as form s marks f ≡ true
  unfolding has_mark
  some_known some = sym (marked_whether form s marks marked f) ∙ lt-ltb 0 (get_or marks f 0) (omega (arith, some))

-- THE UNKNOWN SENSED FLUENTS, from one up.
sized_as : (form : Form) (s marks : State) → MarkedAs form s marks → length marks ≡ format.fluents
sized_as Flags s marks marked = marked.sized
sized_as Valued s marks marked = marked.sized

abbrev reads_as : Form → List ℕ → ℕ → State → ℕ → Bool
reads_as form s a marks f = both (senses (knowledge_of (table_in form s) a) f) (fails (whether_as form s marks f))

step_as : (form : Form) (s : List ℕ) (a : ℕ) (marks : State) → MarkedAs form s marks → (f : ℕ) → f < format.fluents
    → unknown_as form s a marks f ≡ pick (reads_as form s a marks f) (λ _. f ∷ unknown_as form s a marks (f + 1)) (λ _. unknown_as form s a marks (f + 1))
unfolding those_of numbers
step_as Flags s a marks marked f near = LookLaws.unknown_step (table_in Flags s) a marks marked f near
step_as Valued s a marks marked f near =
    let sized = marked.sized in
    let left : length marks - f ≡ suc (length marks - (f + 1)) = omega arith in
    ap (λ (k : ℕ). those_of (reads_as Valued s a marks) (numbers f k)) left

far_as : (form : Form) (s : List ℕ) (a : ℕ) (marks : State) → MarkedAs form s marks → (f : ℕ) → format.fluents ≤ f → unknown_as form s a marks f ≡ []
unfolding those_of numbers
far_as Flags s a marks marked f past = LookLaws.unknown_far (table_in Flags s) a marks marked f past
far_as Valued s a marks marked f past =
    let sized = marked.sized in
    let left : length marks - f ≡ 0 = omega arith in
    ap (λ (k : ℕ). those_of (reads_as Valued s a marks) (numbers f k)) left

all_as : (form : Form) (s : List ℕ) (a : ℕ) (marks : State) → all_unknown form s a marks ≡ unknown_as form s a marks 0
unfolding Value.unknown_sensed
all_as Flags s a marks = LookLaws.unknown_all (table_in Flags s) a marks
all_as Valued s a marks =
    let left : length marks ≡ length marks - 0 = omega arith in
    ap (λ (k : ℕ). those_of (reads_as Valued s a marks) (numbers 0 k)) left

-- Fluents before those looked at may be set.
those_alike : (test other : ℕ → Bool) (n f : ℕ) → ((g : ℕ) → f ≤ g → test g ≡ other g) → those_of test (numbers f n) ≡ those_of other (numbers f n)
unfolding those_of numbers
those_alike test other zero f alike = refl
those_alike test other (suc n) f alike = rw (alike f (omega arith), those_alike test other n (f + 1) (λ g h. alike g (omega arith)))

pub unknown_set_as : (form : Form) (s : List ℕ) (a : ℕ) (marks : State) (f m : ℕ) → unknown_as form s a (set marks f m) (f + 1) ≡ unknown_as form s a marks (f + 1)
unfolding Value.known_whether Value.known_as Value.is_known
unknown_set_as Flags s a marks f m = LookLaws.unknown_after_set (table_in Flags s) a marks f m
unknown_set_as Valued s a marks f m =
    ap (λ (k : ℕ). those_of (reads_as Valued s a (set marks f m)) (numbers (f + 1) (k - (f + 1)))) (length-set marks f m)
    ∙ those_alike (reads_as Valued s a (set marks f m)) (reads_as Valued s a marks) (length marks - (f + 1)) (f + 1)
    (λ g h. ap (λ (n : ℕ). both (senses (knowledge_of (table_in Valued s) a) g) (fails (some_of (λ (v : ℕ). both (eqb n (v + 1)) true) (values_of (literals_in s) g)))) (get_or-set_other marks f g m 0 (λ e. omega (arith, e, h))))

module _ (form : Form) (s : List ℕ) (a : ℕ) (marks : State) (marked : MarkedAs form s marks) where
  module _ (f g : ℕ) (first : g ≡ first_of (unknown_as form s a marks f)) where
    pub unknown_first_as : g < format.fluents → unknown_as form s a marks f ≡ g ∷ unknown_as form s a marks (g + 1)
    unknown_first_as = UnknownFirst.unknown_first (unknown_as form s a marks) (reads_as form s a marks) (step_as form s a marks marked) (far_as form s a marks marked) f g first

    pub unknown_above_as : g < format.fluents → f ≤ g
    unknown_above_as = UnknownFirst.unknown_first_above (unknown_as form s a marks) (reads_as form s a marks) (step_as form s a marks marked) (far_as form s a marks marked) f g first

    -- It has no mark.
    pub unknown_unmarked_as : g < format.fluents → get_or marks g 0 ≡ 0
    unfolding fails
    unknown_unmarked_as near =
        let passes = UnknownFirst.unknown_first_passes (unknown_as form s a marks) (reads_as form s a marks) (step_as form s a marks marked) (far_as form s a marks marked) f g first near in
        by-test (eqb (get_or marks g 0) 0)
        (λ none. eqb-true _ _ none)
        (λ some. clash (both_right _ _ passes) (ap fails (some_known form s marks marked g (λ none. clash (eq-eqb _ _ none) some))))

    pub unknown_none_as : format.fluents ≤ g → unknown_as form s a marks f ≡ []
    unknown_none_as = UnknownFirst.unknown_no_first (unknown_as form s a marks) (reads_as form s a marks) (step_as form s a marks marked) (far_as form s a marks marked) f g first

  module _ (g : ℕ) (first : g ≡ first_of (all_unknown form s a marks)) where
    from_none : g ≡ first_of (unknown_as form s a marks 0)
    from_none = first ∙ ap first_of (all_as form s a marks)

    pub sensed_first_as : g < format.fluents → all_unknown form s a marks ≡ g ∷ unknown_as form s a marks (g + 1)
    sensed_first_as near = all_as form s a marks ∙ unknown_first_as 0 g from_none near

    pub sensed_none_as : format.fluents ≤ g → all_unknown form s a marks ≡ []
    sensed_none_as past = all_as form s a marks ∙ unknown_none_as 0 g from_none past

-- THE TABLE of what an action senses.
module _ {form : Form} (s t : List ℕ) (a : ℕ) (here : AtHand form s t) (small : a < format.actions) where
  served : Senses form s t a
  served = here.senses a small

  pub sensing_is : (end : ℕ) → end ≡ get_or t (sensed_to + a) 0 → ltb 0 end ≡ sensing (table_in form s) a
  sensing_is end at = ap (ltb 0) at ∙ served.any

  pub looks_is : (f : ℕ) (there : Bool) → f < format.fluents → there ≡ pair_there t a f → there ≡ senses (knowledge_of (table_in form s) a) f
  looks_is f there near at = at ∙ served.pair f near

  module _ (end f : ℕ) (at : end ≡ get_or t (sensed_to + a) 0) (more : f < end) where
    pub fluent_near : f < format.fluents
    fluent_near = let last = served.last in omega arith

  module _ (back : ℕ) (at : back ≡ get_or t (sensed_from + a) 0) where
    pub back_within : back ≤ format.fluents
    back_within = let most = served.most in omega arith

    pub first_from : (marks : State) (r : ℕ) → MarkedAs form s marks → r ≡ first_of (unknown_as form s a marks (format.fluents - back)) → r ≡ first_of (all_unknown form s a marks)
    first_from marks r marked is =
        is ∙ ap first_of (sym (all_as form s a marks
        ∙ UnknownFirst.skipped (unknown_as form s a marks) (reads_as form s a marks) (step_as form s a marks marked) (far_as form s a marks marked) (format.fluents - back) (omega arith)
        (λ g h. by-test (reads_as form s a marks g) (λ e. let from = served.from g (both_left _ _ e) in absurd (omega arith)) (λ e. e))))

-- THE SEARCH from a fluent up: what is first there is first from fluent f up, whatever form the request has.
pub record Sought (s t : List ℕ) (a : ℕ) (marks : State) (from f : ℕ) : Type 0 where
  pub each : (form : Form) → AtHand form s t → MarkedAs form s marks → first_of (unknown_as form s a marks from) ≡ first_of (unknown_as form s a marks f)

pub sought_starts : (s t : List ℕ) (a : ℕ) (marks : State) (from : ℕ) → Sought s t a marks from from
sought_starts s t a marks from = record { each = λ form here marked. refl }

module _ (s t : List ℕ) (a : ℕ) (small : a < format.actions) (marks : State) (from f : ℕ) (so_far : Sought s t a marks from f) (end : ℕ) (at : end ≡ get_or t (sensed_to + a) 0) where
  pub look_marked : f < end → (get_or marks f 0 ≡ 0 → ⊥) → Sought s t a marks from (f + 1)
  look_marked more some = record {
    each = λ form here marked.
        so_far.each form here marked
        ∙ ap first_of (step_as form s a marks marked f (fluent_near s t a here small end f at more)
        ∙ pick_false _ _ _ (by-test (reads_as form s a marks f) (λ e. clash (some_known form s marks marked f some) (fails_true _ (both_right _ _ e))) (λ e. e)));
  }

  module _ (more : f < end) (there : Bool) (read : there ≡ pair_there t a f) where
    pub look_unsensed : there ≡ false → Sought s t a marks from (f + 1)
    unfolding both
    look_unsensed none = record {
      each = λ form here marked.
          so_far.each form here marked
          ∙ ap first_of (step_as form s a marks marked f (fluent_near s t a here small end f at more)
          ∙ pick_false _ _ _ (ap (λ (b : Bool). both b (fails (whether_as form s marks f))) (sym (looks_is s t a here small f there (fluent_near s t a here small end f at more) read) ∙ none)));
    }

    pub look_found : (form : Form) → AtHand form s t → MarkedAs form s marks → get_or marks f 0 ≡ 0 → there ≡ true → f ≡ first_of (unknown_as form s a marks from)
    unfolding first_of
    look_found form here marked none some =
        let near = fluent_near s t a here small end f at more in
        sym (so_far.each form here marked
        ∙ ap first_of (step_as form s a marks marked f near
        ∙ pick_true _ _ _ (both_true _ _ (sym (looks_is s t a here small f there near read) ∙ some) (fails_false _ (none_known form s marks marked f none)))))

  pub look_done : end ≤ f → (form : Form) → AtHand form s t → MarkedAs form s marks → format.fluents ≡ first_of (unknown_as form s a marks from)
  unfolding first_of
  look_done done form here marked =
      sym (so_far.each form here marked
      ∙ ap first_of (UnknownFirst.none_from (unknown_as form s a marks) (reads_as form s a marks) (step_as form s a marks marked) (far_as form s a marks marked) f
      (λ g h. by-test (reads_as form s a marks g) (λ e. let less = (here.senses a small).to g (both_left _ _ e) in absurd (omega arith)) (λ e. e))))
