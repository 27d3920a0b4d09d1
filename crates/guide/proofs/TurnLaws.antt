-- What a call makes of a guide whose request is at hand: what each way through the code gives is what the definition gives. Assumes nothing.
use Prim.Native.Nat.{ℕ, ◌+◌, ◌≤◌, ◌<◌}
use native.Mathlib.Omega.{arith}
use mathlib.Core.Path.{◌≡◌, refl, sym, ◌∙◌, ap, subst}
use mathlib.Core.Bool.{Bool, true, false}
use Rattle.std.specs.Prelude.{Option, Some, None}
use mathlib.Core.List.{List, []}
use lib.ListN.{length, get_or}
use lib.Dec.{eqb}
use borrow.Author.Tests.{lt-ltb, le-ltb, eq-eqb, ne_eqb, eqb-false}
use Rattle.meaning.specs.declared.Answer.{Answer}
use Rattle.meaning.specs.Limits.{format}
use Rattle.meaning.specs.Tests.{pick, some_of}
use Rattle.meaning.specs.Requests.{Sequence}
use Rattle.meaning.specs.Lines.{sensing}
use Rattle.meaning.specs.States.{State, told_all, can_be_run, state_after}
use Rattle.meaning.proofs.TestLaws.{pick_true, pick_false}
use Rattle.walking.specs.Walks.{action_at}
use Rattle.steps.specs.Held.{table_in, plan_in}
use Rattle.steps.specs.AtHand.{Marked}
use Rattle.steps.specs.Rests.{rest_at, after_first}
use Rattle.steps.specs.Steps.{Followed}
use Rattle.steps.proofs.LookLaws.{marked_after}
use Rattle.guidance.specs.declared.Told.{Told}
use Rattle.guidance.specs.declared.Told.TheVariants.{Do, Done, Refused}
use Rattle.guidance.specs.Guides.{Guide, going, Turn, Ahead, an_action, of_guide, not_verified, wrong_number, against_known, ahead, sensed, literals_read, against, state_done, stays, met, take_over}
use Rattle.guide.specs.declared.going.Ahead as Code
use Rattle.guide.specs.declared.going.Ahead.TheVariants.{End, Action, NoBranch}
use Rattle.guide.specs.declared.going.Step.{Step}
use Rattle.guide.specs.declared.sensed.Fluents.{Fluents}
use Rattle.guide.specs.GuideHeld.{came, ItemThere, ActionThere, asked_by, fluents_of, on_the_way, guide_after, turned, meets, takes, GoesAfter, Turns}
use Rattle.guide.proofs.SensedReadLaws.{told_count}
use Rattle.meaning.specs.declared.Form.TheVariants.{Flags}

-- THE FLUENTS whose readings come after an action, and none where there is no action.
module _ (s : List ℕ) where
  pub asked_some : (a : ℕ) → a < format.actions → asked_by (table_in Flags s) (Some a) ≡ sensed format (table_in Flags s) a
  unfolding asked_by
  asked_some a small = pick_true _ _ _ (lt-ltb a format.actions small)

  pub asked_none : asked_by (table_in Flags s) None ≡ []
  unfolding asked_by
  asked_none = refl

  module _ (action : Option ℕ) where
    pub after_some : (a : ℕ) → action ≡ Some a → a < format.actions → asked_by (table_in Flags s) action ≡ sensed format (table_in Flags s) a
    after_some a is small = ap (asked_by (table_in Flags s)) is ∙ asked_some a small

    pub after_large : (a : ℕ) → action ≡ Some a → format.actions ≤ a → asked_by (table_in Flags s) action ≡ []
    unfolding asked_by
    after_large a is large = ap (asked_by (table_in Flags s)) is ∙ pick_false _ _ _ (le-ltb a format.actions large)

    pub after_none : action ≡ None → asked_by (table_in Flags s) action ≡ []
    after_none is = ap (asked_by (table_in Flags s)) is ∙ asked_none

-- A refusal with an answer of the guide's own.
pub refused_own : (n : ℕ) (x : Answer) (r : Step) → x ≡ of_guide n → r.told ≡ Refused x → r.told ≡ Refused (of_guide n)
refused_own n x r is told = told ∙ ap Refused is

-- A REFUSAL leaves the guide as it is, whichever it is.
module _ (s t : List ℕ) (r : Step) where
  pub refused_stays : (n : ℕ) → r.told ≡ Refused (of_guide n) → Turns s t r (λ g. stays g n)
  unfolding turned guide_after stays GoesAfter
  refused_stays n is = record { is = λ g. ap (λ (x : Told). record { guide = guide_after (on_the_way s t) g r x; told = x }) is; goes = subst (GoesAfter s t r) (sym is) tt }

-- AN ACTION that is item i, at p.
pub can_run : (s : List ℕ) (a : ℕ) (state : State) (runs : Bool) → runs ≡ can_be_run (table_in Flags s) a state → runs ≡ true → can_be_run (table_in Flags s) a state ≡ true
can_run s a state runs ran is = sym ran ∙ is

module _ (s t : List ℕ) (i : ℕ) (there : ItemThere s t i) (p : ℕ) (placed : p ≡ get_or t (0 + i) 0) (a : ℕ) (is_action : a ≡ get_or s p 0) where
  action_is : action_at s t i ≡ a
  unfolding action_at
  action_is = sym (is_action ∙ ap (λ (q : ℕ). get_or s q 0) placed)

  pub action_low : a < format.actions
  action_low = let low = there.acts in let same = action_is in omega arith

  module _ (state : State) (runs : Bool) (ran : runs ≡ can_be_run (table_in Flags s) a state) where
    abbrev meets_item : Guide → Turn
    meets_item = meets s state (an_action (action_at s t i) (after_first (rest_at (plan_in Flags s t) i)))

    meets_it : (g : Guide) → meets_item g ≡ met format (table_in Flags s) g state (an_action a (after_first (rest_at (plan_in Flags s t) i)))
    unfolding meets
    meets_it g = ap (λ (n : ℕ). met format (table_in Flags s) g state (an_action n (after_first (rest_at (plan_in Flags s t) i)))) action_is

    -- It cannot be run.
    pub item_refused : runs ≡ false → (r : Step) → r.told ≡ Refused (of_guide not_verified) → Turns s t r meets_item
    unfolding met
    item_refused not r is =
        let refused = refused_stays s t r not_verified is in
        record { is = λ g. refused.is g ∙ sym (meets_it g ∙ pick_false _ _ _ (sym ran ∙ not)); goes = refused.goes }

    -- It is answered, and the guide goes on behind it with what is known when it is done.
    module _ (can : runs ≡ true) (at : ℕ) (follows : Followed Flags s t i at) where
      does_it : (marks : State) → state_done (table_in Flags s) a state ≡ marks → Marked marks → Turns s t (record { told = Do a; action = Some a; at = at; marks = marks }) meets_item
      unfolding met turned guide_after on_the_way GoesAfter
      does_it marks done marked = record {
        is = λ g.
            ap (λ (fs : List ℕ). record { guide = going (table_in Flags s) fs (rest_at (plan_in Flags s t) at) marks; told = Do a }) (asked_some s a action_low)
            ∙ ap (λ (b : Sequence ℕ). record { guide = going (table_in Flags s) (sensed format (table_in Flags s) a) b marks; told = Do a }) follows.rest
            ∙ ap (λ (m : State). record { guide = going (table_in Flags s) (sensed format (table_in Flags s) a) (after_first (rest_at (plan_in Flags s t) i)) m; told = Do a }) (sym done)
            ∙ sym (meets_it g ∙ pick_true _ _ _ (sym ran ∙ can));
        goes = record { at = follows.at; marked = marked };
      }

      module _ (senses : Bool) (says : senses ≡ sensing (table_in Flags s) a) (marked : Marked state) where
        pub item_sensing : senses ≡ true → Turns s t (record { told = Do a; action = Some a; at = at; marks = state }) meets_item
        unfolding state_done
        item_sensing does = does_it state (pick_true _ _ _ (sym says ∙ does)) marked

        pub item_acting : senses ≡ false → (after : State) → after ≡ state_after (table_in Flags s) a state → Turns s t (record { told = Do a; action = Some a; at = at; marks = after }) meets_item
        unfolding state_done
        item_acting not after is = does_it after (pick_false _ _ _ (sym says ∙ not) ∙ sym is) (subst Marked (sym is) (marked_after (table_in Flags s) a state marked))

-- FROM A POSITION ON, by what comes next there.
pub item_ahead : (s t : List ℕ) (x : Code.Ahead) → ActionThere s t x → (i : ℕ) → x ≡ Action i → ItemThere s t i
unfolding ActionThere
item_ahead s t x acts i is = subst (ActionThere s t) is acts

module _ (s t : List ℕ) (state : State) (b : Sequence ℕ) (x : Code.Ahead) (comes : came s t x ≡ ahead state b) where
  abbrev comes_to : Guide → Turn
  comes_to = meets s state (ahead state b)

  by_came : (y : Code.Ahead) → x ≡ y → (g : Guide) → meets s state (came s t y) g ≡ comes_to g
  by_came y is g = ap (λ (z : Code.Ahead). meets s state (came s t z) g) (sym is) ∙ ap (λ (z : Ahead). meets s state z g) comes

  pub comes_end : x ≡ End → (a : Option ℕ) (at : ℕ) → Turns s t (record { told = Done; action = a; at = at; marks = state }) comes_to
  unfolding came meets met turned guide_after GoesAfter
  comes_end is a at = record { is = λ g. by_came End is g; goes = tt }

  pub comes_action : (i : ℕ) → x ≡ Action i → (r : Step) → Turns s t r (meets s state (an_action (action_at s t i) (after_first (rest_at (plan_in Flags s t) i)))) → Turns s t r comes_to
  unfolding came
  comes_action i is r turns = record { is = λ g. turns.is g ∙ by_came (Action i) is g; goes = turns.goes }

  pub comes_nowhere : x ≡ NoBranch → (r : Step) → r.told ≡ Refused (of_guide not_verified) → Turns s t r comes_to
  unfolding came meets met
  comes_nowhere is r refused = let stay = refused_stays s t r not_verified refused in record { is = λ g. stay.is g ∙ by_came NoBranch is g; goes = stay.goes }

-- THE READINGS of a call.
module _ (s t : List ℕ) (action : Option ℕ) (at : ℕ) (marks : State) (bytes : List ℕ) where
  abbrev pub answers : Guide → Turn
  answers = takes s t action at marks bytes

  -- By the fluents that are asked for.
  takes_them : (fs : List ℕ) → asked_by (table_in Flags s) action ≡ fs → (g : Guide) → take_over format (table_in Flags s) g fs (rest_at (plan_in Flags s t) at) marks bytes ≡ answers g
  unfolding takes
  takes_them fs is g = ap (λ (asked : List ℕ). take_over format (table_in Flags s) g asked (rest_at (plan_in Flags s t) at) marks bytes) (sym is)

  -- 41, where there are more or fewer of them.
  other_number : (fs : List ℕ) → asked_by (table_in Flags s) action ≡ fs → (length bytes ≡ length fs → ⊥) → (r : Step) → r.told ≡ Refused (of_guide wrong_number) → Turns s t r answers
  unfolding take_over
  other_number fs is other r refused =
      let stay = refused_stays s t r wrong_number refused in
      record { is = λ g. stay.is g ∙ sym (pick_false _ _ _ (ne_eqb (length bytes) (length fs) other)) ∙ takes_them fs is g; goes = stay.goes }

  -- After an action.
  module _ (a : ℕ) (after : asked_by (table_in Flags s) action ≡ sensed format (table_in Flags s) a) where
    pub number_other : (due : Fluents) → due ≡ fluents_of (sensed format (table_in Flags s) a) → (length bytes ≡ due.count → ⊥) → (r : Step) → r.told ≡ Refused (of_guide wrong_number) → Turns s t r answers
    unfolding fluents_of
    number_other due is other = other_number (sensed format (table_in Flags s) a) after (λ same. other (same ∙ sym (ap (λ (x : Fluents). x.count) is)))

    module _ (due : Fluents) (are : due ≡ fluents_of (sensed format (table_in Flags s) a)) (as_many : length bytes ≡ due.count) (wrong : Bool) (says : wrong ≡ against marks (literals_read (sensed format (table_in Flags s) a) bytes)) where
      takes_all : (g : Guide) → pick (against marks (literals_read (sensed format (table_in Flags s) a) bytes)) (λ _. stays g against_known)
          (λ _. met format (table_in Flags s) g (told_all (literals_read (sensed format (table_in Flags s) a) bytes) marks) (ahead (told_all (literals_read (sensed format (table_in Flags s) a) bytes) marks) (rest_at (plan_in Flags s t) at)))
          ≡ answers g
      unfolding take_over
      takes_all g = sym (pick_true _ _ _ (eq-eqb (length bytes) (length (sensed format (table_in Flags s) a)) (told_count due (sensed format (table_in Flags s) a) are (length bytes) as_many))) ∙ takes_them (sensed format (table_in Flags s) a) after g

      -- 42, where a reading is against what is known.
      pub reads_against : wrong ≡ true → (r : Step) → r.told ≡ Refused (of_guide against_known) → Turns s t r answers
      reads_against is r refused =
          let stay = refused_stays s t r against_known refused in
          record { is = λ g. stay.is g ∙ sym (pick_true _ _ _ (sym says ∙ is)) ∙ takes_all g; goes = stay.goes }

      pub reads_on : wrong ≡ false → (state : State) → state ≡ told_all (literals_read (sensed format (table_in Flags s) a) bytes) marks → (r : Step)
          → Turns s t r (meets s state (ahead state (rest_at (plan_in Flags s t) at))) → Turns s t r answers
      unfolding meets
      reads_on not state taken r turns =
          record { is = λ g. turns.is g ∙ ap (λ (m : State). met format (table_in Flags s) g m (ahead m (rest_at (plan_in Flags s t) at))) taken ∙ sym (pick_false _ _ _ (sym says ∙ not)) ∙ takes_all g; goes = turns.goes }

  -- Where there was no action.
  module _ (no : asked_by (table_in Flags s) action ≡ []) where
    pub number_some : (none : Bool) → none ≡ eqb (length bytes) 0 → none ≡ false → (r : Step) → r.told ≡ Refused (of_guide wrong_number) → Turns s t r answers
    number_some none says some = other_number [] no (eqb-false _ _ (sym says ∙ some))

    pub reads_none : (none : Bool) → none ≡ eqb (length bytes) 0 → none ≡ true → (r : Step) → Turns s t r (meets s marks (ahead marks (rest_at (plan_in Flags s t) at))) → Turns s t r answers
    unfolding meets take_over against some_of literals_read told_all
    reads_none none says is r turns =
        record { is = λ g. turns.is g ∙ sym (pick_true _ _ _ (sym says ∙ is) ∙ pick_false _ _ _ refl) ∙ takes_them [] no g; goes = turns.goes }
