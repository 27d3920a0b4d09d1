-- The walk of a request at hand: the tally that it leaves stands as a walk from the whole budget does, so what is told of it is what the definition
-- says of the walk within the budget. Assumes nothing.
use Prim.Native.Nat.{ℕ, ◌+◌, ◌-◌, ◌≤◌, ◌<◌}
use native.Mathlib.Omega.{arith}
use mathlib.Core.Path.{◌≡◌, refl, sym, ◌∙◌, ap, subst}
use mathlib.Core.Bool.{true, false}
use mathlib.Core.List.{List, map}
use lib.ListN.{length, get_or}
use lib.Dec.{ltb}
use mir.Syntax.{w64}
use mir.Val.{Fits}
use borrow.Author.Tests.{ltb-false}
use Rattle.meaning.specs.declared.Answer.{Answer}
use Rattle.meaning.specs.Tests.{those_of}
use Rattle.meaning.specs.Limits
use Rattle.meaning.specs.Limits.{format}
use Rattle.meaning.specs.Reading.{literals_in}
use Rattle.meaning.specs.Values.{numbers, values_of, fits}
use Rattle.meaning.specs.ValueStates.{mark_left}
use Rattle.meaning.specs.States.{State}
use Rattle.meaning.specs.Walk.{no_state, in_state, End, fine, missed, stopped, Walked}
use Rattle.meaning.specs.Judging.{ended, within}
use Rattle.meaning.proofs.TestLaws.{by-test, clash, pick_true, pick_false}
use Rattle.reading.specs.Noted.{items_slot}
use Rattle.reading.specs.Listed.{listed_as, ValuesHere}
use Rattle.steps.specs.AtHand.{AtHand, MarkedAs}
use Rattle.steps.specs.Rests.{start}
use Rattle.steps.specs.Steps.{first_in, met_from, walk_held}
use Rattle.steps.proofs.HandLaws.{starts, facts_here}
use Rattle.steps.proofs.FirstLaws.{first_valued, walks_first}
use Rattle.walking.specs.declared.tally.Tally.{Tally}
use Rattle.walking.specs.declared.tally.Course.{Course}
use Rattle.walking.specs.declared.tally.Course.TheVariants.{Fine, Missed, Stuck, Broken, Other, TooWide, TooMany, Spent}
use Rattle.walking.specs.Standing.{Standing, spent, so_far, spend, add, stands, standing}
use Rattle.verdicts.specs.Telling.{told, is_spent, Tallied}
use Rattle.verdicts.proofs.MarkedLaws.{first_as, EndSmall, held_small}
use Rattle.meaning.specs.declared.Form.{Form}
use Rattle.meaning.specs.declared.Form.TheVariants.{Valued}

-- STANDINGS.
so_far≢spent : {l : ℕ} {e : End State} → so_far l e ≡ spent → ⊥
so_far≢spent e = subst is_so_far e tt
  where
    is_so_far : Standing → Type 0
    is_so_far spent = ⊥
    is_so_far (so_far l e) = Unit {0}

left_same : {l m : ℕ} {d e : End State} → so_far l d ≡ so_far m e → l ≡ m
left_same {l} is = ap left is
  where
    left : Standing → ℕ
    left spent = l
    left (so_far m e) = m

end_same : {l m : ℕ} {d e : End State} → so_far l d ≡ so_far m e → d ≡ e
end_same {d = d} is = ap end is
  where
    end : Standing → End State
    end spent = d
    end (so_far m e) = e

-- Where the budget is not spent, it stands so far.
stands_so_far : (c : Course) (left p : ℕ) (marks : State) → is_spent c ≡ false → (e : End State) × (stands c left p marks ≡ so_far left e)
unfolding stands
stands_so_far Fine left p marks some = (fine, refl)
stands_so_far Missed left p marks some = (missed p marks, refl)
stands_so_far Stuck left p marks some = (stopped Limits.not_executable p (in_state marks), refl)
stands_so_far Broken left p marks some = (stopped Limits.guard_broken p (in_state marks), refl)
stands_so_far (Other n) left p marks some = (stopped n p (in_state marks), refl)
stands_so_far TooWide left p marks some = (stopped Limits.sensing_too_wide p no_state, refl)
stands_so_far TooMany left p marks some = (stopped Limits.too_many_cases p no_state, refl)
stands_so_far Spent left p marks some = clash refl some

stands_left : (tally : Tally) → is_spent tally.course ≡ false → (e : End State) × (standing tally ≡ so_far tally.left e)
unfolding standing
stands_left tally some = stands_so_far tally.course tally.left tally.place tally.marks some

stands_other : (tally : Tally) (number : ℕ) → tally.course ≡ Other number → standing tally ≡ so_far tally.left (stopped number tally.place (in_state tally.marks))
unfolding standing stands
stands_other tally number is = ap (λ (c : Course). stands c tally.left tally.place tally.marks) is

-- A WALK of the whole budget: what is told of it is what the definition says.
module _ (budget : ℕ) (w : Walked State) where
  spends_above : ltb budget w.count ≡ true → spend budget (λ e. e) w ≡ spent
  unfolding spend
  spends_above h = pick_true _ _ _ h

  spends_within : ltb budget w.count ≡ false → spend budget (λ e. e) w ≡ so_far (budget - w.count) w.end
  unfolding spend
  spends_within h = pick_false _ _ _ h

  told_within : (lent : List ℕ) → told lent budget (spend budget (λ e. e) w) ≡ within lent budget w
  unfolding told within
  told_within lent =
      by-test (ltb budget w.count)
      (λ above. ap (told lent budget) (spends_above above) ∙ sym (pick_true _ _ _ above))
      (λ below.
      let few : w.count ≤ budget = ltb-false budget w.count below in
      let counted : budget - (budget - w.count) ≡ w.count = omega (arith, few) in
      ap (told lent budget) (spends_within below) ∙ ap (λ (c : ℕ). ended lent c w.end) counted ∙ sym (pick_false (ltb budget w.count) _ _ below))

  -- The tally after it.
  tallied : (tally : Tally) → standing tally ≡ spend budget (λ e. e) w → EndSmall w.end → Tallied tally budget
  tallied tally is small = record {
    fewer = λ some.
        let left = stands_left tally some in
        by-test (ltb budget w.count)
        (λ above. absurd (so_far≢spent (sym left.1 ∙ is ∙ spends_above above)))
        (λ below. let same : tally.left ≡ budget - w.count = left_same (sym left.1 ∙ is ∙ spends_within below) in omega (arith, same));
    small = λ number other.
        let stopped_so = sym (stands_other tally number other) ∙ is in
        by-test (ltb budget w.count)
        (λ above. absurd (so_far≢spent (stopped_so ∙ spends_above above)))
        (λ below. subst EndSmall (sym (end_same (stopped_so ∙ spends_within below))) small);
  }

-- THE WALK of a request at hand, from its first state.
module _ (form : Form) (s t : List ℕ) (here : AtHand form s t) (items at : ℕ) (counted : items ≡ get_or t items_slot 0) (starts : at ≡ start items)
    (marks : State) (is : marks ≡ first_in form s) (budget : ℕ) (before after : Tally)
    (opens : standing before ≡ so_far budget fine) (walks : standing after ≡ add (standing before) (met_from form s t at marks)) where
  stands_so : standing after ≡ spend budget (λ e. e) (walk_held form s t)
  unfolding add
  stands_so = walks ∙ ap (λ (a : Standing). add a (met_from form s t at marks)) opens ∙ ap (spend budget (λ e. e)) (walks_first s t here items at counted starts marks is)

  pub plan_tallied : Tallied after budget
  plan_tallied = tallied budget (walk_held form s t) after stands_so (held_small form s t)

  pub plan_judged : (lent left : List ℕ) (answer : Answer) → record { answer = answer; state = left } ≡ told lent budget (standing after)
      → record { answer = answer; state = left } ≡ within lent budget (walk_held form s t)
  plan_judged lent left answer says = says ∙ ap (told lent budget) stands_so ∙ told_within budget (walk_held form s t) lent

pub first_fits : (form : Form) (s marks : State) → marks ≡ first_in form s → MarkedAs form s marks
first_fits form s marks is = subst (MarkedAs form s) (sym is) (first_as form s)

-- THE FIRST STATE of a request with values.
pub valued_first : (s t : List ℕ) → AtHand Valued s t → (n : ℕ) → n ≡ get_or s 0 0 → (marks : State)
    → marks ≡ map (λ (f : ℕ). mark_left (those_of (fits (literals_in s) (listed_as Valued s (2 + n)) f) (values_of (literals_in s) f))) (numbers 0 format.state) → marks ≡ first_in Valued s
valued_first s t here n byte marks state =
    first_valued s t here marks
    (state ∙ ap (λ (k : ℕ). map (λ (f : ℕ). mark_left (those_of (fits (literals_in s) (listed_as Valued s (2 + k)) f) (values_of (literals_in s) f))) (numbers 0 format.state)) byte)

-- The facts of a request with values stand behind the numbers of its values.
pub facts_there : (s t : List ℕ) → AtHand Valued s t → (n : ℕ) → n ≡ get_or s 0 0 → ValuesHere s (2 + n)
facts_there s t here n byte = subst (λ (k : ℕ). ValuesHere s (2 + k)) (sym byte) (facts_here s t here)

pub byte_there : (s t : List ℕ) → AtHand Valued s t → 0 < length s
byte_there s t here = (starts s t here).front.first

pub facts_fit : (s t : List ℕ) → AtHand Valued s t → (n : ℕ) → n ≡ get_or s 0 0 → Fits w64 (2 + n)
facts_fit s t here n byte = let low = here.bytes 0 in record { fits = omega arith }
