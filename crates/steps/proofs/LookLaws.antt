-- Marks that are set, and the sensed fluents that are unknown: what the whole gives is what those from fluent f up give. Assumes nothing.
use Prim.Native.Nat.{ℕ, suc, ◌+◌, ◌≤◌, ◌<◌}
use native.Mathlib.Omega.{arith}
use native.Mathlib.Decide.{ℕ_discrete, dec_lt}
use mathlib.Core.Path.{◌≡◌, refl, sym, ◌∙◌, ap, subst}
use mathlib.Core.Bool.{Bool, true, false}
use mathlib.Core.List.{List, [], ◌∷◌}
use lib.ListN.{length, get_or, set, drop, length-set, get_or-eq_default, drop_of_length-le}
use lib.Seq.{get_or-set_same, get_or-set_other, drop-cons, drop-set-lt}
use lib.Dec.{eqb}
use borrow.Author.Tests.{eqb-false, eq-eqb}
use Rattle.meaning.specs.Tests.{both, either, fails, pick}
use Rattle.meaning.specs.Limits.{format}
use Rattle.meaning.specs.Literals.{says_true, says_false}
use Rattle.meaning.specs.Requests.{Knowledge, Table}
use Rattle.meaning.specs.Lines.{knowledge_of, senses}
use Rattle.meaning.specs.States.{State, known_whether, told, mark_after, state_after, unknown_from, unknown_sensed}
use Rattle.meaning.proofs.TestLaws.{by-test, either_left, either_right}
use Rattle.meaning.proofs.PickLaws.{pick_has}
use Rattle.meaning.proofs.LiteralLaws.{fluent_true, fluent_false}
use Rattle.meaning.proofs.StateLaws.{mark_true, mark_false, known_true, known_false, after_length}
use Rattle.meaning.proofs.PairLaws.{after_mark}
use Rattle.steps.specs.AtHand.{Marked}
use Rattle.steps.specs.Steps.{unknown_above, first_of}
use Rattle.steps.proofs.UnknownFirst

-- MARKED STATES stay marked.
pub marked_set : (marks : State) (f m : ℕ) → Marked marks → f < format.fluents → m ≤ 2 → Marked (set marks f m)
marked_set marks f m marked near most = record {
  sized = length-set marks f m ∙ marked.sized;
  small = λ g. elim (ℕ_discrete g f) [
    | yes e ↦ rw (e, get_or-set_same marks f m 0 (rw marked.sized near)) most
    | no d ↦ rw (get_or-set_other marks f g m 0 d) (marked.small g)
  ];
}

-- The two readings of a fluent, the second set over the first.
module _ (f : ℕ) (marks : State) (small : f < format.fluents) (marked : Marked marks) where
  pub first_marked : Marked (set marks f 1)
  first_marked = marked_set marks f 1 marked small (omega arith)

  pub second_marked : Marked (set (set marks f 1) f 2)
  second_marked = marked_set (set marks f 1) f 2 first_marked small (omega arith)

pub marked_after : (t : Table) (a : ℕ) (marks : State) → Marked marks → Marked (state_after t a marks)
unfolding mark_after
marked_after t a marks marked = record {
  sized = after_length t a marks ∙ marked.sized;
  small = λ f. elim (dec_lt f (length marks)) [
    | yes near ↦ rw (after_mark t a marks f near) (pick_has (λ (m : ℕ). m ≤ 2) _ _ _ (λ _. omega arith) (λ _. pick_has (λ (m : ℕ). m ≤ 2) _ _ _ (λ _. omega arith) (λ _. omega arith)))
    | no far ↦ rw (get_or-eq_default (state_after t a marks) 0 {n = f} (rw (after_length t a marks) (omega arith))) (omega arith)
  ];
}

pub after_marked : (t : Table) (a : ℕ) (marks r : State) → Marked marks → r ≡ state_after t a marks → Marked r
after_marked t a marks r marked e = subst Marked (sym e) (marked_after t a marks marked)

pub told_true : (f : ℕ) (marks : State) → told (says_true f) marks ≡ set marks f 1
unfolding told
told_true f marks = rw (fluent_true f, mark_true f)

pub told_false : (f : ℕ) (marks : State) → told (says_false f) marks ≡ set marks f 2
unfolding told
told_false f marks = rw (fluent_false f, mark_false f)

-- THE UNKNOWN SENSED FLUENTS, of lines and a state, as many as the last list has entries.
module _ (ks : List Knowledge) where
  unknown_alike : (marks other : State) (f : ℕ) (ms : List ℕ) → ((g : ℕ) → f ≤ g → known_whether marks g ≡ known_whether other g) → unknown_from ks marks f ms ≡ unknown_from ks other f ms
  unfolding unknown_from
  unknown_alike marks other f [] alike = refl
  unknown_alike marks other f (m ∷ ms) alike = rw (alike f (omega arith), unknown_alike marks other (f + 1) ms (λ g h. alike g (omega arith)))

-- What a mark says of its fluent.
pub unmarked_unknown : (marks : State) (f : ℕ) → get_or marks f 0 ≡ 0 → known_whether marks f ≡ false
unfolding known_whether either
unmarked_unknown marks f e = rw (known_true marks f, known_false marks f, e)

pub marked_known : (marks : State) (f : ℕ) → Marked marks → (get_or marks f 0 ≡ 0 → ⊥) → known_whether marks f ≡ true
unfolding known_whether
marked_known marks f marked some =
    by-test (eqb (get_or marks f 0) 1)
    (λ e. either_left _ _ (known_true marks f ∙ e))
    (λ e.
    let one = eqb-false (get_or marks f 0) 1 e in
    let most = marked.small f in
    either_right _ _ (known_false marks f ∙ eq-eqb (get_or marks f 0) 2 (omega (arith, one, most, some))))

pub known_set : (marks : State) (f m g : ℕ) → (g ≡ f → ⊥) → known_whether (set marks f m) g ≡ known_whether marks g
unfolding known_whether
known_set marks f m g other =
    rw (known_true (set marks f m) g, known_false (set marks f m) g, known_true marks g, known_false marks g, get_or-set_other marks f g m 0 other)

-- Fluents before those looked at may be set.
pub unknown_after_set : (t : Table) (a : ℕ) (marks : State) (f m : ℕ) → unknown_above t a (set marks f m) (f + 1) ≡ unknown_above t a marks (f + 1)
unfolding unknown_above
unknown_after_set t a marks f m =
    ap (unknown_from (knowledge_of t a) (set marks f m) (f + 1)) (drop-set-lt (f + 1) marks f m (omega arith))
    ∙ unknown_alike (knowledge_of t a) (set marks f m) marks (f + 1) (drop (f + 1) marks) (λ g h. known_set marks f m g (λ e. omega arith))

pub unknown_all : (t : Table) (a : ℕ) (marks : State) → unknown_sensed t a marks ≡ unknown_above t a marks 0
unfolding unknown_sensed unknown_above
unknown_all t a marks = refl

module _ (t : Table) (a : ℕ) (marks : State) (marked : Marked marks) where
  abbrev reads : ℕ → Bool
  reads f = both (senses (knowledge_of t a) f) (fails (known_whether marks f))

  pub unknown_step : (f : ℕ) → f < format.fluents → unknown_above t a marks f ≡ pick (reads f) (λ _. f ∷ unknown_above t a marks (f + 1)) (λ _. unknown_above t a marks (f + 1))
  unfolding unknown_above unknown_from
  unknown_step f near =
      let up : suc f ≡ f + 1 = omega arith in
      ap (unknown_from (knowledge_of t a) marks f) (drop-cons marks f 0 (rw marked.sized near) ∙ ap (λ (k : ℕ). get_or marks f 0 ∷ drop k marks) up)

  pub unknown_far : (f : ℕ) → format.fluents ≤ f → unknown_above t a marks f ≡ []
  unfolding unknown_above unknown_from
  unknown_far f far = ap (unknown_from (knowledge_of t a) marks f) (drop_of_length-le marks {i = f} (rw marked.sized far))

  module _ (f g : ℕ) (first : g ≡ first_of (unknown_above t a marks f)) where
    pub unknown_first : g < format.fluents → unknown_above t a marks f ≡ g ∷ unknown_above t a marks (g + 1)
    unknown_first = UnknownFirst.unknown_first (unknown_above t a marks) reads unknown_step unknown_far f g first

    pub unknown_first_above : g < format.fluents → f ≤ g
    unknown_first_above = UnknownFirst.unknown_first_above (unknown_above t a marks) reads unknown_step unknown_far f g first

    pub unknown_no_first : format.fluents ≤ g → unknown_above t a marks f ≡ []
    unknown_no_first = UnknownFirst.unknown_no_first (unknown_above t a marks) reads unknown_step unknown_far f g first

  module _ (g : ℕ) (first : g ≡ first_of (unknown_sensed t a marks)) where
    from_none : g ≡ first_of (unknown_above t a marks 0)
    from_none = first ∙ ap first_of (unknown_all t a marks)

    pub sensed_first : g < format.fluents → unknown_sensed t a marks ≡ g ∷ unknown_above t a marks (g + 1)
    sensed_first near = unknown_all t a marks ∙ unknown_first 0 g from_none near

    pub sensed_no_first : format.fluents ≤ g → unknown_sensed t a marks ≡ []
    sensed_no_first far = unknown_all t a marks ∙ unknown_no_first 0 g from_none far
