-- Lists against what a state knows: a list whose state is asked, and the literals of a state listed fluent by fluent. Assumes nothing.
use Prim.Native.Nat.{ℕ, ◌+◌, ◌-◌, ◌*◌, ◌≤◌, ◌<◌}
use mathlib.Core.Path.{◌≡◌, sym, ◌∙◌, ap, fun_ext}
use mathlib.Core.Bool.{Bool, true, false, not}
use mathlib.Core.List.{List, ◌∷◌}
use lib.ListN.{length, get_or, drop}
use lib.Dec.{eqb}
use denote.Ref.{Bor}
use Rattle.std.proofs.Common.{Option, None, Some, MatchOption}
use Rattle.std.specs.Option.{is_some}
use Rattle.std.proofs.lemmas.Bool.{false≢true}
use Rattle.std.proofs.lemmas.List.{nil_from_length}
use borrow.Author.Tests.{eq-eqb, ne_eqb}
use Rattle.meaning.specs.Tests.{both, each_of}
use Rattle.meaning.specs.Limits.{format, all_literals}
use Rattle.meaning.specs.Literals.{among, exclusive}
use Rattle.meaning.specs.States.{State, known, state_of}
use Rattle.meaning.specs.Derivations.{same_list, included, known_from, literals_of}
use Rattle.meaning.proofs.ToldLaws.{state_known}
use Rattle.reading.specs.declared.marks.Test.TheVariants.{Known}
use Rattle.reading.specs.Listed.{listed, ListHere, holds_as}
use Rattle.finding.proofs.PlanHere.{listed_clear}
use Rattle.steps.specs.AtHand.{Marked}
use Rattle.steps.proofs.KnownLists.{known_far, unmarked_step, marked_step}

pub within_is : (s : List ℕ) (p : ℕ) (u : List ℕ) (q : ℕ) (marks : State) (r : Bool) → ListHere all_literals u q → exclusive (listed u q) (listed u q) ≡ false
    → marks ≡ state_of format (listed u q) → r ≡ each_of (holds_as Known marks) (listed s p) → r ≡ included (listed s p) (listed u q)
unfolding included holds_as
within_is s p u q marks r here apart told is =
    let asked : known (state_of format (listed u q)) ≡ (λ (x : ℕ). among x (listed u q)) = fun_ext (state_known format (listed u q) (listed_clear u q here apart)) in
    is ∙ ap (λ (m : State). each_of (known m) (listed s p)) told ∙ ap (λ (test : ℕ → Bool). each_of test (listed s p)) asked

-- THE LOOP over the fluents: the entries left against the literals left.
pub known_starts : (marks : State) (ls items rest : List ℕ) → items ≡ ls → rest ≡ items → same_list ls (literals_of marks) ≡ same_list rest (known_from marks 0 (drop 0 marks))
unfolding literals_of
known_starts marks ls items rest are from = ap (λ (xs : List ℕ). same_list xs (known_from marks 0 marks)) (sym (from ∙ are))

module _ (marks : State) (marked : Marked marks) (f : ℕ) (whole : Bool) (rest : List ℕ) (so_far : whole ≡ same_list rest (known_from marks f (drop f marks))) where
  module _ (near : f < format.fluents) where
    pub known_none : get_or marks f 0 ≡ 0 → whole ≡ same_list rest (known_from marks (f + 1) (drop (f + 1) marks))
    known_none none = so_far ∙ ap (same_list rest) (unmarked_step marks marked f near none)

    module _ (some : get_or marks f 0 ≡ 0 → ⊥) where
      pub known_short : length rest ≡ 0 → false ≡ whole
      unfolding same_list
      known_short none = sym (so_far ∙ rw (nil_from_length rest none, marked_step marks marked f near some))

      module _ (mark : ℕ) (at : mark ≡ get_or marks f 0) (entry x : ℕ) (others : List ℕ) (taken : rest ≡ entry ∷ others) (is : x ≡ entry) where
        first_is : whole ≡ both (eqb x (2 * f + mark - 1)) (same_list others (known_from marks (f + 1) (drop (f + 1) marks)))
        unfolding same_list
        first_is = so_far ∙ rw (taken, marked_step marks marked f near some, sym at, sym is)

        pub known_differs : (x ≡ 2 * f + mark - 1 → ⊥) → false ≡ whole
        unfolding both
        known_differs d = sym (first_is ∙ rw (ne_eqb _ _ d))

        pub known_same : x ≡ 2 * f + mark - 1 → whole ≡ same_list others (known_from marks (f + 1) (drop (f + 1) marks))
        unfolding both
        known_same e = first_is ∙ rw (eq-eqb _ _ e)

  pub known_done : format.fluents ≤ f → (next : Option (Bor ℕ)) (r : Bool) → is_some next ≡ not r → (A : Type 0) (others : List ℕ)
      → MatchOption next ((length rest ≡ 0) × A) (λ x. rest ≡ x.now ∷ others) → r ≡ whole
  unfolding same_list
  known_done far None true is A others turn = sym (so_far ∙ rw (nil_from_length rest turn.0, known_far marks marked f far))
  known_done far None false is A others turn = absurd (false≢true is)
  known_done far (Some x) true is A others turn = absurd (false≢true (sym is))
  known_done far (Some x) false is A others turn = sym (so_far ∙ rw (turn, known_far marks marked f far))
