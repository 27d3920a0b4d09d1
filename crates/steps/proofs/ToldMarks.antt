-- The state of a list of literals has marks 0, 1 and 2: it has none at first, and a literal that is told sets one of the three. Assumes nothing.
use Prim.Native.Nat.{ℕ}
use native.Mathlib.Omega.{arith}
use native.Mathlib.Decide.{ℕ_discrete, dec_lt}
use mathlib.Core.Path.{◌≡◌, ◌∙◌}
use mathlib.Core.List.{List, [], ◌∷◌}
use lib.ListN.{length, set, replicate, length-set, length-replicate, get_or-replicate, get_or-eq_default}
use lib.Seq.{get_or-set_same, get_or-set_other}
use Rattle.meaning.specs.Limits.{format}
use Rattle.meaning.specs.Literals.{fluent_of}
use Rattle.meaning.specs.States.{State, mark_of, told, told_all, state_of}
use Rattle.reading.proofs.MarkLaws.{mark_most}
use Rattle.steps.specs.AtHand.{Marked}

-- A literal that is told sets one mark, or none beyond the last.
pub told_marked : (l : ℕ) (s : State) → Marked s → Marked (told l s)
unfolding told
told_marked l s marked = record {
  sized = length-set s (fluent_of l) (mark_of l) ∙ marked.sized;
  small = λ g. elim (ℕ_discrete g (fluent_of l)) [
    | yes e ↦ rw e (elim (dec_lt (fluent_of l) (length s)) [
      | yes near ↦ rw (get_or-set_same s (fluent_of l) (mark_of l) 0 near) (mark_most l)
      | no far ↦ rw (get_or-eq_default (set s (fluent_of l) (mark_of l)) 0 {n = fluent_of l} (rw (length-set s (fluent_of l) (mark_of l)) (omega arith))) (omega arith)
    ])
    | no d ↦ rw (get_or-set_other s (fluent_of l) g (mark_of l) 0 d) (marked.small g)
  ];
}

told_all_marked : (ls : List ℕ) (s : State) → Marked s → Marked (told_all ls s)
unfolding told_all
told_all_marked [] s marked = marked
told_all_marked (l ∷ ls) s marked = told_all_marked ls (told l s) (told_marked l s marked)

unknown_marked : Marked (replicate format.state 0)
unknown_marked = record {
  sized = let none : ℕ = 0 in length-replicate format.state none;
  small = λ f. let none : ℕ = 0 in elim (dec_lt f format.fluents) [
    | yes near ↦ rw (get_or-replicate format.state f none none near) (omega arith)
    | no far ↦ rw (get_or-eq_default (replicate format.state none) 0 {n = f} (rw (length-replicate format.state none) (omega arith))) (omega arith)
  ];
}

pub state_marked : (ls : List ℕ) → Marked (state_of format ls)
unfolding state_of
state_marked ls = told_all_marked ls _ unknown_marked

pub marked_as : (ls : List ℕ) (marks : State) → marks ≡ state_of format ls → Marked marks
marked_as ls marks is = rw is (state_marked ls)
