-- What a state knows, as a list, and the state of a list go together (FORMAT 10.6): a state of marks 0, 1 and 2 is the state of what it knows, and a list that
-- was read is what its state knows. Every state that a walk comes to has such marks. Assumes nothing.
use Prim.Native.Nat.{ℕ, ◌≤◌}
use native.Mathlib.Omega.{arith}
use native.Mathlib.Decide.{dec_lt, ℕ_discrete}
use mathlib.Core.Path.{◌≡◌, sym, ◌∙◌}
use mathlib.Core.Bool.{true, false}
use mathlib.Core.List.{List, [], ◌∷◌}
use lib.ListN.{length, get_or, set, length-set, get_or-eq_default}
use lib.Seq.{get_or-set_same, get_or-set_other, ext_get_or}
use lib.Dec.{eqb}
use borrow.Author.Tests.{eqb-true, eqb-false}
use Rattle.meaning.specs.Tests.{Has}
use Rattle.meaning.specs.Limits
use Rattle.meaning.specs.Limits.{Limits}
use Rattle.meaning.specs.Literals.{says_true, says_false, fluent_of}
use Rattle.meaning.specs.Requests.{Table}
use Rattle.meaning.specs.States.{State, mark_of, known, told, told_all, state_of, mark_after, state_after}
use Rattle.meaning.specs.Derivations.{literals_of}
use Rattle.meaning.proofs.TestLaws.{by-test, clash}
use Rattle.meaning.proofs.PickLaws.{pick_has}
use Rattle.meaning.proofs.LiteralLaws.{has_among}
use Rattle.meaning.proofs.StateLaws.{nothing_told, unknown_mark, known_true, known_false, known_one, known_within, after_length}
use Rattle.meaning.proofs.PairLaws.{after_mark}
use Rattle.meaning.proofs.ToldLaws.{Clear, state_known, state_length}
use Rattle.meaning.proofs.SetLaws.{Ascending, ascending_same, among_≐, literals_ascend, literals_among}

-- MARKS. Each is 0, 1 or 2, and there are as many as a state has.
pub record Marked (lim : Limits) (s : State) : Type 0 where
  pub sized : length s ≡ lim.state
  pub small : (f : ℕ) → get_or s f Limits.unknown_mark ≤ 2

abbrev Small : State → Type 0
Small s = (f : ℕ) → get_or s f Limits.unknown_mark ≤ 2

mark_small : (l : ℕ) → mark_of l ≤ 2
unfolding mark_of
mark_small l = pick_has (λ (m : ℕ). m ≤ 2) _ _ _ (λ _. omega arith) (λ _. omega arith)

told_small : (l : ℕ) (s : State) → Small s → Small (told l s)
unfolding told
told_small l s small f =
    elim (ℕ_discrete f (fluent_of l)) [
      | yes same ↦ rw same (elim (dec_lt (fluent_of l) (length s)) [
        | yes near ↦ rw (get_or-set_same s (fluent_of l) (mark_of l) Limits.unknown_mark near) (mark_small l)
        | no far ↦ rw (get_or-eq_default (set s (fluent_of l) (mark_of l)) Limits.unknown_mark {n = fluent_of l} (rw (length-set s (fluent_of l) (mark_of l)) (omega arith))) (omega arith)
      ])
      | no other ↦ rw (get_or-set_other s (fluent_of l) f (mark_of l) Limits.unknown_mark other) (small f)
    ]

told_all_small : (ls : List ℕ) (s : State) → Small s → Small (told_all ls s)
unfolding told_all
told_all_small [] s small = small
told_all_small (l ∷ ls) s small = told_all_small ls (told l s) (told_small l s small)

module _ (lim : Limits) where
  pub told_marked : (l : ℕ) (s : State) → Marked lim s → Marked lim (told l s)
  unfolding told
  told_marked l s marked = record { sized = length-set s (fluent_of l) (mark_of l) ∙ marked.sized; small = told_small l s marked.small }

  pub state_marked : (ls : List ℕ) → Marked lim (state_of lim ls)
  unfolding state_of
  state_marked ls = record { sized = state_length lim ls; small = told_all_small ls (nothing_told lim.state) (λ f. rw (unknown_mark lim.state f) (omega arith)) }

  pub after_marked : (t : Table) (a : ℕ) (s : State) → Marked lim s → Marked lim (state_after t a s)
  unfolding mark_after
  after_marked t a s marked = record {
    sized = after_length t a s ∙ marked.sized;
    small = λ f. elim (dec_lt f (length s)) [
      | yes near ↦ rw (after_mark t a s f near) (pick_has (λ (m : ℕ). m ≤ 2) _ _ _ (λ _. omega arith) (λ _. pick_has (λ (m : ℕ). m ≤ 2) _ _ _ (λ _. omega arith) (λ _. omega arith)))
      | no far ↦ rw (get_or-eq_default (state_after t a s) Limits.unknown_mark {n = f} (rw (after_length t a s) (omega arith))) (omega arith)
    ];
  }

-- Such a mark is told by what is known of its fluent.
neither_mark : (m : ℕ) → m ≤ 2 → eqb m Limits.true_mark ≡ false → eqb m Limits.false_mark ≡ false → m ≡ Limits.unknown_mark
neither_mark m few one two = let a = eqb-false m 1 one in let b = eqb-false m 2 two in omega (arith, few, a, b)

mark_told : (m k : ℕ) → m ≤ 2 → k ≤ 2 → eqb m Limits.true_mark ≡ eqb k Limits.true_mark → eqb m Limits.false_mark ≡ eqb k Limits.false_mark → m ≡ k
mark_told m k few few-too one two =
    by-test (eqb m 1)
    (λ t. eqb-true m 1 t ∙ sym (eqb-true k 1 (sym one ∙ t)))
    (λ u. by-test (eqb m 2)
    (λ t. eqb-true m 2 t ∙ sym (eqb-true k 2 (sym two ∙ t)))
    (λ v. neither_mark m few u v ∙ sym (neither_mark k few-too (sym one ∙ u) (sym two ∙ v))))

same_known : (lim : Limits) (s u : State) → Marked lim s → Marked lim u → ((l : ℕ) → known s l ≡ known u l) → s ≡ u
same_known lim s u m k same =
    ext_get_or Limits.unknown_mark s u (m.sized ∙ sym k.sized) λ f _.
    mark_told _ _ (m.small f) (k.small f) (sym (known_true s f) ∙ same (says_true f) ∙ known_true u f) (sym (known_false s f) ∙ same (says_false f) ∙ known_false u f)

-- LISTS. What a state knows is of its fluents, and no literal of it stands beside its complement.
module _ (lim : Limits) (s : State) (marked : Marked lim s) where
  listed_known : (l : ℕ) → Has (literals_of s) l → known s l ≡ true
  listed_known l h = sym (literals_among s l) ∙ has_among l (literals_of s) h

  pub literals_clear : Clear lim (literals_of s)
  unfolding fluent_of
  literals_clear = record {
    within = λ l h. let near = known_within s l (listed_known l h) in let long = marked.sized in omega (arith, near, long);
    consistent = λ l h k. clash (listed_known _ k) (known_one s l (listed_known l h));
  }

  -- THE STATE OF WHAT IT KNOWS.
  pub state_of_literals : state_of lim (literals_of s) ≡ s
  state_of_literals = same_known lim (state_of lim (literals_of s)) s (state_marked lim (literals_of s)) marked (λ l. state_known lim (literals_of s) literals_clear l ∙ literals_among s l)

-- WHAT THE STATE OF A LIST KNOWS.
pub literals_of_state : (lim : Limits) (X : List ℕ) → Clear lim X → Ascending 0 X → literals_of (state_of lim X) ≡ X
literals_of_state lim X clear up =
    ascending_same _ X (literals_ascend (state_of lim X)) up (among_≐ _ X (λ l. literals_among (state_of lim X) l ∙ state_known lim X clear l))
