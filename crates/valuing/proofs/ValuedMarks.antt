-- Literals of values in a partial state: what a mark knows and leaves possible, and the loops over a list's literals. Assumes nothing.
use Prim.Native.Nat.{ℕ, ◌+◌, ◌-◌, ◌/◌, ◌%◌}
use native.Mathlib.Omega.{arith}
use mathlib.Core.Path.{◌≡◌, refl, sym, ◌∙◌, ap}
use mathlib.Core.Bool.{Bool, true, false, not}
use mathlib.Core.List.{List, [], ◌∷◌}
use lib.ListN.{get_or}
use lib.Dec.{eqb}
use borrow.Author.Tests.{eqb-true, eqb-false, eq-eqb, ne_eqb}
use Rattle.meaning.specs.Tests.{both, fails, pick, each_of}
use Rattle.meaning.specs.Literals.{positive}
use Rattle.meaning.specs.Reading.{values_in, literals_in}
use Rattle.meaning.specs.Values.{numbers, values_of}
use Rattle.meaning.specs.ValueStates.{is_known, known_as, known, possible}
use Rattle.meaning.proofs.TestLaws.{by-test, same_test, both_true, both_left, both_right, both_none, pick_true, pick_false, some_has, has_some}
use Rattle.meaning.proofs.ValueLaws.{has_numbers}
use Rattle.reading.specs.declared.marks.Look.{Look}
use Rattle.reading.specs.declared.marks.Look.TheVariants as look
use Rattle.valuing.specs.Valuing.{ValuedMarks, look_values}

-- WHAT A MARK KNOWS.
module _ (s marks : List ℕ) (so : ValuedMarks s marks) (f : ℕ) (test : ℕ → Bool) where
  known_of : (v : ℕ) → get_or marks f 0 ≡ v + 1 → known_as (literals_in s) marks f test ≡ test v
  unfolding known_as is_known values_of
  known_of v is =
      let small = so.small f in
      same_test _ _
      (λ e.
      let t = some_has _ (numbers 0 (values_in s f)) e in
      let said = eqb-true (get_or marks f 0) (t.0 + 1) (both_left _ _ t.2) in
      let same : t.0 ≡ v = omega (arith, said, is) in
      sym (ap test same) ∙ both_right _ _ t.2)
      (λ e. has_some _ (numbers 0 (values_in s f)) v (has_numbers 0 (values_in s f) v (omega arith) (omega (arith, small, is))) (both_true _ _ (eq-eqb _ _ is) e))

  known_none : get_or marks f 0 ≡ 0 → known_as (literals_in s) marks f test ≡ false
  unfolding known_as is_known values_of
  known_none is =
      by-test (known_as (literals_in s) marks f test)
      (λ e.
      let t = some_has _ (numbers 0 (values_in s f)) e in
      let said = eqb-true (get_or marks f 0) (t.0 + 1) (both_left _ _ t.2) in
      absurd (omega (arith, said, is)))
      (λ e. e)

not_fails : (a : Bool) → not a ≡ fails a
unfolding fails
not_fails true = refl
not_fails false = refl

fails_twice : (a : Bool) → fails (fails a) ≡ a
unfolding fails
fails_twice true = refl
fails_twice false = refl

module _ (s marks : List ℕ) (so : ValuedMarks s marks) (l mark : ℕ) (is : mark ≡ get_or marks (l / 256) 0) where
  unknown_not : mark ≡ 0 → known (literals_in s) marks l ≡ false
  unfolding known
  unknown_not none = known_none s marks so (l / 256) _ (sym is ∙ none)

  unknown_possible : mark ≡ 0 → possible (literals_in s) marks l ≡ true
  unfolding possible fails
  unknown_possible none = ap fails (known_none s marks so (l / 256) _ (sym is ∙ none))

  module _ (some : mark ≡ 0 → ⊥) where
    marked : get_or marks (l / 256) 0 ≡ mark - 1 + 1
    marked = omega (arith, is, some)

    known_satisfied : known (literals_in s) marks l ≡ (literals_in s).satisfied l (mark - 1)
    unfolding known
    known_satisfied = known_of s marks so (l / 256) _ (mark - 1) marked

    -- Where a value is known, what is possible is known.
    possible_known : possible (literals_in s) marks l ≡ known (literals_in s) marks l
    unfolding possible
    possible_known = ap fails (known_of s marks so (l / 256) _ (mark - 1) marked) ∙ fails_twice _ ∙ sym known_satisfied

    one_less : (v : ℕ) → eqb (mark - 1) v ≡ eqb mark (v + 1)
    one_less v =
        same_test _ _
        (λ e. let same = eqb-true (mark - 1) v e in eq-eqb mark (v + 1) (omega (arith, some, same)))
        (λ e. let same = eqb-true mark (v + 1) e in eq-eqb (mark - 1) v (omega (arith, same)))

    module _ (odd : l % 2 ≡ 0 → ⊥) where
      known_other : known (literals_in s) marks l ≡ fails (eqb mark (l % 256 / 2 + 1))
      unfolding positive
      known_other = known_satisfied ∙ pick_false _ _ _ (ne_eqb (l % 2) 0 odd) ∙ ap fails (one_less (l % 256 / 2))

      pub known_is_not : not (eqb mark (l % 256 / 2 + 1)) ≡ known (literals_in s) marks l
      known_is_not = not_fails _ ∙ sym known_other

  pub known_is : l % 2 ≡ 0 → eqb mark (l % 256 / 2 + 1) ≡ known (literals_in s) marks l
  unfolding positive
  known_is even =
      by-test (eqb mark 0)
      (λ t.
      let none = eqb-true mark 0 t in
      ne_eqb mark (l % 256 / 2 + 1) (λ e. omega (arith, none, e)) ∙ sym (unknown_not none))
      (λ f.
      let some = eqb-false mark 0 f in
      sym (known_satisfied some ∙ pick_true _ _ _ (eq-eqb (l % 2) 0 even) ∙ one_less some (l % 256 / 2)))

  pub known_unknown : mark ≡ 0 → false ≡ known (literals_in s) marks l
  known_unknown none = sym (unknown_not none)

-- What is known is possible.
known_possible : (s marks : List ℕ) → ValuedMarks s marks → (l : ℕ) → known (literals_in s) marks l ≡ true → possible (literals_in s) marks l ≡ true
known_possible s marks so l e =
    by-test (eqb (get_or marks (l / 256) 0) 0)
    (λ t. unknown_possible s marks so l _ refl (eqb-true _ _ t))
    (λ f. possible_known s marks so l _ refl (eqb-false _ _ f) ∙ e)

-- THE LOOP over a list's literals: what those that are left say is what all of them say.
module _ (test : ℕ → Bool) (all left : List ℕ) (is : each_of test all ≡ each_of test left) where
  pub each_over : left ≡ [] → true ≡ each_of test all
  unfolding each_of
  each_over none = sym (is ∙ rw none)

  module _ (l : ℕ) (others : List ℕ) (turn : left ≡ l ∷ others) (good : Bool) (told : good ≡ test l) where
    each_first : each_of test all ≡ both good (each_of test others)
    unfolding each_of
    each_first = is ∙ rw (turn, told)

    pub each_on : good ≡ true → each_of test all ≡ each_of test others
    unfolding both
    each_on t = each_first ∙ rw t

    pub each_fails : good ≡ false → false ≡ each_of test all
    unfolding both
    each_fails f = sym (each_first ∙ rw f)

-- ONE LOOK: what the literals that are left tell, where those before were all known or some was not.
unfoldable pub look_on : (sure : Bool) (s marks : List ℕ) → List ℕ → Look
look_on sure s marks ls =
    pick (both sure (each_of (known (literals_in s) marks) ls)) (λ _. look.Known) λ _.
    pick (each_of (possible (literals_in s) marks) ls) (λ _. look.Possible) λ _.
    look.Never

pub look_starts : (s marks all left : List ℕ) → left ≡ all → look_values s marks all ≡ look_on true s marks left
unfolding look_values look_on both
look_starts s marks all left whole = rw whole

module _ (s marks all : List ℕ) (sure : Bool) (left : List ℕ) (is : look_values s marks all ≡ look_on sure s marks left) where
  pub look_sure : left ≡ [] → sure ≡ true → look.Known ≡ look_values s marks all
  unfolding look_on each_of both pick
  look_sure none e = sym (is ∙ rw (none, e))

  pub look_unsure : left ≡ [] → sure ≡ false → look.Possible ≡ look_values s marks all
  unfolding look_on each_of both pick
  look_unsure none e = sym (is ∙ rw (none, e))

  module _ (valued : ValuedMarks s marks) (l : ℕ) (others : List ℕ) (turn : left ≡ l ∷ others) (good : Bool) (told : good ≡ known (literals_in s) marks l) where
    look_first : (b c : Bool) → known (literals_in s) marks l ≡ b → possible (literals_in s) marks l ≡ c
        → look_values s marks all
        ≡ pick (both sure (both b (each_of (known (literals_in s) marks) others))) (λ _. look.Known) (λ _. pick (both c (each_of (possible (literals_in s) marks) others)) (λ _. look.Possible) (λ _. look.Never))
    unfolding look_on each_of
    look_first b c k m = is ∙ rw (turn, k, m)

    pub look_known : good ≡ true → look_values s marks all ≡ look_on sure s marks others
    unfolding look_on both
    look_known t = look_first true true (sym told ∙ t) (known_possible s marks valued l (sym told ∙ t))

    module _ (not : good ≡ false) where
      pub look_open : get_or marks (l / 256) 0 ≡ 0 → look_values s marks all ≡ look_on false s marks others
      unfolding look_on both pick
      look_open none = look_first false true (sym told ∙ not) (unknown_possible s marks valued l _ refl none) ∙ pick_false _ _ _ (both_none sure)

      pub look_never : (get_or marks (l / 256) 0 ≡ 0 → ⊥) → look.Never ≡ look_values s marks all
      unfolding both pick
      look_never some =
          sym (look_first false false (sym told ∙ not) (possible_known s marks valued l _ refl some ∙ sym told ∙ not) ∙ pick_false _ _ _ (both_none sure))
