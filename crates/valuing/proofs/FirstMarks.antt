-- The first state of values: a fluent's mark by a look at each of its values, and the marks of all fluents one by one. Assumes nothing.
use Prim.Native.Nat.{ℕ, suc, zero, ◌+◌, ◌-◌, ◌≤◌, ◌<◌}
use native.Mathlib.Omega.{arith}
use native.Mathlib.Decide.{dec_lt, ℕ_discrete}
use mathlib.Core.Path.{◌≡◌, refl, sym, ◌∙◌, ap, subst}
use mathlib.Core.Bool.{Bool, true, false}
use mathlib.Core.List.{List, [], ◌∷◌, map}
use mathlib.Core.Logic.{inl, inr}
use lib.ListN.{length, get_or, set, replicate, length-set, length-replicate, get_or-eq_default}
use lib.Seq.{get_or-set_same, get_or-set_other, ext_get_or}
use lib.Dec.{eqb}
use borrow.Author.Tests.{eqb-true, eq-eqb, ne_eqb}
use Rattle.meaning.specs.Tests.{pick, those_of, Has}
use Rattle.meaning.specs.Limits.{format}
use Rattle.meaning.specs.Reading.{values_in, literals_in}
use Rattle.meaning.specs.Values.{numbers, values_of, fits}
use Rattle.meaning.specs.ValueStates.{mark_left}
use Rattle.meaning.proofs.TestLaws.{by-test, pick_true, pick_false, those_has}
use Rattle.meaning.proofs.ValueLaws.{numbers_has, numbered_length, numbered_at}
use Rattle.parsing.specs.Bits.{bit_of}
use Rattle.parsing.specs.Masks.{Allows, FewValues}
use Rattle.valuing.specs.Valuing.{ValuedMarks}

-- THE MARK of what is left where so much was found already: none, or one value with its mark.
only : (mark : ℕ) → List ℕ → ℕ
only mark [] = mark
only mark (v ∷ vs) = 0

pub left_on : (mark : ℕ) → List ℕ → ℕ
left_on mark vs = pick (eqb mark 0) (λ _. mark_left vs) (λ _. only mark vs)

first_only : (v : ℕ) (vs : List ℕ) → mark_left (v ∷ vs) ≡ only (v + 1) vs
unfolding mark_left only
first_only v [] = refl
first_only v (u ∷ vs) = refl

nothing_more : (mark : ℕ) → left_on mark [] ≡ mark
unfolding left_on mark_left only
nothing_more mark = by-test (eqb mark 0) (λ t. pick_true _ _ _ t ∙ sym (eqb-true mark 0 t)) (λ f. pick_false _ _ _ f)

numbers_on : (v values : ℕ) → v < values → numbers v (values - v) ≡ v ∷ numbers (v + 1) (values - (v + 1))
unfolding numbers
numbers_on v values h = let more : values - v ≡ suc (values - (v + 1)) = omega arith in rw more

numbers_over : (v values : ℕ) → values ≤ v → numbers v (values - v) ≡ []
unfolding numbers
numbers_over v values h = let none : values - v ≡ zero = omega arith in rw none

-- What is left of the values from v up, with what was found below, is what is left of all.
pub record LeftAhead (m values mark v : ℕ) : Type 0 where
  pub is : mark_left (those_of (bit_of m) (numbers 0 values)) ≡ left_on mark (those_of (bit_of m) (numbers v (values - v)))

module _ (m values : ℕ) where
  pub left_starts : LeftAhead m values 0 0
  unfolding left_on pick
  left_starts = record { is = ap (λ (k : ℕ). mark_left (those_of (bit_of m) (numbers 0 k))) {x = values} {y = values - 0} (omega arith) }

  module _ (mark v : ℕ) (so : LeftAhead m values mark v) where
    pub left_over : values ≤ v → mark ≡ mark_left (those_of (bit_of m) (numbers 0 values))
    unfolding those_of
    left_over h = sym (so.is ∙ ap (λ (ns : List ℕ). left_on mark (those_of (bit_of m) ns)) (numbers_over v values h) ∙ nothing_more mark)

    module _ (more : v < values) (there : Bool) (told : there ≡ bit_of m v) where
      abbrev others : List ℕ
      others = those_of (bit_of m) (numbers (v + 1) (values - (v + 1)))

      pub left_not : there ≡ false → LeftAhead m values mark (v + 1)
      unfolding those_of
      left_not no-v =
          record { is = so.is ∙ ap (λ (ns : List ℕ). left_on mark (those_of (bit_of m) ns)) (numbers_on v values more) ∙ ap (left_on mark) (pick_false _ _ _ (sym told ∙ no-v)) }

      module _ (is-v : there ≡ true) where
        left_found : mark_left (those_of (bit_of m) (numbers 0 values)) ≡ left_on mark (v ∷ others)
        unfolding those_of
        left_found = so.is ∙ ap (λ (ns : List ℕ). left_on mark (those_of (bit_of m) ns)) (numbers_on v values more) ∙ ap (left_on mark) (pick_true _ _ _ (sym told ∙ is-v))

        pub left_one : mark ≡ 0 → LeftAhead m values (v + 1) (v + 1)
        unfolding left_on
        left_one none =
            record { is = left_found ∙ pick_true _ _ _ (eq-eqb mark 0 none) ∙ first_only v others ∙ sym (pick_false _ _ _ (ne_eqb (v + 1) 0 (λ e. omega (arith, e)))) }

        pub left_two : (mark ≡ 0 → ⊥) → 0 ≡ mark_left (those_of (bit_of m) (numbers 0 values))
        unfolding left_on only
        left_two some = sym (left_found ∙ pick_false _ _ _ (ne_eqb mark 0 some))

-- THE MARKS of the fluents below f are there.
abbrev first_mark : (s facts : List ℕ) (fluent : ℕ) → ℕ
first_mark s facts f = mark_left (those_of (fits (literals_in s) facts f) (values_of (literals_in s) f))

pub record MarksAhead (s facts marks : List ℕ) (f : ℕ) : Type 0 where
  pub sized : length marks ≡ format.state
  pub below : (g : ℕ) → g < f → get_or marks g 0 ≡ first_mark s facts g

those_alike : (p q : ℕ → Bool) (ns : List ℕ) → ((n : ℕ) → Has ns n → p n ≡ q n) → those_of p ns ≡ those_of q ns
unfolding those_of
those_alike p q [] same = refl
those_alike p q (n ∷ ns) same = rw (same n (inl refl), those_alike p q ns (λ k h. same k (inr h)))

module _ (s facts : List ℕ) where
  pub marks_start : MarksAhead s facts (replicate format.state 0) 0
  marks_start = record { sized = let none : ℕ = 0 in length-replicate format.state none; below = λ g h. absurd (omega arith) }

  pub marks_on : (few : FewValues s) (allowed : List ℕ) → Allows s facts allowed → (marks : List ℕ) (f : ℕ) → MarksAhead s facts marks f → f < format.fluents
      → (values : ℕ) → values ≡ values_in s f → (mark : ℕ) → mark ≡ mark_left (those_of (bit_of (get_or allowed f 0)) (numbers 0 values))
      → MarksAhead s facts (set marks f mark) (f + 1)
  unfolding values_of
  marks_on few allowed allows marks f so near values count mark is =
      record {
        sized = length-set marks f mark ∙ so.sized;
        below = λ g h. elim (ℕ_discrete g f) [
          | yes same ↦ ap (λ (k : ℕ). get_or (set marks f mark) k 0) same ∙ get_or-set_same marks f mark 0 (subst (λ (n : ℕ). f < n) (sym so.sized) near) ∙ is_first ∙ ap (first_mark s facts) (sym same)
          | no other ↦ get_or-set_other marks f g mark 0 other ∙ so.below g (omega (arith, other))
        ];
      }
    where
      low : (v : ℕ) → Has (numbers 0 (values_in s f)) v → v < 16
      low v there = let below = numbers_has 0 (values_in s f) v there in let most = few.each f in omega arith

      is_first : mark ≡ first_mark s facts f
      is_first =
          is ∙ ap (λ (k : ℕ). mark_left (those_of (bit_of (get_or allowed f 0)) (numbers 0 k))) count
          ∙ ap mark_left (those_alike (bit_of (get_or allowed f 0)) (fits (literals_in s) facts f) (numbers 0 (values_in s f)) (λ v h. allows.bits f v near (low v h)))

  pub marks_over : (marks : List ℕ) (f : ℕ) → MarksAhead s facts marks f → format.fluents ≤ f → marks ≡ map (first_mark s facts) (numbers 0 format.state)
  marks_over marks f so h =
      ext_get_or 0 marks (map (first_mark s facts) (numbers 0 format.state)) (so.sized ∙ sym (numbered_length (first_mark s facts) 0 format.state))
      (λ g near. so.below g (omega (arith, near, so.sized, h)) ∙ sym (numbered_at (first_mark s facts) format.state g 0 (omega (arith, near, so.sized))))

-- WITHIN THE NUMBERS OF VALUES. What is left is among them.
left_small : (vs : List ℕ) (values : ℕ) → ((v : ℕ) → Has vs v → v < values) → mark_left vs ≤ values
unfolding mark_left
left_small [] values h = omega arith
left_small (v ∷ []) values h = let low = h v (inl refl) in omega arith
left_small (v ∷ u ∷ vs) values h = omega arith

pub first_valued : (s facts : List ℕ) → ValuedMarks s (map (first_mark s facts) (numbers 0 format.state))
unfolding values_of
first_valued s facts =
    record {
      sized = numbered_length (first_mark s facts) 0 format.state;
      small = λ f. elim (dec_lt f format.state) [
        | yes near ↦
            subst (λ (mark : ℕ). mark ≤ values_in s f) (sym (numbered_at (first_mark s facts) format.state f 0 near))
            (left_small _ (values_in s f) (λ v has. let low = numbers_has 0 (values_in s f) v (those_has (fits (literals_in s) facts f) (numbers 0 (values_in s f)) v has).0 in omega arith))
        | no far ↦
            subst (λ (mark : ℕ). mark ≤ values_in s f)
            (sym (get_or-eq_default (map (first_mark s facts) (numbers 0 format.state)) 0 {n = f} (rw (numbered_length (first_mark s facts) 0 format.state) (omega arith))))
            (omega arith)
      ];
    }
