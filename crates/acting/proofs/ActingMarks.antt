-- Marks of values stay within the numbers of values: where one is told or forgotten, and after an action. Assumes nothing.
use Prim.Native.Nat.{ℕ, ◌+◌, ◌≤◌, ◌<◌}
use native.Mathlib.Omega.{arith}
use native.Mathlib.Decide.{dec_lt, ℕ_discrete}
use mathlib.Core.Path.{sym, ◌∙◌, subst}
use mathlib.Core.List.{List, map}
use lib.ListN.{length, get_or, set, length-set, get_or-eq_default}
use lib.Seq.{get_or-set_same, get_or-set_other}
use Rattle.meaning.specs.Limits.{format}
use Rattle.meaning.specs.declared.Form.TheVariants.{Valued}
use Rattle.meaning.specs.Requests.{Effect}
use Rattle.meaning.specs.Reading.{values_in, literals_in}
use Rattle.meaning.specs.Lines.{effects_of}
use Rattle.meaning.specs.Values.{numbers, values_of}
use Rattle.meaning.specs.ValueStates.{known_after, mark_after, state_after}
use Rattle.meaning.proofs.ValueLaws.{numbers_has, numbered_length, numbered_at, first-such-cases}
use Rattle.reading.specs.Tables.{table_in}
use Rattle.valuing.specs.Valuing.{ValuedMarks}

module _ (s marks : List ℕ) (so : ValuedMarks s marks) where
  -- A mark put in.
  put_valued : (f mark : ℕ) → f < format.fluents → mark ≤ values_in s f → ValuedMarks s (set marks f mark)
  put_valued f mark near low = record {
    sized = length-set marks f mark ∙ so.sized;
    small = λ g. elim (ℕ_discrete g f) [
      | yes same ↦
          subst (λ (h : ℕ). get_or (set marks f mark) h 0 ≤ values_in s h) (sym same)
          (subst (λ (n : ℕ). n ≤ values_in s f) (sym (get_or-set_same marks f mark 0 (subst (λ (n : ℕ). f < n) (sym so.sized) near))) low)
      | no other ↦ subst (λ (n : ℕ). n ≤ values_in s g) (sym (get_or-set_other marks f g mark 0 other)) (so.small g)
    ];
  }

  -- One of the fluent's values told.
  pub told_valued : (f v : ℕ) → f < format.fluents → v < values_in s f → ValuedMarks s (set marks f (v + 1))
  told_valued f v near low = put_valued f (v + 1) near (omega (arith, low))

  pub forgotten_valued : (f : ℕ) → f < format.fluents → ValuedMarks s (set marks f 0)
  forgotten_valued f near = put_valued f 0 near (omega arith)

  mark_within : (es : List Effect) (f : ℕ) → mark_after (literals_in s) es marks f ≤ values_in s f
  unfolding mark_after values_of
  mark_within es f =
      first-such-cases (known_after (literals_in s) es marks f) (λ v. v + 1) (numbers 0 (values_in s f)) 0
      (λ v has _ is. let low = numbers_has 0 (values_in s f) v has in omega (arith, low, is))
      (λ _ is. omega (arith, is))

  -- After an action.
  pub after_valued : (a : ℕ) → ValuedMarks s (state_after (literals_in s) (table_in Valued s) a marks)
  unfolding state_after
  after_valued a =
      let mark = mark_after (literals_in s) (effects_of (table_in Valued s) a) marks in
      record {
        sized = numbered_length mark 0 (length marks) ∙ so.sized;
        small = λ f. elim (dec_lt f (length marks)) [
          | yes near ↦ subst (λ (n : ℕ). n ≤ values_in s f) (sym (numbered_at mark (length marks) f 0 near)) (mark_within (effects_of (table_in Valued s) a) f)
          | no far ↦
              subst (λ (n : ℕ). n ≤ values_in s f)
              (sym (get_or-eq_default (map mark (numbers 0 (length marks))) 0 {n = f} (rw (numbered_length mark 0 (length marks)) (omega arith))))
              (omega arith)
        ];
      }
