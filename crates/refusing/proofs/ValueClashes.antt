-- Two effects of values against each other, by the values that their bodies leave. Assumes nothing.
use Prim.Native.Nat.{ℕ, ◌+◌, ◌*◌, ◌/◌, ◌%◌, ◌<◌}
use native.Mathlib.Omega.{arith}
use mathlib.Core.Path.{◌≡◌, refl, sym, ◌∙◌, ap, ap₂, subst}
use mathlib.Core.Bool.{Bool, true}
use mathlib.Core.List.{List, [], ◌∷◌}
use mathlib.Core.Logic.{inl, inr}
use lib.ListN.{get_or}
use lib.Dec.{eqb}
use borrow.Author.Tests.{eqb-true}
use Rattle.meaning.specs.Tests.{both, either, fails, some_of, Has}
use Rattle.meaning.specs.Limits.{format}
use Rattle.meaning.specs.Requests.{Effect}
use Rattle.meaning.specs.Lines.{executability_of}
use Rattle.meaning.specs.Reading.{literals_in}
use Rattle.meaning.specs.Values.{exclusive, clashing, runs_with, contradictory}
use Rattle.meaning.specs.declared.Form.TheVariants.{Valued}
use Rattle.meaning.proofs.TestLaws.{both_left, both_right, those_has}
use Rattle.parsing.specs.Masks.{FewValues}
use Rattle.reading.specs.Listed.{listed_as}
use Rattle.valuing.proofs.AgreeingLaws.{beside_is}
use Rattle.finding.specs.LinesHere.{literal_from, effect_from, EffectHere}
use Rattle.finding.specs.TablesHere.{table_in, RunsHere}
use Rattle.valuing.specs.Meets.{meets_as}
use Rattle.refusing.proofs.FlagClashes.{both_moved}
use Rattle.refusing.specs.Refusal16.{contradictory_as, agreeing, passing_lines, sets_apart, buckets, bucket_at}

pub some_alike : {A : Type 0} (f g : A → Bool) (xs : List A) → ((x : A) → Has xs x → f x ≡ g x) → some_of f xs ≡ some_of g xs
unfolding some_of
some_alike f g [] same = refl
some_alike f g (x ∷ xs) same = ap₂ either (same x (inl refl)) (some_alike f g xs (λ y has. same y (inr has)))

-- The lines that agree with two bodies.
lines_agree : (s t : List ℕ) (a : ℕ) (b c : List ℕ) → RunsHere Valued s t → passing_lines (agreeing (meets_as Valued) s b c) (table_in Valued s) a ≡ runs_with (literals_in s) (table_in Valued s) a b c
unfolding passing_lines agreeing runs_with executability_of meets_as
lines_agree s t a b c runs =
    some_alike _ _ (executability_of (table_in Valued s) a) λ x has.
    let stands = runs.line x (those_has _ (table_in Valued s).executability x has).0 in
    ap₂ both (beside_is s b x.body stands.2) (beside_is s c x.body stands.2)

-- THE LITERAL by its two bytes.
module _ (s : List ℕ) (few : FewValues s) (p : ℕ) (here : EffectHere Valued s p) where
  second_low : get_or s (p + 2) 0 < 32
  second_low =
      let next : p + 1 + 1 ≡ p + 2 = omega arith in
      let most = few.each (get_or s (p + 1) 0) in
      let low = here.literal.second in
      subst (λ (i : ℕ). get_or s i 0 < 32) next (omega arith)

  literal_is : literal_from Valued s (p + 1) ≡ get_or s (p + 1) 0 * 256 + get_or s (p + 2) 0
  literal_is = let next : p + 1 + 1 ≡ p + 2 = omega arith in ap (λ (i : ℕ). get_or s (p + 1) 0 * 256 + get_or s i 0) next

  fluent_part : literal_from Valued s (p + 1) / 256 ≡ get_or s (p + 1) 0
  fluent_part = let low = second_low in rw literal_is (omega arith)

  value_part : literal_from Valued s (p + 1) % 256 / 2 ≡ get_or s (p + 2) 0 / 2
  value_part = let low = second_low in rw literal_is (omega arith)

-- ONE AGAINST ONE.
module _ (s : List ℕ) (p q : ℕ) (few : FewValues s) (here : EffectHere Valued s p) (there : EffectHere Valued s q) where
  abbrev One : Effect
  One = effect_from Valued s p

  abbrev Other : Effect
  Other = effect_from Valued s q

  clashing_is : clashing (literals_in s) One Other ≡ both (sets_apart Valued s p q) (meets_as Valued s (listed_as Valued s (p + 3)) (listed_as Valued s (q + 3)))
  unfolding clashing sets_apart effect_from meets_as
  clashing_is =
      rw (fluent_part s few p here, fluent_part s few q there, value_part s few p here, value_part s few q there, beside_is s (listed_as Valued s (p + 3)) (listed_as Valued s (q + 3)) there.apart)
      (both_moved (eqb (get_or s p 0) (get_or s q 0)) (eqb (get_or s (q + 1) 0) (get_or s (p + 1) 0)) (fails (eqb (get_or s (p + 2) 0 / 2) (get_or s (q + 2) 0 / 2)))
      (fails (exclusive (literals_in s) (listed_as Valued s (p + 3)) (listed_as Valued s (q + 3)))))

  -- Effects that clash share their bucket.
  pub values_bucket : contradictory_as Valued s One Other ≡ true → bucket_at Valued s q ≡ bucket_at Valued s p
  unfolding contradictory_as contradictory bucket_at sets_apart
  values_bucket h =
      let apart = both_left _ _ (sym clashing_is ∙ both_left _ _ h) in
      let a : get_or s p 0 ≡ get_or s q 0 = eqb-true _ _ (both_left _ _ apart) in
      let f : get_or s (q + 1) 0 ≡ get_or s (p + 1) 0 = eqb-true _ _ (both_left _ _ (both_right _ _ apart)) in
      ap (λ (x : ℕ). x % buckets) (ap₂ (λ (x y : ℕ). format.fluents * x + y) (sym a) f)

  pub values_clash : (t : List ℕ) → RunsHere Valued s t → contradictory_as Valued s One Other
      ≡ both (both (sets_apart Valued s p q) (meets_as Valued s (listed_as Valued s (p + 3)) (listed_as Valued s (q + 3)))) (passing_lines (agreeing (meets_as Valued) s (listed_as Valued s (p + 3)) (listed_as Valued s (q + 3))) (table_in Valued s) (get_or s p 0))
  unfolding contradictory_as contradictory effect_from
  values_clash t runs = ap₂ both clashing_is (sym (lines_agree s t (get_or s p 0) (listed_as Valued s (p + 3)) (listed_as Valued s (q + 3)) runs))
