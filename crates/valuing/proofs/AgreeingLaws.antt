-- A list agrees with the sets that another leaves exactly where the two lists do not exclude each other: on a fluent that both name the sets decide, and what only one names
-- that one leaves a value. Assumes nothing.
use Prim.Native.Nat.{ℕ, ◌/◌, ◌<◌}
use native.Mathlib.Omega.{arith}
use mathlib.Core.Path.{◌≡◌, refl, sym, ◌∙◌, subst}
use mathlib.Core.Bool.{Bool, true, false}
use mathlib.Core.List.{List}
use lib.ListN.{get_or}
use lib.Dec.{eqb}
use borrow.Author.Tests.{eqb-true, eq-eqb}
use Rattle.meaning.specs.Tests.{both, fails, some_of, each_of, Has}
use Rattle.meaning.specs.Limits.{format}
use Rattle.meaning.specs.Reading.{values_in, literals_in, leaves_one}
use Rattle.meaning.specs.Values.{numbers, values_of, fits, disagree, exclusive}
use Rattle.meaning.proofs.TestLaws.{by-test, clash, same_test, both_true, both_left, both_right, either_left, fails_true, fails_false, some_has, has_some, each_has, has_each}
use Rattle.meaning.proofs.ValueLaws.{numbers_has}
use Rattle.parsing.specs.Bits.{bit_of}
use Rattle.parsing.specs.Masks.{Allows, FewValues}
use Rattle.valuing.specs.Valuing.{agreeing, leaves_beside}

-- Some literal of the list names the fluent.
unfoldable pub names : (s c : List ℕ) (fluent : ℕ) → Bool
names s c f = some_of (λ (k : ℕ). eqb ((literals_in s).fluent k) f) c

-- A list that does not name a fluent leaves it every value.
pub unnamed_fits : (s b : List ℕ) (f v : ℕ) → names s b f ≡ false → fits (literals_in s) b f v ≡ true
unfolding fits names
unnamed_fits s b f v none =
    has_each _ b (λ l has. either_left _ _ (fails_false _ (by-test (eqb (l / 256) f) (λ e. clash (has_some (λ (k : ℕ). eqb (k / 256) f) b l has e) none) (λ e. e))))

unfailed : (a : Bool) → fails a ≡ false → a ≡ true
unfolding fails
unfailed true e = refl
unfailed false e = sym e

-- TWO LISTS.
module _ (s b c : List ℕ) where
  beside_apart : leaves_beside s b c ≡ true → exclusive (literals_in s) b c ≡ false
  unfolding leaves_beside exclusive disagree values_of
  beside_apart e =
      by-test (exclusive (literals_in s) b c)
      (λ x.
      let t = some_has _ b x in
      let l = t.0 in
      let u = some_has _ c (both_left _ _ t.2) in
      let k = u.0 in
      let same : k / 256 ≡ l / 256 = eqb-true _ _ u.2 in
      let one : some_of (λ (v : ℕ). both (fits (literals_in s) b (k / 256) v) (fits (literals_in s) c (k / 256) v)) (numbers 0 (values_in s (k / 256))) ≡ true =
      each_has _ c k e u.1 in
      clash (subst (λ (f : ℕ). some_of (λ (v : ℕ). both (fits (literals_in s) b f v) (fits (literals_in s) c f v)) (numbers 0 (values_in s f)) ≡ true) same one) (fails_true _ (both_right _ _ t.2)))
      (λ f. f)

  apart_beside : each_of (λ (l : ℕ). leaves_one s l c) c ≡ true → exclusive (literals_in s) b c ≡ false → leaves_beside s b c ≡ true
  unfolding leaves_beside exclusive disagree values_of leaves_one names
  apart_beside leaves apart =
      has_each _ c
      (λ k has.
      by-test (names s b (k / 256))
      (λ e.
      let t = some_has (λ (l : ℕ). eqb (l / 256) (k / 256)) b e in
      let l = t.0 in
      let same : l / 256 ≡ k / 256 = eqb-true _ _ t.2 in
      let shared : names s c (l / 256) ≡ true = has_some (λ (m : ℕ). eqb (m / 256) (l / 256)) c k has (eq-eqb _ _ (sym same)) in
      by-test (disagree (literals_in s) b c (l / 256))
      (λ d. clash (has_some _ b l t.1 (both_true _ _ shared d)) apart)
      (λ d. subst (λ (f : ℕ). some_of (λ (v : ℕ). both (fits (literals_in s) b f v) (fits (literals_in s) c f v)) (numbers 0 (values_in s f)) ≡ true) same (unfailed _ d)))
      (λ e.
      let w = some_has _ (numbers 0 (values_in s (k / 256))) (each_has _ c k leaves has) in
      has_some _ (numbers 0 (values_in s (k / 256))) w.0 w.1 (both_true _ _ (unnamed_fits s b (k / 256) w.0 e) w.2)))

  -- FORMAT 26.23, of a list each of whose literals leaves its fluent a value.
  pub beside_is : each_of (λ (l : ℕ). leaves_one s l c) c ≡ true → leaves_beside s b c ≡ fails (exclusive (literals_in s) b c)
  beside_is leaves =
      same_test _ _
      (λ e. fails_false _ (beside_apart e))
      (λ e. apart_beside leaves (fails_true _ e))

-- A LIST AND SETS that another leaves.
module _ (s b sets c : List ℕ) (so : Allows s b sets) (few : FewValues s) (near : (l : ℕ) → Has c l → l / 256 < format.fluents) where
  set_is : (l v : ℕ) → Has c l → Has (numbers 0 (values_in s (l / 256))) v → bit_of (get_or sets (l / 256) 0) v ≡ fits (literals_in s) b (l / 256) v
  set_is l v has there =
      let below = numbers_has 0 (values_in s (l / 256)) v there in let most = few.each (l / 256) in so.bits (l / 256) v (near l has) (omega arith)

  pub agreeing_beside : agreeing s sets c ≡ leaves_beside s b c
  unfolding agreeing leaves_beside values_of
  agreeing_beside =
      same_test _ _
      (λ e. has_each _ c (λ l has.
      let w = some_has _ (numbers 0 (values_in s (l / 256))) (each_has _ c l e has) in
      has_some _ (numbers 0 (values_in s (l / 256))) w.0 w.1 (both_true _ _ (sym (set_is l w.0 has w.1) ∙ both_left _ _ w.2) (both_right _ _ w.2))))
      (λ e. has_each _ c (λ l has.
      let w = some_has _ (numbers 0 (values_in s (l / 256))) (each_has _ c l e has) in
      has_some _ (numbers 0 (values_in s (l / 256))) w.0 w.1 (both_true _ _ (set_is l w.0 has w.1 ∙ both_left _ _ w.2) (both_right _ _ w.2))))

  pub agreeing_is : each_of (λ (l : ℕ). leaves_one s l c) c ≡ true → agreeing s sets c ≡ fails (exclusive (literals_in s) b c)
  agreeing_is leaves = agreeing_beside ∙ beside_is s b c leaves
