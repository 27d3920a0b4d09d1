-- Sets of values as numbers: what is in both, what satisfies a literal, and what a list leaves to each fluent. Assumes nothing.
use Prim.Native.Nat.{ℕ, zero, suc, ◌+◌, ◌-◌, ◌/◌, ◌%◌, ◌^◌, ◌<◌, min}
use native.Mathlib.Omega.{arith}
use native.Mathlib.Nat.{zero-min}
use native.Mathlib.Decide.{ℕ_discrete}
use mathlib.Core.Path.{◌≡◌, refl, sym, ◌∙◌, ap, subst}
use mathlib.Core.Bool.{Bool, true, false}
use mathlib.Core.List.{List, [], ◌∷◌}
use lib.ListN.{get_or, set, replicate, length-set, length-replicate, get_or-replicate}
use lib.Seq.{get_or-set_same, get_or-set_other}
use lib.Dec.{eqb}
use lib.Bits.{bit_and, and_step}
use borrow.Author.Tests.{eq-eqb, ne_eqb}
use Rattle.std.specs.List.{list_any, range_with_len}
use Rattle.std.specs.Prelude.{◌||◌}
use Rattle.meaning.specs.Tests.{both, either, fails, pick, some_of, each_of}
use Rattle.meaning.specs.Limits.{format}
use Rattle.meaning.specs.Literals.{positive}
use Rattle.meaning.specs.Values.{numbers, fits}
use Rattle.meaning.specs.Reading.{literals_in}
use Rattle.meaning.proofs.TestLaws.{by-test, each_has}
use Rattle.meaning.proofs.ValueLaws.{has_numbers}
use Rattle.parsing.specs.Bits.{bit_of}
use Rattle.parsing.specs.Masks.{every_value, satisfying, some_left, narrowed, Allows}
use Rattle.parsing.proofs.BitLaws.{bit_zero, bit_suc}

-- WHAT IS IN BOTH. Digit by digit, the lesser of the two.
lesser_one : (x y : ℕ) → x < 2 → y < 2 → eqb (min x y) 1 ≡ both (eqb x 1) (eqb y 1)
unfolding both
lesser_one zero y h k = rw (zero-min y)
lesser_one (suc zero) zero h k = refl
lesser_one (suc zero) (suc zero) h k = refl
lesser_one (suc zero) (suc (suc y)) h k = absurd (omega arith)
lesser_one (suc (suc x)) y h k = absurd (omega arith)

lesser_small : (x y : ℕ) → x < 2 → min x y < 2
lesser_small zero y h = subst (λ (m : ℕ). m < 2) (sym (zero-min y)) (omega arith)
lesser_small (suc zero) zero h = omega arith
lesser_small (suc zero) (suc zero) h = omega arith
lesser_small (suc zero) (suc (suc y)) h = omega arith
lesser_small (suc (suc x)) y h = absurd (omega arith)

pub bit_both : (a b i : ℕ) → bit_of (bit_and a b) i ≡ both (bit_of a i) (bit_of b i)
bit_both a b zero =
    let step = and_step a b in
    let small = lesser_small (a % 2) (b % 2) (omega arith) in
    let last : bit_and a b % 2 ≡ min (a % 2) (b % 2) = omega arith in
    bit_zero (bit_and a b) ∙ ap (λ (x : ℕ). eqb x 1) last ∙ lesser_one (a % 2) (b % 2) (omega arith) (omega arith)
    ∙ sym (ap (λ (x : Bool). both x (bit_of b 0)) (bit_zero a) ∙ ap (both (eqb (a % 2) 1)) (bit_zero b))
bit_both a b (suc i) =
    let step = and_step a b in
    let small = lesser_small (a % 2) (b % 2) (omega arith) in
    let half : bit_and a b / 2 ≡ bit_and (a / 2) (b / 2) = omega arith in
    bit_suc (bit_and a b) i ∙ ap (λ (x : ℕ). bit_of x i) half ∙ bit_both (a / 2) (b / 2) i
    ∙ sym (ap (λ (x : Bool). both x (bit_of b (suc i))) (bit_suc a i) ∙ ap (both (bit_of (a / 2) i)) (bit_suc b i))

-- SIXTEEN VALUES. Each of them is tried.
is_bits : each_of (λ (v : ℕ). each_of (λ (u : ℕ). pick (bit_of (2 ^ v) u) (λ _. eqb u v) (λ _. fails (eqb u v))) (numbers 0 16)) (numbers 0 16) ≡ true
unfolding each_of both bit_of pick fails numbers
is_bits = refl

is_not_bits : each_of (λ (v : ℕ). each_of (λ (u : ℕ). pick (bit_of (65535 - 2 ^ v) u) (λ _. fails (eqb u v)) (λ _. eqb u v)) (numbers 0 16)) (numbers 0 16) ≡ true
unfolding each_of both bit_of pick fails numbers
is_not_bits = refl

all_bits : each_of (bit_of 65535) (numbers 0 16) ≡ true
unfolding each_of both bit_of numbers
all_bits = refl

tried : (test : ℕ → Bool) (v : ℕ) → v < 16 → each_of test (numbers 0 16) ≡ true → test v ≡ true
tried test v h e = each_has test (numbers 0 16) v e (has_numbers 0 16 v (omega arith) (omega arith))

pick_is : (a b : Bool) → pick a (λ _. b) (λ _. fails b) ≡ true → a ≡ b
unfolding pick fails
pick_is true b e = sym e
pick_is false true e = e
pick_is false false e = refl

pick_is_not : (a b : Bool) → pick a (λ _. fails b) (λ _. b) ≡ true → a ≡ fails b
unfolding pick fails
pick_is_not true true e = sym e
pick_is_not true false e = refl
pick_is_not false true e = refl
pick_is_not false false e = e

pub satisfied_bit : (s : List ℕ) (l v : ℕ) → l % 256 < 32 → v < 16 → bit_of (satisfying l) v ≡ (literals_in s).satisfied l v
unfolding satisfying pick
satisfied_bit s l v h k =
    by-test (positive l)
    (λ e. rw (e, pick) (pick_is _ _ (tried _ v k (tried _ (l % 256 / 2) (omega arith) is_bits))))
    (λ e. rw (e, pick) (pick_is_not _ _ (tried _ v k (tried _ (l % 256 / 2) (omega arith) is_not_bits))))

pub every_bit : (v : ℕ) → v < 16 → bit_of every_value v ≡ true
every_bit v h = tried (bit_of 65535) v h all_bits

-- WHAT IS LEFT of so many values, by a look at each.
any_some : (test : ℕ → Bool) (xs : List ℕ) → list_any test xs ≡ some_of test xs
unfolding some_of either
any_some test [] = refl
any_some test (x ∷ xs) = elim (test x) as (λ b. (b || list_any test xs) ≡ either b (some_of test xs)) [ true ↦ refl | false ↦ any_some test xs ]

numbers_range : (first many : ℕ) → range_with_len first many ≡ numbers first many
unfolding numbers
numbers_range first zero = refl
numbers_range first (suc many) = ap (λ (xs : List ℕ). first ∷ xs) (numbers_range (first + 1) many)

pub left_any : (m values : ℕ) → list_any (bit_of m) (range_with_len 0 values) ≡ some_left m values
unfolding some_left
left_any m values = any_some (bit_of m) (range_with_len 0 values) ∙ ap (some_of (bit_of m)) (numbers_range 0 values)

both_swapped : (a b : Bool) → both a b ≡ both b a
unfolding both
both_swapped true true = refl
both_swapped true false = refl
both_swapped false true = refl
both_swapped false false = refl

both_first : (a : Bool) → both true a ≡ a
unfolding both
both_first a = refl

-- WHAT A LIST LEAVES. At first everything, and with a literal more what satisfies that too.
pub allows_all : (s : List ℕ) → Allows s [] (replicate format.fluents every_value)
unfolding fits each_of
allows_all s =
    record {
      sized = length-replicate format.fluents every_value;
      bits = λ f v near low. ap (λ (m : ℕ). bit_of m v) (get_or-replicate format.fluents f every_value 0 near) ∙ every_bit v low;
    }

pub allows_narrowed : (s b sets : List ℕ) (l : ℕ) → Allows s b sets → l < 32768 → l % 256 < 32 → Allows s (l ∷ b) (narrowed l sets)
unfolding narrowed fits each_of either fails
allows_narrowed s b sets l so h k =
    record {
      sized = length-set sets (l / 256) _ ∙ so.sized;
      bits = λ f v near low. elim (ℕ_discrete (l / 256) f) [
        | yes same ↦
            subst (λ (g : ℕ). bit_of (get_or (set sets (l / 256) (bit_and (get_or sets (l / 256) 0) (satisfying l))) g 0) v ≡ fits (literals_in s) (l ∷ b) g v) same (there v low)
        | no other ↦ ap (λ (m : ℕ). bit_of m v) (get_or-set_other sets (l / 256) f _ 0 (λ e. other (sym e))) ∙ so.bits f v near low ∙ sym (elsewhere f v other)
      ];
    }
  where
    there : (v : ℕ) → v < 16 → bit_of (get_or (set sets (l / 256) (bit_and (get_or sets (l / 256) 0) (satisfying l))) (l / 256) 0) v ≡ fits (literals_in s) (l ∷ b) (l / 256) v
    there v low =
        ap (λ (m : ℕ). bit_of m v) (get_or-set_same sets (l / 256) _ 0 (subst (λ (n : ℕ). l / 256 < n) (sym so.sized) (omega arith)))
        ∙ bit_both (get_or sets (l / 256) 0) (satisfying l) v
        ∙ ap (λ (x : Bool). both x (bit_of (satisfying l) v)) (so.bits (l / 256) v (omega arith) low)
        ∙ ap (both (fits (literals_in s) b (l / 256) v)) (satisfied_bit s l v k low)
        ∙ both_swapped _ _
        ∙ ap (λ (x : Bool). both (either (fails x) ((literals_in s).satisfied l v)) (fits (literals_in s) b (l / 256) v)) (sym (eq-eqb (l / 256) (l / 256) refl))

    elsewhere : (f v : ℕ) → (l / 256 ≡ f → ⊥) → fits (literals_in s) (l ∷ b) f v ≡ fits (literals_in s) b f v
    elsewhere f v other = ap (λ (x : Bool). both (either (fails x) ((literals_in s).satisfied l v)) (fits (literals_in s) b f v)) (ne_eqb (l / 256) f other) ∙ both_first _
