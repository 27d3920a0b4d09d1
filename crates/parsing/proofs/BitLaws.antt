-- A bit that was set is there and the others are as they were, by induction on the bit: what is above bit 0 is the half. Assumes nothing.
use Prim.Native.Nat.{ℕ, zero, suc, ◌+◌, ◌*◌, ◌/◌, ◌%◌, ◌^◌, ◌<◌}
use native.Mathlib.Omega.{arith}
use native.Mathlib.Nat.{div-div-eq-div-mul, one-mul, pow-succ'}
use mathlib.Core.Path.{◌≡◌, refl, sym, ◌∙◌, ap}
use mathlib.Core.Bool.{true, false}
use lib.Dec.{eqb}
use lib.Bits.{bit_or, or_step, or_zero_r}
use lib.Pow.{shl_exact}
use borrow.Author.Tests.{eqb-true, eqb-false, eq-eqb}
use Rattle.meaning.proofs.TestLaws.{by-test, pick_true, pick_false}
use Rattle.parsing.specs.Bits.{bit_of, with_bit}

-- BIT 0 says whether the number is odd, and the other bits are those of its half.
pub bit_zero : (w : ℕ) → bit_of w 0 ≡ eqb (w % 2) 1
unfolding bit_of
bit_zero w = let whole : w / 2 ^ 0 ≡ w = omega arith in ap (λ (x : ℕ). eqb (x % 2) 1) whole

pub bit_suc : (w i : ℕ) → bit_of w (suc i) ≡ bit_of (w / 2) i
unfolding bit_of
bit_suc w i = ap (λ (x : ℕ). eqb (x % 2) 1) (ap (λ (x : ℕ). w / x) (pow-succ' 2 i) ∙ sym (div-div-eq-div-mul w 2 (2 ^ i)))

module _ (w : ℕ) where
  first_odd : with_bit w 0 % 2 ≡ 1
  unfolding with_bit
  first_odd =
      by-test (bit_of w 0)
      (λ e. let odd = eqb-true (w % 2) 1 (sym (bit_zero w) ∙ e) in ap (λ (x : ℕ). x % 2) (pick_true _ _ _ e) ∙ odd)
      (λ e. let even = eqb-false (w % 2) 1 (sym (bit_zero w) ∙ e) in ap (λ (x : ℕ). x % 2) (pick_false _ _ _ e) ∙ omega (arith, even))

  first_half : with_bit w 0 / 2 ≡ w / 2
  unfolding with_bit
  first_half =
      by-test (bit_of w 0)
      (λ e. ap (λ (x : ℕ). x / 2) (pick_true _ _ _ e))
      (λ e. let even = eqb-false (w % 2) 1 (sym (bit_zero w) ∙ e) in ap (λ (x : ℕ). x / 2) (pick_false _ _ _ e) ∙ omega (arith, even))

  module _ (i : ℕ) where
    later_odd : with_bit w (suc i) % 2 ≡ w % 2
    unfolding with_bit
    later_odd =
        by-test (bit_of w (suc i))
        (λ e. ap (λ (x : ℕ). x % 2) (pick_true _ _ _ e))
        (λ e. ap (λ (x : ℕ). x % 2) (pick_false _ _ _ e) ∙ omega (arith, pow-succ' 2 i))

    later_half : with_bit w (suc i) / 2 ≡ with_bit (w / 2) i
    unfolding with_bit
    later_half =
        by-test (bit_of w (suc i))
        (λ e. ap (λ (x : ℕ). x / 2) (pick_true _ _ _ e) ∙ sym (pick_true _ _ _ (sym (bit_suc w i) ∙ e)))
        (λ e. let half : (w + 2 ^ suc i) / 2 ≡ w / 2 + 2 ^ i = omega (arith, pow-succ' 2 i) in
        ap (λ (x : ℕ). x / 2) (pick_false _ _ _ e) ∙ half ∙ sym (pick_false _ _ _ (sym (bit_suc w i) ∙ e)))

-- THE BIT that was set, and the others.
pub bit_set : (w i : ℕ) → bit_of (with_bit w i) i ≡ true
bit_set w zero = bit_zero (with_bit w 0) ∙ eq-eqb _ _ (first_odd w)
bit_set w (suc i) = bit_suc (with_bit w (suc i)) i ∙ ap (λ (x : ℕ). bit_of x i) (later_half w i) ∙ bit_set (w / 2) i

pub bit_kept : (w i j : ℕ) → (i ≡ j → ⊥) → bit_of (with_bit w i) j ≡ bit_of w j
bit_kept w zero zero other = absurd (other refl)
bit_kept w zero (suc j) other = bit_suc (with_bit w 0) j ∙ ap (λ (x : ℕ). bit_of x j) (first_half w) ∙ sym (bit_suc w j)
bit_kept w (suc i) zero other = bit_zero (with_bit w (suc i)) ∙ ap (λ (x : ℕ). eqb x 1) (later_odd w i) ∙ sym (bit_zero w)
bit_kept w (suc i) (suc j) other =
    bit_suc (with_bit w (suc i)) j
    ∙ ap (λ (x : ℕ). bit_of x j) (later_half w i)
    ∙ bit_kept (w / 2) i j (λ e. other (ap suc e))
    ∙ sym (bit_suc w j)

pub no_bit : (i : ℕ) → bit_of 0 i ≡ false
no_bit zero = bit_zero 0
no_bit (suc i) = bit_suc 0 i ∙ no_bit i

-- THE CODE. A right shift is a quotient, a left shift loses nothing, and `|` goes from half to half.
pub has_is : (w i : ℕ) → eqb (w / 2 ^ i % 2) 1 ≡ bit_of w i
unfolding bit_of
has_is w i = refl

or_is : (w i : ℕ) → bit_or w (2 ^ i) ≡ with_bit w i
or_is w zero =
    let step = or_step w 1 in
    let rest = or_zero_r (w / 2) in
    let odd = first_odd w in let half = first_half w in
    omega arith
or_is w (suc i) =
    let power = pow-succ' 2 i in
    let step = or_step w (2 ^ suc i) in
    let halved : 2 ^ suc i / 2 ≡ 2 ^ i = omega arith in
    let rest = ap (bit_or (w / 2)) halved ∙ or_is (w / 2) i in
    let odd = later_odd w i in let half = later_half w i in
    omega arith

pub with_is : (w i : ℕ) → i < 16 → bit_or w ((1 * 2 ^ i) % 2 ^ 16) ≡ with_bit w i
with_is w i near = ap (bit_or w) (shl_exact {a = 1} 1 i 16 (omega arith) (omega arith) ∙ one-mul (2 ^ i)) ∙ or_is w i
