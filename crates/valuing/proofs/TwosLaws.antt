-- A list of literals with two bytes each, from its first to its last. Assumes nothing.
use Prim.Native.Nat.{ℕ, zero, suc, ◌+◌, ◌-◌, ◌*◌, ◌/◌, ◌%◌, ◌≤◌, ◌<◌}
use native.Mathlib.Omega.{arith}
use mathlib.Core.Path.{◌≡◌, refl, ◌∙◌, ap, subst}
use mathlib.Core.List.{List, [], ◌∷◌}
use mathlib.Core.Logic.{inl, inr}
use lib.ListN.{length, get_or}
use mir.Syntax.{w64}
use mir.Val.{Fits}
use Rattle.meaning.specs.Tests.{Has}
use Rattle.meaning.specs.Limits.{format}
use Rattle.reading.specs.Listed.{twos_from, ValuesHere}

-- So many literals are left of the list at p, the next of them at a place.
pub record TwosLeft (s : List ℕ) (p at left : ℕ) : Type 0 where
  pub from : p < at
  pub to : at + 2 * left ≡ p + 1 + 2 * get_or s p 0

module _ (s : List ℕ) (p : ℕ) where
  pub twos_start : (count : ℕ) → count ≡ get_or s p 0 → TwosLeft s p (p + 1) count
  twos_start count e = record { from = omega arith; to = ap (λ (x : ℕ). p + 1 + 2 * x) e }

  module _ (here : ValuesHere s p) where
    pub count_there : p < length s
    count_there = let ends = here.ends in omega arith

    pub first_fits : Fits w64 (length s) → Fits w64 (p + 1)
    first_fits room = let there = count_there in let most = room.fits in record { fits = omega arith }

    module _ (at left : ℕ) (so : TwosLeft s p at left) (more : 0 < left) where
      pub second_there : at + 1 < length s
      second_there = let ends = here.ends in let to = so.to in omega arith

      pub literal_there : at < length s
      literal_there = let inside = second_there in omega arith

      pub second_fits : Fits w64 (length s) → Fits w64 (at + 1)
      second_fits room = let inside = second_there in let most = room.fits in record { fits = omega arith }

      pub next_fits : Fits w64 (length s) → Fits w64 (at + 2)
      next_fits room = let inside = second_there in let most = room.fits in record { fits = omega arith }

      is_entry : p + 1 + 2 * (get_or s p 0 - left) ≡ at
      is_entry = let from = so.from in let to = so.to in omega arith

      fluent_near : get_or s at 0 < format.fluents
      fluent_near =
          subst (λ (i : ℕ). get_or s i 0 < format.fluents) is_entry
          (let from = so.from in let to = so.to in here.fluent (get_or s p 0 - left) (omega arith))

      second_near : get_or s (at + 1) 0 < 32
      second_near =
          let entry = is_entry in
          let same : p + 2 + 2 * (get_or s p 0 - left) ≡ at + 1 = omega arith in
          subst (λ (i : ℕ). get_or s i 0 < 32) same (let from = so.from in let to = so.to in here.second (get_or s p 0 - left) (omega arith))

      module _ (l : ℕ) (is : l ≡ get_or s at 0 * 256 + get_or s (at + 1) 0) where
        pub literal_near : l < 32768
        literal_near = let f = fluent_near in let b = second_near in omega arith

        pub literal_second : l % 256 < 32
        literal_second = let f = fluent_near in let b = second_near in omega arith

        pub literal_fluent : l / 256 < format.fluents
        literal_fluent = let f = fluent_near in let b = second_near in omega arith

  pub twos_on : (at left : ℕ) → TwosLeft s p at left → 0 < left → TwosLeft s p (at + 2) (left - 1)
  twos_on at left so more = let from = so.from in let to = so.to in record { from = omega arith; to = omega arith }

-- The next literal, and those behind it.
pub twos_next : (s : List ℕ) (at left l : ℕ) → 0 < left → l ≡ get_or s at 0 * 256 + get_or s (at + 1) 0 → twos_from s at left ≡ l ∷ twos_from s (at + 2) (left - 1)
unfolding twos_from
twos_next s at zero l more is = absurd (omega arith)
twos_next s at (suc left) l more is = let same : suc left - 1 ≡ left = omega arith in rw (is, same)

pub twos_over : (s : List ℕ) (at left : ℕ) → left ≤ 0 → twos_from s at left ≡ []
unfolding twos_from
twos_over s at zero h = refl
twos_over s at (suc left) h = absurd (omega arith)

pub twos_whole : (s : List ℕ) (p count : ℕ) → count ≡ get_or s p 0 → twos_from s (p + 1) count ≡ twos_from s (p + 1) (get_or s p 0)
twos_whole s p count e = ap (twos_from s (p + 1)) e

-- The literals from number k on of the list at p.
module _ (s : List ℕ) (p k : ℕ) (more : k < get_or s p 0) where
  pub at_number : TwosLeft s p (p + 1 + 2 * k) (get_or s p 0 - k)
  at_number = record { from = omega arith; to = omega (arith, more) }

  pub some_left : 0 < get_or s p 0 - k
  some_left = omega (arith, more)

  pub number_next : (l : ℕ) → l ≡ get_or s (p + 1 + 2 * k) 0 * 256 + get_or s (p + 1 + 2 * k + 1) 0
      → twos_from s (p + 1 + 2 * k) (get_or s p 0 - k) ≡ l ∷ twos_from s (p + 1 + 2 * (k + 1)) (get_or s p 0 - (k + 1))
  number_next l is =
      let place : p + 1 + 2 * k + 2 ≡ p + 1 + 2 * (k + 1) = omega arith in
      let fewer : get_or s p 0 - k - 1 ≡ get_or s p 0 - (k + 1) = omega arith in
      twos_next s (p + 1 + 2 * k) (get_or s p 0 - k) l some_left is
      ∙ ap (λ (at : ℕ). l ∷ twos_from s at (get_or s p 0 - k - 1)) place
      ∙ ap (λ (left : ℕ). l ∷ twos_from s (p + 1 + 2 * (k + 1)) left) fewer

pub number_first : (s : List ℕ) (p : ℕ) → twos_from s (p + 1 + 2 * 0) (get_or s p 0 - 0) ≡ twos_from s (p + 1) (get_or s p 0)
number_first s p =
    let place : p + 1 + 2 * 0 ≡ p + 1 = omega arith in
    let all : get_or s p 0 - 0 ≡ get_or s p 0 = omega arith in
    ap (λ (at : ℕ). twos_from s at (get_or s p 0 - 0)) place ∙ ap (λ (left : ℕ). twos_from s (p + 1) left) all

pub number_last : (s : List ℕ) (p k : ℕ) → get_or s p 0 ≤ k → twos_from s (p + 1 + 2 * k) (get_or s p 0 - k) ≡ []
number_last s p k over = twos_over s (p + 1 + 2 * k) (get_or s p 0 - k) (omega (arith, over))

-- Each literal of a list that stands at p.
twos_ranged : (s : List ℕ) (p : ℕ) → ValuesHere s p → (left at : ℕ) → TwosLeft s p at left → (l : ℕ) → Has (twos_from s at left) l → (l < 32768) × (l % 256 < 32)
unfolding twos_from
twos_ranged s p here zero at so l h = absurd h
twos_ranged s p here (suc left) at so l (inl e) = (literal_near s p here at (suc left) so (omega arith) l e, literal_second s p here at (suc left) so (omega arith) l e)
twos_ranged s p here (suc left) at so l (inr h) =
    let from = so.from in let to = so.to in twos_ranged s p here left (at + 2) (record { from = omega arith; to = omega arith }) l h

module _ (s : List ℕ) (p : ℕ) (here : ValuesHere s p) (l : ℕ) (has : Has (twos_from s (p + 1) (get_or s p 0)) l) where
  pub listed_near : l < 32768
  listed_near = (twos_ranged s p here (get_or s p 0) (p + 1) (twos_start s p (get_or s p 0) refl) l has).0

  pub listed_second : l % 256 < 32
  listed_second = (twos_ranged s p here (get_or s p 0) (p + 1) (twos_start s p (get_or s p 0) refl) l has).1

  pub listed_fluent : l / 256 < format.fluents
  listed_fluent = let near = listed_near in omega arith
