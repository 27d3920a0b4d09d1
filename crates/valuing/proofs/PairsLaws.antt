-- A list of literals with two bytes each, gone over as a slice in pairs of bytes. Assumes nothing.
use Prim.Native.Nat.{ℕ, zero, suc, ◌+◌, ◌*◌, ◌/◌, ◌%◌, ◌<◌}
use native.Mathlib.Omega.{arith}
use mathlib.Core.Path.{◌≡◌, refl, sym, ◌∙◌, ap, subst}
use mathlib.Core.List.{List, [], ◌∷◌, ◌++◌}
use mathlib.Core.Logic.{inl, inr}
use lib.ListN.{length, get_or}
use Rattle.std.specs.declared.slice.ChunksExact.{ChunksExact}
use Rattle.meaning.specs.Tests.{Has}
use Rattle.meaning.specs.Limits.{format}
use Rattle.reading.specs.Listed.{bytes_from, twos_from, ValuesHere}
use Rattle.valuing.proofs.TwosLaws.{listed_near, listed_second, listed_fluent}

-- The numbers whose bytes stand in pairs.
pub twos_of : List ℕ → List ℕ
twos_of [] = []
twos_of (high ∷ []) = []
twos_of (high ∷ low ∷ rest) = (high * 256 + low) ∷ twos_of rest

twos_in : (s : List ℕ) (n at : ℕ) → twos_of (bytes_from s at (2 * n)) ≡ twos_from s at n
unfolding twos_of bytes_from twos_from
twos_in s zero at = refl
twos_in s (suc n) at =
    let twice : 2 * suc n ≡ suc (suc (2 * n)) = omega arith in
    let third : at + 1 + 1 ≡ at + 2 = omega arith in
    rw (twice, third, twos_in s n (at + 2))

pair_first : (pair rest : List ℕ) → length pair ≡ 2 → (l : ℕ) → l ≡ get_or pair 0 0 * 256 + get_or pair 1 0 → twos_of (pair ++ rest) ≡ l ∷ twos_of rest
unfolding twos_of
pair_first [] rest two l is = absurd (omega (arith, two))
pair_first (a ∷ []) rest two l is = absurd (omega (arith, two))
pair_first (a ∷ b ∷ []) rest two l is = rw is
pair_first (a ∷ b ∷ c ∷ pair) rest two l is = absurd (omega (arith, two))

none_whole : (rest : List ℕ) → length rest < 2 → twos_of rest ≡ []
unfolding twos_of
none_whole [] few = refl
none_whole (a ∷ []) few = refl
none_whole (a ∷ b ∷ rest) few = absurd (omega (arith, few))

-- The literals that are left are of the list at p.
pub record PairsLeft (s : List ℕ) (p : ℕ) (rest : List ℕ) (size : ℕ) : Type 0 where
  pub two : size ≡ 2
  pub within : (l : ℕ) → Has (twos_of rest) l → Has (twos_from s (p + 1) (get_or s p 0)) l

module _ (s : List ℕ) (p : ℕ) where
  module _ (bytes : List ℕ) (are : bytes ≡ bytes_from s (p + 1) (2 * get_or s p 0)) (chunks pairs : ChunksExact ℕ) (from : pairs ≡ chunks) (whole : chunks.rest.now ≡ bytes) where
    pub pairs_whole : twos_of pairs.rest.now ≡ twos_from s (p + 1) (get_or s p 0)
    pairs_whole = ap (λ (it : ChunksExact ℕ). twos_of it.rest.now) from ∙ ap twos_of (whole ∙ are) ∙ twos_in s (get_or s p 0) (p + 1)

    pub pairs_start : chunks.size ≡ 2 → PairsLeft s p pairs.rest.now pairs.size
    pairs_start two = record { two = ap (λ (it : ChunksExact ℕ). it.size) from ∙ two; within = λ l h. subst (λ (ls : List ℕ). Has ls l) pairs_whole h }

  module _ (rest : List ℕ) (size : ℕ) (so : PairsLeft s p rest size) where
    pub pairs_over : {A B C : Type 0} → A × ((length rest < size) × B) × C → twos_of rest ≡ []
    pairs_over turn = let two = so.two in let few = turn.1.0 in none_whole rest (omega (arith, two, few))

    module _ (pair next : List ℕ) (after : ℕ) {X : Type 0} (turn : (after ≡ size) × ((rest ≡ pair ++ next) × (length pair ≡ size)) × X) (l : ℕ) (is : l ≡ get_or pair 0 0 * 256 + get_or pair 1 0) where
      pub pair_turn : twos_of rest ≡ l ∷ twos_of next
      pair_turn = ap twos_of turn.1.0 ∙ pair_first pair next (turn.1.1 ∙ so.two) l is

      pair_within : Has (twos_from s (p + 1) (get_or s p 0)) l
      pair_within = so.within l (subst (λ (ls : List ℕ). Has ls l) (sym pair_turn) (inl refl))

      pub pairs_on : PairsLeft s p next after
      pairs_on = record { two = turn.0 ∙ so.two; within = λ k h. so.within k (subst (λ (ls : List ℕ). Has ls k) (sym pair_turn) (inr h)) }

      module _ (here : ValuesHere s p) where
        pub pair_near : l < 32768
        pair_near = listed_near s p here l pair_within

        pub pair_second : l % 256 < 32
        pair_second = listed_second s p here l pair_within

        pub pair_fluent : l / 256 < format.fluents
        pair_fluent = listed_fluent s p here l pair_within
