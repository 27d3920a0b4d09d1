-- The bytes from a place on, as a slice has them, and the entries of a list as a slice. Assumes nothing.
use Prim.Native.Nat.{ℕ, zero, suc, ◌+◌, ◌-◌, ◌≤◌, ◌<◌}
use native.Mathlib.Omega.{arith}
use mathlib.Core.Path.{◌≡◌, refl, sym, ◌∙◌, ap, subst}
use mathlib.Core.List.{List, ◌∷◌}
use lib.ListN.{length, get_or, take, drop, length-drop}
use lib.Seq.{get_or-take, get_or-drop, drop-cons, length-take-le}
use mir.Syntax.{w64}
use mir.Val.{Fits}
use Rattle.reading.specs.Listed.{bytes_from, listed, ListHere}

pub bytes_taken : (n : ℕ) (s : List ℕ) (p : ℕ) → p + n ≤ length s → bytes_from s p n ≡ take n (drop p s)
unfolding bytes_from
bytes_taken zero s p h = refl
bytes_taken (suc n) s p h =
    let up : suc p ≡ p + 1 = omega arith in
    rw (drop-cons s p 0 (omega arith), up) (ap (λ (xs : List ℕ). get_or s p 0 ∷ xs) (bytes_taken n s (p + 1) (omega arith)))

-- The slice of the entries of the list at p, which has x of them.
abbrev pub entries : List ℕ → (p x : ℕ) → List ℕ
entries s p x = take (p + 1 + x - (p + 1)) (drop (p + 1) s)

module _ (bound : ℕ) (s : List ℕ) (p : ℕ) (here : ListHere bound s p) (x : ℕ) (byte : x ≡ get_or s p 0) where
  pub slice_ends : p + 1 + x ≤ length s
  slice_ends = let ends = here.ends in omega arith

  pub slice_starts : p + 1 ≤ p + 1 + x
  slice_starts = omega arith

  pub slice_fits : Fits w64 (length s) → Fits w64 (p + 1 + x)
  slice_fits room = let ends = slice_ends in let most = room.fits in record { fits = omega arith }

  pub slice_listed : listed s p ≡ entries s p x
  unfolding listed
  slice_listed =
      let many : p + 1 + x - (p + 1) ≡ get_or s p 0 = omega arith in
      rw many (bytes_taken (get_or s p 0) s (p + 1) (let ends = here.ends in omega arith))

  pub slice_long : length (entries s p x) ≡ x
  slice_long =
      let ends = slice_ends in
      let many : p + 1 + x - (p + 1) ≡ x = omega arith in
      rw many (length-take-le x (drop (p + 1) s) (rw (length-drop (p + 1) s) (omega arith)))

  -- An entry of it.
  module _ (i : ℕ) (more : i < length (entries s p x)) (l : ℕ) (entry : l ≡ get_or (entries s p x) i 0) where
    pub slice_entry : l ≡ get_or s (p + 1 + i) 0
    slice_entry =
        let long = slice_long in
        entry ∙ get_or-take (p + 1 + x - (p + 1)) (drop (p + 1) s) i 0 (omega arith) ∙ get_or-drop (p + 1) s i 0

    pub slice_below : l < bound
    slice_below = let long = slice_long in subst (λ (y : ℕ). y < bound) (sym slice_entry) (here.below i (omega arith))
