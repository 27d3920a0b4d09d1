-- Citations as they are held, and as they are put, behind their number. Assumes nothing.
use Prim.Native.Nat.{ℕ, suc, ◌+◌, ◌-◌, ◌*◌, ◌≤◌, ◌<◌}
use native.Mathlib.Omega.{arith}
use mathlib.Core.Path.{◌≡◌, refl, sym, ◌∙◌, ap, ap₂}
use mathlib.Core.List.{List, [], ◌∷◌}
use lib.ListN.{length, get_or, take, drop, replicate, set, length-set}
use lib.Seq.{sets, length-sets, length-take-le, drop-cons, drop-set-lt}
use mir.Syntax.{w64}
use mir.Val.{Fits}
use Rattle.std.proofs.lemmas.List.{drop_all, drop-drop, drop-replicate}
use Rattle.meaning.specs.Limits.{format}
use Rattle.meaning.specs.Layouts.{number_written, numbers_written}

-- THE PLACES behind the lines that are cited hold 0. One more line goes into the first of them.
module _ (count : ℕ) (held : List ℕ) (few : count ≤ format.citations) (sized : length held ≡ format.citations) (none : drop count held ≡ replicate (format.citations - count) 0)
    (cites : List ℕ) (is : take count held ≡ cites) (room : length cites < format.citations) where
  room_left : count < format.citations
  room_left = let long = length-take-le count held (omega (arith, few, sized)) in let same = ap length is in omega (arith, long, same, room)

  none_behind : (line : ℕ) → drop (count + 1) (set held count line) ≡ replicate (format.citations - (count + 1)) 0
  none_behind line =
      let left = room_left in
      let less : format.citations - count - 1 ≡ format.citations - (count + 1) = omega arith in
      drop-set-lt (count + 1) held count line (omega arith)
      ∙ (sym (drop-drop 1 count held) ∙ (ap (drop 1) none ∙ (drop-replicate 1 (format.citations - count) 0 ∙ ap (λ (n : ℕ). replicate n 0) less)))

  pub one_more : (line : ℕ) → (count + 1 ≤ format.citations) × (length (set held count line) ≡ format.citations) × (drop (count + 1) (set held count line) ≡ replicate (format.citations - (count + 1)) 0)
  one_more line = let left = room_left in (omega (arith, left), length-set held count line ∙ sized, none_behind line)

-- THEIR BYTES.
pub numbers_length : (ks : List ℕ) → length (numbers_written ks) ≡ 2 * length ks
unfolding numbers_written number_written
numbers_length [] = refl
numbers_length (k ∷ ks) = let more = numbers_length ks in omega (arith, more)

-- The first i of them are put, and p is behind them.
pub record Citing (cites before : List ℕ) (q : ℕ) (room : List ℕ) (p i : ℕ) : Type 0 where
  pub few : length cites ≤ format.citations
  pub near : q < 140737488355328
  pub inside : i ≤ length cites
  pub placed : p ≡ q + 1 + 2 * i
  pub sized : length room ≡ length before
  pub same : sets before (q + 1) (numbers_written cites) ≡ sets room p (numbers_written (drop i cites))

pub citing_starts : (cites room : List ℕ) (q : ℕ) → length cites ≤ format.citations → q < 140737488355328 → Citing cites room q room (q + 1) 0
citing_starts cites room q few near = record { few = few; near = near; inside = omega arith; placed = omega arith; sized = refl; same = refl }

module _ (cites before : List ℕ) (q : ℕ) (room : List ℕ) (p i : ℕ) (puts : Citing cites before q room p i) where
  module _ (more : i < length cites) where
    pub cite_near : p < 281474976710656
    cite_near = let is = puts.placed in let few = puts.few in let near = puts.near in omega (arith, more, is, few, near)

    pub cite_passed : Fits w64 (p + 2)
    cite_passed = let near = puts.near in let is = puts.placed in let few = puts.few in record { fits = omega (arith, more, near, is, few) }

    pub citing_next : (k : ℕ) → k ≡ get_or cites i 0 → (after : List ℕ) → after ≡ sets room p (number_written k) → Citing cites before q after (p + 2) (i + 1)
    unfolding numbers_written number_written
    citing_next k at after put =
        let is = puts.placed in
        let step : i + 1 ≡ suc i = omega arith in
        let first : drop i cites ≡ get_or cites i 0 ∷ drop (i + 1) cites = rw step (drop-cons cites i 0 more) in
        let on : p + 2 ≡ suc (suc p) = omega arith in
        record {
          few = puts.few;
          near = puts.near;
          inside = omega arith;
          placed = omega arith;
          sized = ap length put ∙ length-sets room p (number_written k) ∙ puts.sized;
          same = puts.same ∙ rw (first, put, at, on);
        }

  -- All are put.
  module _ (over : length cites ≤ i) where
    pub cites_end : p ≡ q + (1 + length (numbers_written cites))
    cites_end = let is = puts.placed in let inside = puts.inside in let long = numbers_length cites in omega (arith, over, is, inside, long)

    pub cites_within : p ≤ q + 129
    cites_within = let is = puts.placed in let inside = puts.inside in let few = puts.few in omega (arith, is, inside, few)

    module _ (lent : List ℕ) (first : before ≡ set lent q (length cites)) where
      pub cites_put : room ≡ sets lent q (length cites ∷ numbers_written cites)
      unfolding numbers_written
      cites_put =
          let on : q + 1 ≡ suc q = omega arith in
          sym (puts.same ∙ rw (drop_all i cites over))
          ∙ ap₂ (λ (xs : List ℕ) (j : ℕ). sets xs j (numbers_written cites)) first on

      pub cites_sized : length room ≡ length lent
      cites_sized = puts.sized ∙ ap length first ∙ length-set lent q (length cites)
