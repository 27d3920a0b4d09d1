-- What noting a line leaves in the notes, and what the notes say of a line. Assumes nothing.
use Prim.Native.Nat.{ℕ, ◌+◌, ◌-◌, ◌*◌, ◌%◌, ◌≤◌, ◌<◌}
use native.Mathlib.Omega.{arith}
use mathlib.Core.Path.{◌≡◌, sym, ◌∙◌, ap}
use mathlib.Core.Bool.{Bool}
use mathlib.Core.List.{List}
use lib.ListN.{get_or, set}
use lib.Dec.{eqb}
use mir.Syntax.{w64}
use mir.Val.{Fits}
use borrow.Author.Tests.{lt-ltb, le-ltb, eq-eqb, ne_eqb}
use Rattle.meaning.specs.Limits.{format}
use Rattle.meaning.proofs.TestLaws.{by-test, pick_true, pick_false}
use Rattle.parsing.specs.Bits.{bit_of, with_bit}
use Rattle.reading.specs.Noted.{line_place, next_line, first_line, before, appended, raised, word_bits, pair_slot, pair_there, bit_noted, pair_noted, sensed_from, sensed_to, run_lines, slots, line_numbers}

-- A LINE.
pub before_first : (last a : ℕ) → last ≡ 0 → line_numbers + a ≡ before last a
unfolding before
before_first last a e = sym (pick_true _ _ _ (eq-eqb last 0 e))

pub before_later : (last a r : ℕ) → (last ≡ 0 → ⊥) → r ≡ last → r ≡ before last a
unfolding before
before_later last a r h e = e ∙ sym (pick_false _ _ _ (ne_eqb last 0 h))

pub before_most : (last a : ℕ) → last < line_numbers → a < format.actions → before last a < line_numbers + format.actions
unfolding before
before_most last a h g = by-test (eqb last 0) (λ e. rw (pick_true (eqb last 0) (λ _. line_numbers + a) (λ _. last) e) (omega arith)) (λ e. rw (pick_false (eqb last 0) (λ _. line_numbers + a) (λ _. last) e) (omega arith))

module _ (lines last a i : ℕ) (at : i ≡ before last a) where
  module _ (few : lines ≤ run_lines) (small : last < line_numbers) (acts : a < format.actions) where
    pub link_there : lines + line_numbers + i < slots
    link_there = let most = before_most last a small acts in omega arith

    pub link_fits : Fits w64 (lines + line_numbers + i)
    link_fits = let most = before_most last a small acts in record { fits = omega arith }

  pub line_appended : (k p : ℕ) (t u v : List ℕ) → u ≡ set t (lines + k) p → v ≡ set u (lines + line_numbers + i) k → v ≡ appended lines last k p a t
  unfolding appended
  line_appended k p t u v placed linked = linked ∙ rw (placed, at)

pub first_got : (t : List ℕ) (lines a r : ℕ) → r ≡ get_or t (lines + 2 * line_numbers + a) 0 → r ≡ first_line t lines a
unfolding first_line next_line
first_got t lines a r e = let same : lines + 2 * line_numbers + a ≡ lines + line_numbers + (line_numbers + a) = omega arith in e ∙ ap (λ (slot : ℕ). get_or t slot 0) same

pub next_got : (t : List ℕ) (lines k r : ℕ) → r ≡ get_or t (lines + line_numbers + k) 0 → r ≡ next_line t lines k
unfolding next_line
next_got t lines k r e = e

pub place_got : (t : List ℕ) (lines k r : ℕ) → r ≡ get_or t (lines + k) 0 → r ≡ line_place t lines k
unfolding line_place
place_got t lines k r e = e

-- WHAT IS SENSED.
module _ (slot v x : ℕ) (t : List ℕ) (read : x ≡ get_or t slot 0) where
  pub raise_set : (u : List ℕ) → x < v → u ≡ set t slot v → u ≡ raised slot v t
  unfolding raised
  raise_set u h e = e ∙ sym (pick_true _ _ _ (lt-ltb (get_or t slot 0) v (rw (sym read) h)))

  pub raise_not : v ≤ x → t ≡ raised slot v t
  unfolding raised
  raise_not h = sym (pick_false _ _ _ (le-ltb (get_or t slot 0) v (rw (sym read) h)))

module _ (a f slot : ℕ) (t : List ℕ) (at : slot ≡ pair_slot a f) where
  pub pair_got : (r : Bool) → r ≡ bit_of (get_or t slot 0) (f % word_bits) → r ≡ pair_there t a f
  unfolding pair_there
  pair_got r e = e ∙ ap (λ (j : ℕ). bit_of (get_or t j 0) (f % word_bits)) at

  pub pair_note : (word : ℕ) (u v : List ℕ) → word ≡ with_bit (get_or t slot 0) (f % word_bits) → u ≡ raised (sensed_from + a) (format.fluents - f) (set t slot word) → v ≡ raised (sensed_to + a) (f + 1) u
      → v ≡ pair_noted a f t
  unfolding pair_noted bit_noted
  pair_note word u v d e g = g ∙ rw (e, d, at)
