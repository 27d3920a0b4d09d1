-- The two passes: the lines from the first position on are those of the derivation, and with their number before them they are its bytes. Assumes nothing.
use Prim.Native.Nat.{ℕ, ◌+◌, ◌/◌, ◌%◌, ◌≤◌, ◌<◌}
use native.Mathlib.Omega.{arith}
use mathlib.Core.Path.{◌≡◌, sym, ◌∙◌, ap, ap₂}
use mathlib.Core.List.{List, ◌++◌, append-nil}
use lib.ListN.{length, length-append, get_or, set, drop}
use lib.Seq.{sets, sets-eq}
use lib.Dec.{ltb}
use borrow.Author.Tests.{ltb-true, ltb-false}
use Rattle.meaning.specs.declared.Layout.TheVariants.{Plain}
use Rattle.meaning.specs.Limits.{format}
use Rattle.meaning.specs.States.{State, state_of}
use Rattle.meaning.specs.Walk.{Verified}
use Rattle.meaning.specs.Derivations.{Line}
use Rattle.meaning.specs.Layouts.{number_written, lines_written, closing_written, written}
use Rattle.meaning.specs.Schemes.{derivation_of, derivation_bytes, walked_narrow, narrow_walk_of}
use Rattle.meaning.proofs.TestLaws.{by-test}
use Rattle.reading.specs.Noted.{items_slot}
use Rattle.reading.specs.Listed.{listed}
use Rattle.steps.specs.Held.{plan_in, request_in}
use Rattle.steps.specs.AtHand.{AtHand}
use Rattle.steps.specs.Rests.{rest_at, start}
use Rattle.steps.proofs.FirstLaws.{rest_first, first_flags, at_is}
use Rattle.writing.specs.declared.lines.Progress.{Progress}
use Rattle.writing.specs.Progress.{so_far, add, standing, Underway}
use Rattle.writing.proofs.ProgressLaws.{add_within, add_above, stands_over, stands_so_far, over_stands}
use Rattle.steps.proofs.StoreLaws.{store_before, stores_behind}
use Rattle.schemes.specs.declared.scheme.Size.{Size}
use Rattle.schemes.specs.Narrow.{narrow_from, NarrowFrom, lines_at}
use Rattle.schemes.specs.Put.{Put}
use Rattle.schemes.specs.Sizes.{Lined, Measured}
use Rattle.meaning.specs.declared.Form.TheVariants.{Flags}

-- THE START: no line, behind two bytes.
abbrev opening : Progress
opening = record { lines = 0; end = 2 }

pub opens_underway : Underway opening
opens_underway = record { few = omega arith; short = omega arith }

opens : (room : List ℕ) → standing opening room ≡ so_far 0 2 room
opens room = stands_so_far opening room (omega arith)

-- What stands so far.
module _ (progress : Progress) (room : List ℕ) (n b : ℕ) (other : List ℕ) (is : standing progress room ≡ so_far n b other) where
  stands_as : so_far progress.lines progress.end room ≡ so_far n b other
  stands_as =
      by-test (ltb format.lines progress.lines)
      (λ u. let never = sym (stands_over progress room (ltb-true _ _ u)) ∙ is in let z : ◌≡◌ {A = ℕ} 0 1 = cc in absurd (omega arith))
      (λ u. sym (stands_so_far progress room (ltb-false _ _ u)) ∙ is)

  lines_are : progress.lines ≡ n
  lines_are = let same = stands_as in cc

  bytes_end : progress.end ≡ b
  bytes_end = let same = stands_as in cc

  room_is : room ≡ other
  room_is = let same = stands_as in cc

-- THE WHOLE PLAN, from its first position and the first state.
module _ (s t : List ℕ) (here : AtHand Flags s t) (items at : ℕ) (counted : items ≡ get_or t items_slot 0) (starts : at ≡ start items) (marks : State) (is : marks ≡ state_of format (listed s 2)) where
  whole_left : rest_at (plan_in Flags s t) at ≡ plan_in Flags s t
  whole_left = ap (rest_at (plan_in Flags s t)) (at_is s t here items at counted starts) ∙ rest_first (plan_in Flags s t)

  pub whole_narrow : Verified (narrow_walk_of format (request_in Flags s t)) → NarrowFrom s t at marks
  unfolding narrow_from walked_narrow request_in
  whole_narrow good = rw (whole_left, first_flags s t here marks is) good

  whole_lines : lines_at s t at marks 0 ≡ derivation_of format (request_in Flags s t)
  unfolding lines_at derivation_of request_in
  whole_lines = rw (whole_left, first_flags s t here marks is)

  pub plan_lined : (room : List ℕ) (progress : Progress) (room' : List ℕ) → Put (lines_at s t at marks 0) opening room progress room'
      → Lined (derivation_of format (request_in Flags s t)) room (record { lines = progress.lines; bytes = progress.end }) room'
  plan_lined room progress room' put =
      let ls : List Line = derivation_of format (request_in Flags s t) in
      let puts : standing progress room' ≡ add (so_far 0 2 room) ls = put.stands ∙ ap₂ add (opens room) whole_lines in
      let within : length ls ≤ format.lines → standing progress room' ≡ so_far (0 + length ls) (2 + length (lines_written Plain ls)) (sets room 2 (lines_written Plain ls)) =
      λ few. puts ∙ add_within 0 2 room ls (omega arith) in
      record {
        many = λ many. over_stands progress room' (puts ∙ add_above 0 2 room ls (omega arith));
        few = λ few. let is = lines_are progress room' _ _ _ (within few) in omega arith;
        long = λ few. bytes_end progress room' _ _ _ (within few);
        stand = λ few. room_is progress room' _ _ _ (within few);
      }

-- THE BYTES of a derivation: the number of lines, and the lines.
bytes_are : (ls : List Line) → derivation_bytes ls ≡ number_written (length ls) ++ lines_written Plain ls
unfolding derivation_bytes written closing_written
bytes_are ls = ap (λ (bs : List ℕ). number_written (length ls) ++ bs) (append-nil (lines_written Plain ls))

bytes_long : (ls : List Line) → length (derivation_bytes ls) ≡ 2 + length (lines_written Plain ls)
unfolding number_written
bytes_long ls = ap length (bytes_are ls) ∙ length-append (number_written (length ls)) (lines_written Plain ls)

pub plan_measured : (ls : List Line) (room : List ℕ) (size : Size) (room' : List ℕ) → Lined ls room size room' → Measured ls size
plan_measured ls room size room' lined = record { many = lined.many; few = lined.few; long = λ few. lined.long few ∙ sym (bytes_long ls) }

module _ (ls : List Line) (few : length ls ≤ format.lines) (room : List ℕ) (size : Size) (room' : List ℕ) (lined : Lined ls room size room') where
  pub count_near : size.lines < 65536
  count_near = let is = lined.few few in omega arith

  pub plan_written : length (derivation_bytes ls) ≤ length room → (last : List ℕ) → last ≡ sets room' 0 (number_written size.lines) → last ≡ derivation_bytes ls ++ drop (length (derivation_bytes ls)) room
  unfolding number_written
  plan_written fits last put =
      let n = length ls in
      let W : List ℕ = lines_written Plain ls in
      let long = bytes_long ls in
      let all : 0 + length (derivation_bytes ls) ≡ length (derivation_bytes ls) = omega arith in
      put
      ∙ ap (λ (m : ℕ). sets room' 0 (number_written m)) (lined.few few)
      ∙ ap (λ (r : List ℕ). sets r 0 (number_written n)) (lined.stand few)
      ∙ ap (λ (r : List ℕ). set r 1 (n % 256)) (store_before W room 0 2 (n / 256) (omega arith))
      ∙ store_before W (set room 0 (n / 256)) 1 2 (n % 256) (omega arith)
      ∙ sym (stores_behind (number_written n) W room 0)
      ∙ ap (sets room 0) (sym (bytes_are ls))
      ∙ sets-eq (derivation_bytes ls) room 0 (omega arith)
      ∙ ap (λ (m : ℕ). derivation_bytes ls ++ drop m room) all
