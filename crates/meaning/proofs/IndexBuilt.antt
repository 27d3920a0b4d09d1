-- The index call: what it gives of a settled request, with room enough and without, and of one that is refused; and so its answer is one of its numbers, and input,
-- place, count and room are what the number says (demand 1, FORMAT 23.22). By the cases of the definition. Assumes nothing.
use Prim.Native.Nat.{ℕ, ◌≤◌, ◌<◌}
use native.Mathlib.Omega.{arith}
use mathlib.Core.Path.{◌≡◌, refl, sym, ◌∙◌, ap, subst}
use mathlib.Core.Bool.{true, false}
use mathlib.Core.List.{List, ◌++◌}
use lib.ListN.{length, drop, length-append, length-drop}
use lib.Dec.{leb}
use borrow.Author.Tests.{leb-true, leb-false, le-leb, lt-leb}
use Rattle.meaning.specs.Tests.{both, either, fails, some_of, each_of}
use Rattle.meaning.specs.Limits
use Rattle.meaning.specs.Limits.{Limits, format, most_index}
use Rattle.meaning.specs.Literals.{among}
use Rattle.meaning.specs.Requests.{Request}
use Rattle.meaning.specs.Reading.{Got, got, fault}
use Rattle.meaning.specs.Refusals.{settled}
use Rattle.meaning.specs.Indexes.{index_of, Built, build_got, build}
use Rattle.meaning.specs.Layouts.{Bytes}
use Rattle.meaning.specs.Answers.{refusals, index_answers}
use Rattle.meaning.specs.AnswerParts.{of_neither, at_start, of_rooms, IndexInput, IndexPlaced, IndexCount}
use Rattle.meaning.proofs.TestLaws.{by-test, clash, either_right, fails_true, pick_true, pick_false}
use Rattle.meaning.proofs.LiteralLaws.{among_each}
use Rattle.meaning.proofs.PlaceLaws.{placed_start, FaultIn, RequestHeld, settled_held}
use Rattle.meaning.proofs.IndexLaws.{settled_index_most}

-- WHAT IT GIVES.
module _ (room : List ℕ) where
  -- Of a settled request: the index, with what was lent behind it; or 39, with the room as lent.
  abbrev pub built : List ℕ → Built
  built index = record {
    answer = record { number = Limits.verified; input = Limits.neither_input; place = 0; count = length index };
    room = index ++ drop (length index) room;
  }

  abbrev pub too_short : Built
  too_short = record { answer = record { number = Limits.room_short; input = Limits.neither_input; place = 0; count = 0 }; room = room }

  -- Of one that is refused.
  abbrev pub refused : (number place : ℕ) → Built
  refused n p = record { answer = record { number = n; input = Limits.the_request; place = p; count = 0 }; room = room }

module _ (lim : Limits) (s room : List ℕ) where
  module _ (r : Request) (e : ℕ) (past : settled lim s ≡ got r e) where
    pub index_built : length (index_of r.table) ≤ length room → build lim s room ≡ built room (index_of r.table)
    unfolding build build_got
    index_built fits = ap (build_got room) past ∙ pick_true _ _ _ (le-leb (length (index_of r.table)) (length room) fits)

    pub index_short : length room < length (index_of r.table) → build lim s room ≡ too_short room
    unfolding build build_got
    index_short short = ap (build_got room) past ∙ pick_false _ _ _ (lt-leb (length (index_of r.table)) (length room) short)

  pub index_refused : (n p : ℕ) → settled lim s ≡ fault n p → build lim s room ≡ refused room n p
  unfolding build build_got
  index_refused n p past = ap (build_got room) past

  -- What is so of each of these is so of the call.
  pub by_building : (P : Built → Type 0)
      → ((r : Request) (e : ℕ) → settled lim s ≡ got r e → length (index_of r.table) ≤ length room → P (built room (index_of r.table)))
      → ((r : Request) (e : ℕ) → settled lim s ≡ got r e → length room < length (index_of r.table) → P (too_short room))
      → ((n p : ℕ) → settled lim s ≡ fault n p → FaultIn refusals lim.request (length s) n p → P (refused room n p))
      → P (build lim s room)
  by_building P long short bad = by_read (settled lim s) refl (settled_held lim s)
    where
      by_read : (x : Got Request) → settled lim s ≡ x → RequestHeld lim s x → P (build lim s room)
      by_read (got r e) past held =
          by-test (leb (length (index_of r.table)) (length room))
          (λ t. let fits = leb-true (length (index_of r.table)) (length room) t in subst P (sym (index_built r e past fits)) (long r e past fits))
          (λ f. let less = leb-false (length (index_of r.table)) (length room) f in subst P (sym (index_short r e past less)) (short r e past less))
      by_read (fault n p) past held = subst P (sym (index_refused n p past)) (bad n p past held)

-- DEMAND 1. A refusal is neither 0 nor 39.
among_more : (n : ℕ) → among n refusals ≡ true → among n index_answers ≡ true
unfolding among index_answers some_of
among_more n is = either_right _ _ (either_right _ _ is)

not_of_rooms : (n : ℕ) → among n refusals ≡ true → among n of_rooms ≡ false
unfolding among refusals of_rooms some_of either each_of both fails
not_of_rooms n is = fails_true _ (among_each (λ (m : ℕ). fails (among m of_rooms)) refusals refl n is)

pub not_verified : (n : ℕ) → among n refusals ≡ true → n ≡ Limits.verified → ⊥
unfolding among of_rooms some_of either
not_verified n is same = clash (ap (λ (m : ℕ). among m of_rooms) same) (not_of_rooms n is)

pub not_short : (n : ℕ) → among n refusals ≡ true → n ≡ Limits.room_short → ⊥
unfolding among of_rooms some_of either
not_short n is same = clash (ap (λ (m : ℕ). among m of_rooms) same) (not_of_rooms n is)

module _ (lim : Limits) (s room : List ℕ) where
  -- The number is one of 0, 10 to 21 and 39 (FORMAT 23.22).
  pub index_numbered : among (build lim s room).answer.number index_answers ≡ true
  unfolding among index_answers some_of either
  index_numbered = by_building lim s room (λ b. among b.answer.number index_answers ≡ true) (λ _ _ _ _. refl) (λ _ _ _ _. refl) (λ n _ _ held. among_more n held.number)

  -- Neither input is named exactly with 0 and 39, and the request with every other number.
  pub index_input : IndexInput (build lim s room).answer
  unfolding among of_rooms some_of either
  index_input =
      by_building lim s room (λ b. IndexInput b.answer)
      (λ _ _ _ _. record { neither = (λ _. refl, λ _. refl); request = λ f. clash refl f })
      (λ _ _ _ _. record { neither = (λ _. refl, λ _. refl); request = λ f. clash refl f })
      (λ n _ _ held. record { neither = (λ q. absurd (omega (arith, q)), λ t. clash t (not_of_rooms n held.number)); request = λ _. refl })

  -- The place is 0 with 0, 10 and 39, the request's length with 11, and that of a byte with every other number.
  pub index_place : IndexPlaced (length s) (build lim s room).answer.number (build lim s room).answer.place
  unfolding among at_start of_neither some_of either
  index_place =
      by_building lim s room (λ b. IndexPlaced (length s) b.answer.number b.answer.place)
      (λ _ _ _ _. record { short = λ _. refl; other = λ _. placed_start (length s) Limits.verified refl })
      (λ _ _ _ _. record { short = λ _. refl; other = λ other. absurd (other refl) })
      (λ n _ _ held. record { short = λ is. absurd (not_short n held.number is); other = λ _. held.placed })

  pub index_place_limited : (build lim s room).answer.place ≤ lim.request
  index_place_limited = by_building lim s room (λ b. b.answer.place ≤ lim.request) (λ _ _ _ _. omega arith) (λ _ _ _ _. omega arith) (λ _ _ _ held. held.fits)

  -- The count is the index's length with 0, and 0 with every other number.
  pub index_count : IndexCount lim s (build lim s room).answer
  index_count =
      by_building lim s room (λ b. IndexCount lim s b.answer)
      (λ r e past _. record { built = λ _. (r, e, past, refl); other = λ other. absurd (other refl) })
      (λ _ _ _ _. record { built = λ q. absurd (omega (arith, q)); other = λ _. refl })
      (λ n _ _ held. record { built = λ is. absurd (not_verified n held.number is); other = λ _. refl })

  -- The room keeps its length.
  pub index_room_length : length (build lim s room).room ≡ length room
  index_room_length =
      by_building lim s room (λ b. length b.room ≡ length room)
      (λ r e _ fits. let whole = length-append (index_of r.table) (drop (length (index_of r.table)) room) in let behind = length-drop (length (index_of r.table)) room in omega (arith, fits, whole, behind))
      (λ _ _ _ _. refl) (λ _ _ _ _. refl)

-- In the format the count is at most what an index may have.
module _ (s : List ℕ) (bytes : Bytes s) (room : List ℕ) where
  pub index_count_limited : (build format s room).answer.count ≤ most_index
  index_count_limited = by_building format s room (λ b. b.answer.count ≤ most_index) (λ r e past _. settled_index_most s bytes r e past) (λ _ _ _ _. omega arith) (λ _ _ _ _. omega arith)
