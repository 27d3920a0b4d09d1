-- The derive call, a law for each way that it returns: 30, what a walk answers, 38, 39, and what is written. Assumes nothing.
use Prim.Native.Nat.{ℕ, ◌≤◌, ◌<◌}
use native.Mathlib.Omega.{arith}
use mathlib.Core.Path.{◌≡◌, refl, sym, ◌∙◌, ap}
use mathlib.Core.Bool.{true, false}
use mathlib.Core.List.{List, [], ◌++◌}
use lib.ListN.{length, get_or, set, drop}
use lib.Dec.{ltb, leb, eqb}
use mir.Syntax.{w8}
use mir.Val.{Fits}
use borrow.Author.Tests.{eq-eqb, ne_eqb, lt-ltb, le-ltb, le-leb, lt-leb, leb-true, leb-false}
use Rattle.std.specs.Prelude.{Ok, Err}
use Rattle.parsing.specs.Faults.{number_of}
use Rattle.parsing.specs.Read.{Passed}
use Rattle.parsing.specs.declared.faults.Fault.{Fault}
use Rattle.meaning.specs.declared.Answer.{Answer}
use Rattle.meaning.specs.declared.Layout.TheVariants.{Plain}
use Rattle.meaning.specs.Limits.{format}
use Rattle.meaning.specs.Requests.{Request}
use Rattle.meaning.specs.Reading.{got}
use Rattle.meaning.specs.Refusals.{settled}
use Rattle.meaning.specs.States.{State, first_state}
use Rattle.meaning.specs.Walk.{Walked, Verified}
use Rattle.meaning.specs.Judging
use Rattle.meaning.specs.Judging.{Judgement, within}
use Rattle.meaning.specs.Derivations.{Line, answer, beyond}
use Rattle.meaning.specs.Indexes.{put_in}
use Rattle.meaning.specs.Schemes.{derivation_of, derivation_bytes, narrow_walk_of, unwritten, write_bytes, write_lines, unless_refused, derive_got, derive}
use Rattle.meaning.proofs.TestLaws.{by-test, pick_true, pick_false}
use Rattle.meaning.proofs.VerifiedLaws.{within_unread}
use Rattle.meaning.proofs.WithinLaws.{fine_within}
use Rattle.meaning.proofs.NarrowWalks.{narrow_never}
use Rattle.meaning.specs.declared.Form.TheVariants.{Flags}
use Rattle.reading.specs.Noted.{goals_slot, mode_slot, slots, noting, outcome}
use Rattle.reading.specs.Requested.{request_noted}
use Rattle.reading.proofs.SectionLaws.{noting_fault}
use Rattle.finding.specs.Branches.{sequence_place}
use Rattle.finding.specs.TablesHere.{blank}
use Rattle.steps.specs.Held.{guards_in, request_in}
use Rattle.steps.specs.AtHand.{AtHand}
use Rattle.steps.specs.Steps.{narrow_mode, mode_in, walk_held}
use Rattle.steps.proofs.HandLaws.{is_whether}
use Rattle.steps.proofs.ModeLaws.{held_plain, held_narrow}
use Rattle.steps.proofs.ModeHand.{new_mode, same_request, same_guarded, hand_stays}
use Rattle.schemes.specs.declared.scheme.Size.{Size}
use Rattle.schemes.specs.Sizes.{Measured}
use Rattle.glintstring.specs.CheckCalls.{too_many}
use Rattle.glintstring.proofs.SettledAtHand.{settled_got, settled_held}
use Rattle.glintstring.proofs.CheckCallLaws.{beyond_is}

-- THE SIZES that were measured are those of the lines.
module _ (ls : List Line) (size : Size) (measured : Measured ls size) where
  too_many_lines : format.lines < size.lines → format.lines < length ls
  too_many_lines many =
      by-test (leb (length ls) format.lines)
      (λ t. let most = leb-true (length ls) format.lines t in let few = measured.few most in absurd (omega (arith, few, most, many)))
      (λ f. leb-false (length ls) format.lines f)

  pub lines_fit : size.lines ≤ format.lines → length ls ≤ format.lines
  lines_fit few =
      by-test (leb (length ls) format.lines) (λ t. leb-true (length ls) format.lines t)
      (λ f. let more = measured.many (leb-false (length ls) format.lines f) in absurd (omega (arith, few, more)))

  bytes_are : size.lines ≤ format.lines → size.bytes ≡ length (derivation_bytes ls)
  bytes_are few = measured.long (lines_fit few)

  pub bytes_fit : size.lines ≤ format.lines → (room : List ℕ) → size.bytes ≤ length room → length (derivation_bytes ls) ≤ length room
  bytes_fit few room enough = let n = bytes_are few in omega (arith, enough, n)

  -- WHAT IS WRITTEN.
  module _ (room : List ℕ) (a : Answer) where
    pub lines_many : format.lines < size.lines → a ≡ record { number = 38; input = 0; place = 0; count = 0 } → record { answer = a; room = room } ≡ write_lines format room ls
    unfolding write_lines unwritten answer
    lines_many many is = ap (λ (b : Answer). record { answer = b; room = room }) is ∙ sym (pick_true _ _ _ (lt-ltb format.lines (length ls) (too_many_lines many)))

    module _ (few : size.lines ≤ format.lines) where
      by_bytes : write_lines format room ls ≡ write_bytes format room (derivation_bytes ls)
      unfolding write_lines
      by_bytes = pick_false _ _ _ (le-ltb format.lines (length ls) (lines_fit few))

      pub bytes_many : format.derivation < size.bytes → a ≡ record { number = 39; input = 0; place = 0; count = 0 } → record { answer = a; room = room } ≡ write_lines format room ls
      unfolding write_bytes unwritten answer
      bytes_many many is =
          ap (λ (b : Answer). record { answer = b; room = room }) is
          ∙ sym (by_bytes ∙ pick_true _ _ _ (lt-ltb format.derivation (length (derivation_bytes ls)) (let n = bytes_are few in omega (arith, many, n))))

      module _ (fits : size.bytes ≤ format.derivation) where
        by_room : write_lines format room ls ≡ put_in room (derivation_bytes ls)
        unfolding write_bytes
        by_room = by_bytes ∙ pick_false _ _ _ (le-ltb format.derivation (length (derivation_bytes ls)) (let n = bytes_are few in omega (arith, fits, n)))

        pub room_few : length room < size.bytes → a ≡ record { number = 39; input = 0; place = 0; count = 0 } → record { answer = a; room = room } ≡ write_lines format room ls
        room_few less is =
            ap (λ (b : Answer). record { answer = b; room = room }) is
            ∙ sym (by_room ∙ pick_false _ _ _ (lt-leb (length (derivation_bytes ls)) (length room) (let n = bytes_are few in omega (arith, less, n))))

        pub all_written : size.bytes ≤ length room → (w : List ℕ) → w ≡ derivation_bytes ls ++ drop (length (derivation_bytes ls)) room → a ≡ record { number = 0; input = 0; place = 0; count = size.bytes }
            → record { answer = a; room = w } ≡ write_lines format room ls
        all_written enough w puts is =
            ap (λ (b : Answer). record { answer = b; room = w }) (is ∙ ap (λ (k : ℕ). record { number = 0; input = 0; place = 0; count = k }) (bytes_are few))
            ∙ ap (λ (x : List ℕ). record { answer = record { number = 0; input = 0; place = 0; count = length (derivation_bytes ls) }; room = x }) puts
            ∙ sym (by_room ∙ pick_true _ _ _ (le-leb (length (derivation_bytes ls)) (length room) (bytes_fit few room enough)))

-- THE TWO WALKS of what is held, by their answers. The mode is a slot of its own, so what is held is the same request.
module _ (s t lent left : List ℕ) (budget : ℕ) (a : Answer) where
  pub plain_answer : record { answer = a; state = left } ≡ within lent budget (walk_held Flags s t) → guards_in s t ≡ [] → mode_in t ≡ 0 → a ≡ (within [] budget (Judging.walk_of format (request_in Flags s t))).answer
  unfolding request_in
  plain_answer walks unguarded known =
      ap (λ (j : Judgement). j.answer) walks ∙ within_unread lent [] budget (walk_held Flags s t) ∙ ap (λ (w : Walked State). (within [] budget w).answer) (held_plain s t known unguarded)

  pub narrow_answer : (u : List ℕ) → u ≡ set t mode_slot narrow_mode → length t ≡ slots → record { answer = a; state = left } ≡ within lent budget (walk_held Flags s u) → guards_in s t ≡ []
      → a ≡ (within [] budget (narrow_walk_of format (request_in Flags s t))).answer
  narrow_answer u put sized walks unguarded =
      let mode : mode_in u ≡ narrow_mode = ap mode_in put ∙ new_mode Flags s t narrow_mode sized in
      let none : guards_in s u ≡ [] = ap (guards_in s) put ∙ same_guarded Flags s t narrow_mode ∙ unguarded in
      ap (λ (j : Judgement). j.answer) walks
      ∙ within_unread lent [] budget (walk_held Flags s u)
      ∙ ap (λ (w : Walked State). (within [] budget w).answer) (held_narrow s u mode none ∙ ap (narrow_walk_of format) (ap (request_in Flags s) put ∙ same_request Flags s t narrow_mode))

-- Where the second walk answers 0, it ends with nothing missed.
pub narrow_fine : (x : Request) (budget : ℕ) (a : Answer) → a ≡ (within [] budget (narrow_walk_of format x)).answer → a.number ≡ 0 → Verified (narrow_walk_of format x)
narrow_fine x budget a walks none =
    (fine_within [] budget (narrow_walk_of format x) (within [] budget (narrow_walk_of format x)) refl (narrow_never 0 (λ q. omega (arith, q)) (λ q. omega (arith, q)) x (first_state format x.table)) (ap (λ (b : Answer). b.number) (sym walks) ∙ none)).0

-- OF A SETTLED REQUEST: 30, a walk that does not verify, a step that is too wide, and what is written.
module _ (x : Request) (room : List ℕ) (budget : ℕ) (a : Answer) where
  pub derived_30 : beyond Plain x ≡ true → a ≡ record { number = 30; input = 1; place = x.whether_place; count = 0 } → record { answer = a; room = room } ≡ derive_got format room budget (got x 0)
  unfolding derive_got unwritten answer
  derived_30 asked is = ap (λ (b : Answer). record { answer = b; room = room }) is ∙ sym (pick_true _ _ _ asked)

  module _ (none : beyond Plain x ≡ false) where
    pub derived_stopped : a ≡ (within [] budget (Judging.walk_of format x)).answer → (a.number ≡ 0 → ⊥) → record { answer = a; room = room } ≡ derive_got format room budget (got x 0)
    unfolding derive_got unless_refused unwritten
    derived_stopped walks other =
        ap (λ (b : Answer). record { answer = b; room = room }) walks
        ∙ sym (pick_false _ _ _ none ∙ pick_false _ _ _ (ne_eqb _ _ (λ none_other. other (ap (λ (b : Answer). b.number) walks ∙ none_other))))

    module _ (w : Answer) (walks : w ≡ (within [] budget (Judging.walk_of format x)).answer) (good : w.number ≡ 0) where
      verified : eqb (within [] budget (Judging.walk_of format x)).answer.number 0 ≡ true
      verified = eq-eqb _ _ (ap (λ (b : Answer). b.number) (sym walks) ∙ good)

      pub derived_wide : a ≡ (within [] budget (narrow_walk_of format x)).answer → (a.number ≡ 0 → ⊥) → record { answer = a; room = room } ≡ derive_got format room budget (got x 0)
      unfolding derive_got unless_refused unwritten
      derived_wide narrow other =
          ap (λ (b : Answer). record { answer = b; room = room }) narrow
          ∙ sym (pick_false _ _ _ none ∙ pick_true _ _ _ verified ∙ pick_false _ _ _ (ne_eqb _ _ (λ none_other. other (ap (λ (b : Answer). b.number) narrow ∙ none_other))))

      pub derived_written : (v : Answer) → v ≡ (within [] budget (narrow_walk_of format x)).answer → v.number ≡ 0 → (left : List ℕ) → record { answer = a; room = left } ≡ write_lines format room (derivation_of format x)
          → record { answer = a; room = left } ≡ derive_got format room budget (got x 0)
      unfolding derive_got unless_refused
      derived_written v narrow good-too left is =
          is ∙ sym (pick_false _ _ _ none ∙ pick_true _ _ _ verified ∙ pick_true _ _ _ (eq-eqb _ _ (ap (λ (b : Answer). b.number) (sym narrow) ∙ good-too)))

-- OF WHAT IS HELD, by the two walks of it: the second goes by notes with another mode.
pub narrow_hand : (s t : List ℕ) → AtHand Flags s t → (u : List ℕ) → u ≡ set t mode_slot 2 → AtHand Flags s u
narrow_hand s t here u put = rw put (hand_stays Flags s t 2 here)

pub narrow_verified : (s t : List ℕ) (budget : ℕ) → guards_in s t ≡ [] → length t ≡ slots → (u : List ℕ) → u ≡ set t mode_slot 2 → (lent left : List ℕ) (v : Answer)
    → record { answer = v; state = left } ≡ within lent budget (walk_held Flags s u) → v.number ≡ 0 → Verified (narrow_walk_of format (request_in Flags s u))
narrow_verified s t budget unguarded sized u put lent left v walks none =
    rw (ap (request_in Flags s) put ∙ same_request Flags s t 2) (narrow_fine (request_in Flags s t) budget v (narrow_answer s t lent left budget v u put sized walks unguarded) none)

module _ (s t room : List ℕ) (budget : ℕ) (none : beyond Plain (request_in Flags s t) ≡ false) (unguarded : guards_in s t ≡ []) (known : mode_in t ≡ 0) (lent left : List ℕ) (w : Answer)
    (walks : record { answer = w; state = left } ≡ within lent budget (walk_held Flags s t)) where
  plain : w ≡ (within [] budget (Judging.walk_of format (request_in Flags s t))).answer
  plain = plain_answer s t lent left budget w walks unguarded known

  pub walked_stops : (w.number ≡ 0 → ⊥) → record { answer = w; room = room } ≡ derive_got format room budget (got (request_in Flags s t) 0)
  walked_stops = derived_stopped (request_in Flags s t) room budget w none plain

  module _ (good : w.number ≡ 0) (sized : length t ≡ slots) (u : List ℕ) (put : u ≡ set t mode_slot 2) (lent' left' : List ℕ) (v : Answer) (again : record { answer = v; state = left' } ≡ within lent' budget (walk_held Flags s u)) where
    narrow : v ≡ (within [] budget (narrow_walk_of format (request_in Flags s t))).answer
    narrow = narrow_answer s t lent' left' budget v u put sized again unguarded

    same : request_in Flags s u ≡ request_in Flags s t
    same = ap (request_in Flags s) put ∙ same_request Flags s t 2

    pub walked_wide : (v.number ≡ 0 → ⊥) → record { answer = v; room = room } ≡ derive_got format room budget (got (request_in Flags s t) 0)
    walked_wide = derived_wide (request_in Flags s t) room budget v none w plain good narrow

    pub walked_written : v.number ≡ 0 → (a : Answer) (after : List ℕ) → record { answer = a; room = after } ≡ write_lines format room (derivation_of format (request_in Flags s u))
        → record { answer = a; room = after } ≡ derive_got format room budget (got (request_in Flags s t) 0)
    walked_written zero-too a after is =
        derived_written (request_in Flags s t) room budget a none w plain good v narrow zero-too after (is ∙ ap (λ (x : Request). write_lines format room (derivation_of format x)) same)

-- 30, by the count of the whether list, which stands behind the goals.
module _ (s t : List ℕ) (here : AtHand Flags s t) (goals : ℕ) (slot : goals ≡ get_or t goals_slot 0) (whether : ℕ) (after : whether ≡ sequence_place Flags s goals) (asked : ℕ) (count : asked ≡ get_or s whether 0) where
  by_count : beyond Plain (request_in Flags s t) ≡ ltb 0 asked
  unfolding too_many
  by_count = beyond_is s t here Plain [] goals slot whether after asked count (ltb 0 asked) refl

  pub some_asked : (room : List ℕ) (budget : ℕ) (a : Answer) → 0 < asked → a ≡ record { number = 30; input = 1; place = whether; count = 0 } → record { answer = a; room = room } ≡ derive_got format room budget (got (request_in Flags s t) 0)
  unfolding request_in
  some_asked room budget a some is =
      derived_30 (request_in Flags s t) room budget a (by_count ∙ lt-ltb 0 asked some) (is ∙ ap (λ (p : ℕ). record { number = 30; input = 1; place = p; count = 0 }) (is_whether s t here goals slot whether after))

  pub none_asked : asked ≤ 0 → beyond Plain (request_in Flags s t) ≡ false
  none_asked none = by_count ∙ le-ltb 0 asked none

-- THE CALL.
module _ (s room : List ℕ) (budget : ℕ) (a : Answer) (t u : List ℕ) (r : Passed) (settles : outcome r u ≡ noting (request_noted Flags) (settled format s) t) where
  pub derive_refused : (why : Fault) → r ≡ Err why → a ≡ record { number = number_of why.refusal; input = 1; place = why.place; count = 0 } → record { answer = a; room = room } ≡ derive format s room budget
  unfolding derive derive_got unwritten answer
  derive_refused why stops is =
      ap (λ (b : Answer). record { answer = b; room = room }) is ∙ sym (ap (derive_got format room budget) (noting_fault (request_noted Flags) (settled format s) r t u settles why stops))

  pub derive_so : (e : ℕ) → r ≡ Ok e → ((j : ℕ) → Fits w8 (get_or s j 0)) → t ≡ blank → (left : List ℕ) → record { answer = a; room = left } ≡ derive_got format room budget (got (request_in Flags s u) 0)
      → record { answer = a; room = left } ≡ derive format s room budget
  unfolding derive derive_got
  derive_so e passes bytes empty left is =
      is
      ∙ ap (λ (x : Request). derive_got format room budget (got x 0)) (settled_held s t u r settles e passes bytes empty)
      ∙ sym (ap (derive_got format room budget) (settled_got s t u r settles e passes).1)
