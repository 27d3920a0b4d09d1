-- The derivation call and the whether call, a law for each way that they return: the whether list stands behind the goals, and is asked by its
-- count. Assumes nothing.
use Prim.Native.Nat.{ℕ, ◌+◌, ◌<◌}
use native.Mathlib.Omega.{arith}
use mathlib.Core.Path.{◌≡◌, refl, sym, ◌∙◌, ap}
use mathlib.Core.Bool.{Bool, true, false}
use mathlib.Core.List.{List, [], ◌∷◌}
use lib.ListN.{length, get_or}
use lib.Dec.{ltb}
use mir.Syntax.{w8}
use mir.Val.{Fits}
use borrow.Author.Tests.{lt-ltb, le-ltb}
use Rattle.std.specs.Prelude.{Ok, Err}
use Rattle.parsing.specs.declared.faults.Fault.{Fault}
use Rattle.meaning.specs.declared.Answer.{Answer}
use Rattle.meaning.specs.declared.Layout.{Layout}
use Rattle.meaning.specs.declared.Layout.TheVariants.{Plain, Closing}
use Rattle.meaning.specs.Tests.{some_of, either}
use Rattle.meaning.specs.Limits.{format}
use Rattle.meaning.specs.Requests.{Entry, Request}
use Rattle.meaning.specs.Reading.{got}
use Rattle.meaning.specs.Refusals.{settled}
use Rattle.meaning.specs.Derivations.{check_derivation, answer, accepted_if, beyond, check_settled, check}
use Rattle.meaning.proofs.TestLaws.{pick_true, pick_false}
use Rattle.parsing.specs.Faults.{number_of}
use Rattle.parsing.specs.Read.{Passed, over, passed}
use Rattle.parsing.proofs.ListLaws.{passed_to, passed_stop}
use Rattle.meaning.specs.declared.Form.TheVariants.{Flags}
use Rattle.reading.specs.Noted.{noting, outcome, goals_slot}
use Rattle.reading.specs.Listed.{listed}
use Rattle.reading.specs.Requested.{request_noted}
use Rattle.reading.proofs.SectionLaws.{noting_fault}
use Rattle.reading.proofs.RequestLaws.{placed_length}
use Rattle.finding.specs.Branches.{sequence_place}
use Rattle.finding.specs.TablesHere.{blank}
use Rattle.finding.proofs.PlanHere.{listed_length}
use Rattle.steps.specs.Held.{whether_in, request_in}
use Rattle.steps.specs.AtHand.{AtHand}
use Rattle.steps.proofs.HandLaws.{is_whether, whether_here}
use Rattle.glintstring.specs.CheckCalls.{too_many, check_at_hand}
use Rattle.glintstring.proofs.SettledAtHand.{settled_got, settled_held}

-- THE WHETHER LIST stands behind the goals.
pub whether_inside : (s t : List ℕ) → AtHand Flags s t → (goals : ℕ) → goals ≡ get_or t goals_slot 0 → (whether : ℕ) → whether ≡ sequence_place Flags s goals → whether < length s
whether_inside s t here goals slot whether after = let ends = (whether_here s t here goals slot whether after).ends in omega arith

-- What a layout does not speak of.
pub plain_beyond : (layout : Layout) (asked : ℕ) → layout ≡ Plain → ltb 0 asked ≡ too_many layout asked
unfolding too_many
plain_beyond layout asked e = rw e

pub closing_beyond : (layout : Layout) (asked : ℕ) → layout ≡ Closing → false ≡ too_many layout asked
unfolding too_many
closing_beyond layout asked e = rw e

-- A list is asked where it has an entry.
asked_by_count : (ws : List Entry) → some_of (λ (w : Entry). true) ws ≡ ltb 0 (length ws)
unfolding some_of either
asked_by_count [] = sym (le-ltb 0 0 (omega arith))
asked_by_count (w ∷ ws) = sym (lt-ltb 0 (length (w ∷ ws)) (omega arith))

beyond_by_count : (layout : Layout) (r : Request) → beyond layout r ≡ too_many layout (length r.whether)
unfolding beyond too_many
beyond_by_count Plain r = asked_by_count r.whether
beyond_by_count Closing r = refl

module _ (s t : List ℕ) (here : AtHand Flags s t) (layout : Layout) (d : List ℕ) (goals : ℕ) (slot : goals ≡ get_or t goals_slot 0) (whether : ℕ) (after : whether ≡ sequence_place Flags s goals) (asked : ℕ) (count : asked ≡ get_or s whether 0)
    (refused : Bool) (many : refused ≡ too_many layout asked) where
  asked_long : length (request_in Flags s t).whether ≡ asked
  unfolding request_in
  asked_long =
      placed_length (whether_in Flags s t + 1) (listed s (whether_in Flags s t))
      ∙ listed_length s (whether_in Flags s t)
      ∙ ap (λ (p : ℕ). get_or s p 0) (sym (is_whether s t here goals slot whether after))
      ∙ sym count

  pub beyond_is : beyond layout (request_in Flags s t) ≡ refused
  beyond_is = beyond_by_count layout (request_in Flags s t) ∙ ap (too_many layout) asked_long ∙ sym many

  -- 30.
  pub check_30 : refused ≡ true → record { number = 30; input = 1; place = whether; count = 0 } ≡ check_at_hand layout (request_in Flags s t) d
  unfolding check_at_hand check_settled answer request_in
  check_30 told =
      ap (λ (p : ℕ). answer 30 1 p) (is_whether s t here goals slot whether after) ∙ sym (pick_true _ _ _ (beyond_is ∙ told))

  module _ (clear : refused ≡ false) where
    check_goes : check_at_hand layout (request_in Flags s t) d ≡ accepted_if (check_derivation format layout (request_in Flags s t) d)
    unfolding check_at_hand check_settled
    check_goes = pick_false _ _ _ (beyond_is ∙ clear)

    module _ (r : Passed) (is : over r ≡ passed (check_derivation format layout (request_in Flags s t) d)) where
      -- Accepted.
      pub check_accepts : (e : ℕ) → r ≡ Ok e → record { number = 0; input = 0; place = 0; count = 0 } ≡ check_at_hand layout (request_in Flags s t) d
      unfolding accepted_if answer
      check_accepts e passes = sym (check_goes ∙ ap accepted_if (passed_to (check_derivation format layout (request_in Flags s t) d) e (sym is ∙ ap over passes)).1)

      -- Refused.
      pub check_refuses : (why : Fault) → r ≡ Err why → record { number = number_of why.refusal; input = 2; place = why.place; count = 0 } ≡ check_at_hand layout (request_in Flags s t) d
      unfolding accepted_if answer
      check_refuses why stops = sym (check_goes ∙ ap accepted_if (passed_stop (check_derivation format layout (request_in Flags s t) d) why (sym is ∙ ap over stops)))

-- THE CALLS.
module _ (layout : Layout) (s d t u : List ℕ) (r : Passed) (settles : outcome r u ≡ noting (request_noted Flags) (settled format s) t) where
  pub check_settled_first : (why : Fault) → r ≡ Err why → record { number = number_of why.refusal; input = 1; place = why.place; count = 0 } ≡ check format layout s d
  unfolding check check_settled answer
  check_settled_first why stops = sym (ap (check_settled format layout d) (noting_fault (request_noted Flags) (settled format s) r t u settles why stops))

  pub check_then : (e : ℕ) → r ≡ Ok e → ((i : ℕ) → Fits w8 (get_or s i 0)) → t ≡ blank → (a : Answer) → a ≡ check_at_hand layout (request_in Flags s u) d → a ≡ check format layout s d
  unfolding check check_at_hand check_settled
  check_then e passes bytes empty a is =
      is
      ∙ ap (λ (z : Request). check_settled format layout d (got z 0)) (settled_held s t u r settles e passes bytes empty)
      ∙ sym (ap (check_settled format layout d) (settled_got s t u r settles e passes).1)
