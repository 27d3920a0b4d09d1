-- Every answer's input, place and count are what its number says (FORMAT 4.26 to 4.44). The walk call judges by its walk, whose stops have the number 2 and a
-- state (`JudgedParts`). Each answer of the derivation call is written with them in one place, and its place is one that was read. Assumes nothing.
use Prim.Native.Nat.{ℕ, ◌≤◌, ◌<◌}
use native.Mathlib.Omega.{arith}
use mathlib.Core.Path.{◌≡◌, refl, sym, ◌∙◌, ap, subst}
use mathlib.Core.Bool.{true, false}
use mathlib.Core.List.{List}
use lib.ListN.{length}
use lib.Dec.{eqb}
use Rattle.meaning.specs.declared.Answer.{Answer}
use Rattle.meaning.specs.declared.Layout.{Layout}
use Rattle.meaning.specs.declared.Layout.TheVariants.{Plain, Closing}
use Rattle.meaning.specs.Tests.{both, either, fails, pick, some_of, each_of}
use Rattle.meaning.specs.Limits
use Rattle.meaning.specs.Limits.{Limits}
use Rattle.meaning.specs.Literals.{among}
use Rattle.meaning.specs.Requests.{Request}
use Rattle.meaning.specs.Reading.{Got, got, fault}
use Rattle.meaning.specs.Refusals.{settled}
use Rattle.meaning.specs.States.{State, first_state}
use Rattle.meaning.specs.Walk.{Concerned, in_state, End, fine, missed, stopped}
use Rattle.meaning.specs.Judging.{walk_of, judge}
use Rattle.meaning.specs.Derivations.{check_derivation, answer, accepted_if, check_settled, check}
use Rattle.meaning.specs.Answers.{refusals, answers, end_fault}
use Rattle.meaning.specs.AnswerParts.{of_neither, of_requests, of_derivations, inputs_of, WalkInput, CheckInput, at_start, Placed, named, of_walks, WalkCount, stated}
use Rattle.meaning.proofs.TestLaws.{clash}
use Rattle.meaning.proofs.LiteralLaws.{among_each}
use Rattle.meaning.proofs.PickLaws.{pick_has}
use Rattle.meaning.proofs.KeptEnds.{Stuck, walked_stuck}
use Rattle.meaning.proofs.PlaceLaws.{walked_below, placed_start, placed_byte, FaultIn, RequestHeld, settled_held, byte_faults, derivation_faults, Checked, derivation_checked}
use Rattle.meaning.proofs.JudgedParts.{Tells, StopTold, StopsTold, WalksWithin, Parts, judged_parts}

-- THE WALK CALL.
walk_tells : Tells refusals answers of_walks stated
unfolding among answers refusals of_neither of_walks stated some_of either each_of both fails
walk_tells = record { fine = (refl, refl, refl); missed = (refl, refl, refl); spent = (refl, refl, refl); length = (refl, refl, refl); refusing = refl }

-- Its stops are told so: they have the number 2, and a state.
stuck_told : (end : End State) → Stuck end → StopsTold refusals answers of_walks stated end
unfolding among answers of_neither at_start of_walks stated some_of either
stuck_told fine stuck = tt
stuck_told (missed p s) stuck = tt
stuck_told (stopped n p u) stuck =
    subst (λ (v : Concerned State). StopTold refusals answers of_walks stated n p v) (sym stuck.1.1)
    (subst (λ (m : ℕ). StopTold refusals answers of_walks stated m p (in_state stuck.1.0)) (sym stuck.0) (refl, refl, (refl, refl, refl)))

module _ (lim : Limits) (request lent : List ℕ) (budget : ℕ) where
  walks_within : (x : Got Request) → RequestHeld lim request x → WalksWithin refusals answers of_walks stated (walk_of lim) lim request x
  walks_within (got r e) h = (h.1.1, walked_below (length request) r h.1.0 (first_state lim r.table), stuck_told (walk_of lim r).end (walked_stuck r (first_state lim r.table)))
  walks_within (fault n p) h = h

  -- All that the number says.
  pub walk_parts : Parts refusals answers of_walks stated (walk_of lim) lim request lent budget (settled lim request) (judge lim request lent budget)
  unfolding judge
  walk_parts = judged_parts refusals answers of_walks stated (walk_of lim) lim request lent budget (settled lim request) walk_tells (walks_within (settled lim request) (settled_held lim request))

  -- Neither input is named exactly with 0, 3 and 9, and the request with every other number (FORMAT 4.26, 4.27).
  pub input_exactly : WalkInput (judge lim request lent budget).answer
  input_exactly = walk_parts.input

  -- With 0, 1 and 2 the count is the walk's, with 3 it is the budget, and with every other number 0 (FORMAT 4.42 to 4.44).
  pub count_exactly : WalkCount lim request budget (judge lim request lent budget).answer
  count_exactly = walk_parts.count

  -- The place is 0 with 0, 3, 9 and 10, the request's length with 11, and that of a byte with every other number (FORMAT 4.30).
  pub place_within : Placed (length request) (judge lim request lent budget).answer.number (judge lim request lent budget).answer.place
  place_within = walk_parts.place

  -- So it is at most the request limit: a longer request gets 10.
  pub place_limited : (judge lim request lent budget).answer.place ≤ lim.request
  place_limited = walk_parts.fits

-- THE DERIVATION CALL and the whether call. The limit of the input that an answer names:
abbrev pub limit_of : Limits → Answer → ℕ
limit_of lim a = pick (eqb a.input Limits.the_derivation) (λ _. lim.derivation) (λ _. lim.request)

module _ (lim : Limits) (request derivation : List ℕ) where
  record CheckParts (a : Answer) : Type 0 where
    input : CheckInput a
    count : a.count ≡ 0
    place : Placed (length (named a request derivation)) a.number a.place
    fits : a.place ≤ limit_of lim a

  accepted_parts : CheckParts (answer Limits.verified Limits.neither_input 0)
  unfolding answer named among inputs_of of_neither at_start some_of either pick
  accepted_parts = record {
    input = record { neither = (λ _. refl, λ _. refl); allowed = refl };
    count = refl;
    place = placed_start (length request) Limits.verified refl;
    fits = omega arith;
  }

  asked_parts : (p : ℕ) → p < length request → length request ≤ lim.request → CheckParts (answer Limits.whether_asked Limits.the_request p)
  unfolding answer named among inputs_of of_neither of_requests at_start some_of either pick
  asked_parts p less short = record {
    input = record { neither = (λ q. absurd (omega (arith, q)), λ q. absurd (omega (arith, q))); allowed = refl };
    count = refl;
    place = placed_byte (length request) Limits.whether_asked p refl less;
    fits = omega (arith, less, short);
  }

  request_parts : (n p : ℕ) → FaultIn refusals lim.request (length request) n p → CheckParts (answer n Limits.the_request p)
  unfolding answer named among refusals inputs_of of_neither of_requests of_derivations some_of either each_of both pick
  request_parts n p h = record {
    input = record {
      neither = (λ q. absurd (omega (arith, q)), λ q. clash h.number (ap (λ (m : ℕ). among m refusals) q));
      allowed = among_each (λ (m : ℕ). among Limits.the_request (inputs_of m)) refusals refl n h.number;
    };
    count = refl;
    place = h.placed;
    fits = h.fits;
  }

  -- A fault of a derivation names the derivation, and is not 0.
  faults_allow : (layout : Layout) → each_of (λ (m : ℕ). among Limits.the_derivation (inputs_of m)) (derivation_faults layout) ≡ true
  unfolding among derivation_faults byte_faults end_fault inputs_of of_neither of_requests of_derivations some_of either each_of both pick
  faults_allow Plain = refl
  faults_allow Closing = refl

  faults_refuse : (layout : Layout) → among Limits.verified (derivation_faults layout) ≡ false
  unfolding among derivation_faults byte_faults end_fault some_of either
  faults_refuse Plain = refl
  faults_refuse Closing = refl

  module _ (layout : Layout) where
    derivation_parts : (n p : ℕ) → FaultIn (derivation_faults layout) lim.derivation (length derivation) n p → CheckParts (answer n Limits.the_derivation p)
    unfolding answer named pick
    derivation_parts n p h = record {
      input = record {
        neither = (λ q. absurd (omega (arith, q)), λ q. clash h.number (ap (λ (m : ℕ). among m (derivation_faults layout)) q ∙ faults_refuse layout));
        allowed = among_each (λ (m : ℕ). among Limits.the_derivation (inputs_of m)) (derivation_faults layout) (faults_allow layout) n h.number;
      };
      count = refl;
      place = h.placed;
      fits = h.fits;
    }

    accepted_if_parts : (x : Got (Unit {0})) → Checked lim layout derivation x → CheckParts (accepted_if x)
    unfolding accepted_if
    accepted_if_parts (got u e) h = accepted_parts
    accepted_if_parts (fault n p) h = derivation_parts n p h

    check_settled_parts : (x : Got Request) → RequestHeld lim request x → CheckParts (check_settled lim layout derivation x)
    unfolding check_settled
    check_settled_parts (got r e) h =
        pick_has CheckParts _ _ _ (λ _. asked_parts r.whether_place h.1.0.whether_place h.1.1)
        (λ _. accepted_if_parts (check_derivation lim layout r derivation) (derivation_checked lim layout derivation r))
    check_settled_parts (fault n p) h = request_parts n p h

module _ (lim : Limits) (layout : Layout) (request derivation : List ℕ) where
  check_parts : CheckParts lim request derivation (check lim layout request derivation)
  unfolding check
  check_parts = check_settled_parts lim request derivation layout (settled lim request) (settled_held lim request)

  -- Neither input is named exactly with 0, and else one that the number allows (FORMAT 4.26 to 4.29, 17.35, 17.36).
  pub check_input_exactly : CheckInput (check lim layout request derivation)
  check_input_exactly = check_parts.input

  -- The count is 0, whatever the number (FORMAT 4.44).
  pub check_count_exactly : (check lim layout request derivation).count ≡ 0
  check_count_exactly = check_parts.count

  -- The place is 0 with 0 and 10, the named input's length with 11, and that of one of its bytes with every other number (FORMAT 4.30).
  pub check_place_within : Placed (length (named (check lim layout request derivation) request derivation)) (check lim layout request derivation).number (check lim layout request derivation).place
  check_place_within = check_parts.place

  -- So it is at most that input's limit: a longer one gets 10.
  pub check_place_limited : (check lim layout request derivation).place ≤ limit_of lim (check lim layout request derivation)
  check_place_limited = check_parts.fits
