-- Every answer of a call that judges by a walk what it read is one of its numbers, and its input, place, count and state are what the number says: each answer is
-- written with them in one place, its place is one that was read or walked to, and no refusal has a number of a walk. What the calls differ in are their refusals and the numbers
-- with which a walk stops, with a state or without one. Assumes nothing.
use Prim.Native.Nat.{ℕ, ◌≤◌, ◌<◌}
use native.Mathlib.Omega.{arith}
use mathlib.Core.Path.{◌≡◌, refl, ap}
use mathlib.Core.Bool.{Bool, true, false}
use mathlib.Core.List.{List, ◌∷◌}
use lib.ListN.{length}
use Rattle.meaning.specs.Tests.{both, either, fails, some_of, each_of}
use Rattle.meaning.specs.Limits
use Rattle.meaning.specs.Limits.{Limits}
use Rattle.meaning.specs.Literals.{among}
use Rattle.meaning.specs.Reading.{Got, got, fault}
use Rattle.meaning.specs.States.{State}
use Rattle.meaning.specs.Walk.{Concerned, no_state, in_state, End, fine, missed, stopped, Walked}
use Rattle.meaning.specs.Judging.{Judgement, written_over, reported, count_told, ended, within, refused_at, wrong_length, judge_got, judge_by}
use Rattle.meaning.specs.AnswerParts.{of_neither, WalkInput, at_start, Placed, Counted, concerned, Written}
use Rattle.meaning.proofs.TestLaws.{clash, both_left, both_right, either_false, fails_true}
use Rattle.meaning.proofs.LiteralLaws.{among_each}
use Rattle.meaning.proofs.PickLaws.{pick_has}
use Rattle.meaning.proofs.KeptEnds.{EndSo}
use Rattle.meaning.proofs.PlaceLaws.{EndBelow, placed_start, placed_byte, FaultIn}

-- Neither input is named, and the request is.
names_neither : (n c : ℕ) → among n of_neither ≡ true → WalkInput (record { number = n; input = Limits.neither_input; place = 0; count = c })
names_neither n c is = record { neither = (λ _. is, λ _. refl); request = λ f. clash is f }

names_request : (n p c : ℕ) → among n of_neither ≡ false → WalkInput (record { number = n; input = Limits.the_request; place = p; count = c })
names_request n p c not = record { neither = (λ q. absurd (omega (arith, q)), λ t. clash t not); request = λ _. refl }

-- THE NUMBERS of a call: its refusals past 9, all its numbers, those with which the count is the walk's, and those that come with a state.
module _ (refused numbers told stated : List ℕ) where
  -- A number of these, and whether it is told with a count and with a state.
  abbrev pub Told : ℕ → (counted written : Bool) → Type 0
  Told n c w = (among n numbers ≡ true) × (among n told ≡ c) × (among n stated ≡ w)

  -- Those that every such call has.
  pub record Tells : Type 0 where
    pub fine : Told Limits.verified true false
    pub missed : Told Limits.goal_missed true true
    pub spent : Told Limits.budget_spent false false
    pub length : Told Limits.state_length false false
    pub refusing : each_of (λ (m : ℕ). both (fails (among m of_neither)) (both (among m numbers) (both (fails (among m told)) (fails (among m stated))))) refused ≡ true

  -- A stop has the number of a byte, and is told with a count and a state where a state is concerned.
  abbrev stateful : Concerned State → Bool
  stateful no_state = false
  stateful (in_state s) = true

  abbrev pub StopTold : ℕ → ℕ → Concerned State → Type 0
  StopTold n p u = (among n of_neither ≡ false) × (among n (Limits.ends_too_soon ∷ at_start) ≡ false) × Told n (stateful u) (stateful u)

  abbrev pub StopsTold : End State → Type 0
  StopsTold = EndSo (λ _ _. Unit {0}) StopTold

  -- WHAT WAS READ is within the limit, and its walk ends at a place of the request; a fault is one of the refusals.
  abbrev pub WalksWithin : {A : Type 0} → (A → Walked State) → Limits → (request : List ℕ) → Got A → Type 0
  WalksWithin walks lim request (got x e) = (length request ≤ lim.request) × EndBelow (length request) (walks x).end × StopsTold (walks x).end
  WalksWithin walks lim request (fault n p) = FaultIn refused lim.request (length request) n p

  -- THE CALL, on what it read.
  module _ {A : Type 0} (walks : A → Walked State) (lim : Limits) (request lent : List ℕ) (budget : ℕ) (read : Got A) where
    -- All that the number says.
    pub record Parts (j : Judgement) : Type 0 where
      pub number : among j.answer.number numbers ≡ true
      pub input : WalkInput j.answer
      pub count : Counted walks read told budget j.answer
      pub place : Placed (length request) j.answer.number j.answer.place
      pub fits : j.answer.place ≤ lim.request
      pub state : Written walks read stated lent j

    -- A number with which the count is 0, or the lent bytes stay.
    none_counted : (n i p : ℕ) → (n ≡ Limits.budget_spent → ⊥) → among n told ≡ false → Counted walks read told budget (record { number = n; input = i; place = p; count = 0 })
    none_counted n i p not_3 off = record { walk = λ t. clash t off; spent = λ q. absurd (not_3 q); other = λ _. refl }

    none_written : (n i p c : ℕ) → among n stated ≡ false → Written walks read stated lent (record { answer = record { number = n; input = i; place = p; count = c }; state = lent })
    none_written n i p c off = record { written = λ t. clash t off; as_lent = λ _. refl }

    -- None of 0, 3 and 9 is not 3.
    not_spent : (n : ℕ) → among n of_neither ≡ false → n ≡ Limits.budget_spent → ⊥
    unfolding among of_neither some_of either
    not_spent n not q = clash (ap (λ (m : ℕ). among m of_neither) q) not

    module _ (tells : Tells) where
      spent_parts : Parts (record { answer = record { number = Limits.budget_spent; input = Limits.neither_input; place = 0; count = budget }; state = lent })
      unfolding among of_neither at_start some_of either
      spent_parts = record {
        number = tells.spent.0;
        input = names_neither Limits.budget_spent budget refl;
        count = record { walk = λ t. clash t tells.spent.1; spent = λ _. refl; other = λ f. clash refl f };
        place = placed_start (length request) Limits.budget_spent refl;
        fits = omega arith;
        state = none_written Limits.budget_spent _ _ _ tells.spent.2;
      }

      length_parts : Parts (wrong_length lent)
      unfolding among of_neither at_start some_of either
      length_parts = record {
        number = tells.length.0;
        input = names_neither Limits.state_length 0 refl;
        count = none_counted Limits.state_length _ _ (λ q. omega (arith, q)) tells.length.1;
        place = placed_start (length request) Limits.state_length refl;
        fits = omega arith;
        state = none_written Limits.state_length _ _ _ tells.length.2;
      }

      -- A walk that ended, of what was read.
      module _ (x : A) (e : ℕ) (is_read : read ≡ got x e) (short : length request ≤ lim.request) where
        walk_counted : (n i p : ℕ) → (n ≡ Limits.budget_spent → ⊥) → among n told ≡ true → Counted walks read told budget (record { number = n; input = i; place = p; count = (walks x).count })
        unfolding among some_of
        walk_counted n i p not_3 on = record { walk = λ _. (x, e, is_read, refl); spent = λ q. absurd (not_3 q); other = λ f. clash on (either_false _ _ f).1 }

        state_written : (n i p c : ℕ) (s : State) → among n stated ≡ true → concerned (walks x).end ≡ in_state s
            → Written walks read stated lent (record { answer = record { number = n; input = i; place = p; count = c }; state = s })
        state_written n i p c s on is = record { written = λ _. (x, e, is_read, is); as_lent = λ f. clash on f }

        stopped_parts : (n p : ℕ) (u : Concerned State) → concerned (walks x).end ≡ u → p < length request → StopTold n p u → Parts (ended lent (walks x).count (stopped n p u))
        unfolding ended reported count_told written_over
        stopped_parts n p no_state is less told = record {
          number = told.2.0;
          input = names_request n p 0 told.0;
          count = none_counted n _ p (not_spent n told.0) told.2.1;
          place = placed_byte (length request) n p told.1 less;
          fits = omega (arith, less, short);
          state = none_written n _ p _ told.2.2;
        }
        stopped_parts n p (in_state s) is less told = record {
          number = told.2.0;
          input = names_request n p _ told.0;
          count = walk_counted n _ p (not_spent n told.0) told.2.1;
          place = placed_byte (length request) n p told.1 less;
          fits = omega (arith, less, short);
          state = state_written n _ p _ s told.2.2 is;
        }

        ended_parts : (end : End State) → (walks x).end ≡ end → EndBelow (length request) end → StopsTold end → Parts (ended lent (walks x).count end)
        unfolding ended reported written_over concerned among of_neither at_start some_of either
        ended_parts fine is less stops = record {
          number = tells.fine.0;
          input = names_neither Limits.verified _ refl;
          count = walk_counted Limits.verified _ _ (λ q. omega (arith, q)) tells.fine.1;
          place = placed_start (length request) Limits.verified refl;
          fits = omega arith;
          state = none_written Limits.verified _ _ _ tells.fine.2;
        }
        ended_parts (missed p s) is less stops = record {
          number = tells.missed.0;
          input = names_request Limits.goal_missed p _ refl;
          count = walk_counted Limits.goal_missed _ p (λ q. omega (arith, q)) tells.missed.1;
          place = placed_byte (length request) Limits.goal_missed p refl less;
          fits = omega (arith, less, short);
          state = state_written Limits.goal_missed _ p _ s tells.missed.2 (ap concerned is);
        }
        ended_parts (stopped n p u) is less stops = stopped_parts n p u (ap concerned is) less stops

      fault_parts : (n p : ℕ) → FaultIn refused lim.request (length request) n p → Parts (refused_at lent n p)
      fault_parts n p h =
          let each = among_each (λ (m : ℕ). both (fails (among m of_neither)) (both (among m numbers) (both (fails (among m told)) (fails (among m stated))))) refused tells.refusing n h.number in
          let none = fails_true _ (both_left _ _ each) in
          let is = both_right _ _ each in
          let others = both_right _ _ is in
          record {
            number = both_left _ _ is;
            input = names_request n p 0 none;
            count = none_counted n _ p (not_spent n none) (fails_true _ (both_left _ _ others));
            place = h.placed;
            fits = h.fits;
            state = none_written n _ p _ (fails_true _ (both_right _ _ others));
          }

      got_parts : (m : Got A) → read ≡ m → WalksWithin walks lim request m → Parts (judge_got walks lent budget m)
      unfolding judge_got within
      got_parts (got x e) is h = pick_has Parts _ _ _ (λ _. spent_parts) (λ _. ended_parts x e is h.0 (walks x).end refl h.1 h.2)
      got_parts (fault n p) is h = fault_parts n p h

      pub judged_parts : WalksWithin walks lim request read → Parts (judge_by walks lim read lent budget)
      judged_parts h = pick_has Parts _ _ _ (λ _. got_parts read refl h) (λ _. length_parts)
