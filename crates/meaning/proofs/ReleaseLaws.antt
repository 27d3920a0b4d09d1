-- What the release call answers of its own, and what it leaves in the row: each answer is written in one place with its input, place and count, the
-- refusals are gone through in order, and with 0 the row is that of the plans' answers, one for each plan. Assumes nothing.
use Prim.Native.Nat.{ℕ, zero, suc, ◌+◌, ◌*◌, ◌≤◌, ◌<◌}
use native.Mathlib.Omega.{arith}
use mathlib.Core.Path.{◌≡◌, refl, sym, ◌∙◌, ap, ap₂}
use mathlib.Core.Bool.{true}
use mathlib.Core.List.{List, [], ◌∷◌, ◌++◌}
use lib.ListN.{length, length-replicate, get_or, replicate, take, drop}
use lib.Dec.{ltb, eqb}
use borrow.Author.Tests.{eqb-true, eq-eqb, ltb-true, ltb-false}
use Rattle.meaning.specs.declared.Answer.{Answer}
use Rattle.meaning.specs.Tests.{both, either, fails, pick, some_of, each_of, Each}
use Rattle.meaning.specs.Limits
use Rattle.meaning.specs.Limits.{Limits}
use Rattle.meaning.specs.Literals.{among}
use Rattle.meaning.specs.Requests.{Table, Request}
use Rattle.meaning.specs.Reading.{Flags, Got, got, fault, count_at, table_at, request_at}
use Rattle.meaning.specs.Refusals.{Found, nowhere, at, contradiction_in, mixed_in, overlap_in, refuse}
use Rattle.meaning.specs.Walk.{End, fine, missed, stopped, walked}
use Rattle.meaning.specs.States.{State, first_state}
use Rattle.meaning.specs.Judging.{Judgement, reported, ended, within, judge_settled, judge_got}
use Rattle.meaning.specs.Releases.{Opening, opening, plans_at, byte_after, plan_answer, unreached, after_plan, answers_at, in_row, rows, settled_plans, Released, own_answer, released, release_opened, release, plans_of, plans_in, row_of}
use Rattle.meaning.specs.Answers.{release_refusals, release_answers, row_answers}
use Rattle.meaning.specs.AnswerParts.{of_neither, WalkInput, at_start, Placed, RowParts}
use Rattle.meaning.proofs.TestLaws.{by-test, clash, fails_true, pick_true, pick-cases}
use Rattle.meaning.proofs.PickLaws.{pick_has}
use Rattle.meaning.proofs.LiteralLaws.{among_each}
use Rattle.meaning.proofs.SettledLaws.{fault≢got, got_same, refuse_got, next_got}
use Rattle.meaning.proofs.RangeLaws.{got_place, count_least}
use Rattle.meaning.proofs.GotLaws.{Held, Faulty, held_got, next_held}
use Rattle.meaning.proofs.KeptEnds.{Stuck, walked_stuck}
use Rattle.meaning.proofs.WithinLaws.{told_fewer}
use Rattle.meaning.proofs.PlaceLaws.{entry_faults, item_faults, FoundBelow, TableBelow, RequestBelow, contradiction_below, mixed_below, overlap_in_below, EndBelow, walked_below, count_held, table_held, request_held, placed_start, FaultIn, too_long_fault, ends_fault, byte_fault, listed_fault}

-- THE CALL'S OWN ANSWER. A fault before the plans, and 16, 17 and 20, have one of its numbers, and a place as the number says.
module _ (lim : Limits) (s : List ℕ) where
  abbrev OwnFault : ℕ → ℕ → Type 0
  OwnFault = FaultIn release_refusals lim.request (length s)

  abbrev OpeningRead : Opening → ℕ → Type 0
  OpeningRead o q = (length s ≤ lim.request) × TableBelow (length s) o.table × (q ≤ length s) × (q ≡ o.table_end + 1)

  opening_held : Held OwnFault OpeningRead (opening lim s)
  unfolding opening among release_refusals entry_faults at_start of_neither some_of either each_of both fails
  opening_held =
      pick_has (Held OwnFault OpeningRead) _ _ _ (λ _. too_long_fault release_refusals lim.request (length s) refl) λ f.
      let short = ltb-false lim.request (length s) f in
      let ends = ends_fault release_refusals lim.request (length s) short refl in
      let byte = listed_fault release_refusals lim.request (length s) short entry_faults refl refl in
      next_held OwnFault (λ (t : Table) (q : ℕ). (q ≤ length s) × TableBelow (length s) t) OpeningRead (table_at lim Flags s 0) _ (table_held s OwnFault ends byte lim 0) λ t p _ below.
      next_held OwnFault (λ c q. (q ≤ length s) × (q ≡ p + 1)) OpeningRead (count_at 1 Limits.most_plans s p) _ (count_held s OwnFault ends byte 1 Limits.most_plans p) λ k q _ one.
      (short, below.1, one.0, one.1)

  refuse_held : {A : Type 0} (n : ℕ) (f : Found) (k : Unit {0} → Got A) → ((p : ℕ) → p < length s → OwnFault n p) → FoundBelow (length s) f → Faulty OwnFault (k tt) → Faulty OwnFault (refuse n f k)
  unfolding refuse
  refuse_held n nowhere k is below then = then
  refuse_held n (at p) k is below then = is p below

  after_below : (x : Got (List Request)) → FoundBelow (length s) (byte_after s x)
  unfolding byte_after
  after_below (got rs e) = pick_has (FoundBelow (length s)) _ _ _ (λ more. ltb-true e (length s) more) (λ _. tt)
  after_below (fault n p) = tt

  settled_plans_held : (budget : ℕ) (o : Opening) (p : ℕ) → OpeningRead o p → Faulty OwnFault (settled_plans lim s budget o p)
  unfolding settled_plans among release_refusals at_start of_neither some_of either
  settled_plans_held budget o p read =
      let byte = byte_fault release_refusals lim.request (length s) read.0 in
      refuse_held _ (contradiction_in o.table) _ (λ q. byte _ q refl refl) (contradiction_below (length s) o.table read.1.effects)
      (refuse_held _ (mixed_in o.table.effects o.table.knowledge) _ (λ q. byte _ q refl refl) (mixed_below (length s) o.table.effects o.table.knowledge read.1.knowledge)
      (refuse_held _ (byte_after s _) _ (λ q. byte _ q refl refl) (after_below _) tt))

  -- What an own answer has: one of its numbers, the input and the place that the number says, and no count.
  record OwnParts (a : Answer) : Type 0 where
    number : among a.number release_answers ≡ true
    input : WalkInput a
    place : Placed (length s) a.number a.place
    count : a.count ≡ 0
    fits : a.place ≤ lim.request

  module _ (lent : List ℕ) (budget : ℕ) where
    abbrev Own : Released → Type 0
    Own j = OwnParts j.answer

    -- 0 and 9 name no input.
    none_named : (n : ℕ) (row : List ℕ) → among n release_answers ≡ true → among n of_neither ≡ true → among n at_start ≡ true → Own (own_answer n Limits.neither_input 0 row)
    unfolding own_answer
    none_named n row is neither start = record {
      number = is;
      input = record { neither = (λ _. neither, λ _. refl); request = λ f. clash neither f };
      place = placed_start (length s) n start;
      count = refl;
      fits = omega arith;
    }

    refused : (n p : ℕ) (row : List ℕ) → OwnFault n p → Own (own_answer n Limits.the_request p row)
    unfolding own_answer among release_answers release_refusals of_neither some_of either each_of both fails
    refused n p row h = record {
      number = among_each (λ (m : ℕ). among m release_answers) release_refusals refl n h.number;
      input = record {
        neither = (λ q. absurd (omega (arith, q)), λ t. clash t (fails_true _ (among_each (λ (m : ℕ). fails (among m of_neither)) release_refusals refl n h.number)));
        request = λ _. refl;
      };
      place = h.placed;
      count = refl;
      fits = h.fits;
    }

    released_parts : (y : Got (List Answer)) → Faulty OwnFault y → Own (released lent y)
    unfolding released among release_answers of_neither at_start some_of either
    released_parts (got all e) h = none_named Limits.verified (rows all) refl refl refl
    released_parts (fault n p) h = refused n p lent h

    opened_parts : (x : Got Opening) → Held OwnFault OpeningRead x → Own (release_opened lim s lent budget x)
    unfolding release_opened among release_answers of_neither at_start some_of either
    opened_parts (got o p) h = pick_has Own _ _ _ (λ _. released_parts (settled_plans lim s budget o p) (settled_plans_held budget o p h)) (λ _. none_named Limits.state_length lent refl refl refl)
    opened_parts (fault n p) h = refused n p lent h

    own_parts : Own (release lim s lent budget)
    unfolding release
    own_parts = opened_parts (opening lim s) opening_held

    pub own_numbered : among (release lim s lent budget).answer.number release_answers ≡ true
    own_numbered = own_parts.number

    -- Neither input is named exactly with 0 and 9, and the file with every other number.
    pub own_input : WalkInput (release lim s lent budget).answer
    own_input = own_parts.input

    -- The place is 0 with 0, 9 and 10, the file's length with 11, and that of a byte with every other number.
    pub own_place : Placed (length s) (release lim s lent budget).answer.number (release lim s lent budget).answer.place
    own_place = own_parts.place

    pub own_place_limited : (release lim s lent budget).answer.place ≤ lim.request
    own_place_limited = own_parts.fits

    pub own_count : (release lim s lent budget).answer.count ≡ 0
    own_count = own_parts.count

    -- THE ROW AS LENT, unless the answer is 0.
    abbrev AsLent : Released → Type 0
    AsLent j = (j.answer.number ≡ Limits.verified → ⊥) → j.row ≡ lent

    released_as_lent : (y : Got (List Answer)) → AsLent (released lent y)
    unfolding released own_answer
    released_as_lent (got all e) other = absurd (other refl)
    released_as_lent (fault n p) other = refl

    opened_as_lent : (x : Got Opening) → AsLent (release_opened lim s lent budget x)
    unfolding release_opened own_answer
    opened_as_lent (got o p) = pick_has AsLent _ _ _ (λ _. released_as_lent (settled_plans lim s budget o p)) (λ _ _. refl)
    opened_as_lent (fault n p) = λ _. refl

    pub row_as_lent : ((release lim s lent budget).answer.number ≡ Limits.verified → ⊥) → (release lim s lent budget).row ≡ lent
    unfolding release
    row_as_lent = opened_as_lent (opening lim s)

    -- WITH 0 the opening was read.
    opened_read : (x : Got Opening) → Held OwnFault OpeningRead x → (release_opened lim s lent budget x).answer.number ≡ Limits.verified → (o : Opening) × (p : ℕ) × (x ≡ got o p)
    unfolding release_opened own_answer among release_refusals some_of either
    opened_read (got o p) is q = (o, p, refl)
    opened_read (fault n p) is q = clash is.number (ap (λ (m : ℕ). among m release_refusals) q)

    pub opens : (release lim s lent budget).answer.number ≡ Limits.verified → (o : Opening) × (p : ℕ) × (opening lim s ≡ got o p)
    unfolding release
    opens q = opened_read (opening lim s) opening_held q

    -- The row lent for it has its length, 16, 17 and 20 were not found, and the row left is that of the plans' answers.
    pub record Judged (o : Opening) (p : ℕ) : Type 0 where
      pub sized : length lent ≡ 4 * o.plans
      pub no_contradiction : contradiction_in o.table ≡ nowhere
      pub not_mixed : mixed_in o.table.effects o.table.knowledge ≡ nowhere
      pub nothing_after : byte_after s (plans_at lim s o.table o.plans p) ≡ nowhere
      pub row : (release lim s lent budget).row ≡ rows (answers_at lim s o.table budget o.plans p)

    released_got : (y : Got (List Answer)) → Faulty OwnFault y → (released lent y).answer.number ≡ Limits.verified → (all : List Answer) × (e : ℕ) × (y ≡ got all e) × ((released lent y).row ≡ rows all)
    unfolding released own_answer among release_refusals some_of either
    released_got (got all e) is q = (all, e, refl, refl)
    released_got (fault n p) is q = clash is.number (ap (λ (m : ℕ). among m release_refusals) q)

    pub judged : (release lim s lent budget).answer.number ≡ Limits.verified → (o : Opening) (p : ℕ) → opening lim s ≡ got o p → Judged o p
    unfolding release release_opened own_answer settled_plans pick
    judged q o p is =
        let here : release lim s lent budget ≡ release_opened lim s lent budget (got o p) = ap (release_opened lim s lent budget) is in
        let zero : (release_opened lim s lent budget (got o p)).answer.number ≡ Limits.verified = sym (ap (λ (j : Released). j.answer.number) here) ∙ q in
        by-test (eqb (length lent) (4 * o.plans))
        (λ t.
        let g = released_got (settled_plans lim s budget o p) (settled_plans_held budget o p (held_got OwnFault OpeningRead (opening lim s) opening_held o p is)) (rw (t, pick) at zero) in
        let a = refuse_got _ _ _ g.2 in
        let b = refuse_got _ _ _ a.1 in
        let c = refuse_got _ _ _ b.1 in
        record {
          sized = eqb-true _ _ t;
          no_contradiction = a.0;
          not_mixed = b.0;
          nothing_after = c.0;
          row = ap (λ (j : Released). j.row) (here ∙ pick_true _ _ _ t) ∙ g.3 ∙ ap rows (sym (got_same c.1));
        })
        (λ f. absurd (let nine : ◌≡◌ {A = ℕ} 9 0 = rw (f, pick) at zero in omega arith))

-- WHAT AN OPENING HAS PASSED. The plans begin behind the byte of their count.
pub record Opened (lim : Limits) (s : List ℕ) (o : Opening) (p : ℕ) : Type 0 where
  pub short : length s ≤ lim.request
  pub below : TableBelow (length s) o.table
  pub table : table_at lim Flags s 0 ≡ got o.table o.table_end
  pub count : count_at 1 Limits.most_plans s o.table_end ≡ got o.plans p
  pub inside : p ≤ length s
  pub behind : p ≡ o.table_end + 1

pub opened : (lim : Limits) (s : List ℕ) (o : Opening) (p : ℕ) → opening lim s ≡ got o p → Opened lim s o p
unfolding opening
opened lim s o p e =
    pick-cases _ _ _ e (λ _ f. absurd (fault≢got f)) λ _ more.
    let a = next_got (table_at lim Flags s 0) _ more in
    let b = next_got (count_at 1 Limits.most_plans s a.1) _ a.3 in
    let same : ◌≡◌ {A = Opening} (record { table = a.0; table_end = a.1; plans = b.0 }) o = got_same b.3 in
    let table_end : a.1 ≡ o.table_end = ap (λ (x : Opening). x.table_end) same in
    let held = held_got (OwnFault lim s) (OpeningRead lim s) (opening lim s) (opening_held lim s) o p e in
    record {
      short = held.0;
      below = held.1;
      inside = held.2;
      behind = held.3;
      table = a.2 ∙ ap₂ {C = Got Table} (λ t q. got t q) (ap (λ (x : Opening). x.table) same) table_end;
      count =
          ap (count_at 1 Limits.most_plans s) (sym table_end) ∙ b.2
          ∙ ap₂ {C = Got ℕ} (λ k q. got k q) (ap (λ (x : Opening). x.plans) same) (got_place b.3);
    }

-- The places in a table that was read are in the input.
pub table_below : (lim : Limits) (s : List ℕ) (t : Table) (e : ℕ) → table_at lim Flags s 0 ≡ got t e → TableBelow (length s) t
table_below lim s t e is =
    (held_got (λ n p. Unit {0}) (λ (x : Table) (q : ℕ). (q ≤ length s) × TableBelow (length s) x) (table_at lim Flags s 0) (table_held s (λ n p. Unit {0}) tt (λ n p _ _. tt) lim 0) t e is).1

-- THE PLAN COUNT. A row of four times that many numbers is not refused by 9, and where it is 0 the file is refused before the row's length is asked.
module _ (lim : Limits) (s : List ℕ) where
  pub plans_counted : (o : Opening) (p : ℕ) → opening lim s ≡ got o p → plans_in lim s ≡ o.plans
  unfolding plans_in plans_of
  plans_counted o p is = ap plans_of is

  pub none_counted : plans_in lim s ≡ 0 → (n p : ℕ) × (opening lim s ≡ fault n p)
  unfolding plans_in plans_of
  none_counted none = by_opening (opening lim s) refl none
    where
      by_opening : (x : Got Opening) → opening lim s ≡ x → plans_of x ≡ 0 → (n p : ℕ) × (x ≡ fault n p)
      by_opening (got o p) is none = let least = count_least 1 Limits.most_plans s o.table_end o.plans p (opened lim s o p is).count in absurd (omega (arith, least, none))
      by_opening (fault n p) is none = (n, p, refl)

  pub row_fits : (lent : List ℕ) (budget : ℕ) → length lent ≡ 4 * plans_in lim s → (release lim s lent budget).answer.number ≡ Limits.state_length → ⊥
  unfolding release plans_in plans_of released own_answer release_opened among release_refusals some_of either
  row_fits lent budget sized = by_opening (opening lim s) (opening_held lim s) sized
    where
      not_nine : (n p : ℕ) → OwnFault lim s n p → n ≡ Limits.state_length → ⊥
      not_nine n p is nine = clash is.number (ap (λ (m : ℕ). among m release_refusals) nine)

      by_plans : (x : Got (List Answer)) → Faulty (OwnFault lim s) x → (released lent x).answer.number ≡ Limits.state_length → ⊥
      by_plans (got all e) is nine = absurd (omega (arith, nine))
      by_plans (fault n p) is nine = not_nine n p is nine

      by_opening : (x : Got Opening) → Held (OwnFault lim s) (OpeningRead lim s) x → length lent ≡ 4 * plans_of x → (release_opened lim s lent budget x).answer.number ≡ Limits.state_length → ⊥
      by_opening (got o p) is same nine =
          by_plans (settled_plans lim s budget o p) (settled_plans_held lim s budget o p is) (sym (ap (λ (j : Released). j.answer.number) (pick_true _ _ _ (eq-eqb _ _ same))) ∙ nine)
      by_opening (fault n p) is same nine = not_nine n p is nine

-- THE ROW has four numbers for each answer, and as many answers as there are plans.
pub rows_length : (all : List Answer) → length (rows all) ≡ 4 * length all
unfolding rows in_row
rows_length [] = refl
rows_length (a ∷ rest) = let more = rows_length rest in omega (arith, more)

pub rows_at : (all : List Answer) (i : ℕ) → i < length all → row_of (rows all) i ≡ in_row (get_or all i unreached)
unfolding rows in_row row_of
rows_at [] i less = absurd (omega (arith, less))
rows_at (a ∷ rest) zero less = refl
rows_at (a ∷ rest) (suc i) less =
    let further : 4 * suc i ≡ suc (suc (suc (suc (4 * i)))) = omega arith in
    ap (λ (k : ℕ). take 4 (drop k (in_row a ++ rows rest))) further ∙ rows_at rest i (omega (arith, less))

module _ (lim : Limits) (s : List ℕ) (t : Table) (budget : ℕ) where
  pub answers_length : (left p : ℕ) → length (answers_at lim s t budget left p) ≡ left
  unfolding answers_at after_plan
  answers_length zero p = refl
  answers_length (suc left) p = ap suc (by_plan (request_at lim Flags s t p) (answers_length left))
    where
      by_plan : (x : Got Request) → ((e : ℕ) → length (answers_at lim s t budget left e) ≡ left) → length (after_plan left x (λ e. answers_at lim s t budget left e)) ≡ left
      by_plan (got r e) more = more e
      by_plan (fault n i) more = length-replicate left unreached

  -- Each answer has one of a row's numbers, and its place is in the file.
  abbrev RowFault : ℕ → ℕ → Type 0
  RowFault n p = (among n row_answers ≡ true) × (p ≤ length s)

  abbrev InRow : Answer → Type 0
  InRow a = RowParts (length s) budget a

  ended_in_row : (c : ℕ) (e : End State) → c ≤ budget → EndBelow (length s) e → Stuck e → InRow (ended [] c e).answer
  unfolding ended reported among row_answers some_of either
  ended_in_row c fine few below stuck = record { number = refl; place = omega arith; count = few; input = omega arith }
  ended_in_row c (missed p u) few below stuck = record { number = refl; place = omega (arith, below); count = few; input = omega arith }
  ended_in_row c (stopped n p u) few below stuck = record { number = ap (λ (m : ℕ). among m row_answers) stuck.0; place = omega (arith, below); count = omega (arith, few, told_fewer u c); input = omega arith }

  settled_in_row : (x : Got Request) → Held RowFault (λ r e. RequestBelow (length s) r) x → InRow (judge_settled lim [] budget x).answer
  unfolding judge_got within among row_answers some_of either
  settled_in_row (got r e) below =
      let first = first_state lim r.table in
      pick_has (λ (j : Judgement). InRow j.answer) (ltb budget (walked r first).count) _ _ (λ _. record { number = refl; place = omega arith; count = omega arith; input = omega arith })
      (λ f. ended_in_row _ _ (ltb-false budget (walked r first).count f) (walked_below (length s) r below first) (walked_stuck r first))
  settled_in_row (fault n p) is = record { number = is.0; place = is.1; count = omega arith; input = omega arith }

  refused_in_row : (r : Request) (e : ℕ) → RequestBelow (length s) r → (f : Found) → FoundBelow (length s) f
      → Held RowFault (λ r e. RequestBelow (length s) r) (refuse Limits.not_exclusive f (λ _. got r e))
  unfolding refuse among row_answers some_of either
  refused_in_row r e below nowhere found = below
  refused_in_row r e below (at p) found = (refl, omega (arith, found))

  abbrev PlanRead : Request → ℕ → Type 0
  PlanRead r e = (e ≤ length s) × RequestBelow (length s) r

  plan_in_row : (x : Got Request) → Held RowFault PlanRead x → InRow (plan_answer lim budget x)
  unfolding plan_answer
  plan_in_row x is =
      settled_in_row _ (next_held RowFault PlanRead (λ r e. RequestBelow (length s) r) x _ is λ r e _ so.
      refused_in_row r e so.1 (overlap_in r.plan) (overlap_in_below (length s) r.plan so.1.plan))

  all_unreached : (left : ℕ) → Each InRow (replicate left unreached)
  unfolding unreached among row_answers some_of either
  all_unreached zero = tt
  all_unreached (suc left) = (record { number = refl; place = omega arith; count = omega arith; input = omega arith }, all_unreached left)

  module _ (below : TableBelow (length s) t) where
    request_in_row : (p : ℕ) → p ≤ length s → Held RowFault PlanRead (request_at lim Flags s t p)
    unfolding among row_answers entry_faults item_faults some_of either each_of both
    request_in_row p inside =
        request_held s RowFault (refl, omega arith) (λ n p is less. (among_each (λ (m : ℕ). among m row_answers) entry_faults refl n is, omega (arith, less))) lim
        (λ n p is less. (among_each (λ (m : ℕ). among m row_answers) item_faults refl n is, omega (arith, less))) t p below inside

    -- A plan's place is in the file, and so is the place after it.
    pub answer_placed : (p : ℕ) → p ≤ length s → (plan_answer lim budget (request_at lim Flags s t p)).place ≤ length s
    answer_placed p inside = (plan_in_row (request_at lim Flags s t p) (request_in_row p inside)).place

    pub plan_inside : (p : ℕ) → p ≤ length s → (r : Request) (e : ℕ) → request_at lim Flags s t p ≡ got r e → e ≤ length s
    plan_inside p inside r e is = (held_got RowFault PlanRead (request_at lim Flags s t p) (request_in_row p inside) r e is).0

    answers_in_row : (left p : ℕ) → p ≤ length s → Each InRow (answers_at lim s t budget left p)
    unfolding answers_at after_plan
    answers_in_row zero p inside = tt
    answers_in_row (suc left) p inside =
        let one = request_in_row p inside in
        (plan_in_row (request_at lim Flags s t p) one, by_plan (request_at lim Flags s t p) one (answers_in_row left))
      where
        by_plan : (x : Got Request) → Held RowFault PlanRead x → ((e : ℕ) → e ≤ length s → Each InRow (answers_at lim s t budget left e))
            → Each InRow (after_plan left x (λ e. answers_at lim s t budget left e))
        by_plan (got r e) one more = more e one.0
        by_plan (fault n i) one more = all_unreached left

each_at : {A : Type 0} (P : A → Type 0) (xs : List A) → Each P xs → (i : ℕ) (d : A) → i < length xs → P (get_or xs i d)
each_at P [] each i d less = absurd (omega (arith, less))
each_at P (x ∷ xs) each zero d less = each.0
each_at P (x ∷ xs) each (suc i) d less = each_at P xs each.1 i d (omega (arith, less))

-- OF THE CALL, where its own answer is 0.
module _ (lim : Limits) (s lent : List ℕ) (budget : ℕ) (zero : (release lim s lent budget).answer.number ≡ Limits.verified) (o : Opening) (p : ℕ) (is : opening lim s ≡ got o p) where
  -- The row left has four numbers for each plan,
  pub row_sized : length (release lim s lent budget).row ≡ 4 * o.plans
  row_sized =
      ap length (judged lim s lent budget zero o p is).row ∙ rows_length (answers_at lim s o.table budget o.plans p)
      ∙ ap (λ (k : ℕ). 4 * k) (answers_length lim s o.table budget o.plans p)

  -- and each four of them are an answer's: a row's number, a place in the file, a count within the budget, and an input.
  pub row_within : (i : ℕ) → i < o.plans → (a : Answer) × (row_of (release lim s lent budget).row i ≡ in_row a) × RowParts (length s) budget a
  row_within i less =
      let all = answers_at lim s o.table budget o.plans p in
      let long : length all ≡ o.plans = answers_length lim s o.table budget o.plans p in
      let read = opened lim s o p is in (
        get_or all i unreached,
        ap (λ (row : List ℕ). row_of row i) (judged lim s lent budget zero o p is).row ∙ rows_at all i (omega (arith, less, long)),
        each_at (RowParts (length s) budget) all (answers_in_row lim s o.table budget read.below o.plans p read.inside) i unreached (omega (arith, less, long)),
      )
