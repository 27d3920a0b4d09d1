-- The release call: a law for each way that its functions return. The table is opened once; the plans are read to their end, and then noted one after
-- another into the notes that hold the table, which each of them leaves as it was; and the row is written from the left. Assumes nothing.
use Prim.Native.Nat.{ℕ, suc, ◌+◌, ◌-◌, ◌*◌, ◌≤◌, ◌<◌}
use native.Mathlib.Omega.{arith}
use mathlib.Core.Path.{◌≡◌, refl, sym, ◌∙◌, ap, subst}
use mathlib.Core.List.{List, [], ◌∷◌, ◌++◌, append_assoc, append-nil}
use lib.ListN.{length, length-append, get_or, set, length-set, take, replicate}
use lib.Seq.{take_all, length-take-le, take_at, sets-eq, length-sets}
use lib.Dec.{ltb}
use mir.Syntax.{w8, w64}
use mir.Val.{Fits}
use borrow.Author.Tests.{eq-eqb, ne_eqb, lt-ltb, le-ltb}
use Rattle.std.specs.Prelude.{Ok, Err}
use Rattle.parsing.specs.declared.faults.Fault.{Fault}
use Rattle.parsing.specs.declared.faults.Refusal.TheVariants.{TooLong, NotExclusive, BytesAfter}
use Rattle.parsing.specs.Faults.{number_of}
use Rattle.std.specs.Prelude.{Option, None, Some}
use Rattle.meaning.specs.declared.Answer.{Answer}
use Rattle.meaning.specs.Limits
use Rattle.meaning.specs.Limits.{format}
use Rattle.meaning.specs.Requests.{Table, Request}
use Rattle.meaning.specs.declared.Form.TheVariants.{Flags}
use Rattle.meaning.specs.Reading.{Got, got, fault, next, Met, repeated, count_at, table_at, request_at}
use Rattle.meaning.specs.Refusals
use Rattle.meaning.specs.Refusals.{nowhere, at, contradiction_in, overlap_in, refuse}
use Rattle.meaning.specs.States.{State}
use Rattle.meaning.specs.Walk.{Walked}
use Rattle.meaning.specs.Judging.{Judgement, within, judge_settled, judge_got}
use Rattle.meaning.specs.Releases.{Opening, opening, plans_at, byte_after, plan_answer, unreached, after_plan, answers_at, in_row, rows, settled_plans, own_answer, released, release_opened, release, plans_of, plans_in}
use Rattle.meaning.specs.Tests.{pick}
use Rattle.meaning.proofs.TestLaws.{clash, pick_true, pick_false}
use Rattle.meaning.proofs.SettledLaws.{got_same, next_got, refuse_got}
use Rattle.meaning.proofs.RangeLaws.{got_place, count_within}
use Rattle.meaning.proofs.VerifiedLaws.{within_unread}
use Rattle.meaning.proofs.ReleaseLaws.{Opened, opened, answer_placed, plan_inside, table_below}
use Rattle.parsing.specs.Read.{Numbered, Passed, numbered, over, stopped, passed}
use Rattle.parsing.proofs.ListLaws.{passed_to, passed_stop}
use Rattle.reading.specs.Noted.{table_noted, noting, outcome, items_slot, slots}
use Rattle.reading.specs.Planned.{items_of, outcome_met}
use Rattle.reading.specs.Requested.{tail_noted, plan_first}
use Rattle.reading.proofs.SectionLaws.{fault_first, noting_got, noting_fault}
use Rattle.reading.proofs.RequestLaws.{tail_whole}
use Rattle.finding.specs.Places.{found}
use Rattle.finding.specs.PlansHeld.{SomePlan}
use Rattle.finding.specs.TablesHere.{blank, table_in, TableHere}
use Rattle.finding.proofs.FoundLaws.{found_none, found_at}
use Rattle.finding.proofs.ReadLaws.{table_is, table_comes, table_stays}
use Rattle.reader.proofs.WholeLaws.{Front}
use Rattle.finding.proofs.StartLaws.{front_here}
use Rattle.refusing.specs.Settled.{table_settled}
use Rattle.refusing.specs.Refusal18.{OverlapFound}
use Rattle.refusing.proofs.SettleLaws.{behind_table}
use Rattle.steps.specs.Held.{plan_in, guards_in, request_in}
use Rattle.steps.specs.AtHand.{AtHand}
use Rattle.steps.proofs.HandLaws.{items_are}
use Rattle.steps.specs.Steps.{mode_in, walk_held}
use Rattle.steps.proofs.ModeLaws.{held_plain}
use Rattle.steps.proofs.ModeHand.{table_mode}
use Rattle.steps.proofs.JustRead.{plan_at_hand, plan_request, plan_unguarded}
use Rattle.verdicts.specs.Releasing.{opening_noted, OpenedHere, Counted, with_answer, with_unreached, past_table}

-- Notes that hold nothing, as the code makes them.
pub blank_is : replicate slots 0 ≡ blank
unfolding blank
blank_is = refl

-- OPENING a file.
pub open_long : (s t : List ℕ) (why : Fault) → format.request < length s → why ≡ record { refusal = TooLong; place = 0 } → outcome_met (Err why) t ≡ opening_noted s t
unfolding opening_noted opening outcome_met next
open_long s t why long is = rw is (sym (ap (λ (g : Got Opening). next g (λ o p. got (record { value = table_noted o.table t; items = o.plans }) p)) (pick_true _ _ _ (lt-ltb _ _ long))))

module _ (s t u : List ℕ) (first : Passed) (read : outcome first u ≡ noting table_noted (table_at format Flags s 0) t) (short : length s ≤ format.request) where
  opening_is : opening format s ≡ next (table_at format Flags s 0) λ x p. next (count_at 1 Limits.most_plans s p) λ k q. got (record { table = x; table_end = p; plans = k }) q
  unfolding opening
  opening_is = pick_false _ _ _ (le-ltb _ _ short)

  pub open_fault : (why : Fault) (v : List ℕ) → first ≡ Err why → outcome_met (Err why) v ≡ opening_noted s t
  unfolding opening_noted outcome_met next
  open_fault why v stops = rw (opening_is, noting_fault table_noted (table_at format Flags s 0) first t u read why stops)

  by_count : (x : Table) (p : ℕ) (r : Numbered) → outcome_met r (table_noted x t)
      ≡ next {A = Opening} (next (numbered r) λ k q. got (record { table = x; table_end = p; plans = k }) q) (λ o q. got (record { value = table_noted o.table t; items = o.plans }) q)
  unfolding outcome_met next
  by_count x p (Ok k) = refl
  by_count x p (Err f) = refl

  pub open_counted : (p : ℕ) (r : Numbered) → first ≡ Ok p → numbered r ≡ (count_at 1 Limits.most_plans s p) → outcome_met r u ≡ opening_noted s t
  unfolding opening_noted next
  open_counted p r goes is =
      let x = noting_got table_noted (table_at format Flags s 0) first t u read p goes in
      let opens : opening format s ≡ next (count_at 1 Limits.most_plans s p) (λ k q. got (record { table = x.0; table_end = p; plans = k }) q) =
      opening_is ∙ ap (λ (g : Got Table). next g λ y e. next (count_at 1 Limits.most_plans s e) λ k q. got (record { table = y; table_end = e; plans = k }) q) x.1 in
      ap (outcome_met r) x.2
      ∙ by_count x.0 p r
      ∙ ap (λ (g : Got ℕ). next {A = Opening} (next g λ k q. got (record { table = x.0; table_end = p; plans = k }) q) (λ o q. got (record { value = table_noted o.table t; items = o.plans }) q)) is
      ∙ sym (ap (λ (g : Got Opening). next g (λ o q. got (record { value = table_noted o.table t; items = o.plans }) q)) opens)

-- What opening told.
module _ (s t u : List ℕ) (r : Numbered) (read : outcome_met r u ≡ opening_noted s t) where
  open_stop : (why : Fault) → r ≡ Err why → opening format s ≡ stopped why
  unfolding opening_noted outcome_met
  open_stop why is = fault_first (opening format s) (λ o. record { value = table_noted o.table t; items = o.plans }) _ _ (sym read ∙ rw is)

  open_got : (n q : ℕ) → r ≡ Ok (n, q) → (o : Opening) × (opening format s ≡ got o q) × (o.plans ≡ n) × (u ≡ table_noted o.table t)
  unfolding opening_noted outcome_met
  open_got n q is =
      let whole : opening_noted s t ≡ got (record { value = u; items = n }) q = sym read ∙ rw is in
      let w = next_got (opening format s) _ whole in
      let same : ◌≡◌ {A = Met (List ℕ)} (record { value = table_noted w.0.table t; items = w.0.plans }) (record { value = u; items = n }) = got_same w.3 in (
        w.0,
        w.2 ∙ ap (got w.0) (got_place w.3),
        ap (λ (y : Met (List ℕ)). y.items) same,
        sym (ap (λ (y : Met (List ℕ)). y.value) same),
      )

  -- How many plans there are.
  pub plans_there : (n q : ℕ) → r ≡ Ok (n, q) → n ≡ plans_in format s
  unfolding plans_in plans_of
  plans_there n q is = let g = open_got n q is in sym (ap plans_of g.1 ∙ g.2)

  pub plans_none : (why : Fault) → r ≡ Err why → 0 ≡ plans_in format s
  unfolding plans_in plans_of
  plans_none why is = sym (ap plans_of (open_stop why is))

  pub release_fault : (why : Fault) (lent : List ℕ) (budget : ℕ) → r ≡ Err why → (a : Answer) → a ≡ record { number = number_of why.refusal; input = 1; place = why.place; count = 0 } → record { answer = a; row = lent } ≡ release format s lent budget
  unfolding release release_opened own_answer
  release_fault why lent budget is a said = ap (λ (x : Answer). record { answer = x; row = lent }) said ∙ sym (ap (release_opened format s lent budget) (open_stop why is))

  pub opens_here : (n q : ℕ) → r ≡ Ok (n, q) → ((i : ℕ) → Fits w8 (get_or s i 0)) → t ≡ blank → OpenedHere s u n q
  opens_here n q is bytes empty =
      let g = open_got n q is in
      let o = opened format s g.0 q g.1 in
      record {
        here = subst (TableHere Flags s) (sym (g.3 ∙ ap (table_noted g.0.table) empty)) (table_comes Flags s (λ i. (bytes i).fits) o.short g.0.table g.0.table_end o.table);
        opens = g.0;
        opened = g.1;
        counts = g.2;
      }

-- A plan count is small.
pub plans_small : (s : List ℕ) (n : ℕ) → n ≡ plans_in format s → n < 4294967296
unfolding plans_in plans_of
plans_small s n is = by_opening (opening format s) refl is
  where
    by_opening : (g : Got Opening) → opening format s ≡ g → n ≡ plans_of g → n < 4294967296
    by_opening (got o p) opens counts = let few = count_within 1 Limits.most_plans s o.table_end o.plans p (opened format s o p opens).count in omega arith
    by_opening (fault k p) opens counts = omega arith

-- PAST THE OPENING.
module _ (s t : List ℕ) (plans start : ℕ) (here : OpenedHere s t plans start) where
  passed_by : Opened format s here.opens start
  passed_by = opened format s here.opens start here.opened

  pub row_counted : Fits w64 (4 * plans)
  row_counted =
      let few = count_within 1 Limits.most_plans s here.opens.table_end here.opens.plans start passed_by.count in
      let same = here.counts in
      record { fits = omega arith }

  pub table_there : TableHere Flags s t
  table_there = here.here

  pub start_inside : start ≤ length s
  start_inside = passed_by.inside

  pub start_behind : 1 ≤ start
  start_behind = let after = passed_by.behind in omega arith

  same_table : table_in Flags s ≡ here.opens.table
  same_table = table_is Flags s here.opens.table here.opens.table_end passed_by.table

  pub ends_there : table_at format Flags s 0 ≡ got (table_in Flags s) (start - 1)
  ends_there =
      let after = passed_by.behind in
      let before : start - 1 ≡ here.opens.table_end = omega arith in
      rw (before, same_table) passed_by.table

  module _ (lent : List ℕ) (budget : ℕ) where
    opened_so : release format s lent budget ≡ release_opened format s lent budget (got here.opens start)
    unfolding release
    opened_so = ap (release_opened format s lent budget) here.opened

    pub release_9 : (length lent ≡ 4 * plans → ⊥) → (a : Answer) → a ≡ record { number = 9; input = 0; place = 0; count = 0 } → record { answer = a; row = lent } ≡ release format s lent budget
    unfolding release_opened own_answer
    release_9 other a said = ap (λ (x : Answer). record { answer = x; row = lent }) said ∙ sym (opened_so ∙ pick_false _ _ _ (ne_eqb _ _ (λ e. other (e ∙ ap (λ (k : ℕ). 4 * k) here.counts))))

    module _ (sized : length lent ≡ 4 * plans) (first : Passed) (asked : over first ≡ passed (table_settled (table_in Flags s) (start - 1))) where
      settled_so : release format s lent budget ≡ released lent (next (table_settled (table_in Flags s) (start - 1)) (λ _ _. past_table s budget plans start))
      unfolding release_opened settled_plans past_table
      settled_so =
          opened_so
          ∙ pick_true _ _ _ (eq-eqb _ _ (sized ∙ ap (λ (k : ℕ). 4 * k) (sym here.counts)))
          ∙ rw (same_table, here.counts) (ap (released lent) (behind_table here.opens.table (start - 1)
          (refuse 20 (byte_after s (plans_at format s here.opens.table plans start)) (λ _. got (answers_at format s here.opens.table budget plans start) start))))

      pub release_first : (why : Fault) → first ≡ Err why → (a : Answer) → a ≡ record { number = number_of why.refusal; input = 1; place = why.place; count = 0 } → record { answer = a; row = lent } ≡ release format s lent budget
      unfolding released own_answer next
      release_first why stops a said = ap (λ (x : Answer). record { answer = x; row = lent }) said ∙ sym (settled_so ∙ rw (passed_stop (table_settled (table_in Flags s) (start - 1)) why (sym asked ∙ ap over stops)))

      module _ (q : ℕ) (goes : first ≡ Ok q) where
        pub release_then : (a : Answer) (row : List ℕ) → record { answer = a; row = row } ≡ released lent (past_table s budget plans start) → record { answer = a; row = row } ≡ release format s lent budget
        unfolding next
        release_then a row is = is ∙ sym (settled_so ∙ rw (passed_to (table_settled (table_in Flags s) (start - 1)) q (sym asked ∙ ap over goes)).1)

        pub clean_there : contradiction_in (table_in Flags s) ≡ nowhere
        unfolding table_settled
        clean_there = (refuse_got _ _ _ (passed_to (table_settled (table_in Flags s) (start - 1)) q (sym asked ∙ ap over goes)).1).0

-- PAST 16 AND 17.
module _ (s t : List ℕ) (here : TableHere Flags s t) where
  front_there : Front Flags s 0 (table_in Flags s)
  front_there = front_here s t here

  pub counts_there : (n m : ℕ) → n ≡ get_or s 0 0 → m ≡ get_or s 1 0 → Counted s n m
  counts_there n m first second = record {
    short = here.short;
    few = let is = front_there.fluents_are in let most = front_there.most in omega arith;
    fluents = first ∙ front_there.fluents_are;
    actions = second ∙ front_there.actions_are;
  }

module _ (s : List ℕ) (lent : List ℕ) (budget plans start : ℕ) (f : Option ℕ) (answer : f ≡ found (byte_after s (plans_at format s (table_in Flags s) plans start))) where
  pub file_20 : (p : ℕ) → f ≡ Some p → (a : Answer) (why : Fault) → why ≡ record { refusal = BytesAfter; place = p } → a ≡ record { number = number_of why.refusal; input = 1; place = why.place; count = 0 } → record { answer = a; row = lent } ≡ released lent (past_table s budget plans start)
  unfolding released own_answer past_table refuse
  file_20 p is a why is-why said = rw (said, is-why, found_at (byte_after s (plans_at format s (table_in Flags s) plans start)) f answer p is)

  pub file_answered : (row : List ℕ) → f ≡ None → row ≡ rows (answers_at format s (table_in Flags s) budget plans start)
      → (a : Answer) → a ≡ record { number = 0; input = 0; place = 0; count = 0 } → record { answer = a; row = row } ≡ released lent (past_table s budget plans start)
  unfolding released own_answer past_table refuse
  file_answered row is written a said = rw (said, found_none (byte_after s (plans_at format s (table_in Flags s) plans start)) f answer is, written)

-- A PLAN THAT IS READ, with whatever is noted before it.
module _ (s : List ℕ) (n m : ℕ) (counted : Counted s n m) (p : ℕ) (t u : List ℕ) (r : Passed) (read : outcome r u ≡ plan_first Flags n m s p t) where
  read_so : outcome r u ≡ noting (tail_noted Flags) (request_at format Flags s (table_in Flags s) p) t
  read_so = read ∙ rw (counted.fluents, counted.actions) (tail_whole Flags s (table_in Flags s) p t)

  plan_got : (e : ℕ) → r ≡ Ok e → (y : Request) × (request_at format Flags s (table_in Flags s) p ≡ got y e) × (u ≡ tail_noted Flags y t)
  plan_got e is = noting_got (tail_noted Flags) (request_at format Flags s (table_in Flags s) p) r t u read_so e is

  plan_stop : (why : Fault) → r ≡ Err why → request_at format Flags s (table_in Flags s) p ≡ stopped why
  plan_stop why is = noting_fault (tail_noted Flags) (request_at format Flags s (table_in Flags s) p) r t u read_so why is

-- THE FIRST PASS: what is left of the plans ends where all do.
pub record Seeking (s : List ℕ) (plans start left p : ℕ) : Type 0 where
  pub same : byte_after s (plans_at format s (table_in Flags s) plans start) ≡ byte_after s (plans_at format s (table_in Flags s) left p)

pub seeking_starts : (s : List ℕ) (plans start : ℕ) → Seeking s plans start (plans - 0) start
seeking_starts s plans start = let same : plans - 0 ≡ plans = omega arith in rw same (record { same = refl })

behind_plan : (s : List ℕ) (y : Request) (x : Got (List Request)) → byte_after s (next x λ rest r. got (y ∷ rest) r) ≡ byte_after s x
unfolding byte_after next
behind_plan s y (got rest r) = refl
behind_plan s y (fault k q) = refl

module _ (s : List ℕ) (n m : ℕ) (counted : Counted s n m) (plans start left p : ℕ) (seeks : Seeking s plans start left p) where
  module _ (t u : List ℕ) (r : Passed) (read : outcome r u ≡ plan_first Flags n m s p t) (some : 0 < left) where
    one_less : left ≡ suc (left - 1)
    one_less = omega arith

    pub seeking_next : (e : ℕ) → r ≡ Ok e → Seeking s plans start (left - 1) e
    unfolding plans_at repeated next
    seeking_next e is =
        let y = plan_got s n m counted p t u r read e is in
        record {
          same =
              seeks.same
              ∙ ap (λ (k : ℕ). byte_after s (plans_at format s (table_in Flags s) k p)) one_less
              ∙ ap (λ (g : Got Request). byte_after s (next g λ x q. next (repeated (request_at format Flags s (table_in Flags s)) (left - 1) q) λ rest i. got (x ∷ rest) i)) y.1
              ∙ behind_plan s y.0 (repeated (request_at format Flags s (table_in Flags s)) (left - 1) e);
        }

    pub seeking_stops : (why : Fault) → r ≡ Err why → None ≡ found (byte_after s (plans_at format s (table_in Flags s) plans start))
    unfolding plans_at repeated next byte_after found
    seeking_stops why is =
        sym (ap found (seeks.same
        ∙ ap (λ (i : ℕ). byte_after s (plans_at format s (table_in Flags s) i p)) one_less
        ∙ ap (λ (g : Got Request). byte_after s (next g λ x i. next (repeated (request_at format Flags s (table_in Flags s)) (left - 1) i) λ rest j. got (x ∷ rest) j)) (plan_stop s n m counted p t u r read why is)))

  module _ (none : left ≤ 0) where
    all_read : byte_after s (plans_at format s (table_in Flags s) plans start) ≡ pick (ltb p (length s)) (λ _. at p) (λ _. nowhere)
    unfolding plans_at repeated byte_after
    all_read = let zero_left : left ≡ 0 = omega arith in seeks.same ∙ ap (λ (k : ℕ). byte_after s (plans_at format s (table_in Flags s) k p)) zero_left

    pub seeking_more : p < length s → Some p ≡ found (byte_after s (plans_at format s (table_in Flags s) plans start))
    unfolding found
    seeking_more more = sym (ap found (all_read ∙ pick_true _ _ _ (lt-ltb _ _ more)))

    pub seeking_none : length s ≤ p → None ≡ found (byte_after s (plans_at format s (table_in Flags s) plans start))
    unfolding found
    seeking_none over = sym (ap found (all_read ∙ pick_false _ _ _ (le-ltb _ _ over)))

-- The same by the number of the plan.
module _ (s : List ℕ) (n m : ℕ) (counted : Counted s n m) (plans start i p : ℕ) (seeks : Seeking s plans start (plans - i) p) (t u : List ℕ) (r : Passed) (read : outcome r u ≡ plan_first Flags n m s p t) (some : i < plans) where
  pub seeking_onward : (e : ℕ) → r ≡ Ok e → Seeking s plans start (plans - (i + 1)) e
  seeking_onward e is =
      subst (λ (left : ℕ). Seeking s plans start left e) {x = plans - i - 1} {y = plans - (i + 1)} (omega arith) (seeking_next s n m counted plans start (plans - i) p seeks t u r read (omega arith) e is)

  pub seeking_stopped : (why : Fault) → r ≡ Err why → None ≡ found (byte_after s (plans_at format s (table_in Flags s) plans start))
  seeking_stopped why is = seeking_stops s n m counted plans start (plans - i) p seeks t u r read (omega arith) why is

-- ONE PLAN at hand. The lent state does not matter to the answer.
module _ (s t : List ℕ) (here : AtHand Flags s t) (items : ℕ) (is : items ≡ get_or t items_slot 0) where
  counts_items : items_of (plan_in Flags s t) ≡ items
  counts_items = sym (is ∙ items_are s t here)

  pub plan_there : SomePlan Flags s t items
  plan_there = record { plan = plan_in Flags s t; held = here.held; items = counts_items }

  module _ (f : Option ℕ) (answer : OverlapFound Flags s t items f) (budget : ℕ) where
    overlap_is : f ≡ found (overlap_in (plan_in Flags s t))
    overlap_is = answer.holds (plan_in Flags s t) here.held counts_items

    pub plan_18 : (p : ℕ) → f ≡ Some p → (a : Answer) → (why : Fault) → why ≡ record { refusal = NotExclusive; place = p } → a ≡ record { number = number_of why.refusal; input = 1; place = why.place; count = 0 } → a ≡ plan_answer format budget (got (request_in Flags s t) 0)
    unfolding plan_answer judge_got next refuse request_in
    plan_18 p met a why is-why said = said ∙ ap (λ (w : Fault). record { number = number_of w.refusal; input = 1; place = w.place; count = 0 }) is-why ∙ sym (ap (λ (g : Refusals.Found). (judge_settled format [] budget (refuse 18 g (λ _. got (request_in Flags s t) 0))).answer) (found_at (overlap_in (plan_in Flags s t)) f overlap_is p met))

    pub plan_walked : f ≡ None → (lent left : List ℕ) (a : Answer) → record { answer = a; state = left } ≡ within lent budget (walk_held Flags s t)
        → guards_in s t ≡ [] → mode_in t ≡ 0 → a ≡ plan_answer format budget (got (request_in Flags s t) 0)
    unfolding plan_answer judge_got next refuse request_in
    plan_walked none lent left a walks unguarded known =
        ap (λ (j : Judgement). j.answer) walks
        ∙ within_unread lent [] budget (walk_held Flags s t)
        ∙ ap (λ (w : Walked State). (within [] budget w).answer) (held_plain s t known unguarded)
        ∙ sym (ap (λ (g : Refusals.Found). (judge_settled format [] budget (refuse 18 g (λ _. got (request_in Flags s t) 0))).answer) (found_none (overlap_in (plan_in Flags s t)) f overlap_is none))

-- THE ROW, from the left.
module _ (row : List ℕ) (k : ℕ) (room : 4 * k + 4 ≤ length row) where
  pub room_1 : (i v : ℕ) → 4 * k + 1 < length (set row i v)
  room_1 i v = let same = length-set row i v in omega arith

  pub room_2 : (i v j w : ℕ) → 4 * k + 2 < length (set (set row i v) j w)
  room_2 i v j w = let one = length-set row i v in let two = length-set (set row i v) j w in omega arith

  pub room_3 : (i v j w l x : ℕ) → 4 * k + 3 < length (set (set (set row i v) j w) l x)
  room_3 i v j w l x = let one = length-set row i v in let two = length-set (set row i v) j w in let three = length-set (set (set row i v) j w) l x in omega arith

pub put_is : (row : List ℕ) (k : ℕ) (a : Answer) → set (set (set (set row (4 * k) a.number) (4 * k + 1) a.place) (4 * k + 2) a.count) (4 * k + 3) a.input ≡ with_answer row k a
unfolding with_answer in_row
put_is row k a =
    let one : 4 * k + 1 ≡ suc (4 * k) = omega arith in
    let two : 4 * k + 2 ≡ suc (suc (4 * k)) = omega arith in
    let three : 4 * k + 3 ≡ suc (suc (suc (4 * k))) = omega arith in
    rw (one, two, three) refl

pub nothing_placed : (a : Answer) (number input : ℕ) → a ≡ record { number = number; input = input; place = 0; count = 0 } → a.place < 65536
nothing_placed a number input is = let at : a.place ≡ 0 = ap (λ (x : Answer). x.place) is in omega arith

put_there : (row : List ℕ) (k : ℕ) (a : Answer) → 4 * k + 4 ≤ length row → take (4 * (k + 1)) (with_answer row k a) ≡ take (4 * k) row ++ in_row a
unfolding with_answer in_row
put_there row k a room =
    let size : 4 * (k + 1) ≡ 4 * k + 4 = omega arith in
    let long : length (take (4 * k) row ++ in_row a) ≡ 4 * (k + 1) = length-append (take (4 * k) row) (in_row a) ∙ ap (λ (j : ℕ). j + 4) (length-take-le (4 * k) row (omega arith)) ∙ sym size in
    ap (take (4 * (k + 1))) (sets-eq (in_row a) row (4 * k) room) ∙ take_at (take (4 * k) row ++ in_row a) _ (4 * (k + 1)) long

pub put_long : (row : List ℕ) (k : ℕ) (a : Answer) → length (with_answer row k a) ≡ length row
unfolding with_answer
put_long row k a = length-sets row (4 * k) (in_row a)

put_next : (row : List ℕ) (k : ℕ) (a : Answer) (rest : List Answer) → 4 * k + 4 ≤ length row → take (4 * k) row ++ rows (a ∷ rest) ≡ take (4 * (k + 1)) (with_answer row k a) ++ rows rest
unfolding rows
put_next row k a rest room = sym (append_assoc (take (4 * k) row) (in_row a) (rows rest)) ∙ ap (λ (xs : List ℕ). xs ++ rows rest) (sym (put_there row k a room))

-- Plans that are not reached.
pub record Leaving (all row : List ℕ) (plans i : ℕ) : Type 0 where
  pub few : i ≤ plans
  pub sized : length row ≡ 4 * plans
  pub so_far : all ≡ take (4 * i) row ++ rows (replicate (plans - i) unreached)

pub leaving_starts : (row : List ℕ) (k plans : ℕ) → k ≤ plans → length row ≡ 4 * plans → Leaving (with_unreached row k plans) row plans k
unfolding with_unreached
leaving_starts row k plans few sized = record { few = few; sized = sized; so_far = refl }

module _ (all row : List ℕ) (plans i : ℕ) (leaves : Leaving all row plans i) where
  pub leaving_room : i < plans → 4 * i + 4 ≤ length row
  leaving_room more = let sized = leaves.sized in omega arith

  pub leaving_next : i < plans → (a : Answer) → a ≡ record { number = 22; input = 0; place = 0; count = 0 } → (left : List ℕ) → left ≡ with_answer row i a → Leaving all left plans (i + 1)
  unfolding unreached
  leaving_next more a said left written =
      let one : plans - i ≡ suc (plans - (i + 1)) = omega arith in
      let is : left ≡ with_answer row i unreached = written ∙ ap (with_answer row i) said in
      record {
        few = omega arith;
        sized = rw is (put_long row i unreached ∙ leaves.sized);
        so_far = rw is (leaves.so_far ∙ ap (λ (k : ℕ). take (4 * i) row ++ rows (replicate k unreached)) one ∙ put_next row i unreached (replicate (plans - (i + 1)) unreached) (leaving_room more));
      }

  pub leaving_done : plans ≤ i → row ≡ all
  unfolding rows
  leaving_done over =
      let sized = leaves.sized in
      let few = leaves.few in
      let none : plans - i ≡ 0 = omega arith in
      sym (leaves.so_far ∙ ap (λ (k : ℕ). take (4 * i) row ++ rows (replicate k unreached)) none ∙ append-nil (take (4 * i) row) ∙ take_all (4 * i) row (omega arith))

-- THE SECOND PASS.
pub record Answering (s t row : List ℕ) (budget plans start k p : ℕ) : Type 0 where
  pub here : TableHere Flags s t
  pub few : k ≤ plans
  pub inside : p ≤ length s
  pub sized : length row ≡ 4 * plans
  pub so_far : rows (answers_at format s (table_in Flags s) budget plans start) ≡ take (4 * k) row ++ rows (answers_at format s (table_in Flags s) budget (plans - k) p)

pub answering_starts : (s t row : List ℕ) (budget plans start : ℕ) → TableHere Flags s t → start ≤ length s → length row ≡ 4 * plans → Answering s t row budget plans start 0 start
answering_starts s t row budget plans start here inside sized = record {
  here = here;
  few = omega arith;
  inside = inside;
  sized = sized;
  so_far = let all : plans ≡ plans - 0 = omega arith in ap (λ (i : ℕ). rows (answers_at format s (table_in Flags s) budget i start)) all;
}

-- Where a plan ends does not matter to its answer.
past_answer : (y : Request) (budget e : ℕ) (f : Refusals.Found) → (judge_settled format [] budget (refuse 18 f (λ _. got y e))).answer ≡ (judge_settled format [] budget (refuse 18 f (λ _. got y 0))).answer
unfolding refuse judge_got
past_answer y budget e nowhere = refl
past_answer y budget e (at p) = refl

answer_anywhere : (y : Request) (budget e : ℕ) → plan_answer format budget (got y e) ≡ plan_answer format budget (got y 0)
unfolding plan_answer next
answer_anywhere y budget e = past_answer y budget e (overlap_in y.plan)

module _ (s t row : List ℕ) (budget plans start k p : ℕ) (answers : Answering s t row budget plans start k p) (n m : ℕ) (counted : Counted s n m) (more : k < plans)
    (u : List ℕ) (r : Passed) (read : outcome r u ≡ plan_first Flags n m s p t) where
  pub answering_room : 4 * k + 4 ≤ length row
  answering_room = let sized = answers.sized in omega arith

  one_more : plans - k ≡ suc (plans - (k + 1))
  one_more = omega arith

  -- What is left begins with this plan.
  this_first : rows (answers_at format s (table_in Flags s) budget plans start)
      ≡ take (4 * k) row ++ rows (plan_answer format budget (request_at format Flags s (table_in Flags s) p) ∷ after_plan (plans - (k + 1)) (request_at format Flags s (table_in Flags s) p) (λ e. answers_at format s (table_in Flags s) budget (plans - (k + 1)) e))
  unfolding answers_at
  this_first = answers.so_far ∙ ap (λ (i : ℕ). take (4 * k) row ++ rows (answers_at format s (table_in Flags s) budget i p)) one_more

  answer_inside : (plan_answer format budget (request_at format Flags s (table_in Flags s) p)).place ≤ length s
  answer_inside = answer_placed format s (table_in Flags s) budget (table_below format s (table_in Flags s) answers.here.table_end answers.here.table) p answers.inside

  module _ (e : ℕ) (is : r ≡ Ok e) where
    y : (y : Request) × (request_at format Flags s (table_in Flags s) p ≡ got y e) × (u ≡ tail_noted Flags y t)
    y = plan_got s n m counted p t u r read e is

    pub answering_hand : contradiction_in (table_in Flags s) ≡ nowhere → AtHand Flags s u
    answering_hand clean = subst (AtHand Flags s) (sym y.2) (plan_at_hand s t answers.here 0 p y.0 e y.1 clean (λ some. clash (eq-eqb 0 0 refl) some))

    pub answering_unguarded : guards_in s u ≡ []
    answering_unguarded = ap (guards_in s) y.2 ∙ plan_unguarded s t answers.here p y.0 e y.1

    -- And no mode.
    pub answering_known : mode_in u ≡ 0
    answering_known = ap mode_in y.2 ∙ table_mode s (tail_noted Flags y.0 t) (table_stays s t answers.here 0 p y.0 e y.1)

    held_is : request_in Flags s u ≡ y.0
    held_is = ap (request_in Flags s) y.2 ∙ plan_request s t answers.here 0 p y.0 e y.1

    module _ (a : Answer) (given : a ≡ plan_answer format budget (got (request_in Flags s u) 0)) where
      answer_is : a ≡ plan_answer format budget (request_at format Flags s (table_in Flags s) p)
      answer_is = given ∙ ap (λ (x : Request). plan_answer format budget (got x 0)) held_is ∙ sym (ap (plan_answer format budget) y.1 ∙ answer_anywhere y.0 budget e)

      pub answering_small : a.place < 65536
      answering_small =
          let inside = answer_inside in
          let same : a.place ≡ (plan_answer format budget (request_at format Flags s (table_in Flags s) p)).place = ap (λ (x : Answer). x.place) answer_is in
          let short = answers.here.short in
          omega arith

      pub answering_next : (left : List ℕ) → left ≡ with_answer row k a → Answering s u left budget plans start (k + 1) e
      unfolding after_plan
      answering_next left written = record {
        here = subst (TableHere Flags s) (sym y.2) (table_stays s t answers.here 0 p y.0 e y.1);
        few = omega arith;
        inside = plan_inside format s (table_in Flags s) budget (table_below format s (table_in Flags s) answers.here.table_end answers.here.table) p answers.inside y.0 e y.1;
        sized = rw written (put_long row k a ∙ answers.sized);
        so_far =
            this_first
            ∙ ap (λ (x : Answer). take (4 * k) row ++ rows (x ∷ after_plan (plans - (k + 1)) (request_at format Flags s (table_in Flags s) p) (λ e. answers_at format s (table_in Flags s) budget (plans - (k + 1)) e))) (sym answer_is)
            ∙ ap (λ (g : Got Request). take (4 * k) row ++ rows (a ∷ after_plan (plans - (k + 1)) g (λ e. answers_at format s (table_in Flags s) budget (plans - (k + 1)) e))) y.1
            ∙ put_next row k a (answers_at format s (table_in Flags s) budget (plans - (k + 1)) e) answering_room
            ∙ ap (λ (xs : List ℕ). take (4 * (k + 1)) xs ++ rows (answers_at format s (table_in Flags s) budget (plans - (k + 1)) e)) (sym written);
      }

  module _ (why : Fault) (is : r ≡ Err why) where
    fails_there : request_at format Flags s (table_in Flags s) p ≡ stopped why
    fails_there = plan_stop s n m counted p t u r read why is

    pub answering_fault : (a : Answer) → a ≡ record { number = number_of why.refusal; input = 1; place = why.place; count = 0 } → a.place < 65536
    unfolding plan_answer next judge_got
    answering_fault a said =
        let at : a.place ≡ why.place = ap (λ (x : Answer). x.place) said in
        let inside = answer_inside in
        let same : (plan_answer format budget (request_at format Flags s (table_in Flags s) p)).place ≡ why.place = ap (λ (g : Got Request). (plan_answer format budget g).place) fails_there in
        let short = answers.here.short in
        omega arith

    pub answering_few : k + 1 ≤ plans
    answering_few = omega arith

    module _ (a : Answer) (said : a ≡ record { number = number_of why.refusal; input = 1; place = why.place; count = 0 }) (left : List ℕ) (put : left ≡ with_answer row k a) where
      written : left ≡ with_answer row k (record { number = number_of why.refusal; input = 1; place = why.place; count = 0 })
      written = put ∙ ap (with_answer row k) said

      pub answering_sized : length left ≡ 4 * plans
      answering_sized = rw put (put_long row k a ∙ answers.sized)

      pub answering_stops : (last : List ℕ) → last ≡ with_unreached left (k + 1) plans → last ≡ rows (answers_at format s (table_in Flags s) budget plans start)
      unfolding with_unreached plan_answer next judge_got after_plan
      answering_stops last rest =
          rest
          ∙ ap (λ (xs : List ℕ). take (4 * (k + 1)) xs ++ rows (replicate (plans - (k + 1)) unreached)) written
          ∙ sym (put_next row k (record { number = number_of why.refusal; input = 1; place = why.place; count = 0 }) (replicate (plans - (k + 1)) unreached) answering_room)
          ∙ sym (this_first ∙ ap (λ (g : Got Request). take (4 * k) row ++ rows (plan_answer format budget g ∷ after_plan (plans - (k + 1)) g (λ e. answers_at format s (table_in Flags s) budget (plans - (k + 1)) e))) fails_there)

module _ (s t row : List ℕ) (budget plans start k p : ℕ) (answers : Answering s t row budget plans start k p) where
  pub answering_done : plans ≤ k → row ≡ rows (answers_at format s (table_in Flags s) budget plans start)
  unfolding answers_at rows
  answering_done over =
      let sized = answers.sized in
      let few = answers.few in
      let none : plans - k ≡ 0 = omega arith in
      sym (answers.so_far ∙ ap (λ (i : ℕ). take (4 * k) row ++ rows (answers_at format s (table_in Flags s) budget i p)) none ∙ append-nil (take (4 * k) row) ∙ take_all (4 * k) row (omega arith))
