-- The demands (FORMAT section 11, 17.38 to 17.41, 21.22 to 21.25, 22.17 to 22.22, 23.22 to 23.26, 24.24 to 24.28, 25.21 to 25.25, 26.28 and 26.31 to 26.34), each by citing where its argument stands. Read this file first. Assumes nothing.
use Prim.Native.Nat.{ℕ, ◌-◌, ◌≤◌, ◌<◌}
use native.Mathlib.Omega.{arith}
use mathlib.Core.Path.{◌≡◌, refl, sym, ◌∙◌, ap}
use mathlib.Core.Bool.{true}
use mathlib.Core.List.{List, ◌∷◌}
use lib.ListN.{length, length-replicate, get_or, replicate}
use Rattle.meaning.specs.declared.Layout.{Layout}
use Rattle.meaning.specs.Limits
use Rattle.meaning.specs.Limits.{Limits, former, format}
use Rattle.meaning.specs.Literals.{among}
use Rattle.meaning.specs.Requests.{RequestOver, Request}
use Rattle.meaning.specs.Reading.{Got, got, fault}
use Rattle.meaning.specs.Refusals.{settled}
use Rattle.meaning.specs.States.{first_state}
use Rattle.meaning.specs.Walk.{Verified, walked}
use Rattle.meaning.specs.Judging.{judge}
use Rattle.meaning.specs.Releases.{Opening, opening, plans_at, unreached, in_row, release, own_request, moved, row_of}
use Rattle.meaning.specs.Worlds.{CarriedOut}
use Rattle.meaning.specs.Values.{Literals, all_exclusive}
use Rattle.meaning.specs.ValueStates
use Rattle.meaning.specs.ValueWorlds
use Rattle.meaning.specs.Derivations.{check}
use Rattle.demands.specs.Wider.{SameJudgement}
use Rattle.meaning.specs.Answers.{answers}
use Rattle.meaning.proofs.WalkLaws.{OnConditions}
use Rattle.meaning.proofs.AnswerLaws
use Rattle.demands.proofs.DerivationSound
use Rattle.meaning.proofs.ValueSound
use Rattle.meaning.proofs.VerifiedLaws.{verified_so}
use Rattle.meaning.proofs.Passed.{passed_exactly}
use Rattle.meaning.proofs.WalkSound.{walk_sound}
use Rattle.demands.proofs.ReleaseRows
use Rattle.demands.proofs.ReleaseRows.{moved_number}
use Rattle.demands.proofs.WiderCases.{format_wider}
use Rattle.demands.proofs.WiderJudging
use Rattle.demands.proofs.WiderDerivations
-- Demand 2, its first sentence (FORMAT 11.5): past the refusals and within the budget the answers are those of the 0-approximation, in the
-- order of the paths.
pub use Rattle.meaning.proofs.Exact.{spent_exactly, stuck_exactly, verified_exactly, missed_exactly, in_order}
-- What answers 1 and 2 report (FORMAT 11.13 to 11.16).
pub use Rattle.meaning.proofs.ReportLaws.{missed_in_an_end_state, missed_there, stopped_there}
-- Asking whether an action can be run names the first line that allows it, or else the one that is short by the fewest, and that line is the action's; it
-- can be run just where a line allows it (FORMAT 18.4 to 18.7, 18.20, 18.21).
pub use Rattle.meaning.proofs.AskingLaws.{asked_stands, asked_of_action, can_be_run_asked}
-- Answer 2 carries the line of the item at its place in the state left, and every other answer none (FORMAT 18.10 to 18.12).
pub use Rattle.meaning.proofs.ReportedLine.{line_there, no_line, never_asked, line_missing}
-- Demand 2, its second sentence (FORMAT 11.6, 17.39), and demand 1 of the derivation call and of the whether call (17.38).
pub use Rattle.meaning.proofs.AcceptedExactly.{accepted_exactly}
pub use Rattle.meaning.proofs.Passed.{every_check_numbered}
-- Demand 1 of input, place and count (FORMAT 11.4): they are what the number says.
pub use Rattle.meaning.proofs.PartLaws.{input_exactly, count_exactly, place_within, check_input_exactly, check_count_exactly, check_place_within}
-- A world's move is single-valued where the action may be run (FORMAT 9.6), and an action that is carried out drops no world (9.14).
pub use Rattle.meaning.proofs.WalkSound.{move_is_single_valued}
pub use Rattle.meaning.proofs.Sound.{none_is_dropped}
-- 16 refuses exactly where two effects meet in a world (FORMAT 7.34), and what it refuses it refused before it asked for an executability line.
pub use Rattle.demands.proofs.Meeting.{no_lines_no_contradiction, contradictory_exactly, refused_where_effects_meet, passed_where_none_meet}
pub use Rattle.demands.proofs.Narrowed.{settled_narrowed, passes_still}
-- The release call: its own answer is numbered, and so is each number in its row; the row has four numbers for each plan where the answer is 0, and is
-- left as lent with every other.
pub use Rattle.meaning.proofs.ReleaseLaws.{own_numbered, own_input, own_place, own_count, row_within, row_sized, row_as_lent}
-- The plans call: a row of four times its number is not refused by 9, and where it is 0 the file is refused before the row is looked at.
pub use Rattle.meaning.proofs.ReleaseLaws.{plans_counted, none_counted, row_fits}
-- Where its answer is 0, each plan's row is the walk call's answer on the table and that plan, with its place counted in the file, and 22 stands just
-- behind a plan that failed in reading.
pub use Rattle.demands.proofs.ReleaseRows.{each_row, behind_a_failure, not_reached_exactly}
-- Reused verdicts, of requests in parts: more facts and fewer goals leave a request verified; two plans that are verified one behind the other are
-- verified as one, within a budget that is named; joining is associative, with the plan without items as its unit, on bytes and on whole answers.
pub use Rattle.demands.proofs.ReuseLaws.{each_request, lent_unread, more_facts, fewer_goals, joining, joining_by_product, plans_associate, no_items_before, no_items_after, answers_associate, answers_before, answers_after}
-- What is not so of them, by rows of the proved cases.
pub use Rattle.demands.proofs.ReuseLaws.{reuse_cases, reuse_cases_hold, looks_ends}
-- THE GUARDED CALL. Demand 1 (FORMAT 21.22): its number is one of its own; input, place, count and state are what the number says (21.10, 21.16).
pub use Rattle.meaning.proofs.GuardedAnswers.{guarded_numbered, guarded_input, guarded_place, guarded_count, guarded_state}
-- Demand 2 (FORMAT 21.23): the answer is what the list of paths says, with the states that are met; 3 where the count is above the budget; 43 and 2 as the
-- first path that stops does; 1 and 0 where none does, by what is missed.
pub use Rattle.meaning.proofs.GuardedExact.{in_guarded_order, guarded_spent_exactly, broken_exactly, guarded_stuck_exactly, guarded_missed_exactly, guarded_fine_exactly}
-- In the 0-approximation's own terms: 0 where what is asked is entailed and the guards are true in every a-state that is met, and 1 otherwise.
pub use Rattle.demands.proofs.GuardedMet.{guarded_verified_exactly, guarded_missed_otherwise}
-- What answers 43 (FORMAT 21.24), 1 and 2 (21.14) report, and that the state of 43 is met; a reading takes away nothing that was known (21.15).
pub use Rattle.meaning.proofs.GuardedExact.{broken_there}
pub use Rattle.meaning.proofs.GuardedReports.{guarded_missed_there, guarded_stopped_there}
pub use Rattle.demands.proofs.GuardedMet.{broken_where_met, reading_keeps}
-- Demand 3 (FORMAT 21.25): where it is verified, it is carried out in every world with the initial facts, and its guards hold all along.
pub use Rattle.demands.proofs.GuardedSound.{guarded_sound}
-- Without guards it answers as the walk call (FORMAT 21.17).
pub use Rattle.meaning.proofs.KeptEnds.{walked_unguarded}
pub use Rattle.demands.proofs.GuardedEmpty.{without_guards}
-- Answer 2 carries the line of the item at its place in the state left, and every other answer, 43 among them, none (FORMAT 21.20).
pub use Rattle.meaning.proofs.GuardedLine.{guarded_line_there, guarded_no_line, no_line_broken, guarded_line_missing}
-- THE CALL BY CASES. Demand 1 (FORMAT 22.17): its number is one of its own; input, place, count and state are what the number says (22.11, 22.14).
pub use Rattle.meaning.proofs.CaseAnswers.{cases_numbered, cases_input, cases_place, cases_count, cases_state}
-- Demand 2 (FORMAT 22.18): the answer is what the list of paths says; 3 where the count is above the budget, and else, where it is not 44, that of the
-- 1-approximation.
pub use Rattle.demands.proofs.CaseReports.{in_case_order}
pub use Rattle.demands.proofs.CaseExact.{cases_spent_exactly, cases_stuck_exactly, cases_verified_exactly, cases_missed_exactly}
-- 44 exactly where the first path that stops, stops so, and what it reports: an action that is met with more than 12 open fluents (FORMAT 22.19). The walk without
-- this limit is the same walk, wherever it is not stopped so.
pub use Rattle.demands.proofs.CaseReports.{many_exactly, many_at, many_there}
pub use Rattle.meaning.proofs.CaseWalks.{limited}
-- Demand 3 (FORMAT 22.20): where it is verified, it is carried out in every world with the initial facts.
pub use Rattle.demands.proofs.CaseVerified.{cases_sound}
-- What the walk call verifies, it verifies, or has too many cases (FORMAT 22.21).
pub use Rattle.demands.proofs.CaseMore.{cases_verify_more}
-- It is enough to fill the open fluents of an action (FORMAT 22.22), and what can be run as known can be run by cases.
pub use Rattle.meaning.proofs.FillLaws.{fills_run, fills_after, known_runs}
-- What answers 1 and 2 report (FORMAT 22.14). Answer 2 carries the line of the item at its place in the state left, and every other answer, 44 among them, none.
pub use Rattle.demands.proofs.CaseReports.{cases_missed_there, cases_stopped_there}
pub use Rattle.demands.proofs.CaseLine.{cases_line_there, cases_no_line, no_line_many, cases_line_missing}
-- THE INDEX CALL. Demand 1 (FORMAT 23.22): its number is one of its own; input, place, count and room are what the number says (23.7 to 23.9).
pub use Rattle.meaning.proofs.IndexBuilt.{index_numbered, index_input, index_place, index_place_limited, index_count, index_count_limited, index_room_length}
-- 0 exactly where the request is settled and the room is not shorter than its index, and what is then written (FORMAT 23.23); 39 exactly where the room is shorter; a
-- refusal exactly where the request is not settled, as the walk call gives it.
pub use Rattle.demands.proofs.Indexed.{built_exactly, index_written, short_exactly, refused_exactly, refused_as_judged, room_as_lent}
-- An index has as many bytes as the counts of its table say, at most 1,276, and each is a byte (FORMAT 23.5).
pub use Rattle.meaning.proofs.IndexLaws.{index_length, settled_index_most, settled_index_bytes}
-- THE INDEXED CALL. Demand 1 (FORMAT 23.22): its number is one of its own; input, place, count and state are what the number says (23.15, 23.16).
pub use Rattle.meaning.proofs.IndexAnswers.{indexed_numbered, indexed_input, indexed_place, indexed_place_limited, differs_place_limited, indexed_count, indexed_state}
-- It gives what the walk call gives, or 45 (FORMAT 23.13, 23.15); 45 exactly where the state has its length, the request is settled and the index is another, at the place of
-- the first difference (23.25). A first difference is the one place at which two strings of bytes first differ, and there is none exactly where they are the same (23.14).
pub use Rattle.meaning.proofs.IndexAnswers.{differs_or_walked, differs_so, walked_otherwise}
pub use Rattle.demands.proofs.Indexed.{indexed_as_walked, refused_as_walked, differs_exactly}
pub use Rattle.meaning.proofs.DifferenceLaws.{same_difference, differs_there}
-- With the index that the index call wrote, every answer is the walk call's (FORMAT 23.24); and of an index no byte counts but as many as it may have, and one more (23.20).
pub use Rattle.demands.proofs.Indexed.{built_then_judged, cut_alike, format_cut}
-- Demand 2 past 45, and demand 3 (FORMAT 23.26), with what answers 1 and 2 report and the line.
pub use Rattle.demands.proofs.Indexed.{walked_so, indexed_in_order, indexed_spent_exactly, indexed_stuck_exactly, indexed_verified_exactly, indexed_missed_exactly, indexed_missed_in_an_end_state, indexed_missed_there, indexed_stopped_there, indexed_no_line, indexed_line_there, indexed_line_missing, indexed_sound}
-- THE DERIVE CALL. Demand 1 (FORMAT 24.24): its number is one of its own; input, place, count and room are what the number says (24.12 to 24.19).
pub use Rattle.meaning.proofs.DeriveAnswers.{derive_numbered, derive_input, derive_place, derive_place_limited, derive_count, derive_room_length, derive_room_as_lent}
-- 0 exactly where the request is settled, has no whether entry, is verified within the budget by a walk that meets no action that is too wide, and has a derivation of so few lines and
-- bytes, which the room has too; and what is then written (FORMAT 24.19, 24.25). What was written, cut from the room; and what is verified so, the walk call verifies.
pub use Rattle.demands.proofs.DeriveExact.{derived_exactly, derivation_written, derivation_taken, derived_judged}
-- A refusal exactly where the request is not settled, and 1, 2 and 3 exactly where the walk call gives them, past 30; each is then the walk call's answer, with its place, input and
-- count (FORMAT 24.13, 24.15). 30 exactly where there is a whether entry (24.14).
pub use Rattle.demands.proofs.DeriveExact.{derive_refused_exactly, derive_refused_as_judged, derive_asked_exactly, derive_asked_there, derive_walked_exactly, derive_walked_as_judged, derive_as_judged}
-- 37 exactly where the walk meets an action that is too wide, at the first such item (FORMAT 24.16); 38 and 39 exactly where the derivation is too large (24.17, 24.18). The walk up to such
-- an item is the plain walk, or it stops there; and it ends as the plain walk does exactly where there is none.
pub use Rattle.demands.proofs.DeriveExact.{derive_wide_exactly, derive_wide_there, derive_wide_at, derive_many_exactly, derive_short_exactly}
pub use Rattle.meaning.proofs.NarrowWalks.{narrow_limited, narrow_same, narrow_or_wide}
pub use Rattle.demands.proofs.NarrowMet.{narrow_exactly, wide_senses}
-- What it has written the derivation call accepts (FORMAT 24.26). Theorems 3.2 and 3.4 of Zhao and Shen (24.27, 24.28): of what the walk verifies there is a derivation that the derivation
-- call accepts, within the sizes of the format; and there are lines by the rules for all that is asked, whatever their number.
pub use Rattle.demands.proofs.SchemeAccepted.{derive_accepted, derive_bytes, derive_closing}
pub use Rattle.demands.proofs.DeriveExact.{verified_derivable, verified_proved}
-- THE GUIDE. Demand 1 (FORMAT 25.22): the number of its start is one of its own; input, place and count are what the number says. The answer is the walk call's where that is 0 or a refusal
-- of the request, and 40 otherwise; so it is 0 exactly where the walk call's is.
pub use Rattle.demands.proofs.GuideAnswers.{start_numbered, start_input, start_place, start_count, start_as_judged, start_verified}
-- A guide that started refuses a call with 41 or 42 alone, with place, input and count 0, whatever the readings were; one that was refused answers as its start did ever after.
pub use Rattle.demands.proofs.GuideCalls.{refused_with}
pub use Rattle.demands.proofs.GuideAnswers.{refused_ever}
-- It is determined (FORMAT 25.21): calls with readings that say the same are told the same.
pub use Rattle.demands.proofs.GuideAnswers.{read_alike, told_alike}
-- 41 exactly where the number of readings is another than is asked for, 42 exactly where it is not and some reading is against what is known; and neither changes the guide (FORMAT 25.23).
-- Once it has said that the plan has ended, every call says so.
pub use Rattle.demands.proofs.GuideAnswers.{wrong_number_exactly, against_exactly, refused_unchanged, done_ever}
-- Theorem 7 of the paper on IndiGolog (FORMAT 25.24, 25.25): from every world with the initial facts, with readings that are truthful, of which there are some in every world, a guide that
-- started answers the actions that carrying the plan out runs, at most so many as a plan may have items, and then that it has ended; no call is refused; and what is asked is then known to
-- it and so in every possible world.
pub use Rattle.demands.proofs.GuideSound.{guided}
pub use Rattle.demands.proofs.GuideReadings.{some_truthful}
-- THE VALUES CALL. Demand 1 (FORMAT 26.32): its number is one of its own; input, place, count and state are what the number says (26.14).
pub use Rattle.meaning.proofs.ValueAnswers.{values_numbered, values_input, values_place, values_place_limited, values_count, values_state}
-- Demand 2 (FORMAT 26.33): the answer is what the list of paths says; 3 where the count is above the budget, and else 2 where some path stops, 0 where none does and nothing is missed, and
-- 1 otherwise.
pub use Rattle.demands.proofs.ValuesExact.{in_values_order, values_spent_exactly, values_stuck_exactly, values_fine_exactly, values_missed_exactly, values_missed_otherwise}
-- Demand 3 (FORMAT 26.34): where it is verified, it is carried out in every world that gives each fluent one of its values and has the initial facts, of which there are some; and 16 keeps
-- moves single-valued.
pub use Rattle.demands.proofs.ValuesSound.{values_sound, values_move_single}
pub use Rattle.demands.proofs.ValueReads.{values_least, settled_some_world}
-- Where every fluent has two values, it answers a request as the walk call answers one that matches it (FORMAT 26.28); and each such request that was read has a match (26.27).
pub use Rattle.demands.proofs.Matched.{matched_alike}
pub use Rattle.demands.proofs.MatchedReads.{match_there}

-- Demand 1 (FORMAT 11.1): every input gets one of the numbered answers.
pub numbered : (lim : Limits) (request lent : List ℕ) (budget : ℕ) → among (judge lim request lent budget).answer.number answers ≡ true
numbered = AnswerLaws.every_answer_numbered

-- Answer 0 is given to a settled request whose walk is verified.
pub verified_means : (lim : Limits) (request lent : List ℕ) (budget : ℕ) → (judge lim request lent budget).answer.number ≡ Limits.verified
    → (r : Request) × (e : ℕ) × (settled lim request ≡ got r e) × Verified (walked r (first_state lim r.table))
verified_means lim request lent budget q = let v = verified_so lim request lent budget q in (v.says, v.end, v.settles, v.fine)

-- Demand 3 (FORMAT 11.7 to 11.12): a verified plan is carried out in every world with the initial facts, at any budget.
pub sound : (lim : Limits) (request lent : List ℕ) (budget : ℕ) → (judge lim request lent budget).answer.number ≡ Limits.verified
    → (r : Request) × (e : ℕ) × (settled lim request ≡ got r e) × CarriedOut r
sound lim request lent budget q =
    let m = verified_means lim request lent budget q in
    (m.0, m.1, m.2, walk_sound lim request m.0 m.1 m.2 m.3)

-- Demand 3 for fluents with any number of values, over any structure of literals; the demand above is of the instance with two.
pub sound_for_values : {L : Type 0} (ls : Literals L) (lim : Limits) (r : RequestOver L) → OnConditions (λ cs. all_exclusive ls cs ≡ true) r.plan
    → Verified (ValueStates.walked ls r (ValueStates.first_state ls lim r.table)) → ValueWorlds.CarriedOut ls r
sound_for_values = ValueSound.walk_sound

-- Theorems 3.1 and 3.3 of Zhao and Shen, for the plain layout and for the closing one: what an accepted derivation asks is verified by the walk
-- without a budget, the whether entries included (FORMAT 17.40). (With a budget it need not be: `LongCases.beyond_a_budget` has a
-- derivation accepted where the walk's budget is spent.)
pub accepted_verified : (lim : Limits) → lim.fluents ≤ lim.state → (layout : Layout) (request derivation : List ℕ) → (check lim layout request derivation).number ≡ Limits.verified
    → (r : Request) × (e : ℕ) × (settled lim request ≡ got r e) × Verified (walked r (first_state lim r.table))
accepted_verified lim room layout request derivation q =
    let a = (passed_exactly lim layout request derivation).0 q in
    (a.asks, a.end, a.request_settled, DerivationSound.accepted_verified lim room layout request derivation a)

-- Demand 3 for accepted derivations (FORMAT 11.7, 17.41).
pub sound_derivation : (lim : Limits) → lim.fluents ≤ lim.state → (layout : Layout) (request derivation : List ℕ) → (check lim layout request derivation).number ≡ Limits.verified
    → (r : Request) × (e : ℕ) × (settled lim request ≡ got r e) × CarriedOut r
sound_derivation lim room layout request derivation q =
    let m = accepted_verified lim room layout request derivation q in
    (m.0, m.1, m.2, walk_sound lim request m.0 m.1 m.2 m.3)

-- Demand 3 plan by plan: where a plan's row says 0, the plans before it were read, and the request of the table and that plan is carried out.
module _ (lim : Limits) (s lent : List ℕ) (budget : ℕ) (zero : (release lim s lent budget).answer.number ≡ Limits.verified)
    (o : Opening) (p : ℕ) (is : opening lim s ≡ got o p) (i : ℕ) (less : i < o.plans) (rest : List ℕ) (says : row_of (release lim s lent budget).row i ≡ Limits.verified ∷ rest) where
  abbrev CarriedOutFrom : Got (List Request) → Type 0
  CarriedOutFrom x = (rs : List Request) × (start : ℕ) × (x ≡ got rs start) × ((r : Request) × (e : ℕ) × (settled lim (own_request lim s o start) ≡ got r e) × CarriedOut r)

  pub sound_release : CarriedOutFrom (plans_at lim s o.table i p)
  unfolding in_row unreached
  sound_release = by_plans (plans_at lim s o.table i p) refl
    where
      by_plans : (x : Got (List Request)) → plans_at lim s o.table i p ≡ x → CarriedOutFrom x
      by_plans (got rs start) before =
          let room = replicate lim.state Limits.unknown_mark in
          let answer = (judge lim (own_request lim s o start) room budget).answer in
          let row = ReleaseRows.each_row lim s lent budget zero o p is i less rs start before room (length-replicate lim.state Limits.unknown_mark) in
          let same : (moved (start - o.table_end) answer).number ≡ Limits.verified = ap (λ (row : List ℕ). get_or row 0 0) (sym row ∙ says) in
          (rs, start, refl, sound lim (own_request lim s o start) room budget (sym (moved_number (start - o.table_end) answer) ∙ same))
      by_plans (fault n k) before =
          let same : ◌≡◌ {A = ℕ} Limits.not_reached Limits.verified = ap (λ (row : List ℕ). get_or row 0 0) (sym (ReleaseRows.behind_a_failure lim s lent budget zero o p is i less n k before) ∙ says) in
          absurd (omega (arith, same))

-- Equal answers (FORMAT 3.19 to 3.21): what the former limits answer with another number than 12, lent a state of their length, the format's limits
-- answer alike. With 1 and 2 the state that is left is the former one with unknown marks behind it; with every other number each stays as lent.
pub as_before : (request small large : List ℕ) (budget : ℕ) → length small ≡ former.state → length large ≡ format.state
    → ((judge former request small budget).answer.number ≡ Limits.count_outside → ⊥)
    → SameJudgement (format.state - former.state) small large (judge former request small budget) (judge format request large budget)
as_before request small large budget fits Fits-wider = WiderJudging.same_judgement former format format_wider small large fits Fits-wider budget request

pub check_as_before : (layout : Layout) (request derivation : List ℕ) → ((check former layout request derivation).number ≡ Limits.count_outside → ⊥)
    → check format layout request derivation ≡ check former layout request derivation
check_as_before = WiderDerivations.same_check former format format_wider
