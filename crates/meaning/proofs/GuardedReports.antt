-- What answers 1 and 2 of the guarded call report (FORMAT 21.14, 21.16): the place and the state are those of the first path that misses, where none stops,
-- or of the first that stops. A path with guards that does not stop in a state that lacks one ends as a path without guards does, and of those it is
-- known. Assumes nothing.
use Prim.Native.Nat.{ℕ, ◌≤◌}
use native.Mathlib.Omega.{arith}
use mathlib.Core.Path.{◌≡◌, subst}
use mathlib.Core.List.{List}
use mathlib.Core.Logic.{⊎_elim}
use lib.ListN.{length}
use Rattle.meaning.specs.Limits
use Rattle.meaning.specs.Limits.{Limits}
use Rattle.meaning.specs.Reading.{got}
use Rattle.meaning.specs.States.{State, first_state}
use Rattle.meaning.specs.Walk.{in_state, missed, missed_in}
use Rattle.meaning.specs.Guards.{GuardedRequest, settled_guarded, judge_guarded, number}
use Rattle.meaning.specs.Approximation.{Φ̂, least}
use Rattle.meaning.specs.Paths.{Ending, arrives}
use Rattle.meaning.specs.Reported.{all_paths, MissedAt, StoppedAt}
use Rattle.meaning.specs.GuardedReported.{met_paths, FirstStop}
use Rattle.meaning.proofs.WithinLaws.{missed_within}
use Rattle.meaning.proofs.EndLaws.{first_map, Ends, all_arrive, stop_ends, miss_ends, Says}
use Rattle.meaning.proofs.CoverLaws.{result_of}
use Rattle.meaning.proofs.Exact.{leads, ranged, fits}
use Rattle.meaning.proofs.ReportLaws.{nothing_missed, entry_missed, sticks, stops_in}
use Rattle.meaning.proofs.GuardedPaths.{broken≢stuck, not_broken, met_was}
use Rattle.meaning.proofs.GuardedReads.{own, parts, own_settled}
use Rattle.meaning.proofs.GuardedExact.{guarded_by_walk, guarded_says, end_never, stop_there}

-- THE REPORTS, of a settled guarded request.
module _ (lim : Limits) (room : lim.fluents ≤ lim.state) (b lent : List ℕ) (budget : ℕ) (g : GuardedRequest) (e : ℕ) (lent_length : length lent ≡ lim.state) (past : settled_guarded lim b ≡ got g e) where
  abbrev first : State
  first = first_state lim g.request.table

  abbrev ends_plan : ℕ
  ends_plan = (parts lim b g e past).request_end

  -- Where a path without guards ends, the extended transition function leads.
  led : (x : Ending State) → Ends (all_paths lim g.request) x → Φ̂ g.request.table g.request.plan (least g.request.table) (result_of x)
  led =
      let whole = own lim b g e past in
      let settles = own_settled lim b g e past in
      leads lim room g.request (ranged lim room whole g.request ends_plan settles) (fits lim room whole g.request ends_plan settles)

  missed_reports : (p : ℕ) (u : State) → Says (missed_in g.request) (met_paths lim g) (missed p u) → MissedAt g.request (met_paths lim g) p u
  missed_reports p u w = record {
    all_arrive = all_arrive (met_paths lim g) w.0;
    path = first_map (λ x none-there v is. nothing_missed g.request v (none-there v is)) (λ x is. is.0) w.1;
    entry = entry_missed g.request u p w.1.so.1;
    end_state = led (arrives u) (not_broken g.request.table g.guards (all_paths lim g.request) u (met_was g.request.table g.guards g.request.plan first (arrives u)
        (miss_ends (missed_in g.request) (met_paths lim g) p u w.1)));
  }

  stuck_reports : (p : ℕ) (u : State) → FirstStop (met_paths lim g) Limits.not_executable p u → StoppedAt g.request (met_paths lim g) p u
  stuck_reports p u f =
      let ends : Ends (all_paths lim g.request) (sticks p u) =
      ⊎_elim (λ k. absurd (broken≢stuck k.2)) (λ h. h)
      (met_was g.request.table g.guards g.request.plan first (sticks p u) (stop_ends (met_paths lim g) Limits.not_executable p (in_state u) f)) in
      let v = stops_in g.request.table g.request.plan first p u ends in
      record { path = f; stop = v.0; in_plan = v.1; stands = v.2; not_run = v.3; fails = led (sticks p u) ends }

  -- Where the answer is 1, its place and the state left are those of the first miss.
  pub guarded_missed_there : number lim b lent budget ≡ Limits.goal_missed → MissedAt g.request (met_paths lim g) (judge_guarded lim b lent budget).answer.place (judge_guarded lim b lent budget).state
  guarded_missed_there q =
      missed_within lent budget _ _ (guarded_by_walk lim b lent budget g e lent_length past) (MissedAt g.request (met_paths lim g))
      (end_never lim b lent budget g e lent_length past Limits.goal_missed (λ z. omega arith) (λ z. omega arith)) q
      (λ p u is. missed_reports p u (subst (Says (missed_in g.request) (met_paths lim g)) is (guarded_says lim b lent budget g e lent_length past)))

  -- Where it is 2, they are those of the first stop, at an item that can't be run.
  pub guarded_stopped_there : number lim b lent budget ≡ Limits.not_executable → StoppedAt g.request (met_paths lim g) (judge_guarded lim b lent budget).answer.place (judge_guarded lim b lent budget).state
  guarded_stopped_there q =
      stuck_reports _ _ (stop_there lim b lent budget g e lent_length past Limits.not_executable (λ z. omega arith) (λ z. omega arith) (λ z. omega arith) q).0
