-- A request that is moved is refused by 18 and walked alike: no test looks at a place, and a place is only reported, so much further on. By induction
-- over the plan; what follows an item is carried through as such a pair of walks. Assumes nothing.
use Prim.Native.Nat.{ℕ, ◌+◌}
use mathlib.Core.Path.{◌≡◌, refl, ap}
use mathlib.Core.Bool.{Bool}
use mathlib.Core.List.{List, [], ◌∷◌, map}
use Rattle.meaning.specs.Tests.{each_of}
use Rattle.meaning.specs.Requests.{Sequence, done, item, Item, act, branching, Branches, none, branch, Entry, Request}
use Rattle.meaning.specs.Refusals.{failing_in, Found, nowhere, at, or_else, conditions_of, all_exclusive, overlap_in, overlap_at, overlap_below}
use Rattle.meaning.specs.States.{State, Outcome, single, fork, known, known_whether}
use Rattle.meaning.specs.Walk.{End, fine, missed, stopped, Walked, stopped_at, counted, keep_miss, after_miss, after_end, and_then, each_reading, Step, leads_to, refuses, Steps, after_step, run_action, walk, walk_item, walk_branch, table_step, first_missed, missed_in, end_of, judged, walked}
use Rattle.meaning.proofs.TestLaws.{pick_map}
use Rattle.demands.proofs.ShiftedReads.{moved_plan, moved_item, moved_branches, moved_entry, moved_request}

module _ (on : ℕ) where
  -- WHAT IS FOUND, at a place so much further on.
  abbrev pub moved_found : Found → Found
  moved_found nowhere = nowhere
  moved_found (at p) = at (p + on)

  found_moved : (f : Found) (k : Unit {0} → Found) → or_else (moved_found f) (λ _. moved_found (k tt)) ≡ moved_found (or_else f k)
  unfolding or_else
  found_moved nowhere k = refl
  found_moved (at p) k = refl

  -- 18.
  conditions_moved : (bs : Branches ℕ) → conditions_of (moved_branches on bs) ≡ conditions_of bs
  unfolding conditions_of
  conditions_moved none = refl
  conditions_moved (branch c b bs) = ap {B = List (List ℕ)} (λ cs. c ∷ cs) (conditions_moved bs)

  mutual
    unfolding failing_in

    pub overlap_moved : (b : Sequence ℕ) → overlap_in (moved_plan on b) ≡ moved_found (overlap_in b)
    overlap_moved done = refl
    overlap_moved (item i rest) = rw (overlap_moved_item i, overlap_moved rest) (found_moved (overlap_at i) (λ _. overlap_in rest))

    overlap_moved_item : (i : Item ℕ) → overlap_at (moved_item on i) ≡ moved_found (overlap_at i)
    overlap_moved_item (act p a) = refl
    overlap_moved_item (branching p bs) = rw (conditions_moved bs, overlap_moved_below bs, pick_map moved_found (all_exclusive (conditions_of bs)) (λ _. overlap_below bs) (λ _. at p))

    overlap_moved_below : (bs : Branches ℕ) → overlap_below (moved_branches on bs) ≡ moved_found (overlap_below bs)
    overlap_moved_below none = refl
    overlap_moved_below (branch c b bs) = rw (overlap_moved b, overlap_moved_below bs) (found_moved (overlap_in b) (λ _. overlap_below bs))

  -- AN END STATE misses the same entry.
  first_missed_moved : (test : ℕ → Bool) (es : List Entry) → first_missed test (map (moved_entry on) es) ≡ moved_found (first_missed test es)
  unfolding first_missed
  first_missed_moved test [] = refl
  first_missed_moved test (e ∷ es) = rw (first_missed_moved test es, pick_map moved_found (test e.value) (λ _. first_missed test es) (λ _. at e.place))

  missed_moved : (r : Request) (s : State) → missed_in (moved_request on r) s ≡ moved_found (missed_in r s)
  unfolding missed_in
  missed_moved r s =
      rw (first_missed_moved (known s) r.goals, first_missed_moved (known_whether s) r.whether)
      (found_moved (first_missed (known s) r.goals) (λ _. first_missed (known_whether s) r.whether))

  -- HOW A WALK ENDS, at a place so much further on.
  module _ {S : Type 0} where
    abbrev pub moved_end : End S → End S
    moved_end fine = fine
    moved_end (missed p s) = missed (p + on) s
    moved_end (stopped n p u) = stopped n (p + on) u

    abbrev pub moved_walk : Walked S → Walked S
    moved_walk w = record { count = w.count; end = moved_end w.end }

    then_moved : (w : Walked S) (more : Unit {0} → Walked S) → and_then (moved_walk w) (λ _. moved_walk (more tt)) ≡ moved_walk (and_then w more)
    unfolding and_then after_end counted after_miss keep_miss
    then_moved w more = by_end w.end
      where
        kept : (p : ℕ) (s : S) (e : End S) → keep_miss (p + on) s (moved_end e) ≡ moved_end (keep_miss p s e)
        kept p s fine = refl
        kept p s (missed q t) = refl
        kept p s (stopped n q u) = refl

        by_end : (e : End S) → after_end (moved_end e) w.count (λ _. moved_walk (more tt)) ≡ moved_walk (after_end e w.count more)
        by_end fine = refl
        by_end (missed p s) = ap (λ (e : End S). counted w.count (record { count = (more tt).count; end = e })) (kept p s (more tt).end)
        by_end (stopped n p u) = refl

    -- What follows is walked alike.
    abbrev SameWalks : (k j : S → Walked S) → Type 0
    SameWalks k j = (s : S) → j s ≡ moved_walk (k s)

    readings_moved : (o : Outcome S) (k j : S → Walked S) → SameWalks k j → each_reading o j ≡ moved_walk (each_reading o k)
    unfolding each_reading
    readings_moved (single s) k j same = same s
    readings_moved (fork o p) k j same = rw (readings_moved o k j same, readings_moved (p tt) k j same) (then_moved (each_reading o k) (λ _. each_reading (p tt) k))

    step_moved : (p : ℕ) (x : Step S) (k j : S → Walked S) → SameWalks k j → after_step (p + on) x j ≡ moved_walk (after_step p x k)
    unfolding after_step counted stopped_at
    step_moved p (leads_to o) k j same = ap (counted 1) (readings_moved o k j same)
    step_moved p (refuses n u) k j same = refl

    module _ (step : Steps S ℕ) (free : step.lacks ≡ (λ _. nowhere)) where
      mutual
        unfolding walk run_action stopped_at

        walk_moved : (b : Sequence ℕ) (k j : S → Walked S) → SameWalks k j → SameWalks (walk step b k) (walk step (moved_plan on b) j)
        walk_moved done k j same s = same s
        walk_moved (item i rest) k j same s = walk_moved_item i (walk step rest k) (walk step (moved_plan on rest) j) (walk_moved rest k j same) s

        walk_moved_item : (i : Item ℕ) (k j : S → Walked S) → SameWalks k j → SameWalks (walk_item step i k) (walk_item step (moved_item on i) j)
        walk_moved_item (act p a) k j same s = rw free (step_moved p (step.does a s) k j same)
        walk_moved_item (branching p bs) k j same s = walk_moved_branch bs p k j same s

        walk_moved_branch : (bs : Branches ℕ) (p : ℕ) (k j : S → Walked S) → SameWalks k j → SameWalks (walk_branch step bs p k) (walk_branch step (moved_branches on bs) (p + on) j)
        walk_moved_branch none p k j same s = refl
        walk_moved_branch (branch c b bs) p k j same s =
            rw (walk_moved b k j same s, walk_moved_branch bs p k j same s, pick_map moved_walk (each_of (step.knows s) c) (λ _. walk step b k s) (λ _. walk_branch step bs p k s))

  judged_moved : (r : Request) → SameWalks (judged r) (judged (moved_request on r))
  unfolding judged end_of
  judged_moved r s = rw (missed_moved r s) (by_found (missed_in r s))
    where
      by_found : (f : Found) → ◌≡◌ {A = Walked State} (record { count = 1; end = end_of (moved_found f) s }) (record { count = 1; end = moved_end (end_of f s) })
      by_found nowhere = refl
      by_found (at p) = refl

  pub walked_moved : (r : Request) (s : State) → walked (moved_request on r) s ≡ moved_walk (walked r s)
  unfolding walked table_step
  walked_moved r s = walk_moved (table_step r.table) refl r.plan (judged r) (judged (moved_request on r)) (judged_moved r) s
