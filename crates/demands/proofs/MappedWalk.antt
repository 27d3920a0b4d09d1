-- Two steps that do the same, seen through a function from states to states, walk every plan to the same count and to the same end, seen
-- through it. By induction over the plan; what follows an item is carried through as such a pair of walks. Assumes nothing.
use Prim.Native.Nat.{ℕ}
use mathlib.Core.Path.{◌≡◌, refl, ap}
use Rattle.meaning.specs.Tests.{each_of}
use Rattle.meaning.specs.Requests.{Sequence, done, item, Item, act, branching, Branches, none, branch}
use Rattle.meaning.specs.Refusals.{Found, nowhere, at}
use Rattle.meaning.specs.States.{Outcome, single, fork}
use Rattle.meaning.specs.Walk.{Concerned, no_state, in_state, End, fine, missed, stopped, Walked, stopped_at, counted, keep_miss, after_miss, after_end, and_then, each_reading, Step, leads_to, refuses, Steps, after_step, unless_broken, meet, run_action, walk, walk_item, walk_branch}
use Rattle.meaning.proofs.TestLaws.{pick_map}
use Rattle.meaning.proofs.KeptEnds.{OutcomeHas}

module _ {S T : Type 0} (f : S → T) where
  -- WHAT IS SEEN of an outcome, a step and a walk.
  abbrev pub mapped_outcome : Outcome S → Outcome T
  mapped_outcome (single s) = single (f s)
  mapped_outcome (fork o p) = fork (mapped_outcome o) (λ _. mapped_outcome (p tt))

  abbrev pub mapped_concerned : Concerned S → Concerned T
  mapped_concerned no_state = no_state
  mapped_concerned (in_state s) = in_state (f s)

  abbrev pub mapped_end : End S → End T
  mapped_end fine = fine
  mapped_end (missed p s) = missed p (f s)
  mapped_end (stopped n p u) = stopped n p (mapped_concerned u)

  abbrev pub mapped_walk : Walked S → Walked T
  mapped_walk w = record { count = w.count; end = mapped_end w.end }

  abbrev pub mapped_step : Step S → Step T
  mapped_step (leads_to o) = leads_to (mapped_outcome o)
  mapped_step (refuses n u) = refuses n (mapped_concerned u)

  -- One walk after another.
  mapped_then : (w : Walked S) (more : Unit {0} → Walked S) → mapped_walk (and_then w more) ≡ and_then (mapped_walk w) (λ _. mapped_walk (more tt))
  unfolding and_then after_end counted after_miss keep_miss
  mapped_then w more = by_end w.end
    where
      kept : (p : ℕ) (s : S) (e : End S) → mapped_end (keep_miss p s e) ≡ keep_miss p (f s) (mapped_end e)
      kept p s fine = refl
      kept p s (missed q t) = refl
      kept p s (stopped n q u) = refl

      by_end : (e : End S) → mapped_walk (after_end e w.count more) ≡ after_end (mapped_end e) w.count (λ _. mapped_walk (more tt))
      by_end fine = refl
      by_end (missed p s) = ap (λ (e : End T). counted w.count (record { count = (more tt).count; end = e })) (kept p s (more tt).end)
      by_end (stopped n p u) = refl

  -- WALKS FROM STATES THAT HAVE P. What follows is walked alike.
  module _ (P : S → Type 0) where
    abbrev pub SameWalks : (S → Walked S) → (T → Walked T) → Type 0
    SameWalks k j = (s : S) → P s → j (f s) ≡ mapped_walk (k s)

    mapped_readings : (o : Outcome S) → OutcomeHas P o → (k : S → Walked S) (j : T → Walked T) → SameWalks k j → each_reading (mapped_outcome o) j ≡ mapped_walk (each_reading o k)
    unfolding each_reading
    mapped_readings (single s) has k j same = same s has
    mapped_readings (fork o p) has k j same =
        rw (mapped_readings o has.0 k j same, mapped_readings (p tt) has.1 k j same, mapped_then (each_reading o k) (λ _. each_reading (p tt) k))

    -- The outcome of a step has P.
    abbrev pub Keeps : Step S → Type 0
    Keeps (leads_to o) = OutcomeHas P o
    Keeps (refuses n u) = Unit {0}

    mapped_after : (p : ℕ) (x : Step S) → Keeps x → (k : S → Walked S) (j : T → Walked T) → SameWalks k j → after_step p (mapped_step x) j ≡ mapped_walk (after_step p x k)
    unfolding after_step counted stopped_at
    mapped_after p (leads_to o) has k j same = ap (counted 1) (mapped_readings o has k j same)
    mapped_after p (refuses n u) has k j same = refl

    module _ {L : Type 0} (step : Steps S L) (other : Steps T L)
        (keeps : (a : ℕ) (s : S) → P s → Keeps (step.does a s))
        (does : (a : ℕ) (s : S) → P s → other.does a (f s) ≡ mapped_step (step.does a s))
        (knows : (s : S) → other.knows (f s) ≡ step.knows s)
        (lacks : (s : S) → other.lacks (f s) ≡ step.lacks s) where
      -- A state that is met.
      pub mapped_meet : (k : S → Walked S) (j : T → Walked T) → SameWalks k j → SameWalks (meet step k) (meet other j)
      unfolding stopped_at
      mapped_meet k j same s has = rw (lacks s) (by_found (step.lacks s))
        where
          by_found : (g : Found) → unless_broken g (f s) (j (f s)) ≡ mapped_walk (unless_broken g s (k s))
          by_found nowhere = same s has
          by_found (at p) = refl

      mapped_run : (p a : ℕ) (k : S → Walked S) (j : T → Walked T) → SameWalks k j → SameWalks (run_action step p a k) (run_action other p a j)
      unfolding run_action
      mapped_run p a k j same s has = rw (does a s has) (mapped_after p (step.does a s) (keeps a s has) (meet step k) (meet other j) (mapped_meet k j same))

      mutual
        unfolding walk stopped_at

        pub walks_same : (b : Sequence L) (k : S → Walked S) (j : T → Walked T) → SameWalks k j → SameWalks (walk step b k) (walk other b j)
        walks_same done k j same s has = same s has
        walks_same (item i rest) k j same s has = item_same i (walk step rest k) (walk other rest j) (walks_same rest k j same) s has

        item_same : (i : Item L) (k : S → Walked S) (j : T → Walked T) → SameWalks k j → SameWalks (walk_item step i k) (walk_item other i j)
        item_same (act p a) k j same s has = mapped_run p a k j same s has
        item_same (branching p bs) k j same s has = branches_same bs p k j same s has

        branches_same : (bs : Branches L) (p : ℕ) (k : S → Walked S) (j : T → Walked T) → SameWalks k j → SameWalks (walk_branch step bs p k) (walk_branch other bs p j)
        branches_same none p k j same s has = refl
        branches_same (branch c b bs) p k j same s has =
            rw (knows s, walks_same b k j same s has, branches_same bs p k j same s has, pick_map mapped_walk (each_of (step.knows s) c) (λ _. walk step b k s) (λ _. walk_branch step bs p k s))
