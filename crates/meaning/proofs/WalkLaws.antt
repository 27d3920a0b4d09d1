-- Laws of the walk over any step: it asks of a step only the plan's own actions; and places only
-- show in the place of its end. Assumes nothing.
use Prim.Native.Nat.{ℕ}
use mathlib.Core.Path.{◌≡◌, refl, ◌∙◌, ap, fun_ext}
use mathlib.Core.List.{List}
use Rattle.meaning.specs.Tests.{each_of}
use Rattle.meaning.specs.Requests.{Sequence, done, item, Item, act, branching, Branches, none, branch, unplaced, unplaced_item, unplaced_branches}
use Rattle.meaning.specs.Refusals.{nowhere, conditions_of}
use Rattle.meaning.specs.States.{Outcome, single, fork}
use Rattle.meaning.specs.Walk.{Concerned, End, fine, missed, stopped, Walked, stopped_at, counted, keep_miss, after_miss, after_end, and_then, each_reading, Step, leads_to, refuses, Steps, after_step, run_action, walk, walk_item, walk_branch}
use Rattle.meaning.specs.SameLines.{OnActions, OnItem, OnBranches}
use Rattle.meaning.proofs.TestLaws.{pick_map}

-- What holds of every action holds of each in a plan.
module _ {L : Type 0} (P : ℕ → Type 0) (always : (a : ℕ) → P a) where
  mutual
    pub on_actions : (p : Sequence L) → OnActions P p
    on_actions done = tt
    on_actions (item i rest) = (on_item i, on_actions rest)

    pub on_item : (i : Item L) → OnItem P i
    on_item (act p a) = always a
    on_item (branching p bs) = on_branches bs

    pub on_branches : (bs : Branches L) → OnBranches P bs
    on_branches none = tt
    on_branches (branch c b bs) = (on_actions b, on_branches bs)

module _ {L : Type 0} {P Q : ℕ → Type 0} (h : (a : ℕ) → P a → Q a) where
  mutual
    pub map_actions : (p : Sequence L) → OnActions P p → OnActions Q p
    map_actions done o = tt
    map_actions (item i rest) o = (map_item i o.0, map_actions rest o.1)

    map_item : (i : Item L) → OnItem P i → OnItem Q i
    map_item (act p a) o = h a o
    map_item (branching p bs) o = map_branches bs o

    map_branches : (bs : Branches L) → OnBranches P bs → OnBranches Q bs
    map_branches none o = tt
    map_branches (branch c b bs) o = (map_actions b o.0, map_branches bs o.1)

-- Something holds of the conditions of each branching in a plan.
module _ {L : Type 0} (Q : List (List L) → Type 0) where
  abbrev mutual
    pub OnConditions : Sequence L → Type 0
    OnConditions done = Unit {0}
    OnConditions (item i rest) = OnConditionsItem i × OnConditions rest

    pub OnConditionsItem : Item L → Type 0
    OnConditionsItem (act p a) = Unit {0}
    OnConditionsItem (branching p bs) = Q (conditions_of bs) × OnConditionsBelow bs

    pub OnConditionsBelow : Branches L → Type 0
    OnConditionsBelow none = Unit {0}
    OnConditionsBelow (branch c b bs) = OnConditions b × OnConditionsBelow bs

-- Two steps agree on an action.
pub record Agree {S L : Type 0} (step other : Steps S L) (a : ℕ) : Type 0 where
  pub does : (s : S) → step.does a s ≡ other.does a s

module _ {S L : Type 0} (step other : Steps S L) (knows : step.knows ≡ other.knows) (lacks : step.lacks ≡ other.lacks) where
  run_agrees : (p a : ℕ) → Agree step other a → (k : S → Walked S) (s : S) → run_action step p a k s ≡ run_action other p a k s
  unfolding run_action
  run_agrees p a same k s = rw (same.does s, lacks)

  mutual
    unfolding walk

    -- Steps that agree on the plan's actions walk it alike.
    pub walk_agrees : (p : Sequence L) → OnActions (Agree step other) p → (k : S → Walked S) (s : S) → walk step p k s ≡ walk other p k s
    walk_agrees done same k s = refl
    walk_agrees (item i rest) same k s =
        item_agrees i same.0 (walk step rest k) s ∙ ap (λ (j : S → Walked S). walk_item other i j s) (fun_ext (walk_agrees rest same.1 k))

    item_agrees : (i : Item L) → OnItem (Agree step other) i → (k : S → Walked S) (s : S) → walk_item step i k s ≡ walk_item other i k s
    item_agrees (act p a) same k s = run_agrees p a same k s
    item_agrees (branching p bs) same k s = branches_agree bs same p k s

    branches_agree : (bs : Branches L) → OnBranches (Agree step other) bs → (p : ℕ) (k : S → Walked S) (s : S) → walk_branch step bs p k s ≡ walk_branch other bs p k s
    branches_agree none same p k s = refl
    branches_agree (branch c b bs) same p k s = rw (knows, walk_agrees b same.0 k s, branches_agree bs same.1 p k s)

-- PLACES. An end and a walk with every place taken as 0, as `unplaced` has it of a plan.
module _ {S : Type 0} where
  abbrev pub unplaced_end : End S → End S
  unplaced_end fine = fine
  unplaced_end (missed p s) = missed 0 s
  unplaced_end (stopped n p u) = stopped n 0 u

  abbrev pub unplaced_walk : Walked S → Walked S
  unplaced_walk w = record { count = w.count; end = unplaced_end w.end }

  pub unplaced_stopped : (n p : ℕ) (u : Concerned S) → unplaced_walk (stopped_at n p u) ≡ stopped_at n 0 u
  unfolding stopped_at
  unplaced_stopped n p u = refl

  unplaced_then : (w : Walked S) (more : Unit {0} → Walked S) → unplaced_walk (and_then w more) ≡ and_then (unplaced_walk w) (λ _. unplaced_walk (more tt))
  unfolding and_then after_end counted after_miss keep_miss
  unplaced_then w more = by_end w.end
    where
      kept : (p : ℕ) (s : S) (e : End S) → unplaced_end (keep_miss p s e) ≡ keep_miss 0 s (unplaced_end e)
      kept p s fine = refl
      kept p s (missed q t) = refl
      kept p s (stopped n q u) = refl

      by_end : (e : End S) → unplaced_walk (after_end e w.count more) ≡ after_end (unplaced_end e) w.count (λ _. unplaced_walk (more tt))
      by_end fine = refl
      by_end (missed p s) = ap (λ (e : End S). counted w.count (record { count = (more tt).count; end = e })) (kept p s (more tt).end)
      by_end (stopped n p u) = refl

  unplaced_readings : (o : Outcome S) (k : S → Walked S) → unplaced_walk (each_reading o k) ≡ each_reading o (λ s. unplaced_walk (k s))
  unfolding each_reading
  unplaced_readings (single s) k = refl
  unplaced_readings (fork o p) k =
      unplaced_then (each_reading o k) (λ _. each_reading (p tt) k) ∙ rw (unplaced_readings o k, unplaced_readings (p tt) k)

  unplaced_step : (p : ℕ) (x : Step S) (k : S → Walked S) → unplaced_walk (after_step p x k) ≡ after_step 0 x (λ s. unplaced_walk (k s))
  unfolding after_step counted
  unplaced_step p (leads_to o) k = ap (counted 1) (unplaced_readings o k)
  unplaced_step p (refuses n u) k = unplaced_stopped n p u

-- Where no state lacks a guard.
module _ {S L : Type 0} (step : Steps S L) (free : step.lacks ≡ (λ _. nowhere)) where
  pub unplaced_run : (p a : ℕ) (k : S → Walked S) (s : S) → unplaced_walk (run_action step p a k s) ≡ run_action step 0 a (λ t. unplaced_walk (k t)) s
  unfolding run_action
  unplaced_run p a k s = rw free (unplaced_step p (step.does a s) k)

  mutual
    unfolding walk

    -- A plan without its places is walked to the same count and the same end, its place aside.
    pub walk_unplaced : (p : Sequence L) (k : S → Walked S) (s : S) → unplaced_walk (walk step p k s) ≡ walk step (unplaced p) (λ t. unplaced_walk (k t)) s
    walk_unplaced done k s = refl
    walk_unplaced (item i rest) k s =
        item_unplaced i (walk step rest k) s ∙ ap (λ (j : S → Walked S). walk_item step (unplaced_item i) j s) (fun_ext (walk_unplaced rest k))

    item_unplaced : (i : Item L) (k : S → Walked S) (s : S) → unplaced_walk (walk_item step i k s) ≡ walk_item step (unplaced_item i) (λ t. unplaced_walk (k t)) s
    item_unplaced (act p a) k s = unplaced_run p a k s
    item_unplaced (branching p bs) k s = branches_unplaced bs p k s

    branches_unplaced : (bs : Branches L) (p : ℕ) (k : S → Walked S) (s : S) → unplaced_walk (walk_branch step bs p k s) ≡ walk_branch step (unplaced_branches bs) 0 (λ t. unplaced_walk (k t)) s
    branches_unplaced none p k s = unplaced_stopped _ p _
    branches_unplaced (branch c b bs) p k s =
        pick_map unplaced_walk (each_of (step.knows s) c) _ _ ∙ rw (walk_unplaced b k s, branches_unplaced bs p k s)
