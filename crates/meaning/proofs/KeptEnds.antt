-- What is so of a walk's end: whatever is so of each miss in which what follows may end, of each refusal of a step, and of each branching that
-- can't be run, is so of the end of the whole walk. A walk ends in one of these, and so this goes by induction on the plan. Assumes nothing.
use Prim.Native.Nat.{ℕ}
use mathlib.Core.Path.{◌≡◌, refl, sym, subst}
use mathlib.Core.List.{List, []}
use mathlib.Core.Logic.{◌⊎◌, inl, inr}
use Rattle.meaning.specs.Limits
use Rattle.meaning.specs.Requests.{Table, Sequence, done, item, Item, act, branching, Branches, none, branch, Entry, Request}
use Rattle.meaning.specs.Refusals.{Found, nowhere, at}
use Rattle.meaning.specs.States.{State, known, Outcome, single, fork, outcome_to, outcome}
use Rattle.meaning.specs.Walk.{Concerned, no_state, in_state, End, fine, missed, stopped, Walked, stopped_at, counted, keep_miss, after_miss, after_end, and_then, each_reading, Step, leads_to, refuses, Steps, after_step, unless_broken, meet, run_action, walk, walk_item, walk_branch, table_does, table_step, first_missed, missed_in, end_of, judged, walked, guarded_step, walked_guarded}
use Rattle.meaning.specs.ByCases.{after_cases, cases_does}
use Rattle.meaning.proofs.RefusalLaws.{at≢nowhere}
use Rattle.meaning.proofs.PickLaws.{pick_has}

-- PLACES. Each item of a plan stands at such a place.
module _ {L : Type 0} (Place : ℕ → Type 0) where
  abbrev mutual
    pub OnPlaces : Sequence L → Type 0
    OnPlaces done = Unit {0}
    OnPlaces (item i rest) = OnPlacesItem i × OnPlaces rest

    pub OnPlacesItem : Item L → Type 0
    OnPlacesItem (act p a) = Place p
    OnPlacesItem (branching p bs) = Place p × OnPlacesBelow bs

    pub OnPlacesBelow : Branches L → Type 0
    OnPlacesBelow none = Unit {0}
    OnPlacesBelow (branch c b bs) = OnPlaces b × OnPlacesBelow bs

  module _ (always : (p : ℕ) → Place p) where
    mutual
      pub on_places : (b : Sequence L) → OnPlaces b
      on_places done = tt
      on_places (item i rest) = (on_places_item i, on_places rest)

      on_places_item : (i : Item L) → OnPlacesItem i
      on_places_item (act p a) = always p
      on_places_item (branching p bs) = (always p, on_places_below bs)

      on_places_below : (bs : Branches L) → OnPlacesBelow bs
      on_places_below none = tt
      on_places_below (branch c b bs) = (on_places b, on_places_below bs)

-- OUTCOMES. Each state of them.
module _ {S : Type 0} (P : S → Type 0) where
  abbrev pub OutcomeHas : Outcome S → Type 0
  OutcomeHas (single s) = P s
  OutcomeHas (fork o p) = OutcomeHas o × OutcomeHas (p tt)

pub any_outcome : {S : Type 0} (o : Outcome S) → OutcomeHas (λ _. Unit {0}) o
any_outcome (single s) = tt
any_outcome (fork o p) = (any_outcome o, any_outcome (p tt))

-- ENDS.
module _ {S : Type 0} (Miss : ℕ → S → Type 0) (Stop : ℕ → ℕ → Concerned S → Type 0) where
  abbrev pub EndSo : End S → Type 0
  EndSo fine = Unit {0}
  EndSo (missed p s) = Miss p s
  EndSo (stopped n p u) = Stop n p u

  keep_so : (p : ℕ) (s : S) → Miss p s → (e : End S) → EndSo e → EndSo (keep_miss p s e)
  unfolding keep_miss
  keep_so p s first fine then = first
  keep_so p s first (missed q t) then = first
  keep_so p s first (stopped n q u) then = then

  after_end_so : (e : End S) (c : ℕ) (more : Unit {0} → Walked S) → EndSo e → EndSo (more tt).end → EndSo (after_end e c more).end
  unfolding after_end counted after_miss
  after_end_so fine c more first then = then
  after_end_so (missed p s) c more first then = keep_so p s first (more tt).end then
  after_end_so (stopped n p u) c more first then = first

  -- THE WALK, from states that have P, where it ends so with what follows.
  module _ (P : S → Type 0) where
    abbrev pub EndsSo : (S → Walked S) → Type 0
    EndsSo k = (s : S) → P s → EndSo (k s).end

    each_so : (o : Outcome S) (k : S → Walked S) → EndsSo k → OutcomeHas P o → EndSo (each_reading o k).end
    unfolding each_reading and_then
    each_so (single s) k ends has = ends s has
    each_so (fork o p) k ends has =
        after_end_so (each_reading o k).end (each_reading o k).count (λ _. each_reading (p tt) k) (each_so o k ends has.0) (each_so (p tt) k ends has.1)

    -- What a step does at such a place: its outcome has P, or its refusal is such a stop.
    module _ (Place : ℕ → Type 0) where
      abbrev pub StepSo : Step S → Type 0
      StepSo (leads_to o) = OutcomeHas P o
      StepSo (refuses n u) = (p : ℕ) → Place p → Stop n p u

      step_so : (p : ℕ) → Place p → (x : Step S) → StepSo x → (k : S → Walked S) → EndsSo k → EndSo (after_step p x k).end
      unfolding after_step counted stopped_at
      step_so p here (leads_to o) so k ends = each_so o k ends so
      step_so p here (refuses n u) so k ends = so p here

      module _ {L : Type 0} (step : Steps S L)
          (does : (a : ℕ) (s : S) → P s → StepSo (step.does a s))
          (none_known : (s : S) → P s → (p : ℕ) → Place p → Stop Limits.not_executable p (in_state s))
          (breaks : (s : S) → P s → (p : ℕ) → step.lacks s ≡ at p → Stop Limits.guard_broken p (in_state s)) where
        -- A state that is met.
        pub meet_so : (k : S → Walked S) → EndsSo k → EndsSo (meet step k)
        unfolding stopped_at
        meet_so k ends s has = by_found (step.lacks s) refl
          where
            by_found : (f : Found) → step.lacks s ≡ f → EndSo (unless_broken f s (k s)).end
            by_found nowhere q = ends s has
            by_found (at p) q = breaks s has p q

        mutual
          unfolding walk run_action stopped_at

          pub walk_so : (b : Sequence L) → OnPlaces Place b → (k : S → Walked S) → EndsSo k → EndsSo (walk step b k)
          walk_so done on k ends s has = ends s has
          walk_so (item i rest) on k ends s has = item_so i on.0 (walk step rest k) (walk_so rest on.1 k ends) s has

          item_so : (i : Item L) → OnPlacesItem Place i → (k : S → Walked S) → EndsSo k → EndsSo (walk_item step i k)
          item_so (act p a) on k ends s has = step_so p on (step.does a s) (does a s has) (meet step k) (meet_so k ends)
          item_so (branching p bs) on k ends s has = branch_so bs p on.0 on.1 k ends s has

          branch_so : (bs : Branches L) (p : ℕ) → Place p → OnPlacesBelow Place bs → (k : S → Walked S) → EndsSo k → EndsSo (walk_branch step bs p k)
          branch_so none p here on k ends s has = none_known s has p here
          branch_so (branch c b bs) p here on k ends s has =
              pick_has (λ (w : Walked S). EndSo w.end) _ _ _ (λ _. walk_so b on.0 k ends s has) (λ _. branch_so bs p here on.1 k ends s has)

-- A WALK WITHOUT GUARDS is the plain walk.
pub walked_unguarded : (r : Request) (s : State) → walked_guarded r [] s ≡ walked r s
unfolding walked walked_guarded table_step guarded_step first_missed
walked_unguarded r s = refl

-- OF A REQUEST, whose table's step refuses with 2 and the state, and whose step by cases refuses so or with 44 and no state.
module _ (Miss : ℕ → State → Type 0) (Stop : ℕ → ℕ → Concerned State → Type 0) where
  pub end_of_so : (f : Found) (s : State) → ((p : ℕ) → f ≡ at p → Miss p s) → EndSo Miss Stop (end_of f s)
  unfolding end_of
  end_of_so nowhere s here = tt
  end_of_so (at p) s here = here p refl

  module _ (P : State → Type 0) (Place : ℕ → Type 0) (stuck : (s : State) → P s → (p : ℕ) → Place p → Stop Limits.not_executable p (in_state s)) where
    pub table_does_so : (t : Table) (a : ℕ) (s : State) → P s → OutcomeHas P (outcome t a s) → StepSo Miss Stop P Place (table_does t a s)
    unfolding table_does
    table_does_so t a s has leads = pick_has (StepSo Miss Stop P Place) _ _ _ (λ _. leads) (λ _. stuck s has)

    pub cases_does_so : ((p : ℕ) → Place p → Stop Limits.too_many_cases p no_state) → (t : Table) (a : ℕ) (s : State) → P s → OutcomeHas P (outcome_to t a s (after_cases t a s))
        → StepSo Miss Stop P Place (cases_does t a s)
    unfolding cases_does
    cases_does_so many t a s has leads =
        pick_has (StepSo Miss Stop P Place) _ _ _ (λ _. many) (λ _. pick_has (StepSo Miss Stop P Place) _ _ _ (λ _. leads) (λ _. stuck s has))

    -- By any step.
    pub judged_so : (step : Steps State ℕ) → ((a : ℕ) (s : State) → P s → StepSo Miss Stop P Place (step.does a s))
        → ((s : State) → P s → (p : ℕ) → step.lacks s ≡ at p → Stop Limits.guard_broken p (in_state s)) → (r : Request)
        → ((s : State) → P s → (p : ℕ) → missed_in r s ≡ at p → Miss p s) → OnPlaces Place r.plan → EndsSo Miss Stop P (walk step r.plan (judged r))
    unfolding judged
    judged_so step does breaks r misses on =
        walk_so Miss Stop P Place step does stuck breaks r.plan on (judged r) (λ s has. end_of_so (missed_in r s) s (misses s has))

    -- A state that lacks a guard is such a stop.
    pub walked_guarded_so : (r : Request) (gs : List Entry) → ((a : ℕ) (s : State) → P s → OutcomeHas P (outcome r.table a s))
        → ((s : State) → P s → (p : ℕ) → missed_in r s ≡ at p → Miss p s) → ((s : State) → P s → (p : ℕ) → first_missed (known s) gs ≡ at p → Stop Limits.guard_broken p (in_state s))
        → OnPlaces Place r.plan → EndsSo Miss Stop P (walked_guarded r gs)
    unfolding walked_guarded guarded_step
    walked_guarded_so r gs leads misses breaks on =
        let does : (a : ℕ) (s : State) → P s → StepSo Miss Stop P Place (table_does r.table a s) = λ a s has. table_does_so r.table a s has (leads a s has) in
        meet_so Miss Stop P Place (guarded_step r.table gs) does stuck breaks (walk (guarded_step r.table gs) r.plan (judged r))
        (judged_so (guarded_step r.table gs) does breaks r misses on)

    pub walked_so : (r : Request) → ((a : ℕ) (s : State) → P s → OutcomeHas P (outcome r.table a s)) → ((s : State) → P s → (p : ℕ) → missed_in r s ≡ at p → Miss p s)
        → OnPlaces Place r.plan → EndsSo Miss Stop P (walked r)
    unfolding first_missed
    walked_so r leads misses on s has =
        subst (λ (w : Walked State). EndSo Miss Stop w.end) (walked_unguarded r s) (walked_guarded_so r [] leads misses (λ _ _ p q. absurd (at≢nowhere (sym q))) on s has)

-- STOPS of a walk have the number 2, and the state in which the item can't be run.
abbrev pub Stuck : End State → Type 0
Stuck = EndSo (λ _ _. Unit {0}) (λ n p u. (n ≡ Limits.not_executable) × ((s : State) × (u ≡ in_state s)))

pub walked_stuck : (r : Request) (s : State) → Stuck (walked r s).end
walked_stuck r s =
    walked_so (λ _ _. Unit {0}) _ (λ _. Unit {0}) (λ _. Unit {0}) (λ s _ p _. (refl, (s, refl))) r (λ a s _. any_outcome (outcome r.table a s)) (λ s _ p _. tt)
    (on_places (λ _. Unit {0}) (λ _. tt) r.plan) s tt

-- Those of a walk with guards: an item that can't be run stops it with 2, and a state that lacks a guard with 43, at the first that it lacks.
module _ (gs : List Entry) where
  abbrev pub Sticks : ℕ → ℕ → State → Type 0
  Sticks n p s = (n ≡ Limits.not_executable) ⊎ ((n ≡ Limits.guard_broken) × (first_missed (known s) gs ≡ at p))

  abbrev pub GuardedStop : ℕ → ℕ → Concerned State → Type 0
  GuardedStop n p u = (s : State) × (u ≡ in_state s) × Sticks n p s

  abbrev pub StuckGuarded : End State → Type 0
  StuckGuarded = EndSo (λ _ _. Unit {0}) GuardedStop

  pub guarded_stuck : (r : Request) (s : State) → StuckGuarded (walked_guarded r gs s).end
  guarded_stuck r s =
      walked_guarded_so (λ _ _. Unit {0}) GuardedStop (λ _. Unit {0}) (λ _. Unit {0}) (λ s _ p _. (s, refl, inl refl)) r gs (λ a s _. any_outcome (outcome r.table a s)) (λ s _ p _. tt)
      (λ s _ p q. (s, refl, inr (refl, q))) (on_places (λ _. Unit {0}) (λ _. tt) r.plan) s tt
