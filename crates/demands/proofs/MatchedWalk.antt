-- Requests that are the same once every place is left out, over structures of literals that agree, are refused by 16, 17 and 18 alike and walked alike: to the same count and to the same
-- end, its place aside. By induction over the two plans; what follows an item is carried through as such a pair of walks. Assumes nothing.
use Prim.Native.Nat.{ℕ}
use mathlib.Core.Path.{◌≡◌, refl, sym, ◌∙◌, ap, ap₂, fun_ext}
use mathlib.Core.Bool.{Bool, true, false}
use mathlib.Core.List.{List, [], ◌∷◌}
use lib.Dec.{eqb}
use Rattle.meaning.specs.Tests.{both, fails, pick, some_of, each_of}
use Rattle.meaning.specs.Requests.{Effect, Knowledge, Table, Sequence, done, item, Item, act, branching, Branches, none, branch, EntryOver, RequestOver, values}
use Rattle.meaning.specs.Refusals.{Found, nowhere, at, or_else, first_against, mixed_in, conditions_of, failing_in, failing_at, failing_below}
use Rattle.meaning.specs.States.{State}
use Rattle.meaning.specs.Walk.{Walked, Steps, run_action, walk, walk_item, walk_branch, first_missed, end_of}
use Rattle.meaning.specs.Values.{Literals, contradictory, all_exclusive}
use Rattle.meaning.specs.ValueStates.{known, known_whether, table_step, missed_in, judged, walked}
use Rattle.demands.specs.Matching.{Pairwise, SameKnowledgeLine, SameEffectLine, SameTable, SameItems, SameItem, SameBranches, SameRequest}
use Rattle.meaning.proofs.TestLaws.{pick_map}
use Rattle.meaning.proofs.RefusalLaws.{unplaced_found, found_if, unplaced_or_else, unplaced_17}
use Rattle.meaning.proofs.WalkLaws.{unplaced_end, unplaced_walk, unplaced_stopped, unplaced_run}
use Rattle.demands.proofs.MatchedStates.{some_same, each_same, Agreeing, known_same, known_whether_same, table_does_same, contradictory_same, all_exclusive_same}

-- THE WALK, by steps that do the same and know the same of literals that are the same, and where no state lacks a guard.
module _ {S L M : Type 0} (Same Sets : L → M → Type 0) (step : Steps S L) (other : Steps S M) (free : step.lacks ≡ (λ _. nowhere)) (other-free : other.lacks ≡ (λ _. nowhere))
    (does : (a : ℕ) (s : S) → step.does a s ≡ other.does a s) (knows : (s : S) (l : L) (m : M) → Same l m → step.knows s l ≡ other.knows s m) where
  -- What follows is walked alike.
  abbrev Alike : (k j : S → Walked S) → Type 0
  Alike k j = (s : S) → unplaced_walk (k s) ≡ unplaced_walk (j s)

  run_same : (a b : ℕ) → a ≡ b → (k j : S → Walked S) → k ≡ j → (s : S) → run_action step 0 a k s ≡ run_action other 0 b j s
  unfolding run_action
  run_same a b same k j alike s = rw (free, other-free, does a s, same, alike)

  run_alike : (p q a b : ℕ) → a ≡ b → (k j : S → Walked S) → Alike k j → Alike (run_action step p a k) (run_action other q b j)
  run_alike p q a b same k j alike s = unplaced_run step free p a k s ∙ run_same a b same (λ t. unplaced_walk (k t)) (λ t. unplaced_walk (j t)) (fun_ext alike) s ∙ sym (unplaced_run other other-free q b j s)

  mutual
    unfolding walk

    pub walk_alike : (b : Sequence L) (c : Sequence M) → SameItems Same Sets b c → (k j : S → Walked S) → Alike k j → Alike (walk step b k) (walk other c j)
    walk_alike done done h k j alike s = alike s
    walk_alike done (item i more) h k j alike s = absurd h
    walk_alike (item i rest) done h k j alike s = absurd h
    walk_alike (item i rest) (item g more) h k j alike s = item_alike i g h.0 (walk step rest k) (walk other more j) (walk_alike rest more h.1 k j alike) s

    item_alike : (i : Item L) (g : Item M) → SameItem Same Sets i g → (k j : S → Walked S) → Alike k j → Alike (walk_item step i k) (walk_item other g j)
    item_alike (act p a) (act q b) h k j alike s = run_alike p q a b h k j alike s
    item_alike (act p a) (branching q cs) h k j alike s = absurd h
    item_alike (branching p bs) (act q b) h k j alike s = absurd h
    item_alike (branching p bs) (branching q cs) h k j alike s = branch_alike bs cs h p q k j alike s

    branch_alike : (bs : Branches L) (cs : Branches M) → SameBranches Same Sets bs cs → (p q : ℕ) (k j : S → Walked S) → Alike k j → Alike (walk_branch step bs p k) (walk_branch other cs q j)
    branch_alike none none h p q k j alike s = unplaced_stopped _ p _ ∙ sym (unplaced_stopped _ q _)
    branch_alike none (branch d g cs) h p q k j alike s = absurd h
    branch_alike (branch c b bs) none h p q k j alike s = absurd h
    branch_alike (branch c b bs) (branch d g cs) h p q k j alike s =
        pick_map unplaced_walk (each_of (step.knows s) c) _ _
        ∙ rw (each_same Same (step.knows s) (other.knows s) (knows s) c d h.0, walk_alike b g h.1 k j alike s, branch_alike bs cs h.2 p q k j alike s)
        (sym (pick_map unplaced_walk (each_of (other.knows s) d) _ _))

-- AN END STATE misses an entry or not by the values of the entries.
missed_if : {A : Type 0} (test : A → Bool) (es : List (EntryOver A)) → unplaced_found (first_missed test es) ≡ found_if (fails (each_of test (values es)))
unfolding first_missed each_of values pick both fails
missed_if test [] = refl
missed_if test (e ∷ es) = go (test e.value) (missed_if test es)
  where
    go : (b : Bool) → unplaced_found (first_missed test es) ≡ found_if (fails (each_of test (values es)))
        → unplaced_found (pick b (λ _. first_missed test es) (λ _. at e.place)) ≡ found_if (fails (both b (each_of test (values es))))
    go true ih = ih
    go false ih = refl

unplaced_end_of : (f : Found) (s : State) → unplaced_end (end_of f s) ≡ end_of (unplaced_found f) s
unfolding end_of
unplaced_end_of nowhere s = refl
unplaced_end_of (at p) s = refl

module _ {L M : Type 0} (ls : Literals L) (ms : Literals M) (Same Sets : L → M → Type 0) (agree : Agreeing ls ms Same Sets) (x : RequestOver L) (y : RequestOver M) (same : SameRequest Same Sets x y) where
  goals_alike : (s : State) → unplaced_found (first_missed (known ls s) x.goals) ≡ unplaced_found (first_missed (known ms s) y.goals)
  goals_alike s =
      missed_if (known ls s) x.goals
      ∙ ap (λ (b : Bool). found_if (fails b)) (each_same Same (known ls s) (known ms s) (known_same ls ms Same Sets agree s) (values x.goals) (values y.goals) same.goals)
      ∙ sym (missed_if (known ms s) y.goals)

  whether_alike : (s : State) → unplaced_found (first_missed (known_whether ls s) x.whether) ≡ unplaced_found (first_missed (known_whether ms s) y.whether)
  whether_alike s =
      missed_if (known_whether ls s) x.whether
      ∙ ap₂ (λ (test : ℕ → Bool) (fs : List ℕ). found_if (fails (each_of test fs))) (fun_ext (known_whether_same ls ms Same Sets agree s)) same.whether
      ∙ sym (missed_if (known_whether ms s) y.whether)

  missed_alike : (s : State) → unplaced_found (missed_in ls x s) ≡ unplaced_found (missed_in ms y s)
  unfolding missed_in
  missed_alike s =
      unplaced_or_else (first_missed (known ls s) x.goals) (λ _. first_missed (known_whether ls s) x.whether)
      ∙ ap₂ (λ (f g : Found). or_else f (λ _. g)) (goals_alike s) (whether_alike s)
      ∙ sym (unplaced_or_else (first_missed (known ms s) y.goals) (λ _. first_missed (known_whether ms s) y.whether))

  judged_alike : (s : State) → unplaced_walk (judged ls x s) ≡ unplaced_walk (judged ms y s)
  unfolding judged
  judged_alike s =
      ap (λ e. record { count = 1; end = e }) (unplaced_end_of (missed_in ls x s) s ∙ ap (λ (f : Found). end_of f s) (missed_alike s) ∙ sym (unplaced_end_of (missed_in ms y s) s))

  -- They are walked alike.
  pub walked_alike : (s : State) → unplaced_walk (walked ls x s) ≡ unplaced_walk (walked ms y s)
  unfolding walked table_step
  walked_alike s =
      walk_alike Same Sets (table_step ls x.table) (table_step ms y.table) refl refl (table_does_same ls ms Same Sets agree x.table y.table same.table) (known_same ls ms Same Sets agree)
      x.plan y.plan same.plan (judged ls x) (judged ms y) judged_alike s

-- 18: a branching fails the one test where its fellow fails the other.
module _ {L M : Type 0} (Same Sets : L → M → Type 0) (test : List (List L) → Bool) (trial : List (List M) → Bool)
    (tests : (bs : List (List L)) (cs : List (List M)) → Pairwise (Pairwise Same) bs cs → test bs ≡ trial cs) where
  conditions_same : (bs : Branches L) (cs : Branches M) → SameBranches Same Sets bs cs → Pairwise (Pairwise Same) (conditions_of bs) (conditions_of cs)
  unfolding conditions_of
  conditions_same none none h = tt
  conditions_same none (branch d g cs) h = absurd h
  conditions_same (branch c b bs) none h = absurd h
  conditions_same (branch c b bs) (branch d g cs) h = (h.0, conditions_same bs cs h.2)

  mutual
    unfolding failing_in failing_at failing_below

    pub failing_alike : (b : Sequence L) (c : Sequence M) → SameItems Same Sets b c → unplaced_found (failing_in test b) ≡ unplaced_found (failing_in trial c)
    failing_alike done done h = refl
    failing_alike done (item j more) h = absurd h
    failing_alike (item i rest) done h = absurd h
    failing_alike (item i rest) (item j more) h =
        unplaced_or_else _ _ ∙ rw (failing_item_alike i j h.0, failing_alike rest more h.1) (sym (unplaced_or_else (failing_at trial j) (λ _. failing_in trial more)))

    failing_item_alike : (i : Item L) (j : Item M) → SameItem Same Sets i j → unplaced_found (failing_at test i) ≡ unplaced_found (failing_at trial j)
    failing_item_alike (act p a) (act q b) h = refl
    failing_item_alike (act p a) (branching q cs) h = absurd h
    failing_item_alike (branching p bs) (act q b) h = absurd h
    failing_item_alike (branching p bs) (branching q cs) h =
        pick_map unplaced_found _ _ _ ∙ rw (tests (conditions_of bs) (conditions_of cs) (conditions_same bs cs h), failing_below_alike bs cs h)
        (sym (pick_map unplaced_found (trial (conditions_of cs)) (λ _. failing_below trial cs) (λ _. at q)))

    failing_below_alike : (bs : Branches L) (cs : Branches M) → SameBranches Same Sets bs cs → unplaced_found (failing_below test bs) ≡ unplaced_found (failing_below trial cs)
    failing_below_alike none none h = refl
    failing_below_alike none (branch d g cs) h = absurd h
    failing_below_alike (branch c b bs) none h = absurd h
    failing_below_alike (branch c b bs) (branch d g cs) h =
        unplaced_or_else _ _ ∙ rw (failing_alike b g h.1, failing_below_alike bs cs h.2) (sym (unplaced_or_else (failing_in trial g) (λ _. failing_below trial cs)))

-- 16 and 17.
module _ (Same Sets : ℕ → ℕ → Type 0) where
  against_alike : (against contrary : Effect → Effect → Bool)
      → ((e g i j : Effect) → SameEffectLine Same Sets e i → SameEffectLine Same Sets g j → against e g ≡ contrary i j)
      → (before formerly es gs : List Effect) → Pairwise (SameEffectLine Same Sets) before formerly → Pairwise (SameEffectLine Same Sets) es gs
      → unplaced_found (first_against against before es) ≡ unplaced_found (first_against contrary formerly gs)
  unfolding first_against
  against_alike against contrary tests before formerly [] [] h k = refl
  against_alike against contrary tests before formerly [] (g ∷ gs) h k = absurd k
  against_alike against contrary tests before formerly (e ∷ es) [] h k = absurd k
  against_alike against contrary tests before formerly (e ∷ es) (g ∷ gs) h k =
      pick_map unplaced_found _ _ _
      ∙ rw (
        some_same (SameEffectLine Same Sets) (against e) (contrary g) (λ i j one. tests e i g j k.0 one) before formerly h,
        against_alike against contrary tests (e ∷ before) (g ∷ formerly) es gs (k.0, h) k.1,
      )
      (sym (pick_map unplaced_found (some_of (contrary g) formerly) (λ _. at g.place) (λ _. first_against contrary (g ∷ formerly) gs)))

  pub mixed_alike : (es gs : List Effect) (ks js : List Knowledge) → Pairwise (SameEffectLine Same Sets) es gs → Pairwise SameKnowledgeLine ks js → unplaced_found (mixed_in es ks) ≡ unplaced_found (mixed_in gs js)
  mixed_alike es gs ks js h k =
      unplaced_17 es ks
      ∙ ap found_if
      (some_same SameKnowledgeLine _ _ (λ i j one. some_same (SameEffectLine Same Sets) _ _ (λ e g both. ap₂ eqb both.action one.action) es gs h) ks js k)
      ∙ sym (unplaced_17 gs js)

  module _ (ls ms : Literals ℕ) (agree : Agreeing ls ms Same Sets) where
    pub contradiction_alike : (t u : Table) → SameTable Same Sets t u
        → unplaced_found (first_against (contradictory ls t) [] t.effects) ≡ unplaced_found (first_against (contradictory ms u) [] u.effects)
    contradiction_alike t u same = against_alike (contradictory ls t) (contradictory ms u) (contradictory_same ls ms Same Sets agree t u same) [] [] t.effects u.effects tt same.effects

    pub overlap_alike : (b c : Sequence ℕ) → SameItems Same Sets b c → unplaced_found (failing_in (all_exclusive ls) b) ≡ unplaced_found (failing_in (all_exclusive ms) c)
    overlap_alike = failing_alike Same Sets (all_exclusive ls) (all_exclusive ms) (all_exclusive_same ls ms Same Sets agree)
