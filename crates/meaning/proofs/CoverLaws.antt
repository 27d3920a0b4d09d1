-- The paths of a plan and an extended transition function: where a path ends, the function leads from the state's own pair; and wherever it
-- leads from a pair above, some path stops or ends below. Where this is so of each action, it is so of each plan, since more knowledge makes no second
-- condition true of those that exclude each other. Of the table's step it is so, since more knowledge runs no fewer actions and keeps the order.
-- Assumes nothing.
use Prim.Native.Nat.{ℕ, ◌*◌, ◌<◌}
use mathlib.Core.Path.{◌≡◌, refl, sym, ◌∙◌, ap}
use mathlib.Core.Bool.{true, false}
use mathlib.Core.List.{List, [], ◌∷◌}
use mathlib.Core.Logic.{◌⊎◌, inl, inr, ⊎_elim}
use lib.ListN.{length}
use Rattle.meaning.specs.Tests.{each_of, Has}
use Rattle.meaning.specs.Limits
use Rattle.meaning.specs.Literals.{exclusive}
use Rattle.meaning.specs.Requests.{Effect, Knowledge, Table, Sequence, done, item, Item, act, branching, Branches, none, branch}
use Rattle.meaning.specs.Refusals.{nowhere, conditions_of, all_exclusive}
use Rattle.meaning.specs.Lines.{sensing}
use Rattle.meaning.specs.States.{State, known, can_be_run, state_after, outcome_to, outcome}
use Rattle.meaning.specs.Walk.{in_state, Step, Steps, table_does, table_step, refuses}
use Rattle.meaning.specs.Paths.{Ending, arrives, stops, Path, first_ran, go_on, meetings, arrivals, paths_step, paths, paths_item, paths_branch}
use Rattle.meaning.specs.Approximation.{Pair, Disjoint, true_in, ◌≼◌, executable, sensing_action, Res, Result, failed, state, Results, Sensed, Φ, NoneTrue, extended, extended_item, extended_case, Φ̂, Φ̂_item}
use Rattle.meaning.specs.Reported.{pair_of}
use Rattle.meaning.proofs.TestLaws.{by-test, clash, both_left, both_right, either_right, each_mono}
use Rattle.meaning.proofs.PickLaws.{pick_has, has-picked}
use Rattle.meaning.proofs.SettledLaws.{Fit, FitItem, FitBranches}
use Rattle.meaning.proofs.EndLaws.{Ends, Stops, ends_one, ends_ran, went_on, stop_goes_on, arrives_on}
use Rattle.meaning.proofs.PairLaws.{not_both, true_grows, executable_grows, ResGrows, ResDisjoint, ≼_trans, true_test, sensing_pair, runs_pair, pair_after}
use Rattle.meaning.proofs.SensingLaws.{reading_is, reading_follows}
use Rattle.meaning.proofs.StateLaws.{after_length}
use Rattle.meaning.proofs.RefusalLaws.{exclusive_clash}

-- What an ending is in an approximation.
abbrev pub result_of : Ending State → Result
result_of (arrives u) = state (pair_of u)
result_of (stops n p u) = failed

-- Conditions true of a state's pair are those that it knows.
pub knows_pair : (s : State) (c : List ℕ) → each_of (true_in (pair_of s)) c ≡ each_of (known s) c
knows_pair s c = rw (true_test s)

-- BRANCHES.
pub knows_true : (s : State) (δ : Pair) → pair_of s ≼ δ → (c : List ℕ) → each_of (known s) c ≡ true → each_of (true_in δ) c ≡ true
knows_true s δ more c e = each_mono _ _ (true_grows more) c (knows_pair s c ∙ e)

-- Where one of the conditions is true, no other is.
pub others_false : (δ : Pair) → Disjoint δ → (c : List ℕ) → each_of (true_in δ) c ≡ true → (bs : Branches ℕ) → each_of (exclusive c) (conditions_of bs) ≡ true → NoneTrue bs δ
unfolding conditions_of each_of
others_false δ apart c holds none e = tt
others_false δ apart c holds (branch d b bs) e =
    (by-test _ (λ too. absurd (exclusive_clash (true_in δ) (true_in δ) (not_both δ apart) c d (both_left _ _ e) holds too)) (λ f. f), others_false δ apart c holds bs (both_right _ _ e))

-- Where none is true, none is chosen by a transition function, and none taken by a step.
pub none_chosen : (one : ℕ → Pair → Results) (bs : Branches ℕ) (δ : Pair) (x : Result) → NoneTrue bs δ → extended_case one bs δ x → ⊥
none_chosen one none δ x n h = h
none_chosen one (branch c b bs) δ x n (inl h) = clash h.0 n.0
none_chosen one (branch c b bs) δ x n (inr h) = none_chosen one bs δ x n.1 h

-- The step by what actions do: conditions are known as ever, and there are no guards.
abbrev pub step_by : (ℕ → State → Step State) → Steps State ℕ
step_by does = record { does = does; knows = known; lacks = λ _. nowhere }

pub none_taken : (does : ℕ → State → Step State) (bs : Branches ℕ) (p : ℕ) (s : State) (δ : Pair) → pair_of s ≼ δ → NoneTrue bs δ → Stops (paths_branch (step_by does) bs p s)
unfolding paths
none_taken does none p s δ more n = (Limits.not_executable, p, in_state s, inl refl)
none_taken does (branch c b bs) p s δ more n =
    pick_has Stops (each_of (known s) c) _ _ (λ k. clash (knows_true s δ more c k) n.0) (λ _. none_taken does bs p s δ more n.1)

-- COVERING, by states of a size.
module _ (size : ℕ) where
  abbrev pub Sized : Ending State → Type 0
  Sized (arrives u) = length u ≡ size
  Sized (stops n p u) = Unit {0}

  -- A state below a pair.
  pub record Below (u : State) (δ : Pair) : Type 0 where
    pub sized : length u ≡ size
    pub extends : pair_of u ≼ δ
    pub disjoint : Disjoint δ

  -- Some path stops, or ends below the result.
  abbrev pub Covered : List (Path State) → Result → Type 0
  Covered xs failed = Stops xs
  Covered xs (state δ) = Stops xs ⊎ ((u : State) × Ends xs (arrives u) × Below u δ)

  pub stops_cover : (xs : List (Path State)) → Stops xs → (x : Result) → Covered xs x
  stops_cover xs stop failed = stop
  stops_cover xs stop (state δ) = inl stop

  covers_on : (more : State → List (Path State)) (xs : List (Path State)) (u : State) → Ends xs (arrives u) → (x : Result) → Covered (more u) x → Covered (go_on xs more) x
  covers_on more xs u h failed w = (w.0, w.1, w.2, arrives_on more xs u _ h w.3)
  covers_on more xs u h (state δ) (inl w) = inl (w.0, w.1, w.2, arrives_on more xs u _ h w.3)
  covers_on more xs u h (state δ) (inr w) = inr (w.0, arrives_on more xs u _ h w.1, w.2)

  covers_then : (more : State → List (Path State)) (xs : List (Path State)) (σ : Pair) (x : Result) → Covered xs (state σ) → ((u : State) → Below u σ → Covered (more u) x) → Covered (go_on xs more) x
  covers_then more xs σ x (inl stop) go = stops_cover _ (stop_goes_on more xs stop) x
  covers_then more xs σ x (inr w) go = covers_on more xs w.0 w.1 x (go w.0 w.2)

-- ACTIONS AND A TRANSITION FUNCTION that go together: where a path of an action ends, the function leads, and wherever it leads from a pair above, some
-- path stops or ends below.
pub record Together (size : ℕ) (does : ℕ → State → Step State) (one : ℕ → Pair → Results) : Type 0 where
  pub reach : (p a : ℕ) (s : State) → length s ≡ size → (e : Ending State) → Ends (paths_item (step_by does) (act p a) s) e → one a (pair_of s) (result_of e) × Sized size e
  pub cover : (p a : ℕ) (s : State) (δ : Pair) → Below size s δ → (x : Result) → one a δ x → Covered size (paths_item (step_by does) (act p a) s) x

-- So do the plans of these actions and the function's extension.
module _ (size : ℕ) (does : ℕ → State → Step State) (one : ℕ → Pair → Results) (acts : Together size does one) where
  mutual
    unfolding paths

    -- Where a path ends, the extended transition function leads.
    pub plan_reaches : (p : Sequence ℕ) (s : State) → length s ≡ size → (e : Ending State) → Ends (paths (step_by does) p s) e → extended one p (pair_of s) (result_of e) × Sized size e
    plan_reaches done s sized e h = rw (ends_one h) (refl, sized)
    plan_reaches (item i rest) s sized e h =
        ⊎_elim
        (λ w. rw w.4 (inl ((item_reaches i s sized (stops w.0 w.1 w.2) w.3).0, refl), tt))
        (λ w.
        let here = item_reaches i s sized (arrives w.0) w.1 in
        let there = plan_reaches rest w.0 here.1 e w.2 in
        (inr (pair_of w.0, here.0, there.0), there.1))
        (went_on (paths (step_by does) rest) (paths_item (step_by does) i s) e h)

    pub item_reaches : (i : Item ℕ) (s : State) → length s ≡ size → (e : Ending State) → Ends (paths_item (step_by does) i s) e → extended_item one i (pair_of s) (result_of e) × Sized size e
    item_reaches (act p a) s sized e h = acts.reach p a s sized e h
    item_reaches (branching p bs) s sized e h = branch_reaches bs p s sized e h

    branch_reaches : (bs : Branches ℕ) (p : ℕ) (s : State) → length s ≡ size → (e : Ending State) → Ends (paths_branch (step_by does) bs p s) e → extended_item one (branching p bs) (pair_of s) (result_of e) × Sized size e
    branch_reaches none p s sized e h = rw (ends_one h) (inr (tt, refl), tt)
    branch_reaches (branch c b bs) p s sized e h =
        has-picked (λ xs. Ends xs e) (each_of (known s) c) _ _ h
        (λ k j. let w = plan_reaches b s sized e j in (inl (inl (knows_pair s c ∙ k, w.0)), w.1))
        (λ k j. let w = branch_reaches bs p s sized e j in (⊎_elim (λ x. inl (inr x)) (λ x. inr ((knows_pair s c ∙ k, x.0), x.1)) w.0, w.1))

  mutual
    unfolding paths conditions_of all_exclusive

    -- Wherever the extended transition function leads from a pair above a state, some path from the state stops, or ends below.
    pub plan_covers : (p : Sequence ℕ) → Fit p → (s : State) (δ : Pair) → Below size s δ → (x : Result) → extended one p δ x → Covered size (paths (step_by does) p s) x
    plan_covers done fits s δ below x h = rw h (inr (s, inl refl, below))
    plan_covers (item i rest) fits s δ below x h =
        let more = paths (step_by does) rest in
        let xs = paths_item (step_by does) i s in
        ⊎_elim
        (λ w. rw w.1 (stop_goes_on more xs (item_covers i fits.0 s δ below failed w.0)))
        (λ w. covers_then size more xs w.0 x (item_covers i fits.0 s δ below (state w.0) w.1) (λ u under. plan_covers rest fits.1 u w.0 under x w.2))
        h

    pub item_covers : (i : Item ℕ) → FitItem i → (s : State) (δ : Pair) → Below size s δ → (x : Result) → extended_item one i δ x → Covered size (paths_item (step_by does) i s) x
    item_covers (act p a) fits s δ below x h = acts.cover p a s δ below x h
    item_covers (branching p bs) fits s δ below x h = branch_covers bs p fits.0 fits.1 s δ below x h

    branch_covers : (bs : Branches ℕ) (p : ℕ) → all_exclusive (conditions_of bs) ≡ true → FitBranches bs → (s : State) (δ : Pair) → Below size s δ → (x : Result) → extended_item one (branching p bs) δ x → Covered size (paths_branch (step_by does) bs p s) x
    branch_covers none p apart fits s δ below x h = ⊎_elim absurd (λ w. rw w.1 (Limits.not_executable, p, in_state s, inl refl)) h
    branch_covers (branch c b bs) p apart fits s δ below x h =
        pick_has (λ xs. Covered size xs x) (each_of (known s) c) _ _
        (λ k. here (knows_true s δ below.extends c k) (λ w. plan_covers b fits.0 s δ below x w) h)
        (λ _. later (λ w. branch_covers bs p (both_right _ _ apart) fits.1 s δ below x w) h)
      where
        others : each_of (true_in δ) c ≡ true → NoneTrue bs δ
        others holds = others_false δ below.disjoint c holds bs (both_left _ _ apart)

        -- The condition is known in the state, so it is the one that is true.
        here : each_of (true_in δ) c ≡ true → (extended one b δ x → Covered size (paths (step_by does) b s) x) → extended_item one (branching p (branch c b bs)) δ x → Covered size (paths (step_by does) b s) x
        here holds go (inl (inl w)) = go w.1
        here holds go (inl (inr w)) = absurd (none_chosen one bs δ x (others holds) w)
        here holds go (inr w) = clash holds w.0.0

        -- It is not; if it is true above, no other is known, and the path stops.
        later : (extended_item one (branching p bs) δ x → Covered size (paths_branch (step_by does) bs p s) x) → extended_item one (branching p (branch c b bs)) δ x → Covered size (paths_branch (step_by does) bs p s) x
        later go (inl (inl w)) = stops_cover size _ (none_taken does bs p s δ below.extends (others w.0)) x
        later go (inl (inr w)) = go (inl w)
        later go (inr w) = go (inr (w.0.1, w.1))

-- WHAT AN ACTION LEADS TO, where one that does not sense leads to this state. The lines of the table are within states of a size.
module _ (t : Table) (size : ℕ) (knowledge_within : (k : Knowledge) → Has t.knowledge k → k.fluent < size) (a : ℕ) (s : State) (after : State) (after_sized : length after ≡ size) where
  abbrev after_action : List (Path State)
  after_action = first_ran (a ∷ []) (arrivals (outcome_to t a s after))

  pub outcome_reaches : length s ≡ size → (e : Ending State) → Ends after_action e
      → (u : State) × (e ≡ arrives u) × (length u ≡ size) × (((sensing_action t a ≡ false) × (u ≡ after)) ⊎ ((sensing_action t a ≡ true) × Sensed t a (pair_of s) (pair_of u)))
  unfolding meetings
  outcome_reaches sized e h =
      has-picked (λ o. Ends (arrivals o) e) (sensing t a) _ _ ((ends_ran (a ∷ []) (arrivals (outcome_to t a s after)) e).0 h)
      (λ senses k. let w = reading_is t a s (λ n m. rw sized (knowledge_within n m)) e k in (w.0, w.1, w.2 ∙ sized, inr (sensing_pair t a ∙ senses, w.3)))
      (λ no-sensing k. (after, ends_one k, after_sized, inl (sensing_pair t a ∙ no-sensing, refl)))

  pub outcome_covers : (δ : Pair) → Below size s δ → (ε : Pair) → ((sensing_action t a ≡ false) × (pair_of after ≼ ε) × Disjoint ε) ⊎ ((sensing_action t a ≡ true) × Sensed t a δ ε)
      → (u : State) × Ends after_action (arrives u) × Below size u ε
  unfolding meetings
  outcome_covers δ below ε (inl w) = (
    after,
    (ends_ran (a ∷ []) (arrivals (outcome_to t a s after)) _).1
        (pick_has (λ o. Ends (arrivals o) (arrives after)) (sensing t a) _ _ (λ y. clash y (sym (sensing_pair t a) ∙ w.0)) (λ _. inl refl)),
    record { sized = after_sized; extends = w.1; disjoint = w.2 },
  )
  outcome_covers δ below ε (inr w) =
      let v = reading_follows t a s (λ n m. rw below.sized (knowledge_within n m)) ε (≼_trans below.extends w.1.extends) (λ f e. w.1.domain f ∙ either_right _ _ e) in (
        v.0,
        (ends_ran (a ∷ []) (arrivals (outcome_to t a s after)) _).1
            (pick_has (λ o. Ends (arrivals o) (arrives v.0)) (sensing t a) _ _ (λ _. v.1) (λ y. clash (sym (sensing_pair t a) ∙ w.0) y)),
        record { sized = v.2 ∙ below.sized; extends = v.3; disjoint = w.1.disjoint },
      )

-- THE TABLE'S STEP and the 0-transition function.
module _ (t : Table) (size : ℕ) (effects_within : (e : Effect) → Has t.effects e → e.literal < 2 * size) (knowledge_within : (k : Knowledge) → Has t.knowledge k → k.fluent < size) where
  pub reaches_act : (p a : ℕ) (s : State) → length s ≡ size → (e : Ending State) → Ends (paths_item (table_step t) (act p a) s) e → Φ t a (pair_of s) (result_of e) × Sized size e
  unfolding paths paths_step table_step table_does outcome
  reaches_act p a s sized e h =
      has-picked (λ (x : Step State). Ends (paths_step (λ _. nowhere) p a x) e) (can_be_run t a s) _ _ h ran (λ stuck k. rw (ends_one k) (runs_pair t a s ∙ stuck, tt))
    where
      ran : can_be_run t a s ≡ true → Ends (first_ran (a ∷ []) (arrivals (outcome t a s))) e → Φ t a (pair_of s) (result_of e) × Sized size e
      ran runs k =
          let w = outcome_reaches t size knowledge_within a s (state_after t a s) (after_length t a s ∙ sized) sized e k in
          rw w.1
          ((runs_pair t a s ∙ runs, ⊎_elim (λ m. inl (m.0, ap pair_of m.1 ∙ pair_after t a s (λ n i. rw sized (effects_within n i)))) inr w.3), w.2)

  pub covers_act : (p a : ℕ) (s : State) (δ : Pair) → Below size s δ → (x : Result) → Φ t a δ x → Covered size (paths_item (table_step t) (act p a) s) x
  unfolding paths paths_step table_step table_does outcome
  covers_act p a s δ below x h =
      pick_has (λ (y : Step State). Covered size (paths_step (λ _. nowhere) p a y) x) (can_be_run t a s) _ _
      (λ runs. ran (executable_grows t a below.extends (runs_pair t a s ∙ runs)) x h)
      (λ stuck. stops_cover size (paths_step (λ _. nowhere) p a (refuses Limits.not_executable (in_state s))) (Limits.not_executable, p, in_state s, inl refl) x)
    where
      moved : (ε : Pair) → ε ≡ Res t a δ → (pair_of (state_after t a s) ≼ ε) × Disjoint ε
      moved ε is = rw (is, pair_after t a s (λ n m. rw below.sized (effects_within n m))) (ResGrows t a below.extends, ResDisjoint t a δ below.disjoint)

      ran : executable t a δ ≡ true → (x : Result) → Φ t a δ x → Covered size (first_ran (a ∷ []) (arrivals (outcome t a s))) x
      ran runs failed h = clash runs h
      ran runs (state ε) h =
          inr (outcome_covers t size knowledge_within a s (state_after t a s) (after_length t a s ∙ below.sized) δ below ε (⊎_elim (λ w. let m = moved ε w.1 in inl (w.0, m.0, m.1)) inr h.1))

  pub together : Together size (table_does t) (Φ t)
  unfolding table_step
  together = record { reach = reaches_act; cover = covers_act }

  pub reaches : (p : Sequence ℕ) (s : State) → length s ≡ size → (e : Ending State) → Ends (paths (table_step t) p s) e → Φ̂ t p (pair_of s) (result_of e) × Sized size e
  unfolding table_step
  reaches = plan_reaches size (table_does t) (Φ t) together

  pub reaches_item : (i : Item ℕ) (s : State) → length s ≡ size → (e : Ending State) → Ends (paths_item (table_step t) i s) e → Φ̂_item t i (pair_of s) (result_of e) × Sized size e
  unfolding table_step
  reaches_item = item_reaches size (table_does t) (Φ t) together

  pub covers : (p : Sequence ℕ) → Fit p → (s : State) (δ : Pair) → Below size s δ → (x : Result) → Φ̂ t p δ x → Covered size (paths (table_step t) p s) x
  unfolding table_step
  covers = plan_covers size (table_does t) (Φ t) together

  pub covers_item : (i : Item ℕ) → FitItem i → (s : State) (δ : Pair) → Below size s δ → (x : Result) → Φ̂_item t i δ x → Covered size (paths_item (table_step t) i s) x
  unfolding table_step
  covers_item = item_covers size (table_does t) (Φ t) together
