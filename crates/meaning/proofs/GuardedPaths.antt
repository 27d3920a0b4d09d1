-- The paths of a plan with guards against those without: a path without guards ends so with them, unless a path with guards stops; and a path with guards
-- ends so without them, unless it stops in a state that lacks a guard. By induction on the plan. Assumes nothing.
use Prim.Native.Nat.{ℕ}
use native.Mathlib.Omega.{arith}
use mathlib.Core.Path.{◌≡◌, refl, sym, ◌∙◌, ap, subst}
use mathlib.Core.List.{List, [], ◌∷◌, ◌++◌}
use mathlib.Core.Logic.{◌⊎◌, inl, inr, ⊎_elim}
use Rattle.meaning.specs.Tests.{each_of}
use Rattle.meaning.specs.Limits
use Rattle.meaning.specs.Requests.{Table, Sequence, done, item, Item, act, branching, Branches, none, branch, Entry}
use Rattle.meaning.specs.Refusals.{Found, nowhere, at}
use Rattle.meaning.specs.States.{State, known, Outcome, single, fork}
use Rattle.meaning.specs.Walk.{Concerned, in_state, Step, leads_to, refuses, table_does, table_step, first_missed, guarded_step}
use Rattle.meaning.specs.Paths.{Ending, arrives, stops, Path, met_ending, meetings, arrivals, paths_step, paths, paths_item, paths_branch, paths_met}
use Rattle.meaning.proofs.TestLaws.{pick_true, pick_false}
use Rattle.meaning.proofs.PickLaws.{has-picked}
use Rattle.meaning.proofs.PathLaws.{by_found}
use Rattle.meaning.proofs.EndLaws.{Ends, Stops, arrives≢stops, arrives_same, ends_one, ends_left, ends_right, ends_split, ends_ran, went_on, stops_on, stop_goes_on, arrives_on}

pub broken≢stuck : {p q : ℕ} {u v : Concerned State} → stops Limits.not_executable p u ≡ stops Limits.guard_broken q v → ⊥
broken≢stuck e = omega (arith, ap numbered e)
  where
    numbered : Ending State → ℕ
    numbered (arrives s) = 0
    numbered (stops n p u) = n

-- A step is not refused with 43.
abbrev pub NeverBroken : Step State → Type 0
NeverBroken (leads_to o) = Unit {0}
NeverBroken (refuses n u) = n ≡ Limits.guard_broken → ⊥

module _ (t : Table) (gs : List Entry) where
  abbrev pub lacks : State → Found
  lacks u = first_missed (known u) gs

  -- WITH GUARDS. A path that ends so without them ends so with them, or some path stops there.
  abbrev pub Still : List (Path State) → Ending State → Type 0
  Still xs e = Stops xs ⊎ Ends xs e

  one_met : (f : Found) (s : State) (e : Ending State) → e ≡ arrives s → Still (record { ran = []; ending = met_ending f s } ∷ []) e
  one_met nowhere s e q = inr (inl q)
  one_met (at p) s e q = inl (Limits.guard_broken, p, in_state s, inl refl)

  still_left : (xs ys : List (Path State)) (e : Ending State) → Still xs e → Still (xs ++ ys) e
  still_left xs ys e (inl w) = inl (w.0, w.1, w.2, ends_left xs ys _ w.3)
  still_left xs ys e (inr h) = inr (ends_left xs ys e h)

  still_right : (xs ys : List (Path State)) (e : Ending State) → Still ys e → Still (xs ++ ys) e
  still_right xs ys e (inl w) = inl (w.0, w.1, w.2, ends_right xs ys _ w.3)
  still_right xs ys e (inr h) = inr (ends_right xs ys e h)

  meetings_still : (o : Outcome State) (e : Ending State) → Ends (arrivals o) e → Still (meetings lacks o) e
  unfolding meetings
  meetings_still (single s) e h = one_met (lacks s) s e (ends_one h)
  meetings_still (fork o p) e h =
      ⊎_elim (λ k. still_left (meetings lacks o) (meetings lacks (p tt)) e (meetings_still o e k)) (λ k. still_right (meetings lacks o) (meetings lacks (p tt)) e (meetings_still (p tt) e k))
      (ends_split (arrivals o) (arrivals (p tt)) e h)

  step_still : (p a : ℕ) (x : Step State) (e : Ending State) → Ends (paths_step (λ _. nowhere) p a x) e → Still (paths_step lacks p a x) e
  unfolding paths_step
  step_still p a (leads_to o) e h =
      ⊎_elim (λ w. inl (w.0, w.1, w.2, (ends_ran (a ∷ []) (meetings lacks o) _).1 w.3)) (λ k. inr ((ends_ran (a ∷ []) (meetings lacks o) e).1 k))
      (meetings_still o e ((ends_ran (a ∷ []) (arrivals o) e).0 h))
  step_still p a (refuses n u) e h = inr h

  -- A stop that is still there is a stop.
  pub stop_still : (xs : List (Path State)) (n p : ℕ) (u : Concerned State) → Still xs (stops n p u) → Stops xs
  stop_still xs n p u (inl w) = w
  stop_still xs n p u (inr h) = (n, p, u, h)

  mutual
    unfolding paths table_step guarded_step

    pub still : (c : Sequence ℕ) (s : State) (e : Ending State) → Ends (paths (table_step t) c s) e → Still (paths (guarded_step t gs) c s) e
    still done s e h = inr h
    still (item i rest) s e h =
        let more = paths (guarded_step t gs) rest in
        let xs = paths_item (guarded_step t gs) i s in
        ⊎_elim
        (λ w. inl (stop_goes_on more xs (stop_still xs w.0 w.1 w.2 (still_item i s (stops w.0 w.1 w.2) w.3))))
        (λ w.
        ⊎_elim
        (λ stop. inl (stop_goes_on more xs stop))
        (λ there. ⊎_elim (λ stop. inl (stop.0, stop.1, stop.2, arrives_on more xs w.0 _ there stop.3)) (λ k. inr (arrives_on more xs w.0 e there k)) (still rest w.0 e w.2))
        (still_item i s (arrives w.0) w.1))
        (went_on (paths (table_step t) rest) (paths_item (table_step t) i s) e h)

    pub still_item : (i : Item ℕ) (s : State) (e : Ending State) → Ends (paths_item (table_step t) i s) e → Still (paths_item (guarded_step t gs) i s) e
    still_item (act p a) s e h = step_still p a (table_does t a s) e h
    still_item (branching p bs) s e h = still_branch bs p s e h

    pub still_branch : (bs : Branches ℕ) (p : ℕ) (s : State) (e : Ending State) → Ends (paths_branch (table_step t) bs p s) e → Still (paths_branch (guarded_step t gs) bs p s) e
    still_branch none p s e h = inr h
    still_branch (branch c b bs) p s e h =
        has-picked (λ xs. Ends xs e) (each_of (known s) c) _ _ h
        (λ on k. subst (λ (xs : List (Path State)). Still xs e) (sym (pick_true _ _ _ on)) (still b s e k))
        (λ off k. subst (λ (xs : List (Path State)). Still xs e) (sym (pick_false _ _ _ off)) (still_branch bs p s e k))

  -- THE FIRST STATE is met.
  pub first_lacks : (c : Sequence ℕ) (s : State) → (Stops (paths_met (guarded_step t gs) c s) → ⊥) → lacks s ≡ nowhere
  unfolding paths_met meetings guarded_step
  first_lacks c s never = by_found (lacks s) (λ q. q) (λ p q. absurd (never (stop_goes_on (paths (guarded_step t gs) c) _ (Limits.guard_broken, p, in_state s, inl (rw q refl)))))

  pub met_on : (c : Sequence ℕ) (s : State) → lacks s ≡ nowhere → (e : Ending State) → Ends (paths (guarded_step t gs) c s) e → Ends (paths_met (guarded_step t gs) c s) e
  unfolding paths_met meetings guarded_step
  met_on c s q e h = arrives_on (paths (guarded_step t gs) c) _ s e (inl (rw q refl)) h

  pub on_met : (c : Sequence ℕ) (s : State) → lacks s ≡ nowhere → (e : Ending State) → Ends (paths_met (guarded_step t gs) c s) e → Ends (paths (guarded_step t gs) c s) e
  unfolding paths_met meetings guarded_step
  on_met c s q e h =
      ⊎_elim
      (λ w. let stop : stops w.0 w.1 w.2 ≡ met_ending (lacks s) s = ends_one w.3 in absurd (arrives≢stops (sym (stop ∙ ap (λ (f : Found). met_ending f s) q))))
      (λ w. let there : arrives w.0 ≡ met_ending (lacks s) s = ends_one w.1 in
      subst (λ (v : State). Ends (paths (guarded_step t gs) c v) e) (arrives_same (there ∙ ap (λ (f : Found). met_ending f s) q)) w.2)
      (went_on (paths (guarded_step t gs) c) (meetings lacks (single s)) e h)

  -- A state at which a path with guards arrives after an action lacks none.
  one_lacks : (f : Found) (s u : State) → lacks s ≡ f → arrives u ≡ met_ending f s → lacks u ≡ nowhere
  one_lacks nowhere s u q is = ap lacks (arrives_same is) ∙ q
  one_lacks (at p) s u q is = absurd (arrives≢stops is)

  arrived_lacks : (o : Outcome State) (u : State) → Ends (meetings lacks o) (arrives u) → lacks u ≡ nowhere
  unfolding meetings
  arrived_lacks (single s) u h = one_lacks (lacks s) s u refl (ends_one h)
  arrived_lacks (fork o p) u h = ⊎_elim (arrived_lacks o u) (arrived_lacks (p tt) u) (ends_split (meetings lacks o) (meetings lacks (p tt)) (arrives u) h)

  pub step_lacks : (p a : ℕ) (x : Step State) (u : State) → Ends (paths_step lacks p a x) (arrives u) → lacks u ≡ nowhere
  unfolding paths_step
  step_lacks p a (leads_to o) u h = arrived_lacks o u ((ends_ran (a ∷ []) (meetings lacks o) (arrives u)).0 h)
  step_lacks p a (refuses n v) u h = absurd (arrives≢stops (ends_one h))

  -- WITHOUT GUARDS. A path that ends so with them stopped in a state that lacks one, or ends so without them.
  abbrev pub Broken : Ending State → Type 0
  Broken e = (p : ℕ) × (u : Concerned State) × (e ≡ stops Limits.guard_broken p u)

  abbrev pub Was : List (Path State) → Ending State → Type 0
  Was xs e = Broken e ⊎ Ends xs e

  one_was : (f : Found) (s : State) (e : Ending State) → e ≡ met_ending f s → Was (record { ran = []; ending = arrives s } ∷ []) e
  one_was nowhere s e q = inr (inl q)
  one_was (at p) s e q = inl (p, in_state s, q)

  meetings_was : (o : Outcome State) (e : Ending State) → Ends (meetings lacks o) e → Was (arrivals o) e
  unfolding meetings
  meetings_was (single s) e h = one_was (lacks s) s e (ends_one h)
  meetings_was (fork o p) e h =
      ⊎_elim
      (λ k. ⊎_elim inl (λ m. inr (ends_left (arrivals o) (arrivals (p tt)) e m)) (meetings_was o e k))
      (λ k. ⊎_elim inl (λ m. inr (ends_right (arrivals o) (arrivals (p tt)) e m)) (meetings_was (p tt) e k))
      (ends_split (meetings lacks o) (meetings lacks (p tt)) e h)

  step_was : (p a : ℕ) (x : Step State) (e : Ending State) → Ends (paths_step lacks p a x) e → Was (paths_step (λ _. nowhere) p a x) e
  unfolding paths_step
  step_was p a (leads_to o) e h =
      ⊎_elim inl (λ m. inr ((ends_ran (a ∷ []) (arrivals o) e).1 m)) (meetings_was o e ((ends_ran (a ∷ []) (meetings lacks o) e).0 h))
  step_was p a (refuses n u) e h = inr h

  pub not_broken : (xs : List (Path State)) (u : State) → Was xs (arrives u) → Ends xs (arrives u)
  not_broken xs u (inl w) = absurd (arrives≢stops w.2)
  not_broken xs u (inr h) = h

  mutual
    unfolding paths table_step guarded_step

    pub was : (c : Sequence ℕ) (s : State) (e : Ending State) → Ends (paths (guarded_step t gs) c s) e → Was (paths (table_step t) c s) e
    was done s e h = inr h
    was (item i rest) s e h =
        let more = paths (table_step t) rest in
        let xs = paths_item (table_step t) i s in
        ⊎_elim
        (λ w.
        ⊎_elim
        (λ k. inl (k.0, k.1, w.4 ∙ k.2))
        (λ k. inr (subst (Ends (paths (table_step t) (item i rest) s)) (sym w.4) (stops_on more xs w.0 w.1 w.2 k)))
        (was_item i s (stops w.0 w.1 w.2) w.3))
        (λ w. ⊎_elim inl (λ k. inr (arrives_on more xs w.0 e (not_broken xs w.0 (was_item i s (arrives w.0) w.1)) k)) (was rest w.0 e w.2))
        (went_on (paths (guarded_step t gs) rest) (paths_item (guarded_step t gs) i s) e h)

    pub was_item : (i : Item ℕ) (s : State) (e : Ending State) → Ends (paths_item (guarded_step t gs) i s) e → Was (paths_item (table_step t) i s) e
    was_item (act p a) s e h = step_was p a (table_does t a s) e h
    was_item (branching p bs) s e h = was_branch bs p s e h

    was_branch : (bs : Branches ℕ) (p : ℕ) (s : State) (e : Ending State) → Ends (paths_branch (guarded_step t gs) bs p s) e → Was (paths_branch (table_step t) bs p s) e
    was_branch none p s e h = inr h
    was_branch (branch c b bs) p s e h =
        has-picked (λ xs. Ends xs e) (each_of (known s) c) _ _ h
        (λ on k. subst (λ (xs : List (Path State)). Was xs e) (sym (pick_true _ _ _ on)) (was b s e k))
        (λ off k. subst (λ (xs : List (Path State)). Was xs e) (sym (pick_false _ _ _ off)) (was_branch bs p s e k))

  -- From a state that is met.
  pub met_was : (c : Sequence ℕ) (s : State) (e : Ending State) → Ends (paths_met (guarded_step t gs) c s) e → Was (paths (table_step t) c s) e
  unfolding paths_met meetings guarded_step
  met_was c s e h =
      ⊎_elim
      (λ w. ⊎_elim (λ k. inl (k.0, k.1, w.4 ∙ k.2)) (λ k. absurd (arrives≢stops (sym (ends_one k)))) (one_was (lacks s) s (stops w.0 w.1 w.2) (ends_one w.3)))
      (λ w.
      let one = not_broken (record { ran = []; ending = arrives s } ∷ []) w.0 (one_was (lacks s) s (arrives w.0) (ends_one w.1)) in
      subst (λ (v : State). Was (paths (table_step t) c v) e) (arrives_same (ends_one one)) (was c w.0 e w.2))
      (went_on (paths (guarded_step t gs) c) (meetings lacks (single s)) e h)

  -- IN A STATE THAT LACKS A GUARD. A path that stops there, where the step is not refused with that number, arrives there without guards.
  one_broken : (f : Found) (s : State) → lacks s ≡ f → (p : ℕ) (u : Concerned State) → stops Limits.guard_broken p u ≡ met_ending f s → (u ≡ in_state s) × (lacks s ≡ at p)
  one_broken nowhere s q p u is = absurd (arrives≢stops (sym is))
  one_broken (at i) s q p u is = (ap concerned is, q ∙ sym (ap (λ (e : Ending State). at (placed e)) is))
    where
      placed : Ending State → ℕ
      placed (arrives v) = p
      placed (stops n j v) = j

      concerned : Ending State → Concerned State
      concerned (arrives v) = u
      concerned (stops n j v) = v

  meetings_broken : (o : Outcome State) (p : ℕ) (u : Concerned State) → Ends (meetings lacks o) (stops Limits.guard_broken p u) → (v : State) × (u ≡ in_state v) × (lacks v ≡ at p) × Ends (arrivals o) (arrives v)
  unfolding meetings
  meetings_broken (single s) p u h = let w = one_broken (lacks s) s refl p u (ends_one h) in (s, w.0, w.1, inl refl)
  meetings_broken (fork o q) p u h =
      ⊎_elim
      (λ k. let w = meetings_broken o p u k in (w.0, w.1, w.2, ends_left (arrivals o) (arrivals (q tt)) _ w.3))
      (λ k. let w = meetings_broken (q tt) p u k in (w.0, w.1, w.2, ends_right (arrivals o) (arrivals (q tt)) _ w.3))
      (ends_split (meetings lacks o) (meetings lacks (q tt)) _ h)

  pub step_broken : (q a : ℕ) (x : Step State) → NeverBroken x → (p : ℕ) (u : Concerned State) → Ends (paths_step lacks q a x) (stops Limits.guard_broken p u)
      → (v : State) × (u ≡ in_state v) × (lacks v ≡ at p) × Ends (paths_step (λ _. nowhere) q a x) (arrives v)
  unfolding paths_step
  step_broken q a (leads_to o) never p u h =
      let w = meetings_broken o p u ((ends_ran (a ∷ []) (meetings lacks o) _).0 h) in
      (w.0, w.1, w.2, (ends_ran (a ∷ []) (arrivals o) (arrives w.0)).1 w.3)
  step_broken q a (refuses n v) never p u h = absurd (never (sym (ap numbered (ends_one h))))
    where
      numbered : Ending State → ℕ
      numbered (arrives s) = 0
      numbered (stops m i w) = m

  -- From a state that is met: it is that state, or one behind it.
  pub met_broken : (c : Sequence ℕ) (s : State) (p : ℕ) (u : Concerned State) → Ends (paths_met (guarded_step t gs) c s) (stops Limits.guard_broken p u)
      → (u ≡ in_state s) ⊎ Ends (paths (guarded_step t gs) c s) (stops Limits.guard_broken p u)
  unfolding paths_met meetings guarded_step
  met_broken c s p u h =
      ⊎_elim
      (λ w. inl (one_broken (lacks s) s refl p u (w.4 ∙ ends_one w.3)).0)
      (λ w.
      let one = not_broken (record { ran = []; ending = arrives s } ∷ []) w.0 (one_was (lacks s) s (arrives w.0) (ends_one w.1)) in
      inr (subst (λ (v : State). Ends (paths (guarded_step t gs) c v) (stops Limits.guard_broken p u)) (arrives_same (ends_one one)) w.2))
      (went_on (paths (guarded_step t gs) c) (meetings lacks (single s)) (stops Limits.guard_broken p u) h)
