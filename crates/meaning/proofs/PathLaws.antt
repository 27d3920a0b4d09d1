-- The walk is what its list of paths says: a walk with any continuation is that continuation walked at the end of each path in turn, and
-- where the continuation judges, this comes to the first stop, else the first miss. Walks one after another are associative, and so the
-- two go together by induction on the plan. Assumes nothing.
use Prim.Native.Nat.{ℕ, ◌+◌}
use native.Mathlib.Omega.{arith}
use mathlib.Core.Path.{◌≡◌, refl, sym, ◌∙◌, ap, fun_ext}
use mathlib.Core.List.{List, [], ◌∷◌, ◌++◌}
use lib.ListN.{length, length-append}
use Rattle.meaning.specs.Tests.{each_of}
use Rattle.meaning.specs.Requests.{Sequence, done, item, Item, act, branching, Branches, none, branch, Entry, Request}
use Rattle.meaning.specs.Refusals.{Found, nowhere, at}
use Rattle.meaning.specs.States.{State, Outcome, single, fork}
use Rattle.meaning.specs.Walk.{Concerned, End, fine, missed, stopped, Walked, stopped_at, counted, keep_miss, after_miss, after_end, and_then, each_reading, Step, leads_to, refuses, Steps, after_step, unless_broken, meet, run_action, walk, walk_item, walk_branch, table_step, missed_in, end_of, judged, walked, guarded_step, walked_guarded}
use Rattle.meaning.specs.Paths.{Ending, arrives, stops, Path, first_ran, goes_on, go_on, met_ending, meetings, paths_step, paths, paths_item, paths_branch, paths_met, count_of, count_in, stop_of, first_stop, miss_of, first_miss, stop_or_miss, walked_along}
use Rattle.meaning.proofs.TestLaws.{pick_map}
use Rattle.meaning.proofs.PickLaws.{pick_has}

module _ {S : Type 0} where
  -- WALKS ONE AFTER ANOTHER.
  abbrev pub no_walk : Walked S
  no_walk = record { count = 0; end = fine }

  same_walk : {c d : ℕ} {e g : End S} → c ≡ d → e ≡ g → ◌≡◌ {A = Walked S} (record { count = c; end = e }) (record { count = d; end = g })
  same_walk p q = λ i. record { count = p i; end = q i }

  none_before : (w : Walked S) → counted 0 w ≡ w
  unfolding counted
  none_before w = same_walk (omega arith) refl

  counted_twice : (c d : ℕ) (w : Walked S) → counted c (counted d w) ≡ counted (c + d) w
  unfolding counted
  counted_twice c d w = same_walk (omega arith) refl

  none_first : (more : Unit {0} → Walked S) → and_then no_walk more ≡ more tt
  unfolding and_then after_end
  none_first more = none_before (more tt)

  none_after : (w : Walked S) → and_then w (λ _. no_walk) ≡ w
  unfolding and_then after_end counted after_miss keep_miss
  none_after w = by_end w.end
    where
      by_end : (e : End S) → after_end e w.count (λ _. no_walk) ≡ record { count = w.count; end = e }
      by_end fine = same_walk (omega arith) refl
      by_end (missed p s) = same_walk (omega arith) refl
      by_end (stopped n p u) = refl

  counted_then : (c : ℕ) (w : Walked S) (more : Unit {0} → Walked S) → and_then (counted c w) more ≡ counted c (and_then w more)
  unfolding and_then after_end counted
  counted_then c w more = by_end w.end
    where
      by_end : (e : End S) → after_end e (c + w.count) more ≡ counted c (after_end e w.count more)
      by_end fine = same_walk (omega arith) refl
      by_end (missed p s) = same_walk (omega arith) refl
      by_end (stopped n p u) = refl

  then_then : (w : Walked S) (more last : Unit {0} → Walked S) → and_then (and_then w more) last ≡ and_then w (λ _. and_then (more tt) last)
  unfolding and_then after_end counted after_miss keep_miss
  then_then w more last = by_ends w.end (more tt).end
    where
      c : ℕ
      c = w.count

      d : ℕ
      d = (more tt).count

      kept : (p q : ℕ) (s t : S) (e : End S) → keep_miss p s e ≡ keep_miss p s (keep_miss q t e)
      kept p q s t fine = refl
      kept p q s t (missed i u) = refl
      kept p q s t (stopped n i u) = refl

      by_ends : (e g : End S)
          → and_then (after_end e c (λ _. record { count = d; end = g })) last
          ≡ after_end e c (λ _. and_then (record { count = d; end = g }) last)
      by_ends fine fine = same_walk (omega arith) refl
      by_ends fine (missed p s) = same_walk (omega arith) refl
      by_ends fine (stopped n p u) = refl
      by_ends (missed p s) fine = same_walk (omega arith) refl
      by_ends (missed p s) (missed q t) = same_walk (omega arith) (kept p q s t (last tt).end)
      by_ends (missed p s) (stopped n q u) = refl
      by_ends (stopped n p u) g = refl

  -- EACH PATH IN TURN, with k walked where it arrives.
  unfoldable pub path_walk : (S → Walked S) → List ℕ → Ending S → Walked S
  path_walk k ran (arrives s) = counted (length ran) (k s)
  path_walk k ran (stops n p u) = counted (length ran) (stopped_at n p u)

  unfoldable pub each_path : (S → Walked S) → List (Path S) → Walked S
  each_path k [] = no_walk
  each_path k (x ∷ xs) = and_then (path_walk k x.ran x.ending) (λ _. each_path k xs)

  -- A list with at least one path.
  abbrev pub Inhabited : List (Path S) → Type 0
  Inhabited [] = ⊥
  Inhabited (x ∷ xs) = Unit {0}

  each_arrives : (k : S → Walked S) (s : S) → each_path k (record { ran = []; ending = arrives s } ∷ []) ≡ k s
  unfolding each_path path_walk
  each_arrives k s = none_after _ ∙ none_before (k s)

  each_stops : (k : S → Walked S) (n p : ℕ) (u : Concerned S) → each_path k (record { ran = []; ending = stops n p u } ∷ []) ≡ stopped_at n p u
  unfolding each_path path_walk
  each_stops k n p u = none_after _ ∙ none_before (stopped_at n p u)

  each_appended : (k : S → Walked S) (xs ys : List (Path S)) → each_path k (xs ++ ys) ≡ and_then (each_path k xs) (λ _. each_path k ys)
  unfolding each_path
  each_appended k [] ys = sym (none_first _)
  each_appended k (x ∷ xs) ys = rw (each_appended k xs ys) (sym (then_then _ _ _))

  ran_before : (k : S → Walked S) (before ran : List ℕ) (e : Ending S) → path_walk k (before ++ ran) e ≡ counted (length before) (path_walk k ran e)
  unfolding path_walk
  ran_before k before ran (arrives s) = rw (length-append before ran) (sym (counted_twice _ _ _))
  ran_before k before ran (stops n p u) = rw (length-append before ran) (sym (counted_twice _ _ _))

  each_first_ran : (k : S → Walked S) (before : List ℕ) (xs : List (Path S)) → Inhabited xs → each_path k (first_ran before xs) ≡ counted (length before) (each_path k xs)
  unfolding each_path first_ran
  each_first_ran k before [] some = absurd some
  each_first_ran k before (x ∷ xs) some = rw (ran_before k before x.ran x.ending) (counted_then _ _ _)

  each_gone_on : (k : S → Walked S) (more : S → List (Path S)) → ((s : S) → Inhabited (more s)) → (xs : List (Path S)) → each_path k (go_on xs more) ≡ each_path (λ s. each_path k (more s)) xs
  unfolding each_path go_on goes_on path_walk
  each_gone_on k more some [] = refl
  each_gone_on k more some (x ∷ xs) =
      each_appended k (goes_on x.ran x.ending more) (go_on xs more) ∙ rw (each_gone_on k more some xs, by_ending x.ran x.ending)
    where
      by_ending : (ran : List ℕ) (e : Ending S) → each_path k (goes_on ran e more) ≡ path_walk (λ s. each_path k (more s)) ran e
      by_ending ran (arrives s) = each_first_ran k ran (more s) (some s)
      by_ending ran (stops n p u) = none_after _

  -- A state that is met, by the guard that it lacks.
  each_found : (k : S → Walked S) (f : Found) (s : S) → each_path k (record { ran = []; ending = met_ending f s } ∷ []) ≡ unless_broken f s (k s)
  each_found k nowhere s = each_arrives k s
  each_found k (at p) s = each_stops k _ p _

  each_met : (lacks : S → Found) (k : S → Walked S) (o : Outcome S) → each_path k (meetings lacks o) ≡ each_reading o (λ s. unless_broken (lacks s) s (k s))
  unfolding meetings each_reading
  each_met lacks k (single s) = each_found k (lacks s) s
  each_met lacks k (fork o p) = each_appended k (meetings lacks o) (meetings lacks (p tt)) ∙ rw (each_met lacks k o, each_met lacks k (p tt))

  -- Each list of paths has one.
  appended_inhabited : (xs ys : List (Path S)) → Inhabited xs → Inhabited (xs ++ ys)
  appended_inhabited [] ys some = absurd some
  appended_inhabited (x ∷ xs) ys some = tt

  ran_inhabited : (before : List ℕ) (xs : List (Path S)) → Inhabited xs → Inhabited (first_ran before xs)
  unfolding first_ran
  ran_inhabited before [] some = absurd some
  ran_inhabited before (x ∷ xs) some = tt

  gone_on_inhabited : (more : S → List (Path S)) → ((s : S) → Inhabited (more s)) → (xs : List (Path S)) → Inhabited xs → Inhabited (go_on xs more)
  unfolding go_on goes_on
  gone_on_inhabited more each [] some = absurd some
  gone_on_inhabited more each (x ∷ xs) some = appended_inhabited (goes_on x.ran x.ending more) _ (by_ending x.ran x.ending)
    where
      by_ending : (ran : List ℕ) (e : Ending S) → Inhabited (goes_on ran e more)
      by_ending ran (arrives s) = ran_inhabited ran (more s) (each s)
      by_ending ran (stops n p u) = tt

  met_inhabited : (lacks : S → Found) (o : Outcome S) → Inhabited (meetings lacks o)
  unfolding meetings
  met_inhabited lacks (single s) = tt
  met_inhabited lacks (fork o p) = appended_inhabited (meetings lacks o) _ (met_inhabited lacks o)

  step_inhabited : (lacks : S → Found) (p a : ℕ) (x : Step S) → Inhabited (paths_step lacks p a x)
  unfolding paths_step
  step_inhabited lacks p a (leads_to o) = ran_inhabited (a ∷ []) (meetings lacks o) (met_inhabited lacks o)
  step_inhabited lacks p a (refuses n u) = tt

  -- A step and what follows it.
  each_step : (lacks : S → Found) (p a : ℕ) (x : Step S) (k : S → Walked S) → after_step p x (λ s. unless_broken (lacks s) s (k s)) ≡ each_path k (paths_step lacks p a x)
  unfolding after_step paths_step
  each_step lacks p a (leads_to o) k = sym (each_first_ran k (a ∷ []) (meetings lacks o) (met_inhabited lacks o) ∙ ap (counted 1) (each_met lacks k o))
  each_step lacks p a (refuses n u) k = sym (each_stops k n p u)

module _ {S L : Type 0} (step : Steps S L) where
  mutual
    unfolding paths

    pub paths_inhabited : (p : Sequence L) (s : S) → Inhabited (paths step p s)
    paths_inhabited done s = tt
    paths_inhabited (item i rest) s = gone_on_inhabited (paths step rest) (paths_inhabited rest) (paths_item step i s) (item_inhabited i s)

    item_inhabited : (i : Item L) (s : S) → Inhabited (paths_item step i s)
    item_inhabited (act p a) s = step_inhabited step.lacks p a (step.does a s)
    item_inhabited (branching p bs) s = branch_inhabited bs p s

    branch_inhabited : (bs : Branches L) (p : ℕ) (s : S) → Inhabited (paths_branch step bs p s)
    branch_inhabited none p s = tt
    branch_inhabited (branch c b bs) p s =
        pick_has Inhabited (each_of (step.knows s) c) _ _ (λ _. paths_inhabited b s) (λ _. branch_inhabited bs p s)

  mutual
    unfolding walk run_action paths

    -- A walk is what follows it, walked at the end of each path.
    pub walk_each_path : (p : Sequence L) (k : S → Walked S) (s : S) → walk step p k s ≡ each_path k (paths step p s)
    walk_each_path done k s = sym (each_arrives k s)
    walk_each_path (item i rest) k s =
        ap (λ (j : S → Walked S). walk_item step i j s) (fun_ext (walk_each_path rest k))
        ∙ item_each_path i (λ u. each_path k (paths step rest u)) s
        ∙ sym (each_gone_on k (paths step rest) (paths_inhabited rest) (paths_item step i s))

    item_each_path : (i : Item L) (k : S → Walked S) (s : S) → walk_item step i k s ≡ each_path k (paths_item step i s)
    item_each_path (act p a) k s = each_step step.lacks p a (step.does a s) k
    item_each_path (branching p bs) k s = branch_each_path bs p k s

    branch_each_path : (bs : Branches L) (p : ℕ) (k : S → Walked S) (s : S) → walk_branch step bs p k s ≡ each_path k (paths_branch step bs p s)
    branch_each_path none p k s = sym (each_stops k _ p _)
    branch_each_path (branch c b bs) p k s = rw (walk_each_path b k s, branch_each_path bs p k s) (sym (pick_map (each_path k) _ _ _))

-- JUDGING, where a path arrives.
pub by_found {ℓ} : {C : Type ℓ} (f : Found) → (f ≡ nowhere → C) → ((p : ℕ) → f ≡ at p → C) → C
by_found nowhere g h = g refl
by_found (at p) g h = h p refl

module _ {S : Type 0} (miss : S → Found) where
  pub misses_not : (s : S) (later : End S) → miss s ≡ nowhere → miss_of miss (arrives s) later ≡ later
  unfolding miss_of
  misses_not s later e = rw e

  pub misses_here : (s : S) (later : End S) (p : ℕ) → miss s ≡ at p → miss_of miss (arrives s) later ≡ missed p s
  unfolding miss_of
  misses_here s later p e = rw e

  first_kept : (p : ℕ) (s : S) (xs : List (Path S)) → keep_miss p s (first_miss miss xs) ≡ missed p s
  unfolding keep_miss first_miss
  first_kept p s [] = refl
  first_kept p s (x ∷ xs) = by_ending x.ending (first_kept p s xs)
    where
      by_ending : (e : Ending S) → keep_miss p s (first_miss miss xs) ≡ missed p s → keep_miss p s (miss_of miss e (first_miss miss xs)) ≡ missed p s
      by_ending (arrives t) ih = by_found (miss t) (λ q. rw (misses_not t _ q) ih) (λ i q. rw (misses_here t _ i q))
      by_ending (stops n i u) ih = unfold miss_of in ih

  stop_kept : (p : ℕ) (s : S) (m : End S) → keep_miss p s m ≡ missed p s → (xs : List (Path S)) → keep_miss p s (stop_or_miss (first_stop xs) m) ≡ stop_or_miss (first_stop xs) (missed p s)
  unfolding keep_miss first_stop stop_or_miss stop_of
  stop_kept p s m e [] = e
  stop_kept p s m e (x ∷ xs) = by_ending x.ending (stop_kept p s m e xs)
    where
      by_ending : (g : Ending S)
          → keep_miss p s (stop_or_miss (first_stop xs) m) ≡ stop_or_miss (first_stop xs) (missed p s)
          → keep_miss p s (stop_or_miss (stop_of g (first_stop xs)) m) ≡ stop_or_miss (stop_of g (first_stop xs)) (missed p s)
      by_ending (arrives t) ih = ih
      by_ending (stops n i u) ih = refl

abbrev pub judging : (State → Found) → State → Walked State
judging miss s = record { count = 1; end = end_of (miss s) s }

module _ (miss : State → Found) where
  judged_along : (xs : List (Path State)) → each_path (judging miss) xs ≡ walked_along miss xs
  unfolding each_path walked_along first_stop first_miss count_in stop_or_miss path_walk counted stopped_at and_then after_end after_miss end_of count_of stop_of
  judged_along [] = refl
  judged_along (x ∷ xs) = rw (judged_along xs) (by_ending x.ran x.ending)
    where
      by_ending : (ran : List ℕ) (e : Ending State) → and_then (path_walk (judging miss) ran e) (λ _. walked_along miss xs) ≡ record { count = count_of ran e (count_in xs); end = stop_or_miss (stop_of e (first_stop xs)) (miss_of miss e (first_miss miss xs)) }
      by_ending ran (arrives s) =
          by_found (miss s)
          (λ q. rw (q, misses_not miss s (first_miss miss xs) q) (same_walk (omega arith) refl))
          (λ p q. rw (q, misses_here miss s (first_miss miss xs) p q) (same_walk (omega arith) (stop_kept miss p s _ (first_kept miss p s xs) xs)))
      by_ending ran (stops n p u) = same_walk (omega arith) refl

  -- The walk is what its list of paths says.
  pub walk_along : {L : Type 0} (step : Steps State L) (p : Sequence L) (s : State) → walk step p (judging miss) s ≡ walked_along miss (paths step p s)
  walk_along step p s = walk_each_path step p (judging miss) s ∙ judged_along (paths step p s)

  -- And from a state that is met.
  pub met_along : {L : Type 0} (step : Steps State L) (p : Sequence L) (s : State) → meet step (walk step p (judging miss)) s ≡ walked_along miss (paths_met step p s)
  unfolding paths_met each_reading
  met_along step p s =
      ap (λ (j : State → Walked State). meet step j s) (fun_ext (walk_each_path step p (judging miss)))
      ∙ met_goes_on
      ∙ judged_along (paths_met step p s)
    where
      met_goes_on : meet step (λ u. each_path (judging miss) (paths step p u)) s ≡ each_path (judging miss) (go_on (meetings step.lacks (single s)) (paths step p))
      met_goes_on =
          sym (each_met step.lacks (λ u. each_path (judging miss) (paths step p u)) (single s))
          ∙ sym (each_gone_on (judging miss) (paths step p) (paths_inhabited step p) (meetings step.lacks (single s)))

-- The walk of a request's plan is what the list of the plan's paths says.
pub walked_in_order : (r : Request) (s : State) → walked r s ≡ walked_along (missed_in r) (paths (table_step r.table) r.plan s)
unfolding walked judged
walked_in_order r s = walk_along (missed_in r) (table_step r.table) r.plan s

-- And with guards.
pub guarded_in_order : (r : Request) (gs : List Entry) (s : State) → walked_guarded r gs s ≡ walked_along (missed_in r) (paths_met (guarded_step r.table gs) r.plan s)
unfolding walked_guarded judged
guarded_in_order r gs s = met_along (missed_in r) (guarded_step r.table gs) r.plan s
