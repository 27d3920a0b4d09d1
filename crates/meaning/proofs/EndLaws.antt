-- Where the paths of a list end, and what the end of the walk along them says of it: the walk stops at the first path that stops, it
-- misses at the first that misses where none stops, and else it is fine. By induction on the list. Assumes nothing.
use Prim.Native.Nat.{ℕ}
use mathlib.Core.Path.{◌≡◌, refl, sym, ◌∙◌, ap, subst}
use mathlib.Core.List.{List, [], ◌∷◌, ◌++◌, append_assoc}
use mathlib.Core.Logic.{◌⊎◌, inl, inr, ⊎_elim, ◌↔◌}
use mathlib.Core.Bool.{Bool, true}
use Rattle.meaning.specs.Tests.{each_of, Has}
use Rattle.meaning.specs.Requests.{EntryOver, values}
use Rattle.meaning.specs.Refusals.{Found, nowhere, at}
use Rattle.meaning.specs.States.{Outcome, single, fork}
use Rattle.meaning.specs.Walk.{Concerned, no_state, in_state, End, fine, missed, stopped, Step, leads_to, refuses, first_missed}
use Rattle.meaning.specs.Paths.{Ending, arrives, stops, Path, first_ran, goes_on, go_on, meetings, arrivals, paths_step, stop_of, first_stop, miss_of, first_miss, stop_or_miss, walked_along}
use Rattle.meaning.specs.Reported.{First}
use Rattle.meaning.proofs.TestLaws.{both_left, both_right, both_true, pick_true, pick-cases, has_right}
use Rattle.meaning.proofs.RefusalLaws.{at≢nowhere}
use Rattle.meaning.proofs.PathLaws.{by_found, misses_not, misses_here}

-- THE FIRST OF A LIST.
module _ {A : Type 0} {Otherwise So : A → Type 0} where
  pub first_here : {x : A} {xs : List A} → So x → First Otherwise So (x ∷ xs)
  first_here {x} {xs} is = record { before = []; here = x; after = xs; split = refl; otherwise = λ y h. absurd h; so = is }

  pub first_later : {x : A} {xs : List A} → Otherwise x → First Otherwise So xs → First Otherwise So (x ∷ xs)
  first_later {x} {xs} other f = record {
    before = x ∷ f.before;
    here = f.here;
    after = f.after;
    split = ap (λ (ys : List A). x ∷ ys) f.split;
    otherwise = λ y h. ⊎_elim (λ q. subst Otherwise (sym q) other) (f.otherwise y) h;
    so = f.so;
  }

  -- It is one of the list.
  pub first_has : {xs : List A} (f : First Otherwise So xs) → Has xs f.here
  first_has f = subst (λ (ys : List A). Has ys f.here) (sym f.split) (has_right f.before (f.here ∷ f.after) f.here (inl refl))

  pub first_left : {xs : List A} (ys : List A) → First Otherwise So xs → First Otherwise So (xs ++ ys)
  first_left ys f = record {
    before = f.before;
    here = f.here;
    after = f.after ++ ys;
    split = ap (λ (zs : List A). zs ++ ys) f.split ∙ append_assoc f.before (f.here ∷ f.after) ys;
    otherwise = f.otherwise;
    so = f.so;
  }

  pub first_right : (xs : List A) {ys : List A} → ((x : A) → Has xs x → Otherwise x) → First Otherwise So ys → First Otherwise So (xs ++ ys)
  first_right [] others f = f
  first_right (x ∷ xs) others f = first_later (others x (inl refl)) (first_right xs (λ y h. others y (inr h)) f)

module _ {A : Type 0} {O Q P R : A → Type 0} (other : (x : A) → O x → Q x) (is : (x : A) → P x → R x) where
  pub first_map : {xs : List A} → First O P xs → First Q R xs
  first_map f = record { before = f.before; here = f.here; after = f.after; split = f.split; otherwise = λ x h. other x (f.otherwise x h); so = is f.here f.so }

module _ {S : Type 0} where
  -- Some path of the list ends so.
  abbrev pub Ends : List (Path S) → Ending S → Type 0
  Ends [] e = ⊥
  Ends (x ∷ xs) e = (e ≡ x.ending) ⊎ Ends xs e

  abbrev pub Stops : List (Path S) → Type 0
  Stops xs = (n : ℕ) × (p : ℕ) × (u : Concerned S) × Ends xs (stops n p u)

  pub arrives≢stops : {s : S} {n p : ℕ} {u : Concerned S} → arrives s ≡ stops n p u → ⊥
  arrives≢stops q = subst arrived q tt
    where
      arrived : Ending S → Type 0
      arrived (arrives s) = Unit {0}
      arrived (stops n p u) = ⊥

  -- A path of the list ends so.
  pub has_ends : (xs : List (Path S)) (x : Path S) (e : Ending S) → Has xs x → x.ending ≡ e → Ends xs e
  has_ends [] x e h q = absurd h
  has_ends (y ∷ ys) x e (inl r) q = inl (sym q ∙ ap (λ (z : Path S). z.ending) r)
  has_ends (y ∷ ys) x e (inr h) q = inr (has_ends ys x e h q)

  pub ends_has : (xs : List (Path S)) (e : Ending S) → Ends xs e → (x : Path S) × Has xs x × (x.ending ≡ e)
  ends_has [] e ends = absurd ends
  ends_has (y ∷ ys) e (inl here) = (y, inl refl, sym here)
  ends_has (y ∷ ys) e (inr later) = let w = ends_has ys e later in (w.0, inr w.1, w.2)

  -- Where none stops, each arrives.
  pub all_arrive : (xs : List (Path S)) → (Stops xs → ⊥) → (x : Path S) → Has xs x → (u : S) × (x.ending ≡ arrives u)
  all_arrive xs none x h = by_ending x.ending refl
    where
      by_ending : (g : Ending S) → x.ending ≡ g → (u : S) × (g ≡ arrives u)
      by_ending (arrives u) q = (u, refl)
      by_ending (stops n p s) q = absurd (none (n, p, s, has_ends xs x (stops n p s) h q))

  pub arrives_same : {u v : S} → arrives u ≡ arrives v → u ≡ v
  arrives_same {u} q = ap state q
    where
      state : Ending S → S
      state (arrives v) = v
      state (stops n p s) = u

  pub stops_same : {m n p q : ℕ} {u v : S} → stops m p (in_state u) ≡ stops n q (in_state v) → (p ≡ q) × (u ≡ v)
  stops_same {p = p} {u = u} e = (ap place e, ap state e)
    where
      place : Ending S → ℕ
      place (arrives v) = p
      place (stops n q v) = q

      state : Ending S → S
      state (arrives v) = v
      state (stops n q no_state) = u
      state (stops n q (in_state v)) = v

  -- A list of one path ends as that does.
  pub ends_one : {e g : Ending S} → (e ≡ g) ⊎ ⊥ → e ≡ g
  ends_one (inl q) = q
  ends_one {e = e} {g = g} (inr none) = elim none [ ]

  -- APPENDED, AND GONE ON.
  pub ends_left : (xs ys : List (Path S)) (e : Ending S) → Ends xs e → Ends (xs ++ ys) e
  ends_left [] ys e h = absurd h
  ends_left (x ∷ xs) ys e (inl q) = inl q
  ends_left (x ∷ xs) ys e (inr h) = inr (ends_left xs ys e h)

  pub ends_right : (xs ys : List (Path S)) (e : Ending S) → Ends ys e → Ends (xs ++ ys) e
  ends_right [] ys e h = h
  ends_right (x ∷ xs) ys e h = inr (ends_right xs ys e h)

  pub ends_split : (xs ys : List (Path S)) (e : Ending S) → Ends (xs ++ ys) e → Ends xs e ⊎ Ends ys e
  ends_split [] ys e h = inr h
  ends_split (x ∷ xs) ys e (inl q) = inl (inl q)
  ends_split (x ∷ xs) ys e (inr h) = ⊎_elim (λ l. inl (inr l)) inr (ends_split xs ys e h)

  pub ends_ran : (before : List ℕ) (xs : List (Path S)) (e : Ending S) → Ends (first_ran before xs) e ↔ Ends xs e
  unfolding first_ran
  ends_ran before [] e = (λ h. h, λ h. h)
  ends_ran before (x ∷ xs) e = (λ h. h, λ h. h)

  -- What an action leads to are arrivals.
  pub arrivals_go_on : (o : Outcome S) (n p : ℕ) (u : Concerned S) → Ends (arrivals o) (stops n p u) → ⊥
  unfolding meetings
  arrivals_go_on (single s) n p u h = arrives≢stops (sym (ends_one h))
  arrivals_go_on (fork o q) n p u h = ⊎_elim (arrivals_go_on o n p u) (arrivals_go_on (q tt) n p u) (ends_split (arrivals o) (arrivals (q tt)) (stops n p u) h)

  -- A stop's number; and a step that stops so is refused so, at its place, where no state lacks a guard.
  pub stop_numbered : {m n p q : ℕ} {u v : Concerned S} → stops m p u ≡ stops n q v → m ≡ n
  stop_numbered {m} e = ap number e
    where
      number : Ending S → ℕ
      number (arrives s) = m
      number (stops n p u) = n

  pub step_stops : (n p : ℕ) (u : Concerned S) (q a : ℕ) (x : Step S) → Ends (paths_step (λ _. nowhere) q a x) (stops n p u) → (p ≡ q) × (x ≡ refuses n u)
  unfolding paths_step
  step_stops n p u q a (leads_to o) h = absurd (arrivals_go_on o n p u ((ends_ran (a ∷ []) (arrivals o) (stops n p u)).0 h))
  step_stops n p u q a (refuses m v) h = let is = ends_one h in (ap place is, ap refusal (sym is))
    where
      place : Ending S → ℕ
      place (arrives s) = p
      place (stops m q v) = q

      refusal : Ending S → Step S
      refusal (arrives s) = refuses m v
      refusal (stops i q w) = refuses i w

  module _ (more : S → List (Path S)) where
    -- A path stopped before, or went on from where one arrived.
    abbrev pub WentOn : List (Path S) → Ending S → Type 0
    WentOn xs e = ((n : ℕ) × (p : ℕ) × (u : Concerned S) × Ends xs (stops n p u) × (e ≡ stops n p u)) ⊎ ((s : S) × Ends xs (arrives s) × Ends (more s) e)

    pub went_on : (xs : List (Path S)) (e : Ending S) → Ends (go_on xs more) e → WentOn xs e
    unfolding go_on goes_on
    went_on [] e h = absurd h
    went_on (x ∷ xs) e h = ⊎_elim (by_ending x.ending refl) (λ k. later (went_on xs e k)) (ends_split (goes_on x.ran x.ending more) (go_on xs more) e h)
      where
        by_ending : (g : Ending S) → g ≡ x.ending → Ends (goes_on x.ran g more) e → WentOn (x ∷ xs) e
        by_ending (arrives u) q k = inr (u, inl q, (ends_ran x.ran (more u) e).0 k)
        by_ending (stops n p u) q (inl k) = inl (n, p, u, inl q, k)
        by_ending (stops n p u) q (inr none) = elim none [ ]

        later : WentOn xs e → WentOn (x ∷ xs) e
        later (inl w) = inl (w.0, w.1, w.2, inr w.3, w.4)
        later (inr w) = inr (w.0, inr w.1, w.2)

    pub stops_on : (xs : List (Path S)) (n p : ℕ) (u : Concerned S) → Ends xs (stops n p u) → Ends (go_on xs more) (stops n p u)
    unfolding go_on goes_on
    stops_on [] n p u h = absurd h
    stops_on (x ∷ xs) n p u (inl q) = ends_left (goes_on x.ran x.ending more) (go_on xs more) (stops n p u) (subst (λ (g : Ending S). Ends (goes_on x.ran g more) (stops n p u)) q (inl refl))
    stops_on (x ∷ xs) n p u (inr h) = ends_right (goes_on x.ran x.ending more) (go_on xs more) (stops n p u) (stops_on xs n p u h)

    pub stop_goes_on : (xs : List (Path S)) → Stops xs → Stops (go_on xs more)
    stop_goes_on xs w = (w.0, w.1, w.2, stops_on xs w.0 w.1 w.2 w.3)

    pub arrives_on : (xs : List (Path S)) (u : S) (e : Ending S) → Ends xs (arrives u) → Ends (more u) e → Ends (go_on xs more) e
    unfolding go_on goes_on
    arrives_on [] u e h k = absurd h
    arrives_on (x ∷ xs) u e (inl q) k = ends_left (goes_on x.ran x.ending more) (go_on xs more) e (subst (λ (g : Ending S). Ends (goes_on x.ran g more) e) q ((ends_ran x.ran (more u) e).1 k))
    arrives_on (x ∷ xs) u e (inr h) k = ends_right (goes_on x.ran x.ending more) (go_on xs more) e (arrives_on xs u e h k)

-- THE END OF THE WALK.
module _ {S : Type 0} where
  -- The first path that stops.
  abbrev pub StopsFirst : List (Path S) → (n p : ℕ) → Concerned S → Type 0
  StopsFirst xs n p u = First (λ x. (s : S) × (x.ending ≡ arrives s)) (λ x. x.ending ≡ stops n p u) xs

  pub stop_ends : (xs : List (Path S)) (n p : ℕ) (u : Concerned S) → StopsFirst xs n p u → Ends xs (stops n p u)
  stop_ends xs n p u f = has_ends xs f.here (stops n p u) (first_has f) f.so

  abbrev StopSays : List (Path S) → End S → Type 0
  StopSays xs fine = Stops xs → ⊥
  StopSays xs (missed p s) = ⊥
  StopSays xs (stopped n p u) = StopsFirst xs n p u

  stop_says : (xs : List (Path S)) → StopSays xs (first_stop xs)
  unfolding first_stop stop_of
  stop_says [] = λ h. h.3
  stop_says (x ∷ xs) = by_ending x.ending refl (first_stop xs) (stop_says xs)
    where
      by_ending : (g : Ending S) → g ≡ x.ending → (w : End S) → StopSays xs w → StopSays (x ∷ xs) (stop_of g w)
      by_ending (arrives u) q fine no_stop = λ h. ⊎_elim (λ r. arrives≢stops (q ∙ sym r)) (λ k. no_stop (h.0, h.1, h.2, k)) h.3
      by_ending (arrives u) q (stopped n p s) stop = first_later (u, sym q) stop
      by_ending (arrives u) q (missed p s) none = none
      by_ending (stops n p s) q w stop = first_here (sym q)

  -- The first path that stops is the walk's stop.
  pub first_stop_is : (xs : List (Path S)) (n p : ℕ) (u : Concerned S) → StopsFirst xs n p u → first_stop xs ≡ stopped n p u
  unfolding first_stop stop_of
  first_stop_is xs n p u f = ap first_stop f.split ∙ through f.before f.otherwise
    where
      through : (before : List (Path S)) → ((x : Path S) → Has before x → (s : S) × (x.ending ≡ arrives s)) → first_stop (before ++ (f.here ∷ f.after)) ≡ stopped n p u
      through [] others = ap (λ (e : Ending S). stop_of e (first_stop f.after)) f.so
      through (x ∷ before) others =
          ap (λ (e : Ending S). stop_of e (first_stop (before ++ (f.here ∷ f.after)))) (others x (inl refl)).1 ∙ through before (λ y h. others y (inr h))

module _ {S : Type 0} (miss : S → Found) where
  -- The first path that misses.
  abbrev pub MissesFirst : List (Path S) → ℕ → S → Type 0
  MissesFirst xs p s = First (λ x. (u : S) → x.ending ≡ arrives u → miss u ≡ nowhere) (λ x. (x.ending ≡ arrives s) × (miss s ≡ at p)) xs

  pub miss_ends : (xs : List (Path S)) (p : ℕ) (s : S) → MissesFirst xs p s → Ends xs (arrives s)
  miss_ends xs p s f = has_ends xs f.here (arrives s) (first_has f) f.so.0

  abbrev MissSays : List (Path S) → End S → Type 0
  MissSays xs fine = (u : S) → Ends xs (arrives u) → miss u ≡ nowhere
  MissSays xs (missed p s) = MissesFirst xs p s
  MissSays xs (stopped n p u) = ⊥

  miss_says : (xs : List (Path S)) → MissSays xs (first_miss miss xs)
  unfolding first_miss
  miss_says [] = λ u h. absurd h
  miss_says (x ∷ xs) = by_ending x.ending refl (first_miss miss xs) (miss_says xs)
    where
      later : (w : End S) → MissSays xs w → ((u : S) → arrives u ≡ x.ending → miss u ≡ nowhere) → MissSays (x ∷ xs) w
      later fine none here = λ u. ⊎_elim (here u) (none u)
      later (missed p s) w here = first_later (λ u q. here u (sym q)) w
      later (stopped n p u) w here = w

      by_ending : (g : Ending S) → g ≡ x.ending → (w : End S) → MissSays xs w → MissSays (x ∷ xs) (miss_of miss g w)
      by_ending (arrives u) q w says =
          by_found (miss u)
          (λ r. rw (misses_not miss u w r) (later w says (λ v k. ap miss (arrives_same (k ∙ sym q)) ∙ r)))
          (λ p r. rw (misses_here miss u w p r) (first_here (sym q, r)))
      by_ending (stops n p s) q w says = unfold miss_of in later w says (λ v k. absurd (arrives≢stops (k ∙ sym q)))

  -- No path stops and none misses anything, exactly where each arrives and misses nothing.
  pub fine_each : (xs : List (Path S)) → ((Stops xs → ⊥) × ((u : S) → Ends xs (arrives u) → miss u ≡ nowhere)) ↔ ((x : Path S) → Has xs x → (u : S) × (x.ending ≡ arrives u) × (miss u ≡ nowhere))
  fine_each xs = (
    λ w x has. let there = all_arrive xs w.0 x has in (there.0, there.1, w.1 there.0 (has_ends xs x (arrives there.0) has there.1)),
    λ each. (
      λ stop. let x = ends_has xs _ stop.3 in arrives≢stops (sym (each x.0 x.1).1 ∙ x.2),
      λ u ends. let x = ends_has xs (arrives u) ends in let fine = each x.0 x.1 in ap miss (arrives_same (sym x.2 ∙ fine.1)) ∙ fine.2,
    ),
  )

  -- What the end of the walk along a list says of it.
  abbrev pub Says : List (Path S) → End S → Type 0
  Says xs fine = (Stops xs → ⊥) × ((u : S) → Ends xs (arrives u) → miss u ≡ nowhere)
  Says xs (missed p s) = (Stops xs → ⊥) × MissesFirst xs p s
  Says xs (stopped n p u) = StopsFirst xs n p u

  pub end_says : (xs : List (Path S)) → Says xs (walked_along miss xs).end
  unfolding walked_along stop_or_miss
  end_says xs = by_both (first_stop xs) (first_miss miss xs) (stop_says xs) (miss_says xs)
    where
      by_both : (v w : End S) → StopSays xs v → MissSays xs w → Says xs (stop_or_miss v w)
      by_both fine fine no_stop says = (no_stop, says)
      by_both fine (missed p s) no_stop says = (no_stop, says)
      by_both fine (stopped n p u) no_stop says = absurd says
      by_both (missed p s) w stop says = absurd stop
      by_both (stopped n p u) w stop says = stop

-- MISSES. Nothing in a list of entries is missed exactly where each of its values passes.
pub none_missed : {A : Type 0} (test : A → Bool) (es : List (EntryOver A)) → (first_missed test es ≡ nowhere) ↔ (each_of test (values es) ≡ true)
unfolding first_missed each_of values
none_missed test [] = (λ _. refl, λ _. refl)
none_missed test (e ∷ es) = (
  λ q. pick-cases _ _ _ q (λ t k. both_true _ _ t ((none_missed test es).0 k)) (λ _ k. absurd (at≢nowhere k)),
  λ q. pick_true _ _ _ (both_left _ _ q) ∙ (none_missed test es).1 (both_right _ _ q),
)
