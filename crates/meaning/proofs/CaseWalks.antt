-- The walk by cases is the walk without the limit, or it stops with 44 and counts no more: two steps that do the same wherever the first is not refused so
-- walk alike up to the first such refusal, which ends the first walk. By induction on the plan. Each stop of it is a 2 with a state, or a 44 without one.
-- Assumes nothing.
use Prim.Native.Nat.{ℕ, ◌≤◌}
use native.Mathlib.Omega.{arith}
use mathlib.Core.Path.{◌≡◌, refl, sym, ◌∙◌, ap, subst}
use mathlib.Core.Logic.{◌⊎◌, inl, inr, ⊎_elim}
use Rattle.meaning.specs.Tests.{each_of}
use Rattle.meaning.specs.Limits
use Rattle.meaning.specs.Requests.{Table, Sequence, done, item, Item, act, branching, Branches, none, branch, Request}
use Rattle.meaning.specs.Refusals.{Found, nowhere, at}
use Rattle.meaning.specs.States.{State, Outcome, single, fork, outcome_to}
use Rattle.meaning.specs.Walk.{Concerned, no_state, in_state, End, fine, missed, stopped, Walked, stopped_at, counted, keep_miss, after_miss, after_end, and_then, each_reading, Step, leads_to, refuses, Steps, after_step, unless_broken, meet, run_action, walk, walk_item, walk_branch, judged}
use Rattle.meaning.specs.ByCases.{after_cases, too_many, cases_does, cases_step, walked_by_cases}
use Rattle.meaning.proofs.TestLaws.{by-test, pick_true, pick_false}
use Rattle.meaning.proofs.RefusalLaws.{at≢nowhere}
use Rattle.meaning.proofs.KeptEnds.{on_places, any_outcome, EndSo, cases_does_so, judged_so}
use Rattle.meaning.proofs.WithinLaws.{Never, so_never}
use Rattle.meaning.proofs.CaseSteps.{unlimited_does, unlimited_step}

-- One walk after another counts no less than the first.
then_counts : {S : Type 0} (w : Walked S) (more : Unit {0} → Walked S) → w.count ≤ (and_then w more).count
unfolding and_then after_end counted after_miss
then_counts {S} w more = by_end w.end
  where
    by_end : (e : End S) → w.count ≤ (after_end e w.count more).count
    by_end fine = omega arith
    by_end (missed p s) = omega arith
    by_end (stopped m p s) = omega arith

-- TWO WALKS. They are the same, or the first stops with this number and state, and counts no more.
module _ {S : Type 0} (n : ℕ) (u : Concerned S) where
  abbrev pub Limited : Walked S → Walked S → Type 0
  Limited v w = (v ≡ w) ⊎ ((p : ℕ) × (v.end ≡ stopped n p u) × (v.count ≤ w.count))

  counted_limited : (c : ℕ) (v w : Walked S) → Limited v w → Limited (counted c v) (counted c w)
  unfolding counted
  counted_limited c v w (inl same) = inl (ap (counted c) same)
  counted_limited c v w (inr stop) = inr (stop.0, stop.1, omega (arith, stop.2))

  -- One after another.
  then_limited : (v w : Walked S) (more last : Unit {0} → Walked S) → Limited v w → Limited (more tt) (last tt) → Limited (and_then v more) (and_then w last)
  unfolding and_then after_end counted after_miss keep_miss
  then_limited v w more last (inr stop) later =
      inr (stop.0, ap (λ (e : End S). (after_end e v.count more).end) stop.1, omega (arith, stop.2, ap (λ (e : End S). (after_end e v.count more).count) stop.1, then_counts w last))
  then_limited v w more last (inl same) later = subst (λ (x : Walked S). Limited (and_then v more) (and_then x last)) same (by_end v.end later)
    where
      by_end : (e : End S) → Limited (more tt) (last tt) → Limited (after_end e v.count more) (after_end e v.count last)
      by_end fine (inl alike) = inl (ap (counted v.count) alike)
      by_end fine (inr stop) = inr (stop.0, stop.1, omega (arith, stop.2))
      by_end (missed p s) (inl alike) = inl (ap (λ (x : Walked S). counted v.count (after_miss p s x)) alike)
      by_end (missed p s) (inr stop) = inr (stop.0, ap (keep_miss p s) stop.1, omega (arith, stop.2))
      by_end (stopped m p s) h = inl refl

  each_limited : (o : Outcome S) (j k : S → Walked S) → ((s : S) → Limited (j s) (k s)) → Limited (each_reading o j) (each_reading o k)
  unfolding each_reading
  each_limited (single s) j k then = then s
  each_limited (fork o p) j k then = then_limited (each_reading o j) (each_reading o k) (λ _. each_reading (p tt) j) (λ _. each_reading (p tt) k) (each_limited o j k then) (each_limited (p tt) j k then)

  -- Two steps do the same, or the first is refused so.
  abbrev pub LimitsTo : Step S → Step S → Type 0
  LimitsTo x y = (x ≡ y) ⊎ (x ≡ refuses n u)

  step_limited : (p : ℕ) (x y : Step S) → LimitsTo x y → (j k : S → Walked S) → ((s : S) → Limited (j s) (k s)) → Limited (after_step p x j) (after_step p y k)
  unfolding after_step stopped_at
  step_limited p x y (inr refused) j k then = inr (p, ap (λ (z : Step S). (after_step p z j).end) refused, omega (arith, ap (λ (z : Step S). (after_step p z j).count) refused))
  step_limited p x y (inl same) j k then = subst (λ (z : Step S). Limited (after_step p x j) (after_step p z k)) same (by_step x)
    where
      by_step : (z : Step S) → Limited (after_step p z j) (after_step p z k)
      by_step (leads_to o) = counted_limited 1 (each_reading o j) (each_reading o k) (each_limited o j k then)
      by_step (refuses m v) = inl refl

  -- A state that is met.
  met_limited : (f : Found) (s : S) (v w : Walked S) → Limited v w → Limited (unless_broken f s v) (unless_broken f s w)
  met_limited nowhere s v w h = h
  met_limited (at p) s v w h = inl refl

  module _ {L : Type 0} (step other : Steps S L) (knows : step.knows ≡ other.knows) (lacks : step.lacks ≡ other.lacks) (does : (a : ℕ) (s : S) → LimitsTo (step.does a s) (other.does a s)) where
    mutual
      unfolding walk run_action

      pub walk_limited : (b : Sequence L) (j k : S → Walked S) → ((s : S) → Limited (j s) (k s)) → (s : S) → Limited (walk step b j s) (walk other b k s)
      walk_limited done j k then s = then s
      walk_limited (item i rest) j k then s = item_limited i (walk step rest j) (walk other rest k) (walk_limited rest j k then) s

      item_limited : (i : Item L) (j k : S → Walked S) → ((s : S) → Limited (j s) (k s)) → (s : S) → Limited (walk_item step i j s) (walk_item other i k s)
      item_limited (act p a) j k then s =
          step_limited p (step.does a s) (other.does a s) (does a s) (meet step j) (meet other k)
          (λ v. subst (λ (g : S → Found). Limited (meet step j v) (unless_broken (g v) v (k v))) lacks (met_limited (step.lacks v) v (j v) (k v) (then v)))
      item_limited (branching p bs) j k then s = branch_limited bs p j k then s

      branch_limited : (bs : Branches L) (p : ℕ) (j k : S → Walked S) → ((s : S) → Limited (j s) (k s)) → (s : S) → Limited (walk_branch step bs p j s) (walk_branch other bs p k s)
      branch_limited none p j k then s = inl refl
      branch_limited (branch c b bs) p j k then s =
          let is = ap (λ (g : S → L → _). each_of (g s) c) knows in
          by-test (each_of (step.knows s) c)
          (λ t. subst (λ (v : Walked S). Limited v (walk_branch other (branch c b bs) p k s)) (sym (pick_true _ _ _ t)) (subst (Limited (walk step b j s)) (sym (pick_true _ _ _ (sym is ∙ t))) (walk_limited b j k then s)))
          (λ e. subst (λ (v : Walked S). Limited v (walk_branch other (branch c b bs) p k s)) (sym (pick_false _ _ _ e)) (subst (Limited (walk_branch step bs p j s)) (sym (pick_false _ _ _ (sym is ∙ e))) (branch_limited bs p j k then s)))

-- BY CASES.
does_limited : (t : Table) (a : ℕ) (s : State) → LimitsTo Limits.too_many_cases no_state (cases_does t a s) (unlimited_does t a s)
unfolding cases_does unlimited_does
does_limited t a s = by-test (too_many t a s) (λ many. inr (pick_true _ _ _ many)) (λ few. inl (pick_false _ _ _ few))

module _ (r : Request) (s : State) where
  abbrev pub unlimited_walk : Walked State
  unlimited_walk = walk (unlimited_step r.table) r.plan (judged r) s

  pub counts_no_more : Limited Limits.too_many_cases no_state (walked_by_cases r s) unlimited_walk
  unfolding walked_by_cases cases_step unlimited_step
  counts_no_more = walk_limited Limits.too_many_cases no_state (cases_step r.table) (unlimited_step r.table) refl refl (does_limited r.table) r.plan (judged r) (judged r) (λ v. inl refl) s

  pub limited : (walked_by_cases r s ≡ unlimited_walk) ⊎ ((p : ℕ) × ((walked_by_cases r s).end ≡ stopped Limits.too_many_cases p no_state))
  limited = ⊎_elim inl (λ stop. inr (stop.0, stop.1)) counts_no_more

-- STOPS of the walk by cases: an item that can't be run stops it with 2, and the state; an action with too many cases stops it with 44, and no state.
abbrev pub CaseStop : ℕ → ℕ → Concerned State → Type 0
CaseStop n p u = ((n ≡ Limits.not_executable) × ((s : State) × (u ≡ in_state s))) ⊎ ((n ≡ Limits.too_many_cases) × (u ≡ no_state))

abbrev pub StuckByCases : End State → Type 0
StuckByCases = EndSo (λ _ _. Unit {0}) CaseStop

pub cases_stuck : (r : Request) (s : State) → StuckByCases (walked_by_cases r s).end
unfolding walked_by_cases cases_step
cases_stuck r s =
    judged_so (λ _ _. Unit {0}) CaseStop (λ _. Unit {0}) (λ _. Unit {0}) stuck (cases_step r.table)
    (λ a v _. cases_does_so (λ _ _. Unit {0}) CaseStop (λ _. Unit {0}) (λ _. Unit {0}) stuck (λ p _. inr (refl, refl)) r.table a v tt (any_outcome (outcome_to r.table a v (after_cases r.table a v))))
    (λ v _ p q. absurd (at≢nowhere (sym q))) r (λ v _ p _. tt) (on_places (λ _. Unit {0}) (λ _. tt) r.plan) s tt
  where
    stuck : (v : State) → Unit {0} → (p : ℕ) → Unit {0} → CaseStop Limits.not_executable p (in_state v)
    stuck v _ p _ = inl (refl, (v, refl))

-- No stop has another number than 2 and 44.
pub cases_never : (i : ℕ) → (i ≡ Limits.not_executable → ⊥) → (i ≡ Limits.too_many_cases → ⊥) → (r : Request) (s : State) → Never i (walked_by_cases r s).end
cases_never i not_2 not-44 r s =
    so_never i CaseStop (λ n p u stuck q. ⊎_elim (λ is. not_2 (sym q ∙ is.0)) (λ is. not-44 (sym q ∙ is.0)) stuck) (walked_by_cases r s).end (cases_stuck r s)
