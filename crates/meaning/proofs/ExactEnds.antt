-- The end of a walk and an approximation, where its actions go together with a transition function. Where a path ends the function leads from the least
-- initial a-state, and from every other initial one it leads to nothing that no path is below. So the answers past the refusals and within the budget are
-- exactly what the approximation says. Assumes nothing.
use Prim.Native.Nat.{ℕ, ◌*◌, ◌≤◌, ◌<◌}
use native.Mathlib.Omega.{arith}
use mathlib.Core.Path.{◌≡◌, refl, sym, ◌∙◌, subst}
use mathlib.Core.Bool.{Bool, true}
use mathlib.Core.List.{List}
use mathlib.Core.Logic.{⊎_elim, ◌↔◌}
use lib.Dec.{eqb}
use borrow.Author.Tests.{eqb-true, eq-eqb}
use Rattle.meaning.specs.Tests.{either, some_of, each_of, Has}
use Rattle.meaning.specs.Limits
use Rattle.meaning.specs.Limits.{Limits}
use Rattle.meaning.specs.Literals.{says_true, among}
use Rattle.meaning.specs.Requests.{Effect, Knowledge, Table, Request, values}
use Rattle.meaning.specs.Refusals.{nowhere, or_else}
use Rattle.meaning.specs.States.{State, known, known_whether, first_state}
use Rattle.meaning.specs.Walk.{End, fine, missed, stopped, Walked, Step, walk, first_missed, missed_in, judged}
use Rattle.meaning.specs.Approximation.{Pair, Disjoint, true_in, false_in, ◌≼◌, Result, failed, state, Results, extended, least, Initial, EntailsBy, EntailedBy}
use Rattle.meaning.specs.Paths.{Ending, arrives, stops, Path, paths}
use Rattle.meaning.specs.Reported.{pair_of}
use Rattle.meaning.proofs.TestLaws.{either_left, either_right, either_split, some_has, has_some, each_has, has_each}
use Rattle.meaning.proofs.KeptEnds.{Stuck}
use Rattle.meaning.proofs.WithinLaws.{answered, so_never, answered_else}
use Rattle.meaning.proofs.RefusalLaws.{at≢nowhere}
use Rattle.meaning.proofs.SettledLaws.{or_else_nowhere, Fit}
use Rattle.meaning.proofs.PathLaws.{walk_along}
use Rattle.meaning.proofs.RangeLaws.{Ranged}
use Rattle.meaning.proofs.EndLaws.{Ends, Stops, stop_ends, miss_ends, Says, end_says, none_missed}
use Rattle.meaning.proofs.PairLaws.{true_in_true, true_in_false, false_in_true, true_in_pair, pair_disjoint}
use Rattle.meaning.proofs.ToldLaws.{first_length, first_known, first_least}
use Rattle.meaning.proofs.CoverLaws.{result_of, knows_pair, knows_true, step_by, Below, Covered, Together, plan_reaches, plan_covers}

-- MISSES. An end state misses nothing exactly where every goal is known and every whether fluent is known whether.
pub met : (r : Request) (u : State) → (missed_in r u ≡ nowhere) ↔ ((each_of (known u) (values r.goals) ≡ true) × (each_of (known_whether u) (values r.whether) ≡ true))
unfolding missed_in or_else
met r u = (
  λ q. let w = or_else_nowhere (first_missed (known u) r.goals) _ q in ((none_missed _ r.goals).0 w.0, (none_missed _ r.whether).0 w.1),
  λ w. rw ((none_missed (known u) r.goals).1 w.0) ((none_missed (known_whether u) r.whether).1 w.1),
)

-- What is asked of a whether fluent.
abbrev pub whether_in : ℕ → Pair → Bool
whether_in f σ = either (true_in σ (says_true f)) (false_in σ (says_true f))

pub whether_pair : (u : State) (f : ℕ) → whether_in f (pair_of u) ≡ known_whether u f
unfolding known_whether pair_of
whether_pair u f = rw (true_in_true (pair_of u) f, false_in_true (pair_of u) f)

whether_grows : {σ δ : Pair} → σ ≼ δ → (f : ℕ) → whether_in f σ ≡ true → whether_in f δ ≡ true
whether_grows {σ} {δ} more f =
    rw (true_in_true σ f, false_in_true σ f, true_in_true δ f, false_in_true δ f)
    (λ e. ⊎_elim (λ k. either_left _ _ (more.T f k)) (λ k. either_right _ _ (more.F f k)) (either_split _ _ e))

-- THE LEAST INITIAL A-STATE is below every initial one.
least_below : (t : Table) (σ : Pair) → Initial t σ → least t ≼ σ
unfolding least among
least_below t σ initial = record { T = λ f e. sym (true_in_true σ f) ∙ fact _ e; F = λ f e. sym (true_in_false σ f) ∙ fact _ e }
  where
    fact : (l : ℕ) → some_of (eqb l) t.facts ≡ true → true_in σ l ≡ true
    fact l e = let w = some_has (eqb l) t.facts e in rw (eqb-true l w.0 w.2) (each_has _ t.facts w.0 initial.facts w.1)

-- INITIAL A-STATES of a table that was read.
module _ (lim : Limits) (room : lim.fluents ≤ lim.state) (t : Table) (ranged : Ranged lim t) where
  pub least_initial : Initial t (least t)
  unfolding among
  least_initial = record {
    disjoint = subst Disjoint (first_least lim room t ranged) (pair_disjoint (first_state lim t));
    facts = has_each _ t.facts (λ l h. subst (λ (σ : Pair). true_in σ l ≡ true) (first_least lim room t ranged)
        (true_in_pair (first_state lim t) l ∙ first_known lim room t ranged l ∙ has_some (eqb l) t.facts l h (eq-eqb l l refl)));
  }

  -- The lines are within states.
  pub effects_within : (x : Effect) → Has t.effects x → x.literal < 2 * lim.state
  effects_within x h = omega (arith, ranged.effects x h, ranged.fluents)

  pub knowledge_within : (k : Knowledge) → Has t.knowledge k → k.fluent < lim.state
  knowledge_within k h = omega (arith, ranged.knowledge k h, ranged.fluents)

  -- The first state is below every initial a-state.
  pub first_below : (σ : Pair) → Initial t σ → Below lim.state (first_state lim t) σ
  first_below σ initial = record {
    sized = first_length lim t;
    extends = rw (first_least lim room t ranged) (least_below t σ initial);
    disjoint = initial.disjoint;
  }

-- An answer's number that says exactly what the approximation by a transition function says: not executable where the plan fails from the least initial
-- a-state, verified where what is asked is entailed, and a goal missed where neither is so.
pub record Exactly (one : ℕ → Pair → Results) (r : Request) (number : ℕ) : Type 0 where
  pub fails : (number ≡ Limits.not_executable) ↔ extended one r.plan (least r.table) failed
  pub entailed : (number ≡ Limits.verified) ↔ EntailedBy one r
  pub neither : (number ≡ Limits.goal_missed) ↔ ((extended one r.plan (least r.table) failed → ⊥) × (EntailedBy one r → ⊥))

-- THE WALK'S END AND THE APPROXIMATION.
module _ (lim : Limits) (room : lim.fluents ≤ lim.state) (r : Request) (ranged : Ranged lim r.table) (fits : Fit r.plan)
    (does : ℕ → State → Step State) (one : ℕ → Pair → Results) (acts : Together lim.state does one) where
  -- The paths of the plan, and the end of its walk.
  abbrev pub paths_by : List (Path State)
  paths_by = paths (step_by does) r.plan (first_state lim r.table)

  abbrev pub walk_by : Walked State
  walk_by = walk (step_by does) r.plan (judged r) (first_state lim r.table)

  -- Where a path ends, the function leads from the least initial a-state.
  pub leads : (g : Ending State) → Ends paths_by g → extended one r.plan (least r.table) (result_of g)
  leads g h =
      subst (λ (σ : Pair). extended one r.plan σ (result_of g)) (first_least lim room r.table ranged)
      (plan_reaches lim.state does one acts r.plan (first_state lim r.table) (first_length lim r.table) g h).0

  -- Wherever it leads from an initial a-state, some path stops or ends below.
  covered : (σ : Pair) → Initial r.table σ → (x : Result) → extended one r.plan σ x → Covered lim.state paths_by x
  covered σ initial = plan_covers lim.state does one acts r.plan fits (first_state lim r.table) σ (first_below lim room r.table ranged σ initial)

  initially : Initial r.table (least r.table)
  initially = least_initial lim room r.table ranged

  not_failed : (Stops paths_by → ⊥) → extended one r.plan (least r.table) failed → ⊥
  not_failed none h = none (covered (least r.table) initially failed h)

  -- The walk stops exactly where the function fails from the least initial a-state.
  end_failed : (n : End State) → Stuck n → Says (missed_in r) paths_by n → (answered n ≡ Limits.not_executable) ↔ extended one r.plan (least r.table) failed
  end_failed fine stuck says = (λ q. absurd (omega arith), λ h. absurd (not_failed says.0 h))
  end_failed (missed p u) stuck says = (λ q. absurd (omega arith), λ h. absurd (not_failed says.0 h))
  end_failed (stopped m p u) stuck says = (λ _. leads (stops m p u) (stop_ends paths_by m p u says), λ _. stuck.0)

  -- The walk is fine exactly where what is asked is entailed.
  pub end_entailed : (n : End State) → Stuck n → Says (missed_in r) paths_by n → (answered n ≡ Limits.verified) ↔ EntailedBy one r
  end_entailed fine stuck says = (
    λ _. (
      entails (λ σ. each_of (true_in σ) (values r.goals)) (λ u δ more q. knows_true u δ more _ ((met r u).0 q).0),
      λ f h. entails (whether_in f) (λ u δ more q. whether_grows more f (whether_pair u f ∙ each_has _ (values r.whether) f ((met r u).0 q).1 h)),
    ),
    λ _. refl,
  )
    where
      entails : (asked : Pair → Bool) → ((u : State) (δ : Pair) → pair_of u ≼ δ → missed_in r u ≡ nowhere → asked δ ≡ true) → EntailsBy r.table one r.plan asked
      entails asked after = record {
        executable = λ σ i h. says.0 (covered σ i failed h);
        true_after = λ σ i δ h. ⊎_elim (λ stop. absurd (says.0 stop)) (λ w. after w.0 δ w.2.extends (says.1 w.0 w.1)) (covered σ i (state δ) h);
      }
  end_entailed (missed p u) stuck says = (λ q. absurd (omega arith), λ k. absurd (at≢nowhere (sym says.1.so.1 ∙ (met r u).1 (goals k, whether k))))
    where
      led : extended one r.plan (least r.table) (state (pair_of u))
      led = leads (arrives u) (miss_ends (missed_in r) paths_by p u says.1)

      goals : EntailedBy one r → each_of (known u) (values r.goals) ≡ true
      goals k = sym (knows_pair u _) ∙ k.0.true_after (least r.table) initially (pair_of u) led

      whether : EntailedBy one r → each_of (known_whether u) (values r.whether) ≡ true
      whether k = has_each _ _ (λ f h. sym (whether_pair u f) ∙ (k.1 f h).true_after (least r.table) initially (pair_of u) led)
  end_entailed (stopped m p u) stuck says = (
    λ q. absurd (omega (arith, stuck.0)),
    λ k. absurd (k.0.executable (least r.table) initially (leads (stops m p u) (stop_ends paths_by m p u says))),
  )

  pub end_says_by : Says (missed_in r) paths_by walk_by.end
  unfolding judged
  end_says_by =
      subst (λ (w : Walked State). Says (missed_in r) paths_by w.end) (sym (walk_along (missed_in r) (step_by does) r.plan (first_state lim r.table))) (end_says (missed_in r) paths_by)

  -- Where each stop is at an item that can't be run, the number of the walk's end says what the approximation says.
  pub exactly : Stuck walk_by.end → (number : ℕ) → number ≡ answered walk_by.end → Exactly one r number
  exactly stuck number is = record {
    fails = failed_is;
    entailed = entailed_is;
    neither = (
      λ q. (λ h. omega (arith, q, failed_is.1 h), λ k. omega (arith, q, entailed_is.1 k)),
      λ w. is ∙ answered_else walk_by.end (so_never _ _ (λ n p u at_item q. w.0 (failed_is.0 (is ∙ sym q ∙ at_item.0))) walk_by.end stuck) (λ q. w.1 (entailed_is.0 (is ∙ q))),
    );
  }
    where
      failed_is : (number ≡ Limits.not_executable) ↔ extended one r.plan (least r.table) failed
      failed_is = rw is (end_failed walk_by.end stuck end_says_by)

      entailed_is : (number ≡ Limits.verified) ↔ EntailedBy one r
      entailed_is = rw is (end_entailed walk_by.end stuck end_says_by)
