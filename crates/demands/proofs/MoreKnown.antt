-- A walk from a state that knows more, by the table's step or one that does no less: where the walk by the table's from a state that knows less is verified,
-- this one is, with a count no larger. The same actions can be run, each leads to a state that knows no less, the same branch is chosen, since the others exclude it, and where the first state forks and the
-- second knows the fluent, one reading stands for two. By induction over the plan; what follows an item is carried through as such a pair of
-- walks. Assumes nothing.
use Prim.Native.Nat.{ℕ, ◌+◌, ◌*◌, ◌≤◌, ◌<◌}
use native.Mathlib.Omega.{arith}
use mathlib.Core.Path.{◌≡◌, refl, sym, ◌∙◌, ap, subst}
use mathlib.Core.Bool.{Bool, true, false}
use mathlib.Core.List.{List, [], ◌∷◌}
use mathlib.Core.Logic.{◌⊎◌, inl, inr, ⊎_elim}
use native.Mathlib.Decide.{ℕ_discrete}
use lib.ListN.{length, length-set}
use Rattle.meaning.specs.Tests.{both, fails, pick, each_of, those_of, Has}
use Rattle.meaning.specs.Limits
use Rattle.meaning.specs.Literals.{says_true, says_false, fluent_of}
use Rattle.meaning.specs.Requests.{Effect, Knowledge, Table, Sequence, done, item, Item, act, branching, Branches, none, branch}
use Rattle.meaning.specs.Refusals.{Found, nowhere, conditions_of, all_exclusive}
use Rattle.meaning.specs.Lines.{executability_of, knowledge_of, allowed, sensing, senses}
use Rattle.meaning.specs.States.{State, mark_of, known, known_whether, told, can_be_run, state_after, unknown_from, unknown_sensed, single, readings, outcome_to, outcome}
use Rattle.meaning.specs.Walk.{in_state, End, fine, missed, stopped, Walked, stopped_at, counted, after_end, and_then, each_reading, leads_to, refuses, Steps, after_step, unless_broken, meet, run_action, walk, walk_item, walk_branch, table_does, table_step}
use Rattle.meaning.specs.Approximation.{◌≼◌}
use Rattle.meaning.specs.Reported.{pair_of}
use Rattle.meaning.proofs.TestLaws.{by-test, clash, both_left, both_right, either_left, either_right, either_split, fails_false, pick_true, pick_false, each_has, some_mono, each_mono}
use Rattle.meaning.proofs.PickLaws.{pick_has}
use Rattle.meaning.proofs.Sound.{then_verified}
use Rattle.meaning.proofs.RefusalLaws.{exclusive_clash}
use Rattle.meaning.proofs.SettledLaws.{Fit, FitItem, FitBranches}
use Rattle.meaning.proofs.LiteralLaws.{fluent_true, fluent_false, same_fluent}
use Rattle.meaning.proofs.StateLaws.{known_one, after_length}
use Rattle.meaning.proofs.PairLaws.{ResGrows, pair_after, true_in_pair, true_grows}
use Rattle.meaning.proofs.ToldLaws.{told_here, told_elsewhere}
use Rattle.demands.proofs.UnknownLaws.{whether_elsewhere}
use Rattle.meaning.proofs.SensingLaws.{Distinct, unknown_distinct, read_is}

-- WALKS. The one is no worse than the other: where that is verified, it is, with a count no larger.
module _ {S : Type 0} where
  abbrev pub NoWorse : Walked S → Walked S → Type 0
  NoWorse v w = w.end ≡ fine → (v.end ≡ fine) × (v.count ≤ w.count)

  -- What ends fine has missed nothing, and nothing stopped it.
  abbrev pub Fine : End S → Type 0
  Fine fine = Unit {0}
  Fine (missed p s) = ⊥
  Fine (stopped n p u) = ⊥

  -- One walk after another is verified where both are, and then counts both.
  pub both_fine : (w : Walked S) (more : Unit {0} → Walked S) → w.end ≡ fine → (more tt).end ≡ fine → ((and_then w more).end ≡ fine) × ((and_then w more).count ≡ w.count + (more tt).count)
  unfolding and_then after_end counted
  both_fine w more p q = rw p (q, refl)

  pub then_fine : (w : Walked S) (more : Unit {0} → Walked S) → (and_then w more).end ≡ fine → (w.end ≡ fine) × ((more tt).end ≡ fine) × ((and_then w more).count ≡ w.count + (more tt).count)
  then_fine w more q = let parts = then_verified w more q in (parts.0, parts.1, (both_fine w more parts.0 parts.1).1)

-- STATES of one length, the second of which knows whatever the first does.
pub record KnowsMore (size : ℕ) (s u : State) : Type 0 where
  pub first : length s ≡ size
  pub second : length u ≡ size
  pub more : (l : ℕ) → known s l ≡ true → known u l ≡ true

known_pair : (s u : State) → ((l : ℕ) → known s l ≡ true → known u l ≡ true) → pair_of s ≼ pair_of u
unfolding pair_of
known_pair s u more = record { T = λ f. more (says_true f); F = λ f. more (says_false f) }

pair_known : (s u : State) → pair_of s ≼ pair_of u → (l : ℕ) → known s l ≡ true → known u l ≡ true
pair_known s u more l e = sym (true_in_pair u l) ∙ true_grows more l (true_in_pair s l ∙ e)

pub whether_more : (s u : State) → ((l : ℕ) → known s l ≡ true → known u l ≡ true) → (f : ℕ) → known_whether s f ≡ true → known_whether u f ≡ true
unfolding known_whether
whether_more s u more f e = ⊎_elim (λ k. either_left _ _ (more _ k)) (λ k. either_right _ _ (more _ k)) (either_split _ _ e)

module _ (size : ℕ) where
  -- A LITERAL TOLD to both, or to the first alone where the second knows it.
  module _ (l : ℕ) (s u : State) (within : fluent_of l < size) (k : KnowsMore size s u) where
    inside : fluent_of l < length s
    inside = omega (arith, within, k.first)

    inside_too : fluent_of l < length u
    inside_too = omega (arith, within, k.second)

    -- What the first knows once it is told: the literal, and what it knew of other fluents.
    told_knows : (j : ℕ) → known (told l s) j ≡ true → (j ≡ l) ⊎ ((fluent_of j ≡ fluent_of l → ⊥) × (known s j ≡ true))
    told_knows j e =
        elim (ℕ_discrete (fluent_of j) (fluent_of l)) [
          | yes same ↦ ⊎_elim inl (λ q. clash (rw q at e) (known_one (told l s) l (told_here l s inside))) (same_fluent j l same)
          | no other ↦ inr (other, sym (told_elsewhere l s inside j other) ∙ e)
        ]

    told_both : KnowsMore size (told l s) (told l u)
    unfolding told
    told_both = record {
      first = length-set s (fluent_of l) (mark_of l) ∙ k.first;
      second = length-set u (fluent_of l) (mark_of l) ∙ k.second;
      more = λ j e.
          ⊎_elim (λ q. rw q (told_here l u inside_too)) (λ w. told_elsewhere l u inside_too j w.0 ∙ k.more j w.1) (told_knows j e);
    }

    told_first : known u l ≡ true → KnowsMore size (told l s) u
    unfolding told
    told_first has = record {
      first = length-set s (fluent_of l) (mark_of l) ∙ k.first;
      second = k.second;
      more = λ j e. ⊎_elim (λ q. rw q has) (λ w. k.more j w.1) (told_knows j e);
    }

  -- What follows the one walk is no worse than what follows the other, from a state that knows more.
  abbrev pub Follows : (j k : State → Walked State) → Type 0
  Follows j k = (s u : State) → KnowsMore size s u → NoWorse (j u) (k s)

  -- READINGS. Of the fluents that the first reads, the second reads those that it doesn't know.
  abbrev unknown_of : State → List ℕ → List ℕ
  unknown_of u fs = those_of (λ (f : ℕ). fails (known_whether u f)) fs

  module _ (j k : State → Walked State) (follows : Follows j k) (whole : State) where
    -- From states whose second knows of these fluents what the whole state does, it is so for them.
    abbrev ReadingsFollow : List ℕ → Type 0
    ReadingsFollow fs = (s u : State) → KnowsMore size s u → ((f : ℕ) → Has fs f → known_whether u f ≡ known_whether whole f)
        → NoWorse (each_reading (readings (unknown_of whole fs) u) j) (each_reading (readings fs s) k)

    module _ (f : ℕ) (fs : List ℕ) (apart : Has fs f → ⊥) (near : f < size) (rest : ReadingsFollow fs)
        (s u : State) (more : KnowsMore size s u) (same : (g : ℕ) → Has (f ∷ fs) g → known_whether u g ≡ known_whether whole g) where
      -- Both are told.
      one_reading : (l : ℕ) → fluent_of l ≡ f → NoWorse (each_reading (readings (unknown_of whole fs) (told l u)) j) (each_reading (readings fs (told l s)) k)
      one_reading l is =
          rest (told l s) (told l u) (told_both l s u (omega (arith, is, near)) more) λ g has.
          whether_elsewhere l u (omega (arith, is, near, more.second)) g (λ q. apart (subst (Has fs) (q ∙ is) has)) ∙ same g (inr has)

      -- The second knows it.
      no_reading : (l : ℕ) → fluent_of l ≡ f → known u l ≡ true → NoWorse (each_reading (readings (unknown_of whole fs) u) j) (each_reading (readings fs (told l s)) k)
      no_reading l is has = rest (told l s) u (told_first l s u (omega (arith, is, near)) more has) λ g there. same g (inr there)

      one_more : NoWorse (each_reading (readings (unknown_of whole (f ∷ fs)) u) j) (each_reading (readings (f ∷ fs) s) k)
      unfolding readings each_reading those_of known_whether
      one_more q =
          let first = each_reading (readings fs (told (says_true f) s)) k in
          let second = each_reading (readings fs (told (says_false f) s)) k in
          let parts = then_fine first (λ _. second) q in
          pick_has (λ (gs : List ℕ). ((each_reading (readings gs u) j).end ≡ fine) × ((each_reading (readings gs u) j).count ≤ (each_reading (readings (f ∷ fs) s) k).count)) (fails (known_whether whole f)) _ _
          (λ reads.
          let one = one_reading (says_true f) (fluent_true f) parts.0 in
          let two = one_reading (says_false f) (fluent_false f) parts.1 in
          let all = both_fine (each_reading (readings (unknown_of whole fs) (told (says_true f) u)) j) (λ _. each_reading (readings (unknown_of whole fs) (told (says_false f) u)) j) one.0 two.0 in
          (all.0, omega (arith, all.1, parts.2, one.1, two.1)))
          (λ knows.
          let is_known : known_whether u f ≡ true = same f (inl refl) ∙ by-test (known_whether whole f) (λ t. t) (λ e. clash (fails_false _ e) knows) in
          ⊎_elim
          (λ t. let one = no_reading (says_true f) (fluent_true f) t parts.0 in (one.0, omega (arith, parts.2, one.1)))
          (λ t. let one = no_reading (says_false f) (fluent_false f) t parts.1 in (one.0, omega (arith, parts.2, one.1)))
          (either_split _ _ is_known))

    readings_more : (fs : List ℕ) → Distinct fs → ((f : ℕ) → Has fs f → f < size) → ReadingsFollow fs
    unfolding readings each_reading those_of
    readings_more [] apart within = λ s u more same. follows s u more
    readings_more (f ∷ fs) apart within = one_more f fs apart.0 (within f (inl refl)) (readings_more fs apart.1 (λ g has. within g (inr has)))

-- The fluents that the second state doesn't know are some of those that the first doesn't.
unknown_fewer : (ks : List Knowledge) (s u : State) → ((f : ℕ) → known_whether s f ≡ true → known_whether u f ≡ true) → (f : ℕ) (ms ns : List ℕ) → length ms ≡ length ns
    → unknown_from ks u f ns ≡ those_of (λ (g : ℕ). fails (known_whether u g)) (unknown_from ks s f ms)
unfolding unknown_from those_of pick both fails
unknown_fewer ks s u more f [] [] same = refl
unknown_fewer ks s u more f [] (n ∷ ns) same = absurd (omega (arith, same))
unknown_fewer ks s u more f (m ∷ ms) [] same = absurd (omega (arith, same))
unknown_fewer ks s u more f (m ∷ ms) (n ∷ ns) same = by_tests (senses ks f) (known_whether s f) (known_whether u f) (more f) refl (unknown_fewer ks s u more (f + 1) ms ns (omega (arith, same)))
  where
    fewer : List ℕ → List ℕ
    fewer fs = those_of (λ (g : ℕ). fails (known_whether u g)) fs

    by_tests : (reads one other : Bool) → (one ≡ true → other ≡ true) → known_whether u f ≡ other → unknown_from ks u (f + 1) ns ≡ fewer (unknown_from ks s (f + 1) ms)
        → pick (both reads (fails other)) (λ _. f ∷ unknown_from ks u (f + 1) ns) (λ _. unknown_from ks u (f + 1) ns)
        ≡ fewer (pick (both reads (fails one)) (λ _. f ∷ unknown_from ks s (f + 1) ms) (λ _. unknown_from ks s (f + 1) ms))
    by_tests false one other grows is ih = ih
    by_tests true true true grows is ih = ih
    by_tests true true false grows is ih = clash (grows refl) refl
    by_tests true false true grows is ih = ih ∙ sym (pick_false _ _ _ (ap fails is))
    by_tests true false false grows is ih = ap {B = List ℕ} (λ fs. f ∷ fs) ih ∙ sym (pick_true _ _ _ (ap fails is))

-- A STEP THAT DOES NO LESS than the table's: what it knows is what a state does, no state lacks a guard, and where an action can be run in a state, it leads one
-- that knows more to where the table's leads, but for the state after, which is to know more than the first's.
pub record DoesMore (t : Table) (size : ℕ) (step : Steps State ℕ) : Type 0 where
  pub knows : step.knows ≡ known
  pub lacks : step.lacks ≡ (λ _. nowhere)
  pub after : ℕ → State → State
  pub leads : (a : ℕ) (s u : State) → KnowsMore size s u → can_be_run t a s ≡ true → step.does a u ≡ leads_to (outcome_to t a u (after a u))
  pub more : (a : ℕ) (s u : State) → KnowsMore size s u → KnowsMore size (state_after t a s) (after a u)

-- The table's own is one, where its lines are within states of the size.
module _ (t : Table) (a : ℕ) (size : ℕ) (s u : State) (more : KnowsMore size s u) where
  pub runs_more : can_be_run t a s ≡ true → can_be_run t a u ≡ true
  unfolding can_be_run allowed
  runs_more = some_mono _ _ (λ x. each_mono _ _ more.more x.body) (executability_of t a)

  pub after_more : ((e : Effect) → Has t.effects e → e.literal < 2 * size) → KnowsMore size (state_after t a s) (state_after t a u)
  after_more effects_within = record {
    first = after_length t a s ∙ more.first;
    second = after_length t a u ∙ more.second;
    more = pair_known _ _ (rw (pair_after t a s (λ e h. rw more.first (effects_within e h)), pair_after t a u (λ e h. rw more.second (effects_within e h))) (ResGrows t a (known_pair s u more.more)));
  }

table_more : (t : Table) (size : ℕ) → ((e : Effect) → Has t.effects e → e.literal < 2 * size) → DoesMore t size (table_step t)
unfolding table_step table_does outcome
table_more t size effects_within =
    record {
      knows = refl;
      lacks = refl;
      after = state_after t;
      leads = λ a s u more runs. pick_true _ _ _ (runs_more t a size s u more runs);
      more = λ a s u more. after_more t a size s u more effects_within;
    }

-- AN ACTION, and what follows it.
module _ (t : Table) (size : ℕ) (step : Steps State ℕ) (does : DoesMore t size step) (j k : State → Walked State) (follows : Follows size j k) where
  module _ (a : ℕ) (s u : State) (more : KnowsMore size s u) where
    sensed_more : NoWorse (each_reading (readings (unknown_sensed t a u) u) j) (each_reading (readings (unknown_sensed t a s) s) k)
    unfolding unknown_sensed
    sensed_more =
        rw (unknown_fewer (knowledge_of t a) s u (whether_more s u more.more) 0 s u (more.first ∙ sym more.second))
        (readings_more size j k follows u (unknown_from (knowledge_of t a) s 0 s) (unknown_distinct (knowledge_of t a) s 0 s) within s u more (λ f h. refl))
      where
        within : (f : ℕ) → Has (unknown_from (knowledge_of t a) s 0 s) f → f < size
        within f h = let w = read_is t a s f h in omega (arith, w.0, more.first)

    outcome_more : NoWorse (each_reading (outcome_to t a u (does.after a u)) j) (each_reading (outcome t a s) k)
    unfolding outcome each_reading pick
    outcome_more = by_sensing (sensing t a)
      where
        by_sensing : (b : Bool) → NoWorse (each_reading (pick b (λ _. readings (unknown_sensed t a u) u) (λ _. single (does.after a u))) j) (each_reading (pick b (λ _. readings (unknown_sensed t a s) s) (λ _. single (state_after t a s))) k)
        by_sensing true = sensed_more
        by_sensing false = follows _ _ (does.more a s u more)

    act_more : (p : ℕ) → NoWorse (run_action step p a j u) (run_action (table_step t) p a k s)
    unfolding run_action table_step table_does after_step pick counted stopped_at
    act_more p = by_runs (can_be_run t a s) refl
      where
        none_lacked : meet step j ≡ j
        none_lacked = ap {B = State → Walked State} (λ (lacks : State → Found). λ v. unless_broken (lacks v) v (j v)) does.lacks

        by_runs : (b : Bool) → can_be_run t a s ≡ b
            → NoWorse (after_step p (step.does a u) (meet step j)) (after_step p (pick b (λ _. leads_to (outcome t a s)) (λ _. refuses Limits.not_executable (in_state s))) k)
        by_runs true runs = rw (does.leads a s u more runs, none_lacked) (λ q. let w = outcome_more q in (w.0, omega (arith, w.1)))
        by_runs false runs = λ q. absurd (subst Fine (sym q) tt)

-- THE WALK.
-- Where a branching is gone through, one of its conditions is known.
chosen : (t : Table) (bs : Branches ℕ) (p : ℕ) (k : State → Walked State) (s : State) → (walk_branch (table_step t) bs p k s).end ≡ fine → (c : List ℕ) × Has (conditions_of bs) c × (each_of (known s) c ≡ true)
unfolding walk table_step stopped_at conditions_of
chosen t none p k s q = absurd (subst Fine (sym q) tt)
chosen t (branch c b bs) p k s q =
    by-test (each_of (known s) c)
    (λ holds. (c, inl refl, holds))
    (λ not. let w = chosen t bs p k s (sym (ap (λ (v : Walked State). v.end) (pick_false _ _ _ not)) ∙ q) in (w.0, inr w.1, w.2))

module _ (t : Table) (size : ℕ) (step : Steps State ℕ) (does : DoesMore t size step) where
  mutual
    unfolding walk table_step conditions_of all_exclusive pick stopped_at

    pub step_more : (b : Sequence ℕ) → Fit b → (j k : State → Walked State) → Follows size j k → Follows size (walk step b j) (walk (table_step t) b k)
    step_more done fits j k follows s u more = follows s u more
    step_more (item i rest) fits j k follows s u more = item_more i fits.0 (walk step rest j) (walk (table_step t) rest k) (step_more rest fits.1 j k follows) s u more

    item_more : (i : Item ℕ) → FitItem i → (j k : State → Walked State) → Follows size j k → Follows size (walk_item step i j) (walk_item (table_step t) i k)
    item_more (act p a) fits j k follows s u more = act_more t size step does j k follows a s u more p
    item_more (branching p bs) fits j k follows s u more = branch_more bs p fits.0 fits.1 j k follows s u more

    branch_more : (bs : Branches ℕ) (p : ℕ) → all_exclusive (conditions_of bs) ≡ true → FitBranches bs → (j k : State → Walked State) → Follows size j k
        → Follows size (walk_branch step bs p j) (walk_branch (table_step t) bs p k)
    branch_more none p apart fits j k follows s u more = λ q. absurd (subst Fine (sym q) tt)
    branch_more (branch c b bs) p apart fits j k follows s u more =
        by_known (each_of (known s) c) (each_of (step.knows u) c) refl (ap (λ (knows : State → ℕ → Bool). each_of (knows u) c) (sym does.knows))
        (step_more b fits.0 j k follows s u more) (branch_more bs p (both_right _ _ apart) fits.1 j k follows s u more)
      where
        by_known : (one other : Bool) → each_of (known s) c ≡ one → each_of (known u) c ≡ other → NoWorse (walk step b j u) (walk (table_step t) b k s) → NoWorse (walk_branch step bs p j u) (walk_branch (table_step t) bs p k s)
            → NoWorse (pick other (λ _. walk step b j u) (λ _. walk_branch step bs p j u)) (pick one (λ _. walk (table_step t) b k s) (λ _. walk_branch (table_step t) bs p k s))
        by_known true true is is-too here later = here
        by_known true false is is-too here later = clash (each_mono _ _ more.more c is) is-too
        by_known false false is is-too here later = later
        by_known false true is is-too here later = λ q.
            let d = chosen t bs p k s q in
            absurd (exclusive_clash (known u) (known u) (λ l one two. clash two (known_one u l one)) c d.0 (each_has _ (conditions_of bs) d.0 (both_left _ _ apart) d.1) is-too (each_mono _ _ more.more d.0 d.2))

-- By the table's step on both sides.
pub walk_more : (t : Table) (size : ℕ) → ((e : Effect) → Has t.effects e → e.literal < 2 * size) → (b : Sequence ℕ) → Fit b → (j k : State → Walked State) → Follows size j k
    → Follows size (walk (table_step t) b j) (walk (table_step t) b k)
walk_more t size effects_within = step_more t size (table_step t) (table_more t size effects_within)
