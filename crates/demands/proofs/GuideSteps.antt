-- What comes next for a guide is what the walk does next, and what carrying the plan out runs next: the plan's end, or an action with what is left behind it, which
-- has fewer items on a path. The branch that is followed is the one whose condition is known true; by 18 no other condition holds in the true world. By induction on
-- the plan, with what comes next behind it. Assumes nothing.
use Prim.Native.Nat.{ℕ, suc, ◌+◌, ◌≤◌}
use native.Mathlib.Omega.{arith}
use mathlib.Core.Path.{◌≡◌, refl, sym, ap, subst, fun_ext}
use mathlib.Core.Bool.{true}
use mathlib.Core.List.{List, [], ◌∷◌}
use mathlib.Core.Logic.{inl, inr}
use Rattle.meaning.specs.Tests.{each_of, Has}
use Rattle.meaning.specs.Requests.{Table, Sequence, done, item, Item, act, branching, Branches, none, branch}
use Rattle.meaning.specs.Refusals.{nowhere, conditions_of}
use Rattle.meaning.specs.States.{State, known}
use Rattle.meaning.specs.Walk.{Walked, Verified, run_action, walk, walk_item, walk_branch, table_step}
use Rattle.meaning.specs.Worlds.{Domain, Worlds, Sure, Acted, World, table_domain}
use Rattle.meaning.specs.Derivations.{join}
use Rattle.meaning.specs.Values.{flags}
use Rattle.demands.specs.Depth.{most_items, most_in, most_below}
use Rattle.guidance.specs.Guides.{Ahead, the_end, an_action, no_branch, ahead_in, ahead_item, ahead_branch, ahead}
use Rattle.guidance.specs.Guided.{Runs, RunsItem, RunsChosen, RunsExactly}
use Rattle.meaning.proofs.TestLaws.{by-test, pick_true, pick_false}
use Rattle.meaning.proofs.WalkLaws.{OnConditions, OnConditionsItem, OnConditionsBelow}
use Rattle.meaning.proofs.Sound.{Known, sure, none_followed}
use Rattle.meaning.proofs.ValueSound.{Exclusive}
use Rattle.demands.proofs.JoinedWalk.{walk_joined}
use Rattle.demands.proofs.GuideReadings.{Right, table_sound}

-- PLANS JOINED.
items_joined : {L : Type 0} (p q : Sequence L) → most_items (join p q) ≡ most_items p + most_items q
unfolding most_items join
items_joined done q = omega arith
items_joined (item i p) q = let h = items_joined p q in omega arith

module _ {L : Type 0} (Apart : List (List L) → Type 0) where
  conditions_joined : (p q : Sequence L) → OnConditions Apart p → OnConditions Apart q → OnConditions Apart (join p q)
  unfolding join
  conditions_joined done q on-p on-q = on-q
  conditions_joined (item i p) q on-p on-q = (on-p.0, conditions_joined p q on-p.1 on-q)

module _ {W L R : Type 0} (d : Domain W L R) where
  runs_joined : (p q : Sequence L) (K : List ℕ → W → Worlds W → Type 0) → Runs d (join p q) K ≡ Runs d p (Runs d q K)
  unfolding join
  runs_joined done q K = refl
  runs_joined (item i p) q K =
      fun_ext λ (acts : List ℕ). fun_ext λ (u : W). fun_ext λ (Q : Worlds W).
      ap (λ (J : List ℕ → W → Worlds W → Type 0). RunsItem d i J acts u Q) (runs_joined p q K)

-- THE POSSIBLE WORLDS. The state is right in each of them, and the true one is among them: what demand 3's induction keeps, without guards.
pub no_guards : (t : Table) (s : State) → (table_step t).lacks s ≡ nowhere → each_of ((table_step t).knows s) [] ≡ true
unfolding each_of
no_guards t s lacks = refl

abbrev pub Possible : Table → World → Worlds World → State → Type 0
Possible t = Known (table_step t) (table_domain t) (Exclusive flags) Right (table_sound t) [] (no_guards t)

-- No action is left.
abbrev pub NoneLeft : List ℕ → World → Worlds World → Type 0
NoneLeft left u Q = left ≡ []

-- In a state, where k judges the plan's end.
module _ (t : Table) (k : State → Walked State) (s : State) (v : World) (P : Worlds World) (g : Possible t v P s) where
  abbrev Apart : List (List ℕ) → Type 0
  Apart = Exclusive flags

  known_sure : (c : List ℕ) → each_of (known s) c ≡ true → Sure (table_domain t) c P
  unfolding table_step
  known_sure c = sure (table_step t) (table_domain t) Apart Right (table_sound t) [] (no_guards t) c g

  -- A branch was followed, so some condition holds in the true world.
  some_followed : (j : State → Walked State) (bs : Branches ℕ) (p : ℕ) → Verified (walk_branch (table_step t) bs p j s)
      → ((e : List ℕ) → Has (conditions_of bs) e → each_of ((table_domain t).holds v) e ≡ true → ⊥) → ⊥
  some_followed j bs p = none_followed (table_step t) (table_domain t) Apart Right (table_sound t) [] (no_guards t) j bs p g

  -- WHAT COMES NEXT: the walk comes to the plan's end, and nothing more is run; or it runs the action and walks what is left behind it, and running the action
  -- and then what is left runs all.
  abbrev pub LedTo : Ahead → (most : ℕ) → (List ℕ → Type 0) → Type 0
  LedTo the_end m R = Verified (k s) × R []
  LedTo (an_action a rest) m R =
      (p : ℕ) × Verified (run_action (table_step t) p a (walk (table_step t) rest k) s) × (suc (most_items rest) ≤ m) × OnConditions Apart rest
      × ((acts : List ℕ) → Acted (table_domain t) a (Runs (table_domain t) rest NoneLeft acts) v P → R (a ∷ acts))
  LedTo no_branch m R = ⊥

  led_map : (x : Ahead) (m n : ℕ) (R Q : List ℕ → Type 0) → m ≤ n → ((acts : List ℕ) → R acts → Q acts) → LedTo x m R → LedTo x n Q
  led_map the_end m n R Q few then led = (led.0, then [] led.1)
  led_map (an_action a rest) m n R Q few then led = (led.0, led.1, omega (arith, few, led.2), led.3, λ acts h. then (a ∷ acts) (led.4 acts h))
  led_map no_branch m n R Q few then led = absurd led

  -- What comes next behind a part is what the walk of what is left behind it does next.
  abbrev Behind : Sequence ℕ → Ahead → Type 0
  Behind after x = Verified (walk (table_step t) after k s) → LedTo x (most_items after) (λ acts. Runs (table_domain t) after NoneLeft acts v P)

  mutual
    unfolding walk table_step conditions_of ahead_in most_items

    in_led : (b : Sequence ℕ) → OnConditions Apart b → (after : Sequence ℕ) → OnConditions Apart after → (next : Unit {0} → Ahead) → Behind after (next tt)
        → Verified (walk (table_step t) b (walk (table_step t) after k) s)
        → LedTo (ahead_in s b after next) (most_items b + most_items after) (λ acts. Runs (table_domain t) b (Runs (table_domain t) after NoneLeft) acts v P)
    in_led done on after on-after next then fine = led_map (next tt) _ _ _ _ (omega arith) (λ acts h. h) (then fine)
    in_led (item i b) on after on-after next then fine =
        let walks : walk (table_step t) (join b after) k ≡ walk (table_step t) b (walk (table_step t) after k) = fun_ext (walk_joined (table_step t) b after k) in
        let runs : Runs (table_domain t) (join b after) NoneLeft ≡ Runs (table_domain t) b (Runs (table_domain t) after NoneLeft) = runs_joined (table_domain t) b after NoneLeft in
        let many = items_joined b after in
        led_map (ahead_item s i (join b after) (λ _. ahead_in s b after next)) _ _ _ _ (omega (arith, many))
        (λ acts h. subst (λ (J : List ℕ → World → Worlds World → Type 0). RunsItem (table_domain t) i J acts v P) runs h)
        (item_led i on.0 (join b after) (conditions_joined Apart b after on.1 on-after) (λ _. ahead_in s b after next)
        (λ later.
        led_map (ahead_in s b after next) _ _ _ _ (omega (arith, many))
        (λ acts h. subst (λ (J : List ℕ → World → Worlds World → Type 0). J acts v P) (sym runs) h)
        (in_led b on.1 after on-after next then (subst (λ (j : State → Walked State). Verified (j s)) walks later)))
        (subst (λ (j : State → Walked State). Verified (walk_item (table_step t) i j s)) (sym walks) fine))

    item_led : (i : Item ℕ) → OnConditionsItem Apart i → (after : Sequence ℕ) → OnConditions Apart after → (next : Unit {0} → Ahead) → Behind after (next tt)
        → Verified (walk_item (table_step t) i (walk (table_step t) after k) s)
        → LedTo (ahead_item s i after next) (most_in i + most_items after) (λ acts. RunsItem (table_domain t) i (Runs (table_domain t) after NoneLeft) acts v P)
    item_led (act p a) on after on-after next then fine = (p, fine, omega arith, on-after, λ acts h. (refl, h))
    item_led (branching p bs) on after on-after next then fine =
        led_map (ahead_branch s bs after next) _ _ _ _ (omega arith) (λ acts h. h) (branch_led bs on.0 on.1 after on-after next then p fine)

    branch_led : (bs : Branches ℕ) → Apart (conditions_of bs) → OnConditionsBelow Apart bs → (after : Sequence ℕ) → OnConditions Apart after → (next : Unit {0} → Ahead) → Behind after (next tt)
        → (p : ℕ) → Verified (walk_branch (table_step t) bs p (walk (table_step t) after k) s)
        → LedTo (ahead_branch s bs after next) (most_below bs + most_items after) (λ acts. RunsChosen (table_domain t) bs (Runs (table_domain t) after NoneLeft) acts v P)
    branch_led none apart on after on-after next then p fine = some_followed (walk (table_step t) after k) none p fine (λ e m _. m)
    branch_led (branch c b bs) apart on after on-after next then p fine =
        by-test (each_of (known s) c)
        (λ q.
        subst (λ (x : Ahead). LedTo x (most_below (branch c b bs) + most_items after) (λ acts. RunsChosen (table_domain t) (branch c b bs) (Runs (table_domain t) after NoneLeft) acts v P)) (sym (pick_true _ _ _ q))
        (led_map (ahead_in s b after next) _ _ _ _ (omega arith) (λ acts h. inl (known_sure c q, h))
        (in_led b on.0 after on-after next then (subst Verified (pick_true _ _ _ q) fine))))
        (λ q.
        let later : Verified (walk_branch (table_step t) bs p (walk (table_step t) after k) s) = subst Verified (pick_false _ _ _ q) fine in
        subst (λ (x : Ahead). LedTo x (most_below (branch c b bs) + most_items after) (λ acts. RunsChosen (table_domain t) (branch c b bs) (Runs (table_domain t) after NoneLeft) acts v P)) (sym (pick_false _ _ _ q))
        (led_map (ahead_branch s bs after next) _ _ _ _ (omega arith)
        (λ acts h. inr (
          λ sc. some_followed (walk (table_step t) after k) bs p later ((table_sound t).apart c (conditions_of bs) apart v s (g.agree v g.actual) (sc v g.actual)),
          h,
        ))
        (branch_led bs ((table_sound t).others c (conditions_of bs) apart) on.1 after on-after next then p later)))

  -- Of the whole of what is left.
  pub ahead_led : (b : Sequence ℕ) → OnConditions Apart b → Verified (walk (table_step t) b k s) → LedTo (ahead s b) (most_items b) (λ acts. RunsExactly (table_domain t) b acts v P)
  unfolding ahead walk most_items
  ahead_led b on fine = led_map (ahead s b) _ _ _ _ (omega arith) (λ acts h. h) (in_led b on done tt (λ _. the_end) (λ at-end. (at-end, refl)) fine)
