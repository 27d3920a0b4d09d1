-- How deep a walk goes, by the items on its paths: a bound that grows with the items left and is kept by each step is kept by a plan, by
-- induction on the plan with the bound of what follows. A plan that was read has no more items on a path than in all. Hence the walks that lie
-- one inside another are at most one more than the items. Assumes nothing.
use Prim.Native.Nat.{ℕ, zero, suc, ◌+◌, ◌-◌, ◌≤◌, max}
use native.Mathlib.Omega.{arith}
use mathlib.Core.Path.{◌≡◌, refl, ◌∙◌, subst}
use mathlib.Core.List.{List}
use borrow.Author.Tests.{leb-false}
use Rattle.meaning.specs.Limits.{Limits}
use Rattle.meaning.specs.Requests.{Sequence, done, item, Item, act, branching, Branches, none, branch, Request}
use Rattle.meaning.specs.declared.Form.TheVariants.{Flags}
use Rattle.meaning.specs.Reading.{got, Met, plan_at, read_request, request_at, table_at, list_at, literals, fluents}
use Rattle.meaning.specs.States.{Outcome, single, fork}
use Rattle.meaning.specs.Walk.{Step, leads_to, refuses, Steps}
use Rattle.demands.specs.Depth.{forked, outcome_deep, step_deep, deep, deep_item, deep_branch, depth, walks_deep, most_items, most_in, most_below}
use Rattle.meaning.proofs.PickLaws.{pick_has}
use Rattle.meaning.proofs.PlanReads.{Said, PassedOn, plan_on}
use Rattle.meaning.proofs.SettledLaws.{got_same}
use Rattle.meaning.proofs.RangeLaws.{not_refused, after_got}

-- A BOUND by the items left and the state.
module _ {S L : Type 0} (reading walk : ℕ) (step : Steps S L) (bound : ℕ → S → ℕ) where
  -- What follows with a given number of items left is within the bound.
  abbrev pub Within : ℕ → (S → ℕ) → Type 0
  Within left k = (s : S) → k s ≤ bound left s

  -- Each step keeps it with one item more.
  pub record Keeps : Type 0 where
    pub by_action : (left a : ℕ) (k : S → ℕ) → Within left k → (s : S) → step_deep reading walk (step.does a s) k ≤ bound (suc left) s
    pub by_branch : (left : ℕ) (s : S) → walk + bound left s ≤ bound (suc left) s

  module _ (keeps : Keeps) where
    -- More items left allow no less.
    more_left : (more left total d : ℕ) (s : S) → total ≡ more + left → d ≤ bound left s → d ≤ bound total s
    more_left zero left total d s q h = subst (λ (n : ℕ). d ≤ bound n s) (omega arith) h
    more_left (suc more) left total d s q h =
        let g = more_left more left (more + left) d s refl h in
        let f = keeps.by_branch (more + left) s in
        subst (λ (n : ℕ). d ≤ bound n s) {x = suc (more + left)} (omega arith) (omega arith)

    pub at_least : (left total d : ℕ) (s : S) → left ≤ total → d ≤ bound left s → d ≤ bound total s
    at_least left total d s few h = more_left (total - left) left total d s (omega arith) h

    mutual
      unfolding deep most_items

      pub deep_within : (p : Sequence L) (left : ℕ) (k : S → ℕ) → Within left k → Within (most_items p + left) (deep reading walk step p k)
      deep_within done left k within s = at_least left _ _ s (omega arith) (within s)
      deep_within (item i rest) left k within s =
          at_least (most_in i + (most_items rest + left)) _ _ s (omega arith)
          (item_within i (most_items rest + left) (deep reading walk step rest k) (deep_within rest left k within) s)

      item_within : (i : Item L) (left : ℕ) (k : S → ℕ) → Within left k → Within (most_in i + left) (deep_item reading walk step i k)
      item_within (act p a) left k within s = at_least (suc left) _ _ s (omega arith) (keeps.by_action left a k within s)
      item_within (branching p bs) left k within s = at_least (suc (most_below bs + left)) _ _ s (omega arith) (branch_within bs left k within s)

      branch_within : (bs : Branches L) (left : ℕ) (k : S → ℕ) → Within left k → Within (suc (most_below bs + left)) (deep_branch reading walk step bs k)
      branch_within none left k within s = omega arith
      branch_within (branch c b bs) left k within s =
          pick_has (λ (d : ℕ). d ≤ bound (suc (max (most_items b) (most_below bs) + left)) s) _ _ _
          (λ _. at_least (suc (most_items b + left)) _ _ s (omega arith) (let h = deep_within b left k within s in let g = keeps.by_branch (most_items b + left) s in omega arith))
          (λ _. at_least (suc (most_below bs + left)) _ _ s (omega arith) (branch_within bs left k within s))

-- THE ITEMS of a part that was read: those on a path are no more than those met, and all met are within the limit.
module _ (lim : Limits) (n m : ℕ) (s : List ℕ) where
  record Few (met own items : ℕ) : Type 0 where
    own_met : met + own ≤ items
    most : items ≤ lim.items

  abbrev few_items : Said
  few_items = record {
    item = λ deep p met x e. Few met (most_in x.value) x.items;
    items = λ deep left p met x e. met ≤ lim.items → Few met (most_items x.value) x.items;
    sequence = λ deep p met x e. met ≤ lim.items → Few met (most_items x.value) x.items;
    branches = λ deep left p met x e. met ≤ lim.items → Few met (most_below x.value) x.items;
  }

  few_passed : PassedOn lim n m s few_items
  unfolding most_items
  few_passed = record {
    an_action = λ deep p met x q read few other below. let h = leb-false lim.items met few in record { own_met = omega arith; most = omega arith };
    a_branching = λ deep p met x q c r bs e read few opens count all.
        let h = leb-false lim.items met few in
        let w = all (omega arith) in
        let g = w.own_met in
        record { own_met = omega arith; most = w.most };
    no_item = λ deep p met few. record { own_met = omega arith; most = few };
    an_item = λ deep left p met i q rest e one more few.
        let w = more one.most in
        let f = one.own_met in let g = w.own_met in
        record { own_met = omega arith; most = w.most };
    a_sequence = λ deep p met c q b e read all. all;
    no_branch = λ deep p met few. record { own_met = omega arith; most = few };
    a_branch = λ deep left p met c q b r rest e read body one more few.
        let v = one few in
        let w = more v.most in
        let f = v.own_met in let g = w.own_met in
        record { own_met = omega arith; most = w.most };
  }

  plan_few : (p : ℕ) (x : Met (Sequence ℕ)) (e : ℕ) → plan_at lim Flags n m s p ≡ got x e → most_items x.value ≤ lim.items
  plan_few p x e reads = let w = (plan_on lim n m s few_items few_passed p).holds x e reads (omega arith) in let f = w.own_met in let g = w.most in omega arith

-- The plan of a request that was read.
pub read_few : (lim : Limits) (b : List ℕ) (r : Request) (e : ℕ) → read_request lim Flags b ≡ got r e → most_items r.plan ≤ lim.items
unfolding read_request request_at
read_few lim b r e reads =
    after_got (table_at lim Flags b 0) _ (not_refused _ _ _ _ reads).1 λ t p₁ _ e₁.
    after_got (request_at lim Flags b t p₁) _ e₁ λ q p₂ eq e₂.
    after_got (plan_at lim Flags t.fluents t.actions b p₁) _ eq λ plan p₃ ep e₃.
    after_got (list_at literals t.fluents lim.listed b p₃) _ e₃ λ goals p₄ _ e₄.
    after_got (list_at fluents t.fluents lim.listed b p₄) _ e₄ λ whether p₅ _ same.
    subst (λ (x : Request). most_items x.plan ≤ lim.items) (got_same same ∙ got_same (not_refused _ _ _ _ e₂).1) (plan_few lim t.fluents t.actions b p₁ plan p₃ ep)

-- THE WALKS, whatever the step is.
module _ {S L : Type 0} (step : Steps S L) where
  abbrev items_left : ℕ → S → ℕ
  items_left left s = left

  module _ (left : ℕ) (k : S → ℕ) (within : (s : S) → k s ≤ left) where
    forked_within : (o : Outcome S) → forked 0 1 o k ≤ left
    unfolding forked
    forked_within (single s) = within s
    forked_within (fork o p) = let f = forked_within o in let g = forked_within (p tt) in omega arith

    outcome_within : (o : Outcome S) → outcome_deep 0 1 o k ≤ suc left
    unfolding outcome_deep
    outcome_within (single s) = let h = within s in omega arith
    outcome_within (fork o p) = let h = forked_within (fork o p) in omega arith

    step_within : (x : Step S) → step_deep 0 1 x k ≤ suc left
    unfolding step_deep
    step_within (leads_to o) = outcome_within o
    step_within (refuses n u) = omega arith

  walks_kept : Keeps 0 1 step items_left
  walks_kept = record { by_action = λ left a k within s. step_within left k within (step.does a s); by_branch = λ left s. omega arith }

  -- One for the start, and at most one for each item on a path.
  pub walks_by_items : (p : Sequence L) (s : S) → walks_deep step p s ≤ most_items p + 1
  unfolding depth
  walks_by_items p s = let h = deep_within 0 1 step items_left walks_kept p 0 (λ _. 0) (λ _. omega arith) s in omega arith

-- Of a request that was read, from whatever state: at most one more than its items may be.
pub few_walks : {S : Type 0} (step : Steps S ℕ) (lim : Limits) (b : List ℕ) (r : Request) (e : ℕ) → read_request lim Flags b ≡ got r e
    → (s : S) → walks_deep step r.plan s ≤ lim.items + 1
few_walks step lim b r e reads s = let f = walks_by_items step r.plan s in let g = read_few lim b r e reads in omega arith
