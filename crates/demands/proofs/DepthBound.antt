-- How deep the walk of a settled request goes. Each reading makes an unknown fluent known, and only an action that doesn't sense makes fluents
-- unknown again, and none where all are known. So one fluent stays unknown, and two items, one that forgets and one that looks, are at most as
-- many readings as there are other fluents, and one walk; and that weighs no less than two walks. By a bound that each step keeps. Assumes nothing.
use Prim.Native.Nat.{ℕ, zero, suc, ◌+◌, ◌-◌, ◌*◌, ◌/◌, ◌≤◌, ◌<◌, max}
use native.Mathlib.Omega.{arith}
use native.Mathlib.Nat.{mul-add, mul-suc, mul-one, mul-zero, mul_comm, mul_assoc, mul-le-mul_left}
use mathlib.Core.Path.{◌≡◌, refl, sym, ◌∙◌, ap, subst}
use mathlib.Core.Bool.{true, false}
use mathlib.Core.List.{List, [], ◌∷◌}
use mathlib.Core.Logic.{inl, inr}
use lib.ListN.{length, length-set}
use Rattle.meaning.specs.Tests.{Has}
use Rattle.meaning.specs.Limits.{Limits, format}
use Rattle.meaning.specs.Literals.{says_true, says_false, fluent_of}
use Rattle.meaning.specs.Requests.{Effect, Knowledge, Table, Sequence, Request}
use Rattle.meaning.specs.Reading.{got}
use Rattle.meaning.specs.Refusals.{nowhere, contradiction_in, settled}
use Rattle.meaning.specs.Lines.{knowledge_of}
use Rattle.meaning.specs.States.{State, mark_of, known_whether, told, first_state, can_be_run, state_after, unknown_sensed, Outcome, readings, outcome}
use Rattle.meaning.specs.Walk.{Step, table_does, table_step}
use Rattle.demands.specs.Depth.{forked, outcome_deep, step_deep, depth, readings_deep, walks_deep, most_items}
use Rattle.meaning.proofs.PickLaws.{pick_has}
use Rattle.meaning.proofs.LiteralLaws.{fluent_true, fluent_false}
use Rattle.meaning.proofs.SettledLaws.{settled_is}
use Rattle.meaning.proofs.RangeLaws.{read_ranged}
use Rattle.meaning.proofs.SensingLaws.{Distinct, unknown_distinct, sensed_within, read_is}
use Rattle.demands.proofs.UnknownLaws.{unknown_below, unknown_most, whether_elsewhere, one_known, still_known}
use Rattle.demands.proofs.DepthLaws.{Keeps, at_least, deep_within, read_few, few_walks}

-- Parts of a number weigh no more than it, at one weight.
parts_weigh : (w j u v : ℕ) → j + u ≤ v → w * j + w * u ≤ w * v
parts_weigh w j u v h = let e = mul-add w j u in let g = mul-le-mul_left w h in omega arith

-- THE BOUND, by the items left and the unknown fluents, of which there are never more than `others` and one.
module _ (reading walk others : ℕ) (light : walk ≤ reading * others) where
  unfoldable most : (left unknown : ℕ) → ℕ
  most zero zero = 0
  most (suc left) zero = walk + most left zero
  most zero (suc u) = max reading (reading * suc u + walk - reading * others)
  most (suc zero) (suc u) = reading * suc u + walk
  most (suc (suc left)) (suc u) = reading * others + walk + most left (suc u)

  -- Of the unknown fluents j are read, and a walk is begun.
  looked : (left j u v : ℕ) → j + u ≤ v → reading * j + walk + most left u ≤ most (suc left) v
  unfolding most
  looked left zero zero zero h = let e = mul-zero reading in omega arith
  looked left (suc j) zero zero h = absurd (omega arith)
  looked zero j zero (suc v) h = let g = parts_weigh reading j 0 (suc v) h in omega arith
  looked (suc zero) j zero (suc v) h = let g = parts_weigh reading j 0 (suc v) h in omega arith
  looked (suc (suc left)) j zero (suc v) h = let g = looked left j 0 (suc v) h in omega arith
  looked left j (suc u) zero h = absurd (omega arith)
  looked zero j (suc u) (suc v) h =
      let g = parts_weigh reading j (suc u) (suc v) h in
      let f = parts_weigh reading j 1 (suc v) (omega arith) in
      let e = mul-one reading in
      omega arith
  looked (suc zero) j (suc u) (suc v) h = let g = parts_weigh reading j (suc u) (suc v) h in omega arith
  looked (suc (suc left)) j (suc u) (suc v) h = let g = looked left j (suc u) (suc v) h in omega arith

  branched : (left u : ℕ) → walk + most left u ≤ most (suc left) u
  branched left u = let g = looked left 0 u u (omega arith) in omega arith

  -- Whichever were forgotten, one was unknown.
  forgot : (left u v : ℕ) → u ≤ suc others → most left u ≤ most (suc left) (suc v)
  unfolding most
  forgot zero zero v few = omega arith
  forgot (suc zero) zero v few = omega arith
  forgot (suc (suc left)) zero v few = let g = forgot left zero v few in omega arith
  forgot zero (suc u) v few =
      let g = mul-le-mul_left reading few in
      let e = mul-suc reading others in
      let d = mul-suc reading v in
      omega arith
  forgot (suc zero) (suc u) v few = let g = mul-le-mul_left reading few in let e = mul-suc reading others in omega arith
  forgot (suc (suc left)) (suc u) v few = let g = forgot left (suc u) v few in omega arith

  -- With an even number of items left.
  by_twos : (q left u : ℕ) → left ≡ 2 * q → u ≤ suc others → most left u ≤ reading + reading * others * q + (walk + walk * q)
  unfolding most
  by_twos q zero zero e few = omega arith
  by_twos q zero (suc u) e few = let g = mul-le-mul_left reading few in let d = mul-suc reading others in omega arith
  by_twos q (suc zero) u e few = absurd (omega arith)
  by_twos zero (suc (suc left)) u e few = absurd (omega arith)
  by_twos (suc q) (suc (suc left)) zero e few =
      let g = by_twos q left 0 (omega arith) few in
      let d = mul-suc (reading * others) q in
      let f = mul-suc walk q in
      omega arith
  by_twos (suc q) (suc (suc left)) (suc u) e few =
      let g = by_twos q left (suc u) (omega arith) few in
      let d = mul-suc (reading * others) q in
      let f = mul-suc walk q in
      omega arith

-- FLUENTS TO BE READ: no one twice, each below n, within the state and unknown.
record Readable (n : ℕ) (s : State) (fs : List ℕ) : Type 0 where
  distinct : Distinct fs
  below : (f : ℕ) → Has fs f → f < n
  inside : (f : ℕ) → Has fs f → f < length s
  unknown : (f : ℕ) → Has fs f → known_whether s f ≡ false

-- Once a literal of the first is told, the others still are, and one fluent fewer is unknown.
module _ (n : ℕ) (s : State) (l : ℕ) (fs : List ℕ) (can : Readable n s (fluent_of l ∷ fs)) where
  others_readable : Readable n (told l s) fs
  unfolding told
  others_readable = record {
    distinct = can.distinct.1;
    below = λ f h. can.below f (inr h);
    inside = λ f h. rw (length-set s (fluent_of l) (mark_of l)) (can.inside f (inr h));
    unknown = λ f h. whether_elsewhere l s (can.inside (fluent_of l) (inl refl)) f (λ q. can.distinct.0 (subst (Has fs) q h)) ∙ can.unknown f (inr h);
  }

  one_read : suc (unknown_below n (told l s)) ≡ unknown_below n s
  one_read = one_known l s (can.inside (fluent_of l) (inl refl)) (can.unknown (fluent_of l) (inl refl)) n (can.below (fluent_of l) (inl refl))

-- A TABLE over n fluents.
module _ (reading walk others : ℕ) (light : walk ≤ reading * others) (n : ℕ) (few : n ≤ suc others) (t : Table) where
  abbrev most_in_state : ℕ → State → ℕ
  most_in_state left s = most reading walk others light left (unknown_below n s)

  module _ (left : ℕ) (k : State → ℕ) (follows : (s : State) → k s ≤ most_in_state left s) where
    -- After j readings, where this many were unknown before them.
    forked_within : (fs : List ℕ) (s : State) → Readable n s fs → (j before : ℕ) → j + unknown_below n s ≤ before
        → reading * j + walk + forked reading walk (readings fs s) k ≤ most reading walk others light (suc left) before
    unfolding forked readings
    forked_within [] s can j before h = let f = follows s in let g = looked reading walk others light left j (unknown_below n s) before h in omega arith
    forked_within (f ∷ fs) s can j before h =
        let can_true : Readable n s (fluent_of (says_true f) ∷ fs) = rw (fluent_true f) can in
        let can_false : Readable n s (fluent_of (says_false f) ∷ fs) = rw (fluent_false f) can in
        let fewer = one_read n s (says_true f) fs can_true in
        let fewer' = one_read n s (says_false f) fs can_false in
        let a = forked_within fs (told (says_true f) s) (others_readable n s (says_true f) fs can_true) (suc j) before (omega arith) in
        let b = forked_within fs (told (says_false f) s) (others_readable n s (says_false f) fs can_false) (suc j) before (omega arith) in
        let e = mul-suc reading j in
        omega arith

    readings_within : (fs : List ℕ) (s : State) → Readable n s fs → outcome_deep reading walk (readings fs s) k ≤ most_in_state (suc left) s
    unfolding outcome_deep readings
    readings_within [] s can = let f = follows s in let g = branched reading walk others light left (unknown_below n s) in omega arith
    readings_within (f ∷ fs) s can = let g = forked_within (f ∷ fs) s can 0 (unknown_below n s) (omega arith) in omega arith

  module _ (sensed : (x : Knowledge) → Has t.knowledge x → x.fluent < n) (bodies : (e : Effect) → Has t.effects e → (l : ℕ) → Has e.body l → l < 2 * n)
      (passed : contradiction_in t ≡ nowhere) where
    to_be_read : (a : ℕ) (s : State) → Readable n s (unknown_sensed t a s)
    unfolding unknown_sensed
    to_be_read a s = record {
      distinct = unknown_distinct (knowledge_of t a) s 0 s;
      below = λ f h. sensed_within t a n sensed f (read_is t a s f h).1;
      inside = λ f h. (read_is t a s f h).0;
      unknown = λ f h. (read_is t a s f h).2;
    }

    forgotten : (left a : ℕ) (s : State) → can_be_run t a s ≡ true → most_in_state left (state_after t a s) ≤ most_in_state (suc left) s
    forgotten left a s runs = by_unknown (unknown_below n s) refl
      where
        by_unknown : (u : ℕ) → unknown_below n s ≡ u → most_in_state left (state_after t a s) ≤ most reading walk others light (suc left) u
        by_unknown zero e = let g = branched reading walk others light left 0 in rw (still_known t n bodies passed a s runs e) (omega arith)
        by_unknown (suc u) e = let h = unknown_most n (state_after t a s) in forgot reading walk others light left (unknown_below n (state_after t a s)) u (omega arith)

    -- Each step of the table keeps the bound.
    table_keeps : Keeps reading walk (table_step t) most_in_state
    unfolding table_step table_does step_deep outcome outcome_deep
    table_keeps = record {
      by_action = λ left a k follows s.
          pick_has (λ (x : Step State). step_deep reading walk x k ≤ most_in_state (suc left) s) _ _ _
          (λ runs. pick_has (λ (o : Outcome State). outcome_deep reading walk o k ≤ most_in_state (suc left) s) _ _ _
          (λ _. readings_within left k follows (unknown_sensed t a s) s (to_be_read a s))
          (λ _. let f = follows (state_after t a s) in let g = forgotten left a s runs in omega arith))
          (λ _. omega arith);
      by_branch = λ left s. branched reading walk others light left (unknown_below n s);
    }

    -- A plan with at most twice q items on a path, from whatever state.
    pub deep_by_items : (p : Sequence ℕ) (q : ℕ) → most_items p ≤ 2 * q → (s : State) → depth reading walk (table_step t) p s ≤ reading * (1 + q * others) + walk * (q + 2)
    unfolding depth
    deep_by_items p q fits s =
        let h = deep_within reading walk (table_step t) most_in_state table_keeps p 0 (λ _. 0) (λ _. omega arith) s in
        let g = at_least reading walk (table_step t) most_in_state table_keeps (most_items p + 0) (2 * q) _ s (omega arith) h in
        let u = unknown_most n s in
        let f = by_twos reading walk others light q (2 * q) (unknown_below n s) refl (omega arith) in
        let r : reading * (1 + q * others) ≡ reading + reading * others * q =
        mul-add reading 1 (q * others) ∙ ap (λ (x : ℕ). x + reading * (q * others)) (mul-one reading) ∙ ap (λ (x : ℕ). reading + reading * x) (mul_comm q others)
        ∙ ap (λ (x : ℕ). reading + x) (sym (mul_assoc reading others q)) in
        let w = mul-add walk q 2 in
        omega arith

-- A SETTLED REQUEST, from whatever state, where the limit of items is even, and a walk weighs no more than readings of all fluents but one.
pub deep_enough : (lim : Limits) (b : List ℕ) (r : Request) (e : ℕ) → settled lim b ≡ got r e → (q : ℕ) → lim.items ≡ 2 * q
    → (reading walk : ℕ) → walk ≤ reading * (lim.fluents - 1)
    → (s : State) → depth reading walk (table_step r.table) r.plan s ≤ reading * (1 + q * (lim.fluents - 1)) + walk * (q + 2)
deep_enough lim b r e past q even reading walk light s =
    let is = settled_is lim b r e past in
    let ranged = read_ranged lim b r e is.reads in
    let few = ranged.fluents in
    let items = read_few lim b r e is.reads in
    deep_by_items reading walk (lim.fluents - 1) light r.table.fluents (omega arith) r.table ranged.knowledge ranged.bodies is.no_contradiction r.plan q (omega arith) s

-- The readings alone.
pub few_readings : (lim : Limits) (b : List ℕ) (r : Request) (e : ℕ) → settled lim b ≡ got r e → (q : ℕ) → lim.items ≡ 2 * q
    → (s : State) → readings_deep (table_step r.table) r.plan s ≤ 1 + q * (lim.fluents - 1)
few_readings lim b r e past q even s = let h = deep_enough lim b r e past q even 1 0 (omega arith) s in omega arith

-- BY THE FORMAT'S LIMITS, from the first state: at most 511 × 127 + 128 readings, at most 1,025 walks, and together no more than these readings
-- and 514 walks.
abbrev pub most_readings : ℕ
most_readings = (format.items / 2 - 1) * (format.fluents - 1) + format.fluents

pub record FormatDeep (r : Request) : Type 0 where
  pub readings : readings_deep (table_step r.table) r.plan (first_state format r.table) ≤ most_readings
  pub walks : walks_deep (table_step r.table) r.plan (first_state format r.table) ≤ format.items + 1
  pub together : (reading walk : ℕ) → walk ≤ reading * (format.fluents - 1) → depth reading walk (table_step r.table) r.plan (first_state format r.table) ≤ reading * most_readings + walk * (format.items / 2 + 2)

pub format_deep : (b : List ℕ) (r : Request) (e : ℕ) → settled format b ≡ got r e → FormatDeep r
format_deep b r e past = record {
  readings = few_readings format b r e past (format.items / 2) refl (first_state format r.table);
  walks = few_walks (table_step r.table) format b r e (settled_is format b r e past).reads (first_state format r.table);
  together = λ reading walk light. deep_enough format b r e past (format.items / 2) refl reading walk light (first_state format r.table);
}
