-- Requests: a law for each way that a reader returns. Assumes nothing.
use Prim.Native.Nat.{ℕ, suc, ◌+◌, ◌-◌, ◌≤◌, ◌<◌}
use native.Mathlib.Omega.{arith}
use mathlib.Core.Path.{◌≡◌, refl, sym, ◌∙◌, ap, subst}
use mathlib.Core.List.{List, [], ◌∷◌}
use lib.ListN.{length, get_or, set}
use Rattle.std.specs.Prelude.{Ok, Err}
use Rattle.parsing.specs.declared.faults.Fault.{Fault}
use Rattle.meaning.specs.Limits.{format}
use Rattle.meaning.specs.Requests.{Table, Sequence, Request}
use Rattle.meaning.specs.declared.Form.{Form}
use Rattle.meaning.specs.declared.Form.TheVariants.{Flags, Valued}
use Rattle.meaning.specs.Reading.{Got, got, fault, next, fluents, plan_at, count_at, list_at, literals_at, section_at, effect_at, executability_at, knowledge_at, table_at, value_counts_at, past_values, request_at, placed, placed_twos, placed_as, Met}
use Rattle.meaning.proofs.SettledLaws.{next_got}
use Rattle.meaning.proofs.RangeLaws.{count_within}
use Rattle.parsing.specs.declared.lists.Kind.TheVariants.{Fluents}
use Rattle.parsing.specs.Masks.{Counted as Within-counts}
use Rattle.parsing.specs.Read.{Numbered, Passed, numbered, over, passed, kind_of, values_first}
use Rattle.reading.specs.Listed.{span}
use Rattle.reading.specs.Noted.{line_at, table_noted, three_sections, facts_first, actions_first, noting, outcome}
use Rattle.reading.specs.Noted.{plan_slot, items_slot, goals_slot, guards_slot}
use Rattle.reading.specs.Planned.{items_of, bytes_of, plan_noted, noting_met, outcome_met}
use Rattle.reading.specs.Requested.{Starts, goals_first, plan_first, places_noted, goals_place, plan_place, tail_with, request_with, tail_noted, request_noted}
use Rattle.parsing.proofs.ByteLaws.{was_read, was_stopped}
use Rattle.parsing.proofs.ListLaws.{passed_to, passed_stop}
use Rattle.reading.proofs.NotingLaws.{with_items, met_value, met_fault, fault_met}
use Rattle.reading.proofs.SectionLaws.{count_got}
use Rattle.reading.proofs.ValueSizes.{few_counted, few_read}
use Rattle.reading.proofs.PlanSizes.{Counted, sequence_read, literals_through}

-- One part after another.
module _ {A B C : Type 0} where
  pub next_next : (g : Got A) (k : A → ℕ → Got B) (h : B → ℕ → Got C) → next (next g k) h ≡ next g (λ x p. next (k x p) h)
  unfolding next
  next_next (got x p) k h = refl
  next_next (fault n p) k h = refl

module _ {A B : Type 0} where
  pub next_same : (g : Got A) {k h : A → ℕ → Got B} → ((x : A) (p : ℕ) → k x p ≡ h x p) → next g k ≡ next g h
  unfolding next
  next_same (got x p) e = e x p
  next_same (fault n p) e = refl

-- SECTIONS 2 TO 5.
module _ (form : Form) (n m : ℕ) (s : List ℕ) (p : ℕ) (t : List ℕ) (facts : Passed) (read : over facts ≡ passed (literals_at form n format.listed s p)) where
  pub facts_fault : (why : Fault) (v : List ℕ) → facts ≡ Err why → outcome (Err why) v ≡ facts_first form n m s p t
  unfolding facts_first next outcome kind_of
  facts_fault why v is = rw (passed_stop (literals_at form n format.listed s p) why (sym read ∙ ap over is))

  pub facts_passed : (q : ℕ) (r : Passed) (w : List ℕ) → facts ≡ Ok q → outcome r w ≡ three_sections form n m s q t → outcome r w ≡ facts_first form n m s p t
  unfolding facts_first next kind_of
  facts_passed q r w is e = rw (passed_to (literals_at form n format.listed s p) q (sym read ∙ ap over is)).1 e

-- Noting at the end, or as each part is read.
after_fluents : (form : Form) (n : ℕ) (s : List ℕ) (p : ℕ) (t : List ℕ) → actions_first form n s p t ≡ next (
    next (count_at 1 format.actions s p) λ m q.
    next (literals_at form n format.listed s q) λ facts r.
    next (section_at (effect_at format form n m s) s r) λ es u.
    next (section_at (executability_at format form n m s) s u) λ xs v.
    next (section_at (knowledge_at format n m s) s v) λ ks e.
    got (record { fluents = n; actions = m; facts = facts; effects = es; executability = xs; knowledge = ks }) e
    ) (λ x e. got (table_noted x t) e)
unfolding actions_first facts_first three_sections table_noted line_at next
after_fluents form n s p t =
    next_same (count_at 1 format.actions s p) (λ m q.
    next_same (literals_at form n format.listed s q) (λ facts r.
    next_same (section_at (effect_at format form n m s) s r) (λ es u.
    next_same (section_at (executability_at format form n m s) s u) (λ xs v. sym (next_next (section_at (knowledge_at format n m s) s v) _ _))
    ∙ sym (next_next (section_at (executability_at format form n m s) s u) _ _))
    ∙ sym (next_next (section_at (effect_at format form n m s) s r) _ _))
    ∙ sym (next_next (literals_at form n format.listed s q) _ _))
    ∙ sym (next_next (count_at 1 format.actions s p) _ _)

pub count_most : (most : ℕ) (s : List ℕ) (p : ℕ) (count : Numbered) → numbered count ≡ (count_at 1 most s p) → (n q : ℕ) → count ≡ Ok (n, q) → n ≤ most
count_most most s p count read n q is = count_within 1 most s p n q (was_read (count_at 1 most s p) count n q read is)

-- The actions' count.
module _ (form : Form) (n : ℕ) (s : List ℕ) (p : ℕ) (t : List ℕ) (count : Numbered) (read : numbered count ≡ (count_at 1 format.actions s p)) where
  pub actions_fault : (why : Fault) (v : List ℕ) → count ≡ Err why → outcome (Err why) v ≡ actions_first form n s p t
  unfolding actions_first next outcome
  actions_fault why v is = rw (was_stopped (count_at 1 format.actions s p) count why read is)

  pub actions_there : (m q : ℕ) (r : Passed) (w : List ℕ) → count ≡ Ok (m, q) → outcome r w ≡ facts_first form n m s q t → outcome r w ≡ actions_first form n s p t
  unfolding actions_first next
  actions_there m q r w is e = rw (was_read (count_at 1 format.actions s p) count m q read is) e

-- What stands between the two counts.
past_noted : {A B : Type 0} (form : Form) (n : ℕ) (s : List ℕ) (q : ℕ) (k : ℕ → Got A) (h : A → ℕ → Got B) → next (past_values form n s q k) h ≡ next (values_first form n s q) (λ _ r. next (k r) h)
unfolding values_first next
past_noted Flags n s q k h = refl
past_noted Valued n s q k h = next_next (value_counts_at n s q) (λ _ r. k r) h ∙ sym (next_next (value_counts_at n s q) (λ _ r. got tt r) (λ _ r. next (k r) h))

-- The fluents' count.
module _ (form : Form) (s : List ℕ) (p : ℕ) (t : List ℕ) (count : Numbered) (read : numbered count ≡ (count_at 1 format.fluents s p)) where
  pub fluents_fault : (why : Fault) (v : List ℕ) → count ≡ Err why → outcome (Err why) v ≡ noting table_noted (table_at format form s p) t
  unfolding table_at noting next outcome
  fluents_fault why v is = rw (was_stopped (count_at 1 format.fluents s p) count why read is)

  module _ (n q : ℕ) (is : count ≡ Ok (n, q)) (values : Passed) (passes : over values ≡ passed (values_first form n s q)) where
    table_rest : noting table_noted (table_at format form s p) t ≡ next (values_first form n s q) (λ _ r. actions_first form n s r t)
    unfolding table_at noting next
    table_rest = rw (was_read (count_at 1 format.fluents s p) count n q read is) (past_noted form n s q _ (λ x e. got (table_noted x t) e) ∙ next_same (values_first form n s q) (λ _ r. sym (after_fluents form n s r t)))

    pub values_fault : (why : Fault) (v : List ℕ) → values ≡ Err why → outcome (Err why) v ≡ noting table_noted (table_at format form s p) t
    unfolding next outcome
    values_fault why v stops = sym (table_rest ∙ ap (λ (g : Got (Unit {0})). next g (λ _ i. actions_first form n s i t)) (passed_stop (values_first form n s q) why (sym passes ∙ ap over stops)))

    pub fluents_there : (v : ℕ) (r : Passed) (w : List ℕ) → values ≡ Ok v → outcome r w ≡ actions_first form n s v t → outcome r w ≡ noting table_noted (table_at format form s p) t
    unfolding next
    fluents_there v r w goes e = e ∙ sym (table_rest ∙ ap (λ (g : Got (Unit {0})). next g (λ _ i. actions_first form n s i t)) (passed_to (values_first form n s q) v (sym passes ∙ ap over goes)).1)

    -- Behind the numbers of values no fluent has too many.
    pub values_counted : (v : ℕ) → Starts form p → values ≡ Ok v → Within-counts form s
    unfolding Within-counts Starts
    values_counted v starts goes valued =
        let at_start = starts valued in
        let there = count_got 1 format.fluents s p n q (was_read (count_at 1 format.fluents s p) count n q read is) in
        let got-all = (passed_to (values_first form n s q) v (sym passes ∙ ap over goes)).1 in
        few_read n s (ap (λ (i : ℕ). get_or s i 0) (sym at_start) ∙ there.1) q (sym there.2 ∙ ap (λ (i : ℕ). i + 1) at_start) v
        (subst (λ (f : Form). values_first f n s q ≡ got tt v) valued got-all)

-- A table that was read has no fluent with too many values.
pub table_counted : (form : Form) (s : List ℕ) (p : ℕ) (x : Table) (e : ℕ) → Starts form p → table_at format form s p ≡ got x e → Within-counts form s
unfolding table_at Within-counts Starts
table_counted form s p x e starts is valued =
    let w = next_got (count_at 1 format.fluents s p) _ (subst (λ (f : Form). table_at format f s p ≡ got x e) valued is) in
    let there = count_got 1 format.fluents s p w.0 w.1 w.2 in
    let at_start = starts valued in
    let v = next_got (value_counts_at w.0 s w.1) _ w.3 in
    few_counted w.0 s (ap (λ (i : ℕ). get_or s i 0) (sym at_start) ∙ there.1) w.1 (sym there.2 ∙ ap (λ (i : ℕ). i + 1) at_start) v.0 v.1 v.2

-- SECTIONS 7 AND 8.
-- What is left of the notes, where nothing but the place counts.
over_outcome : (r : Passed) (u : List ℕ) → outcome r u ≡ next (over r) (λ _ e. got u e)
unfolding outcome next
over_outcome (Ok p) u = refl
over_outcome (Err f) u = refl

passed_next : {A : Type 0} (g : Got A) (u : List ℕ) → next (passed g) (λ _ e. got u e) ≡ next g (λ _ e. got u e)
unfolding passed next
passed_next (got x p) u = refl
passed_next (fault n p) u = refl

pub passed_outcome : {A : Type 0} (g : Got A) (r : Passed) (u : List ℕ) → over r ≡ passed g → outcome r u ≡ next g (λ _ e. got u e)
passed_outcome g r u e = over_outcome r u ∙ ap (λ (h : Got (Unit {0})). next h (λ _ i. got u i)) e ∙ passed_next g u

pub put_all : (plan items goals : ℕ) (t u v w z : List ℕ) → u ≡ set t plan_slot plan → v ≡ set u items_slot items → w ≡ set v goals_slot goals → z ≡ set w guards_slot 0
    → z ≡ places_noted plan items goals 0 t
unfolding places_noted
put_all plan items goals t u v w z eu ev ew ez =
    ez ∙ ap (λ (x : List ℕ). set x guards_slot 0) (ew ∙ ap (λ (x : List ℕ). set x goals_slot goals) (ev ∙ ap (λ (x : List ℕ). set x items_slot items) eu))

module _ (form : Form) (n : ℕ) (s : List ℕ) (plan items p : ℕ) (t : List ℕ) (goals : Passed) (read : over goals ≡ passed (literals_at form n format.listed s p)) where
  pub goals_fault : (why : Fault) (v : List ℕ) → goals ≡ Err why → outcome (Err why) v ≡ goals_first form n s plan items p t
  unfolding goals_first next outcome kind_of
  goals_fault why v is = rw (passed_stop (literals_at form n format.listed s p) why (sym read ∙ ap over is))

  pub goals_passed : (q : ℕ) (whether : Passed) (z : List ℕ) → goals ≡ Ok q → z ≡ places_noted plan items p 0 t
      → over whether ≡ passed (list_at (kind_of Fluents) n format.listed s q) → outcome whether z ≡ goals_first form n s plan items p t
  unfolding goals_first next kind_of
  goals_passed q whether z is noted last =
      rw (passed_to (literals_at form n format.listed s p) q (sym read ∙ ap over is)).1
      (passed_outcome (list_at fluents n format.listed s q) whether z last ∙ ap (λ (x : List ℕ). next (list_at fluents n format.listed s q) (λ _ e. got x e)) noted)

-- SECTIONS 6 TO 8.
module _ (form : Form) (n m : ℕ) (s : List ℕ) (p : ℕ) (t u : List ℕ) (plan : Numbered) (read : outcome_met plan u ≡ noting_met (plan_noted form p t) (plan_at format form n m s p)) where
  pub plan_fault : (why : Fault) (v : List ℕ) → plan ≡ Err why → outcome (Err why) v ≡ plan_first form n m s p t
  unfolding plan_first next outcome
  plan_fault why v is =
      rw (fault_met (plan_noted form p t) (plan_at format form n m s p) why (met_fault (plan_noted form p t) (plan_at format form n m s p) plan u why read is))

  module _ (items q : ℕ) (is : plan ≡ Ok (items, q)) where
    plan_got : (x : Sequence ℕ) × (plan_at format form n m s p ≡ got (with_items x items) q) × (u ≡ plan_noted form p t x)
    plan_got = met_value (plan_noted form p t) (plan_at format form n m s p) plan u items q read is

    plan_counted : Counted s p 0 (items_of plan_got.0) (2 + bytes_of form plan_got.0) items q
    unfolding plan_at
    plan_counted = (sequence_read form n m s 8 p 0 (omega arith)).holds (with_items plan_got.0 items) q plan_got.1

    pub plan_place_fits : length s ≤ format.request → p < 65536
    plan_place_fits h = let a = plan_counted.through.after in let b = plan_counted.through.inside in omega arith

    pub plan_items_fit : items < 65536
    plan_items_fit = let a = plan_counted.most in omega arith

    pub plan_end_fits : length s ≤ format.request → q < 65536
    plan_end_fits h = let b = plan_counted.through.inside in omega arith

    pub plan_there : (r : Passed) (w : List ℕ) → outcome r w ≡ goals_first form n s p items q u → outcome r w ≡ plan_first form n m s p t
    unfolding plan_first next
    plan_there r w e = rw plan_got.1 (e ∙ ap (goals_first form n s p items q) plan_got.2)

-- ALL EIGHT. What is noted part by part is what is noted of the request.
pub placed_length : (p : ℕ) (xs : List ℕ) → length (placed p xs) ≡ length xs
unfolding placed
placed_length p [] = refl
placed_length p (x ∷ xs) = ap suc (placed_length (p + 1) xs)

twos_length : (p : ℕ) (xs : List ℕ) → length (placed_twos p xs) ≡ length xs
unfolding placed_twos
twos_length p [] = refl
twos_length p (x ∷ xs) = ap suc (twos_length (p + 2) xs)

pub placed_as_length : (form : Form) (p : ℕ) (xs : List ℕ) → length (placed_as form p xs) ≡ length xs
placed_as_length Flags p xs = placed_length p xs
placed_as_length Valued p xs = twos_length p xs

module _ {A B : Type 0} where
  pub next_where : (g : Got A) {k h : A → ℕ → Got B} → ((x : A) (p : ℕ) → g ≡ got x p → k x p ≡ h x p) → next g k ≡ next g h
  unfolding next
  next_where (got x p) e = e x p refl
  next_where (fault n p) e = refl

module _ (form : Form) (s : List ℕ) (x : Table) (p : ℕ) where
  abbrev request_of : Met (Sequence ℕ) → (q : ℕ) → List ℕ → (r : ℕ) → List ℕ → Request
  request_of plan q goals r whether = record { table = x; plan = plan.value; goals = placed_as form (q + 1) goals; whether = placed (r + 1) whether; whether_place = r }

  -- What comes after sections 6 to 8.
  request_then : {B : Type 0} (h : Request → ℕ → Got B) → next (request_at format form s x p) h ≡ next (plan_at format form x.fluents x.actions s p) λ plan q.
      next (literals_at form x.fluents format.listed s q) λ goals r.
      next (list_at fluents x.fluents format.listed s r) λ whether e.
      h (request_of plan q goals r whether) e
  unfolding request_at next
  request_then h =
      next_next (plan_at format form x.fluents x.actions s p) _ _
      ∙ next_same (plan_at format form x.fluents x.actions s p) (λ plan q.
      next_next (literals_at form x.fluents format.listed s q) _ _
      ∙ next_same (literals_at form x.fluents format.listed s q) (λ goals r. next_next (list_at fluents x.fluents format.listed s r) _ _))

  places_same : (t : List ℕ) (plan : Met (Sequence ℕ)) (q : ℕ) → plan_at format form x.fluents x.actions s p ≡ got plan q
      → (goals : List ℕ) (r : ℕ) → literals_at form x.fluents format.listed s q ≡ got goals r → (whether : List ℕ)
      → places_noted p plan.items q 0 (plan_noted form p t plan.value) ≡ tail_noted form (request_of plan q goals r whether) t
  unfolding plan_at tail_with goals_place plan_place
  places_same t plan q e goals r eg whether =
      let sized = (sequence_read form x.fluents x.actions s 8 p 0 (omega arith)).holds plan q e in
      let through = (literals_through s form x.fluents format.listed q).holds goals r eg in
      let after = sized.through.after in
      let counted = sized.counted in
      let ends = through.after in
      let goals_at : r - (1 + span form (length goals)) ≡ q = omega arith in
      let plan_stands : q - (2 + bytes_of form plan.value) ≡ p = omega arith in
      let items_are : plan.items ≡ items_of plan.value = omega arith in
      rw (placed_as_length form (q + 1) goals, goals_at, plan_stands, items_are)

  -- Over any notes, and over those of the table.
  pub tail_whole : (t : List ℕ) → plan_first form x.fluents x.actions s p t ≡ noting (tail_noted form) (request_at format form s x p) t
  unfolding plan_first goals_first noting
  tail_whole t =
      next_where (plan_at format form x.fluents x.actions s p) (λ plan q e.
      next_where (literals_at form x.fluents format.listed s q) (λ goals r eg.
      next_where (list_at fluents x.fluents format.listed s r) (λ whether i _. ap (λ (u : List ℕ). got u i) (places_same t plan q e goals r eg whether))))
      ∙ sym (request_then (λ y e. got (tail_noted form y t) e))

  pub plan_whole : (t : List ℕ) → plan_first form x.fluents x.actions s p (table_noted x t) ≡ noting (request_noted form) (request_at format form s x p) t
  unfolding noting request_with
  plan_whole t =
      tail_whole (table_noted x t)
      ∙ request_then (λ y e. got (tail_noted form y (table_noted x t)) e)
      ∙ sym (request_then (λ y e. got (request_noted form y t) e))
