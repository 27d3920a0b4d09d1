-- Refusals 16 to 18 after reading: a law for each way that they return. Assumes nothing.
use Prim.Native.Nat.{ℕ, ◌-◌, ◌*◌, ◌≤◌, ◌<◌}
use native.Mathlib.Omega.{arith}
use mathlib.Core.Path.{◌≡◌, refl, sym, ◌∙◌, ap, subst}
use mathlib.Core.List.{List, []}
use lib.ListN.{length, get_or}
use mir.Syntax.{w8, w64}
use mir.Val.{Fits}
use Rattle.std.specs.Prelude.{Ok, Err}
use Rattle.parsing.specs.declared.faults.Fault.{Fault}
use Rattle.parsing.specs.declared.faults.Refusal.TheVariants.{ContradictoryEffects, EffectAndKnowledge, NotExclusive}
use Rattle.reading.proofs.RequestLaws.{passed_outcome}
use Rattle.std.specs.Prelude.{Option, None, Some}
use Rattle.meaning.specs.Limits.{format}
use Rattle.meaning.specs.Requests.{Effect, Knowledge, Table, Request}
use Rattle.meaning.specs.declared.Form.{Form}
use Rattle.meaning.specs.declared.Form.TheVariants.{Flags, Valued}
use Rattle.meaning.specs.Reading.{Got, got, fault, next, table_at, request_at, read_request}
use Rattle.meaning.specs.Guards.{GuardedRequest, read_guarded, settled_guarded}
use Rattle.meaning.specs.Refusals
use Rattle.meaning.specs.Refusals.{nowhere, at, first_against, contradiction_in, mixed_in, refuse, settled}
use Rattle.meaning.specs.Valued.{settled_values}
use Rattle.parsing.specs.Read.{Passed, over, stopped, passed}
use Rattle.parsing.proofs.ListLaws.{passed_to, passed_stop}
use Rattle.reading.specs.Noted.{noting, outcome, table_noted, plan_slot, items_slot, effects_slot, knowledge_slot}
use Rattle.reading.specs.Planned.{items_of}
use Rattle.reading.specs.Requested.{plan_place, tail_with, request_noted, guards_place, guarded_noted}
use Rattle.reader.specs.Sections.{sections_as}
use Rattle.reader.proofs.WholeLaws.{Parts, plain_read, guarded_read}
use Rattle.finding.specs.Places.{found}
use Rattle.finding.specs.LinesHere.{effects_in, EffectsHere, knowledge_in, KnowledgeHere}
use Rattle.finding.specs.TablesHere.{blank, table_in, TableHere, RunsHere}
use Rattle.refusing.specs.Refusal17.{MixedFound}
use Rattle.finding.specs.ReadHere.{ReadHere}
use Rattle.refusing.specs.Settled.{contradiction_as, table_unmixed, table_settled, table_settled_as, past_as, past_18, past_all}
use Rattle.reading.proofs.SectionLaws.{noting_got, noting_fault}
use Rattle.finding.proofs.ReadLaws.{TableParts, table_parts, request_parts, effects_counted, effects_are, effects_stand, knowledge_counted, plan_noted_at, items_noted, acting, knowledge_stands, effects_few, knowledge_few, tail_held, whole_table, runs_here, table_stays, read_parts, read_comes, read_same, read_tail, read_noted, plain_here, guarded_here}
use Rattle.finding.specs.PlansHeld.{PlanHeld, SomePlan}
use Rattle.refusing.specs.Refusal18.{overlap_as, OverlapFound}
use Rattle.refusing.specs.Refusal16.{contradictory_as}
use Rattle.parsing.specs.Masks.{Counted}
use Rattle.finding.proofs.FoundLaws.{found_at, found_none}

-- What comes behind 16 and 17 of a table.
module _ {B : Type 0} (x : Table) (e : ℕ) (k : Got B) where
  behind : (f g : Refusals.Found) → refuse 16 f (λ _. refuse 17 g (λ _. k)) ≡ next (refuse 16 f (λ _. refuse 17 g (λ _. got x e))) (λ _ _. k)
  unfolding refuse next
  behind (at i) g = refl
  behind nowhere (at i) = refl
  behind nowhere nowhere = refl

  pub behind_table : refuse 16 (contradiction_in x) (λ _. refuse 17 (mixed_in x.effects x.knowledge) (λ _. k)) ≡ next (table_settled x e) (λ _ _. k)
  unfolding table_settled table_unmixed
  behind_table = behind (contradiction_in x) (mixed_in x.effects x.knowledge)

  behind_as : (form : Form) (s : List ℕ) → refuse 16 (contradiction_as form s x) (λ _. refuse 17 (mixed_in x.effects x.knowledge) (λ _. k)) ≡ next (table_settled_as form s x e) (λ _ _. k)
  unfolding table_unmixed
  behind_as Flags s = behind_table
  behind_as Valued s = behind (contradiction_as Valued s x) (mixed_in x.effects x.knowledge)

-- 16 by the form.
settled_as : (form : Form) (s : List ℕ) (x : Table) (e : ℕ) → table_settled_as form s x e ≡ refuse 16 (contradiction_as form s x) (λ _. table_unmixed x e)
unfolding table_settled
settled_as Flags s x e = refl
settled_as Valued s x e = refl

against_as : (form : Form) (s : List ℕ) → first_against (contradictory_as form s) [] (table_in form s).effects ≡ contradiction_as form s (table_in form s)
unfolding contradictory_as contradiction_in
against_as Flags s = refl
against_as Valued s = refl

-- THE TABLE, whatever plan the notes hold.
module _ (form : Form) (s t : List ℕ) (here : TableHere form s t) where
  whole : TableParts form s (table_in form s) here.table_end
  whole = whole_table s t here

  -- 16.
  module _ (count : ℕ) (is : count ≡ get_or t effects_slot 0) where
    count_16 : count ≡ length (table_in form s).effects
    count_16 = is ∙ effects_counted s here.bytes (table_in form s) here.table_end whole t here.noted

    pub few_16 : count ≤ 255
    few_16 = let few = effects_few s here.bytes (table_in form s) here.table_end whole in let c = count_16 in omega arith

    pub stand_16 : EffectsHere form s t count
    stand_16 = rw count_16 (effects_stand s here.bytes (table_in form s) here.table_end whole t here.noted)

    pub runs_16 : RunsHere form s t
    runs_16 = runs_here s t here

    pub values_16 : Counted form s
    values_16 = whole.values

    module _ (f : Option ℕ) (answer : f ≡ found (first_against (contradictory_as form s) [] (effects_in form s t 0 count))) where
      abbrev sought : List Effect → Option ℕ
      sought es = found (first_against (contradictory_as form s) [] es)

      sought_16 : f ≡ found (contradiction_as form s (table_in form s))
      sought_16 =
          answer
          ∙ ap (λ (n : ℕ). sought (effects_in form s t 0 n)) count_16
          ∙ ap sought (effects_are s here.bytes (table_in form s) here.table_end whole t here.noted)
          ∙ ap found (against_as form s)

      pub at_16 : (e p : ℕ) → f ≡ Some p → (why : Fault) → why ≡ record { refusal = ContradictoryEffects; place = p } → over (Err why) ≡ passed (table_settled_as form s (table_in form s) e)
      unfolding refuse passed
      at_16 e p g why is-why = rw (is-why, settled_as form s (table_in form s) e, found_at (contradiction_as form s (table_in form s)) f sought_16 p g)

      pub past_16 : (e : ℕ) (r : Passed) → f ≡ None → over r ≡ passed (table_unmixed (table_in form s) e) → over r ≡ passed (table_settled_as form s (table_in form s) e)
      unfolding refuse
      past_16 e r g h = h ∙ ap passed (rw (settled_as form s (table_in form s) e, found_none (contradiction_as form s (table_in form s)) f sought_16 g))

  -- 17.
  module _ (e : ℕ) (ends : table_at format form s 0 ≡ got (table_in form s) e) (count : ℕ) (is : count ≡ get_or t knowledge_slot 0) where
    count_17 : count ≡ length (table_in form s).knowledge
    count_17 = is ∙ knowledge_counted s here.bytes (table_in form s) here.table_end whole t here.noted

    lines_17 : (knowledge_in s (e - 2 * count) 0 count ≡ (table_in form s).knowledge) × KnowledgeHere s (e - 2 * count) count × (2 * count ≤ e)
    lines_17 =
        let at-end = table_parts form s (table_in form s) e ends in
        rw count_17 (knowledge_stands (table_in form s).fluents (table_in form s).actions s at-end.less at-end.runs_end (table_in form s).knowledge e at-end.knowledge_read)

    pub bytes_17 : 2 * count ≤ e
    bytes_17 = lines_17.2

    pub fits_17 : Fits w64 (2 * count)
    fits_17 = let few = knowledge_few s here.bytes (table_in form s) here.table_end whole in let c = count_17 in record { fits = omega arith }

    pub stand_17 : (start : ℕ) → start ≡ e - 2 * count → KnowledgeHere s start count
    stand_17 start e₁ = rw e₁ lines_17.1

    module _ (start : ℕ) (starts : start ≡ e - 2 * count) (f : Option ℕ) (answer : MixedFound s t start count f) where
      sought_17 : f ≡ found (mixed_in (table_in form s).effects (table_in form s).knowledge)
      sought_17 =
          answer.holds (table_in form s).effects (acting s here.bytes (table_in form s) here.table_end whole t here.noted)
          ∙ ap (λ (p : ℕ). found (mixed_in (table_in form s).effects (knowledge_in s p 0 count))) starts
          ∙ ap (λ (ks : List Knowledge). found (mixed_in (table_in form s).effects ks)) lines_17.0

      pub at_17 : (p : ℕ) → f ≡ Some p → (why : Fault) → why ≡ record { refusal = EffectAndKnowledge; place = p } → over (Err why) ≡ passed (table_unmixed (table_in form s) e)
      unfolding table_unmixed refuse passed
      at_17 p g why is-why = rw (is-why, found_at (mixed_in (table_in form s).effects (table_in form s).knowledge) f sought_17 p g)

      pub none_17 : f ≡ None → over (Ok e) ≡ passed (table_unmixed (table_in form s) e)
      unfolding table_unmixed refuse passed
      none_17 g = rw (found_none (mixed_in (table_in form s).effects (table_in form s).knowledge) f sought_17 g)

-- A REQUEST that was read: its table is there, and its plan behind it.
module _ (form : Form) (s : List ℕ) (bytes : (i : ℕ) → Fits w8 (get_or s i 0)) (t : List ℕ) (here : ReadHere form s t) where
  abbrev small : (i : ℕ) → get_or s i 0 < 256
  small i = (bytes i).fits

  abbrev x : Request
  x = here.request

  -- What its table left.
  abbrev u : List ℕ
  u = table_noted x.table blank

  abbrev there : Parts form s x here.end
  there = read_parts s small t here

  comes : TableHere form s u
  comes = read_comes s small t here

  same_table : table_in form s ≡ x.table
  same_table = read_same s small t here

  tail : request_at format form s (table_in form s) there.place ≡ got x here.end
  tail = read_tail s small t here

  tail_is : t ≡ tail_with form here.guards x u
  tail_is = read_noted s small t here

  pub table_read_here : TableHere form s t
  table_read_here = subst (TableHere form s) (sym tail_is) (table_stays s u comes here.guards there.place x here.end tail)

  whole_here : TableParts form s (table_in form s) comes.table_end
  whole_here = whole_table s u comes

  slot_is : (j count : ℕ) → count ≡ get_or t j 0 → count ≡ get_or (tail_with form here.guards x u) j 0
  slot_is j count is = is ∙ ap (λ (v : List ℕ). get_or v j 0) tail_is

  -- The table ends where the plan starts.
  module _ (plan : ℕ) (is : plan ≡ get_or t plan_slot 0) where
    pub table_ends : table_at format form s 0 ≡ got (table_in form s) plan
    table_ends =
        let place = there.place in
        let stands : plan_place form x ≡ place = (request_parts form s (table_in form s) place x here.end tail).placed in
        let at : plan ≡ place = slot_is plan_slot plan is ∙ plan_noted_at form s (table_in form s) whole_here.few whole_here.less whole_here.values place x here.end tail u here.guards comes.sized ∙ stands in
        rw (same_table, at) there.table_read

    module _ (e : ℕ) where
      settled_behind : past_all form s e ≡ next (table_settled_as form s (table_in form s) plan) (λ _ _. past_18 form s e)
      unfolding past_all past_18 next
      settled_behind = rw (here.reads, same_table) (behind_as x.table plan (refuse 18 (overlap_as form s x.plan) (λ _. got x e)) form s)

      module _ (first : Passed) (asked : over first ≡ passed (table_settled_as form s (table_in form s) plan)) where
        pub refused_first : (why : Fault) → first ≡ Err why → over (Err why) ≡ passed (past_all form s e)
        unfolding next passed
        refused_first why stops = rw (settled_behind, passed_stop (table_settled_as form s (table_in form s) plan) why (sym asked ∙ ap over stops))

        pub refused_then : (q : ℕ) (r : Passed) → first ≡ Ok q → over r ≡ passed (past_18 form s e) → over r ≡ passed (past_all form s e)
        unfolding next
        refused_then q r goes h = h ∙ ap passed (rw (settled_behind, (passed_to (table_settled_as form s (table_in form s) plan) q (sym asked ∙ ap over goes)).1))

  -- 18.
  module _ (count : ℕ) (is : count ≡ get_or t items_slot 0) where
    count_18 : items_of x.plan ≡ count
    count_18 = sym (slot_is items_slot count is ∙ items_noted form s (table_in form s) whole_here.few whole_here.less whole_here.values there.place x here.end tail u here.guards comes.sized)

    held_18 : PlanHeld form s t x.plan
    held_18 =
        subst (λ (v : List ℕ). PlanHeld form s v x.plan) (sym tail_is)
        (tail_held form s (table_in form s) whole_here.few whole_here.less whole_here.values there.place x here.end tail u here.guards comes.sized)

    pub values_18 : Counted form s
    values_18 = whole_here.values

    pub stand_18 : SomePlan form s t count
    stand_18 = record { plan = x.plan; held = held_18; items = count_18 }

    module _ (f : Option ℕ) (answer : OverlapFound form s t count f) (e : ℕ) where
      sought_18 : f ≡ found (overlap_as form s x.plan)
      sought_18 = answer.holds x.plan held_18 count_18

      pub at_18 : (p : ℕ) → f ≡ Some p → (why : Fault) → why ≡ record { refusal = NotExclusive; place = p } → over (Err why) ≡ passed (past_18 form s e)
      unfolding past_18 next refuse passed
      at_18 p g why is-why = rw (is-why, here.reads, found_at (overlap_as form s x.plan) f sought_18 p g)

      pub none_18 : f ≡ None → over (Ok e) ≡ passed (past_18 form s e)
      unfolding past_18 next refuse passed
      none_18 g = rw (here.reads, found_none (overlap_as form s x.plan) f sought_18 g)

-- SETTLED, of whatever has a request in it. The notes are the same at every answer.
module _ {A : Type 0} (form : Form) (note : A → List ℕ → List ℕ) (t u : List ℕ) where
  alike : (x : Request) (y : A) (e : ℕ) → u ≡ note y t → (f h k : Refusals.Found)
      → next (refuse 16 f (λ _. refuse 17 h (λ _. refuse 18 k (λ _. got x e)))) (λ _ i. got u i) ≡ noting note (refuse 16 f (λ _. refuse 17 h (λ _. refuse 18 k (λ _. got y e)))) t
  unfolding noting next refuse
  alike x y e noted (at i) h k = refl
  alike x y e noted nowhere (at i) k = refl
  alike x y e noted nowhere nowhere (at i) = refl
  alike x y e noted nowhere nowhere nowhere = ap (λ (v : List ℕ). got v e) noted

  module _ (s : List ℕ) (of : A → Request) (g : Got A) where
    abbrev past : Got A
    past = next g λ y e. past_as form s (of y) (got y e)

    read_stops : (why : Fault) (v : List ℕ) → g ≡ stopped why → outcome (Err why) v ≡ noting note past t
    unfolding noting next outcome
    read_stops why v is = rw is

    went : (y : A) (e q : ℕ) → g ≡ got y e → u ≡ note y t → sections_as form s 0 ≡ got (of y) q → (r : Passed) → over r ≡ passed (past_all form s e) → outcome r u ≡ noting note past t
    unfolding past_all next
    went y e q is noted reads r h =
        passed_outcome (past_all form s e) r u h
        ∙ rw (reads, is) (alike (of y) y e noted (contradiction_as form s (of y).table) (mixed_in (of y).table.effects (of y).table.knowledge) (overlap_as form s (of y).plan))

-- Without guards.
module _ (s t u : List ℕ) (empty : t ≡ blank) (all : Passed) (read : outcome all u ≡ noting (request_noted Flags) (read_request format Flags s) t) where
  pub settle_fault : (why : Fault) (v : List ℕ) → all ≡ Err why → outcome (Err why) v ≡ noting (request_noted Flags) (settled format s) t
  unfolding settled
  settle_fault why v is = read_stops Flags (request_noted Flags) t u s (λ x. x) (read_request format Flags s) why v (noting_fault (request_noted Flags) (read_request format Flags s) all t u read why is)

  module _ (e : ℕ) (is : all ≡ Ok e) where
    read_got : (x : Request) × (read_request format Flags s ≡ got x e) × (u ≡ request_noted Flags x t)
    read_got = noting_got (request_noted Flags) (read_request format Flags s) all t u read e is

    pub settle_here : ReadHere Flags s u
    settle_here = plain_here s u Flags read_got.0 e read_got.1 (read_got.2 ∙ ap (request_noted Flags read_got.0) empty)

    pub settle_there : (r : Passed) → over r ≡ passed (past_all Flags s e) → outcome r u ≡ noting (request_noted Flags) (settled format s) t
    unfolding settled
    settle_there = went Flags (request_noted Flags) t u s (λ x. x) (read_request format Flags s) read_got.0 e e read_got.1 read_got.2 (plain_read s Flags read_got.0 e read_got.1).1

-- With values.
module _ (s t u : List ℕ) (empty : t ≡ blank) (all : Passed) (read : outcome all u ≡ noting (request_noted Valued) (read_request format Valued s) t) where
  pub values_fault : (why : Fault) (v : List ℕ) → all ≡ Err why → outcome (Err why) v ≡ noting (request_noted Valued) (settled_values format s) t
  unfolding settled_values
  values_fault why v is = read_stops Valued (request_noted Valued) t u s (λ x. x) (read_request format Valued s) why v (noting_fault (request_noted Valued) (read_request format Valued s) all t u read why is)

  module _ (e : ℕ) (is : all ≡ Ok e) where
    values_got : (x : Request) × (read_request format Valued s ≡ got x e) × (u ≡ request_noted Valued x t)
    values_got = noting_got (request_noted Valued) (read_request format Valued s) all t u read e is

    pub values_here : ReadHere Valued s u
    values_here = plain_here s u Valued values_got.0 e values_got.1 (values_got.2 ∙ ap (request_noted Valued values_got.0) empty)

    pub values_there : (r : Passed) → over r ≡ passed (past_all Valued s e) → outcome r u ≡ noting (request_noted Valued) (settled_values format s) t
    unfolding settled_values
    values_there = went Valued (request_noted Valued) t u s (λ x. x) (read_request format Valued s) values_got.0 e e values_got.1 values_got.2 (plain_read s Valued values_got.0 e values_got.1).1

-- With guards.
module _ (s t u : List ℕ) (empty : t ≡ blank) (all : Passed) (read : outcome all u ≡ noting guarded_noted (read_guarded format s) t) where
  pub guarded_fault : (why : Fault) (v : List ℕ) → all ≡ Err why → outcome (Err why) v ≡ noting guarded_noted (settled_guarded format s) t
  unfolding settled_guarded
  guarded_fault why v is = read_stops Flags guarded_noted t u s (λ g. g.request) (read_guarded format s) why v (noting_fault guarded_noted (read_guarded format s) all t u read why is)

  module _ (e : ℕ) (is : all ≡ Ok e) where
    guarded_got : (g : GuardedRequest) × (read_guarded format s ≡ got g e) × (u ≡ guarded_noted g t)
    guarded_got = noting_got guarded_noted (read_guarded format s) all t u read e is

    pub guarded_stands : ReadHere Flags s u
    guarded_stands = guarded_here s u guarded_got.0 e guarded_got.1 (guarded_got.2 ∙ ap (guarded_noted guarded_got.0) empty)

    pub guarded_there : (r : Passed) → over r ≡ passed (past_all Flags s e) → outcome r u ≡ noting guarded_noted (settled_guarded format s) t
    unfolding settled_guarded
    guarded_there =
        went Flags guarded_noted t u s (λ g. g.request) (read_guarded format s) guarded_got.0 e (guards_place guarded_got.0.request) guarded_got.1 guarded_got.2
        (guarded_read s guarded_got.0 e guarded_got.1).reads
