-- A table that the notes hold, past 16, and a plan that was read behind it, wherever it stands, are a request at hand: sections 6 to 8 stand where they were
-- read, the order of the lines and the slots of what is sensed are as the table left them, and those of the plan as reading it left them. So is
-- a request that was read whole, with guards or without, into notes that held nothing. Assumes nothing.
use Prim.Native.Nat.{ℕ, ◌+◌, ◌*◌, ◌%◌, ◌≤◌, ◌<◌}
use native.Mathlib.Omega.{arith}
use mathlib.Core.Path.{◌≡◌, refl, sym, ◌∙◌, ap, subst}
use mathlib.Core.Bool.{true, false, false≢true}
use mathlib.Core.List.{List, []}
use lib.ListN.{length, get_or, set, length-set}
use lib.Dec.{eqb, ltb}
use borrow.Author.Tests.{ltb-true, lt-ltb, eq-eqb, ne_eqb}
use Rattle.meaning.specs.Tests.{either, pick}
use Rattle.meaning.specs.Limits.{format, all_literals}
use Rattle.meaning.specs.Requests.{Knowledge, Table, Request}
use Rattle.meaning.specs.Reading
use Rattle.meaning.specs.declared.Form.{Form}
use Rattle.meaning.specs.declared.Form.TheVariants.{Flags, Valued}
use Rattle.meaning.specs.Reading.{got, literals, bound_of, plan_at, placed, request_at, read_request}
use Rattle.meaning.specs.Guards.{GuardedRequest, read_guarded}
use Rattle.meaning.specs.Refusals.{nowhere, contradiction_in}
use Rattle.meaning.specs.Lines.{knowledge_of, sensing, senses}
use Rattle.meaning.proofs.TestLaws.{clash, pick_true, pick_false, same_test, some_has, has_some, some_those}
use Rattle.parsing.specs.Bits.{bit_of}
use Rattle.reading.specs.Noted.{none_yet, count_slot, section_noted, table_noted, sensed_from, sensed_to, plan_slot, items_slot, goals_slot, guards_slot, word_bits, pair_slot, pair_there, slots, effects_slot, executability_slot, knowledge_slot}
use Rattle.reading.specs.Planned.{items_of, plan_noted}
use Rattle.reading.specs.Requested.{goals_place, plan_place, places_noted, tail_with, tail_noted, request_noted, guards_place, guarded_noted}
use Rattle.reading.specs.Listed.{listed, ListHere, listed_as}
use Rattle.parsing.proofs.BitLaws.{no_bit}
use Rattle.reading.proofs.PlanSizes.{sequence_read}
use Rattle.reader.proofs.WholeLaws.{GuardsRead, guarded_read}
use Rattle.finding.specs.PlansHeld.{PlanHeld}
use Rattle.finding.specs.TablesHere.{blank, OfTable, TableHere}
use Rattle.finding.specs.ReadHere.{ReadHere}
use Rattle.finding.proofs.KeptLaws.{kept}
use Rattle.finding.proofs.HereLaws.{list_here, literals_read}
use Rattle.finding.proofs.ReadLaws.{TableParts, table_parts, request_parts, whole_table, table_stays, read_parts, read_comes, read_same, read_tail, read_noted, plain_here, guarded_here, knowledge_good, with_runs, with_knowledge, runs_long, sensed_empty, after_sections, effects_ordered, runs_ordered, items_noted, plan_noted_at, goals_noted, guards_noted, tail_held}
use Rattle.steps.specs.Held.{plan_of, table_in, plan_in, goals_in, whether_in, guards_at, guards_in, request_in}
use Rattle.steps.specs.LinesFound.{run_places, effect_places, Senses}
use Rattle.steps.specs.Rests.{Nexts}
use Rattle.steps.specs.AtHand.{contradiction_as, GuardsHere, AtHand}
use Rattle.steps.proofs.SectionsStand.{knowledge_small, SectionsRead, request_sections, list_after}
use Rattle.steps.proofs.SensedLaws.{Sensed, says, seen_after, seen_some, lines_sensed}
use Rattle.steps.proofs.NextSlots.{nexts_agree, plan_nexts}

module _ {form : Form} (s t : List ℕ) (here : TableHere form s t) where
  abbrev x : Table
  x = table_in form s

  whole : TableParts form s (table_in form s) here.table_end
  whole = whole_table s t here

  -- WHAT AN ACTION SENSES.
  knowledge_sensed : (a : ℕ) → a < format.actions → Sensed t a (seen_after a (λ _. false) x.knowledge)
  unfolding with_knowledge section_noted count_slot pair_there
  knowledge_sensed a small = record {
    pair = λ f low. ap (λ (w : ℕ). bit_of w (f % word_bits)) (same (pair_slot a f) (record { far = omega arith; other = (λ e. omega arith, λ e. omega arith, λ e. omega arith, λ e. omega arith) })) ∙ after.pair f low;
    most = rw from_same after.most;
    from = λ f e. rw from_same (after.from f e);
    to = λ f e. rw to_same (after.to f e);
    last = rw to_same after.last;
    some = λ h. after.some (subst (λ (v : ℕ). 0 < v) to_same h);
  }
    where
      same : (j : ℕ) → OfTable j → get_or t j 0 ≡ get_or (with_knowledge s here.bytes x here.table_end whole) j 0
      same = after_sections s here.bytes x here.table_end whole t here.noted

      from_same : get_or t (sensed_from + a) 0 ≡ get_or (with_knowledge s here.bytes x here.table_end whole) (sensed_from + a) 0
      from_same = same (sensed_from + a) (record { far = omega arith; other = (λ e. omega arith, λ e. omega arith, λ e. omega arith, λ e. omega arith) })

      to_same : get_or t (sensed_to + a) 0 ≡ get_or (with_knowledge s here.bytes x here.table_end whole) (sensed_to + a) 0
      to_same = same (sensed_to + a) (record { far = omega arith; other = (λ e. omega arith, λ e. omega arith, λ e. omega arith, λ e. omega arith) })

      start : List ℕ
      start = set (with_runs s here.bytes x here.table_end whole) knowledge_slot (length x.knowledge)

      empty : (j : ℕ) → sensed_from ≤ j → j < slots → (j ≡ effects_slot → ⊥) → (j ≡ executability_slot → ⊥) → (j ≡ knowledge_slot → ⊥) → get_or start j 0 ≡ 0
      empty j far near b c d = kept (with_runs s here.bytes x here.table_end whole) knowledge_slot j (length x.knowledge) d ∙ sensed_empty s here.bytes x here.table_end whole j far near b c

      from_empty : get_or start (sensed_from + a) 0 ≡ 0
      from_empty = empty (sensed_from + a) (omega arith) (omega arith) (λ e. omega arith) (λ e. omega arith) (λ e. omega arith)

      to_empty : get_or start (sensed_to + a) 0 ≡ 0
      to_empty = empty (sensed_to + a) (omega arith) (omega arith) (λ e. omega arith) (λ e. omega arith) (λ e. omega arith)

      nothing : Sensed start a (λ _. false)
      nothing = record {
        pair = λ f low. ap (λ (w : ℕ). bit_of w (f % word_bits)) (empty (pair_slot a f) (omega arith) (omega arith) (λ e. omega arith) (λ e. omega arith) (λ e. omega arith)) ∙ no_bit (f % word_bits);
        most = omega (arith, from_empty);
        from = λ f e. absurd (false≢true e);
        to = λ f e. absurd (false≢true e);
        last = omega (arith, to_empty);
        some = λ h. absurd (omega (arith, to_empty));
      }

      after : Sensed (with_knowledge s here.bytes x here.table_end whole) a (seen_after a (λ _. false) x.knowledge)
      after =
          lines_sensed a small 0 none_yet x.knowledge start (λ _. false)
          (length-set (with_runs s here.bytes x here.table_end whole) knowledge_slot (length x.knowledge) ∙ runs_long s here.bytes x here.table_end whole)
          (λ l has. (knowledge_good s x here.table_end whole l has, knowledge_small s x here.table_end whole l has)) nothing

  -- It is what its knowledge lines say.
  senses_is : (a f : ℕ) → seen_after a (λ _. false) x.knowledge f ≡ senses (knowledge_of (table_in form s) a) f
  unfolding senses knowledge_of says either
  senses_is a f =
      seen_some a (λ _. false) x.knowledge f
      ∙ sym (some_those (λ (k : Knowledge). eqb k.action a) (λ (k : Knowledge). eqb k.fluent f) x.knowledge)

  senses_there : (a : ℕ) → a < format.actions → Senses form s t a
  unfolding senses sensing
  senses_there a small =
      record {
        pair = λ f low. sensed.pair f low ∙ senses_is a f;
        most = sensed.most;
        from = λ f e. sensed.from f (senses_is a f ∙ e);
        to = λ f e. sensed.to f (senses_is a f ∙ e);
        last = sensed.last;
        any = same_test (ltb 0 (get_or t (sensed_to + a) 0)) (sensing (table_in form s) a)
            (λ e.
            let w = sensed.some (ltb-true _ _ e) in
            let u = some_has (λ (k : Knowledge). eqb k.fluent w.0) (knowledge_of (table_in form s) a) (sym (senses_is a w.0) ∙ w.1) in
            has_some (λ (k : Knowledge). true) (knowledge_of (table_in form s) a) u.0 u.1 refl)
            (λ e.
            let u = some_has (λ (k : Knowledge). true) (knowledge_of (table_in form s) a) e in
            let h = has_some (λ (k : Knowledge). eqb k.fluent u.0.fluent) (knowledge_of (table_in form s) a) u.0 u.1 (eq-eqb u.0.fluent u.0.fluent refl) in
            let below = sensed.to u.0.fluent (senses_is a u.0.fluent ∙ h) in
            lt-ltb 0 (get_or t (sensed_to + a) 0) (omega arith));
      }
    where
      sensed : Sensed t a (seen_after a (λ _. false) x.knowledge)
      sensed = knowledge_sensed a small

-- A PLAN that was read behind such a table, and noted, with guards at a place.
module _ {form : Form} (s t : List ℕ) (here : TableHere form s t) (g p : ℕ) (y : Request) (q : ℕ) (read : request_at format form s (table_in form s) p ≡ got y q) where
  abbrev u : List ℕ
  u = tail_with form g y t

  parts_there : TableParts form s (table_in form s) here.table_end
  parts_there = whole_table s t here

  table_is : table_in form s ≡ y.table
  table_is = sym (request_parts form s (table_in form s) p y q read).table

  few_fluents : y.table.fluents ≤ format.fluents
  few_fluents = rw (sym table_is) parts_there.few

  each : SectionsRead form s y
  each = request_sections form s (table_in form s) p y q read

  plan_slot_is : get_or u plan_slot 0 ≡ plan_place form y
  plan_slot_is = plan_noted_at form s (table_in form s) parts_there.few parts_there.less parts_there.values p y q read t g here.sized

  plan_is : plan_in form s u ≡ y.plan
  unfolding plan_in plan_of
  plan_is = rw (table_is, plan_slot_is) (ap plan_of each.plan)

  items_is : get_or u items_slot 0 ≡ each.items
  unfolding plan_at
  items_is =
      let noted = items_noted form s (table_in form s) parts_there.few parts_there.less parts_there.values p y q read t g here.sized in
      let counted = ((sequence_read form y.table.fluents y.table.actions s 8 (plan_place form y) 0 (omega arith)).holds (record { value = y.plan; items = each.items }) (goals_place form y) each.plan).counted in
      omega arith

  goals_at : goals_in u ≡ goals_place form y
  unfolding goals_in
  goals_at = goals_noted form s (table_in form s) parts_there.few parts_there.less parts_there.values p y q read t g here.sized

  whether_at : whether_in form s u ≡ y.whether_place
  unfolding whether_in
  whether_at = rw goals_at (sym (list_after form y.table.fluents format.listed s few_fluents parts_there.values (goals_place form y) each.goals_list y.whether_place each.goals))

  goals_listed : listed_as form s (goals_place form y) ≡ each.goals_list
  goals_listed = (literals_read form y.table.fluents format.listed s few_fluents parts_there.values (goals_place form y) each.goals_list y.whether_place each.goals).is

  whether_listed : listed s y.whether_place ≡ each.whether_list
  whether_listed = (list_here Reading.fluents y.table.fluents s format.listed y.whether_place each.whether_list each.whether_end each.whether).0

  -- THE REQUEST that is held has that table and what was read.
  pub plan_request : request_in form s (tail_with form g y t) ≡ y
  unfolding request_in
  plan_request = rw (table_is, plan_is, whether_at, goals_at, goals_listed, whether_listed, sym each.goals_are, sym each.whether_are) refl

  plan_held_there : PlanHeld form s u y.plan
  plan_held_there = tail_held form s (table_in form s) parts_there.few parts_there.less parts_there.values p y q read t g here.sized

  request_nexts : Nexts u format.items 0 y.plan
  unfolding tail_with places_noted
  request_nexts =
      let planned : List ℕ = plan_noted form (plan_place form y) t y.plan in
      let few = plan_held_there.few in
      nexts_agree y.plan format.items 0 planned (tail_with form g y t)
      (record {
        slot = λ j _ less.
            kept (set (set (set planned plan_slot (plan_place form y)) items_slot (items_of y.plan)) goals_slot (goals_place form y)) guards_slot (format.items + j) g (λ e. omega (arith, e, less, few))
            ∙ kept (set (set planned plan_slot (plan_place form y)) items_slot (items_of y.plan)) goals_slot (format.items + j) (goals_place form y) (λ e. omega (arith, e, less, few))
            ∙ kept (set planned plan_slot (plan_place form y)) items_slot (format.items + j) (items_of y.plan) (λ e. omega (arith, e, less, few))
            ∙ kept planned plan_slot (format.items + j) (plan_place form y) (λ e. omega (arith, e, less, few));
      })
      (plan_nexts form (plan_place form y) t y.plan few (omega (arith, here.sized)))

  stays : TableHere form s u
  stays = table_stays s t here g p y q read

  guards_slot_is : guards_at u ≡ g
  unfolding guards_at
  guards_slot_is = guards_noted form s (table_in form s) parts_there.few parts_there.less parts_there.values p y q read t g here.sized

  -- THE GUARDS that it holds.
  plan_guards : guards_in s (tail_with form g y t) ≡ pick (eqb g 0) (λ _. []) (λ _. placed (g + 1) (listed s g))
  unfolding guards_in
  plan_guards = rw guards_slot_is refl

  pub plan_at_hand : contradiction_as form s (table_in form s) ≡ nowhere → GuardsHere form s g → AtHand form s (tail_with form g y t)
  unfolding run_places effect_places
  plan_at_hand passed guards =
      record {
        bytes = here.bytes;
        short = here.short;
        table = record { end = here.table_end; is = here.table };
        effects = effects_ordered s here.bytes (table_in form s) here.table_end parts_there u stays.noted;
        runs = runs_ordered s here.bytes (table_in form s) here.table_end parts_there u stays.noted;
        senses = senses_there s u stays;
        no_contradiction = passed;
        plan = rw (table_is, plan_is, plan_slot_is, goals_at, items_is) each.plan;
        held = rw plan_is plan_held_there;
        nexts = rw plan_is request_nexts;
        goals = rw (table_is, goals_at, goals_listed, whether_at) each.goals;
        whether = record { end = each.whether_end; is = rw (table_is, whether_at, whether_listed) each.whether };
        guards = rw guards_slot_is guards;
      }

no_guards : (form : Form) (s : List ℕ) → GuardsHere form s 0
no_guards Flags s = λ some. clash (eq-eqb 0 0 refl) some
no_guards Valued s = refl

-- Without guards there are none.
pub plan_unguarded : {form : Form} (s t : List ℕ) (here : TableHere form s t) (p : ℕ) (y : Request) (q : ℕ) → request_at format form s (table_in form s) p ≡ got y q → guards_in s (tail_noted form y t) ≡ []
plan_unguarded {form} s t here p y q read = plan_guards s t here 0 p y q read ∙ pick_true (eqb 0 0) _ _ (eq-eqb 0 0 refl)

-- A REQUEST that was read from the start, into notes that held nothing.
module _ {form : Form} (s : List ℕ) (bytes : (i : ℕ) → get_or s i 0 < 256) (t : List ℕ) (read : ReadHere form s t) where
  abbrev before : List ℕ
  before = table_noted read.request.table blank

  pub read_at_hand : contradiction_as form s read.request.table ≡ nowhere → GuardsHere form s read.guards → AtHand form s t
  read_at_hand passed guards =
      subst (AtHand form s) (sym (read_noted s bytes t read))
      (plan_at_hand s before (read_comes s bytes t read) read.guards (read_parts s bytes t read).place read.request read.end (read_tail s bytes t read) (ap (contradiction_as form s) (read_same s bytes t read) ∙ passed) guards)

  pub request_read : request_in form s t ≡ read.request
  request_read =
      ap (request_in form s) (read_noted s bytes t read)
      ∙ plan_request s before (read_comes s bytes t read) read.guards (read_parts s bytes t read).place read.request read.end (read_tail s bytes t read)

  -- The table that it holds.
  read_table : TableHere form s t
  read_table =
      subst (TableHere form s) (sym (read_noted s bytes t read))
      (table_stays s before (read_comes s bytes t read) read.guards (read_parts s bytes t read).place read.request read.end (read_tail s bytes t read))

  guards_read : guards_in s t ≡ pick (eqb read.guards 0) (λ _. []) (λ _. placed (read.guards + 1) (listed s read.guards))
  guards_read =
      ap (guards_in s) (read_noted s bytes t read)
      ∙ plan_guards s before (read_comes s bytes t read) read.guards (read_parts s bytes t read).place read.request read.end (read_tail s bytes t read)

-- Read WHOLE it has no guards,
module _ (form : Form) (s : List ℕ) (bytes : (i : ℕ) → get_or s i 0 < 256) (t : List ℕ) (x : Request) (e : ℕ) (reads : read_request format form s ≡ got x e) (noted : t ≡ request_noted form x blank) where
  pub plain_at_hand : contradiction_as form s x.table ≡ nowhere → AtHand form s t
  plain_at_hand passed = read_at_hand s bytes t (plain_here s t form x e reads noted) passed (no_guards form s)

  pub plain_request : request_in form s t ≡ x
  plain_request = request_read s bytes t (plain_here s t form x e reads noted)

  pub plain_table : TableHere form s t
  plain_table = read_table s bytes t (plain_here s t form x e reads noted)

  pub plain_guards : guards_in s t ≡ []
  plain_guards = guards_read s bytes t (plain_here s t form x e reads noted) ∙ pick_true (eqb 0 0) _ _ (eq-eqb 0 0 refl)

-- or those that were read with it.
module _ (s : List ℕ) (bytes : (i : ℕ) → get_or s i 0 < 256) (t : List ℕ) (g : GuardedRequest) (e : ℕ) (reads : read_guarded format s ≡ got g e) (noted : t ≡ guarded_noted g blank) where
  abbrev place : ℕ
  place = guards_place g.request

  with_guards : GuardsRead s g e
  with_guards = guarded_read s g e reads

  guards_here : (listed s place ≡ with_guards.literals_read) × ((bound : ℕ) → 2 * g.request.table.fluents ≤ bound → ListHere bound s place)
  unfolding bound_of
  guards_here = list_here literals g.request.table.fluents s 64 place with_guards.literals_read e with_guards.guards

  few : g.request.table.fluents ≤ format.fluents
  few =
      let there = read_parts s bytes t (guarded_here s t g e reads noted) in
      (table_parts Flags s g.request.table there.place there.table_read).few

  pub guarded_at_hand : contradiction_in g.request.table ≡ nowhere → AtHand Flags s t
  guarded_at_hand passed = read_at_hand s bytes t (guarded_here s t g e reads noted) passed (λ _. guards_here.1 all_literals (omega (arith, few)))

  pub guarded_request : request_in Flags s t ≡ g.request
  guarded_request = request_read s bytes t (guarded_here s t g e reads noted)

  pub guarded_table : TableHere Flags s t
  guarded_table = read_table s bytes t (guarded_here s t g e reads noted)

  pub guarded_guards : guards_in s t ≡ g.guards
  unfolding guards_place
  guarded_guards =
      guards_read s bytes t (guarded_here s t g e reads noted)
      ∙ pick_false (eqb place 0) _ _ (ne_eqb place 0 (λ is. omega arith))
      ∙ ap (placed (place + 1)) guards_here.0
      ∙ sym with_guards.guards_are
