-- What reading leaves in the notes: what they hold of a table, whatever plan was noted since, and of a plan, whatever was noted before. Assumes nothing.
use Prim.Native.Nat.{ℕ, zero, suc, ◌+◌, ◌-◌, ◌*◌, ◌≤◌, ◌<◌}
use native.Mathlib.Omega.{arith}
use mathlib.Core.Path.{◌≡◌, refl, sym, ◌∙◌, ap, subst}
use mathlib.Core.List.{List, ◌∷◌, map}
use lib.ListN.{length, get_or, set, length-set}
use lib.Seq.{get_or-set_same}
use lib.Dec.{eqb}
use Rattle.meaning.specs.Tests.{Has}
use Rattle.meaning.specs.Limits.{format}
use Rattle.meaning.specs.Requests.{Effect, Executability, Knowledge, Table, Request}
use Rattle.meaning.specs.Lines.{effects_of, executability_of}
use Rattle.meaning.specs.Reading
use Rattle.meaning.specs.declared.Form.{Form}
use Rattle.meaning.specs.declared.Form.TheVariants.{Flags}
use Rattle.meaning.specs.Reading.{Got, got, fault, byte_at, count_at, below_at, list_at, literals_at, body_at, effect_at, executability_at, knowledge_at, repeated, section_at, plan_at, table_at, request_at, read_request}
use Rattle.meaning.specs.Guards.{GuardedRequest, read_guarded}
use Rattle.meaning.proofs.SettledLaws.{got_same}
use Rattle.meaning.proofs.RangeLaws.{after_got, count_within, section_read, repeated_length}
use Rattle.reading.specs.Noted.{effects, executability, knowledge, effect_lines, run_lines, line_place, action_in, note_line, none_yet, count_slot, section_noted, table_noted, branch_place, branch_item, sensed_from, sensed_to, plan_slot, items_slot, goals_slot, guards_slot, mode_slot, sensed, slots, effects_slot, executability_slot, knowledge_slot, line_numbers}
use Rattle.reading.specs.Ordered.{InOrder}
use Rattle.reading.specs.Listed.{listed_as, LiteralsHere, span}
use Rattle.reading.specs.Planned.{items_of, bytes_of, plan_noted}
use Rattle.parsing.specs.Masks.{Counted}
use Rattle.reading.specs.Requested.{Starts, goals_place, plan_place, places_noted, tail_with, request_with, guards_place, guarded_noted}
use Rattle.finding.specs.LinesHere.{Consistent, effect_from, EffectHere, place_in, effects_in, EffectsHere, knowledge_from, knowledge_in, KnowledgeHere, Acting}
use Rattle.reading.proofs.SectionLaws.{got_place, byte_got, number_got}
use Rattle.reading.proofs.PlanSizes.{sequence_read, literals_through}
use Rattle.reading.proofs.RequestLaws.{placed_as_length, table_counted}
use Rattle.reader.specs.Sections.{actions_place}
use Rattle.reader.proofs.WholeLaws.{behind_values, Parts, parts, plain_read, guarded_read}
use Rattle.finding.proofs.HereLaws.{LiteralsRead, literals_read, effect_here}
use Rattle.finding.proofs.KeptLaws.{kept, Outside, appended_kept, pair_kept, section_kept, section_counted, section_long, plan_kept, plan_long}
use Rattle.finding.proofs.ChainLaws.{section_ordered, order_same, order_some}
use Rattle.finding.specs.PlansHeld.{Kept, PlanHeld}
use Rattle.finding.specs.TablesHere.{blank, table_of, table_in, OfTable, TableHere, RunsHere}
use Rattle.finding.specs.ReadHere.{ReadHere}
use Rattle.finding.proofs.PlanKept.{kept_agree}
use Rattle.finding.proofs.WrittenLaws.{plan_held}
use Rattle.finding.proofs.HoldsLaws.{PlacedIn, effects_placed, placed_same, effects_found, effects_fit}
use Rattle.finding.proofs.FoundLaws.{blank_long, blank_slot}

starts_first : (form : Form) → Starts form 0
unfolding Starts
starts_first form e = refl

-- THE PARTS of a table that was read up to p, and of a request with that table.
pub record TableParts (form : Form) (s : List ℕ) (t : Table) (p : ℕ) : Type 0 where
  pub few : t.fluents ≤ format.fluents
  pub less : t.actions ≤ format.actions
  pub values : Counted form s
  pub effects_at : ℕ
  pub effects_end : ℕ
  pub effects_read : section_at (effect_at format form t.fluents t.actions s) s effects_at ≡ got t.effects effects_end
  pub runs_end : ℕ
  pub runs_read : section_at (executability_at format form t.fluents t.actions s) s effects_end ≡ got t.executability runs_end
  pub knowledge_read : section_at (knowledge_at format t.fluents t.actions s) s runs_end ≡ got t.knowledge p

pub table_parts : (form : Form) (s : List ℕ) (t : Table) (p : ℕ) → table_at format form s 0 ≡ got t p → TableParts form s t p
unfolding table_at
table_parts form s t p e =
    after_got (count_at 1 format.fluents s 0) _ e λ n p₁ en u₁.
    after_got (count_at 1 format.actions s (actions_place form 0 n)) _ (behind_values s 0 n p₁ en form _ t p u₁) λ m p₂ em u₂.
    after_got (literals_at form n format.listed s p₂) _ u₂ λ facts p₃ _ u₃.
    after_got (section_at (effect_at format form n m s) s p₃) _ u₃ λ es p₄ ees u₄.
    after_got (section_at (executability_at format form n m s) s p₄) _ u₄ λ xs p₅ exs u₅.
    after_got (section_at (knowledge_at format n m s) s p₅) _ u₅ λ ks p₆ eks u₆.
    subst on u₆ (record {
      few = count_within 1 format.fluents s 0 n p₁ en;
      less = count_within 1 format.actions s (actions_place form 0 n) m p₂ em;
      values = table_counted form s 0 t p (starts_first form) e;
      effects_at = p₃;
      effects_end = p₄;
      effects_read = ees;
      runs_end = p₅;
      runs_read = exs;
      knowledge_read = eks;
    })
  where
    on : Got Table → Type 0
    on (got y q) = TableParts form s y q
    on (fault n q) = Unit {0}

pub record RequestParts (form : Form) (s : List ℕ) (t : Table) (p : ℕ) (y : Request) : Type 0 where
  pub table : y.table ≡ t
  pub items : ℕ
  pub plan_end : ℕ
  pub plan_read : plan_at format form t.fluents t.actions s p ≡ got (record { value = y.plan; items = items }) plan_end
  pub placed : plan_place form y ≡ p

pub request_parts : (form : Form) (s : List ℕ) (t : Table) (p : ℕ) (y : Request) (q : ℕ) → request_at format form s t p ≡ got y q → RequestParts form s t p y
unfolding request_at plan_place goals_place plan_at
request_parts form s t p y q e =
    after_got (plan_at format form t.fluents t.actions s p) _ e λ plan q₁ eplan v₁.
    after_got (literals_at form t.fluents format.listed s q₁) _ v₁ λ goals q₂ egoals v₂.
    after_got (list_at Reading.fluents t.fluents format.listed s q₂) _ v₂ λ whether q₃ _ v₃.
    let sized = (sequence_read form t.fluents t.actions s 8 p 0 (omega arith)).holds plan q₁ eplan in
    let through = (literals_through s form t.fluents format.listed q₁).holds goals q₂ egoals in
    let after = sized.through.after in
    let ends = through.after in
    let goals_at : q₂ - (1 + span form (length goals)) ≡ q₁ = omega arith in
    let plan_stands : q₁ - (2 + bytes_of form plan.value) ≡ p = omega arith in
    subst on v₃ (record {
      table = refl;
      items = plan.items;
      plan_end = q₁;
      plan_read = eplan;
      placed = rw (placed_as_length form (q₁ + 1) goals, goals_at) plan_stands;
    })
  where
    on : Got Request → Type 0
    on (got x i) = RequestParts form s t p x
    on (fault n i) = Unit {0}

-- How many lines a section has.
pub section_length : {A : Type 0} (line : ℕ → Got A) (s : List ℕ) (p : ℕ) (xs : List A) (q : ℕ) → section_at line s p ≡ got xs q → length xs ≡ get_or s p 0
unfolding section_at
section_length line s p xs q e =
    after_got (byte_at s p) _ e λ c i ec e'.
    repeated_length line c i xs q e' ∙ sym (byte_got s p c i ec).1

acts : (form : Form) (s : List ℕ) (e : Effect) → effect_from form s e.place ≡ e → get_or s e.place 0 ≡ e.action
unfolding effect_from
acts form s e is = ap (λ (y : Effect). y.action) is

-- WHAT THE LINES SAY: actions within the limit, and where each stands.
module _ {form : Form} (s : List ℕ) (t : Table) (p : ℕ) (whole : TableParts form s t p) where
  pub effect_good : (e : Effect) → Has t.effects e → (effect_from form s e.place ≡ e) × EffectHere form s e.place
  effect_good e has =
      let w = section_read (effect_at format form t.fluents t.actions s) s whole.effects_at t.effects whole.effects_end whole.effects_read e has in
      effect_here form t.fluents t.actions s whole.few whole.less whole.values w.0 e w.1 w.2

  pub effect_acts : (e : Effect) → Has t.effects e → e.action < format.actions
  effect_acts e has =
      let good = effect_good e has in
      let is : get_or s e.place 0 ≡ e.action = acts form s e good.0 in
      let small = good.1.action in
      omega arith

  pub run_good : (r : Executability) → Has t.executability r → r.action < format.actions
  unfolding executability_at
  run_good r has =
      let w = section_read (executability_at format form t.fluents t.actions s) s whole.effects_end t.executability whole.runs_end whole.runs_read r has in
      after_got (below_at t.actions s w.0) _ w.2 λ a i ea e₁.
      after_got (body_at format form t.fluents s i) _ e₁ λ b j _ e₂.
      let small = (number_got t.actions s w.0 a i ea).3 in
      let most = whole.less in
      let is : a ≡ r.action = ap (λ (y : Executability). y.action) (got_same e₂) in
      omega arith

  pub run_stands : (r : Executability) → Has t.executability r → (listed_as form s (r.place + 1) ≡ r.body) × LiteralsHere form s (r.place + 1) × Consistent form s r.body
  unfolding executability_at body_at
  run_stands r has =
      let w = section_read (executability_at format form t.fluents t.actions s) s whole.effects_end t.executability whole.runs_end whole.runs_read r has in
      after_got (below_at t.actions s w.0) _ w.2 λ a i ea e₁.
      after_got (body_at format form t.fluents s i) _ e₁ λ b j eb e₂.
      let after : w.0 + 1 ≡ i = (number_got t.actions s w.0 a i ea).2 in
      let body = subst (λ (z : ℕ). LiteralsRead form s z b) (sym after) (literals_read form t.fluents 16 s whole.few whole.values i b j eb) in
      let is : record { place = w.0; action = a; body = b } ≡ r = got_same e₂ in
      subst (λ (y : Executability). (listed_as form s (y.place + 1) ≡ y.body) × LiteralsHere form s (y.place + 1) × Consistent form s y.body) is
      (body.is, body.here, body.apart)

  pub knowledge_good : (k : Knowledge) → Has t.knowledge k → k.action < format.actions
  unfolding knowledge_at
  knowledge_good k has =
      let w = section_read (knowledge_at format t.fluents t.actions s) s whole.runs_end t.knowledge p whole.knowledge_read k has in
      after_got (below_at t.actions s w.0) _ w.2 λ a i ea e₁.
      after_got (below_at t.fluents s i) _ e₁ λ f j _ e₂.
      let small = (number_got t.actions s w.0 a i ea).3 in
      let most = whole.less in
      let is : a ≡ k.action = ap (λ (y : Knowledge). y.action) (got_same e₂) in
      omega arith

-- THE SLOTS of a table that its knowledge lines do not touch.
pub record Apart (j : ℕ) : Type 0 where
  pub far : effect_lines ≤ j
  pub action : (a : ℕ) → a < format.actions → (j ≡ sensed_from + a → ⊥) × (j ≡ sensed_to + a → ⊥)
  pub sensed : j < sensed
  pub other : (j ≡ knowledge_slot → ⊥) × (j ≡ plan_slot → ⊥) × (j ≡ items_slot → ⊥) × (j ≡ goals_slot → ⊥) × (j ≡ guards_slot → ⊥)

lines_apart : (j : ℕ) → effect_lines ≤ j → j < sensed_from → Apart j
lines_apart j far near = record {
  far = far;
  action = λ a h. (λ e. omega arith, λ e. omega arith);
  sensed = omega arith;
  other = (λ e. omega arith, λ e. omega arith, λ e. omega arith, λ e. omega arith, λ e. omega arith);
}

-- So are the counts of effects and of executability lines.
counts_apart : (j : ℕ) → items_slot < j → j < knowledge_slot → Apart j
counts_apart j far near = record {
  far = omega arith;
  action = λ a h. (λ e. omega arith, λ e. omega arith);
  sensed = omega arith;
  other = (λ e. omega arith, λ e. omega arith, λ e. omega arith, λ e. omega arith, λ e. omega arith);
}

module _ {form : Form} (s : List ℕ) (bytes : (i : ℕ) → get_or s i 0 < 256) (x : Table) (p : ℕ) (whole : TableParts form s x p) where
  pub effects_few : length x.effects < line_numbers
  effects_few = rw (section_length (effect_at format form x.fluents x.actions s) s whole.effects_at x.effects whole.effects_end whole.effects_read) (bytes whole.effects_at)

  pub runs_few : length x.executability < line_numbers
  runs_few = rw (section_length (executability_at format form x.fluents x.actions s) s whole.effects_end x.executability whole.runs_end whole.runs_read) (bytes whole.effects_end)

  pub knowledge_few : length x.knowledge < line_numbers
  knowledge_few = rw (section_length (knowledge_at format x.fluents x.actions s) s whole.runs_end x.knowledge p whole.knowledge_read) (bytes whole.runs_end)

  -- EACH SECTION leaves alone what is none of its slots.
  module _ (u : List ℕ) (j : ℕ) where
    pub effects_kept : Outside effect_lines j → (j ≡ effects_slot → ⊥) → get_or (section_noted effects x.effects u) j 0 ≡ get_or u j 0
    unfolding note_line action_in count_slot
    effects_kept out other =
        section_kept effects j (λ (e : Effect). e.action < format.actions)
        (λ last k e v small less few. appended_kept j effect_lines last k e.place e.action v less few small out) (λ e small. small)
        x.effects u (effect_acts s x p whole) effects_few other

    pub runs_kept : Outside run_lines j → (j ≡ executability_slot → ⊥) → get_or (section_noted executability x.executability u) j 0 ≡ get_or u j 0
    unfolding note_line action_in count_slot
    runs_kept out other =
        section_kept executability j (λ (r : Executability). r.action < format.actions)
        (λ last k r v small less few. appended_kept j run_lines last k r.place r.action v less few small out) (λ r small. small)
        x.executability u (run_good s x p whole) runs_few other

    knowledge_kept : Apart j → get_or (section_noted knowledge x.knowledge u) j 0 ≡ get_or u j 0
    unfolding note_line action_in count_slot
    knowledge_kept apart =
        section_kept knowledge j (λ (l : Knowledge). l.action < format.actions)
        (λ last k l v small _ _. pair_kept j l.action l.fluent v apart.sensed (apart.action l.action small).0 (apart.action l.action small).1) (λ l small. small)
        x.knowledge u (knowledge_good s x p whole) knowledge_few apart.other.0

  -- The notes after one section, two and three, from notes that held nothing.
  unfoldable pub with_effects : List ℕ
  with_effects = section_noted effects x.effects blank

  unfoldable pub with_runs : List ℕ
  with_runs = section_noted executability x.executability with_effects

  unfoldable pub with_knowledge : List ℕ
  with_knowledge = section_noted knowledge x.knowledge with_runs

  effects_long : length with_effects ≡ slots
  unfolding with_effects
  effects_long = section_long effects x.effects blank ∙ blank_long

  pub runs_long : length with_runs ≡ slots
  unfolding with_runs
  runs_long = section_long executability x.executability with_effects ∙ effects_long

  -- They hold nothing of what is sensed before the knowledge lines are noted.
  pub sensed_empty : (j : ℕ) → sensed_from ≤ j → j < slots → (j ≡ effects_slot → ⊥) → (j ≡ executability_slot → ⊥) → get_or with_runs j 0 ≡ 0
  unfolding with_runs with_effects
  sensed_empty j far near a b =
      runs_kept with_effects j (λ i h e. omega arith) b
      ∙ effects_kept blank j (λ i h e. omega arith) a
      ∙ blank_slot j near

  -- NOTES THAT HOLD THE TABLE, whatever plan they hold too.
  module _ (u : List ℕ) (noted : (j : ℕ) → OfTable j → get_or u j 0 ≡ get_or (table_noted x blank) j 0) where
    pub after_sections : (j : ℕ) → OfTable j → get_or u j 0 ≡ get_or with_knowledge j 0
    unfolding table_noted with_knowledge with_runs with_effects
    after_sections j of = noted j of

    after_runs : (j : ℕ) → Apart j → get_or u j 0 ≡ get_or with_runs j 0
    unfolding with_knowledge
    after_runs j apart = after_sections j (record { far = apart.far; other = (apart.other.1, apart.other.2, apart.other.3, apart.other.4) }) ∙ knowledge_kept with_runs j apart

    after_effects : (j : ℕ) → Apart j → Outside run_lines j → (j ≡ executability_slot → ⊥) → get_or u j 0 ≡ get_or with_effects j 0
    unfolding with_runs
    after_effects j apart out other = after_runs j apart ∙ runs_kept with_effects j out other

    -- The mode is 0.
    pub mode_empty : get_or u mode_slot 0 ≡ 0
    mode_empty =
        after_runs mode_slot (record {
          far = omega arith;
          action = λ a h. (λ e. omega arith, λ e. omega arith);
          sensed = omega arith;
          other = (λ e. omega arith, λ e. omega arith, λ e. omega arith, λ e. omega arith, λ e. omega arith);
        })
        ∙ sensed_empty mode_slot (omega arith) (omega arith) (λ e. omega arith) (λ e. omega arith)

    pub knowledge_counted : get_or u knowledge_slot 0 ≡ length x.knowledge
    unfolding with_knowledge note_line action_in count_slot
    knowledge_counted =
        after_sections knowledge_slot (record { far = omega arith; other = (λ e. omega arith, λ e. omega arith, λ e. omega arith, λ e. omega arith) })
        ∙ section_counted knowledge knowledge_slot (λ (l : Knowledge). l.action < format.actions)
        (λ last k l v small _ _. pair_kept knowledge_slot l.action l.fluent v (omega arith) (λ e. omega arith) (λ e. omega arith)) (λ l small. small)
        x.knowledge with_runs (knowledge_good s x p whole) knowledge_few refl (omega (arith, runs_long))

    pub effects_counted : get_or u effects_slot 0 ≡ length x.effects
    unfolding with_effects note_line action_in count_slot
    effects_counted =
        after_effects effects_slot (counts_apart effects_slot (omega arith) (omega arith)) (λ i h e. omega arith) (λ e. omega arith)
        ∙ section_counted effects effects_slot (λ (e : Effect). e.action < format.actions)
        (λ last k e v small less few. appended_kept effects_slot effect_lines last k e.place e.action v less few small (λ i h q. omega arith)) (λ e small. small)
        x.effects blank (effect_acts s x p whole) effects_few refl (omega (arith, blank_long))

    pub runs_counted : get_or u executability_slot 0 ≡ length x.executability
    unfolding with_runs note_line action_in count_slot
    runs_counted =
        after_runs executability_slot (counts_apart executability_slot (omega arith) (omega arith))
        ∙ section_counted executability executability_slot (λ (r : Executability). r.action < format.actions)
        (λ last k r v small less few. appended_kept executability_slot run_lines last k r.place r.action v less few small (λ i h q. omega arith)) (λ r small. small)
        x.executability with_effects (run_good s x p whole) runs_few refl (omega (arith, effects_long))

    -- 16 finds the effects.
    placed_effects : PlacedIn u 0 x.effects
    unfolding with_effects section_noted count_slot line_place
    placed_effects =
        placed_same with_effects u 0 x.effects
        (λ i less.
        let few = effects_few in
        after_effects (effect_lines + i) (lines_apart (effect_lines + i) (omega arith) (omega arith)) (λ m h e. omega arith) (λ e. omega arith))
        (effects_placed 0 none_yet x.effects (set blank effects_slot (length x.effects)) (length-set blank effects_slot (length x.effects) ∙ blank_long) (omega (arith, effects_few)))

    pub effects_are : effects_in form s u 0 (length x.effects) ≡ x.effects
    effects_are = effects_found form s u 0 x.effects placed_effects (λ e has. (effect_good s x p whole e has).0)

    pub effects_stand : EffectsHere form s u (length x.effects)
    effects_stand = record {
      line = λ i less.
          let same : 0 + i + 1 ≡ i + 1 = omega arith in
          subst (λ (j : ℕ). EffectHere form s (place_in u j)) same
          (effects_fit form s u 0 x.effects placed_effects (λ e has. (effect_good s x p whole e has).1) i less);
    }

    -- THE LINES OF AN ACTION.
    module _ (a : ℕ) (small : a < format.actions) where
      pub effects_ordered : InOrder u effect_lines a (map (λ (e : Effect). e.place) (effects_of x a))
      unfolding with_effects note_line action_in count_slot effects_of
      effects_ordered =
          order_same effect_lines with_effects u
          (λ i less. after_effects (effect_lines + i) (lines_apart (effect_lines + i) (omega arith) (omega arith)) (λ m h e. omega arith) (λ e. omega arith))
          a (map (λ (e : Effect). e.place) (effects_of x a)) small
          (section_ordered effects effect_lines (omega arith) (λ (e : Effect). e.place) (λ last k e u. refl) a small x.effects blank blank_long effects_few
          (effect_acts s x p whole) (λ i less e. omega arith) (λ i less. blank_slot (effect_lines + i) (omega arith)))

      pub runs_ordered : InOrder u run_lines a (map (λ (r : Executability). r.place) (executability_of x a))
      unfolding with_runs with_effects note_line action_in count_slot executability_of
      runs_ordered =
          order_same run_lines with_runs u
          (λ i less. after_runs (run_lines + i) (lines_apart (run_lines + i) (omega arith) (omega arith)))
          a (map (λ (r : Executability). r.place) (executability_of x a)) small
          (section_ordered executability run_lines (omega arith) (λ (r : Executability). r.place) (λ last k r u. refl) a small x.executability with_effects effects_long runs_few
          (run_good s x p whole) (λ i less e. omega arith)
          (λ i less. effects_kept blank (run_lines + i) (λ m h e. omega arith) (λ e. omega arith) ∙ blank_slot (run_lines + i) (omega arith)))

    -- 17 finds the actions that have an effect.
    pub acting : Acting u x.effects
    unfolding effects_of
    acting = record {
      slot = λ a small. order_some (λ (e : Effect). e.place) (λ (e : Effect). eqb e.action a) u effect_lines a x.effects (effects_ordered a small);
    }

-- SECTIONS 6 TO 8, over any table and any notes, with guards at a place.
module _ (form : Form) (s : List ℕ) (x : Table) (few : x.fluents ≤ format.fluents) (less : x.actions ≤ format.actions) (values : Counted form s) (p : ℕ) (y : Request) (q : ℕ) (read : request_at format form s x p ≡ got y q) (t : List ℕ) (g : ℕ) where
  of_request : RequestParts form s x p y
  of_request = request_parts form s x p y q read

  items_most : (of_request.items ≡ items_of y.plan) × (items_of y.plan ≤ format.items)
  unfolding plan_at
  items_most =
      let sized = (sequence_read form x.fluents x.actions s 8 p 0 (omega arith)).holds (record { value = y.plan; items = of_request.items }) of_request.plan_end of_request.plan_read in
      let a = sized.counted in let b = sized.most in
      (omega arith, omega arith)

  planned : List ℕ
  planned = plan_noted form (plan_place form y) t y.plan

  abbrev placed_plan : List ℕ
  placed_plan = set planned plan_slot (plan_place form y)

  abbrev placed_items : List ℕ
  placed_items = set placed_plan items_slot (items_of y.plan)

  abbrev placed_goals : List ℕ
  placed_goals = set placed_items goals_slot (goals_place form y)

  tail_is : tail_with form g y t ≡ set placed_goals guards_slot g
  unfolding tail_with places_noted planned
  tail_is = refl

  slot_in : (j v : ℕ) → (j ≡ guards_slot → ⊥) → get_or placed_goals j 0 ≡ v → get_or (tail_with form g y t) j 0 ≡ v
  slot_in j v other is = ap (λ (u : List ℕ). get_or u j 0) tail_is ∙ kept placed_goals guards_slot j g other ∙ is

  before_places : (j : ℕ) → (j ≡ plan_slot → ⊥) × (j ≡ items_slot → ⊥) × (j ≡ goals_slot → ⊥) × (j ≡ guards_slot → ⊥) → get_or (tail_with form g y t) j 0 ≡ get_or planned j 0
  before_places j other =
      slot_in j _ other.3
      (kept placed_items goals_slot j (goals_place form y) other.2 ∙ kept placed_plan items_slot j (items_of y.plan) other.1 ∙ kept planned plan_slot j (plan_place form y) other.0)

  -- They leave the table as it was.
  pub tail_kept : (j : ℕ) → OfTable j → get_or (tail_with form g y t) j 0 ≡ get_or t j 0
  unfolding planned
  tail_kept j of =
      before_places j of.other
      ∙ plan_kept form j of.far (plan_place form y) t y.plan items_most.1

  module _ (sized : length t ≡ slots) where
    planned_long : length planned ≡ slots
    unfolding planned
    planned_long = plan_long form (plan_place form y) t y.plan ∙ sized

    plan_long_too : length placed_plan ≡ slots
    plan_long_too = length-set planned plan_slot (plan_place form y) ∙ planned_long

    items_long : length placed_items ≡ slots
    items_long = length-set placed_plan items_slot (items_of y.plan) ∙ plan_long_too

    goals_long : length placed_goals ≡ slots
    goals_long = length-set placed_items goals_slot (goals_place form y) ∙ items_long

    pub tail_long : length (tail_with form g y t) ≡ slots
    tail_long = ap length tail_is ∙ length-set placed_goals guards_slot g ∙ goals_long

    pub items_noted : get_or (tail_with form g y t) items_slot 0 ≡ items_of y.plan
    items_noted =
        slot_in items_slot _ (λ e. omega arith) (kept placed_items goals_slot items_slot (goals_place form y) (λ e. omega arith)
        ∙ get_or-set_same placed_plan items_slot (items_of y.plan) 0 (omega (arith, plan_long_too)))

    pub plan_noted_at : get_or (tail_with form g y t) plan_slot 0 ≡ plan_place form y
    plan_noted_at =
        slot_in plan_slot _ (λ e. omega arith) (kept placed_items goals_slot plan_slot (goals_place form y) (λ e. omega arith)
        ∙ kept placed_plan items_slot plan_slot (items_of y.plan) (λ e. omega arith)
        ∙ get_or-set_same planned plan_slot (plan_place form y) 0 (omega (arith, planned_long)))

    pub goals_noted : get_or (tail_with form g y t) goals_slot 0 ≡ goals_place form y
    goals_noted = slot_in goals_slot _ (λ e. omega arith) (get_or-set_same placed_items goals_slot (goals_place form y) 0 (omega (arith, items_long)))

    pub guards_noted : get_or (tail_with form g y t) guards_slot 0 ≡ g
    guards_noted = ap (λ (u : List ℕ). get_or u guards_slot 0) tail_is ∙ get_or-set_same placed_goals guards_slot g 0 (omega (arith, goals_long))

    -- 18 finds the plan.
    pub tail_held : PlanHeld form s (tail_with form g y t) y.plan
    unfolding planned
    tail_held =
        let held = plan_held form x.fluents x.actions s few less values p t (record { value = y.plan; items = of_request.items }) of_request.plan_end (omega (arith, sized)) of_request.plan_read in
        let same : (j : ℕ) → j < effect_lines → get_or (tail_with form g y t) j 0 ≡ get_or (plan_noted form (plan_place form y) t y.plan) j 0 = λ j near.
        before_places j (λ e. omega arith, λ e. omega arith, λ e. omega arith, λ e. omega arith) in
        let small = held.few in
        record {
          few = small;
          written = held.written;
          kept = kept_agree form y.plan 0 (plan_noted form (plan_place form y) t y.plan) (tail_with form g y t)
              (record {
                places = λ j _ less. same (0 + j) (omega arith);
                ends = λ j _ less. same (branch_place + j) (omega arith);
                counts = λ j _ less. same (branch_item + j) (omega arith);
              })
              (subst (λ (i : ℕ). Kept form (plan_noted form i t y.plan) 0 y.plan) (sym of_request.placed) held.kept);
        }

-- KNOWLEDGE LINES stand one after another, two bytes each.
module _ (n m : ℕ) (s : List ℕ) (less : m ≤ format.actions) where
  lines_here : (left p : ℕ) (ks : List Knowledge) (q : ℕ) → repeated (knowledge_at format n m s) left p ≡ got ks q → (start k : ℕ) → start + 2 * k ≡ p → p ≤ length s
      → (knowledge_in s start k left ≡ ks) × (q ≡ p + 2 * left) × (q ≤ length s) × ((i : ℕ) → i < left → get_or s (p + 2 * i) 0 < format.actions)
  unfolding repeated knowledge_in knowledge_at knowledge_from
  lines_here zero p ks q e start k at room = let ends = got_place e in (got_same e, omega arith, omega arith, λ i h. absurd (omega arith))
  lines_here (suc left) p ks q e start k at room =
      after_got (knowledge_at format n m s p) _ e λ l i el e'.
      after_got (repeated (knowledge_at format n m s) left i) _ e' λ ls j els e''.
      after_got (below_at m s p) _ el λ a i₁ ea u₁.
      after_got (below_at n s i₁) _ u₁ λ f i₂ ef u₂.
      let first = number_got m s p a i₁ ea in
      let then = number_got n s i₁ f i₂ ef in
      let is : record { place = p; action = a; fluent = f } ≡ l = got_same u₂ in
      let ends : i₂ ≡ i = got_place u₂ in
      let second : i₁ ≡ p + 1 = sym first.2 in
      let third : p + 2 ≡ i = omega (arith, first.2, then.2) in
      let inside : i ≤ length s = omega (arith, then.0, then.2) in
      let rest = lines_here left i ls j els start (k + 1) (omega arith) inside in
      let here : knowledge_from s (start + 2 * k) ≡ l = rw (at, first.1, sym second, then.1) is in
      let after : j ≡ q = got_place e'' in (
        ap (λ (y : Knowledge). y ∷ knowledge_in s start (k + 1) left) here ∙ ap (λ (ys : List Knowledge). l ∷ ys) rest.0 ∙ got_same e'',
        omega (arith, rest.1),
        omega (arith, rest.2),
        small p a i first.1 (omega (arith, first.3)) third rest.3,
      )
    where
      small : (p a i : ℕ) → get_or s p 0 ≡ a → a < format.actions → p + 2 ≡ i → ((h : ℕ) → h < left → get_or s (i + 2 * h) 0 < format.actions) → (h : ℕ) → h < suc left → get_or s (p + 2 * h) 0 < format.actions
      small p a i is few after later zero h = let same : p + 2 * zero ≡ p = omega arith in rw (same, is) few
      small p a i is few after later (suc g) h = let same : i + 2 * g ≡ p + 2 * suc g = omega arith in subst (λ (z : ℕ). get_or s z 0 < format.actions) same (later g (omega arith))

  pub knowledge_stands : (p : ℕ) (ks : List Knowledge) (q : ℕ) → section_at (knowledge_at format n m s) s p ≡ got ks q
      → (knowledge_in s (q - 2 * length ks) 0 (length ks) ≡ ks) × KnowledgeHere s (q - 2 * length ks) (length ks) × (2 * length ks ≤ q)
  unfolding section_at
  knowledge_stands p ks q e =
      after_got (byte_at s p) _ e λ c i ec e'.
      let counted : length ks ≡ c = repeated_length (knowledge_at format n m s) c i ks q e' in
      let byte = byte_got s p c i ec in
      let lines = lines_here c i ks q e' i 0 (omega arith) (omega (arith, byte.0, byte.2)) in
      let ends = lines.1 in
      let start : q - 2 * length ks ≡ i = omega arith in
      rw (start, counted) (lines.0, record { ends = omega (arith, lines.2); acts = lines.3 }, omega arith)

-- THE TABLE AT THE START of an input, and its executability lines.
pub table_is : (form : Form) (s : List ℕ) (x : Table) (p : ℕ) → table_at format form s 0 ≡ got x p → table_in form s ≡ x
unfolding table_in table_of
table_is form s x p read = ap table_of read

module _ {form : Form} (s t : List ℕ) (here : TableHere form s t) where
  pub whole_table : TableParts form s (table_in form s) here.table_end
  whole_table = table_parts form s (table_in form s) here.table_end here.table

  pub runs_here : RunsHere form s t
  runs_here = record {
    order = runs_ordered s here.bytes (table_in form s) here.table_end whole_table t here.noted;
    line = run_stands s (table_in form s) here.table_end whole_table;
  }

  -- A plan that is noted leaves the table there.
  pub table_stays : (g p : ℕ) (y : Request) (q : ℕ) → request_at format form s (table_in form s) p ≡ got y q → TableHere form s (tail_with form g y t)
  table_stays g p y q read = record {
    bytes = here.bytes;
    short = here.short;
    table_end = here.table_end;
    table = here.table;
    sized = tail_long form s (table_in form s) whole_table.few whole_table.less whole_table.values p y q read t g here.sized;
    noted = λ j of. tail_kept form s (table_in form s) whole_table.few whole_table.less whole_table.values p y q read t g j of ∙ here.noted j of;
  }

-- A table that was noted into notes that held nothing is there.
module _ (form : Form) (s : List ℕ) (bytes : (i : ℕ) → get_or s i 0 < 256) (short : length s ≤ format.request) (x : Table) (p : ℕ) (read : table_at format form s 0 ≡ got x p) where
  pub table_comes : TableHere form s (table_noted x blank)
  unfolding table_noted
  table_comes = record {
    bytes = bytes;
    short = short;
    table_end = p;
    table = read ∙ ap (λ (z : Table). got z p) (sym (table_is form s x p read));
    sized =
        section_long knowledge x.knowledge (section_noted executability x.executability (section_noted effects x.effects blank))
        ∙ section_long executability x.executability (section_noted effects x.effects blank)
        ∙ section_long effects x.effects blank
        ∙ blank_long;
    noted = λ j of. ap (λ (z : Table). get_or (table_noted z blank) j 0) (sym (table_is form s x p read));
  }

-- A REQUEST that was read: its table, noted into notes that held nothing, is there, and the rest was read behind it.
module _ {form : Form} (s : List ℕ) (bytes : (i : ℕ) → get_or s i 0 < 256) (t : List ℕ) (here : ReadHere form s t) where
  pub read_parts : Parts form s here.request here.end
  read_parts = parts form s here.request here.end here.reads

  pub read_comes : TableHere form s (table_noted here.request.table blank)
  read_comes = table_comes form s bytes here.short here.request.table read_parts.place read_parts.table_read

  pub read_same : table_in form s ≡ here.request.table
  read_same = table_is form s here.request.table read_parts.place read_parts.table_read

  pub read_tail : request_at format form s (table_in form s) read_parts.place ≡ got here.request here.end
  read_tail = ap (λ (z : Table). request_at format form s z read_parts.place) read_same ∙ read_parts.tail_read

  -- The notes are what its table leaves, and then the rest.
  pub read_noted : t ≡ tail_with form here.guards here.request (table_noted here.request.table blank)
  unfolding request_with
  read_noted = here.noted

-- It is there when it was read whole, without guards or with them.
module _ (s t : List ℕ) where
  abbrev pub plain_here : (form : Form) (x : Request) (e : ℕ) → read_request format form s ≡ got x e → t ≡ request_with form 0 x blank → ReadHere form s t
  plain_here form x e is noted = record { request = x; end = e; guards = 0; short = (plain_read s form x e is).0; reads = (plain_read s form x e is).1; noted = noted }

  pub with_guards : (g : GuardedRequest) → t ≡ guarded_noted g blank → t ≡ request_with Flags (guards_place g.request) g.request blank
  unfolding guarded_noted
  with_guards g noted = noted

  abbrev pub guarded_here : (g : GuardedRequest) (e : ℕ) → read_guarded format s ≡ got g e → t ≡ guarded_noted g blank → ReadHere Flags s t
  guarded_here g e is noted = record {
    request = g.request;
    end = guards_place g.request;
    guards = guards_place g.request;
    short = (guarded_read s g e is).short;
    reads = (guarded_read s g e is).reads;
    noted = with_guards g noted;
  }
