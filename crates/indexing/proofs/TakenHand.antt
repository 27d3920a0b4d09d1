-- A request at hand stays at hand where the index of its table is taken into the notes. An action's lines get numbers in a row, and what later actions write is a line of
-- a larger number or another action's first line, so each action's lines stay in file order. An action beyond the table's has no line, and nothing is written of it.
-- Assumes nothing.
use Prim.Native.Nat.{ℕ, zero, suc, ◌+◌, ◌≤◌, ◌<◌}
use native.Mathlib.Omega.{arith}
use native.Mathlib.Decide.{ℕ_discrete}
use mathlib.Core.Path.{◌≡◌, refl, sym, ◌∙◌, ap, subst}
use mathlib.Core.List.{List, [], ◌∷◌, map}
use lib.ListN.{length, get_or, set, length-set}
use lib.Seq.{get_or-set_same}
use lib.Dec.{ltb}
use borrow.Author.Tests.{ltb-true, ltb-false}
use Rattle.meaning.specs.Limits.{format}
use Rattle.meaning.specs.Requests.{Effect, Executability, Table}
use Rattle.meaning.specs.Lines.{effects_of, executability_of}
use Rattle.meaning.specs.Indexes.{effect_places, run_places, index_of, offsets_at, counted_at, after_counted}
use Rattle.meaning.proofs.TestLaws.{by-test}
use Rattle.meaning.proofs.TableLines.{LinesThere, table_lines}
use Rattle.meaning.proofs.ActionLines.{of_none}
use Rattle.reading.specs.Noted.{effect_lines, run_lines, line_numbers, line_slots, line_place, next_line, first_line, sensed_from, mode_slot, slots}
use Rattle.reading.specs.Ordered.{Chain, InOrder}
use Rattle.finding.specs.TablesHere.{table_in, TableHere}
use Rattle.finding.proofs.KeptLaws.{kept, Outside}
use Rattle.steps.specs.Held.{guards_in, request_in}
use Rattle.steps.specs.LinesFound
use Rattle.steps.specs.AtHand.{AtHand}
use Rattle.steps.specs.Steps.{mode_in}
use Rattle.steps.proofs.SameHand.{Other, request_same, guards_same, hand_same}
use Rattle.indexing.specs.IndexNotes.{lines_taken, index_taken}
use Rattle.indexing.proofs.TakeLaws.{Left, First, all_left, first_left}
use Rattle.meaning.specs.declared.Form.TheVariants.{Flags}

-- LINES IN A ROW, numbered from k + 1 on: the first comes after i.
module _ (lines : ℕ) where
  Numbered : (t : List ℕ) (i k : ℕ) → List ℕ → Type 0
  Numbered t i k [] = next_line t lines i ≡ 0
  Numbered t i k (p ∷ ps) = (next_line t lines i ≡ k + 1) × (line_place t lines (k + 1) ≡ p) × Numbered t (k + 1) (k + 1) ps

  -- They are a chain, whose first is none or further on.
  first_rises : (t : List ℕ) (i k : ℕ) (ps : List ℕ) → Numbered t i k ps → 0 < next_line t lines i → k < next_line t lines i
  unfolding Numbered
  first_rises t i k [] row some = omega (arith, row)
  first_rises t i k (p ∷ ps) row some = omega (arith, row.0)

  numbered_chain : (t : List ℕ) (i k : ℕ) (ps : List ℕ) → k + length ps < line_numbers → Numbered t i k ps → Chain t lines (next_line t lines i) ps
  unfolding Numbered Chain
  numbered_chain t i k [] few row = row
  numbered_chain t i k (p ∷ ps) few row =
      rw row.0
      (record { some = omega arith; few = omega arith; stands = row.1; rises = first_rises t (k + 1) (k + 1) ps row.2 }, numbered_chain t (k + 1) (k + 1) ps (omega arith) row.2)

  -- Notes that agree on their slots have them too.
  numbered_kept : (t u : List ℕ) (i k : ℕ) (ps : List ℕ) → next_line u lines i ≡ next_line t lines i
      → ((m : ℕ) → k < m → m ≤ k + length ps → (line_place u lines m ≡ line_place t lines m) × (next_line u lines m ≡ next_line t lines m)) → Numbered t i k ps → Numbered u i k ps
  unfolding Numbered
  numbered_kept t u i k [] first same row = first ∙ row
  numbered_kept t u i k (p ∷ ps) first same row =
      let here = same (k + 1) (omega arith) (omega arith) in
      (first ∙ row.0, here.0 ∙ row.1, numbered_kept t u (k + 1) (k + 1) ps here.1 (λ m more most. same m (omega arith) (omega arith)) row.2)

  -- TAKING them.
  taken_long : (i k : ℕ) (ps t : List ℕ) → length (lines_taken lines i k ps t) ≡ length t
  unfolding lines_taken
  taken_long i k [] t = length-set t (lines + line_numbers + i) 0
  taken_long i k (p ∷ ps) t =
      taken_long (k + 1) (k + 1) ps (set (set t (lines + (k + 1)) p) (lines + line_numbers + i) (k + 1))
      ∙ length-set (set t (lines + (k + 1)) p) (lines + line_numbers + i) (k + 1)
      ∙ length-set t (lines + (k + 1)) p

  taken_kept : (j i k : ℕ) (ps t : List ℕ) → (j ≡ lines + line_numbers + i → ⊥) → ((m : ℕ) → k < m → m ≤ k + length ps → (j ≡ lines + m → ⊥) × (j ≡ lines + line_numbers + m → ⊥))
      → get_or (lines_taken lines i k ps t) j 0 ≡ get_or t j 0
  unfolding lines_taken
  taken_kept j i k [] t first away = kept t (lines + line_numbers + i) j 0 first
  taken_kept j i k (p ∷ ps) t first away =
      let here = away (k + 1) (omega arith) (omega arith) in
      taken_kept j (k + 1) (k + 1) ps (set (set t (lines + (k + 1)) p) (lines + line_numbers + i) (k + 1)) here.1 (λ m more most. away m (omega arith) (omega arith))
      ∙ kept (set t (lines + (k + 1)) p) (lines + line_numbers + i) j (k + 1) first
      ∙ kept t (lines + (k + 1)) j p here.0

  -- What they come after is no line of theirs.
  taken_numbered : lines ≤ run_lines → (i k : ℕ) (ps t : List ℕ) → length t ≡ slots → i < line_numbers + format.actions → (k < i → line_numbers ≤ i) → k + length ps < line_numbers
      → Numbered (lines_taken lines i k ps t) i k ps
  unfolding Numbered lines_taken next_line line_place
  taken_numbered room i k [] t sized near old few = get_or-set_same t (lines + line_numbers + i) 0 0 (omega arith)
  taken_numbered room i k (p ∷ ps) t sized near old few =
      let one : List ℕ = set t (lines + (k + 1)) p in
      let two : List ℕ = set one (lines + line_numbers + i) (k + 1) in
      let one_long : length one ≡ length t = length-set t (lines + (k + 1)) p in
      let two_long : length two ≡ length one = length-set one (lines + line_numbers + i) (k + 1) in (
        taken_kept (lines + line_numbers + i) (k + 1) (k + 1) ps two (λ e. let far = old (omega arith) in omega arith) (λ m more most. (λ e. omega arith, λ e. let far = old (omega arith) in omega arith))
            ∙ get_or-set_same one (lines + line_numbers + i) (k + 1) 0 (omega arith),
        taken_kept (lines + (k + 1)) (k + 1) (k + 1) ps two (λ e. omega arith) (λ m more most. (λ e. omega arith, λ e. omega arith))
            ∙ kept one (lines + line_numbers + i) (lines + (k + 1)) (k + 1) (λ e. omega arith)
            ∙ get_or-set_same t (lines + (k + 1)) p 0 (omega arith),
        taken_numbered room (k + 1) (k + 1) ps two (omega arith) (omega arith) (λ more. omega arith) (omega arith),
      )

-- A SLOT that no line with a number above k has, and none of so many actions from number a up.
record Clear (lines a left k j : ℕ) : Type 0 where
  place : (m : ℕ) → k < m → m < line_numbers → j ≡ lines + m → ⊥
  next : (m : ℕ) → k < m → m < line_numbers → j ≡ lines + line_numbers + m → ⊥
  first : (b : ℕ) → a ≤ b → b < a + left → j ≡ lines + line_numbers + (line_numbers + b) → ⊥

module _ (lines a left : ℕ) where
  -- It is one for the actions after the first, with the lines of that one passed.
  clear_later : (k c j : ℕ) → Clear lines a (suc left) k j → Clear lines (a + 1) left (k + c) j
  clear_later k c j clear = record {
    place = λ m more few. clear.place m (omega arith) few;
    next = λ m more few. clear.next m (omega arith) few;
    first = λ b least most. clear.first b (omega arith) (omega arith);
  }

  -- The two slots of a line that was passed are such, that of another action's first line, and all that are none of the section's.
  clear_line : (k m : ℕ) → m ≤ k → k < line_numbers → Clear lines a left k (lines + m) × Clear lines a left k (lines + line_numbers + m)
  clear_line k m most few = (
    record { place = λ n more less e. omega arith; next = λ n more less e. omega arith; first = λ b least less e. omega arith },
    record { place = λ n more less e. omega arith; next = λ n more less e. omega arith; first = λ b least less e. omega arith },
  )

  clear_first : (k b : ℕ) → (a ≤ b → a + left ≤ b) → Clear lines a left k (lines + line_numbers + (line_numbers + b))
  clear_first k b other = record {
    place = λ n more less e. omega arith;
    next = λ n more less e. omega arith;
    first = λ c least less e. let far = other (omega arith) in omega arith;
  }

  clear_outside : (k j : ℕ) → a + left ≤ format.actions → Outside lines j → Clear lines a left k j
  clear_outside k j few out = record {
    place = λ n more less e. out n (omega arith) e;
    next = λ n more less e. out (line_numbers + n) (omega arith) (omega arith);
    first = λ b least less e. out (line_numbers + (line_numbers + b)) (omega arith) (omega arith);
  }

  -- An action's lines keep it.
  action_kept : (k j : ℕ) (ps t : List ℕ) → k + length ps < line_numbers → Clear lines a (suc left) k j → get_or (lines_taken lines (line_numbers + a) k ps t) j 0 ≡ get_or t j 0
  action_kept k j ps t few clear =
      taken_kept lines j (line_numbers + a) k ps t (clear.first a (omega arith) (omega arith)) (λ m more most. (clear.place m more (omega arith), clear.next m more (omega arith)))

-- An action's lines are in order in all notes that agree on the slots that are clear of later ones.
order_here : (lines a left k : ℕ) (ps t u : List ℕ) → a < format.actions → k + length ps < line_numbers → Numbered lines t (line_numbers + a) k ps
    → ((j : ℕ) → lines ≤ j → j < lines + line_slots → Clear lines (a + 1) left (k + length ps) j → get_or u j 0 ≡ get_or t j 0) → InOrder u lines a ps
unfolding InOrder first_line next_line line_place
order_here lines a left k ps t u small few row same =
    numbered_chain lines u (line_numbers + a) k ps few
    (numbered_kept lines t u (line_numbers + a) k ps (same (lines + line_numbers + (line_numbers + a)) (omega arith) (omega arith) (clear_first lines (a + 1) left (k + length ps) a (λ least. omega arith)))
    (λ m more most.
    let clear = clear_line lines (a + 1) left (k + length ps) m most few in
    (same (lines + m) (omega arith) (omega arith) clear.0, same (lines + line_numbers + m) (omega arith) (omega arith) clear.1))
    row)

-- THE INDEX, action by action.
module _ (i : List ℕ) where
  so_many : (left p : ℕ) → length (offsets_at i left p) ≡ left
  unfolding offsets_at
  so_many zero p = refl
  so_many (suc left) p = ap suc (so_many left (p + 2))

  counted_long : (p : ℕ) → length (counted_at i p) ≡ get_or i p 0
  unfolding counted_at
  counted_long p = so_many (get_or i p 0) (p + 1)

  -- The lines of one action: its effects, and then its executability lines.
  abbrev with_effects : (a q effects : ℕ) → List ℕ → List ℕ
  with_effects a q effects t = lines_taken effect_lines (line_numbers + a) effects (counted_at i q) t

  abbrev with_both : (a q effects runs : ℕ) → List ℕ → List ℕ
  with_both a q effects runs t = lines_taken run_lines (line_numbers + a) runs (counted_at i (after_counted i q)) (with_effects a q effects t)

  both_long : (a q effects runs : ℕ) (t : List ℕ) → length (with_both a q effects runs t) ≡ length t
  both_long a q effects runs t =
      taken_long run_lines (line_numbers + a) runs (counted_at i (after_counted i q)) (with_effects a q effects t) ∙ taken_long effect_lines (line_numbers + a) effects (counted_at i q) t

  index_long : (a left q effects runs : ℕ) (t : List ℕ) → length (index_taken i a left q effects runs t) ≡ length t
  unfolding index_taken
  index_long a zero q effects runs t = refl
  index_long a (suc left) q effects runs t = index_long (a + 1) left _ _ _ (with_both a q effects runs t) ∙ both_long a q effects runs t

  module _ (x : Table) where
    index_kept : (j a left q effects runs : ℕ) (t : List ℕ) → Left i x a left q effects runs → Clear effect_lines a left effects j → Clear run_lines a left runs j
        → get_or (index_taken i a left q effects runs t) j 0 ≡ get_or t j 0
    unfolding index_taken
    index_kept j a zero q effects runs t all one two = refl
    index_kept j a (suc left) q effects runs t all one two =
        let first = first_left i x a left q effects runs all in
        let effects_few = first.effects_few in
        let runs_few = first.runs_few in
        let effects_long = counted_long q in
        let runs_long = counted_long (after_counted i q) in
        index_kept j (a + 1) left _ _ _ (with_both a q effects runs t) first.others (clear_later effect_lines a left effects (get_or i q 0) j one)
        (clear_later run_lines a left runs (get_or i (after_counted i q) 0) j two)
        ∙ action_kept run_lines a left runs j (counted_at i (after_counted i q)) (with_effects a q effects t) (omega arith) two
        ∙ action_kept effect_lines a left effects j (counted_at i q) t (omega arith) one

    record Ordered (u : List ℕ) (b : ℕ) : Type 0 where
      effects : InOrder u effect_lines b (effect_places x b)
      runs : InOrder u run_lines b (run_places x b)

    -- The first action's lines stay in order whatever the others are.
    module _ (a left q effects runs : ℕ) (t : List ℕ) (sized : length t ≡ slots) (all : Left i x a (suc left) q effects runs) where
      abbrev es : List ℕ
      es = counted_at i q

      abbrev rs : List ℕ
      rs = counted_at i (after_counted i q)

      first : First i x a left q effects runs
      first = first_left i x a left q effects runs all

      effects_fit : effects + length es < line_numbers
      effects_fit = omega (arith, first.effects_few, counted_long q)

      runs_fit : runs + length rs < line_numbers
      runs_fit = omega (arith, first.runs_few, counted_long (after_counted i q))

      others_kept : (j : ℕ) → Clear effect_lines (a + 1) left (effects + length es) j → Clear run_lines (a + 1) left (runs + length rs) j
          → get_or (index_taken i a (suc left) q effects runs t) j 0 ≡ get_or (with_both a q effects runs t) j 0
      unfolding index_taken
      others_kept j one two =
          index_kept j (a + 1) left _ _ _ (with_both a q effects runs t) first.others (subst (λ (c : ℕ). Clear effect_lines (a + 1) left (effects + c) j) (counted_long q) one)
          (subst (λ (c : ℕ). Clear run_lines (a + 1) left (runs + c) j) (counted_long (after_counted i q)) two)

      first_ordered : Ordered (index_taken i a (suc left) q effects runs t) a
      first_ordered =
          let small = first.acts in
          let few = all.few in
          let fit = effects_fit in
          let fit-too = runs_fit in
          let long = taken_long effect_lines (line_numbers + a) effects es t in
          record {
            effects =
                subst (InOrder (index_taken i a (suc left) q effects runs t) effect_lines a) first.effects_are
                (order_here effect_lines a left effects es (with_effects a q effects t) (index_taken i a (suc left) q effects runs t) small fit
                (taken_numbered effect_lines (omega arith) (line_numbers + a) effects es t sized (omega arith) (λ _. omega arith) fit)
                (λ j least most clear.
                others_kept j clear (clear_outside run_lines (a + 1) left (runs + length rs) j (omega arith) (λ n less e. omega arith))
                ∙ action_kept run_lines a left runs j rs (with_effects a q effects t) fit-too (clear_outside run_lines a (suc left) runs j few (λ n less e. omega arith))));
            runs =
                subst (InOrder (index_taken i a (suc left) q effects runs t) run_lines a) first.runs_are
                (order_here run_lines a left runs rs (with_both a q effects runs t) (index_taken i a (suc left) q effects runs t) small fit-too
                (taken_numbered run_lines (omega arith) (line_numbers + a) runs rs (with_effects a q effects t) (omega arith) (omega arith) (λ _. omega arith) fit-too)
                (λ j least most clear. others_kept j (clear_outside effect_lines (a + 1) left (effects + length es) j (omega arith) (λ n less e. omega arith)) clear));
          }

    index_ordered : (b a left q effects runs : ℕ) (t : List ℕ) → length t ≡ slots → Left i x a left q effects runs → a ≤ b → b < a + left → Ordered (index_taken i a left q effects runs t) b
    unfolding index_taken
    index_ordered b a zero q effects runs t sized all least most = absurd (omega arith)
    index_ordered b a (suc left) q effects runs t sized all least most =
        elim (ℕ_discrete b a) [
          | yes e ↦ subst (Ordered (index_taken i a (suc left) q effects runs t)) (sym e) (first_ordered a left q effects runs t sized all)
          | no other ↦
              index_ordered b (a + 1) left _ _ _ (with_both a q effects runs t) (both_long a q effects runs t ∙ sized) (first_left i x a left q effects runs all).others
              (omega (arith, other)) (omega arith)
        ]

-- THE NOTES with the index of the table that they hold.
module _ (s t : List ℕ) (table : TableHere Flags s t) (i : List ℕ) (is : i ≡ index_of (table_in Flags s)) where
  abbrev u : List ℕ
  u = index_taken i 0 (table_in Flags s).actions 0 0 0 t

  left : Left i (table_in Flags s) 0 (table_in Flags s).actions 0 0 0
  left = rw is (all_left s t table)

  pub taken_length : length (index_taken i 0 (table_in Flags s).actions 0 0 0 t) ≡ length t
  taken_length = index_long i 0 (table_in Flags s).actions 0 0 0 t

  -- Every slot but those of lines is as it was.
  taken_other : (j : ℕ) → (effect_lines ≤ j → sensed_from ≤ j) → get_or u j 0 ≡ get_or t j 0
  taken_other j outside =
      let few = left.few in
      index_kept i (table_in Flags s) j 0 (table_in Flags s).actions 0 0 0 t left (clear_outside effect_lines 0 _ 0 j few (λ n less e. let far = outside (omega arith) in omega arith))
      (clear_outside run_lines 0 _ 0 j few (λ n less e. let far = outside (omega arith) in omega arith))

  pub taken_mode : mode_in (index_taken i 0 (table_in Flags s).actions 0 0 0 t) ≡ mode_in t
  unfolding mode_in
  taken_mode = taken_other mode_slot (λ _. omega arith)

  same : (j : ℕ) → Other j → get_or u j 0 ≡ get_or t j 0
  same j other = taken_other j other.lines

  pub taken_request : request_in Flags s (index_taken i 0 (table_in Flags s).actions 0 0 0 t) ≡ request_in Flags s t
  taken_request = request_same Flags s t u same

  pub taken_guards : guards_in s (index_taken i 0 (table_in Flags s).actions 0 0 0 t) ≡ guards_in s t
  taken_guards = guards_same Flags s t u same

  -- An action that is none of the table's has no lines, before and afterwards.
  lines : LinesThere format s (table_in Flags s)
  lines = table_lines format s 0 (table_in Flags s) table.table_end table.table

  module _ (b : ℕ) (beyond : (table_in Flags s).actions ≤ b) (small : b < format.actions) where
    no_effects : effect_places (table_in Flags s) b ≡ []
    unfolding effect_places effects_of
    no_effects = ap (map (λ (e : Effect). e.place)) (of_none (λ (e : Effect). e.action) (table_in Flags s).actions (table_in Flags s).effects (λ e h. (lines.effects e h).acts) b beyond)

    no_runs : run_places (table_in Flags s) b ≡ []
    unfolding run_places executability_of
    no_runs = ap (map (λ (r : Executability). r.place)) (of_none (λ (r : Executability). r.action) (table_in Flags s).actions (table_in Flags s).executability (λ r h. (lines.runs r h).acts) b beyond)

    first_kept : (section : ℕ) → Clear effect_lines 0 (table_in Flags s).actions 0 (section + line_numbers + (line_numbers + b)) → Clear run_lines 0 (table_in Flags s).actions 0 (section + line_numbers + (line_numbers + b))
        → (ps : List ℕ) → ps ≡ [] → InOrder t section b ps → InOrder u section b ps
    unfolding InOrder first_line next_line Chain
    first_kept section one two ps none order =
        subst (InOrder u section b) (sym none) (index_kept i (table_in Flags s) (section + line_numbers + (line_numbers + b)) 0 (table_in Flags s).actions 0 0 0 t left one two ∙ subst (InOrder t section b) none order)

    kept_effects : InOrder t effect_lines b (effect_places (table_in Flags s) b) → InOrder u effect_lines b (effect_places (table_in Flags s) b)
    kept_effects =
        let few = left.few in
        first_kept effect_lines (clear_first effect_lines 0 (table_in Flags s).actions 0 b (λ _. omega arith)) (clear_outside run_lines 0 (table_in Flags s).actions 0 _ few (λ n less e. omega arith)) _ no_effects

    kept_runs : InOrder t run_lines b (run_places (table_in Flags s) b) → InOrder u run_lines b (run_places (table_in Flags s) b)
    kept_runs =
        let few = left.few in
        first_kept run_lines (clear_outside effect_lines 0 (table_in Flags s).actions 0 _ few (λ n less e. omega arith)) (clear_first run_lines 0 (table_in Flags s).actions 0 b (λ _. omega arith)) _ no_runs

  pub taken_hand : AtHand Flags s t → AtHand Flags s (index_taken i 0 (table_in Flags s).actions 0 0 0 t)
  unfolding effect_places run_places LinesFound.effect_places LinesFound.run_places
  taken_hand here =
      hand_same Flags s t u same here
      (λ b small.
      by-test (ltb b (table_in Flags s).actions) (λ e. (ordered b (ltb-true b (table_in Flags s).actions e)).effects) (λ e. kept_effects b (ltb-false b (table_in Flags s).actions e) small (here.effects b small)))
      (λ b small.
      by-test (ltb b (table_in Flags s).actions) (λ e. (ordered b (ltb-true b (table_in Flags s).actions e)).runs) (λ e. kept_runs b (ltb-false b (table_in Flags s).actions e) small (here.runs b small)))
    where
      ordered : (b : ℕ) → b < (table_in Flags s).actions → Ordered i (table_in Flags s) u b
      ordered b less = index_ordered i (table_in Flags s) b 0 (table_in Flags s).actions 0 0 0 t table.sized left (omega arith) (omega arith)
