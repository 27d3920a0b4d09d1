-- The index as it is built: an offset, the lines of an action behind their count, and the actions one after another. What is still to be stored makes of the room what
-- all of it makes of the room as it was lent. Assumes nothing.
use Prim.Native.Nat.{ℕ, zero, suc, ◌+◌, ◌*◌, ◌/◌, ◌%◌, ◌≤◌, ◌<◌}
use native.Mathlib.Omega.{arith}
use mathlib.Core.Path.{◌≡◌, refl, sym, ◌∙◌, ap, ap₂, subst}
use mathlib.Core.Bool.{Bool}
use mathlib.Core.List.{List, [], ◌∷◌, ◌++◌, map}
use lib.ListN.{length, length-append, get_or, set, length-set}
use lib.Seq.{sets, length-sets}
use mir.Syntax.{w8, w64}
use mir.Val.{Fits}
use borrow.Author.Tests.{eq-eqb, ne_eqb}
use Rattle.meaning.specs.Tests.{those_of, Has}
use Rattle.meaning.specs.Limits.{format, most_index}
use Rattle.meaning.specs.Requests.{Effect, Executability, Table}
use Rattle.meaning.specs.Lines.{effects_of, executability_of}
use Rattle.meaning.specs.Indexes.{effect_places, run_places, offsets, counted_offsets, action_index, index_from, index_of}
use Rattle.meaning.proofs.TestLaws.{pick_true, pick_false, those_has, map_has}
use Rattle.meaning.proofs.TableLines.{LinesThere, table_lines}
use Rattle.meaning.proofs.IndexLaws.{counted_length, index_more, parts_more, parts_fit, index_length, index_most}
use Rattle.reading.specs.Noted.{effect_lines, run_lines, line_numbers, line_place, next_line, first_line, effects_slot, executability_slot}
use Rattle.reading.specs.Ordered.{Chain, InOrder}
use Rattle.finding.specs.TablesHere.{table_in, TableHere}
use Rattle.finding.proofs.AheadLaws.{Ahead, ahead_starts, ahead_none, ahead_first, line_others, line_rest, line_fit}
use Rattle.finding.proofs.ReadLaws.{whole_table, effects_counted, runs_counted, effects_ordered, runs_ordered}
use Rattle.finding.proofs.StartLaws.{front_here}
use Rattle.steps.proofs.StoreLaws.{store_before, stores_behind}
use Rattle.indexing.specs.IndexNotes.{noted_from, places_noted, LinesNoted}
use Rattle.meaning.specs.declared.Form.TheVariants.{Flags}

-- AN OFFSET.
pub low_room : (room : List ℕ) (q v : ℕ) → q + 2 ≤ length room → q + 1 < length (set room q v)
low_room room q v fits = let same = length-set room q v in omega arith

pub offset_put : (room : List ℕ) (q p : ℕ) → set (set room q (p / 256)) (q + 1) (p % 256) ≡ sets room q (offsets (p ∷ []))
unfolding offsets
offset_put room q p = let on : q + 1 ≡ suc q = omega arith in rw on refl

-- THE LINES of an action are fewer than line numbers, and so many steps lead along all of them.
module _ (t : List ℕ) (lines : ℕ) where
  chain_few : (j : ℕ) (ps : List ℕ) → Chain t lines j ps → length ps + j ≤ line_numbers
  unfolding Chain
  chain_few j [] chain = omega arith
  chain_few j (p ∷ []) chain = let few = chain.0.few in omega arith
  chain_few j (p ∷ (q ∷ ps)) chain =
      let more = chain.0.rises chain.1.0.some in
      let rest = chain_few (next_line t lines j) (q ∷ ps) chain.1 in
      omega arith

  chain_short : (j : ℕ) (ps : List ℕ) → Chain t lines j ps → length ps < line_numbers
  unfolding Chain
  chain_short j [] chain = omega arith
  chain_short j (p ∷ ps) chain = let few = chain_few j (p ∷ ps) chain in let some = chain.0.some in omega arith

  noted_is : (left j : ℕ) (ps : List ℕ) → Chain t lines j ps → (0 < j → line_numbers ≤ left + j) → noted_from t lines left j ≡ ps
  unfolding noted_from Chain
  noted_is zero j [] chain room = refl
  noted_is zero j (p ∷ ps) chain room = let some = chain.0.some in let few = chain.0.few in let most = room some in absurd (omega arith)
  noted_is (suc left) j [] chain room = pick_true _ _ _ (eq-eqb j 0 chain)
  noted_is (suc left) j (p ∷ ps) chain room =
      let line = chain.0 in
      let some = line.some in
      let most = room some in
      pick_false _ _ _ (ne_eqb j 0 (λ e. omega arith))
      ∙ ap₂ {C = List ℕ} (λ x xs. x ∷ xs) line.stands (noted_is left (next_line t lines j) ps chain.1 (λ h. let more = line.rises h in omega arith))

  places_noted_are : (a : ℕ) (ps : List ℕ) → InOrder t lines a ps → places_noted t lines a ≡ ps
  unfolding places_noted InOrder
  places_noted_are a ps order = noted_is line_numbers (first_line t lines a) ps order (λ h. omega arith)

-- THE LINES OF AN ACTION, put one after another behind the place of their count. What the rest of them make of the room now, all of them make of the room as it was.
abbrev pub Near : ℕ → Type 0
Near place = place < 65536

pub record Putting (t before : List ℕ) (lines q : ℕ) (all room : List ℕ) (count p k : ℕ) : Type 0 where
  pub ahead : Ahead Near t lines k
  pub short : length all < line_numbers
  pub fits : Fits w64 (length before)
  pub inside : q + length (counted_offsets all) ≤ length before
  pub sized : length room ≡ length before
  pub counted : count + length ahead.rest ≡ length all
  pub placed : p ≡ q + 1 + 2 * count
  pub same : sets before (q + 1) (offsets all) ≡ sets room p (offsets ahead.rest)

pub putting_starts : (t : List ℕ) (lines a : ℕ) → LinesNoted t lines a → (room : List ℕ) (q : ℕ) → Fits w64 (length room) → q + length (counted_offsets (places_noted t lines a)) ≤ length room → (k : ℕ) → k ≡ first_line t lines a
    → Putting t room lines q (places_noted t lines a) room 0 (q + 1) k
unfolding ahead_starts InOrder
putting_starts t lines a noted room q fits inside k at = record {
  ahead = ahead_starts Near t lines a (places_noted t lines a) noted.order noted.near k at;
  short = chain_short t lines (first_line t lines a) (places_noted t lines a) noted.order;
  fits = fits;
  inside = inside;
  sized = refl;
  counted = omega arith;
  placed = omega arith;
  same = refl;
}

pub count_room : (q : ℕ) (all room : List ℕ) → q + length (counted_offsets all) ≤ length room → Fits w64 (length room) → Fits w64 (q + 1)
count_room q all room inside fits = let long = counted_length all in let most = fits.fits in record { fits = omega arith }

module _ (t before : List ℕ) (lines q : ℕ) (all room : List ℕ) (count p k : ℕ) (puts : Putting t before lines q all room count p k) where
  long : length (counted_offsets all) ≡ 1 + 2 * length all
  long = counted_length all

  -- No line is left.
  module _ (none : k ≤ 0) where
    none_left : puts.ahead.rest ≡ []
    none_left = ahead_none Near t lines k puts.ahead none

    count_is : count ≡ length all
    count_is = let is = puts.counted in let empty = ap length none_left in omega arith

    pub count_small : Fits w8 count
    count_small = let is = count_is in let short = puts.short in record { fits = omega arith }

    pub count_inside : q < length room
    count_inside = let inside = puts.inside in let sized = puts.sized in let size = long in omega arith

    pub lines_end : p ≡ q + length (counted_offsets all)
    lines_end = let is = count_is in let at = puts.placed in let size = long in omega arith

    pub lines_put : set room q count ≡ sets before q (counted_offsets all)
    unfolding counted_offsets offsets
    lines_put =
        let on : q + 1 ≡ suc q = omega arith in
        let is : sets before (q + 1) (offsets all) ≡ room = puts.same ∙ ap (λ (ps : List ℕ). sets room p (offsets ps)) none_left in
        ap₂ (λ (xs : List ℕ) (n : ℕ). set xs q n) (sym is) count_is
        ∙ store_before (offsets all) before q (q + 1) (length all) (omega arith)
        ∙ ap (λ (i : ℕ). sets (set before q (length all)) i (offsets all)) on

    pub lines_sized : length (set room q count) ≡ length before
    lines_sized = length-set room q count ∙ puts.sized

  -- One is put.
  module _ (more : 0 < k) where
    abbrev others : List ℕ
    others = (ahead_first Near t lines k puts.ahead more).others

    one_more : count + 1 + length others ≡ length all
    one_more = let is = puts.counted in let first = ap length (ahead_first Near t lines k puts.ahead more).is in omega arith

    pub offset_inside : p + 2 ≤ length room
    offset_inside = let is = one_more in let at = puts.placed in let size = long in let inside = puts.inside in let sized = puts.sized in omega arith

    pub offset_passed : Fits w64 (p + 2)
    offset_passed = let inside = offset_inside in let sized = puts.sized in let most = puts.fits.fits in record { fits = omega arith }

    pub count_passed : Fits w64 (count + 1)
    count_passed = let is = one_more in let short = puts.short in record { fits = omega arith }

    module _ (place : ℕ) (at : place ≡ line_place t lines k) where
      pub offset_near : place < 65536
      offset_near = line_fit Near t lines k puts.ahead more place at

      module _ (after : List ℕ) (put : after ≡ sets room p (offsets (place ∷ []))) where
        after_sized : length after ≡ length room
        after_sized = ap length put ∙ length-sets room p (offsets (place ∷ []))

        pub line_put : (j : ℕ) → j ≡ next_line t lines k → Putting t before lines q all after (count + 1) (p + 2) j
        unfolding offsets line_others
        line_put j onward = record {
          ahead = line_others Near t lines k puts.ahead more j onward;
          short = puts.short;
          fits = puts.fits;
          inside = puts.inside;
          sized = after_sized ∙ puts.sized;
          counted = one_more;
          placed = let is = puts.placed in omega arith;
          same =
              let on : suc (suc p) ≡ p + 2 = omega arith in
              puts.same
              ∙ ap (λ (ps : List ℕ). sets room p (offsets ps)) (line_rest Near t lines k puts.ahead more place at)
              ∙ ap₂ (λ (xs : List ℕ) (i : ℕ). sets xs i (offsets others)) (sym put) on;
        }

-- THE TABLE in the notes: how long its index is, and that the notes lead to each action's lines.
module _ (s t : List ℕ) (here : TableHere Flags s t) where
  abbrev x : Table
  x = table_in Flags s

  lines_here : LinesThere format s x
  lines_here = table_lines format s 0 x here.table_end here.table

  pub index_short : length (index_of x) ≤ most_index
  index_short = index_most format s x lines_here here.bytes

  module _ (actions effects runs : ℕ) (one : actions ≡ get_or s 1 0) (two : effects ≡ get_or t effects_slot 0) (three : runs ≡ get_or t executability_slot 0) where
    pub index_total : 2 * (actions + effects + runs) ≡ length (index_of x)
    index_total =
        let long = index_length format s x lines_here in
        let first = one ∙ (front_here s t here).actions_are in
        let second = two ∙ effects_counted s here.bytes x here.table_end (whole_table s t here) t here.noted in
        let third = three ∙ runs_counted s here.bytes x here.table_end (whole_table s t here) t here.noted in
        omega arith

    pub total_fits : Fits w64 (2 * (actions + effects + runs))
    total_fits = let is = index_total in let most = index_short in record { fits = omega arith }

    pub sum_fits : Fits w64 (actions + effects + runs)
    sum_fits = let most = total_fits.fits in record { fits = omega arith }

    pub part_fits : Fits w64 (actions + effects)
    part_fits = let most = sum_fits.fits in record { fits = omega arith }

  -- A line's place is in the request, so two bytes hold it.
  places_near : {A : Type 0} (place : A → ℕ) (keep : A → Bool) (xs : List A) → ((y : A) → Has xs y → place y < length s) → (p : ℕ) → Has (map place (those_of keep xs)) p → p < 65536
  places_near place keep xs inside p has =
      let w = map_has place (those_of keep xs) p has in
      let less = inside w.0 (those_has keep xs w.0 w.1).0 in
      let is = w.2 in
      let short = here.short in
      omega arith

  lines_noted : (lines a : ℕ) (ps : List ℕ) → InOrder t lines a ps → ((p : ℕ) → Has ps p → p < 65536) → LinesNoted t lines a
  lines_noted lines a ps order near =
      let same = sym (places_noted_are t lines a ps order) in
      record {
        order = subst (InOrder t lines a) same order;
        near = subst (λ (qs : List ℕ). (p : ℕ) → Has qs p → p < 65536) same near;
      }

  module _ (a : ℕ) (small : a < format.actions) where
    effects_in_order : InOrder t effect_lines a (effect_places x a)
    unfolding effect_places
    effects_in_order = effects_ordered s here.bytes x here.table_end (whole_table s t here) t here.noted a small

    runs_in_order : InOrder t run_lines a (run_places x a)
    unfolding run_places
    runs_in_order = runs_ordered s here.bytes x here.table_end (whole_table s t here) t here.noted a small

    effects_noted : LinesNoted t effect_lines a
    unfolding effect_places effects_of
    effects_noted = lines_noted effect_lines a (effect_places x a) effects_in_order (places_near (λ (e : Effect). e.place) _ x.effects (λ y has. (lines_here.effects y has).inside))

    runs_noted : LinesNoted t run_lines a
    unfolding run_places executability_of
    runs_noted = lines_noted run_lines a (run_places x a) runs_in_order (places_near (λ (r : Executability). r.place) _ x.executability (λ y has. (lines_here.runs y has).inside))

    -- What they lead to is the action's part of the index.
    noted_part : counted_offsets (places_noted t effect_lines a) ++ counted_offsets (places_noted t run_lines a) ≡ action_index x a
    unfolding action_index
    noted_part =
        ap₂ (λ (ps qs : List ℕ). counted_offsets ps ++ counted_offsets qs)
        (places_noted_are t effect_lines a (effect_places x a) effects_in_order) (places_noted_are t run_lines a (run_places x a) runs_in_order)

-- THE INDEX, action by action. The parts of the first a actions are put, and q is behind them.
pub record Building (s t before room : List ℕ) (actions q a : ℕ) : Type 0 where
  pub here : TableHere Flags s t
  pub inside : length (index_of (table_in Flags s)) ≤ length before
  pub all : actions ≡ (table_in Flags s).actions
  pub few : a ≤ actions
  pub placed : q ≡ length (index_from (table_in Flags s) 0 a)
  pub same : room ≡ sets before 0 (index_from (table_in Flags s) 0 a)

pub building_starts : (s t room : List ℕ) (actions : ℕ) → TableHere Flags s t → length (index_of (table_in Flags s)) ≤ length room → actions ≡ get_or s 1 0 → Building s t room room actions 0 0
unfolding index_from
building_starts s t room actions here inside is = record {
  here = here;
  inside = inside;
  all = is ∙ (front_here s t here).actions_are;
  few = omega arith;
  placed = refl;
  same = refl;
}

module _ (s t before room : List ℕ) (actions q a : ℕ) (builds : Building s t before room actions q a) where
  pub building_sized : length room ≡ length before
  building_sized = ap length builds.same ∙ length-sets before 0 (index_from (table_in Flags s) 0 a)

  pub index_put : actions ≤ a → room ≡ sets before 0 (index_of (table_in Flags s))
  unfolding index_of
  index_put done =
      let few = builds.few in
      let all = builds.all in
      let is : a ≡ (table_in Flags s).actions = omega arith in
      builds.same ∙ ap (λ (n : ℕ). sets before 0 (index_from (table_in Flags s) 0 n)) is

  module _ (more : a < actions) where
    pub action_small : a < format.actions
    action_small = let all = builds.all in let few = (front_here s t builds.here).few in omega arith

    abbrev first : List ℕ
    first = counted_offsets (places_noted t effect_lines a)

    abbrev second : List ℕ
    second = counted_offsets (places_noted t run_lines a)

    part : first ++ second ≡ action_index (table_in Flags s) a
    part = noted_part s t builds.here a action_small

    part_sized : length first + length second ≡ length (action_index (table_in Flags s) a)
    part_sized = sym (length-append first second) ∙ ap length part

    part_ends : q + (length first + length second) ≡ length (index_from (table_in Flags s) 0 (a + 1))
    part_ends = let size = part_sized in let at = builds.placed in let on = parts_more (table_in Flags s) a in omega arith

    part_inside : q + (length first + length second) ≤ length room
    part_inside =
        let ends = part_ends in
        let all = builds.all in
        let fit = parts_fit (table_in Flags s) (a + 1) (omega arith) in
        let inside = builds.inside in
        let same = building_sized in
        omega arith

    pub effects_led : LinesNoted t effect_lines a
    effects_led = effects_noted s t builds.here a action_small

    pub runs_led : LinesNoted t run_lines a
    runs_led = runs_noted s t builds.here a action_small

    pub effects_inside : q + length first ≤ length room
    effects_inside = let inside = part_inside in omega arith

    module _ (middle : ℕ) (half : List ℕ) (at : middle ≡ q + length first) (put : half ≡ sets room q first) where
      half_sized : length half ≡ length room
      half_sized = ap length put ∙ length-sets room q first

      pub runs_inside : middle + length second ≤ length half
      runs_inside = let inside = part_inside in let same = half_sized in omega arith

      pub building_next : (r : ℕ) (after : List ℕ) → r ≡ middle + length second → after ≡ sets half middle second → Building s t before after actions r (a + 1)
      building_next r after ends both = record {
        here = builds.here;
        inside = builds.inside;
        all = builds.all;
        few = omega arith;
        placed = let part = part_ends in omega arith;
        same =
            both
            ∙ ap₂ (λ (xs : List ℕ) (i : ℕ). sets xs i second) put at
            ∙ sym (stores_behind first second room q)
            ∙ ap₂ (λ (xs vs : List ℕ). sets xs q vs) builds.same part
            ∙ ap (λ (i : ℕ). sets (sets before 0 (index_from (table_in Flags s) 0 a)) i (action_index (table_in Flags s) a)) start
            ∙ sym (stores_behind (index_from (table_in Flags s) 0 a) (action_index (table_in Flags s) a) before 0)
            ∙ ap (sets before 0) (sym (index_more (table_in Flags s) a));
      }
        where
          start : q ≡ 0 + length (index_from (table_in Flags s) 0 a)
          start = let at = builds.placed in omega arith
