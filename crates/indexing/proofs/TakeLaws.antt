-- An index taken into the notes, as the code does it: the loop over the offsets behind a count, and the loop over the actions. Assumes nothing.
use Prim.Native.Nat.{ℕ, suc, ◌+◌, ◌-◌, ◌*◌, ◌≤◌, ◌<◌}
use native.Mathlib.Omega.{arith}
use mathlib.Core.Path.{◌≡◌, sym, ◌∙◌, ap, subst}
use mathlib.Core.List.{List}
use lib.ListN.{length, get_or, set, length-append, length-map}
use mir.Syntax.{w8, w64}
use mir.Val.{Fits}
use Rattle.meaning.specs.Limits.{format}
use Rattle.meaning.specs.Requests.{Effect, Executability, Table}
use Rattle.meaning.specs.Lines.{effects_of, executability_of}
use Rattle.meaning.specs.Indexes.{effect_places, run_places, counted_offsets, action_index, index_from, index_of, offset_at, offsets_at, counted_at, after_counted, each_action}
use Rattle.meaning.proofs.MovedReads.{Stands, stands_parts, stands_length, whole_stands}
use Rattle.meaning.proofs.TableLines.{table_lines}
use Rattle.meaning.proofs.ActionLines.{length_parted}
use Rattle.meaning.proofs.IndexLaws.{counted_stand, counted_end}
use Rattle.reading.specs.Noted.{effect_lines, run_lines, line_numbers}
use Rattle.finding.specs.TablesHere.{table_in, TableHere}
use Rattle.finding.proofs.StartLaws.{front_here}
use Rattle.indexing.specs.IndexNotes.{lines_taken, index_taken}
use Rattle.meaning.specs.declared.Form.TheVariants.{Flags}

-- AN OFFSET, as two bytes.
pub offset_read : (index : List ℕ) → ((i : ℕ) → Fits w8 (get_or index i 0)) → (p r : ℕ) → r ≡ get_or index p 0 * 256 + get_or index (p + 1) 0 → (r ≡ offset_at index p) × (r < 65536)
unfolding offset_at
offset_read index bytes p r is = (is, omega (arith, (bytes p).fits, (bytes (p + 1)).fits))

-- THE OFFSETS behind a count: so many of them are taken. The others stand from p up to the end, and come after i, numbered from n + 1 on.
pub record Taking (index : List ℕ) (lines : ℕ) (whole : List ℕ) (end : ℕ) (t : List ℕ) (count taken p i n : ℕ) : Type 0 where
  pub same : whole ≡ lines_taken lines i n (offsets_at index (count - taken) p) t
  pub near : i < line_numbers + format.actions
  pub few : n + (count - taken) < line_numbers
  pub ends : p + 2 * (count - taken) ≡ end
  pub inside : end ≤ length index

pub taking_starts : (index : List ℕ) (q lines a k : ℕ) (t : List ℕ) (count : ℕ) → a < format.actions → after_counted index q ≤ length index → k + get_or index q 0 < line_numbers → count ≡ get_or index q 0
    → Taking index lines (lines_taken lines (line_numbers + a) k (counted_at index q) t) (after_counted index q) t count 0 (q + 1) (line_numbers + a) k
unfolding counted_at after_counted
taking_starts index q lines a k t count small inside few is =
    let all : get_or index q 0 ≡ count - 0 = omega (arith, is) in
    record {
      same = ap (λ (l : ℕ). lines_taken lines (line_numbers + a) k (offsets_at index l (q + 1)) t) all;
      near = omega arith;
      few = omega arith;
      ends = omega arith;
      inside = inside;
    }

module _ (index : List ℕ) (lines : ℕ) (whole : List ℕ) (end : ℕ) (t : List ℕ) (count taken p i n : ℕ) (taking : Taking index lines whole end t count taken p i n) where
  pub taking_next : taken < count → (place : ℕ) → place ≡ offset_at index p → (u v : List ℕ) → u ≡ set t (lines + (n + 1)) place → v ≡ set u (lines + line_numbers + i) (n + 1)
      → Taking index lines whole end v count (taken + 1) (p + 2) (n + 1) (n + 1)
  unfolding lines_taken offsets_at
  taking_next more place at u v one two =
      let few = taking.few in
      let ends = taking.ends in
      let less : count - taken ≡ suc (count - (taken + 1)) = omega arith in
      record {
        same = taking.same ∙ ap (λ (l : ℕ). lines_taken lines i n (offsets_at index l p) t) less ∙ rw (two, one, at);
        near = omega arith;
        few = omega arith;
        ends = omega arith;
        inside = taking.inside;
      }

  module _ (none : count ≤ taken) where
    pub taking_end : p ≡ end
    taking_end = let ends = taking.ends in omega arith

    pub taking_done : (v : List ℕ) → v ≡ set t (lines + line_numbers + i) 0 → v ≡ whole
    unfolding lines_taken offsets_at
    taking_done v is =
        let zero : count - taken ≡ 0 = omega arith in
        sym (taking.same ∙ ap (λ (l : ℕ). lines_taken lines i n (offsets_at index l p) t) zero ∙ sym is)

-- THE ACTIONS: so many are left, from a up. Their parts of the index stand from q on, and their lines come behind so many effects and executability lines.
pub record Left (i : List ℕ) (x : Table) (a left q effects runs : ℕ) : Type 0 where
  pub few : a + left ≤ format.actions
  pub stands : Stands i q (index_from x a left) (length i)
  pub effects_few : effects + length (each_action (effects_of x) a left) < line_numbers
  pub runs_few : runs + length (each_action (executability_of x) a left) < line_numbers

-- All of them are left at the start.
pub all_left : (s t : List ℕ) → TableHere Flags s t → Left (index_of (table_in Flags s)) (table_in Flags s) 0 (table_in Flags s).actions 0 0 0
unfolding index_of effects_of executability_of
all_left s t here =
    let x = table_in Flags s in
    let lines = table_lines format s 0 x here.table_end here.table in
    let few = lines.actions in
    let es = length_parted (λ (e : Effect). e.action) x.actions x.effects (λ e h. (lines.effects e h).acts) in
    let rs = length_parted (λ (r : Executability). r.action) x.actions x.executability (λ r h. (lines.runs r h).acts) in
    let effects = lines.effects_counted in
    let runs = lines.runs_counted in
    let small = here.bytes lines.effects_at in
    let small-too = here.bytes lines.runs_at in
    record {
      few = omega (arith, few);
      stands = whole_stands (index_of x);
      effects_few = omega (arith, es, effects, small);
      runs_few = omega (arith, rs, runs, small-too);
    }

-- The first of them: what stands behind its two counts, and the others.
pub record First (i : List ℕ) (x : Table) (a left q effects runs : ℕ) : Type 0 where
  pub acts : a < format.actions
  pub effects_at : q < length i
  pub effects_are : counted_at i q ≡ effect_places x a
  pub effects_few : effects + get_or i q 0 < line_numbers
  pub effects_end : after_counted i q ≤ length i
  pub runs_at : after_counted i q < length i
  pub runs_are : counted_at i (after_counted i q) ≡ run_places x a
  pub runs_few : runs + get_or i (after_counted i q) 0 < line_numbers
  pub runs_end : after_counted i (after_counted i q) ≤ length i
  pub others : Left i x (a + 1) left (after_counted i (after_counted i q)) (effects + get_or i q 0) (runs + get_or i (after_counted i q) 0)

pub first_left : (i : List ℕ) (x : Table) (a left q effects runs : ℕ) → Left i x a (suc left) q effects runs → First i x a left q effects runs
unfolding index_from action_index each_action counted_offsets effect_places run_places
first_left i x a left q effects runs all =
    let es = effect_places x a in
    let rs = run_places x a in
    let parts = stands_parts i q (action_index x a) (index_from x (a + 1) left) (length i) all.stands in
    let both = stands_parts i q (counted_offsets es) (counted_offsets rs) parts.0 parts.1 in
    let middle : after_counted i q ≡ both.0 = counted_end i es q both.0 both.1 in
    let second : Stands i (after_counted i q) (counted_offsets rs) parts.0 = subst (λ (p : ℕ). Stands i p (counted_offsets rs) parts.0) (sym middle) both.2 in
    let end : after_counted i (after_counted i q) ≡ parts.0 = counted_end i rs (after_counted i q) parts.0 second in
    let far = stands_length i parts.0 (index_from x (a + 1) left) (length i) parts.2 in
    let effects_long : get_or i q 0 ≡ length (effects_of x a) = both.1.1 ∙ length-map (effects_of x a) (λ (e : Effect). e.place) in
    let runs_long : get_or i (after_counted i q) 0 ≡ length (executability_of x a) = second.1 ∙ length-map (executability_of x a) (λ (r : Executability). r.place) in
    let effects-more = length-append (effects_of x a) (each_action (effects_of x) (a + 1) left) in
    let runs_more = length-append (executability_of x a) (each_action (executability_of x) (a + 1) left) in
    let few = all.few in
    let effects_few = all.effects_few in
    let runs_few = all.runs_few in
    let at = second.0 in
    record {
      acts = omega (arith, few);
      effects_at = both.1.0;
      effects_are = counted_stand i es q both.0 both.1;
      effects_few = omega (arith, effects_few, effects-more, effects_long);
      effects_end = omega (arith, at);
      runs_at = at;
      runs_are = counted_stand i rs (after_counted i q) parts.0 second;
      runs_few = omega (arith, runs_few, runs_more, runs_long);
      runs_end = omega (arith, end, far);
      others = record {
        few = omega (arith, few);
        stands = subst (λ (p : ℕ). Stands i p (index_from x (a + 1) left) (length i)) (sym end) parts.2;
        effects_few = omega (arith, effects_few, effects-more, effects_long);
        runs_few = omega (arith, runs_few, runs_more, runs_long);
      };
    }

-- THE LOOP over them: those that are left give what all of them give.
pub record Indexing (i : List ℕ) (x : Table) (whole t : List ℕ) (actions q effects runs a : ℕ) : Type 0 where
  pub same : whole ≡ index_taken i a (actions - a) q effects runs t
  pub left : Left i x a (actions - a) q effects runs

pub indexing_starts : (s t : List ℕ) → TableHere Flags s t → (i : List ℕ) → i ≡ index_of (table_in Flags s) → (actions : ℕ) → actions ≡ get_or s 1 0
    → Indexing i (table_in Flags s) (index_taken i 0 (table_in Flags s).actions 0 0 0 t) t actions 0 0 0 0
indexing_starts s t here i is actions count =
    let all : (table_in Flags s).actions ≡ actions - 0 = omega (arith, (front_here s t here).actions_are, count) in
    record {
      same = ap (λ (left : ℕ). index_taken i 0 left 0 0 0 t) all;
      left = rw is (subst (λ (left : ℕ). Left (index_of (table_in Flags s)) (table_in Flags s) 0 left 0 0 0) all (all_left s t here));
    }

module _ (i : List ℕ) (x : Table) (whole t : List ℕ) (actions q effects runs a : ℕ) (taking : Indexing i x whole t actions q effects runs a) where
  pub indexing_done : actions ≤ a → t ≡ whole
  unfolding index_taken
  indexing_done none = let zero : actions - a ≡ 0 = omega arith in sym (taking.same ∙ ap (λ (left : ℕ). index_taken i a left q effects runs t) zero)

  module _ (more : a < actions) where
    less : actions - a ≡ suc (actions - (a + 1))
    less = omega arith

    first : First i x a (actions - (a + 1)) q effects runs
    first = first_left i x a (actions - (a + 1)) q effects runs (subst (λ (left : ℕ). Left i x a left q effects runs) less taking.left)

    pub action_small : a < format.actions
    action_small = first.acts

    pub effects_at : q < length i
    effects_at = first.effects_at

    pub effects_end : after_counted i q ≤ length i
    effects_end = first.effects_end

    pub effects_few : effects + get_or i q 0 < line_numbers
    effects_few = first.effects_few

    pub effects_sum : (c : ℕ) → c ≡ get_or i q 0 → Fits w64 (effects + c)
    effects_sum c counted = let few = effects_few in record { fits = omega arith }

    module _ (m : ℕ) (middle : m ≡ after_counted i q) where
      pub runs_at : m < length i
      runs_at = rw middle first.runs_at

      pub runs_end : after_counted i m ≤ length i
      runs_end = rw middle first.runs_end

      pub runs_few : runs + get_or i m 0 < line_numbers
      runs_few = rw middle first.runs_few

      module _ (d : ℕ) (counted-too : d ≡ get_or i m 0) where
        pub runs_sum : Fits w64 (runs + d)
        runs_sum = let few = runs_few in record { fits = omega arith }

        pub action_taken : (c e : ℕ) (u v : List ℕ) → c ≡ get_or i q 0 → e ≡ after_counted i m → u ≡ lines_taken effect_lines (line_numbers + a) effects (counted_at i q) t
            → v ≡ lines_taken run_lines (line_numbers + a) runs (counted_at i m) u → Indexing i x whole v actions e (effects + c) (runs + d) (a + 1)
        unfolding index_taken
        action_taken c e u v counted end one two = record {
          same = taking.same ∙ ap (λ (left : ℕ). index_taken i a left q effects runs t) less ∙ rw (two, one, end, counted-too, middle, counted);
          left = rw (end, counted-too, middle, counted) first.others;
        }
