-- The index of a table: where the part of each action stands in it, what is read there, and how long it is. Offsets that were written are read back, so each count
-- leads to the part behind it. Assumes nothing.
use Prim.Native.Nat.{ℕ, zero, suc, ◌+◌, ◌-◌, ◌*◌, ◌/◌, ◌%◌, ◌≤◌, ◌<◌}
use native.Mathlib.Omega.{arith}
use mathlib.Core.Path.{◌≡◌, refl, sym, ◌∙◌, ap, ap₂, subst}
use mathlib.Core.Bool.{Bool}
use mathlib.Core.List.{List, [], ◌∷◌, ◌++◌, map, append_assoc, append-nil}
use mathlib.Core.Logic.{inl, inr}
use lib.ListN.{length, length-append, length-map}
use Rattle.meaning.specs.Tests.{those_of, Has}
use Rattle.meaning.specs.Limits.{Limits, format, most_index}
use Rattle.meaning.specs.Requests.{Effect, Executability, Table, Request}
use Rattle.meaning.specs.Reading.{got}
use Rattle.meaning.specs.Refusals.{settled}
use Rattle.meaning.specs.Lines.{effects_of, executability_of}
use Rattle.meaning.specs.Indexes.{effect_places, run_places, offsets, counted_offsets, action_index, index_from, index_of, offset_at, offsets_at, counted_at, after_counted, effects_start, runs_start, each_action}
use Rattle.meaning.specs.Layouts.{Bytes}
use Rattle.meaning.proofs.TestLaws.{those_has, map_has}
use Rattle.meaning.proofs.ListReads.{those_length}
use Rattle.meaning.proofs.SettledLaws.{settled_is}
use Rattle.meaning.proofs.TableLines.{read_short, LinesThere, settled_lines}
use Rattle.meaning.proofs.ActionLines.{length_parted}
use Rattle.meaning.proofs.MovedReads.{Stands, stands_parts, stands_length, whole_stands, part_stands}

-- OFFSETS.
pub offsets_length : (ps : List ℕ) → length (offsets ps) ≡ 2 * length ps
unfolding offsets
offsets_length [] = refl
offsets_length (p ∷ ps) = let more = offsets_length ps in omega (arith, more)

pub counted_length : (ps : List ℕ) → length (counted_offsets ps) ≡ 1 + 2 * length ps
unfolding counted_offsets
counted_length ps = let more = offsets_length ps in omega (arith, more)

pub offsets_append : (ps qs : List ℕ) → offsets (ps ++ qs) ≡ offsets ps ++ offsets qs
unfolding offsets
offsets_append [] qs = refl
offsets_append (p ∷ ps) qs = ap {B = List ℕ} (λ xs. p / 256 ∷ p % 256 ∷ xs) (offsets_append ps qs)

module _ (i : List ℕ) where
  -- Those that stand at p are read there.
  pub offsets_stand : (ps : List ℕ) (p e : ℕ) → Stands i p (offsets ps) e → offsets_at i (length ps) p ≡ ps
  unfolding offsets offsets_at offset_at
  offsets_stand [] p e st = refl
  offsets_stand (q ∷ ps) p e st =
      let is : q / 256 * 256 + q % 256 ≡ q = omega arith in
      let on : p + 1 + 1 ≡ p + 2 = omega arith in
      ap₂ {C = List ℕ} (λ x xs. x ∷ xs) (ap₂ (λ (h l : ℕ). h * 256 + l) st.1 st.2.1 ∙ is)
      (offsets_stand ps (p + 2) e (subst (λ (o : ℕ). Stands i o (offsets ps) e) on st.2.2))

  -- So are those behind their count, and the place after them is where they end.
  pub counted_stand : (ps : List ℕ) (p e : ℕ) → Stands i p (counted_offsets ps) e → counted_at i p ≡ ps
  unfolding counted_offsets counted_at
  counted_stand ps p e st = ap (λ (n : ℕ). offsets_at i n (p + 1)) st.1 ∙ offsets_stand ps (p + 1) e st.2

  pub counted_end : (ps : List ℕ) (p e : ℕ) → Stands i p (counted_offsets ps) e → after_counted i p ≡ e
  unfolding counted_offsets after_counted
  counted_end ps p e st =
      let count = st.1 in
      let far = stands_length i (p + 1) (offsets ps) e st.2 in
      let long = offsets_length ps in
      omega (arith, count, far, long)

-- Reading the offsets that were written gives the places back, and goes on behind them.
module _ (before ps after : List ℕ) where
  pub offsets_back : counted_at (before ++ (counted_offsets ps ++ after)) (length before) ≡ ps
  offsets_back = counted_stand _ ps (length before) _ (part_stands before (counted_offsets ps) after)

  pub offsets_behind : after_counted (before ++ (counted_offsets ps ++ after)) (length before) ≡ length before + length (counted_offsets ps)
  offsets_behind = counted_end _ ps (length before) _ (part_stands before (counted_offsets ps) after)

-- THE PARTS of the index, action by action.
module _ (t : Table) where
  -- So many actions, and then so many more.
  pub index_split : (a l k : ℕ) → index_from t a (l + k) ≡ index_from t a l ++ index_from t (a + l) k
  unfolding index_from
  index_split a zero k = ap₂ (λ (b n : ℕ). index_from t b n) {x = a} {y = a + 0} {u = 0 + k} {v = k} (omega arith) (omega arith)
  index_split a (suc l) k =
      let more : suc l + k ≡ suc (l + k) = omega arith in
      let on : a + 1 + l ≡ a + suc l = omega arith in
      ap (index_from t a) more
      ∙ ap (λ (rest : List ℕ). action_index t a ++ rest) (index_split (a + 1) l k ∙ ap (λ (b : ℕ). index_from t (a + 1) l ++ index_from t b k) on)
      ∙ sym (append_assoc (action_index t a) (index_from t (a + 1) l) (index_from t (a + suc l) k))

  -- One action more at the end.
  pub index_more : (a : ℕ) → index_from t 0 (a + 1) ≡ index_from t 0 a ++ action_index t a
  unfolding index_from
  index_more a =
      let same : 0 + a ≡ a = omega arith in
      index_split 0 a 1 ∙ ap (λ (b : ℕ). index_from t 0 a ++ (action_index t b ++ [])) same ∙ ap (λ (part : List ℕ). index_from t 0 a ++ part) (append-nil (action_index t a))

  -- The index up to an action, and the rest; which is the action's own part, and what is behind it.
  pub index_cut : (a : ℕ) → a ≤ t.actions → index_of t ≡ index_from t 0 a ++ index_from t a (t.actions - a)
  unfolding index_of
  index_cut a most =
      let all : t.actions ≡ a + (t.actions - a) = omega (arith, most) in
      let same : 0 + a ≡ a = omega arith in
      ap (index_from t 0) all ∙ index_split 0 a (t.actions - a) ∙ ap (λ (b : ℕ). index_from t 0 a ++ index_from t b (t.actions - a)) same

  pub index_at : (a : ℕ) → a < t.actions → index_of t ≡ index_from t 0 a ++ (action_index t a ++ index_from t (a + 1) (t.actions - (a + 1)))
  unfolding index_from
  index_at a less =
      let left : t.actions - a ≡ suc (t.actions - (a + 1)) = omega (arith, less) in
      index_cut a (omega (arith, less)) ∙ ap (λ (n : ℕ). index_from t 0 a ++ index_from t a n) left

-- An action's part that stands at p of an index: what is read behind its two counts, and where it ends.
pub record PartRead (i : List ℕ) (t : Table) (a p e : ℕ) : Type 0 where
  pub effects : counted_at i p ≡ effect_places t a
  pub runs : counted_at i (after_counted i p) ≡ run_places t a
  pub end : after_counted i (after_counted i p) ≡ e

pub part_read : (i : List ℕ) (t : Table) (a p e : ℕ) → Stands i p (action_index t a) e → PartRead i t a p e
unfolding action_index
part_read i t a p e st =
    let parts = stands_parts i p (counted_offsets (effect_places t a)) (counted_offsets (run_places t a)) e st in
    let on = counted_end i (effect_places t a) p parts.0 parts.1 in
    let second : Stands i (after_counted i p) (counted_offsets (run_places t a)) e = subst (λ (q : ℕ). Stands i q (counted_offsets (run_places t a)) e) (sym on) parts.2 in
    record {
      effects = counted_stand i (effect_places t a) p parts.0 parts.1;
      runs = counted_stand i (run_places t a) (after_counted i p) e second;
      end = counted_end i (run_places t a) (after_counted i p) e second;
    }

module _ (t : Table) where
  -- The part of an action stands where going by the counts leads.
  start_stands : (a left : ℕ) → a + left ≡ t.actions → Stands (index_of t) (effects_start (index_of t) a) (index_from t a left) (length (index_of t))
  unfolding effects_start index_from index_of
  start_stands zero left all =
      let same : left ≡ t.actions = omega (arith, all) in
      subst (λ (n : ℕ). Stands (index_of t) 0 (index_from t 0 n) (length (index_of t))) (sym same) (whole_stands (index_of t))
  start_stands (suc a) left all =
      let earlier : a + suc left ≡ t.actions = omega (arith, all) in
      let on : a + 1 ≡ suc a = omega arith in
      let parts = stands_parts (index_of t) (effects_start (index_of t) a) (action_index t a) (index_from t (a + 1) left) (length (index_of t)) (start_stands a (suc left) earlier) in
      let end = (part_read (index_of t) t a (effects_start (index_of t) a) parts.0 parts.1).end in
      subst (λ (b : ℕ). Stands (index_of t) (effects_start (index_of t) (suc a)) (index_from t b left) (length (index_of t))) on
      (subst (λ (q : ℕ). Stands (index_of t) q (index_from t (a + 1) left) (length (index_of t))) (sym end) parts.2)

  -- That is behind the parts of the actions before it.
  pub start_is : (a : ℕ) → a ≤ t.actions → effects_start (index_of t) a ≡ length (index_from t 0 a)
  start_is a most =
      let all : a + (t.actions - a) ≡ t.actions = omega (arith, most) in
      let far = stands_length (index_of t) (effects_start (index_of t) a) (index_from t a (t.actions - a)) (length (index_of t)) (start_stands a (t.actions - a) all) in
      let long = ap length (index_cut t a most) ∙ length-append (index_from t 0 a) (index_from t a (t.actions - a)) in
      omega (arith, far, long)

-- What an action's counts lead to.
module _ (t : Table) (a : ℕ) (less : a < t.actions) where
  action_stands : (e : ℕ) × Stands (index_of t) (effects_start (index_of t) a) (action_index t a) e
  unfolding index_from
  action_stands =
      let left = t.actions - (a + 1) in
      let all : a + suc left ≡ t.actions = omega (arith, less) in
      let parts = stands_parts (index_of t) (effects_start (index_of t) a) (action_index t a) (index_from t (a + 1) left) (length (index_of t)) (start_stands t a (suc left) all) in
      (parts.0, parts.1)

  there : PartRead (index_of t) t a (effects_start (index_of t) a) action_stands.0
  there = part_read (index_of t) t a (effects_start (index_of t) a) action_stands.0 action_stands.1

  pub effects_there : counted_at (index_of t) (effects_start (index_of t) a) ≡ effect_places t a
  effects_there = there.effects

  pub runs_there : counted_at (index_of t) (runs_start (index_of t) a) ≡ run_places t a
  unfolding runs_start
  runs_there = there.runs

-- HOW LONG IT IS. Two counts for each action, and two bytes for each line.
module _ (t : Table) where
  pub part_length : (a : ℕ) → length (action_index t a) ≡ 2 + 2 * length (effects_of t a) + 2 * length (executability_of t a)
  unfolding action_index effect_places run_places
  part_length a =
      let both = length-append (counted_offsets (effect_places t a)) (counted_offsets (run_places t a)) in
      let one = counted_length (effect_places t a) in
      let two = counted_length (run_places t a) in
      let es = length-map (effects_of t a) (λ (e : Effect). e.place) in
      let xs = length-map (executability_of t a) (λ (x : Executability). x.place) in
      omega (arith, both, one, two, es, xs)

  parts_length : (a left : ℕ) → length (index_from t a left) ≡ 2 * left + 2 * length (each_action (effects_of t) a left) + 2 * length (each_action (executability_of t) a left)
  unfolding index_from each_action
  parts_length a zero = refl
  parts_length a (suc left) =
      let both = length-append (action_index t a) (index_from t (a + 1) left) in
      let first = part_length a in
      let rest = parts_length (a + 1) left in
      let es = length-append (effects_of t a) (each_action (effects_of t) (a + 1) left) in
      let xs = length-append (executability_of t a) (each_action (executability_of t) (a + 1) left) in
      omega (arith, both, first, rest, es, xs)

  -- The parts of some first actions are no longer than all.
  pub parts_fit : (a : ℕ) → a ≤ t.actions → length (index_from t 0 a) ≤ length (index_of t)
  parts_fit a most = let long = ap length (index_cut t a most) ∙ length-append (index_from t 0 a) (index_from t a (t.actions - a)) in omega (arith, long)

  -- Those of one action more are longer by the action's own.
  pub parts_more : (a : ℕ) → length (index_from t 0 (a + 1)) ≡ length (index_from t 0 a) + length (action_index t a)
  parts_more a = ap length (index_more t a) ∙ length-append (index_from t 0 a) (action_index t a)

-- BYTES. Offsets are bytes where every place is below 65,536.
bytes_append : (xs ys : List ℕ) → Bytes xs → Bytes ys → Bytes (xs ++ ys)
bytes_append [] ys bx by i = by i
bytes_append (x ∷ xs) ys bx by zero = bx 0
bytes_append (x ∷ xs) ys bx by (suc i) = bytes_append xs ys (λ j. bx (suc j)) by i

offsets_bytes : (ps : List ℕ) → ((p : ℕ) → Has ps p → p < 65536) → Bytes (offsets ps)
unfolding offsets
offsets_bytes [] small i = omega arith
offsets_bytes (p ∷ ps) small zero = let less = small p (inl refl) in omega (arith, less)
offsets_bytes (p ∷ ps) small (suc zero) = omega arith
offsets_bytes (p ∷ ps) small (suc (suc i)) = offsets_bytes ps (λ q h. small q (inr h)) i

-- Of an action's lines, where there are fewer than 256 in all.
counted_bytes : {A : Type 0} (place : A → ℕ) (keep : A → Bool) (xs : List A) → length xs < 256 → ((x : A) → Has xs x → place x < 65536) → Bytes (counted_offsets (map place (those_of keep xs)))
unfolding counted_offsets
counted_bytes place keep xs few small zero =
    let long = length-map (those_of keep xs) place in
    let less = those_length keep xs in
    omega (arith, few, long, less)
counted_bytes place keep xs few small (suc i) =
    offsets_bytes (map place (those_of keep xs))
    (λ p h. let w = map_has place (those_of keep xs) p h in subst (λ (q : ℕ). q < 65536) (sym w.2) (small w.0 (those_has keep xs w.0 w.1).0)) i

module _ (lim : Limits) (s : List ℕ) (t : Table) (lines : LinesThere lim s t) where
  pub index_length : length (index_of t) ≡ 2 * t.actions + 2 * length t.effects + 2 * length t.executability
  unfolding index_of effects_of executability_of
  index_length =
      let all = parts_length t 0 t.actions in
      let es = length_parted (λ (e : Effect). e.action) t.actions t.effects (λ x h. (lines.effects x h).acts) in
      let xs = length_parted (λ (x : Executability). x.action) t.actions t.executability (λ x h. (lines.runs x h).acts) in
      omega (arith, all, es, xs)

  module _ (bytes : Bytes s) where
    pub index_most : length (index_of t) ≤ 2 * lim.actions + 4 * 255
    index_most =
        let long = index_length in
        let few = lines.actions in
        let es = lines.effects_counted in
        let xs = lines.runs_counted in
        let small = bytes lines.effects_at in
        let small-too = bytes lines.runs_at in
        omega (arith, long, few, es, xs, small, small-too)

    module _ (short : length s ≤ 65536) where
      part_bytes : (a : ℕ) → Bytes (action_index t a)
      unfolding action_index effect_places run_places effects_of executability_of
      part_bytes a =
          let es = lines.effects_counted in
          let xs = lines.runs_counted in
          let small = bytes lines.effects_at in
          let small-too = bytes lines.runs_at in
          bytes_append (counted_offsets (effect_places t a)) (counted_offsets (run_places t a))
          (counted_bytes (λ (e : Effect). e.place) _ t.effects (omega (arith, es, small)) (λ x h. let less = (lines.effects x h).inside in omega (arith, less, short)))
          (counted_bytes (λ (x : Executability). x.place) _ t.executability (omega (arith, xs, small-too)) (λ x h. let less = (lines.runs x h).inside in omega (arith, less, short)))

      parts_bytes : (a left : ℕ) → Bytes (index_from t a left)
      unfolding index_from
      parts_bytes a zero = λ i. omega arith
      parts_bytes a (suc left) = bytes_append (action_index t a) (index_from t (a + 1) left) (part_bytes a) (parts_bytes (a + 1) left)

      pub index_bytes : Bytes (index_of t)
      unfolding index_of
      index_bytes = parts_bytes 0 t.actions

-- THE INDEX OF A SETTLED REQUEST, each of whose numbers is a byte: it is no longer than an index may be, and each of its numbers is a byte too (FORMAT 23.5).
module _ (s : List ℕ) (bytes : Bytes s) (r : Request) (e : ℕ) (past : settled format s ≡ got r e) where
  pub settled_index_most : length (index_of r.table) ≤ most_index
  settled_index_most = index_most format s r.table (settled_lines format s r e past) bytes

  pub settled_index_bytes : Bytes (index_of r.table)
  settled_index_bytes =
      let short = read_short format s r e (settled_is format s r e past).reads in
      index_bytes format s r.table (settled_lines format s r e past) bytes (omega (arith, short))
