-- A request that is read as it is cut into parts: what was read is told by the table and the plan that were read and by the entries of its lists, and
-- another request that has the same bytes up to the goals has the same table and plan. Assumes nothing.
use Prim.Native.Nat.{ℕ, ◌+◌, ◌≤◌, ◌<◌}
use native.Mathlib.Omega.{arith}
use mathlib.Core.Path.{◌≡◌, sym, ◌∙◌, ap, ap₂, subst}
use mathlib.Core.List.{List, ◌++◌, append_assoc}
use lib.ListN.{length, length-append, get_or, get_or-append}
use borrow.Author.Tests.{ltb-false}
use Rattle.meaning.specs.Limits.{Limits}
use Rattle.meaning.specs.Requests.{Table, Request}
use Rattle.meaning.specs.declared.Form.TheVariants.{Flags}
use Rattle.meaning.specs.Reading.{Got, got, fluents, literals, list_at, plan_at, table_at, placed, request_at, read_request}
use Rattle.meaning.specs.Layouts.{list_written}
use Rattle.demands.specs.Reuse.{Parts, before_plan, bytes_of, CutSo, asking}
use Rattle.meaning.proofs.SettledLaws.{got_same}
use Rattle.meaning.proofs.RangeLaws.{not_refused, after_got}
use Rattle.meaning.proofs.MovedReads.{next_is, Stands, stands_parts, whole_stands, stands_length}
use Rattle.meaning.proofs.KeptReads.{kept_of, table_kept, plan_kept}
use Rattle.demands.proofs.PartReads.{list_is, lines_counts, bytes_split, table_so}

-- FOUR STRETCHES OF BYTES: where the last two stand, and which bytes the first two fix.
module _ (a b c d : List ℕ) where
  abbrev four : List ℕ
  four = a ++ (b ++ (c ++ d))

  last_two : Stands four (length a + length b) c (length a + length b + length c) × Stands four (length a + length b + length c) d (length four)
  last_two =
      let one = stands_parts four 0 a (b ++ (c ++ d)) (length four) (whole_stands four) in
      let two = stands_parts four one.0 b (c ++ d) (length four) one.2 in
      let three = stands_parts four two.0 c d (length four) two.2 in
      let first : one.0 ≡ length a = stands_length four 0 a one.0 one.1 ∙ omega arith in
      let second : two.0 ≡ length a + length b = stands_length four one.0 b two.0 two.1 ∙ ap (λ (k : ℕ). k + length b) first in
      let third : three.0 ≡ length a + length b + length c = stands_length four two.0 c three.0 three.1 ∙ ap (λ (k : ℕ). k + length c) second in (
        subst (λ (p : ℕ). Stands four p c (length a + length b + length c)) second (subst (λ (q : ℕ). Stands four two.0 c q) third three.1),
        subst (λ (p : ℕ). Stands four p d (length four)) third three.2,
      )

  pub third_stands : Stands four (length a + length b) c (length a + length b + length c)
  third_stands = last_two.0

  pub fourth_stands : Stands four (length a + length b + length c) d (length four)
  fourth_stands = last_two.1

  pub four_length : length four ≡ length a + length b + length c + length d
  four_length =
      let one = length-append a (b ++ (c ++ d)) in
      let two = length-append b (c ++ d) in
      let three = length-append c d in
      omega (arith, one, two, three)

pub first_two : (a b y z : List ℕ) (p : ℕ) → p < length a + length b → get_or (a ++ (b ++ y)) p 0 ≡ get_or (a ++ (b ++ z)) p 0
first_two a b y z p less =
    let long = length-append a b in
    let here : (w : List ℕ) → get_or (a ++ (b ++ w)) p 0 ≡ get_or (a ++ b) p 0 = λ w.
    ap (λ (s : List ℕ). get_or s p 0) (sym (append_assoc a b w)) ∙ get_or-append (a ++ b) w 0 p (omega (arith, less, long)) in
    here y ∙ sym (here z)

-- WHAT IS READ.
module _ (lim : Limits) (x : Parts) (c : CutSo lim x) where
  -- Where the goals begin, and where the whether list does.
  abbrev pub goals_start : ℕ
  goals_start = length (before_plan x) + length x.plan

  abbrev pub whether_start : ℕ
  whether_start = goals_start + length (list_written x.goals)

  pub cut_counts : (c.table.fluents ≡ x.fluents) × (c.table.actions ≡ x.actions)
  cut_counts =
      let so = table_so lim x c.table (length (before_plan x)) (ap (λ (s : List ℕ). table_at lim Flags s 0) (sym (bytes_split x)) ∙ c.table_read) in
      let counts = lines_counts lim x.fluents x.actions _ 0 so.0 so.1 so.2 in
      (ap (λ (t : Table). t.fluents) so.3 ∙ counts.0, ap (λ (t : Table). t.actions) so.3 ∙ counts.1)

  abbrev pub the_request : Request
  the_request = record {
    table = c.table;
    plan = c.plan.value;
    goals = placed (goals_start + 1) x.goals;
    whether = placed (whether_start + 1) x.whether;
    whether_place = whether_start;
  }

  pub record CutRead (r : Request) (e : ℕ) : Type 0 where
    pub short : length (bytes_of x) ≤ lim.request
    pub goals_read : list_at literals c.table.fluents lim.listed (bytes_of x) goals_start ≡ got x.goals whether_start
    pub whether_read : list_at fluents c.table.fluents lim.listed (bytes_of x) whether_start ≡ got x.whether (length (bytes_of x))
    pub is : r ≡ the_request

  pub cut_read : (r : Request) (e : ℕ) → read_request lim Flags (bytes_of x) ≡ got r e → CutRead r e
  unfolding read_request request_at bytes_of
  cut_read r e read =
      let s = bytes_of x in
      let counts = cut_counts in
      let short = not_refused _ _ _ _ read in
      let behind = sym (next_is (table_at lim Flags s 0) _ _ _ c.table_read) ∙ short.1 in
      after_got (request_at lim Flags s c.table (length (before_plan x))) _ behind λ q i eq last.
      let plan_there : plan_at lim Flags c.table.fluents c.table.actions s (length (before_plan x)) ≡ got c.plan goals_start =
      ap₂ (λ (n m : ℕ). plan_at lim Flags n m s (length (before_plan x))) counts.0 counts.1 ∙ c.plan_read in
      let lists = sym (next_is _ _ _ _ plan_there) ∙ eq in
      after_got (list_at literals c.table.fluents lim.listed s goals_start) _ lists λ gs j eg rest.
      after_got (list_at fluents c.table.fluents lim.listed s j) _ rest λ ws k ew same.
      let goals = list_is literals c.table.fluents s lim.listed x.goals goals_start whether_start (third_stands (before_plan x) x.plan (list_written x.goals) (list_written x.whether)) gs j eg in
      let there : list_at fluents c.table.fluents lim.listed s whether_start ≡ got ws k = subst (λ (p : ℕ). list_at fluents c.table.fluents lim.listed s p ≡ got ws k) goals.1 ew in
      let whether = list_is fluents c.table.fluents s lim.listed x.whether whether_start (length s) (fourth_stands (before_plan x) x.plan (list_written x.goals) (list_written x.whether)) ws k there in
      record {
        short = ltb-false lim.request (length s) short.0;
        goals_read = eg ∙ ap₂ {C = Got (List ℕ)} (λ ys p. got ys p) goals.0 goals.1;
        whether_read = there ∙ ap₂ {C = Got (List ℕ)} (λ ys p. got ys p) whether.0 whether.1;
        is =
            sym (got_same (not_refused _ _ _ _ last).1) ∙ sym (got_same same)
            ∙ ap (λ (ys : List ℕ). made ys j ws) goals.0 ∙ ap (λ (p : ℕ). made x.goals p ws) goals.1 ∙ ap (made x.goals whether_start) whether.0;
      }
    where
      made : (goals : List ℕ) (p : ℕ) (whether : List ℕ) → Request
      made goals p whether = record { table = c.table; plan = c.plan.value; goals = placed (goals_start + 1) goals; whether = placed (p + 1) whether; whether_place = p }

-- THE SAME BYTES UP TO THE GOALS, and other lists behind them.
module _ (lim : Limits) (x : Parts) (c : CutSo lim x) (goals whether : List ℕ) where
  abbrev y : Parts
  y = asking goals whether x

  -- They are cut alike.
  unfoldable pub cut_again : CutSo lim y
  unfolding bytes_of before_plan
  cut_again =
      let s = bytes_of x in
      let u = bytes_of y in
      let far = length (before_plan x) + length x.plan in
      let lists = list_written goals ++ list_written whether in
      let former = list_written x.goals ++ list_written x.whether in
      let long = four_length (before_plan x) x.plan (list_written goals) (list_written whether) in
      let room : far ≤ length u = omega (arith, long) in
      let same : (p : ℕ) → p < far → get_or u p 0 ≡ get_or s p 0 = first_two (before_plan x) x.plan lists former in
      record {
        table = c.table;
        table_read = (kept_of s u far room same 0 (table_at lim Flags s 0) (table_at lim Flags u 0) (table_kept s u far room same lim 0) c.table (length (before_plan x)) c.table_read).2 (omega arith);
        plan = c.plan;
        plan_read = (kept_of s u far room same (length (before_plan x)) _ _ (plan_kept s u far room same lim x.fluents x.actions (length (before_plan x))) c.plan far c.plan_read).2 (omega arith);
      }
