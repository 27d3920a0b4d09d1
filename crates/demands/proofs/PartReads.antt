-- What is read of a request in its parts: the facts, goals and whether entries that are written there, and lines and a plan that are those of the
-- bytes from the lines on, so many bytes further on. Each part is taken off the reading of the whole. Assumes nothing.
use Prim.Native.Nat.{ℕ, ◌+◌, ◌≤◌, ◌<◌}
use native.Mathlib.Omega.{arith}
use mathlib.Core.Path.{◌≡◌, refl, sym, ◌∙◌, ap, ap₂, subst}
use mathlib.Core.List.{List, [], ◌∷◌, ◌++◌, map, append_assoc}
use lib.ListN.{length, length-append, get_or}
use lib.Seq.{get_or-append-add}
use borrow.Author.Tests.{ltb-false}
use Rattle.meaning.specs.Limits.{Limits}
use Rattle.meaning.specs.Requests.{Table, Request}
use Rattle.meaning.specs.declared.Form.TheVariants.{Flags}
use Rattle.meaning.specs.Reading.{Got, got, fault, next, count_at, Kind, literals, fluents, list_at, section_at, effect_at, executability_at, knowledge_at, plan_at, table_at, request_at, read_request}
use Rattle.meaning.specs.Layouts.{list_written}
use Rattle.demands.specs.Reuse.{Parts, before_plan, bytes_of}
use Rattle.meaning.proofs.SettledLaws.{fault≢got, got_same, next_got}
use Rattle.meaning.proofs.RangeLaws.{not_refused, after_got, got_place}
use Rattle.meaning.proofs.MovedReads.{next_is, Stands, count_copied, list_copied, part_stands}
use Rattle.meaning.proofs.KeptReads.{Kept, kept_next, kept_got, section_kept, effect_kept, executability_kept, knowledge_kept}
use Rattle.demands.proofs.ShiftedReads.{moved_request, moved_got, moved_effect, moved_executability, moved_knowledge, Shifted, shifted_got, shifted_next, section_shifted, effect_shifted, executability_shifted, knowledge_shifted, request_moved}
use Rattle.meaning.proofs.TableLines.{request_table}

-- BYTES AMONG OTHERS.
pub behind_length : (pre v : List ℕ) → length (pre ++ v) ≡ length v + length pre
behind_length pre v = let all = length-append pre v in omega (arith, all)

pub behind_byte : (pre v : List ℕ) (q : ℕ) → 0 ≤ q → get_or (pre ++ v) (q + length pre) 0 ≡ get_or v q 0
behind_byte pre v q any = let same : q + length pre ≡ length pre + q = omega arith in ap (λ (k : ℕ). get_or (pre ++ v) k 0) same ∙ get_or-append-add pre v q 0

-- As many bytes that stand at one place are the same.
stands_same : (s : List ℕ) (p : ℕ) (xs ys : List ℕ) (q e : ℕ) → length xs ≡ length ys → Stands s p xs q → Stands s p ys e → (ys ≡ xs) × (e ≡ q)
stands_same s p [] [] q e many one other = (refl, sym other ∙ one)
stands_same s p [] (y ∷ ys) q e many one other = absurd (omega (arith, many))
stands_same s p (x ∷ xs) [] q e many one other = absurd (omega (arith, many))
stands_same s p (x ∷ xs) (y ∷ ys) q e many one other =
    let rest = stands_same s (p + 1) xs ys q e (omega (arith, many)) one.2 other.2 in
    (ap₂ {C = List ℕ} (λ z zs. z ∷ zs) (sym other.1 ∙ one.1) rest.0, rest.1)

-- A LIST that is read is the one that stands there.
pub list_is : (kind : Kind) (n : ℕ) (s : List ℕ) (most : ℕ) (xs : List ℕ) (p q : ℕ) → Stands s p (list_written xs) q → (ys : List ℕ) (e : ℕ) → list_at kind n most s p ≡ got ys e → (ys ≡ xs) × (e ≡ q)
unfolding list_written
list_is kind n s most xs p q st ys e read =
    let there = ((list_copied kind n s most p).holds ys e read).there in
    stands_same s (p + 1) xs ys q e (sym st.1 ∙ there.1) st.2 there.2

-- A TABLE behind its facts, and its lines without them.
abbrev pub table_behind : Limits → (n m : ℕ) → (facts s : List ℕ) → ℕ → Got Table
table_behind lim n m facts s p =
    next (section_at (effect_at lim Flags n m s) s p) λ effects t.
    next (section_at (executability_at lim Flags n m s) s t) λ executability u.
    next (section_at (knowledge_at lim n m s) s u) λ knowledge e.
    got (record { fluents = n; actions = m; facts = facts; effects = effects; executability = executability; knowledge = knowledge }) e

unfoldable pub lines_at : Limits → (n m : ℕ) → List ℕ → ℕ → Got Table
lines_at lim n m = table_behind lim n m []

abbrev pub knowing : List ℕ → Table → Table
knowing facts t = record { fluents = t.fluents; actions = t.actions; facts = facts; effects = t.effects; executability = t.executability; knowledge = t.knowledge }

abbrev pub moved_table : ℕ → Table → Table
moved_table on t = record {
  fluents = t.fluents;
  actions = t.actions;
  facts = t.facts;
  effects = map (moved_effect on) t.effects;
  executability = map (moved_executability on) t.executability;
  knowledge = map (moved_knowledge on) t.knowledge;
}

module _ (pre v : List ℕ) (lim : Limits) (n m : ℕ) where
  abbrev far : ℕ
  far = length pre

  -- They are read alike so many bytes further on.
  pub lines_shifted : (p q : ℕ) → p ≡ q + far → Shifted (pre ++ v) v far 0 (behind_length pre v) (behind_byte pre v) (moved_table far) (lines_at lim n m (pre ++ v) p) (lines_at lim n m v q)
  unfolding lines_at
  lines_shifted p q is =
      let s = pre ++ v in
      let long = behind_length pre v in
      let same = behind_byte pre v in
      shifted_next s v far 0 long same (map (moved_effect far)) (moved_table far) (section_at (effect_at lim Flags n m s) s p) (section_at (effect_at lim Flags n m v) v q) _ _
      (section_shifted s v far 0 long same (moved_effect far) (effect_at lim Flags n m s) (effect_at lim Flags n m v) (effect_shifted s v far 0 long same lim n m) p q is (omega arith)) λ effects e more.
      shifted_next s v far 0 long same (map (moved_executability far)) (moved_table far) (section_at (executability_at lim Flags n m s) s (e + far)) (section_at (executability_at lim Flags n m v) v e) _ _
      (section_shifted s v far 0 long same (moved_executability far) (executability_at lim Flags n m s) (executability_at lim Flags n m v) (executability_shifted s v far 0 long same lim n m) (e + far) e refl more) λ executability f later.
      shifted_next s v far 0 long same (map (moved_knowledge far)) (moved_table far) (section_at (knowledge_at lim n m s) s (f + far)) (section_at (knowledge_at lim n m v) v f) _ _
      (section_shifted s v far 0 long same (moved_knowledge far) (knowledge_at lim n m s) (knowledge_at lim n m v) (knowledge_shifted s v far 0 long same lim n m) (f + far) f refl later) λ knowledge g last.
      (refl, last)

-- Lines are read alike whatever follows them.
pub lines_kept : (lim : Limits) (n m : ℕ) (s u : List ℕ) (far : ℕ) (room : far ≤ length u) (same : (p : ℕ) → p < far → get_or u p 0 ≡ get_or s p 0) (p : ℕ)
    → Kept s u far room same p (lines_at lim n m s p) (lines_at lim n m u p)
unfolding lines_at
lines_kept lim n m s u far room same p =
    kept_next s u far room same p (section_at (effect_at lim Flags n m s) s p) (section_at (effect_at lim Flags n m u) u p) _ _ (section_kept s u far room same _ _ (effect_kept s u far room same lim n m) p) λ effects i.
    kept_next s u far room same i (section_at (executability_at lim Flags n m s) s i) (section_at (executability_at lim Flags n m u) u i) _ _ (section_kept s u far room same _ _ (executability_kept s u far room same lim n m) i) λ executability j.
    kept_next s u far room same j (section_at (knowledge_at lim n m s) s j) (section_at (knowledge_at lim n m u) u j) _ _ (section_kept s u far room same _ _ (knowledge_kept s u far room same lim n m) j) λ knowledge e.
    kept_got s u far room same _ e

pub lines_counts : (lim : Limits) (n m : ℕ) (s : List ℕ) (p : ℕ) (l : Table) (e : ℕ) → lines_at lim n m s p ≡ got l e → (l.fluents ≡ n) × (l.actions ≡ m)
unfolding lines_at
lines_counts lim n m s p l e read =
    after_got (section_at (effect_at lim Flags n m s) s p) _ read λ _ i _ e₁.
    after_got (section_at (executability_at lim Flags n m s) s i) _ e₁ λ _ j _ e₂.
    after_got (section_at (knowledge_at lim n m s) s j) _ e₂ λ _ k _ e₃.
    (ap (λ (t : Table). t.fluents) (sym (got_same e₃)), ap (λ (t : Table). t.actions) (sym (got_same e₃)))

-- SECTIONS 6 TO 8 over another table with the same counts.
abbrev pub bare : (n m : ℕ) → Table
bare n m = record { fluents = n; actions = m; facts = []; effects = []; executability = []; knowledge = [] }

abbrev pub re_tabled : Table → Request → Request
re_tabled u r = record { table = u; plan = r.plan; goals = r.goals; whether = r.whether; whether_place = r.whether_place }

pub other_table : (lim : Limits) (t u : Table) → t.fluents ≡ u.fluents → t.actions ≡ u.actions → (s : List ℕ) (p : ℕ) (r : Request) (e : ℕ)
    → request_at lim Flags s t p ≡ got r e → request_at lim Flags s u p ≡ got (re_tabled u r) e
unfolding request_at
other_table lim t u fluents_same actions-same s p r e read =
    let a = next_got (plan_at lim Flags t.fluents t.actions s p) _ read in
    let b = next_got (list_at literals t.fluents lim.listed s a.1) _ a.3 in
    let c = next_got (list_at fluents t.fluents lim.listed s b.1) _ b.3 in
    next_is _ _ _ _ (ap₂ (λ (n m : ℕ). plan_at lim Flags n m s p) (sym fluents_same) (sym actions-same) ∙ a.2)
    ∙ next_is _ _ _ _ (ap (λ (n : ℕ). list_at literals n lim.listed s a.1) (sym fluents_same) ∙ b.2)
    ∙ next_is _ _ _ _ (ap (λ (n : ℕ). list_at fluents n lim.listed s b.1) (sym fluents_same) ∙ c.2)
    ∙ ap change c.3
  where
    change : Got Request → Got Request
    change (got x f) = got (re_tabled u x) f
    change (fault n i) = fault n i

-- What is got moved was got.
moved_back : (on : ℕ) (h : Got Request) (q : Request) (i : ℕ) → moved_got on h ≡ got q i → (r : Request) × (f : ℕ) × (h ≡ got r f) × (q ≡ moved_request on r) × (i ≡ f + on)
moved_back on (got r f) q i e = (r, f, refl, sym (got_same e), sym (got_place e))
moved_back on (fault n k) q i e = absurd (fault≢got e)

-- THE PARTS of a request that was read.
abbrev pub head_of : Parts → List ℕ
head_of x = x.fluents ∷ x.actions ∷ list_written x.facts

abbrev pub tail_of : Parts → List ℕ
tail_of x = x.lines ++ (x.plan ++ (list_written x.goals ++ list_written x.whether))

pub bytes_split : (x : Parts) → bytes_of x ≡ head_of x ++ tail_of x
unfolding bytes_of before_plan
bytes_split x = ap {B = List ℕ} (λ ys. x.fluents ∷ x.actions ∷ ys) (append_assoc (list_written x.facts) x.lines (x.plan ++ (list_written x.goals ++ list_written x.whether)))

-- The lines and the rest are those read behind the facts, so many bytes further on.
pub record ReadSo (lim : Limits) (x : Parts) (r : Request) (e : ℕ) : Type 0 where
  pub lines : Table
  pub lines_end : ℕ
  pub lines_read : lines_at lim x.fluents x.actions (tail_of x) 0 ≡ got lines lines_end
  pub table : r.table ≡ knowing x.facts (moved_table (length (head_of x)) lines)
  pub rest : Request
  pub rest_end : ℕ
  pub rest_read : request_at lim Flags (tail_of x) (bare x.fluents x.actions) lines_end ≡ got rest rest_end
  pub is : r ≡ re_tabled r.table (moved_request (length (head_of x)) rest)
  pub end : e ≡ rest_end + length (head_of x)
  pub short : length (bytes_of x) ≤ lim.request
  pub all : length (bytes_of x) ≤ e

-- Behind the facts a table is its lines.
pub behind_is : (lim : Limits) (n m : ℕ) (facts s : List ℕ) (p : ℕ) (t : Table) (e : ℕ) → table_behind lim n m facts s p ≡ got t e → (l : Table) × (lines_at lim n m s p ≡ got l e) × (t ≡ knowing facts l)
unfolding lines_at
behind_is lim n m facts s p t e read =
    let a = next_got (section_at (effect_at lim Flags n m s) s p) _ read in
    let b = next_got (section_at (executability_at lim Flags n m s) s a.1) _ a.3 in
    let c = next_got (section_at (knowledge_at lim n m s) s b.1) _ b.3 in
    let l : Table = record { fluents = n; actions = m; facts = []; effects = a.0; executability = b.0; knowledge = c.0 } in
    (l, next_is _ _ _ _ a.2 ∙ next_is _ _ _ _ b.2 ∙ next_is _ _ _ _ c.2 ∙ ap (λ (q : ℕ). got l q) (got_place c.3), sym (got_same c.3))

module _ (lim : Limits) (x : Parts) where
  abbrev s : List ℕ
  s = head_of x ++ tail_of x

  abbrev on : ℕ
  on = length (head_of x)

  -- The table.
  abbrev pub TableSo : Table → ℕ → Type 0
  TableSo t p = (l : Table) × (q : ℕ) × (lines_at lim x.fluents x.actions (tail_of x) 0 ≡ got l q) × (t ≡ knowing x.facts (moved_table on l)) × (p ≡ q + on)

  pub table_so : (t : Table) (p : ℕ) → table_at lim Flags s 0 ≡ got t p → TableSo t p
  unfolding table_at
  table_so t p read =
      after_got (count_at 1 lim.fluents s 0) _ read λ n p₁ en e₁.
      after_got (count_at 1 lim.actions s p₁) _ e₁ λ m p₂ em e₂.
      after_got (list_at literals n lim.listed s p₂) _ e₂ λ facts p₃ ef e₃.
      let one = ((count_copied s 1 lim.fluents 0).holds n p₁ en).there in
      let two = ((count_copied s 1 lim.actions p₁).holds m p₂ em).there in
      let second : p₁ ≡ 1 = omega (arith, one.2) in
      let third : p₂ ≡ 2 = omega (arith, second, two.2) in
      let many : m ≡ x.actions = sym two.1 ∙ ap (λ (k : ℕ). get_or s k 0) second in
      let list = list_is literals n s lim.listed x.facts 2 (2 + length (list_written x.facts)) (part_stands (x.fluents ∷ x.actions ∷ []) (list_written x.facts) (tail_of x)) facts p₃
      (subst (λ (k : ℕ). list_at literals n lim.listed s k ≡ got facts p₃) third ef) in
      let behind = behind_is lim n m facts s p₃ t p e₃ in
      let fourth : p₃ ≡ on = list.1 ∙ omega arith in
      let there : lines_at lim x.fluents x.actions s on ≡ got behind.0 p =
      ap (λ (k : ℕ). lines_at lim k x.actions s on) one.1 ∙ ap₂ (λ (k j : ℕ). lines_at lim n k s j) (sym many) (sym fourth) ∙ behind.1 in
      let base = shifted_got s (tail_of x) on 0 (behind_length (head_of x) (tail_of x)) (behind_byte (head_of x) (tail_of x)) (moved_table on) _ _
      (lines_shifted (head_of x) (tail_of x) lim x.fluents x.actions on 0 (omega arith)) behind.0 p there in
      (base.0, base.1, base.2, behind.2 ∙ ap₂ {C = Table} knowing list.0 base.3, base.4)

  -- The request.
  pub read_so : (r : Request) (e : ℕ) → read_request lim Flags (bytes_of x) ≡ got r e → ReadSo lim x r e
  unfolding read_request
  read_so r e read =
      let whole : read_request lim Flags s ≡ got r e = ap (read_request lim Flags) (sym (bytes_split x)) ∙ read in
      let short = not_refused _ _ _ _ whole in
      after_got (table_at lim Flags s 0) _ short.1 λ t p et e₁.
      after_got (request_at lim Flags s t p) _ e₁ λ q i eq e₂.
      let all = not_refused _ _ _ _ e₂ in
      let same : q ≡ r = got_same all.1 in
      let place : i ≡ e = got_place all.1 in
      let table = table_so t p et in
      let counts = lines_counts lim x.fluents x.actions (tail_of x) 0 table.0 table.1 table.2 in
      let its : q.table ≡ t = (request_table lim s t p).holds q i eq in
      let far = request_moved s (tail_of x) on 0 (behind_length (head_of x) (tail_of x)) (behind_byte (head_of x) (tail_of x)) lim t p table.1 table.4 (omega arith) in
      let back = moved_back on (request_at lim Flags (tail_of x) t table.1) q i (sym far ∙ eq) in
      let is : r ≡ moved_request on back.0 = sym same ∙ back.3 in
      record {
        lines = table.0;
        lines_end = table.1;
        lines_read = table.2;
        table = ap (λ (y : Request). y.table) (sym same) ∙ its ∙ table.3;
        rest = re_tabled (bare x.fluents x.actions) back.0;
        rest_end = back.1;
        rest_read = other_table lim t (bare x.fluents x.actions) (ap (λ (u : Table). u.fluents) table.3 ∙ counts.0) (ap (λ (u : Table). u.actions) table.3 ∙ counts.1) (tail_of x) table.1 back.0 back.1 back.2;
        is = ap (re_tabled r.table) is;
        end = sym place ∙ back.4;
        short = rw (bytes_split x) (ltb-false lim.request (length s) short.0);
        all = rw (bytes_split x) (rw place at (ltb-false i (length s) all.0));
      }
