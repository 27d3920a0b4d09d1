-- A guarded request that is read: its first eight sections are a request by themselves, read from their own bytes alike, and settled where the guarded
-- request is. So what is known of a settled request is known of it. Assumes nothing.
use Prim.Native.Nat.{ℕ, ◌+◌, ◌≤◌, ◌<◌}
use native.Mathlib.Omega.{arith}
use mathlib.Core.Path.{◌≡◌, refl, sym, ◌∙◌, ap}
use mathlib.Core.List.{List}
use lib.ListN.{length, get_or, take}
use lib.Seq.{length-take-le, get_or-take}
use borrow.Author.Tests.{ltb-false, le-ltb}
use Rattle.meaning.specs.Limits
use Rattle.meaning.specs.Limits.{Limits}
use Rattle.meaning.specs.Requests.{Table, Request}
use Rattle.meaning.specs.Reading.{Flags, Got, got, literals, list_at, placed, table_at, request_at, read_request}
use Rattle.meaning.specs.Refusals.{nowhere, refuse, contradiction_in, mixed_in, overlap_in, past_refusals, settled}
use Rattle.meaning.specs.Guards.{GuardedRequest, read_guarded, settled_guarded}
use Rattle.meaning.proofs.TestLaws.{pick_false}
use Rattle.meaning.proofs.SettledLaws.{got_same, refuse_got, next_got}
use Rattle.meaning.proofs.RangeLaws.{not_refused}
use Rattle.meaning.proofs.MovedReads.{next_is}
use Rattle.meaning.proofs.KeptReads.{kept_of, table_kept, request_kept}

-- WHAT WAS READ, section by section.
pub record GuardedParts (lim : Limits) (b : List ℕ) (g : GuardedRequest) : Type 0 where
  pub short : length b ≤ lim.request
  pub table : Table
  pub table_end : ℕ
  pub table_read : table_at lim Flags b 0 ≡ got table table_end
  pub request_end : ℕ
  pub request_read : request_at lim Flags b table table_end ≡ got g.request request_end
  pub listed : List ℕ
  pub end : ℕ
  pub guards_read : list_at literals table.fluents Limits.most_guards b request_end ≡ got listed end
  pub guards_are : g.guards ≡ placed (request_end + 1) listed
  pub nothing_after : length b ≤ end

pub guarded_parts : (lim : Limits) (b : List ℕ) (g : GuardedRequest) (e : ℕ) → read_guarded lim b ≡ got g e → GuardedParts lim b g
unfolding read_guarded
guarded_parts lim b g e read =
    let fits = not_refused _ _ _ _ read in
    let one = next_got (table_at lim Flags b 0) _ fits.1 in
    let two = next_got (request_at lim Flags b one.0 one.1) _ one.3 in
    let three = next_got (list_at literals one.0.fluents Limits.most_guards b two.1) _ two.3 in
    let last = not_refused _ _ _ _ three.3 in
    let same : record { request = two.0; guards = placed (two.1 + 1) three.0 } ≡ g = got_same last.1 in
    record {
      short = ltb-false lim.request (length b) fits.0;
      table = one.0;
      table_end = one.1;
      table_read = one.2;
      request_end = two.1;
      request_read = two.2 ∙ ap (λ (x : GuardedRequest). got x.request two.1) same;
      listed = three.0;
      end = three.1;
      guards_read = three.2;
      guards_are = sym (ap (λ (x : GuardedRequest). x.guards) same);
      nothing_after = ltb-false three.1 (length b) last.0;
    }

-- PAST THE REFUSALS: none of the three finds anything.
pub record Past (r : Request) : Type 0 where
  pub no_contradiction : contradiction_in r.table ≡ nowhere
  pub not_mixed : mixed_in r.table.effects r.table.knowledge ≡ nowhere
  pub no_overlap : overlap_in r.plan ≡ nowhere

is_past : {A : Type 0} (r : Request) (whole : Got A) (x : A) (e : ℕ) → past_refusals r whole ≡ got x e → Past r × (whole ≡ got x e)
is_past r whole x e past =
    let u = refuse_got _ _ _ past in
    let v = refuse_got _ _ _ u.1 in
    let w = refuse_got _ _ _ v.1 in
    (record { no_contradiction = u.0; not_mixed = v.0; no_overlap = w.0 }, w.1)

past_is : {A : Type 0} (r : Request) → Past r → (whole : Got A) → past_refusals r whole ≡ whole
unfolding refuse
past_is r past whole = rw (past.no_contradiction, past.not_mixed, past.no_overlap)

-- SETTLED.
module _ (lim : Limits) (b : List ℕ) (g : GuardedRequest) (e : ℕ) (settles : settled_guarded lim b ≡ got g e) where
  pub guarded_past : (read_guarded lim b ≡ got g e) × Past g.request
  unfolding settled_guarded
  guarded_past =
      let n = next_got (read_guarded lim b) _ settles in
      let past = is_past n.0.request (got n.0 n.1) g e n.3 in
      let same : n.0 ≡ g = got_same past.1 in
      (n.2 ∙ past.1, rw same at past.0)

  pub parts : GuardedParts lim b g
  parts = guarded_parts lim b g e guarded_past.0

  -- The bytes of the first eight sections.
  abbrev pub own : List ℕ
  own = take parts.request_end b

  -- They end within the input, and a byte is behind them.
  pub own_within : (parts.table_end ≤ parts.request_end) × (parts.request_end ≤ length b)
  own_within =
      let here : (i : ℕ) → i < 0 → get_or b i 0 ≡ get_or b i 0 = λ i _. refl in
      let table = kept_of b b 0 (omega arith) here 0 (table_at lim Flags b 0) (table_at lim Flags b 0) (table_kept b b 0 (omega arith) here lim 0) parts.table parts.table_end parts.table_read in
      let request = kept_of b b 0 (omega arith) here parts.table_end _ _ (request_kept b b 0 (omega arith) here lim parts.table parts.table_end) g.request parts.request_end parts.request_read in
      (request.0, request.1 (table.1 (omega arith)))

  pub own_length : length own ≡ parts.request_end
  own_length = length-take-le parts.request_end b own_within.1

  pub own_same : (i : ℕ) → i < parts.request_end → get_or own i 0 ≡ get_or b i 0
  own_same i less = get_or-take parts.request_end b i 0 less

  own_room : parts.request_end ≤ length own
  own_room = omega (arith, own_length)

  own_read : read_request lim Flags own ≡ got g.request parts.request_end
  unfolding read_request
  own_read =
      let table : table_at lim Flags own 0 ≡ got parts.table parts.table_end =
      (kept_of b own parts.request_end own_room own_same 0 (table_at lim Flags b 0) (table_at lim Flags own 0) (table_kept b own parts.request_end own_room own_same lim 0)
      parts.table parts.table_end parts.table_read).2 own_within.0 in
      let request : request_at lim Flags own parts.table parts.table_end ≡ got g.request parts.request_end =
      (kept_of b own parts.request_end own_room own_same parts.table_end _ _ (request_kept b own parts.request_end own_room own_same lim parts.table parts.table_end)
      g.request parts.request_end parts.request_read).2 (omega arith) in
      pick_false _ _ _ (le-ltb lim.request (length own) (let short = parts.short in omega (arith, short, own_length, own_within.1)))
      ∙ next_is (table_at lim Flags own 0) _ parts.table parts.table_end table
      ∙ next_is (request_at lim Flags own parts.table parts.table_end) _ g.request parts.request_end request
      ∙ pick_false _ _ _ (le-ltb parts.request_end (length own) (omega (arith, own_length)))

  -- They are a settled request.
  pub own_settled : settled lim own ≡ got g.request parts.request_end
  unfolding settled
  own_settled = next_is (read_request lim Flags own) _ g.request parts.request_end own_read ∙ past_is g.request guarded_past.1 _
