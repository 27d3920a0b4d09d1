-- Fewer goals: with goals or whether entries removed a verified request stays verified, with the same count. The bytes up to the goals are the same, so
-- the table and the plan are; shorter lists are read; and the walk's count doesn't depend on what is asked. Assumes nothing.
use Prim.Native.Nat.{ℕ, ◌≤◌}
use native.Mathlib.Omega.{arith}
use mathlib.Core.Path.{◌≡◌, refl, sym, ◌∙◌, ap, ap₂, subst}
use mathlib.Core.Bool.{Bool}
use mathlib.Core.List.{List}
use lib.ListN.{length}
use Rattle.meaning.specs.Tests.{those_of, Has}
use Rattle.meaning.specs.Limits
use Rattle.meaning.specs.Limits.{Limits}
use Rattle.meaning.specs.Requests.{Table, Request, values}
use Rattle.meaning.specs.declared.Form.TheVariants.{Flags}
use Rattle.meaning.specs.Reading.{got, fluents, literals, plan_at, request_at}
use Rattle.meaning.specs.Refusals.{nowhere, contradiction_in, mixed_in, overlap_in, settled}
use Rattle.meaning.specs.States.{State, first_state}
use Rattle.meaning.specs.Walk.{fine, Walked, judged, walked}
use Rattle.meaning.specs.Judging.{judge, number, count}
use Rattle.meaning.specs.Paths.{walked_along}
use Rattle.meaning.specs.Layouts.{list_written}
use Rattle.demands.specs.Reuse.{Parts, before_plan, bytes_of, CutSo, asking}
use Rattle.meaning.proofs.TestLaws.{those_has}
use Rattle.meaning.proofs.SettledLaws.{settled_is}
use Rattle.meaning.proofs.RangeLaws.{got_place}
use Rattle.meaning.proofs.MovedReads.{next_is}
use Rattle.demands.proofs.ReleaseRows.{settled_behind, refuse_none}
use Rattle.meaning.proofs.PathLaws.{walked_in_order}
use Rattle.meaning.proofs.ToldLaws.{first_length}
use Rattle.meaning.proofs.Exact.{fits}
use Rattle.meaning.proofs.VerifiedLaws.{verified_so, so_verified}
use Rattle.demands.proofs.MoreKnown.{KnowsMore, walk_more}
use Rattle.demands.proofs.PartsAlike.{judged_follows}
use Rattle.demands.proofs.MoreFacts.{effects_near}
use Rattle.meaning.proofs.ReadLines.{placed_values}
use Rattle.demands.proofs.CutReads.{third_stands, fourth_stands, four_length, goals_start, whether_start, the_request, cut_counts, cut_read, cut_again}
use Rattle.meaning.proofs.ListReads.{InOrder, list_in_order, kept_in_order, list_few, list_read, those_length}

-- A REQUEST whose table and plan are read as it is cut, and whose lists ascend, is settled unless 16, 17 or 18 refuses it.
module _ (lim : Limits) (y : Parts) (d : CutSo lim y) (short : length (bytes_of y) ≤ lim.request)
    (goals_ascend : InOrder literals d.table.fluents 0 y.goals) (goals-few : length y.goals ≤ lim.listed)
    (whether-ascend : InOrder fluents d.table.fluents 0 y.whether) (whether-few : length y.whether ≤ lim.listed) where
  lists_read : request_at lim Flags (bytes_of y) d.table (length (before_plan y)) ≡ got (the_request lim y d) (length (bytes_of y))
  unfolding request_at bytes_of
  lists_read =
      let u = bytes_of y in
      let n = d.table.fluents in
      let counts = cut_counts lim y d in
      let goals = list_read literals n lim.listed u y.goals (goals_start lim y d) (whether_start lim y d) goals_ascend goals-few
      (third_stands (before_plan y) y.plan (list_written y.goals) (list_written y.whether)) in
      let whether = list_read fluents n lim.listed u y.whether (whether_start lim y d) (length u) whether-ascend whether-few
      (fourth_stands (before_plan y) y.plan (list_written y.goals) (list_written y.whether)) in
      next_is _ _ _ _ (ap₂ (λ (k m : ℕ). plan_at lim Flags k m u (length (before_plan y))) counts.0 counts.1 ∙ d.plan_read) ∙ next_is _ _ _ _ goals ∙ next_is _ _ _ _ whether

  cut_settled : contradiction_in d.table ≡ nowhere → mixed_in d.table.effects d.table.knowledge ≡ nowhere → overlap_in d.plan.value ≡ nowhere
      → settled lim (bytes_of y) ≡ got (the_request lim y d) (length (bytes_of y))
  cut_settled clean unmixed apart =
      settled_behind lim d.table (length (before_plan y)) clean unmixed (bytes_of y) short d.table_read (got (the_request lim y d) (length (bytes_of y))) lists_read
      (λ r e is. let place = got_place is in omega (arith, place))
      ∙ next_is _ _ _ _ refl ∙ refuse_none _ (overlap_in d.plan.value) _ apart

-- ENTRIES REMOVED from one that is settled.
module _ (lim : Limits) (x : Parts) (c : CutSo lim x) (keep kept : ℕ → Bool) (r : Request) (e : ℕ) (past : settled lim (bytes_of x) ≡ got r e) where
  abbrev goals : List ℕ
  goals = those_of keep x.goals

  abbrev whether : List ℕ
  whether = those_of kept x.whether

  abbrev y : Parts
  y = asking goals whether x

  no_longer : length (bytes_of y) ≤ length (bytes_of x)
  unfolding bytes_of before_plan list_written
  no_longer =
      let one = four_length (before_plan x) x.plan (list_written x.goals) (list_written x.whether) in
      let two = four_length (before_plan x) x.plan (list_written goals) (list_written whether) in
      omega (arith, one, two, those_length keep x.goals, those_length kept x.whether)

  fewer_settled : settled lim (bytes_of y) ≡ got (the_request lim y (cut_again lim x c goals whether)) (length (bytes_of y))
  unfolding cut_again
  fewer_settled =
      let passed = settled_is lim (bytes_of x) r e past in
      let read = cut_read lim x c r e passed.reads in
      let n = c.table.fluents in
      let table : r.table ≡ c.table = ap (λ (q : Request). q.table) read.is in
      let few = list_few literals n lim.listed (bytes_of x) _ x.goals _ read.goals_read in
      let few-too = list_few fluents n lim.listed (bytes_of x) _ x.whether _ read.whether_read in
      cut_settled lim y (cut_again lim x c goals whether) (omega (arith, read.short, no_longer))
      (kept_in_order literals n keep 0 x.goals (list_in_order literals n lim.listed (bytes_of x) _ x.goals _ read.goals_read)) (omega (arith, few, those_length keep x.goals))
      (kept_in_order fluents n kept 0 x.whether (list_in_order fluents n lim.listed (bytes_of x) _ x.whether _ read.whether_read)) (omega (arith, few-too, those_length kept x.whether))
      (ap contradiction_in (sym table) ∙ passed.no_contradiction)
      (ap (λ (t : Table). mixed_in t.effects t.knowledge) (sym table) ∙ passed.not_mixed)
      (ap (λ (q : Request). overlap_in q.plan) (sym read.is) ∙ passed.no_overlap)

-- FEWER GOALS.
module _ (lim : Limits) (room : lim.fluents ≤ lim.state) (x : Parts) (cut : CutSo lim x) (keep kept : ℕ → Bool) (lent : List ℕ) (budget : ℕ) where
  abbrev less : List ℕ
  less = bytes_of (asking (those_of keep x.goals) (those_of kept x.whether) x)

  pub fewer_goals : number lim (bytes_of x) lent budget ≡ Limits.verified
      → (number lim less lent budget ≡ Limits.verified) × ((judge lim less lent budget).answer.count ≡ (judge lim (bytes_of x) lent budget).answer.count)
  unfolding cut_again walked walked_along
  fewer_goals verified =
      let v = verified_so lim (bytes_of x) lent budget verified in
      let goals = those_of keep x.goals in
      let whether = those_of kept x.whether in
      let y = asking goals whether x in
      let d = cut_again lim x cut goals whether in
      let r = the_request lim x cut in
      let q = the_request lim y d in
      let read = cut_read lim x cut v.says v.end (settled_is lim (bytes_of x) v.says v.end v.settles).reads in
      let past : settled lim (bytes_of x) ≡ got r v.end = v.settles ∙ ap (λ (z : Request). got z v.end) read.is in
      let is_fine : (walked r (first_state lim r.table)).end ≡ fine = subst (λ (z : Request). (walked z (first_state lim z.table)).end ≡ fine) read.is v.fine in
      let s = first_state lim cut.table in
      let knows : KnowsMore lim.state s s = record { first = first_length lim cut.table; second = first_length lim cut.table; more = λ l h. h } in
      let asks : (l : ℕ) → Has (values q.goals) l → Has (values r.goals) l = λ l h.
      subst (λ (zs : List ℕ). Has zs l) (sym (placed_values _ x.goals)) (those_has keep x.goals l (subst (λ (zs : List ℕ). Has zs l) (placed_values _ goals) h)).0 in
      let asks_whether : (f : ℕ) → Has (values q.whether) f → Has (values r.whether) f = λ f h.
      subst (λ (zs : List ℕ). Has zs f) (sym (placed_values _ x.whether)) (those_has kept x.whether f (subst (λ (zs : List ℕ). Has zs f) (placed_values _ whether) h)).0 in
      let w = walk_more cut.table lim.state (effects_near lim room (bytes_of x) r v.end past) cut.plan.value (fits lim room (bytes_of x) r v.end past) (judged q) (judged r)
      (judged_follows lim.state r q asks asks_whether) s s knows is_fine in
      let same : (walked q s).count ≡ (walked r s).count =
      ap (λ (z : Walked State). z.count) (walked_in_order q s) ∙ sym (ap (λ (z : Walked State). z.count) (walked_in_order r s)) in
      let was : (walked r s).count ≡ count lim v.says = ap (λ (z : Request). count lim z) (sym read.is) in
      let answer = so_verified lim less lent budget v.sized q (length less) (fewer_settled lim x cut keep kept r v.end past) w.0 (omega (arith, same, was, v.within)) in
      (answer.0, answer.1 ∙ same ∙ was ∙ sym v.counts)
