-- Joining: where the facts X lead by one plan to Y, and Y by a second to Z, both verified over one table, X leads to Z by the joined plan. Each end state
-- of the first walk knows Y, so the second plan is verified from it with a count no larger than from Y alone. Assumes nothing.
use Prim.Native.Nat.{ℕ, ◌+◌, ◌-◌, ◌*◌, ◌≤◌, ◌<◌}
use native.Mathlib.Omega.{arith}
use mathlib.Core.Path.{◌≡◌, refl, sym, ◌∙◌, ap, ap₂, subst}
use mathlib.Core.Bool.{true, false}
use mathlib.Core.List.{List, [], ◌∷◌, ◌++◌}
use mathlib.Core.Logic.{inl}
use lib.ListN.{length, length-append, get_or, get_or-append}
use Rattle.meaning.specs.Tests.{Has}
use Rattle.meaning.specs.Limits
use Rattle.meaning.specs.Limits.{Limits}
use Rattle.meaning.specs.Literals.{among}
use Rattle.meaning.specs.Requests.{Knowledge, Table, Sequence, done, item, Request, values, unplaced}
use Rattle.meaning.specs.declared.Form.TheVariants.{Flags}
use Rattle.meaning.specs.Reading.{got, Met, plan_at, table_at, request_at, read_request}
use Rattle.meaning.specs.Refusals.{settled}
use Rattle.meaning.specs.States.{State, known, first_state}
use Rattle.meaning.specs.Walk.{fine, Walked, table_step, walk, missed_in, judged, walked}
use Rattle.meaning.specs.Judging.{judge, number, count}
use Rattle.meaning.specs.Answers.{refusals}
use Rattle.meaning.specs.Paths.{Ending, arrives, stops, Path, count_of, count_in, walked_along}
use Rattle.meaning.specs.Reported.{all_paths}
use Rattle.meaning.specs.SameLines.{SameTables, SameButLines}
use Rattle.meaning.specs.Derivations.{join}
use Rattle.meaning.specs.Layouts.{list_written}
use Rattle.demands.specs.Reuse.{Parts, before_plan, bytes_of, CutSo, OneTable, join_plans, joined, arriving, ends_met, end_states}
use Rattle.meaning.proofs.TestLaws.{each_has}
use Rattle.meaning.proofs.SettledLaws.{got_same, next_got, settled_is, Fit}
use Rattle.meaning.proofs.RangeLaws.{not_refused, after_got}
use Rattle.meaning.proofs.MovedReads.{next_is}
use Rattle.meaning.proofs.LiteralLaws.{among_has}
use Rattle.meaning.proofs.KeptReads.{kept_of, table_kept}
use Rattle.meaning.proofs.PathLaws.{Inhabited, paths_inhabited, each_path, walk_each_path, walked_in_order}
use Rattle.meaning.proofs.ToldLaws.{first_length, first_known}
use Rattle.meaning.proofs.EndLaws.{Ends, Stops, Says}
use Rattle.meaning.proofs.CoverLaws.{reaches}
use Rattle.meaning.proofs.ExactEnds.{met}
use Rattle.meaning.proofs.Exact.{fits, ranged, says}
use Rattle.meaning.proofs.VerifiedLaws.{verified_so, so_verified, not_refused_settled}
use Rattle.demands.proofs.MoreKnown.{KnowsMore, walk_more}
use Rattle.meaning.proofs.ReadLines.{placed_values}
use Rattle.demands.proofs.PartReads.{lines_at, lines_kept, knowing, moved_table, re_tabled, head_of, tail_of, bytes_split, table_so}
use Rattle.demands.proofs.PartsAlike.{tables_alike, facts_unread, verified_alike, judged_follows}
use Rattle.demands.proofs.MoreFacts.{effects_near}
use Rattle.demands.proofs.CutReads.{the_request, cut_counts, cut_read}
use Rattle.demands.proofs.JoinedWalk.{walk_joined, FineBehind, paths_bounded, arriving_counted, enough, product_enough}
use Rattle.demands.proofs.JoinedReads.{plans_joined}

-- ONE TABLE.
module _ (lim : Limits) (x : Parts) (facts plan goals whether : List ℕ) where
  -- The second request, over the first's table.
  abbrev y : Parts
  y = record { fluents = x.fluents; actions = x.actions; facts = facts; lines = x.lines; plan = plan; goals = goals; whether = whether }

  abbrev z : Parts
  z = joined x y

  module _ (one : CutSo lim x) (two : CutSo lim y) where
    abbrev rest_one : List ℕ
    rest_one = x.plan ++ (list_written x.goals ++ list_written x.whether)

    abbrev rest_two : List ℕ
    rest_two = plan ++ (list_written goals ++ list_written whether)

    tables_same : SameTables (knowing x.facts two.table) one.table
    unfolding before_plan
    tables_same =
        let n = x.fluents in
        let m = x.actions in
        let a = table_so lim x one.table (length (before_plan x)) (ap (λ (s : List ℕ). table_at lim Flags s 0) (sym (bytes_split x)) ∙ one.table_read) in
        let b = table_so lim y two.table (length (before_plan y)) (ap (λ (s : List ℕ). table_at lim Flags s 0) (sym (bytes_split y)) ∙ two.table_read) in
        let long = length-append (list_written x.facts) x.lines in
        let ends : a.1 ≡ length x.lines = omega (arith, a.4, long) in
        let far = length x.lines in
        let wide = length-append x.lines rest_two in
        let room : far ≤ length (tail_of y) = omega (arith, wide) in
        let same : (p : ℕ) → p < far → get_or (tail_of y) p 0 ≡ get_or (tail_of x) p 0 = λ p less. get_or-append x.lines rest_two 0 p less ∙ sym (get_or-append x.lines rest_one 0 p less) in
        let there = (kept_of (tail_of x) (tail_of y) far room same 0 (lines_at lim n m (tail_of x) 0) (lines_at lim n m (tail_of y) 0) (lines_kept lim n m (tail_of x) (tail_of y) far room same 0) a.0 far
        (a.2 ∙ ap (λ (k : ℕ). got a.0 k) ends)).2 (omega arith) in
        let lines : a.0 ≡ b.0 = got_same (sym there ∙ b.2) in
        let on = length (head_of x) in
        let on-two = length (head_of y) in
        let first : one.table ≡ knowing x.facts (moved_table on a.0) = a.3 in
        let second : knowing x.facts two.table ≡ knowing x.facts (moved_table on-two a.0) =
        ap (knowing x.facts) b.3 ∙ ap (λ (l : Table). knowing x.facts (moved_table on-two l)) (sym lines) in
        subst (λ (t : Table). SameTables t one.table) (sym second) (subst (SameTables (knowing x.facts (moved_table on-two a.0))) (sym first) (tables_alike x.facts a.0 on-two on))

    -- THE JOINED REQUEST is read as it is cut, with the first's table, and the second's plan behind the first's.
    module _ (r : Request) (e : ℕ) (read : read_request lim Flags (bytes_of z) ≡ got r e) where
      table_there : table_at lim Flags (bytes_of z) 0 ≡ got one.table (length (before_plan x))
      unfolding bytes_of before_plan
      table_there =
          let s = bytes_of x in
          let u = bytes_of z in
          let far = length (before_plan x) in
          let lists = join_plans x.plan plan ++ (list_written goals ++ list_written whether) in
          let wide = length-append (before_plan x) lists in
          let room : far ≤ length u = omega (arith, wide) in
          let same : (p : ℕ) → p < far → get_or u p 0 ≡ get_or s p 0 = λ p less. get_or-append (before_plan x) lists 0 p less ∙ sym (get_or-append (before_plan x) rest_one 0 p less) in
          (kept_of s u far room same 0 (table_at lim Flags s 0) (table_at lim Flags u 0) (table_kept s u far room same lim 0) one.table far one.table_read).2 (omega arith)

      plan_there : (v : Met (Sequence ℕ)) × (k : ℕ) × (plan_at lim Flags x.fluents x.actions (bytes_of z) (length (before_plan x)) ≡ got v k)
      unfolding read_request request_at
      plan_there =
          let counts = cut_counts lim x one in
          let behind = sym (next_is (table_at lim Flags (bytes_of z) 0) _ _ _ table_there) ∙ (not_refused _ _ _ _ read).1 in
          after_got (request_at lim Flags (bytes_of z) one.table (length (before_plan x))) _ behind λ q i eq last.
          let a = next_got (plan_at lim Flags one.table.fluents one.table.actions (bytes_of z) (length (before_plan x))) _ eq in
          (a.0, a.1, ap₂ (λ (n m : ℕ). plan_at lim Flags n m (bytes_of z) (length (before_plan x))) (sym counts.0) (sym counts.1) ∙ a.2)

      both_plans : (q : Sequence ℕ) × (plan_there.0.value ≡ join one.plan.value q) × (unplaced q ≡ unplaced two.plan.value) × (plan_there.1 ≡ length (before_plan x) + length (join_plans x.plan plan))
      unfolding bytes_of before_plan
      both_plans =
          plans_joined lim x.fluents x.actions (before_plan x) x.plan (list_written x.goals ++ list_written x.whether) (before_plan y) plan (list_written goals ++ list_written whether)
          one.plan two.plan plan_there.0 plan_there.1 one.plan_read two.plan_read plan_there.2

      unfoldable joined_cut : CutSo lim z
      unfolding before_plan
      joined_cut = record {
        table = one.table;
        table_read = table_there;
        plan = plan_there.0;
        plan_read = plan_there.2 ∙ ap (λ (k : ℕ). got plan_there.0 k) both_plans.3;
      }

-- THE WALK. What a joined plan's conditions have, the second plan's do.
fit_second : (p q : Sequence ℕ) → Fit (join p q) → Fit q
unfolding join
fit_second done q fit = fit
fit_second (item i p) q fit = fit_second p q fit.1

-- A verified walk has an end state.
some_counted : (xs : List (Path State)) → Inhabited xs → (Stops xs → ⊥) → 1 ≤ count_in xs
unfolding count_in count_of
some_counted [] some none = absurd some
some_counted (v ∷ xs) some none = by_ending v.ending refl
  where
    by_ending : (e : Ending State) → e ≡ v.ending → 1 ≤ count_of v.ran e (count_in xs)
    by_ending (arrives u) q = omega arith
    by_ending (stops n p u) q = absurd (none (n, p, u, inl q))

-- Of a settled request whose walk ends fine: no path stops, each end state has its length and misses nothing, and the count is that of the paths.
module _ (lim : Limits) (room : lim.fluents ≤ lim.state) (b : List ℕ) (r : Request) (e : ℕ) (past : settled lim b ≡ got r e) (is_fine : (walked r (first_state lim r.table)).end ≡ fine) where
  says_fine : Says (missed_in r) (all_paths lim r) fine
  says_fine = subst (Says (missed_in r) (all_paths lim r)) is_fine (says lim room b r e past)

  counts_paths : count lim r ≡ count_in (all_paths lim r)
  unfolding walked_along
  counts_paths = ap (λ (w : Walked State). w.count) (walked_in_order r (first_state lim r.table))

  knowledge_near : (k : Knowledge) → Has r.table.knowledge k → k.fluent < lim.state
  knowledge_near k h = let t = ranged lim room b r e past in omega (arith, t.knowledge k h, t.fluents)

  end_length : (u : State) → Ends (all_paths lim r) (arrives u) → length u ≡ lim.state
  end_length u h = (reaches r.table lim.state (effects_near lim room b r e past) knowledge_near r.plan (first_state lim r.table) (first_length lim r.table) (arrives u) h).1

  end_knows : (u : State) → Ends (all_paths lim r) (arrives u) → (l : ℕ) → Has (values r.goals) l → known u l ≡ true
  end_knows u h l has = each_has (known u) (values r.goals) l ((met r u).0 (says_fine.1 u h)).0 has

  pub one_at_least : 1 ≤ count lim r
  one_at_least = let some = some_counted (all_paths lim r) (paths_inhabited (table_step r.table) r.plan (first_state lim r.table)) says_fine.0 in omega (arith, some, counts_paths)

-- JOINED.
module _ (lim : Limits) (room : lim.fluents ≤ lim.state) (x : Parts) (facts plan goals whether : List ℕ) where
  abbrev second : Parts
  second = y lim x facts plan goals whether

  abbrev whole : Parts
  whole = z lim x facts plan goals whether

  module _ (one : CutSo lim x) (two : CutSo lim second) (leads : (l : ℕ) → Has facts l → Has x.goals l)
      (e f : ℕ) (past : settled lim (bytes_of x) ≡ got (the_request lim x one) e) (past_too : settled lim (bytes_of second) ≡ got (the_request lim second two) f)
      (q : Request) (g : ℕ) (past-whole : settled lim (bytes_of whole) ≡ got q g)
      (fine-first : (walked (the_request lim x one) (first_state lim one.table)).end ≡ fine) (fine-second : (walked (the_request lim second two) (first_state lim two.table)).end ≡ fine) where
    abbrev t : Table
    t = one.table

    abbrev r : Request
    r = the_request lim x one

    abbrev r_second : Request
    r_second = the_request lim second two

    reads : read_request lim Flags (bytes_of whole) ≡ got q g
    reads = (settled_is lim (bytes_of whole) q g past-whole).reads

    abbrev cut : CutSo lim whole
    cut = joined_cut lim x facts plan goals whether one two q g reads

    abbrev r_whole : Request
    r_whole = the_request lim whole cut

    is_whole : q ≡ r_whole
    is_whole = (cut_read lim whole cut q g reads).is

    -- The second plan, where it stands behind the first.
    abbrev tail : Sequence ℕ
    tail = (both_plans lim x facts plan goals whether one two q g reads).0

    plan_is : r_whole.plan ≡ join r.plan tail
    unfolding joined_cut
    plan_is = (both_plans lim x facts plan goals whether one two q g reads).1

    table_is : r_whole.table ≡ t
    unfolding joined_cut
    table_is = refl

    -- By itself it says what the second request does.
    abbrev behind : Request
    behind = record { table = t; plan = tail; goals = r_whole.goals; whether = r_whole.whether; whether_place = r_whole.whether_place }

    says_same : SameButLines (re_tabled (knowing x.facts two.table) r_second) behind
    says_same = record {
      tables = tables_same lim x facts plan goals whether one two;
      plan = sym (both_plans lim x facts plan goals whether one two q g reads).2;
      goals = placed_values _ goals ∙ sym (placed_values _ goals);
      whether = placed_values _ whether ∙ sym (placed_values _ whether);
    }

    abbrev d : ℕ
    d = count lim r_second

    behind_fine : ((walked behind (first_state lim two.table)).end ≡ fine) × ((walked behind (first_state lim two.table)).count ≡ d)
    behind_fine =
        let s = first_state lim two.table in
        let unread = facts_unread r_second x.facts s in
        let alike = verified_alike (re_tabled (knowing x.facts two.table) r_second) behind says_same s (ap (λ (w : Walked State). w.end) unread ∙ fine-second) in
        (alike.0, alike.1 ∙ ap (λ (w : Walked State). w.count) unread)

    -- From each end state of the first plan, which knows what the second starts from.
    abbrev k : State → Walked State
    k = walk (table_step t) tail (judged behind)

    from_each : FineBehind k d (all_paths lim r)
    unfolding walked
    from_each u h =
        let near = effects_near lim room (bytes_of x) r e past in
        let s = first_state lim two.table in
        let there = first_known lim room two.table (ranged lim room (bytes_of second) r_second f past_too) in
        let so = table_so lim second two.table (length (before_plan second)) (ap (λ (b : List ℕ). table_at lim Flags b 0) (sym (bytes_split second)) ∙ two.table_read) in
        let has_facts : two.table.facts ≡ facts = ap (λ (v : Table). v.facts) so.3 in
        let knows : KnowsMore lim.state s u = record {
          first = first_length lim two.table;
          second = end_length lim room (bytes_of x) r e past fine-first u h;
          more = λ l is.
              end_knows lim room (bytes_of x) r e past fine-first u h l
              (subst (λ (ls : List ℕ). Has ls l) (sym (placed_values _ x.goals)) (leads l (among_has l facts (sym (ap (among l) has_facts) ∙ sym (there l) ∙ is))));
        } in
        let whole_fit : Fit r_whole.plan = fits lim room (bytes_of whole) r_whole g (past-whole ∙ ap (λ (v : Request). got v g) is_whole) in
        let fit_tail : Fit tail = fit_second r.plan tail (subst Fit plan_is whole_fit) in
        let w = walk_more t lim.state near tail fit_tail (judged behind) (judged behind) (judged_follows lim.state behind behind (λ l m. m) (λ l m. m)) s u knows behind_fine.0 in
        (w.0, omega (arith, w.1, behind_fine.1))

    whole_walk : walked r_whole (first_state lim r_whole.table) ≡ each_path k (all_paths lim r)
    unfolding walked judged missed_in joined_cut
    whole_walk =
        ap (λ (p : Sequence ℕ). walk (table_step t) p (judged behind) (first_state lim t)) plan_is
        ∙ walk_joined (table_step t) r.plan tail (judged behind) (first_state lim t)
        ∙ walk_each_path (table_step t) r.plan k (first_state lim t)

    pub joined_walk : ((walked q (first_state lim q.table)).end ≡ fine) × (count lim q ≤ count lim r - arriving (all_paths lim r) + arriving (all_paths lim r) * d)
    joined_walk =
        let xs = all_paths lim r in
        let none = (says_fine lim room (bytes_of x) r e past fine-first).0 in
        let w = paths_bounded k d xs none from_each in
        let c = counts_paths lim room (bytes_of x) r e past fine-first in
        let is : walked q (first_state lim q.table) ≡ each_path k xs = ap (λ (v : Request). walked v (first_state lim v.table)) is_whole ∙ whole_walk in
        let many : count lim q ≡ (each_path k xs).count = ap (λ (v : Walked State). v.count) is in (
          ap (λ (v : Walked State). v.end) is ∙ w.0,
          enough (count lim q) (count lim r) (arriving xs) d (let less = arriving_counted xs none in omega (arith, less, c)) (omega (arith, w.1, many, c)),
        )

-- JOINING, over bytes. The first request leads to what the second starts from: each fact of the second is a goal of the first.
module _ (lim : Limits) (room : lim.fluents ≤ lim.state) (x : Parts) (one : CutSo lim x) (lent : List ℕ) (first second budget : ℕ) where
  -- The counts of both answers, and the end states of the first walk.
  abbrev c : ℕ
  c = (judge lim (bytes_of x) lent first).answer.count

  abbrev ends : ℕ
  ends = end_states lim (bytes_of x)

  abbrev counted_by : Parts → ℕ
  counted_by y = (judge lim (bytes_of y) lent second).answer.count

  abbrev VerifiedUpTo : Parts → ℕ → Type 0
  VerifiedUpTo y most = (number lim (bytes_of (joined x y)) lent budget ≡ Limits.verified) × ((judge lim (bytes_of (joined x y)) lent budget).answer.count ≤ most)

  abbrev Joins : Parts → Type 0
  Joins y =
      CutSo lim y → ((l : ℕ) → Has y.facts l → Has x.goals l)
      → number lim (bytes_of x) lent first ≡ Limits.verified → number lim (bytes_of y) lent second ≡ Limits.verified
      → among (number lim (bytes_of (joined x y)) lent budget) refusals ≡ false
      → (c - ends + ends * counted_by y ≤ budget → VerifiedUpTo y (c - ends + ends * counted_by y)) × (c - ends + ends * counted_by y ≤ c * counted_by y)

  joins : (facts plan goals whether : List ℕ) → Joins (y lim x facts plan goals whether)
  unfolding end_states ends_met
  joins facts plan goals whether two leads verified verified-too passes =
      let yy = y lim x facts plan goals whether in
      let v = verified_so lim (bytes_of x) lent first verified in
      let w = verified_so lim (bytes_of yy) lent second verified-too in
      let there = not_refused_settled lim (bytes_of (joined x yy)) lent budget v.sized passes in
      let is = (cut_read lim x one v.says v.end (settled_is lim (bytes_of x) v.says v.end v.settles).reads).is in
      let is-too = (cut_read lim yy two w.says w.end (settled_is lim (bytes_of yy) w.says w.end w.settles).reads).is in
      let past : settled lim (bytes_of x) ≡ got (the_request lim x one) v.end = v.settles ∙ ap (λ (r : Request). got r v.end) is in
      let past_too : settled lim (bytes_of yy) ≡ got (the_request lim yy two) w.end = w.settles ∙ ap (λ (r : Request). got r w.end) is-too in
      let is_fine = subst (λ (r : Request). (walked r (first_state lim r.table)).end ≡ fine) is v.fine in
      let is-fine-too = subst (λ (r : Request). (walked r (first_state lim r.table)).end ≡ fine) is-too w.fine in
      let all = joined_walk lim room x facts plan goals whether one two leads v.end w.end past past_too there.0 there.1 there.2 is_fine is-fine-too in
      let counts : c ≡ count lim (the_request lim x one) = v.counts ∙ ap (count lim) is in
      let counts_too : counted_by yy ≡ count lim (the_request lim yy two) = w.counts ∙ ap (count lim) is-too in
      let met : ends ≡ arriving (all_paths lim (the_request lim x one)) = ap (ends_met lim) past in
      let xs = all_paths lim (the_request lim x one) in
      let product : ends * counted_by yy ≡ arriving xs * count lim (the_request lim yy two) = ap₂ (λ (a b : ℕ). a * b) met counts_too in
      let less = arriving_counted xs (says_fine lim room (bytes_of x) (the_request lim x one) v.end past is_fine).0 in
      let paths = counts_paths lim room (bytes_of x) (the_request lim x one) v.end past is_fine in
      let few : ends ≤ c = omega (arith, less, paths, counts, met) in
      let some : 1 ≤ counted_by yy = let least = one_at_least lim room (bytes_of yy) (the_request lim yy two) w.end past_too is-fine-too in omega (arith, least, counts_too) in
      let bound : count lim there.0 ≤ c - ends + ends * counted_by yy = omega (arith, all.1, counts, met, product) in (
        λ enough-budget.
            let answer = so_verified lim (bytes_of (joined x yy)) lent budget v.sized there.0 there.1 there.2 all.0 (omega (arith, bound, enough-budget)) in
            (answer.0, omega (arith, answer.1, bound)),
        product_enough c ends (counted_by yy) few some,
      )

  module _ (y : Parts) (same : OneTable x y) (two : CutSo lim y) (leads : (l : ℕ) → Has y.facts l → Has x.goals l)
      (verified : number lim (bytes_of x) lent first ≡ Limits.verified) (verified-too : number lim (bytes_of y) lent second ≡ Limits.verified)
      (passes : among (number lim (bytes_of (joined x y)) lent budget) refusals ≡ false) where
    both_bounds : (c - ends + ends * counted_by y ≤ budget → VerifiedUpTo y (c - ends + ends * counted_by y)) × (c - ends + ends * counted_by y ≤ c * counted_by y)
    both_bounds = subst Joins over_one_table (joins y.facts y.plan y.goals y.whether) two leads verified verified-too passes
      where
        over_one_table : ◌≡◌ {A = Parts} (record { fluents = x.fluents; actions = x.actions; facts = y.facts; lines = x.lines; plan = y.plan; goals = y.goals; whether = y.whether }) y
        over_one_table = λ i. record { fluents = same.fluents i; actions = same.actions i; facts = y.facts; lines = same.lines i; plan = y.plan; goals = y.goals; whether = y.whether }

    -- With a first count of c, e of it end states, and a second count of d, a budget of (c - e) + e * d is enough,
    pub joining : c - ends + ends * counted_by y ≤ budget → VerifiedUpTo y (c - ends + ends * counted_by y)
    joining = both_bounds.0

    -- and so is one of c * d.
    pub joining_by_product : c * counted_by y ≤ budget → VerifiedUpTo y (c * counted_by y)
    joining_by_product enough-budget =
        let less = both_bounds.1 in
        let w = both_bounds.0 (omega (arith, less, enough-budget)) in
        (w.0, omega (arith, w.1, less))
