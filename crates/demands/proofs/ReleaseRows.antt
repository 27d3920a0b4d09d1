-- Each plan's row is the walk call's answer on the table followed by that plan, its place moved to the file: the table is read alike, since it is the
-- first part of both; the plan is read and walked alike, so much further on; and what the plan is cut off from is not looked at. Assumes nothing.
use Prim.Native.Nat.{ℕ, zero, suc, ◌+◌, ◌-◌, ◌≤◌, ◌<◌}
use native.Mathlib.Omega.{arith}
use mathlib.Core.Path.{◌≡◌, refl, sym, ◌∙◌, ap}
use mathlib.Core.Bool.{Bool, true, false}
use mathlib.Core.List.{List, [], ◌∷◌, ◌++◌}
use lib.ListN.{length, length-append, length-drop, get_or, get_or-replicate, length-replicate, replicate, take, drop, get_or-append}
use lib.Seq.{length-take-le, get_or-take, get_or-drop, get_or-append-add}
use lib.Dec.{ltb, eqb}
use borrow.Author.Tests.{eq-eqb, ltb-true, ltb-false, le-ltb}
use Rattle.meaning.specs.declared.Answer.{Answer}
use Rattle.meaning.specs.Tests.{either, pick, some_of}
use Rattle.meaning.specs.Limits
use Rattle.meaning.specs.Limits.{Limits}
use Rattle.meaning.specs.Literals.{among}
use Rattle.meaning.specs.Requests.{Table, Request}
use Rattle.meaning.specs.declared.Form.TheVariants.{Flags}
use Rattle.meaning.specs.Reading.{Got, got, fault, next, repeated, table_at, request_at, read_request}
use Rattle.meaning.specs.Refusals.{Found, nowhere, at, contradiction_in, mixed_in, overlap_in, refuse, settled}
use Rattle.meaning.specs.States.{State, first_state}
use Rattle.meaning.specs.Walk.{End, fine, missed, stopped, Walked, walked}
use Rattle.meaning.specs.Judging.{Judgement, reported, ended, within, judge_settled, judge, judge_got}
use Rattle.meaning.specs.Releases.{Opening, opening, plans_at, plan_answer, unreached, after_plan, answers_at, in_row, release, plan_bytes, own_request, moved, row_of}
use Rattle.meaning.specs.Answers.{refusals, answers}
use Rattle.meaning.proofs.TestLaws.{by-test, clash, pick_true, pick_false}
use Rattle.meaning.proofs.PickLaws.{pick_has}
use Rattle.meaning.proofs.SettledLaws.{fault≢got, next_got}
use Rattle.meaning.proofs.RangeLaws.{got_place}
use Rattle.meaning.proofs.TableLines.{request_table}
use Rattle.meaning.proofs.MovedReads.{next_is}
use Rattle.demands.proofs.ShiftedReads.{moved_request, moved_got, request_moved}
use Rattle.meaning.proofs.KeptReads.{kept_of, repeated_kept, table_kept, request_kept}
use Rattle.demands.proofs.MovedWalk.{moved_found, overlap_moved, moved_end, moved_walk, walked_moved}
use Rattle.meaning.proofs.AnswerLaws.{every_answer_numbered}
use Rattle.meaning.proofs.ReleaseLaws.{judged, opened, rows_at, answers_length}

-- What was read, and is not refused by 18.
abbrev pub past_overlap : Got Request → Got Request
past_overlap x = next x λ r e. refuse Limits.not_exclusive (overlap_in r.plan) λ _. got r e

-- THE ANSWER of a settled request, moved.
module _ (on : ℕ) where
  past_moved : (x : Got Request) → past_overlap (moved_got on x) ≡ moved_got on (past_overlap x)
  unfolding next refuse
  past_moved (got r e) = rw (overlap_moved on r.plan) (by_found (overlap_in r.plan))
    where
      by_found : (f : Found) → refuse Limits.not_exclusive (moved_found on f) (λ _. got (moved_request on r) (e + on)) ≡ moved_got on (refuse Limits.not_exclusive f (λ _. got r e))
      by_found nowhere = refl
      by_found (at p) = refl
  past_moved (fault n p) = refl

  module _ (lim : Limits) (lent : List ℕ) (budget : ℕ) where
    picked_moved : (b : Bool) (f g h k : Unit {0} → Judgement) → (f tt).answer ≡ moved on (h tt).answer → (g tt).answer ≡ moved on (k tt).answer → (pick b f g).answer ≡ moved on (pick b h k).answer
    unfolding pick
    picked_moved true f g h k first second = first
    picked_moved false f g h k first second = second

    ended_moved : (c : ℕ) (e : End State) → (ended [] c (moved_end on e)).answer ≡ moved on (ended lent c e).answer
    unfolding ended reported moved pick
    ended_moved c fine = refl
    ended_moved c (missed p s) = refl
    ended_moved c (stopped n p u) = refl

    within_moved : (w : Walked State) → (within [] budget (moved_walk on w)).answer ≡ moved on (within lent budget w).answer
    unfolding within moved pick
    within_moved w = picked_moved (ltb budget w.count) _ _ _ _ refl (ended_moved w.count w.end)

    settled_moved : (x : Got Request) → (judge_settled lim [] budget (moved_got on x)).answer ≡ moved on (judge_settled lim lent budget x).answer
    unfolding judge_got moved pick
    settled_moved (got r e) = rw (walked_moved on r (first_state lim r.table)) (within_moved (walked r (first_state lim r.table)))
    settled_moved (fault n p) = refl

    plan_answer_moved : (x : Got Request) → plan_answer lim budget (moved_got on x) ≡ moved on (judge_settled lim lent budget (past_overlap x)).answer
    unfolding plan_answer
    plan_answer_moved x = ap (λ (y : Got Request). (judge_settled lim [] budget y).answer) (past_moved x) ∙ settled_moved (past_overlap x)

-- Its number stays.
pub moved_number : (on : ℕ) (a : Answer) → (moved on a).number ≡ a.number
unfolding moved
moved_number on a = pick_has (λ (b : Answer). b.number ≡ a.number) (eqb a.input Limits.the_request) _ _ (λ _. refl) (λ _. refl)

-- LISTS: the first k entries of one, and another behind them.
before_joint : (k : ℕ) (xs ys : List ℕ) → k ≤ length xs → (i : ℕ) → i < k → get_or (take k xs ++ ys) i 0 ≡ get_or xs i 0
before_joint k xs ys fits i less = let long = length-take-le k xs fits in get_or-append (take k xs) ys 0 i (omega (arith, less, long)) ∙ get_or-take k xs i 0 less

behind_joint : (k : ℕ) (xs ys : List ℕ) → k ≤ length xs → (i : ℕ) → k ≤ i → get_or (take k xs ++ ys) i 0 ≡ get_or ys (i - k) 0
behind_joint k xs ys fits i more =
    let long = length-take-le k xs fits in
    let same : i ≡ length (take k xs) + (i - k) = omega (arith, long, more) in
    ap (λ (j : ℕ). get_or (take k xs ++ ys) j 0) same ∙ get_or-append-add (take k xs) ys (i - k) 0

-- A REQUEST that has this table in its first bytes, past 16 and 17. Whatever is read behind the table decides what it is settled to.
module _ {A B : Type 0} where
  next_fault : (m : Got A) (k : A → ℕ → Got B) (n i : ℕ) → m ≡ fault n i → next m k ≡ fault n i
  unfolding next
  next_fault m k n i e = ap (λ (y : Got A). next y k) e

pub refuse_none : {A : Type 0} (n : ℕ) (f : Found) (k : Unit {0} → Got A) → f ≡ nowhere → refuse n f k ≡ k tt
unfolding refuse
refuse_none n f k e = ap (λ (g : Found). refuse n g k) e

module _ (lim : Limits) (t : Table) (end : ℕ) (clean : contradiction_in t ≡ nowhere) (unmixed : mixed_in t.effects t.knowledge ≡ nowhere) where
  pub settled_behind : (u : List ℕ) → length u ≤ lim.request → table_at lim Flags u 0 ≡ got t end → (h : Got Request) → request_at lim Flags u t end ≡ h
      → ((r : Request) (e : ℕ) → h ≡ got r e → length u ≤ e) → settled lim u ≡ past_overlap h
  unfolding settled read_request next
  settled_behind u short table (got r e) read ends =
      let same : r.table ≡ t = (request_table lim u t end).holds r e read in
      let whole : read_request lim Flags u ≡ got r e =
      pick_false _ _ _ (le-ltb lim.request (length u) short) ∙ next_is _ _ _ _ table ∙ next_is _ _ _ _ read ∙ pick_false _ _ _ (le-ltb e (length u) (ends r e refl)) in
      next_is _ _ _ _ whole
      ∙ refuse_none _ (contradiction_in r.table) _ (ap contradiction_in same ∙ clean)
      ∙ refuse_none _ (mixed_in r.table.effects r.table.knowledge) _ (ap (λ (x : Table). mixed_in x.effects x.knowledge) same ∙ unmixed)
  settled_behind u short table (fault n i) read ends =
      next_fault _ _ n i (pick_false _ _ _ (le-ltb lim.request (length u) short) ∙ next_is _ _ _ _ table ∙ next_fault _ _ n i read)

  -- OUT OF A FILE that has this table too, with a plan behind it.
  module _ (s : List ℕ) (short : length s ≤ lim.request) (table : table_at lim Flags s 0 ≡ got t end) (start : ℕ) (behind : end ≤ start) (inside : start ≤ length s) where
    abbrev on : ℕ
    on = start - end

    fits : end ≤ length s
    fits = omega (arith, behind, inside)

    -- The table, and all bytes from the plan's first on.
    abbrev uncut : List ℕ
    uncut = take end s ++ drop start s

    uncut_length : length s ≡ length uncut + on
    uncut_length = let all = length-append (take end s) (drop start s) in omega (arith, all, length-take-le end s fits, length-drop start s, behind, inside)

    uncut_same : (q : ℕ) → end ≤ q → get_or s (q + on) 0 ≡ get_or uncut q 0
    uncut_same q more =
        let place : start + (q - end) ≡ q + (start - end) = omega (arith, more, behind) in
        sym (behind_joint end s (drop start s) fits q more ∙ get_or-drop start s (q - end) 0 ∙ ap (λ (k : ℕ). get_or s k 0) place)

    uncut_read : request_at lim Flags s t start ≡ moved_got on (request_at lim Flags uncut t end)
    uncut_read = request_moved s uncut on end uncut_length uncut_same lim t start end (omega (arith, behind)) (omega arith)

    -- The table is read from whatever stands behind its bytes.
    table_there : (ys : List ℕ) → table_at lim Flags (take end s ++ ys) 0 ≡ got t end
    table_there ys =
        let long = length-append (take end s) ys in
        (kept_of s (take end s ++ ys) end (omega (arith, long, length-take-le end s fits)) (before_joint end s ys fits) 0 (table_at lim Flags s 0) (table_at lim Flags (take end s ++ ys) 0)
        (table_kept s (take end s ++ ys) end (omega (arith, long, length-take-le end s fits)) (before_joint end s ys fits) lim 0) t end table).2 (omega arith)

    -- The plan that is read there, and what its own request is settled to.
    abbrev Alone : Got Request → Type 0
    Alone x = (h : Got Request) × (x ≡ moved_got on h) × (settled lim (take end s ++ plan_bytes s start x) ≡ past_overlap h)

    failed_alone : (n i : ℕ) → request_at lim Flags s t start ≡ fault n i → Alone (fault n i)
    unfolding plan_bytes
    failed_alone n i read =
        let same : fault n i ≡ moved_got on (request_at lim Flags uncut t end) = sym read ∙ uncut_read in (
          request_at lim Flags uncut t end,
          same,
          settled_behind uncut (omega (arith, uncut_length, short)) (table_there (drop start s)) (request_at lim Flags uncut t end) refl
              (λ r e got-there. absurd (fault≢got (same ∙ ap (moved_got on) got-there))),
        )

    module _ (r : Request) (e : ℕ) (read : request_at lim Flags s t start ≡ got r e) where
      abbrev cut : List ℕ
      cut = take end s ++ take (e - start) (drop start s)

      -- It stops behind its start and within the file.
      goes : (start ≤ e) × (e ≤ length s)
      goes =
          let kept = kept_of s s 0 (omega arith) (λ i less. refl) start (request_at lim Flags s t start) (request_at lim Flags s t start) (request_kept s s 0 (omega arith) (λ i less. refl) lim t start) r e read in
          (kept.0, kept.1 inside)

      cut_length : length cut ≡ end + (e - start)
      cut_length =
          let all = length-append (take end s) (take (e - start) (drop start s)) in
          let rest = length-drop start s in
          omega (arith, all, length-take-le end s fits, length-take-le (e - start) (drop start s) (omega (arith, goes.1, rest)))

      cut_same : (i : ℕ) → i < end + (e - start) → get_or cut i 0 ≡ get_or uncut i 0
      cut_same i less =
          by-test (ltb i end)
          (λ t. let before = ltb-true i end t in before_joint end s (take (e - start) (drop start s)) fits i before ∙ sym (before_joint end s (drop start s) fits i before))
          (λ f.
          let more = ltb-false i end f in
          behind_joint end s (take (e - start) (drop start s)) fits i more
          ∙ get_or-take (e - start) (drop start s) (i - end) 0 (omega (arith, less, more))
          ∙ sym (behind_joint end s (drop start s) fits i more))

      by_read : (h : Got Request) → request_at lim Flags uncut t end ≡ h → got r e ≡ moved_got on h → settled lim cut ≡ past_overlap h
      by_read (got y f) there same =
          let place : e ≡ f + on = got_place same in
          let far : f ≡ end + (e - start) = omega (arith, place, behind, goes.0) in
          let again : request_at lim Flags cut t end ≡ got y f =
          (kept_of uncut cut (end + (e - start)) (omega (arith, cut_length)) cut_same end (request_at lim Flags uncut t end) (request_at lim Flags cut t end)
          (request_kept uncut cut (end + (e - start)) (omega (arith, cut_length)) cut_same lim t end) y f there).2 (omega (arith, far)) in
          settled_behind cut (omega (arith, cut_length, goes.0, goes.1, behind, short)) (table_there (take (e - start) (drop start s))) (got y f) again
          (λ z g is. let last : f ≡ g = got_place is in omega (arith, last, far, cut_length))
      by_read (fault n i) there same = absurd (fault≢got (sym same))

      read_alone : Alone (got r e)
      unfolding plan_bytes
      read_alone =
          let same : got r e ≡ moved_got on (request_at lim Flags uncut t end) = sym read ∙ uncut_read in
          (request_at lim Flags uncut t end, same, by_read (request_at lim Flags uncut t end) refl same)

    alone : (x : Got Request) → request_at lim Flags s t start ≡ x → Alone x
    alone (got r e) read = read_alone r e read
    alone (fault n i) read = failed_alone n i read

    plan_alone : (budget : ℕ) (lent : List ℕ) → length lent ≡ lim.state
        → plan_answer lim budget (request_at lim Flags s t start) ≡ moved on (judge lim (take end s ++ plan_bytes s start (request_at lim Flags s t start)) lent budget).answer
    unfolding judge
    plan_alone budget lent sized =
        let a = alone (request_at lim Flags s t start) refl in
        ap (plan_answer lim budget) a.1 ∙ plan_answer_moved on lim lent budget a.0
        ∙ ap (λ (j : Judgement). moved on j.answer) (sym (pick_true _ _ _ (eq-eqb _ _ sized) ∙ ap (judge_settled lim lent budget) a.2))

-- THE PLANS IN ORDER. Each is judged where those before it end, and none behind one that fails.
module _ (lim : Limits) (s : List ℕ) (t : Table) (budget : ℕ) where
  answer_there : (i left p : ℕ) (rs : List Request) (start : ℕ) → i < left → plans_at lim s t i p ≡ got rs start
      → get_or (answers_at lim s t budget left p) i unreached ≡ plan_answer lim budget (request_at lim Flags s t start)
  unfolding answers_at plans_at repeated after_plan
  answer_there i zero p rs start less before = absurd (omega (arith, less))
  answer_there zero (suc left) p rs start less before = ap (λ (q : ℕ). plan_answer lim budget (request_at lim Flags s t q)) (got_place before)
  answer_there (suc i) (suc left) p rs start less before =
      let a = next_got (request_at lim Flags s t p) _ before in
      let b = next_got (repeated (request_at lim Flags s t) i a.1) _ a.3 in
      ap (λ (x : Got Request). get_or (after_plan left x (λ e. answers_at lim s t budget left e)) i unreached) a.2
      ∙ answer_there i left a.1 b.0 start (omega (arith, less)) (b.2 ∙ ap (λ (q : ℕ). got b.0 q) (got_place b.3))

  unreached_there : (i left p n k : ℕ) → i < left → plans_at lim s t i p ≡ fault n k → get_or (answers_at lim s t budget left p) i unreached ≡ unreached
  unfolding answers_at plans_at repeated after_plan next
  unreached_there i zero p n k less before = absurd (omega (arith, less))
  unreached_there zero (suc left) p n k less before = absurd (fault≢got (sym before))
  unreached_there (suc i) (suc left) p n k less before =
      by_plan (request_at lim Flags s t p) before (unreached_there i left)
    where
      by_rest : (q : ℕ) (y : Request) (x : Got (List Request)) → next x (λ rest r. got (y ∷ rest) r) ≡ fault n k → x ≡ fault n k
      by_rest q y (got rest r) e = absurd (fault≢got (sym e))
      by_rest q y (fault m j) e = e

      by_plan : (x : Got Request) → next x (λ y q. next (repeated (request_at lim Flags s t) i q) (λ rest r. got (y ∷ rest) r)) ≡ fault n k
          → ((q m j : ℕ) → i < left → repeated (request_at lim Flags s t) i q ≡ fault m j → get_or (answers_at lim s t budget left q) i unreached ≡ unreached)
          → get_or (after_plan left x (λ e. answers_at lim s t budget left e)) i unreached ≡ unreached
      by_plan (got y q) e more = more q n k (omega (arith, less)) (by_rest q y (repeated (request_at lim Flags s t) i q) e)
      by_plan (fault m j) e more = get_or-replicate left i unreached unreached (omega (arith, less))

-- OF THE CALL, where its own answer is 0.
module _ (lim : Limits) (s lent : List ℕ) (budget : ℕ) (zero : (release lim s lent budget).answer.number ≡ Limits.verified)
    (o : Opening) (p : ℕ) (is : opening lim s ≡ got o p) (i : ℕ) (less : i < o.plans) where
  row_there : row_of (release lim s lent budget).row i ≡ in_row (get_or (answers_at lim s o.table budget o.plans p) i unreached)
  row_there =
      ap (λ (row : List ℕ). row_of row i) (judged lim s lent budget zero o p is).row
      ∙ rows_at (answers_at lim s o.table budget o.plans p) i (omega (arith, less, answers_length lim s o.table budget o.plans p))

  -- EACH ROW IS THE WALK CALL'S ANSWER. Where the plans before it were read and end at `start`, the row is what the walk call answers of the table and
  -- that plan with the same budget, whatever state is lent to it, with its place counted in the file.
  pub each_row : (rs : List Request) (start : ℕ) → plans_at lim s o.table i p ≡ got rs start → (room : List ℕ) → length room ≡ lim.state
      → row_of (release lim s lent budget).row i ≡ in_row (moved (start - o.table_end) (judge lim (own_request lim s o start) room budget).answer)
  unfolding plans_at own_request
  each_row rs start before room sized =
      let j = judged lim s lent budget zero o p is in
      let read = opened lim s o p is in
      let line = request_at lim Flags s o.table in
      let kept =
      kept_of s s 0 (omega arith) (λ k _. refl) p (repeated line i p) (repeated line i p)
      (repeated_kept s s 0 (omega arith) (λ k _. refl) line line (request_kept s s 0 (omega arith) (λ k _. refl) lim o.table) i p) rs start before in
      row_there ∙ ap in_row (answer_there lim s o.table budget i o.plans p rs start less before
      ∙ plan_alone lim o.table o.table_end j.no_contradiction j.not_mixed s read.short read.table start (omega (arith, kept.0, read.behind)) (kept.1 read.inside) budget room sized)

  -- Where a plan before it failed in reading, it is not reached.
  pub behind_a_failure : (n k : ℕ) → plans_at lim s o.table i p ≡ fault n k → row_of (release lim s lent budget).row i ≡ in_row unreached
  behind_a_failure n k before = row_there ∙ ap in_row (unreached_there lim s o.table budget i o.plans p n k less before)

  -- So 22 is said of the plans behind a failure and of no other: the walk call does not answer it.
  pub not_reached_exactly : (rest : List ℕ) → row_of (release lim s lent budget).row i ≡ Limits.not_reached ∷ rest → (n k : ℕ) × (plans_at lim s o.table i p ≡ fault n k)
  unfolding in_row among answers refusals some_of either
  not_reached_exactly rest says = by_plans (plans_at lim s o.table i p) refl
    where
      by_plans : (x : Got (List Request)) → plans_at lim s o.table i p ≡ x → (n k : ℕ) × (x ≡ fault n k)
      by_plans (got rs start) before =
          let room = replicate lim.state Limits.unknown_mark in
          let answer = (judge lim (own_request lim s o start) room budget).answer in
          let row = each_row rs start before room (length-replicate lim.state Limits.unknown_mark) in
          let same : answer.number ≡ Limits.not_reached = sym (moved_number (start - o.table_end) answer) ∙ ap (λ (xs : List ℕ). get_or xs 0 0) (sym row ∙ says) in
          clash (every_answer_numbered lim (own_request lim s o start) room budget) (ap (λ (m : ℕ). among m answers) same)
      by_plans (fault n k) before = (n, k, refl)
