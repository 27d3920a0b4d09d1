-- More facts: a request that is verified stays verified within the same budget, with a count no larger, where further initial facts are added and the
-- request is not refused. Both are read alike but for the facts and for places, and the second first state knows no less. Assumes nothing.
use Prim.Native.Nat.{ℕ, ◌*◌, ◌≤◌, ◌<◌}
use native.Mathlib.Omega.{arith}
use mathlib.Core.Path.{◌≡◌, sym, ◌∙◌, ap, subst}
use mathlib.Core.Bool.{true, false}
use mathlib.Core.List.{List}
use lib.ListN.{length}
use lib.Dec.{eqb}
use Rattle.meaning.specs.Tests.{Has}
use Rattle.meaning.specs.Limits
use Rattle.meaning.specs.Limits.{Limits}
use Rattle.meaning.specs.Literals.{among}
use Rattle.meaning.specs.Requests.{Effect, Table, Request, values, unplaced}
use Rattle.meaning.specs.declared.Form.TheVariants.{Flags}
use Rattle.meaning.specs.Reading.{got, request_at}
use Rattle.meaning.specs.Refusals.{settled}
use Rattle.meaning.specs.States.{State, first_state}
use Rattle.meaning.specs.Walk.{Walked, walked, judged}
use Rattle.meaning.specs.Judging.{judge, number, count}
use Rattle.meaning.specs.Answers.{refusals}
use Rattle.meaning.specs.SameLines.{SameTables, SameButLines}
use Rattle.demands.specs.Reuse.{Parts, bytes_of, with_facts}
use Rattle.meaning.proofs.TestLaws.{some_has, has_some}
use Rattle.meaning.proofs.SettledLaws.{got_same, settled_is}
use Rattle.meaning.proofs.RangeLaws.{got_place}
use Rattle.meaning.proofs.ToldLaws.{first_length, first_known}
use Rattle.meaning.proofs.Exact.{fits, ranged}
use Rattle.demands.proofs.MoreKnown.{NoWorse, KnowsMore, walk_more}
use Rattle.demands.proofs.PartReads.{knowing, moved_table, bare, re_tabled, head_of, tail_of, ReadSo, read_so}
use Rattle.demands.proofs.PartsAlike.{tables_alike, unplaced_moved, values_moved, facts_unread, verified_alike, judged_follows}
use Rattle.meaning.proofs.VerifiedLaws.{verified_so, so_verified, not_refused_settled}

-- THE FIRST STATE of more facts knows no less.
among_more : (xs ys : List ℕ) → ((l : ℕ) → Has xs l → Has ys l) → (l : ℕ) → among l xs ≡ true → among l ys ≡ true
unfolding among
among_more xs ys within l e = let w = some_has (eqb l) xs e in has_some (eqb l) ys w.0 (within w.0 w.1) w.2

-- A WALK of a settled request's plan, from two states of which one knows more.
module _ (lim : Limits) (room : lim.fluents ≤ lim.state) (b : List ℕ) (r : Request) (e : ℕ) (past : settled lim b ≡ got r e) where
  pub effects_near : (x : Effect) → Has r.table.effects x → x.literal < 2 * lim.state
  effects_near x h = let t = ranged lim room b r e past in omega (arith, t.effects x h, t.fluents)

  pub walked_more : (s u : State) → KnowsMore lim.state s u → NoWorse (walked r u) (walked r s)
  unfolding walked
  walked_more = walk_more r.table lim.state effects_near r.plan (fits lim room b r e past) (judged r) (judged r) (judged_follows lim.state r r (λ l h. h) (λ f h. h))

-- TWO REQUESTS alike but for section 2 say the same but for the facts.
module _ (lim : Limits) (x : Parts) (more : List ℕ) (r q : Request) (e f : ℕ) (one : ReadSo lim x r e) (two : ReadSo lim (with_facts more x) q f) where
  alike_but_facts : SameButLines (re_tabled (knowing more r.table) r) q
  alike_but_facts =
      let on = length (head_of x) in
      let far = length (head_of (with_facts more x)) in
      let lines : got one.lines one.lines_end ≡ got two.lines two.lines_end = sym one.lines_read ∙ two.lines_read in
      let rest : one.rest ≡ two.rest =
      got_same (sym one.rest_read ∙ ap (request_at lim Flags (tail_of x) (bare x.fluents x.actions)) (got_place lines) ∙ two.rest_read) in
      let first : knowing more r.table ≡ knowing more (moved_table on one.lines) = ap (knowing more) one.table in
      let second : q.table ≡ knowing more (moved_table far one.lines) = two.table ∙ ap (λ (l : Table). knowing more (moved_table far l)) (sym (got_same lines)) in
      record {
        tables = subst (λ (t : Table). SameTables t q.table) (sym first) (subst (SameTables (knowing more (moved_table on one.lines))) (sym second) (tables_alike more one.lines on far));
        plan =
            ap (λ (y : Request). unplaced y.plan) one.is ∙ unplaced_moved on one.rest.plan ∙ ap (λ (y : Request). unplaced y.plan) rest
            ∙ sym (unplaced_moved far two.rest.plan) ∙ sym (ap (λ (y : Request). unplaced y.plan) two.is);
        goals =
            ap (λ (y : Request). values y.goals) one.is ∙ values_moved on one.rest.goals ∙ ap (λ (y : Request). values y.goals) rest
            ∙ sym (values_moved far two.rest.goals) ∙ sym (ap (λ (y : Request). values y.goals) two.is);
        whether =
            ap (λ (y : Request). values y.whether) one.is ∙ values_moved on one.rest.whether ∙ ap (λ (y : Request). values y.whether) rest
            ∙ sym (values_moved far two.rest.whether) ∙ sym (ap (λ (y : Request). values y.whether) two.is);
      }

-- MORE FACTS.
module _ (lim : Limits) (room : lim.fluents ≤ lim.state) (x : Parts) (more lent : List ℕ) (budget : ℕ) (within : (l : ℕ) → Has x.facts l → Has more l) where
  pub more_facts : number lim (bytes_of x) lent budget ≡ Limits.verified
      → among (number lim (bytes_of (with_facts more x)) lent budget) refusals ≡ false
      → (number lim (bytes_of (with_facts more x)) lent budget ≡ Limits.verified)
      × ((judge lim (bytes_of (with_facts more x)) lent budget).answer.count ≤ (judge lim (bytes_of x) lent budget).answer.count)
  more_facts verified passes =
      let v = verified_so lim (bytes_of x) lent budget verified in
      let r = v.says in
      let there = not_refused_settled lim (bytes_of (with_facts more x)) lent budget v.sized passes in
      let q = there.0 in
      let one = read_so lim x r v.end (settled_is lim (bytes_of x) r v.end v.settles).reads in
      let two = read_so lim (with_facts more x) q there.1 (settled_is lim (bytes_of (with_facts more x)) q there.1 there.2).reads in
      let s = first_state lim r.table in
      let u = first_state lim q.table in
      let first = first_known lim room r.table (ranged lim room (bytes_of x) r v.end v.settles) in
      let second = first_known lim room q.table (ranged lim room (bytes_of (with_facts more x)) q there.1 there.2) in
      let facts : r.table.facts ≡ x.facts = ap (λ (t : Table). t.facts) one.table in
      let facts_too : q.table.facts ≡ more = ap (λ (t : Table). t.facts) two.table in
      let knows : KnowsMore lim.state s u = record {
        first = first_length lim r.table;
        second = first_length lim q.table;
        more = λ l h. second l ∙ ap (among l) facts_too ∙ among_more x.facts more within l (sym (ap (among l) facts) ∙ sym (first l) ∙ h);
      } in
      let grown = walked_more lim room (bytes_of x) r v.end v.settles s u knows v.fine in
      let unread = facts_unread r more u in
      let alike = verified_alike (re_tabled (knowing more r.table) r) q (alike_but_facts lim x more r q v.end there.1 one two) u (ap (λ (w : Walked State). w.end) unread ∙ grown.0) in
      let same : (walked q u).count ≡ (walked r u).count = alike.1 ∙ ap (λ (w : Walked State). w.count) unread in
      let answer = so_verified lim (bytes_of (with_facts more x)) lent budget v.sized q there.1 there.2 alike.0 (omega (arith, same, grown.1, v.within)) in
      (answer.0, omega (arith, answer.1, same, grown.1, v.counts))
