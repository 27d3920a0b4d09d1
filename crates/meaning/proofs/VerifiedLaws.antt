-- What a verified answer says, and what makes one: the lent state has its length, the request is settled, its walk ends fine, and the walk's count is
-- within the budget and is the answer's. By the cases of the judgement. Assumes nothing.
use Prim.Native.Nat.{ℕ, ◌≤◌}
use native.Mathlib.Omega.{arith}
use mathlib.Core.Path.{◌≡◌, refl, sym, ◌∙◌, ap}
use mathlib.Core.Bool.{false}
use mathlib.Core.List.{List}
use lib.ListN.{length}
use lib.Dec.{eqb, ltb}
use borrow.Author.Tests.{eqb-true, eq-eqb, le-ltb}
use Rattle.meaning.specs.Tests.{either, pick, some_of}
use Rattle.meaning.specs.Limits
use Rattle.meaning.specs.Limits.{Limits}
use Rattle.meaning.specs.Literals.{among}
use Rattle.meaning.specs.Requests.{Request}
use Rattle.meaning.specs.Reading.{Got, got, fault}
use Rattle.meaning.specs.Refusals.{settled}
use Rattle.meaning.specs.States.{State, first_state}
use Rattle.meaning.specs.Walk.{End, fine, missed, stopped, Walked, Verified, walked}
use Rattle.meaning.specs.Judging.{Judgement, reported, ended, within, judge_got, judge_by, walk_of, judge_settled, judge, number, count}
use Rattle.meaning.specs.Answers.{refusals}
use Rattle.meaning.proofs.TestLaws.{by-test, clash, pick_true, pick_false, pick_map}
use Rattle.meaning.proofs.WithinLaws.{Never, walked_never, fine_within}
use Rattle.meaning.proofs.AnswerLaws.{NumberedIn, settled_numbered}

-- BY WHATEVER WALK a call makes of what is settled, where no stop of it has the number 0.
pub record VerifiedBy {A : Type 0} (walk : A → Walked State) (lim : Limits) (x : Got A) (lent : List ℕ) (budget : ℕ) (j : Judgement) : Type 0 where
  pub sized : length lent ≡ lim.state
  pub says : A
  pub end : ℕ
  pub settles : x ≡ got says end
  pub fine : Verified (walk says)
  pub within : (walk says).count ≤ budget
  pub counts : j.answer.count ≡ (walk says).count

module _ {A : Type 0} (walk : A → Walked State) (lim : Limits) (lent : List ℕ) (budget : ℕ) where
  -- It ends fine within the budget, and the answer has its count.
  abbrev FineWithin : Judgement → Walked State → Type 0
  FineWithin j w = Verified w × (w.count ≤ budget) × (j.answer.count ≡ w.count)

  -- Where its refusals have these numbers, and 0 is none of them.
  module _ (ns : List ℕ) (not_0 : among Limits.verified ns ≡ false) where
    got_fine : ((y : A) → Never Limits.verified (walk y).end) → (x : Got A) → NumberedIn ns x → (judge_got walk lent budget x).answer.number ≡ Limits.verified
        → (y : A) × (e : ℕ) × (x ≡ got y e) × FineWithin (judge_got walk lent budget x) (walk y)
    unfolding judge_got
    got_fine never (got y e) n q = (y, e, refl, fine_within lent budget _ _ refl (never y) q)
    got_fine never (fault k p) n q = clash n (ap (λ (i : ℕ). among i ns) q ∙ not_0)

    -- What a verified answer says.
    pub verified_past : ((y : A) → Never Limits.verified (walk y).end) → (x : Got A) → NumberedIn ns x → (judge_by walk lim x lent budget).answer.number ≡ Limits.verified
        → VerifiedBy walk lim x lent budget (judge_by walk lim x lent budget)
    unfolding pick
    verified_past never x n q =
        by-test (eqb (length lent) lim.state)
        (λ t.
        let w = got_fine never x n (rw (t, pick) at q) in
        record {
          sized = eqb-true _ _ t;
          says = w.0;
          end = w.1;
          settles = w.2;
          fine = w.3.0;
          within = w.3.1;
          counts = ap (λ (j : Judgement). j.answer.count) (pick_true _ _ _ t) ∙ w.3.2;
        })
        (λ f. absurd (let nine : ◌≡◌ {A = ℕ} 9 0 = rw (f, pick) at q in omega arith))

  pub verified_by : ((y : A) → Never Limits.verified (walk y).end) → (x : Got A) → NumberedIn refusals x → (judge_by walk lim x lent budget).answer.number ≡ Limits.verified
      → VerifiedBy walk lim x lent budget (judge_by walk lim x lent budget)
  unfolding among refusals some_of either
  verified_by = verified_past refusals refl

  -- What makes one.
  pub by_verified : length lent ≡ lim.state → (x : Got A) (y : A) (e : ℕ) → x ≡ got y e → Verified (walk y) → (walk y).count ≤ budget
      → ((judge_by walk lim x lent budget).answer.number ≡ Limits.verified) × ((judge_by walk lim x lent budget).answer.count ≡ (walk y).count)
  unfolding judge_got within ended
  by_verified sized x y e settles is_fine enough =
      let w = walk y in
      let is : judge_by walk lim x lent budget ≡ ended lent w.count fine =
      pick_true _ _ _ (eq-eqb _ _ sized) ∙ ap (judge_got walk lent budget) settles ∙ pick_false _ _ _ (le-ltb budget w.count enough) ∙ ap (ended lent w.count) is_fine in
      (ap (λ (j : Judgement). j.answer.number) is, ap (λ (j : Judgement). j.answer.count) is)

-- THE WALK CALL.
module _ (lim : Limits) (lent : List ℕ) (budget : ℕ) where
  -- What is not refused is settled.
  settled_there : (x : Got Request) → NumberedIn refusals x → among (judge_settled lim lent budget x).answer.number refusals ≡ false → (r : Request) × (e : ℕ) × (x ≡ got r e)
  unfolding judge_got
  settled_there (got r e) n q = (r, e, refl)
  settled_there (fault k p) n q = clash n q

module _ (lim : Limits) (request lent : List ℕ) (budget : ℕ) where
  abbrev pub VerifiedSo : Type 0
  VerifiedSo = VerifiedBy (walk_of lim) lim (settled lim request) lent budget (judge lim request lent budget)

  pub verified_so : (judge lim request lent budget).answer.number ≡ Limits.verified → VerifiedSo
  unfolding judge
  verified_so = verified_by (walk_of lim) lim lent budget (λ r. walked_never Limits.verified (λ z. omega arith) r _) (settled lim request) (settled_numbered lim request)

  module _ (sized : length lent ≡ lim.state) where
    pub so_verified : (r : Request) (e : ℕ) → settled lim request ≡ got r e → Verified (walked r (first_state lim r.table)) → count lim r ≤ budget
        → (number lim request lent budget ≡ Limits.verified) × ((judge lim request lent budget).answer.count ≡ count lim r)
    unfolding judge
    so_verified = by_verified (walk_of lim) lim lent budget sized (settled lim request)

    -- What is not refused by 10 to 21 is settled.
    pub not_refused_settled : among (number lim request lent budget) refusals ≡ false → (r : Request) × (e : ℕ) × (settled lim request ≡ got r e)
    unfolding judge
    not_refused_settled q =
        settled_there lim lent budget (settled lim request) (settled_numbered lim request)
        (sym (ap (λ (j : Judgement). among j.answer.number refusals) (pick_true _ _ _ (eq-eqb _ _ sized))) ∙ q)

-- THE LENT BYTES. The answer does not depend on them, but for their length.
ended_unread : (lent other : List ℕ) (c : ℕ) (e : End State) → (ended lent c e).answer ≡ (ended other c e).answer
unfolding ended reported
ended_unread lent other c fine = refl
ended_unread lent other c (missed p s) = refl
ended_unread lent other c (stopped n p u) = refl

pub within_unread : (lent other : List ℕ) (budget : ℕ) (w : Walked State) → (within lent budget w).answer ≡ (within other budget w).answer
unfolding within
within_unread lent other budget w =
    pick_map (λ (j : Judgement). j.answer) (ltb budget w.count) _ _
    ∙ rw (ended_unread lent other w.count w.end) (sym (pick_map (λ (j : Judgement). j.answer) (ltb budget w.count) _ _))

settled_unread : (lim : Limits) (lent other : List ℕ) (budget : ℕ) (x : Got Request) → (judge_settled lim lent budget x).answer ≡ (judge_settled lim other budget x).answer
unfolding judge_got
settled_unread lim lent other budget (got r e) = within_unread lent other budget (walked r (first_state lim r.table))
settled_unread lim lent other budget (fault n p) = refl

pub lent_unread : (lim : Limits) (request lent other : List ℕ) (budget : ℕ) → length lent ≡ length other → (judge lim request lent budget).answer ≡ (judge lim request other budget).answer
unfolding judge
lent_unread lim request lent other budget same =
    pick_map (λ (j : Judgement). j.answer) (eqb (length lent) lim.state) _ _
    ∙ rw (same, settled_unread lim lent other budget (settled lim request)) (sym (pick_map (λ (j : Judgement). j.answer) (eqb (length other) lim.state) _ _))
