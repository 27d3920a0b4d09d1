-- A start: the guide has its own copy of the request, and it is what the walk's answer says. A walk's number is at most 3 and a refusal's at least 10, so the number tells
-- which of the two it was. Assumes nothing.
use Prim.Native.Nat.{ℕ, ◌≤◌, ◌<◌}
use native.Mathlib.Omega.{arith}
use mathlib.Core.Path.{◌≡◌, refl, sym, ◌∙◌, ap, subst}
use Rattle.std.specs.Prelude.{Option}
use mathlib.Core.List.{List, []}
use lib.ListN.{length, take}
use lib.Dec.{ltb, leb}
use borrow.Author.Tests.{eq-eqb, ne_eqb, leb-true}
use Rattle.meaning.specs.declared.Answer.{Answer}
use Rattle.meaning.specs.Limits.{format}
use Rattle.meaning.specs.Tests.{pick, both, each_of}
use Rattle.meaning.specs.Requests.{Request}
use Rattle.meaning.specs.Reading.{Got, got, fault}
use Rattle.meaning.specs.Refusals.{settled}
use Rattle.meaning.specs.States.{State, first_state}
use Rattle.meaning.specs.Walk.{End, fine, missed, stopped, Walked}
use Rattle.meaning.specs.Judging.{Judgement, reported, ended, within, judge_got, walk_of, judge}
use Rattle.meaning.specs.Answers.{refusals}
use Rattle.meaning.proofs.TestLaws.{pick_true, pick_false, pick_map}
use Rattle.meaning.proofs.PickLaws.{pick_has}
use Rattle.meaning.proofs.LiteralLaws.{among_each}
use Rattle.meaning.proofs.KeptEnds.{Stuck, walked_stuck}
use Rattle.meaning.proofs.WithinLaws.{answered, within_number}
use Rattle.meaning.proofs.PlaceLaws.{RequestHeld, settled_held}
use Rattle.meaning.proofs.AnswerLaws.{NumberedIn, settled_numbered}
use Rattle.guidance.specs.Guides.{Guide, going, of_request, refused_start, start_walked, start_got, start}
use Rattle.guide.specs.declared.guides.Started as Held-started
use Rattle.guide.specs.declared.guides.Stage.TheVariants.{Going}
use Rattle.guide.specs.GuideHeld.{guide_held, request_of, guide_at, guide_of, started_of, Begins, OwnCopy}

-- WHAT BEGINS with a copy of the request.
pub begun_request : (request row : List ℕ) (n : ℕ) (a : Option ℕ) (at : ℕ) (marks : State) → take n row ≡ request
    → request_of (record { request = row; length = n; stage = Going a at marks }) ≡ request
unfolding request_of
begun_request request row n a at marks is = is

pub begun_held : (request row : List ℕ) (n : ℕ) (a : Option ℕ) (at : ℕ) (marks : State) → take n row ≡ request → Begins request (guide_held request a at marks)
    → Begins request (guide_of (record { request = row; length = n; stage = Going a at marks }))
unfolding guide_of guide_at request_of
begun_held request row n a at marks is begins = subst (λ (l : List ℕ). Begins request (guide_held l a at marks)) (sym is) begins

-- THE WALK'S ANSWER does not depend on the lent bytes, and its number is at most 3.
same_ended : (lent other : List ℕ) (c : ℕ) (e : End State) → (ended lent c e).answer ≡ (ended other c e).answer
unfolding ended reported
same_ended lent other c fine = refl
same_ended lent other c (missed p s) = refl
same_ended lent other c (stopped n p u) = refl

same_answer : (lent other : List ℕ) (budget : ℕ) (w : Walked State) → (within lent budget w).answer ≡ (within other budget w).answer
unfolding within
same_answer lent other budget w =
    pick_map (λ (j : Judgement). j.answer) (ltb budget w.count) _ _
    ∙ ap (λ (x : Answer). pick (ltb budget w.count) (λ _. record { number = 3; input = 0; place = 0; count = budget }) (λ _. x)) (same_ended lent other w.count w.end)
    ∙ sym (pick_map (λ (j : Judgement). j.answer) (ltb budget w.count) _ _)

answered_most : (e : End State) → Stuck e → answered e ≤ 3
answered_most fine so = omega arith
answered_most (missed p s) so = omega arith
answered_most (stopped n p u) so = let two = so.0 in omega (arith, two)

walk_most : (lent : List ℕ) (budget : ℕ) (r : Request) → (within lent budget (walk_of format r)).answer.number ≤ 3
walk_most lent budget r =
    subst (λ (n : ℕ). n ≤ 3) (sym (within_number lent budget (walk_of format r)))
    (pick_has (λ (n : ℕ). n ≤ 3) _ _ _ (λ _. omega arith) (λ _. answered_most (walk_of format r).end (walked_stuck r (first_state format r.table))))

-- A REFUSAL'S number is at least 10.
fault_least : (s : List ℕ) (n p : ℕ) → settled format s ≡ fault n p → 10 ≤ n
unfolding refusals each_of both
fault_least s n p is = leb-true 10 n (among_each (λ (m : ℕ). leb 10 m) refusals refl n (subst (NumberedIn refusals) is (settled_numbered format s)))

by-got {ℓ} : {A : Type 0} {C : Type ℓ} (g : Got A) → ((x : A) (e : ℕ) → g ≡ got x e → C) → ((n p : ℕ) → g ≡ fault n p → C) → C
by-got (got x e) f h = f x e refl
by-got (fault n p) f h = h n p refl

-- THE START, by what the walk call answered.
module _ (s lent left : List ℕ) (budget : ℕ) (x : Answer) (judged : record { answer = x; state = left } ≡ judge format s lent budget) (sized : length lent ≡ format.state) where
  said : x ≡ (judge_got (walk_of format) lent budget (settled format s)).answer
  unfolding judge
  said = ap (λ (j : Judgement). j.answer) (judged ∙ pick_true _ _ _ (eq-eqb (length lent) format.state sized))

  said_got : (r : Request) (e : ℕ) → settled format s ≡ got r e → x ≡ (within [] budget (walk_of format r)).answer
  unfolding judge_got
  said_got r e is = said ∙ ap (λ (g : Got Request). (judge_got (walk_of format) lent budget g).answer) is ∙ same_answer lent [] budget (walk_of format r)

  said_fault : (n p : ℕ) → settled format s ≡ fault n p → x ≡ of_request n p
  unfolding judge_got
  said_fault n p is = said ∙ ap (λ (g : Got Request). (judge_got (walk_of format) lent budget g).answer) is

  got_when : x.number ≤ 3 → (r : Request) × (e : ℕ) × (settled format s ≡ got r e)
  got_when few =
      by-got (settled format s) (λ r e is. (r, e, is))
      (λ n p is. let large = fault_least s n p is in let same = ap (λ (y : Answer). y.number) (said_fault n p is) in absurd (omega (arith, few, large, same)))

  fault_when : 3 < x.number → (n : ℕ) × (p : ℕ) × (settled format s ≡ fault n p)
  fault_when many =
      by-got (settled format s)
      (λ r e is. let few = walk_most [] budget r in let same = ap (λ (y : Answer). y.number) (said_got r e is) in absurd (omega (arith, many, few, same)))
      (λ n p is. (n, p, is))

  -- 0
  module _ (none : x.number ≡ 0) where
    pub verified_short : length s ≤ format.request
    verified_short = let g = got_when (omega (arith, none)) in (subst (RequestHeld format s) g.2 (settled_held format s)).1.1

    pub start_verified : (r : Held-started.Started) → r.answer ≡ x → Begins s (guide_of r.guide) → started_of r ≡ start format s budget
    unfolding started_of start start_got start_walked
    start_verified r answers begins =
        let g = got_when (omega (arith, none)) in
        let so = said_got g.0 g.1 g.2 in
        ap (λ (h : Guide). record { guide = h; answer = r.answer }) (begins.held g.0 g.1 g.2)
        ∙ ap (λ (y : Answer). record { guide = going g.0.table [] g.0.plan (first_state format g.0.table); answer = y }) (answers ∙ so)
        ∙ sym (ap (start_got format budget) g.2 ∙ pick_true _ _ _ (eq-eqb _ _ (ap (λ (y : Answer). y.number) (sym so) ∙ none)))

  -- 1 to 3
  pub start_unverified : (x.number ≡ 0 → ⊥) → x.number ≤ 3 → (y : Answer) → y ≡ record { number = 40; input = 0; place = 0; count = 0 } → (r : Held-started.Started) → started_of r ≡ refused_start y → started_of r ≡ start format s budget
  unfolding start start_got start_walked
  start_unverified other few y is r starts =
      let g = got_when few in
      let so = said_got g.0 g.1 g.2 in
      starts ∙ ap refused_start is
      ∙ sym (ap (start_got format budget) g.2 ∙ pick_false _ _ _ (ne_eqb _ _ (λ same. other (ap (λ (z : Answer). z.number) so ∙ same))))

  -- 10 to 21
  pub start_refused : 3 < x.number → (r : Held-started.Started) → started_of r ≡ refused_start x → started_of r ≡ start format s budget
  unfolding start start_got
  start_refused many r starts =
      let g = fault_when many in
      starts ∙ ap refused_start (said_fault g.0 g.1 g.2) ∙ sym (ap (start_got format budget) g.2)

-- ITS OWN COPY, where the answer is 0.
module _ (s : List ℕ) (r : Held-started.Started) where
  pub own_copy : request_of r.guide ≡ s → OwnCopy s r
  own_copy is = record { copied = λ _. is }

  module _ (x : Answer) (is : r.answer ≡ x) where
    not_own : (x.number ≡ 0 → ⊥) → OwnCopy s r
    not_own other = record { copied = λ none. absurd (other (ap (λ (y : Answer). y.number) (sym is) ∙ none)) }

    pub own_unverified : x ≡ record { number = 40; input = 0; place = 0; count = 0 } → OwnCopy s r
    own_unverified same = not_own (λ none. let forty = ap (λ (y : Answer). y.number) same in omega (arith, forty, none))

    pub own_refused : 3 < x.number → OwnCopy s r
    own_refused many = not_own (λ none. omega (arith, many, none))
