-- What a guide's start and its calls answer: number, input, place and count of a start, which are the walk call's or 40; 41 and 42 exactly where FORMAT says, and that they change
-- nothing; what is answered once a guide has ended or was refused. By the cases of the definitions. Assumes nothing.
use Prim.Native.Nat.{ℕ, ◌≤◌}
use native.Mathlib.Omega.{arith}
use mathlib.Core.Path.{◌≡◌, refl, sym, ◌∙◌, ap, ap₂, subst}
use mathlib.Core.Bool.{Bool, true, false}
use mathlib.Core.List.{List, [], ◌∷◌, map}
use mathlib.Core.Logic.{◌↔◌}
use lib.ListN.{length, get_or, drop, length-map}
use lib.Dec.{eqb}
use borrow.Author.Tests.{eqb-true, eqb-false, eq-eqb, ne_eqb, le-ltb}
use Rattle.meaning.specs.declared.Answer.{Answer}
use Rattle.meaning.specs.Tests.{both, either, fails, pick, some_of, each_of}
use Rattle.meaning.specs.Limits
use Rattle.meaning.specs.Limits.{Limits}
use Rattle.meaning.specs.Literals.{says_true, says_false, among}
use Rattle.meaning.specs.Requests.{Table, Sequence, Request}
use Rattle.meaning.specs.Reading.{Got, got, fault}
use Rattle.meaning.specs.Refusals.{settled}
use Rattle.meaning.specs.States.{State, told_all, first_state}
use Rattle.meaning.specs.Walk.{fine, Verified}
use Rattle.meaning.specs.Judging
use Rattle.meaning.specs.Judging.{Judgement, within, judge_got, judge_settled, walk_of, judge}
use Rattle.meaning.specs.Answers.{refusals}
use Rattle.meaning.specs.AnswerParts.{at_start, of_neither}
use Rattle.guidance.specs.declared.Told.{Told}
use Rattle.guidance.specs.declared.Told.TheVariants.{Do, Done, Refused}
use Rattle.guidance.specs.Guides.{not_verified, wrong_number, against_known, of_guide, of_request, Guide, refusing, going, ended, Started, Turn, refused_start, start_walked, start_got, start, Ahead, the_end, an_action, no_branch, ahead, literal_read, literals_read, against, stays, met, take_over, next, after_calls, told_by}
use Rattle.demands.specs.GuideSaid.{start_answers, of_starts, StartInput, StartPlaced, StartCount, of_judged, said}
use Rattle.meaning.proofs.TestLaws.{by-test, clash, either_left, either_right, fails_true, pick_true, pick_false, pick-cases}
use Rattle.meaning.proofs.PickLaws.{pick_has}
use Rattle.meaning.proofs.LiteralLaws.{among_each}
use Rattle.meaning.proofs.PlaceLaws.{placed_start, FaultIn, RequestHeld, settled_held}
use Rattle.meaning.proofs.WithinLaws.{within_number, Never, walked_never, answered_stopped, fine_within}
use Rattle.meaning.proofs.VerifiedLaws.{within_unread}

-- WHAT A START GIVES of a settled request that is verified within the budget: it stands at the plan's first item, in the first state.
abbrev begins : Limits → Request → Started
begins lim r = record {
  guide = going r.table [] r.plan (first_state lim r.table);
  answer = record { number = Limits.verified; input = Limits.neither_input; place = 0; count = (walk_of lim r).count };
}

abbrev FineWithin : Limits → (budget : ℕ) → Request → Type 0
FineWithin lim budget r = Verified (walk_of lim r) × ((walk_of lim r).count ≤ budget)

module _ (lim : Limits) (request : List ℕ) (budget : ℕ) where
  fine_answer : (r : Request) → FineWithin lim budget r → (within [] budget (walk_of lim r)).answer ≡ (begins lim r).answer
  unfolding within Judging.ended
  fine_answer r is_fine =
      ap (λ (j : Judgement). j.answer) (pick_false _ _ _ (le-ltb budget (walk_of lim r).count is_fine.1) ∙ ap (Judging.ended [] (walk_of lim r).count) is_fine.0)

  walk_fine : (r : Request) → (within [] budget (walk_of lim r)).answer.number ≡ Limits.verified → FineWithin lim budget r
  walk_fine r q = let w = fine_within [] budget (walk_of lim r) _ refl (walked_never Limits.verified (λ z. omega arith) r _) q in (w.0, w.1)

  module _ (r : Request) (e : ℕ) (past : settled lim request ≡ got r e) where
    -- Verified within the budget, and otherwise.
    start_begins : FineWithin lim budget r → start lim request budget ≡ begins lim r
    unfolding start start_got start_walked
    start_begins is_fine =
        ap (start_got lim budget) past ∙ ap (start_walked lim r) (fine_answer r is_fine)
        ∙ pick_true _ _ _ (eq-eqb Limits.verified Limits.verified refl)

    start_otherwise : (FineWithin lim budget r → ⊥) → start lim request budget ≡ refused_start (of_guide not_verified)
    unfolding start start_got start_walked
    start_otherwise not-fine =
        ap (start_got lim budget) past
        ∙ pick_false _ _ _ (ne_eqb _ _ (λ q. not-fine (walk_fine r q)))

  start_refused : (n p : ℕ) → settled lim request ≡ fault n p → start lim request budget ≡ refused_start (of_request n p)
  unfolding start start_got
  start_refused n p past = ap (start_got lim budget) past

  -- What is so of each of these is so of the start.
  by_starting : (P : Started → Type 0)
      → ((r : Request) (e : ℕ) → settled lim request ≡ got r e → FineWithin lim budget r → P (begins lim r))
      → ((r : Request) (e : ℕ) → settled lim request ≡ got r e → (FineWithin lim budget r → ⊥) → P (refused_start (of_guide not_verified)))
      → ((n p : ℕ) → settled lim request ≡ fault n p → FaultIn refusals lim.request (length request) n p → P (refused_start (of_request n p)))
      → P (start lim request budget)
  by_starting P begin not-fine bad = by_read (settled lim request) refl (settled_held lim request)
    where
      by_read : (x : Got Request) → settled lim request ≡ x → RequestHeld lim request x → P (start lim request budget)
      by_read (got r e) past held =
          by-test (eqb (within [] budget (walk_of lim r)).answer.number Limits.verified)
          (λ t. let w = walk_fine r (eqb-true _ _ t) in subst P (sym (start_begins r e past w)) (begin r e past w))
          (λ f.
          let otherwise : FineWithin lim budget r → ⊥ = λ w. eqb-false _ _ f (ap (λ (a : Answer). a.number) (fine_answer r w)) in
          subst P (sym (start_otherwise r e past otherwise)) (not-fine r e past otherwise))
      by_read (fault n p) past held = subst P (sym (start_refused n p past)) (bad n p past held)

-- A refusal is no other number.
refusal_other : (k : ℕ) → among k refusals ≡ false → (n : ℕ) → among n refusals ≡ true → n ≡ k → ⊥
refusal_other k off n is same = clash is (ap (λ (m : ℕ). among m refusals) same ∙ off)

refusal_not_0 : (n : ℕ) → among n refusals ≡ true → n ≡ Limits.verified → ⊥
unfolding among refusals some_of either
refusal_not_0 = refusal_other Limits.verified refl

refusal_not_40 : (n : ℕ) → among n refusals ≡ true → n ≡ not_verified → ⊥
unfolding among refusals some_of either
refusal_not_40 = refusal_other not_verified refl

not_of_starts : (n : ℕ) → among n refusals ≡ true → among n of_starts ≡ false
unfolding among refusals of_starts some_of either each_of both fails
not_of_starts n is = fails_true _ (among_each (λ (m : ℕ). fails (among m of_starts)) refusals refl n is)

among_more : (n : ℕ) → among n refusals ≡ true → among n start_answers ≡ true
unfolding among start_answers some_of
among_more n is = either_right _ _ (either_right _ _ is)

-- What is kept of the walk call's answer.
kept_0 : (x : Answer) → x.number ≡ Limits.verified → of_judged x ≡ x
unfolding of_judged
kept_0 x q = pick_true _ _ _ (either_left _ _ (eq-eqb _ _ q))

kept_refusal : (x : Answer) → among x.number refusals ≡ true → of_judged x ≡ x
unfolding of_judged
kept_refusal x is = pick_true _ _ _ (either_right _ _ is)

otherwise_40 : (x : Answer) → (x.number ≡ Limits.verified → ⊥) → ((n : ℕ) → among n refusals ≡ true → x.number ≡ n → ⊥) → of_judged x ≡ of_guide not_verified
unfolding of_judged either
otherwise_40 x not_0 not_refused =
    let other : among x.number refusals ≡ false = by-test (among x.number refusals) (λ t. absurd (not_refused x.number t refl)) (λ f. f) in
    pick_false _ _ _ (rw (ne_eqb x.number Limits.verified not_0, other))

-- A START WITH 0.
pub record Begun (lim : Limits) (request : List ℕ) (x : Started) : Type 0 where
  pub says : Request
  pub end : ℕ
  pub settles : settled lim request ≡ got says end
  pub fine : Verified (walk_of lim says)
  pub guide_is : x.guide ≡ going says.table [] says.plan (first_state lim says.table)

module _ (lim : Limits) (request : List ℕ) (budget : ℕ) where
  pub begun : (start lim request budget).answer.number ≡ Limits.verified → Begun lim request (start lim request budget)
  unfolding refused_start
  begun =
      by_starting lim request budget (λ x. x.answer.number ≡ Limits.verified → Begun lim request x)
      (λ r e past w _. record { says = r; end = e; settles = past; fine = w.0; guide_is = refl })
      (λ r e past _ q. absurd (omega (arith, q)))
      (λ n p past held q. absurd (refusal_not_0 n held.number q))

  -- DEMAND 1 (FORMAT 25.22). The number is one of 0, 10 to 21 and 40.
  pub start_numbered : among (start lim request budget).answer.number start_answers ≡ true
  unfolding refused_start among start_answers some_of either
  start_numbered = by_starting lim request budget (λ x. among x.answer.number start_answers ≡ true) (λ _ _ _ _. refl) (λ _ _ _ _. refl) (λ n _ _ held. among_more n held.number)

  pub start_input : StartInput (start lim request budget).answer
  unfolding refused_start among of_starts some_of either
  start_input =
      by_starting lim request budget (λ x. StartInput x.answer)
      (λ _ _ _ _. record { neither = (λ _. refl, λ _. refl); request = λ f. clash refl f })
      (λ _ _ _ _. record { neither = (λ _. refl, λ _. refl); request = λ f. clash refl f })
      (λ n _ _ held. record { neither = (λ q. absurd (omega (arith, q)), λ t. clash t (not_of_starts n held.number)); request = λ _. refl })

  pub start_place : StartPlaced (length request) (start lim request budget).answer.number (start lim request budget).answer.place
  unfolding refused_start among at_start of_neither some_of either
  start_place =
      by_starting lim request budget (λ x. StartPlaced (length request) x.answer.number x.answer.place)
      (λ _ _ _ _. record { unverified = λ _. refl; other = λ _. placed_start (length request) Limits.verified refl })
      (λ _ _ _ _. record { unverified = λ _. refl; other = λ other. absurd (other refl) })
      (λ n _ _ held. record { unverified = λ is. absurd (refusal_not_40 n held.number is); other = λ _. held.placed })

  pub start_count : StartCount lim request budget (start lim request budget).answer
  unfolding refused_start
  start_count =
      by_starting lim request budget (λ x. StartCount lim request budget x.answer)
      (λ r e past w. record { walk = λ _. (r, e, past, refl, w.1); other = λ other. absurd (other refl) })
      (λ _ _ _ _. record { walk = λ q. absurd (omega (arith, q)); other = λ _. refl })
      (λ n _ _ held. record { walk = λ is. absurd (refusal_not_0 n held.number is); other = λ _. refl })

  -- The answer is the walk call's with 0 and with its refusals, and 40 with every other (FORMAT 25.3 to 25.5).
  module _ (lent : List ℕ) (sized : length lent ≡ lim.state) where
    judged_as : (x : Got Request) → settled lim request ≡ x → (judge lim request lent budget).answer ≡ (judge_settled lim lent budget x).answer
    unfolding judge
    judged_as x past = ap (λ (j : Judgement). j.answer) (pick_true _ _ _ (eq-eqb _ _ sized) ∙ ap (judge_settled lim lent budget) past)

    judged_got : (r : Request) (e : ℕ) → settled lim request ≡ got r e → (judge lim request lent budget).answer ≡ (within [] budget (walk_of lim r)).answer
    unfolding judge_got
    judged_got r e past = judged_as (got r e) past ∙ within_unread lent [] budget (walk_of lim r)

    judged_fault : (n p : ℕ) → settled lim request ≡ fault n p → (judge lim request lent budget).answer ≡ of_request n p
    unfolding judge_got
    judged_fault n p past = judged_as (fault n p) past

    -- A walk has no number of a refusal.
    walk_not_refusal : (r : Request) (n : ℕ) → among n refusals ≡ true → (within [] budget (walk_of lim r)).answer.number ≡ n → ⊥
    unfolding among refusals some_of either
    walk_not_refusal r n is q =
        pick-cases _ _ _ (sym (within_number [] budget (walk_of lim r)) ∙ q)
        (λ _ spent. refusal_other Limits.budget_spent refl n is (sym spent))
        (λ _ ends.
        let stop = answered_stopped n (refusal_not_0 n is) (refusal_other Limits.goal_missed refl n is) (walk_of lim r).end ends in
        subst (Never n) stop.2 (walked_never n (refusal_other Limits.not_executable refl n is) r (first_state lim r.table)) refl)

    pub start_as_judged : (start lim request budget).answer ≡ of_judged (judge lim request lent budget).answer
    unfolding refused_start
    start_as_judged =
        by_starting lim request budget (λ x. x.answer ≡ of_judged (judge lim request lent budget).answer)
        (λ r e past w. sym (ap of_judged (judged_got r e past ∙ fine_answer lim request budget r w) ∙ kept_0 (begins lim r).answer refl))
        (λ r e past not-fine.
        sym (ap of_judged (judged_got r e past)
        ∙ otherwise_40 (within [] budget (walk_of lim r)).answer (λ q. not-fine (walk_fine lim request budget r q)) (λ n is q. walk_not_refusal r n is q)))
        (λ n p past held. sym (ap of_judged (judged_fault n p past) ∙ kept_refusal (of_request n p) held.number))

    -- 0 exactly where the walk call answers 0.
    pub start_verified : ((start lim request budget).answer.number ≡ Limits.verified) ↔ ((judge lim request lent budget).answer.number ≡ Limits.verified)
    unfolding refused_start
    start_verified =
        by_starting lim request budget (λ x. (x.answer.number ≡ Limits.verified) ↔ ((judge lim request lent budget).answer.number ≡ Limits.verified))
        (λ r e past w. (λ _. ap (λ (a : Answer). a.number) (judged_got r e past ∙ fine_answer lim request budget r w), λ _. refl))
        (λ r e past not-fine. (λ q. absurd (omega (arith, q)), λ q. absurd (not-fine (walk_fine lim request budget r (sym (ap (λ (a : Answer). a.number) (judged_got r e past)) ∙ q)))))
        (λ n p past held. let same = ap (λ (a : Answer). a.number) (judged_fault n p past) in (λ q. same ∙ q, λ q. sym same ∙ q))

-- CALLS. What is refused, and with which answer.
refuses : Told → Bool
refuses told = elim told [ Do a ↦ false | Done ↦ false | Refused x ↦ true ]

answer_of : Told → Answer
answer_of told = elim told [ Do a ↦ of_guide 0 | Done ↦ of_guide 0 | Refused x ↦ x ]

ends : Told → Bool
ends told = elim told [ Do a ↦ false | Done ↦ true | Refused x ↦ false ]

not_done : (a : ℕ) → Do a ≡ Done → ⊥
unfolding ends
not_done a q = clash (ap ends q) refl

not_refused_done : (x : Answer) → Refused x ≡ Done → ⊥
unfolding ends
not_refused_done x q = clash (ap ends q) refl

pub do_not_refused : (a : ℕ) (x : Answer) → Do a ≡ Refused x → ⊥
unfolding refuses
do_not_refused a x q = clash (ap refuses q) refl

pub done_not_refused : (x : Answer) → Done ≡ Refused x → ⊥
unfolding refuses
done_not_refused x q = clash (ap refuses q) refl

pub same_answer : (x y : Answer) → Refused x ≡ Refused y → x ≡ y
unfolding answer_of
same_answer x y q = ap answer_of q

same_number : (m n : ℕ) → Refused (of_guide m) ≡ Refused (of_guide n) → m ≡ n
same_number m n q = ap (λ (x : Answer). x.number) (same_answer (of_guide m) (of_guide n) q)

module _ (lim : Limits) where
  -- What comes next is answered so.
  by_meeting : (P : Turn → Type 0) (t : Table) (g : Guide) (s : State) (x : Ahead)
      → P (record { guide = ended s; told = Done })
      → ((a : ℕ) (h : Guide) → P (record { guide = h; told = Do a }))
      → P (stays g not_verified) → P (met lim t g s x)
  unfolding met
  by_meeting P t g s the_end at-end acts other = at-end
  by_meeting P t g s (an_action a rest) at-end acts other = pick_has P _ _ _ (λ _. acts a _) (λ _. other)
  by_meeting P t g s no_branch at-end acts other = other

  -- And a call of a guide on its way.
  by_call : (P : Turn → Type 0) (t : Table) (fs : List ℕ) (b : Sequence ℕ) (s : State) (bytes : List ℕ)
      → ((length bytes ≡ length fs → ⊥) → P (stays (going t fs b s) wrong_number))
      → (length bytes ≡ length fs → against s (literals_read fs bytes) ≡ true → P (stays (going t fs b s) against_known))
      → (length bytes ≡ length fs → against s (literals_read fs bytes) ≡ false → (u : State) → P (record { guide = ended u; told = Done }))
      → (length bytes ≡ length fs → against s (literals_read fs bytes) ≡ false → (a : ℕ) (h : Guide) → P (record { guide = h; told = Do a }))
      → (length bytes ≡ length fs → against s (literals_read fs bytes) ≡ false → P (stays (going t fs b s) not_verified))
      → P (next lim (going t fs b s) bytes)
  unfolding next take_over
  by_call P t fs b s bytes wrong known at-end acts other =
      pick_has P _ _ _
      (λ q. let same = eqb-true _ _ q in
      pick_has P _ _ _ (known same) (λ free.
      by_meeting P t (going t fs b s) (told_all (literals_read fs bytes) s) (ahead (told_all (literals_read fs bytes) s) b) (at-end same free _) (acts same free) (other same free)))
      (λ q. wrong (eqb-false _ _ q))

  -- 41 AND 42 CHANGE NOTHING (FORMAT 25.23), and no refusal does.
  abbrev Unchanged : Guide → Turn → Type 0
  Unchanged g turn = (x : Answer) → turn.told ≡ Refused x → turn.guide ≡ g

  pub refused_unchanged : (g : Guide) (bytes : List ℕ) (x : Answer) → (next lim g bytes).told ≡ Refused x → (next lim g bytes).guide ≡ g
  unfolding next stays
  refused_unchanged (refusing y) bytes x q = refl
  refused_unchanged (going t fs b s) bytes x q =
      by_call (Unchanged (going t fs b s)) t fs b s bytes (λ _ _ _. refl) (λ _ _ _ _. refl)
      (λ _ _ _ y p. absurd (done_not_refused y p)) (λ _ _ a _ y p. absurd (do_not_refused a y p)) (λ _ _ _ _. refl) x q
  refused_unchanged (ended s) bytes x q = absurd (done_not_refused x q)

  module _ (t : Table) (fs : List ℕ) (b : Sequence ℕ) (s : State) (bytes : List ℕ) where
    -- 41 exactly where the number of readings is another than is asked for (FORMAT 25.13).
    pub wrong_number_exactly : ((next lim (going t fs b s) bytes).told ≡ Refused (of_guide wrong_number)) ↔ (length bytes ≡ length fs → ⊥)
    unfolding stays
    wrong_number_exactly =
        by_call (λ x. (x.told ≡ Refused (of_guide wrong_number)) ↔ (length bytes ≡ length fs → ⊥)) t fs b s bytes
        (λ other. (λ _. other, λ _. refl))
        (λ same _. (λ q. absurd (omega (arith, same_number against_known wrong_number q)), λ other. absurd (other same)))
        (λ same _ _. (λ q. absurd (done_not_refused _ q), λ other. absurd (other same)))
        (λ same _ a _. (λ q. absurd (do_not_refused a _ q), λ other. absurd (other same)))
        (λ same _. (λ q. absurd (omega (arith, same_number not_verified wrong_number q)), λ other. absurd (other same)))

    -- 42 exactly where it is that, and some reading is against what is known (FORMAT 25.14).
    pub against_exactly : ((next lim (going t fs b s) bytes).told ≡ Refused (of_guide against_known)) ↔ ((length bytes ≡ length fs) × (against s (literals_read fs bytes) ≡ true))
    unfolding stays
    against_exactly =
        by_call (λ x. (x.told ≡ Refused (of_guide against_known)) ↔ ((length bytes ≡ length fs) × (against s (literals_read fs bytes) ≡ true))) t fs b s bytes
        (λ other. (λ q. absurd (omega (arith, same_number wrong_number against_known q)), λ w. absurd (other w.0)))
        (λ same is. (λ _. (same, is), λ _. refl))
        (λ _ free _. (λ q. absurd (done_not_refused _ q), λ w. clash w.1 free))
        (λ _ free a _. (λ q. absurd (do_not_refused a _ q), λ w. clash w.1 free))
        (λ _ free. (λ q. absurd (omega (arith, same_number not_verified against_known q)), λ w. clash w.1 free))

  -- ONCE IT IS DONE every call answers so, with the same guide (FORMAT 25.8).
  ended_if_done : (g : Guide) (bytes : List ℕ) → (next lim g bytes).told ≡ Done → (s : State) × ((next lim g bytes).guide ≡ ended s)
  unfolding next stays
  ended_if_done (refusing x) bytes q = absurd (not_refused_done x q)
  ended_if_done (going t fs b s) bytes q =
      by_call (λ x. x.told ≡ Done → (u : State) × (x.guide ≡ ended u)) t fs b s bytes
      (λ _ p. absurd (not_refused_done _ p)) (λ _ _ p. absurd (not_refused_done _ p))
      (λ _ _ u _. (u, refl)) (λ _ _ a _ p. absurd (not_done a p)) (λ _ _ p. absurd (not_refused_done _ p)) q
  ended_if_done (ended s) bytes q = (s, refl)

  still_ended : (s : State) (calls : List (List ℕ)) → after_calls lim (ended s) calls ≡ ended s
  unfolding after_calls next
  still_ended s [] = refl
  still_ended s (c ∷ cs) = still_ended s cs

  pub done_ever : (g : Guide) (bytes : List ℕ) → (next lim g bytes).told ≡ Done → (calls : List (List ℕ)) (more : List ℕ)
      → next lim (after_calls lim (next lim g bytes).guide calls) more ≡ record { guide = (next lim g bytes).guide; told = Done }
  unfolding next
  done_ever g bytes q calls more =
      let w = ended_if_done g bytes q in
      ap (λ (h : Guide). next lim h more) (ap (λ (h : Guide). after_calls lim h calls) w.1 ∙ still_ended w.0 calls)
      ∙ ap (λ (h : Guide). record { guide = h; told = Done }) (sym w.1)

  -- A GUIDE THAT WAS REFUSED answers so ever after, whatever the readings (FORMAT 25.4).
  still_refusing : (x : Answer) (calls : List (List ℕ)) → after_calls lim (refusing x) calls ≡ refusing x
  unfolding after_calls next
  still_refusing x [] = refl
  still_refusing x (c ∷ cs) = still_refusing x cs

  refused_so : (x : Answer) (calls : List (List ℕ)) (bytes : List ℕ) → next lim (after_calls lim (refusing x) calls) bytes ≡ record { guide = refusing x; told = Refused x }
  unfolding next
  refused_so x calls bytes = ap (λ (h : Guide). next lim h bytes) (still_refusing x calls)

  pub refused_ever : (request : List ℕ) (budget : ℕ) → ((start lim request budget).answer.number ≡ Limits.verified → ⊥) → (calls : List (List ℕ)) (bytes : List ℕ)
      → next lim (after_calls lim (start lim request budget).guide calls) bytes ≡ record { guide = (start lim request budget).guide; told = Refused (start lim request budget).answer }
  unfolding refused_start
  refused_ever request budget other calls bytes =
      by_starting lim request budget
      (λ x. (x.answer.number ≡ Limits.verified → ⊥) → next lim (after_calls lim x.guide calls) bytes ≡ record { guide = x.guide; told = Refused x.answer })
      (λ _ _ _ _ not_0. absurd (not_0 refl))
      (λ _ _ _ _ _. refused_so (of_guide not_verified) calls bytes)
      (λ n p _ _ _. refused_so (of_request n p) calls bytes)
      other

  -- DETERMINED (FORMAT 25.21): readings that say the same are answered alike, with the same guide.
  literals_alike : (fs bytes others : List ℕ) → said bytes ≡ said others → literals_read fs bytes ≡ literals_read fs others
  unfolding literals_read literal_read said
  literals_alike [] bytes others same = refl
  literals_alike (f ∷ fs) [] [] same = refl
  literals_alike (f ∷ fs) [] (c ∷ cs) same = absurd (omega (arith, ap length same))
  literals_alike (f ∷ fs) (b ∷ bs) [] same = absurd (omega (arith, ap length same))
  literals_alike (f ∷ fs) (b ∷ bs) (c ∷ cs) same =
      let first : eqb b 0 ≡ eqb c 0 = ap (λ (xs : List Bool). get_or xs 0 true) same in
      ap₂ {C = List ℕ} (λ l ls. l ∷ ls) (ap (λ (q : Bool). pick q (λ _. says_false f) (λ _. says_true f)) first) (literals_alike fs bs cs (ap (drop 1) same))

  length_alike : (bytes others : List ℕ) → said bytes ≡ said others → length bytes ≡ length others
  unfolding said
  length_alike bytes others same = sym (length-map bytes (λ (b : ℕ). eqb b 0)) ∙ ap length same ∙ length-map others (λ (b : ℕ). eqb b 0)

  pub read_alike : (g : Guide) (bytes others : List ℕ) → said bytes ≡ said others → next lim g bytes ≡ next lim g others
  unfolding next take_over
  read_alike (refusing x) bytes others same = refl
  read_alike (going t fs b s) bytes others same = rw (length_alike bytes others same, literals_alike fs bytes others same)
  read_alike (ended s) bytes others same = refl

  pub told_alike : (g : Guide) (calls others : List (List ℕ)) → map said calls ≡ map said others → told_by lim g calls ≡ told_by lim g others
  unfolding told_by
  told_alike g [] [] same = refl
  told_alike g [] (d ∷ ds) same = absurd (omega (arith, ap length same))
  told_alike g (c ∷ cs) [] same = absurd (omega (arith, ap length same))
  told_alike g (c ∷ cs) (d ∷ ds) same =
      let alike = read_alike g c d (ap (λ (xs : List (List Bool)). get_or xs 0 (said c)) same) in
      ap₂ {C = List Told} (λ x xs. x ∷ xs) (ap (λ (x : Turn). x.told) alike)
      (ap (λ (x : Turn). told_by lim x.guide cs) alike ∙ told_alike (next lim g d).guide cs ds (ap (drop 1) same))
