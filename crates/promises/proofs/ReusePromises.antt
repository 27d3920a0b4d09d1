-- What the walk call promises of reused verdicts: each theorem is of answers of the call, by whichever of its three forms, whose results meet its own
-- contract. The laws of the definition's answers are cited. Assumes nothing.
use Prim.Native.Nat.{ℕ, ◌-◌, ◌+◌, ◌*◌, ◌≤◌, ◌<◌}
use mathlib.Core.Path.{◌≡◌, refl, sym, ◌∙◌, ap, ap₂, subst}
use mathlib.Core.Bool.{Bool, false}
use mathlib.Core.List.{List}
use lib.ListN.{length, get_or}
use contract.Lifetimes.{Lfts}
use borrow.Fn.Kinds.{Dens, ended_of}
use denote.Triple.Clauses.{AtExit}
use Rattle.meaning.specs.declared.Answer.{Answer}
use Rattle.meaning.specs.Limits
use Rattle.meaning.specs.Limits.{format}
use Rattle.meaning.specs.Literals.{among}
use Rattle.meaning.specs.Judging.{Judgement, judge}
use Rattle.meaning.specs.Answers.{refusals}
use Rattle.meaning.specs.Tests.{those_of, Has}
use Rattle.demands.specs.Reuse.{Parts, bytes_of, CutSo, with_facts, with_plan, asking, OneTable, join_plans, no_items, joined, answer_on, end_states}
use Rattle.meaning.proofs.Exact.{format_room}
use Rattle.demands.proofs.Demands
use Rattle.glintstring.specs.declared.judging.Judged.{Judged}
use Rattle.glintstring.specs.Packing.{unpacked}
use Rattle.glintstring.proofs.judging.judge.Kinds as judge-kinds
use Rattle.glintstring.proofs.judging.judge.Reads as judge-reads
use Rattle.glintstring.proofs.exports.glintstring_judge.Kinds as exported-kinds
use Rattle.glintstring.proofs.exports.glintstring_judge.Reads as exported-reads
use Rattle.glintstring.proofs.exports.glintstring_judge_line.Kinds as line-kinds
use Rattle.glintstring.proofs.exports.glintstring_judge_line.Reads as line_reads_lem
use Rattle.promises.proofs.UnpackingLaws.{unpacks, answer_small}
use Rattle.promises.proofs.Promises
use Rattle.promises.proofs.ExportedPromises
use Rattle.promises.proofs.ExportedLinePromises

-- AN ANSWER of the walk call to a request, lent bytes and a budget: that of a result which meets the contract of one of its forms. The exported
-- forms give it packed in a number.
pub data Answered (request lent : List ℕ) (budget : ℕ) (answer : Answer) : Type 1 where
  by_judge : (κs : Lfts 2) (given : Dens κs judge-kinds.ps) (result : Judged) (exit : AtExit (ended_of 2 judge-kinds.ps judge-kinds.r) κs) → judge-reads.Post κs given result exit
      → Promises.request κs given ≡ request → Promises.lent κs given ≡ lent → Promises.budget κs given ≡ budget → result.answer ≡ answer → Answered request lent budget answer
  by_export : (κs : Lfts 2) (given : Dens κs exported-kinds.ps) (n : ℕ) (exit : AtExit (ended_of 2 exported-kinds.ps exported-kinds.r) κs) → exported-reads.Post κs given n exit
      → ExportedPromises.request κs given ≡ request → ExportedPromises.lent κs given ≡ lent → ExportedPromises.budget κs given ≡ budget → unpacked n ≡ answer → Answered request lent budget answer
  by_line_export : (κs : Lfts 3) (given : Dens κs line-kinds.ps) (n : ℕ) (exit : AtExit (ended_of 3 line-kinds.ps line-kinds.r) κs) → line_reads_lem.Post κs given n exit
      → ExportedLinePromises.request κs given ≡ request → ExportedLinePromises.lent κs given ≡ lent → ExportedLinePromises.budget κs given ≡ budget → unpacked n ≡ answer → Answered request lent budget answer

-- It is the definition's.
same_inputs : {request request' lent lent' : List ℕ} {budget budget' : ℕ} → request ≡ request' → lent ≡ lent' → budget ≡ budget' → (judge format request lent budget).answer ≡ (judge format request' lent' budget').answer
same_inputs p q r = λ i. (judge format (p i) (q i) (r i)).answer

pub definition's : (request lent : List ℕ) (budget : ℕ) (answer : Answer) → Answered request lent budget answer → answer ≡ (judge format request lent budget).answer
definition's request lent budget answer (by_judge κs given result exit meets p q r is) = sym is ∙ ap (λ (j : Judgement). j.answer) (Promises.as_written κs given result exit meets).0 ∙ same_inputs p q r
definition's request lent budget answer (by_export κs given n exit meets p q r is) = sym is ∙ ExportedPromises.unpacked_is κs given n exit meets ∙ same_inputs p q r
definition's request lent budget answer (by_line_export κs given n exit meets p q r is) =
    sym is ∙ unpacks (ExportedLinePromises.answer κs given) (answer_small (ExportedLinePromises.request κs given) (ExportedLinePromises.lent κs given) (ExportedLinePromises.budget κs given)) n (ExportedLinePromises.as_written κs given n exit meets).0
    ∙ same_inputs p q r

-- Lent as many other bytes it is the same.
answered_on : (x : Parts) (lent other : List ℕ) (budget : ℕ) (answer : Answer) → Answered (bytes_of x) other budget answer → length lent ≡ length other → answer_on format lent budget x ≡ answer
answered_on x lent other budget answer is same = Demands.lent_unread format (bytes_of x) lent other budget same ∙ sym (definition's (bytes_of x) other budget answer is)

-- What is said of an answer's number is said of the same answer's.
number_on : {v a : Answer} → v ≡ a → a.number ≡ Limits.verified → v.number ≡ Limits.verified
number_on is verified = ap (λ (b : Answer). b.number) is ∙ verified

passes_on : {v a : Answer} → v ≡ a → among a.number refusals ≡ false → among v.number refusals ≡ false
passes_on is passes = ap (λ (b : Answer). among b.number refusals) is ∙ passes

module _ (lent other : List ℕ) (same : length lent ≡ length other) where
  -- MORE FACTS. Two requests alike but for section 2, the facts of the one among those of the other, one budget: where the first answer is 0 and the
  -- second is none of 10 to 21, the second is 0, with a count no larger.
  pub more_facts : (x : Parts) (more : List ℕ) → ((l : ℕ) → Has x.facts l → Has more l) → (budget : ℕ) (a b : Answer)
      → Answered (bytes_of x) lent budget a → Answered (bytes_of (with_facts more x)) other budget b
      → a.number ≡ Limits.verified → among b.number refusals ≡ false → (b.number ≡ Limits.verified) × (b.count ≤ a.count)
  more_facts x more within budget a b first second verified passes =
      let one = answered_on x lent lent budget a first refl in
      let two = answered_on (with_facts more x) lent other budget b second same in
      subst (λ (v : Answer). (v.number ≡ Limits.verified) × (v.count ≤ a.count)) two
      (subst (λ (v : Answer). ((answer_on format lent budget (with_facts more x)).number ≡ Limits.verified) × ((answer_on format lent budget (with_facts more x)).count ≤ v.count)) one
      (Demands.more_facts format format_room lent x more within budget (number_on one verified) (passes_on two passes)))

  -- FEWER GOALS. With goals and whether entries removed, and the same budget, an answer 0 stays 0, with the same count.
  pub fewer_goals : (x : Parts) → CutSo format x → (keep keep-whether : ℕ → Bool) → (budget : ℕ) (a b : Answer)
      → Answered (bytes_of x) lent budget a → Answered (bytes_of (asking (those_of keep x.goals) (those_of keep-whether x.whether) x)) other budget b
      → a.number ≡ Limits.verified → (b.number ≡ Limits.verified) × (b.count ≡ a.count)
  fewer_goals x cut keep keep-whether budget a b first second verified =
      let fewer = asking (those_of keep x.goals) (those_of keep-whether x.whether) x in
      let one = answered_on x lent lent budget a first refl in
      let two = answered_on fewer lent other budget b second same in
      subst (λ (v : Answer). (v.number ≡ Limits.verified) × (v.count ≡ a.count)) two
      (subst (λ (v : Answer). ((answer_on format lent budget fewer).number ≡ Limits.verified) × ((answer_on format lent budget fewer).count ≡ v.count)) one
      (Demands.fewer_goals format format_room lent x cut keep keep-whether budget (number_on one verified)))

  -- JOINING. Two requests over one table, each fact of the second a goal of the first, both answered by 0; and the answer to the joined request is none of
  -- 10 to 21. With counts c and d of the two answers, and e end states of the first, it is 0 within a budget that is not below (c - e) + e * d,
  -- or not below c * d, and its count is not above these.
  module _ (third : List ℕ) (same-too : length lent ≡ length third) (x y : Parts) (cut : CutSo format x) (cut-too : CutSo format y) (one_table : OneTable x y)
      (leads : (l : ℕ) → Has y.facts l → Has x.goals l) (first second budget : ℕ) (a b w : Answer)
      (answered : Answered (bytes_of x) lent first a) (answered-too : Answered (bytes_of y) other second b) (answered-whole : Answered (bytes_of (joined x y)) third budget w)
      (verified : a.number ≡ Limits.verified) (verified-too : b.number ≡ Limits.verified) (passes : among w.number refusals ≡ false) where
    is_one : answer_on format lent first x ≡ a
    is_one = answered_on x lent lent first a answered refl

    is_two : answer_on format lent second y ≡ b
    is_two = answered_on y lent other second b answered-too same

    is_whole : answer_on format lent budget (joined x y) ≡ w
    is_whole = answered_on (joined x y) lent third budget w answered-whole same-too

    abbrev e : ℕ
    e = end_states format (bytes_of x)

    abbrev UpTo : ℕ → Answer → Type 0
    UpTo most v = (v.number ≡ Limits.verified) × (v.count ≤ most)

    pub joining : (a.count - e) + e * b.count ≤ budget → UpTo ((a.count - e) + e * b.count) w
    joining enough =
        let bound : (answer_on format lent first x).count - e + e * (answer_on format lent second y).count ≡ a.count - e + e * b.count =
        ap₂ (λ (u v : Answer). u.count - e + e * v.count) is_one is_two in
        subst (UpTo (a.count - e + e * b.count)) is_whole
        (subst (λ (k : ℕ). UpTo k (answer_on format lent budget (joined x y))) bound
        (Demands.joining format format_room lent x y cut cut-too one_table leads first second budget (number_on is_one verified) (number_on is_two verified-too) (passes_on is_whole passes)
        (subst (λ (k : ℕ). k ≤ budget) (sym bound) enough)))

    pub joining_by_product : a.count * b.count ≤ budget → UpTo (a.count * b.count) w
    joining_by_product enough =
        let bound : (answer_on format lent first x).count * (answer_on format lent second y).count ≡ a.count * b.count = ap₂ (λ (u v : Answer). u.count * v.count) is_one is_two in
        subst (UpTo (a.count * b.count)) is_whole
        (subst (λ (k : ℕ). UpTo k (answer_on format lent budget (joined x y))) bound
        (Demands.joining_by_product format format_room lent x y cut cut-too one_table leads first second budget (number_on is_one verified) (number_on is_two verified-too) (passes_on is_whole passes)
        (subst (λ (k : ℕ). k ≤ budget) (sym bound) enough)))

-- JOINING IS ASSOCIATIVE, with the plan without items as its unit: requests with the same bytes, and so the same answers. That the lent bytes left are the
-- same too is said by `determined` of each form.
module _ (lent : List ℕ) (budget : ℕ) (a b : Answer) where
  both_answered : (x y : Parts) → bytes_of x ≡ bytes_of y → Answered (bytes_of x) lent budget a → Answered (bytes_of y) lent budget b → a ≡ b
  both_answered x y same first second =
      definition's (bytes_of x) lent budget a first ∙ ap (λ (request : List ℕ). (judge format request lent budget).answer) same ∙ sym (definition's (bytes_of y) lent budget b second)

  pub answers_associate : (x y z : Parts) → Answered (bytes_of (joined (joined x y) z)) lent budget a → Answered (bytes_of (joined x (joined y z))) lent budget b → a ≡ b
  answers_associate x y z = both_answered (joined (joined x y) z) (joined x (joined y z)) (ap (λ (p : List ℕ). bytes_of (with_plan p (joined x z))) (Demands.plans_associate x.plan y.plan z.plan))

  module _ (x : Parts) (long : 2 ≤ length x.plan) (byte : get_or x.plan 1 0 < 256) where
    pub answers_before : Answered (bytes_of (with_plan (join_plans no_items x.plan) x)) lent budget a → Answered (bytes_of x) lent budget b → a ≡ b
    answers_before = both_answered (with_plan (join_plans no_items x.plan) x) x (ap (λ (p : List ℕ). bytes_of (with_plan p x)) (Demands.no_items_before x.plan long byte))

    pub answers_after : Answered (bytes_of (with_plan (join_plans x.plan no_items) x)) lent budget a → Answered (bytes_of x) lent budget b → a ≡ b
    answers_after = both_answered (with_plan (join_plans x.plan no_items) x) x (ap (λ (p : List ℕ). bytes_of (with_plan p x)) (Demands.no_items_after x.plan long byte))
