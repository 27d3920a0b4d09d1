-- What the operator's guide promises: each theorem is of a result that meets the contract of its start or of its call, and theorem 7 of all of them one after another.
-- Assumes nothing.
use Prim.Native.Nat.{ℕ, ◌≤◌}
use native.Mathlib.Omega.{arith}
use mathlib.Core.Path.{◌≡◌, refl, sym, ◌∙◌, ap, ap₂, subst}
use mathlib.Core.Bool.{true}
use mathlib.Core.List.{List, [], ◌∷◌}
use mathlib.Core.Logic.{◌↔◌, ◌⊎◌, inl, inr, ⊎_elim}
use lib.ListN.{length}
use lib.Dec.{eqb}
use contract.Lifetimes.{Lfts}
use borrow.Fn.Kinds.{Dens, ended_of}
use denote.Triple.Clauses.{AtExit}
use borrow.Author.Tests.{eqb-true, eqb-false}
use Rattle.meaning.specs.declared.Answer.{Answer}
use Rattle.meaning.specs.Limits
use Rattle.meaning.specs.Limits.{format}
use Rattle.meaning.specs.Literals.{among}
use Rattle.meaning.specs.Tests.{Has, some_of, either}
use Rattle.meaning.specs.Requests.{Table, Sequence, Request}
use Rattle.meaning.specs.Reading.{got}
use Rattle.meaning.specs.Refusals.{settled}
use Rattle.meaning.specs.States.{State}
use Rattle.meaning.specs.Judging.{judge}
use Rattle.meaning.specs.Answers.{refusals}
use Rattle.meaning.specs.Worlds.{Worlds, World, table_domain, Facts}
use Rattle.guidance.specs.declared.Told.{Told}
use Rattle.guidance.specs.declared.Told.TheVariants.{Do, Done, Refused}
use Rattle.guidance.specs.Guides
use Rattle.guidance.specs.Guides.{number_told, values_told, next, after_calls, told_by}
use Rattle.guidance.specs.Guided.{asked_for, Truthful, Guided, ToldReached, RunsExactly}
use Rattle.guide.specs.declared.sensed.Fluents.{Fluents}
use Rattle.guide.specs.declared.guides.Guide.{Guide}
use Rattle.guide.specs.declared.guides.Started.{Started}
use Rattle.guide.specs.declared.guides.Turn.{Turn}
use Rattle.guide.specs.GuideHeld.{fluents_of, request_of, guide_of, started_of, turn_of, KeptGuide}
use Rattle.guide.specs.GuideCalled.{Answers, GuidedBy, Called}
use Rattle.demands.specs.GuideSaid.{start_answers, of_starts, call_answers, own_answers, StartInput, StartPlaced, StartCount, of_judged}
use Rattle.meaning.proofs.TestLaws.{by-test, clash}
use Rattle.meaning.proofs.LiteralLaws.{among_has}
use Rattle.guidance.proofs.GuideCases.{Heard, GuideCase, heard_in, guide_cases}
use Rattle.demands.proofs.GuideAnswers
use Rattle.demands.proofs.GuideCalls
use Rattle.demands.proofs.GuideSound
use Rattle.promises.proofs.CasePromises.{guide_holds}
use Rattle.guide.proofs.guides.Guide.start.Kinds as start-kinds
use Rattle.guide.proofs.guides.Guide.start.Reads as start-reads
use Rattle.guide.proofs.guides.Guide.next.Kinds as next-kinds
use Rattle.guide.proofs.guides.Guide.next.Reads as next-reads
use Rattle.guide.proofs.guides.Guide.asks.Kinds as asks-kinds
use Rattle.guide.proofs.guides.Guide.asks.Reads as asks-reads

-- A CALL, by the values of its two parameters.
module _ (κs : Lfts 1) (given : Dens κs next-kinds.ps) where
  abbrev pub guide : Guide
  guide = given.0

  abbrev pub readings : List ℕ
  readings = given.1.0.now

  -- THE CONTRACT, as the source has it.
  pub call_as_written : (turn : Turn) (exit : AtExit (ended_of 1 next-kinds.ps next-kinds.r) κs) → next-reads.Post κs given turn exit → Answers guide readings turn × KeptGuide guide turn
  call_as_written turn exit meets = meets

  -- Two results that meet the contract answer the same, and the guides that they hand back stand for one (FORMAT 25.21).
  pub call_determined : (turn turn' : Turn) (exit exit' : AtExit (ended_of 1 next-kinds.ps next-kinds.r) κs) → next-reads.Post κs given turn exit → next-reads.Post κs given turn' exit'
      → (turn.told ≡ turn'.told) × (guide_of turn.guide ≡ guide_of turn'.guide)
  unfolding turn_of
  call_determined turn turn' exit exit' meets meets' =
      let same : turn_of turn ≡ turn_of turn' = meets.0 ∙ sym meets'.0 in
      (ap (λ (x : Guides.Turn). x.told) same, ap (λ (x : Guides.Turn). x.guide) same)

  -- It may be called with anything.
  pub call_asks_nothing : next-reads.Pre κs given
  call_asks_nothing = tt

  -- A refusal hands back the guide that was given (FORMAT 25.23), and every call its request.
  pub refused_unchanged : (turn : Turn) (exit : AtExit (ended_of 1 next-kinds.ps next-kinds.r) κs) → next-reads.Post κs given turn exit → (x : Answer) → turn.told ≡ Refused x → turn.guide ≡ guide
  refused_unchanged turn exit meets = meets.1.refused

  pub request_kept : (turn : Turn) (exit : AtExit (ended_of 1 next-kinds.ps next-kinds.r) κs) → next-reads.Post κs given turn exit → request_of turn.guide ≡ request_of guide
  request_kept turn exit meets = meets.1.request

-- WHICH READINGS ARE DUE, by the value of its one parameter.
module _ (κs : Lfts 0) (given : Dens κs asks-kinds.ps) where
  abbrev pub asked : Guide
  asked = given.0

  -- The contract, as the source has it (FORMAT 25.51): so many, at the start of the row, and 0 behind them.
  pub asks_as_written : (fluents : Fluents) (exit : AtExit (ended_of 0 asks-kinds.ps asks-kinds.r) κs) → asks-reads.Post κs given fluents exit → fluents ≡ fluents_of (asked_for (guide_of asked))
  asks_as_written fluents exit meets = meets

  -- Two results that meet the contract are the same, count and row.
  pub asks_determined : (fluents fluents' : Fluents) (exit exit' : AtExit (ended_of 0 asks-kinds.ps asks-kinds.r) κs) → asks-reads.Post κs given fluents exit → asks-reads.Post κs given fluents' exit' → fluents ≡ fluents'
  asks_determined fluents fluents' exit exit' meets meets' = meets ∙ sym meets'

  -- It may be asked of any guide.
  pub asks_asks_nothing : asks-reads.Pre κs given
  asks_asks_nothing = tt

-- WHAT A CALL REFUSES, of a guide that is on its way: 41 exactly where the number of readings is not the one asked for, and 42 exactly where it is and some reading is against what is known
-- (FORMAT 25.13, 25.14).
module _ (g : Guide) (bytes : List ℕ) (turn : Turn) (answers : Answers g bytes turn) (t : Table) (fs : List ℕ) (b : Sequence ℕ) (s : State) (is : guide_of g ≡ Guides.going t fs b s) where
  told_is : turn.told ≡ (next format (Guides.going t fs b s) bytes).told
  unfolding turn_of
  told_is = ap (λ (x : Guides.Turn). x.told) answers ∙ ap (λ (x : Guides.Guide). (next format x bytes).told) is

  pub wrong_number_exactly : (turn.told ≡ Refused (Guides.of_guide Guides.wrong_number)) ↔ (length bytes ≡ length fs → ⊥)
  wrong_number_exactly = subst (λ (x : Told). (x ≡ Refused (Guides.of_guide Guides.wrong_number)) ↔ (length bytes ≡ length fs → ⊥)) (sym told_is) (GuideAnswers.wrong_number_exactly format t fs b s bytes)

  pub against_exactly : (turn.told ≡ Refused (Guides.of_guide Guides.against_known)) ↔ ((length bytes ≡ length fs) × (Guides.against s (Guides.literals_read fs bytes) ≡ true))
  against_exactly =
      subst (λ (x : Told). (x ≡ Refused (Guides.of_guide Guides.against_known)) ↔ ((length bytes ≡ length fs) × (Guides.against s (Guides.literals_read fs bytes) ≡ true)))
      (sym told_is) (GuideAnswers.against_exactly format t fs b s bytes)

-- AFTER SOME CALLS a guide stands for what the definition has made of it, and they were told what the definition tells.
after : (g h : Guide) (calls : List (List ℕ)) (told : List Told) → Called g calls told h → guide_of h ≡ after_calls format (guide_of g) calls
unfolding after_calls turn_of
after g h [] told (none, same) = ap guide_of (sym same)
after g h (c ∷ cs) told (r, answers, (later, is, called)) =
    after r.guide h cs later called ∙ ap (λ (x : Guides.Guide). after_calls format x cs) (ap (λ (x : Guides.Turn). x.guide) answers)

told_so : (g h : Guide) (calls : List (List ℕ)) (told : List Told) → Called g calls told h → told ≡ told_by format (guide_of g) calls
unfolding told_by turn_of
told_so g h [] told (none, same) = none
told_so g h (c ∷ cs) told (r, answers, (later, is, called)) =
    is
    ∙ ap (λ (xs : List Told). r.told ∷ xs) (told_so r.guide h cs later called)
    ∙ ap (λ (x : Guides.Turn). x.told ∷ told_by format x.guide cs) answers

-- Once "done" is answered, every later call answers it (FORMAT 25.8).
pub done_ever : (g : Guide) (bytes : List ℕ) (turn : Turn) → Answers g bytes turn → turn.told ≡ Done → (calls : List (List ℕ)) (told : List Told) (h : Guide) → Called turn.guide calls told h
    → (more : List ℕ) (later : Turn) → Answers h more later → later.told ≡ Done
unfolding turn_of
done_ever g bytes turn answers done calls told h called more later last =
    ap (λ (x : Guides.Turn). x.told) last
    ∙ ap (λ (x : Guides.Guide). (next format x more).told) (after turn.guide h calls told called ∙ ap (λ (x : Guides.Turn). after_calls format x.guide calls) answers)
    ∙ ap (λ (x : Guides.Turn). x.told) (GuideAnswers.done_ever format (guide_of g) bytes (sym (ap (λ (x : Guides.Turn). x.told) answers) ∙ done) calls more)

-- GUIDED BY CALLS: what the definition leads to, any results do that meet the contract.
pub guided_by : (t : Table) (answered : List ℕ) (K : State → World → Worlds World → Type 0) (g : Guide) (readings : List ℕ) (v : World) (P : Worlds World)
    → Guided format t answered K (guide_of g) readings v P → GuidedBy t answered K g readings v P
unfolding turn_of
guided_by t [] K g readings v P (s, is, then) = λ r answers.
    let same = answers ∙ is in
    (ap (λ (x : Guides.Turn). x.told) same, (s, ap (λ (x : Guides.Turn). x.guide) same, then))
guided_by t (a ∷ acts) K g readings v P (h, is, acted) = λ r answers.
    let same = answers ∙ is in
    let handed : h ≡ guide_of r.guide = sym (ap (λ (x : Guides.Turn). x.guide) same) in
    let on : (u : World) (Q : Worlds World) → ((bytes : List ℕ) → Truthful u (asked_for h) bytes → Guided format t acts K h bytes u Q)
    → (bytes : List ℕ) → Truthful u (asked_for (guide_of r.guide)) bytes → GuidedBy t acts K r.guide bytes u Q
    = λ u Q go. subst (λ (x : Guides.Guide). ((bytes : List ℕ) → Truthful u (asked_for x) bytes → Guided format t acts K x bytes u Q)
    → (bytes : List ℕ) → Truthful u (asked_for (guide_of r.guide)) bytes → GuidedBy t acts K r.guide bytes u Q)
    (sym handed) (λ rest bytes truthful. guided_by t acts K r.guide bytes u Q (rest bytes truthful)) go in
    (ap (λ (x : Guides.Turn). x.told) same, record { allowed = acted.allowed; read = λ on-it. on _ _ (acted.read on-it); done = λ off. on _ _ (acted.done off) })

-- A START, by the values of its two parameters.
module _ (κs : Lfts 1) (given : Dens κs start-kinds.ps) where
  abbrev pub request : List ℕ
  request = given.0.now

  abbrev pub budget : ℕ
  budget = given.1.0

  -- It may be called with anything.
  pub start_asks_nothing : start-reads.Pre κs given
  start_asks_nothing = tt

  -- Two results that meet the contract answer the same, and the guides that they hand back stand for one (FORMAT 25.21).
  pub start_determined : (started started' : Started) (exit exit' : AtExit (ended_of 1 start-kinds.ps start-kinds.r) κs) → start-reads.Post κs given started exit → start-reads.Post κs given started' exit'
      → (started.answer ≡ started'.answer) × (guide_of started.guide ≡ guide_of started'.guide)
  unfolding started_of
  start_determined started started' exit exit' meets meets' =
      let same : started_of started ≡ started_of started' = meets.0 ∙ sym meets'.0 in
      (ap (λ (x : Guides.Started). x.answer) same, ap (λ (x : Guides.Started). x.guide) same)

  -- A RESULT that meets the contract.
  module _ (started : Started) (exit : AtExit (ended_of 1 start-kinds.ps start-kinds.r) κs) (meets : start-reads.Post κs given started exit) where
    -- THE CONTRACT, as the source has it.
    pub start_as_written : started_of started ≡ Guides.start format request budget
    start_as_written = meets.0

    -- It holds its own copy of the request (FORMAT 25.2).
    pub own_copy : started.answer.number ≡ Limits.verified → request_of started.guide ≡ request
    own_copy = meets.1.copied

    answer_is : started.answer ≡ (Guides.start format request budget).answer
    unfolding started_of
    answer_is = ap (λ (x : Guides.Started). x.answer) meets.0

    guide_is : guide_of started.guide ≡ (Guides.start format request budget).guide
    unfolding started_of
    guide_is = ap (λ (x : Guides.Started). x.guide) meets.0

    -- Demand 1 (FORMAT 25.22): it is one of the numbers of a start, and input, place and count are what the number says.
    pub start_numbered : among started.answer.number start_answers ≡ true
    start_numbered = subst (λ (a : Answer). among a.number start_answers ≡ true) (sym answer_is) (GuideAnswers.start_numbered format request budget)

    pub start_input : StartInput started.answer
    start_input = subst StartInput (sym answer_is) (GuideAnswers.start_input format request budget)

    pub start_place : StartPlaced (length request) started.answer.number started.answer.place
    start_place = subst (λ (a : Answer). StartPlaced (length request) a.number a.place) (sym answer_is) (GuideAnswers.start_place format request budget)

    pub start_count : StartCount format request budget started.answer
    start_count = subst (StartCount format request budget) (sym answer_is) (GuideAnswers.start_count format request budget)

    -- The answer is the walk call's where that is 0 or a refusal of the request, and else 40 (FORMAT 25.3 to 25.5).
    pub start_as_judged : (lent : List ℕ) → length lent ≡ format.state → started.answer ≡ of_judged (judge format request lent budget).answer
    start_as_judged lent sized = answer_is ∙ GuideAnswers.start_as_judged format request budget lent sized

    -- Of its own numbers it answers 40 alone, and then input, place and count are 0.
    not_verified_only : among started.answer.number own_answers ≡ true → started.answer.number ≡ Guides.not_verified
    unfolding own_answers start_answers refusals among some_of either
    not_verified_only own = by_own (among_has started.answer.number own_answers own)
      where
        by_own : Has own_answers started.answer.number → started.answer.number ≡ Guides.not_verified
        by_own (inl is) = is
        by_own (inr (inl is)) = clash (subst (λ (n : ℕ). among n start_answers ≡ true) is start_numbered) refl
        by_own (inr (inr (inl is))) = clash (subst (λ (n : ℕ). among n start_answers ≡ true) is start_numbered) refl
        by_own (inr (inr (inr none))) = absurd none

    not_verified_valued : among started.answer.number own_answers ≡ true → started.answer.input ∷ started.answer.place ∷ started.answer.count ∷ [] ≡ 0 ∷ 0 ∷ 0 ∷ []
    unfolding of_starts among some_of either
    not_verified_valued own =
        let is = not_verified_only own in
        ap₂ {C = List ℕ} (λ i l. i ∷ l) (start_input.neither.1 (subst (λ (n : ℕ). among n of_starts ≡ true) (sym is) refl))
        (ap₂ {C = List ℕ} (λ p c. p ∷ c ∷ []) (start_place.unverified is) (start_count.other λ zero-told. absurd (omega (arith, is, zero-told))))

    -- The proved cases (FORMAT 25.28 to 25.50): given a row's request and budget, and then its calls, it answers what the row says.
    pub answers_the_cases : (row : GuideCase) → Has guide_cases row → row.request ≡ request → row.budget ≡ budget
        → (told : List Told) (h : Guide) → Called started.guide row.calls told h → row.hears ≡ record { answer = started.answer; told = told }
    unfolding heard_in
    answers_the_cases row has same_request same-budget told h called =
        guide_holds row has request budget same_request same-budget
        ∙ ap₂ {C = Heard} (λ a ts. record { answer = a; told = ts }) (sym answer_is) (ap (λ (g : Guides.Guide). told_by format g row.calls) (sym guide_is) ∙ sym (told_so started.guide h row.calls told called))

    -- ONE MORE CALL, whatever the calls before it brought and were told.
    module _ (calls : List (List ℕ)) (told : List Told) (h : Guide) (called : Called started.guide calls told h) (bytes : List ℕ) (turn : Turn) (answers : Answers h bytes turn) where
      told_last : turn.told ≡ (next format (after_calls format (Guides.start format request budget).guide calls) bytes).told
      unfolding turn_of
      told_last =
          ap (λ (x : Guides.Turn). x.told) answers
          ∙ ap (λ (g : Guides.Guide). (next format g bytes).told) (after started.guide h calls told called ∙ ap (λ (g : Guides.Guide). after_calls format g calls) guide_is)

      -- A guide whose start answered another number than 0 gives that answer (FORMAT 25.4, 25.5):
      pub refused_ever : (started.answer.number ≡ Limits.verified → ⊥) → turn.told ≡ Refused started.answer
      refused_ever other =
          told_last
          ∙ ap (λ (x : Guides.Turn). x.told) (GuideAnswers.refused_ever format request budget (λ zero-told. other (ap (λ (a : Answer). a.number) answer_is ∙ zero-told)) calls bytes)
          ∙ ap Refused (sym answer_is)

      -- its number, and its input, place and count (FORMAT 25.9, 25.22).
      pub refused_numbered : (started.answer.number ≡ Limits.verified → ⊥) → number_told turn.told ≡ started.answer.number
      unfolding number_told
      refused_numbered other = ap number_told (refused_ever other)

      pub refused_valued : (started.answer.number ≡ Limits.verified → ⊥) → values_told turn.told ≡ started.answer.input ∷ started.answer.place ∷ started.answer.count ∷ []
      unfolding values_told
      refused_valued other = ap values_told (refused_ever other)

      -- Of a guide that started, a call refuses with 41 or 42 and nothing else (FORMAT 25.22).
      pub refused_with : started.answer.number ≡ Limits.verified → (x : Answer) → turn.told ≡ Refused x → (x ≡ Guides.of_guide Guides.wrong_number) ⊎ (x ≡ Guides.of_guide Guides.against_known)
      refused_with zero-told x is = GuideCalls.refused_with format request budget (ap (λ (a : Answer). a.number) (sym answer_is) ∙ zero-told) calls bytes x (sym told_last ∙ is)

      -- So its number is 0, 41 or 42, by the definition that gives each case of the answer its number (FORMAT 25.9, 25.22).
      pub call_numbered : started.answer.number ≡ Limits.verified → among (number_told turn.told) call_answers ≡ true
      unfolding number_told call_answers among some_of either
      call_numbered zero-told = by_told turn.told refl
        where
          by_told : (last : Told) → turn.told ≡ last → among (number_told last) call_answers ≡ true
          by_told (Do a) is = refl
          by_told Done is = refl
          by_told (Refused x) is =
              ⊎_elim
              (λ (e : x ≡ Guides.of_guide Guides.wrong_number). ap (λ (a : Answer). among a.number call_answers) e)
              (λ (e : x ≡ Guides.of_guide Guides.against_known). ap (λ (a : Answer). among a.number call_answers) e)
              (refused_with zero-told x is)

      -- Input, place and count of 40, 41 and 42 are 0 (FORMAT 25.15).
      pub own_valued : among (number_told turn.told) own_answers ≡ true → values_told turn.told ≡ 0 ∷ 0 ∷ 0 ∷ []
      unfolding number_told values_told own_answers among some_of either
      own_valued own =
          by-test (eqb started.answer.number Limits.verified)
          (λ zero-told. by_told (eqb-true _ _ zero-told) turn.told refl own)
          (λ other.
          let not_0 = eqb-false _ _ other in
          refused_valued not_0 ∙ not_verified_valued (subst (λ (n : ℕ). among n own_answers ≡ true) (refused_numbered not_0) own))
        where
          by_told : started.answer.number ≡ Limits.verified → (last : Told) → turn.told ≡ last → among (number_told last) own_answers ≡ true → values_told last ≡ 0 ∷ 0 ∷ 0 ∷ []
          by_told zero-told (Do a) is own = clash own refl
          by_told zero-told Done is own = clash own refl
          by_told zero-told (Refused x) is own =
              ⊎_elim
              (λ (e : x ≡ Guides.of_guide Guides.wrong_number). ap (λ (a : Answer). values_told (Refused a)) e)
              (λ (e : x ≡ Guides.of_guide Guides.against_known). ap (λ (a : Answer). values_told (Refused a)) e)
              (refused_with zero-told x is)

    -- THEOREM 7 (FORMAT 25.24, 25.25): after a start that answered 0, in any world that has the initial facts.
    pub guided : started.answer.number ≡ Limits.verified
        → (r : Request) × (e : ℕ) × (settled format request ≡ got r e)
        × ((v : World) → Facts r.table v
        → (acts : List ℕ) × (length acts ≤ format.items)
        × GuidedBy r.table acts (ToldReached r) started.guide [] v (Facts r.table)
        × RunsExactly (table_domain r.table) r.plan acts v (Facts r.table))
    guided zero-told =
        let m = GuideSound.guided format request budget (ap (λ (a : Answer). a.number) (sym answer_is) ∙ zero-told) in (
          m.0,
          m.1,
          m.2,
          λ v facts.
              let one = m.3 v facts in (
                one.0,
                one.1,
                guided_by m.0.table one.0 (ToldReached m.0) started.guide [] v (Facts m.0.table)
                    (subst (λ (g : Guides.Guide). Guided format m.0.table one.0 (ToldReached m.0) g [] v (Facts m.0.table)) (sym guide_is) one.2),
                one.3,
              ),
        )
