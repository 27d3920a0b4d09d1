-- Wider limits give the walk call the same answer, unless the narrower refuse a count by 12: the request is settled alike, its first state is the
-- padded one, and a step in a padded state leads to the padded outcome. Assumes nothing.
use Prim.Native.Nat.{ℕ, ◌-◌, ◌≤◌}
use native.Mathlib.Omega.{arith}
use mathlib.Core.Path.{◌≡◌, refl, sym, ◌∙◌, ap}
use mathlib.Core.Bool.{Bool, true, false}
use mathlib.Core.List.{List}
use mathlib.Core.Logic.{inl, inr, ⊎_elim}
use lib.ListN.{length}
use lib.Dec.{ltb}
use borrow.Author.Tests.{eq-eqb}
use Rattle.meaning.specs.Tests.{either, pick, some_of}
use Rattle.meaning.specs.Limits
use Rattle.meaning.specs.Limits.{Limits}
use Rattle.meaning.specs.Literals.{among}
use Rattle.meaning.specs.Requests.{Request}
use Rattle.meaning.specs.Reading.{Got, got, fault}
use Rattle.meaning.specs.Refusals.{Found, nowhere, at, settled}
use Rattle.meaning.specs.States.{State, can_be_run, outcome, first_state}
use Rattle.meaning.specs.Walk.{in_state, End, fine, missed, stopped, Walked, leads_to, refuses, table_does, table_step, missed_in, end_of, judged, walked}
use Rattle.meaning.specs.Judging.{Judgement, written_over, reported, count_told, ended, within, judge_settled, judge, number, judge_got}
use Rattle.meaning.specs.Answers.{refusals}
use Rattle.demands.specs.Wider.{Wider, padded, SameJudgement}
use Rattle.meaning.proofs.TestLaws.{clash, pick_true, pick_map}
use Rattle.meaning.proofs.PickLaws.{pick_has}
use Rattle.meaning.proofs.SettledLaws.{settled_is}
use Rattle.meaning.proofs.RangeLaws.{Ranged, read_ranged}
use Rattle.meaning.proofs.ToldLaws.{first_length}
use Rattle.meaning.proofs.KeptEnds.{on_places, EndSo, walked_so}
use Rattle.meaning.proofs.AnswerLaws.{NumberedIn, settled_numbered}
use Rattle.demands.proofs.MappedWalk.{mapped_step, mapped_end, mapped_walk, Keeps, walks_same}
use Rattle.demands.proofs.WiderReads.{Alike, settled_alike}
use Rattle.demands.proofs.WiderStates.{padded_known, padded_runs, padded_missed, padded_outcome, outcome_kept, padded_state}

-- Lent bytes of the right length.
fitting : (lim : Limits) (request lent : List ℕ) (budget : ℕ) → length lent ≡ lim.state → judge lim request lent budget ≡ judge_settled lim lent budget (settled lim request)
unfolding judge
fitting lim request lent budget fits = pick_true _ _ _ (eq-eqb _ _ fits)

-- A walk ends in a state of the length that it began with, and stops with 2 only.
abbrev SizedEnd : ℕ → End State → Type 0
SizedEnd size = EndSo (λ _ s. length s ≡ size) (λ n p u. (n ≡ Limits.not_executable) × ((s : State) × (u ≡ in_state s) × (length s ≡ size)))

walked_sized : (size : ℕ) (r : Request) (s : State) → length s ≡ size → SizedEnd size (walked r s).end
walked_sized size r s sized =
    walked_so (λ _ s. length s ≡ size) _ (λ (u : State). length u ≡ size) (λ _. Unit {0}) (λ s has p _. (refl, (s, refl, has))) r (outcome_kept size r.table) (λ s has p _. has)
    (on_places (λ _. Unit {0}) (λ _. tt) r.plan) s sized

-- THE JUDGEMENTS of two walks, of which the second has every state padded.
module _ (more : ℕ) (small large : List ℕ) where
  abbrev Same : Judgement → Judgement → Type 0
  Same = SameJudgement more small large

  picked_same : (b : Bool) (f g h k : Unit {0} → Judgement) → Same (f tt) (h tt) → Same (g tt) (k tt) → Same (pick b f g) (pick b h k)
  unfolding pick
  picked_same true f g h k first second = first
  picked_same false f g h k first second = second

  ended_same : (c : ℕ) (e : End State) → SizedEnd (length small) e → Same (ended small c e) (ended large c (mapped_end (padded more) e))
  unfolding ended reported count_told written_over
  ended_same c fine sized = record { answer = refl; told = ⊎_elim (λ q. absurd (omega (arith, q))) (λ q. absurd (omega (arith, q))); untold = λ _ _. (refl, refl) }
  ended_same c (missed p s) sized = record { answer = refl; told = λ _. (sized, refl); untold = λ no _. absurd (no refl) }
  ended_same c (stopped n p u) sized = rw sized.1.1 (record { answer = refl; told = λ _. (sized.1.2, refl); untold = λ _ no. absurd (no sized.0) })

  within_same : (budget : ℕ) (w : Walked State) → SizedEnd (length small) w.end → Same (within small budget w) (within large budget (mapped_walk (padded more) w))
  unfolding within
  within_same budget w sized =
      picked_same (ltb budget w.count) _ _ _ _
      (record { answer = refl; told = ⊎_elim (λ q. absurd (omega (arith, q))) (λ q. absurd (omega (arith, q))); untold = λ _ _. (refl, refl) })
      (ended_same w.count w.end sized)

  -- A refusal is none of a walk's answers.
  refused_same : (n p c : ℕ) (i : ℕ) → among n refusals ≡ true
      → Same (record { answer = record { number = n; input = i; place = p; count = c }; state = small }) (record { answer = record { number = n; input = i; place = p; count = c }; state = large })
  unfolding among refusals some_of either
  refused_same n p c i numbered = record {
    answer = refl;
    told = ⊎_elim (λ q. clash numbered (ap (λ (m : ℕ). among m refusals) q)) (λ q. clash numbered (ap (λ (m : ℕ). among m refusals) q));
    untold = λ _ _. (refl, refl);
  }

module _ (lim big : Limits) (wider : Wider lim big) where
  abbrev more : ℕ
  more = big.state - lim.state

  -- THE WALK of a request that was read with the narrower limits.
  module _ (r : Request) (ranged : Ranged lim r.table) where
    first_padded : first_state big r.table ≡ padded more (first_state lim r.table)
    unfolding first_state
    first_padded = padded_state lim big wider r.table.facts (λ l h. omega (arith, ranged.facts l h, ranged.fluents, wider.room))

    room : (s : State) → length s ≡ lim.state → r.table.fluents ≤ length s
    room s sized = omega (arith, ranged.fluents, wider.room)

    does_same : (a : ℕ) (s : State) → length s ≡ lim.state → table_does r.table a (padded more s) ≡ mapped_step (padded more) (table_does r.table a s)
    unfolding table_does
    does_same a s sized =
        rw (padded_runs more r.table a s, padded_outcome more lim r.table ranged a s (room s sized))
        (sym (pick_map (mapped_step (padded more)) (can_be_run r.table a s) (λ _. leads_to (outcome r.table a s)) (λ _. refuses Limits.not_executable (in_state s))))

    does_keep : (a : ℕ) (s : State) → length s ≡ lim.state → Keeps (padded more) (λ (u : State). length u ≡ lim.state) (table_does r.table a s)
    unfolding table_does
    does_keep a s sized = pick_has (Keeps (padded more) (λ (u : State). length u ≡ lim.state)) _ _ _ (λ _. outcome_kept lim.state r.table a s sized) (λ _. tt)

    judged_same : (s : State) → judged r (padded more s) ≡ mapped_walk (padded more) (judged r s)
    unfolding judged end_of
    judged_same s = rw (padded_missed more r s) (by_found (missed_in r s))
      where
        by_found : (f : Found) → ◌≡◌ {A = Walked State} (record { count = 1; end = end_of f (padded more s) }) (record { count = 1; end = mapped_end (padded more) (end_of f s) })
        by_found nowhere = refl
        by_found (at p) = refl

    walked_same : walked r (first_state big r.table) ≡ mapped_walk (padded more) (walked r (first_state lim r.table))
    unfolding walked table_step
    walked_same =
        ap (walked r) first_padded
        ∙ walks_same (padded more) (λ (u : State). length u ≡ lim.state) (table_step r.table) (table_step r.table) does_keep does_same (padded_known more) (λ s. refl)
        r.plan (judged r) (judged r) (λ s _. judged_same s) (first_state lim r.table) (first_length lim r.table)

  -- THE WALK CALL.
  module _ (small large : List ℕ) (fits : length small ≡ lim.state) (Fits-wider : length large ≡ big.state) (budget : ℕ) where
    settled_same : (g h : Got Request) → Alike g h → ((r : Request) (e : ℕ) → g ≡ got r e → Ranged lim r.table) → NumberedIn refusals g
        → ((judge_settled lim small budget g).answer.number ≡ Limits.count_outside → ⊥) → SameJudgement more small large (judge_settled lim small budget g) (judge_settled big large budget h)
    unfolding judge_got
    settled_same (got r e) h (inl o) ranged numbered other = absurd o
    settled_same (got r e) h (inr q) ranged numbered other =
        rw (q, walked_same r (ranged r e refl)) (within_same more small large budget (walked r (first_state lim r.table)) (walked_sized (length small) r (first_state lim r.table) (first_length lim r.table ∙ sym fits)))
    settled_same (fault n p) h (inl o) ranged numbered other = absurd (other o)
    settled_same (fault n p) h (inr q) ranged numbered other = rw q (refused_same more small large n p 0 Limits.the_request numbered)

    pub same_judgement : (request : List ℕ) → (number lim request small budget ≡ Limits.count_outside → ⊥)
        → SameJudgement more small large (judge lim request small budget) (judge big request large budget)
    same_judgement request other =
        rw (narrow, wide)
        (settled_same (settled lim request) (settled big request) (settled_alike lim big wider request) (λ r e q. read_ranged lim request r e (settled_is lim request r e q).reads)
        (settled_numbered lim request) (λ q. other (ap (λ (j : Judgement). j.answer.number) narrow ∙ q)))
      where
        narrow : judge lim request small budget ≡ judge_settled lim small budget (settled lim request)
        narrow = fitting lim request small budget fits

        wide : judge big request large budget ≡ judge_settled big large budget (settled big request)
        wide = fitting big request large budget Fits-wider
