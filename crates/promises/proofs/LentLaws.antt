-- The definition writes the lent bytes at answers 1 and 2 only: every other case leaves them. Those two are of a settled request, since every
-- fault has another number, and they leave the state where its walk ended, which has what the walk keeps. With guards 43 is written too: those three
-- answers leave the state that the end of the walk concerns, which has what that walk keeps. By cases answers 1 and 2 leave such a state. Assumes nothing.
use Prim.Native.Nat.{ℕ}
use native.Mathlib.Omega.{arith}
use mathlib.Core.Path.{◌≡◌, refl, sym, ◌∙◌, subst}
use mathlib.Core.Bool.{true}
use mathlib.Core.List.{List, []}
use mathlib.Core.Logic.{⊎_elim}
use lib.ListN.{get_or}
use Rattle.meaning.specs.declared.Form.TheVariants.{Flags}
use Rattle.meaning.specs.Tests.{either, some_of}
use Rattle.meaning.specs.Limits
use Rattle.meaning.specs.Limits.{Limits, format}
use Rattle.meaning.specs.Literals.{among}
use Rattle.meaning.specs.Requests.{Entry, Request}
use Rattle.meaning.specs.Reading.{Got, got, fault}
use Rattle.meaning.specs.Refusals.{settled}
use Rattle.meaning.specs.States.{State, first_state}
use Rattle.meaning.specs.Walk.{Concerned, in_state, End, fine, missed, stopped, Walked, walked, guarded_step, walked_guarded}
use Rattle.meaning.specs.Judging.{Judgement, written_over, reported, ended, within, judge_settled, judge, judge_got}
use Rattle.meaning.proofs.TestLaws.{clash}
use Rattle.meaning.proofs.PickLaws.{pick_has}
use Rattle.meaning.specs.Guards.{GuardedRequest, settled_guarded, walk_of, judge_guarded}
use Rattle.meaning.specs.ByCases.{cases_step, walked_by_cases, judge_by_cases}
use Rattle.meaning.specs.Answers.{refusals}
use Rattle.meaning.specs.AnswerParts.{concerned, stated, with_state}
use Rattle.meaning.proofs.KeptEnds.{Stuck, walked_stuck}
use Rattle.meaning.proofs.AnswerLaws.{NumberedIn, settled_numbered}
use Rattle.meaning.proofs.SettledLaws.{settled_is}
use Rattle.meaning.proofs.RangeLaws.{Ranged, read_ranged}
use Rattle.meaning.proofs.GuardedReads.{own, own_length, own_same, own_settled}
use Rattle.demands.proofs.Demands.{guarded_state, walked_unguarded, cases_state}
use Rattle.reader.proofs.WholeLaws.{Front}
use Rattle.finding.proofs.StartLaws.{request_starts}
use Rattle.steps.specs.AtHand.{Marked}
use Rattle.glintstring.specs.LentState.{Writes, BlankFrom, Written}
use Rattle.verdicts.proofs.KeepingLaws.{ConcernedHas, EndHas, walked_kept, end_both}
use Rattle.verdicts.proofs.MarkedLaws.{first_marked, known_marked, cases_marked}
use Rattle.promises.proofs.BeyondLaws.{walked_blank, walked_cases_blank}

module _ (lim : Limits) (lent : List ℕ) (budget : ℕ) where
  abbrev pub Kept : Judgement → Type 0
  Kept j = (j.answer.number ≡ Limits.goal_missed → ⊥) → (j.answer.number ≡ Limits.not_executable → ⊥) → j.state ≡ lent

  ended_kept : (c : ℕ) (e : End State) → Stuck e → Kept (ended lent c e)
  unfolding ended reported
  ended_kept c fine stuck one two = refl
  ended_kept c (missed p s) stuck one two = absurd (one refl)
  ended_kept c (stopped n p u) stuck one two = absurd (two stuck.0)

  within_kept : (w : Walked State) → Stuck w.end → Kept (within lent budget w)
  unfolding within
  within_kept w stuck = pick_has Kept _ _ _ (λ _ one two. refl) (λ _. ended_kept w.count w.end stuck)

  settled_kept : (x : Got Request) → Kept (judge_settled lim lent budget x)
  unfolding judge_got
  settled_kept (got r e) = within_kept _ (walked_stuck r _)
  settled_kept (fault n p) = λ one two. refl

  pub judge_kept : (request : List ℕ) → Kept (judge lim request lent budget)
  unfolding judge
  judge_kept request = pick_has Kept _ _ _ (λ _. settled_kept (settled lim request)) (λ _ one two. refl)

-- WHAT ANSWERS 1 AND 2 LEAVE.
verified_writes_nothing : Writes Limits.verified → ⊥
verified_writes_nothing = ⊎_elim (λ e. omega (arith, e)) (λ e. omega (arith, e))

spent_writes_nothing : Writes Limits.budget_spent → ⊥
spent_writes_nothing = ⊎_elim (λ e. omega (arith, e)) (λ e. omega (arith, e))

length_writes_nothing : Writes Limits.state_length → ⊥
length_writes_nothing = ⊎_elim (λ e. omega (arith, e)) (λ e. omega (arith, e))

refusal_writes_nothing : (n : ℕ) → among n refusals ≡ true → Writes n → ⊥
unfolding among refusals some_of either
refusal_writes_nothing n refused =
    ⊎_elim (λ e. clash (subst (λ (k : ℕ). among k refusals ≡ true) e refused) refl) (λ e. clash (subst (λ (k : ℕ). among k refusals ≡ true) e refused) refl)

module _ (P : State → Type 0) (lent : List ℕ) where
  abbrev Leaves : Judgement → Type 0
  Leaves j = Writes j.answer.number → P j.state

  ended_leaves : (c : ℕ) (e : End State) → Stuck e → EndHas P e → Leaves (ended lent c e)
  unfolding ended reported written_over
  ended_leaves c fine stuck has writes = absurd (verified_writes_nothing writes)
  ended_leaves c (missed p s) stuck has writes = has
  ended_leaves c (stopped n p u) stuck has writes =
      subst (λ (v : Concerned State). ConcernedHas P v → P (written_over lent v)) (sym stuck.1.1) (λ there. there) has

  within_leaves : (budget : ℕ) (w : Walked State) → Stuck w.end → EndHas P w.end → Leaves (within lent budget w)
  unfolding within
  within_leaves budget w stuck has = pick_has Leaves _ _ _ (λ _ writes. absurd (spent_writes_nothing writes)) (λ _. ended_leaves w.count w.end stuck has)

-- P is said of a request and a state.
module _ (P : Request → State → Type 0) (lim : Limits) (lent : List ℕ) (budget : ℕ) where
  abbrev WalkHas : Request → Type 0
  WalkHas x = EndHas (P x) (walked x (first_state lim x.table)).end

  settled_leaves : (g : Got Request) → NumberedIn refusals g → ((x : Request) (e : ℕ) → g ≡ got x e → WalkHas x)
      → Writes (judge_settled lim lent budget g).answer.number → (x : Request) × (e : ℕ) × (g ≡ got x e) × P x (judge_settled lim lent budget g).state
  unfolding judge_got
  settled_leaves (got x e) numbered has writes = (x, e, refl, within_leaves (P x) lent budget (walked x (first_state lim x.table)) (walked_stuck x _) (has x e refl) writes)
  settled_leaves (fault n p) numbered has writes = absurd (refusal_writes_nothing n numbered writes)

  judge_leaves : (request : List ℕ) → ((x : Request) (e : ℕ) → settled lim request ≡ got x e → WalkHas x)
      → Writes (judge lim request lent budget).answer.number → (x : Request) × (e : ℕ) × (settled lim request ≡ got x e) × P x (judge lim request lent budget).state
  unfolding judge
  judge_leaves request has =
      pick_has (λ (j : Judgement). Writes j.answer.number → (x : Request) × (e : ℕ) × (settled lim request ≡ got x e) × P x j.state) _ _ _
      (λ _. settled_leaves (settled lim request) (settled_numbered lim request) has)
      (λ _ writes. absurd (length_writes_nothing writes))

-- WHAT EVERY WALK KEEPS, of the bytes of a settled request: marks, and none beyond its fluents.
abbrev KeptMarks : Request → State → Type 0
KeptMarks x s = Marked s × BlankFrom x.table.fluents s

module _ (request : List ℕ) (x : Request) (e : ℕ) (past : settled format request ≡ got x e) where
  in_range : Ranged format x.table
  in_range = read_ranged format request x e (settled_is format request x e past).reads

  ends_kept : (gs : List Entry) → EndHas (KeptMarks x) (walked_guarded x gs (first_state format x.table)).end
  unfolding walked_guarded guarded_step
  ends_kept gs =
      let from : State = first_state format x.table in
      end_both Marked (BlankFrom x.table.fluents) (walked_guarded x gs from).end
      (walked_kept Marked x (guarded_step x.table gs) (known_marked x.table) from (first_marked x.table)) (walked_blank x in_range gs)

  cases_ends_kept : EndHas (KeptMarks x) (walked_by_cases x (first_state format x.table)).end
  unfolding walked_by_cases cases_step
  cases_ends_kept =
      let from : State = first_state format x.table in
      end_both Marked (BlankFrom x.table.fluents) (walked_by_cases x from).end
      (walked_kept Marked x (cases_step x.table) (cases_marked x.table) from (first_marked x.table)) (walked_cases_blank x in_range)

  begins : Front Flags request 0 x.table
  begins = (request_starts Flags request x e (settled_is format request x e past).reads).front

pub judge_written : (request lent : List ℕ) (budget : ℕ) → Writes (judge format request lent budget).answer.number → Written request (judge format request lent budget).state
judge_written request lent budget writes =
    let w = judge_leaves KeptMarks format lent budget request
    (λ x e past. subst (λ (v : Walked State). EndHas (KeptMarks x) v.end) (walked_unguarded x (first_state format x.table)) (ends_kept request x e past [])) writes in
    (w.0, w.1, w.2, (begins request w.0 w.1 w.2).fluents_are, w.3.0, w.3.1)

-- THE OTHER CALLS: the state that an end concerns has what the end has.
pub concerned_has : (P : State → Type 0) (e : End State) (s : State) → concerned e ≡ in_state s → EndHas P e → P s
unfolding concerned
concerned_has P fine s is has = subst (ConcernedHas P) is has
concerned_has P (missed p u) s is has = subst (ConcernedHas P) is has
concerned_has P (stopped n p u) s is has = subst (ConcernedHas P) is has

-- THE CALL BY CASES.
pub cases_written : (request lent : List ℕ) (budget : ℕ) → among (judge_by_cases format request lent budget).answer.number stated ≡ true → Written request (judge_by_cases format request lent budget).state
cases_written request lent budget writes =
    let w = (cases_state format request lent budget).written writes in
    let kept = concerned_has (KeptMarks w.0) _ _ w.3 (cases_ends_kept request w.0 w.1 w.2) in
    (w.0, w.1, w.2, (begins request w.0 w.1 w.2).fluents_are, kept.0, kept.1)

-- THE GUARDED CALL. What `Written` says, of a settled guarded request.
abbrev pub GuardedWritten : (request left : List ℕ) → Type 0
GuardedWritten request left =
    (g : GuardedRequest) × (e : ℕ) × (settled_guarded format request ≡ got g e) × (get_or request 0 0 ≡ g.request.table.fluents) × Marked left × BlankFrom g.request.table.fluents left

pub guarded_written : (request lent : List ℕ) (budget : ℕ) → among (judge_guarded format request lent budget).answer.number with_state ≡ true
    → GuardedWritten request (judge_guarded format request lent budget).state
unfolding walk_of
guarded_written request lent budget writes =
    let w = (guarded_state format request lent budget).written writes in
    let eight = own format request w.0 w.1 w.2 in
    let long = own_length format request w.0 w.1 w.2 in
    let past = own_settled format request w.0 w.1 w.2 in
    let front = begins eight w.0.request _ past in
    let more = front.second in
    let kept = concerned_has (KeptMarks w.0.request) _ _ w.3 (ends_kept eight w.0.request _ past w.0.guards) in
    (w.0, w.1, w.2, sym (own_same format request w.0 w.1 w.2 0 (omega (arith, more, long))) ∙ front.fluents_are, kept.0, kept.1)
