-- What a judgement within a budget says of its walk, whatever walk it is: 3 exactly where the walk counts more, and else the number, the place and the
-- state of the walk's end, which the number tells where no stop has it. By the cases of the end. Assumes nothing.
use Prim.Native.Nat.{ℕ, ◌≤◌, ◌<◌}
use native.Mathlib.Omega.{arith}
use mathlib.Core.Path.{◌≡◌, refl, sym, ◌∙◌, ap, subst}
use mathlib.Core.List.{List}
use mathlib.Core.Logic.{⊎_elim, ◌↔◌}
use lib.Dec.{ltb}
use borrow.Author.Tests.{ltb-true, ltb-false, lt-ltb, le-ltb}
use Rattle.meaning.specs.Tests.{pick}
use Rattle.meaning.specs.Limits
use Rattle.meaning.specs.Requests.{Entry, Request}
use Rattle.meaning.specs.States.{State}
use Rattle.meaning.specs.Walk.{Concerned, no_state, in_state, End, fine, missed, stopped, Walked, Verified, walked, walked_guarded}
use Rattle.meaning.specs.Judging.{Judgement, written_over, reported, count_told, ended, within}
use Rattle.meaning.proofs.TestLaws.{pick_true, pick_false, pick-cases, pick_map, by-test}
use Rattle.meaning.proofs.KeptEnds.{EndSo, walked_stuck, GuardedStop, guarded_stuck}

-- NUMBERS. The number of an end.
abbrev pub answered : End State → ℕ
answered fine = Limits.verified
answered (missed p s) = Limits.goal_missed
answered (stopped n p u) = n

ended_number : (lent : List ℕ) (c : ℕ) (e : End State) → (ended lent c e).answer.number ≡ answered e
unfolding ended reported
ended_number lent c fine = refl
ended_number lent c (missed p s) = refl
ended_number lent c (stopped n p u) = refl

-- The count that is told of a stop is not above that of the walk.
pub told_fewer : (u : Concerned State) (c : ℕ) → count_told u c ≤ c
unfolding count_told
told_fewer no_state c = omega arith
told_fewer (in_state s) c = omega arith

pub within_number : (lent : List ℕ) (budget : ℕ) (w : Walked State) → (within lent budget w).answer.number ≡ pick (ltb budget w.count) (λ _. Limits.budget_spent) (λ _. answered w.end)
unfolding within
within_number lent budget w =
    pick_map (λ (j : Judgement). j.answer.number) (ltb budget w.count) _ _
    ∙ ap (λ (n : ℕ). pick (ltb budget w.count) (λ _. Limits.budget_spent) (λ _. n)) (ended_number lent w.count w.end)

-- A number that no stop has: of a walk without guards, any but 2, and with guards any but 2 and 43.
module _ (i : ℕ) where
  abbrev pub Never : End State → Type 0
  Never = EndSo (λ _ _. Unit {0}) (λ n _ _. n ≡ i → ⊥)

  -- Where each stop is so, and then has another number.
  pub so_never : (Stop : ℕ → ℕ → Concerned State → Type 0) → ((n p : ℕ) (u : Concerned State) → Stop n p u → n ≡ i → ⊥) → (e : End State) → EndSo (λ _ _. Unit {0}) Stop e → Never e
  so_never Stop other fine so = tt
  so_never Stop other (missed p u) so = tt
  so_never Stop other (stopped n p u) so = other n p u so

  module _ (not_2 : i ≡ Limits.not_executable → ⊥) where
    pub walked_never : (r : Request) (s : State) → Never (walked r s).end
    walked_never r s = so_never _ (λ n p u stuck q. not_2 (sym q ∙ stuck.0)) (walked r s).end (walked_stuck r s)

    pub guarded_never : (i ≡ Limits.guard_broken → ⊥) → (r : Request) (gs : List Entry) (s : State) → Never (walked_guarded r gs s).end
    guarded_never not-43 r gs s =
        so_never (GuardedStop gs) (λ n p u stuck q. ⊎_elim (λ is. not_2 (sym q ∙ is)) (λ is. not-43 (sym q ∙ is.0)) stuck.2) (walked_guarded r gs s).end (guarded_stuck gs r s)

-- THE END that a number tells.
pub answered_fine : (e : End State) → Never Limits.verified e → answered e ≡ Limits.verified → e ≡ fine
answered_fine fine never q = refl
answered_fine (missed p s) never q = absurd (omega arith)
answered_fine (stopped n p u) never q = absurd (never q)

pub answered_missed : (e : End State) → Never Limits.goal_missed e → answered e ≡ Limits.goal_missed → (p : ℕ) × (s : State) × (e ≡ missed p s)
answered_missed fine never q = absurd (omega arith)
answered_missed (missed p s) never q = (p, s, refl)
answered_missed (stopped n p u) never q = absurd (never q)

pub answered_stopped : (n : ℕ) → (n ≡ Limits.verified → ⊥) → (n ≡ Limits.goal_missed → ⊥) → (e : End State) → answered e ≡ n → (p : ℕ) × (u : Concerned State) × (e ≡ stopped n p u)
answered_stopped n not_0 not_1 fine q = absurd (not_0 (sym q))
answered_stopped n not_0 not_1 (missed p s) q = absurd (not_1 (sym q))
answered_stopped n not_0 not_1 (stopped m p u) q = (p, u, ap (λ (i : ℕ). stopped i p u) q)

-- It is a goal missed where it is none of the others.
pub answered_else : (e : End State) → Never (answered e) e → (answered e ≡ Limits.verified → ⊥) → answered e ≡ Limits.goal_missed
answered_else fine never not_0 = absurd (not_0 refl)
answered_else (missed p s) never not_0 = refl
answered_else (stopped n p u) never not_0 = absurd (never refl)

-- WITHIN A BUDGET.
module _ (lent : List ℕ) (budget : ℕ) (w : Walked State) (j : Judgement) (is : j ≡ within lent budget w) where
  number_is : j.answer.number ≡ pick (ltb budget w.count) (λ _. Limits.budget_spent) (λ _. answered w.end)
  number_is = ap (λ (x : Judgement). x.answer.number) is ∙ within_number lent budget w

  pub enough_within : w.count ≤ budget → j.answer.number ≡ answered w.end
  enough_within enough = number_is ∙ pick_false _ _ _ (le-ltb budget w.count enough)

  pub spent_within : Never Limits.budget_spent w.end → (j.answer.number ≡ Limits.budget_spent) ↔ (budget < w.count)
  spent_within never = (
    λ q. pick-cases _ _ _ (sym number_is ∙ q) (λ t _. ltb-true _ _ t) (λ _ k.
        let stop = answered_stopped Limits.budget_spent (λ z. omega arith) (λ z. omega arith) w.end k in
        absurd (subst (Never Limits.budget_spent) stop.2 never refl)),
    λ h. number_is ∙ pick_true _ _ _ (lt-ltb budget w.count h),
  )

  -- With another number than 3 it is what the walk's end says.
  pub ended_within : (j.answer.number ≡ Limits.budget_spent → ⊥) → (w.count ≤ budget) × (j ≡ ended lent w.count w.end) × (j.answer.number ≡ answered w.end)
  unfolding within
  ended_within not_3 =
      by-test (ltb budget w.count)
      (λ t. absurd (not_3 (number_is ∙ pick_true _ _ _ t)))
      (λ f. (ltb-false budget w.count f, is ∙ pick_false _ _ _ f, number_is ∙ pick_false _ _ _ f))

  -- Verified: the walk ends fine within the budget, and the answer has its count.
  pub fine_within : Never Limits.verified w.end → j.answer.number ≡ Limits.verified → Verified w × (w.count ≤ budget) × (j.answer.count ≡ w.count)
  unfolding ended
  fine_within never q =
      let e = ended_within (λ z. omega (arith, q, z)) in
      let is_fine = answered_fine w.end never (sym e.2 ∙ q) in
      (is_fine, e.0, ap (λ (x : Judgement). x.answer.count) (e.1 ∙ ap (ended lent w.count) is_fine))

  -- A miss, and a stop: the answer has its place, and its state is left.
  module _ (P : ℕ → State → Type 0) where
    pub missed_within : Never Limits.goal_missed w.end → j.answer.number ≡ Limits.goal_missed → ((p : ℕ) (s : State) → w.end ≡ missed p s → P p s) → P j.answer.place j.state
    unfolding ended reported written_over
    missed_within never q so =
        let e = ended_within (λ z. omega (arith, q, z)) in
        let m = answered_missed w.end never (sym e.2 ∙ q) in
        subst (λ (x : Judgement). P x.answer.place x.state) (sym (e.1 ∙ ap (ended lent w.count) m.2)) (so m.0 m.1 m.2)

    pub stopped_within : (n : ℕ) → (n ≡ Limits.verified → ⊥) → (n ≡ Limits.goal_missed → ⊥) → (n ≡ Limits.budget_spent → ⊥) → j.answer.number ≡ n
        → ((p : ℕ) (u : Concerned State) → w.end ≡ stopped n p u → P p (written_over lent u)) → P j.answer.place j.state
    unfolding ended reported
    stopped_within n not_0 not_1 not_3 q so =
        let e = ended_within (λ z. not_3 (sym q ∙ z)) in
        let m = answered_stopped n not_0 not_1 w.end (sym e.2 ∙ q) in
        subst (λ (x : Judgement). P x.answer.place x.state) (sym (e.1 ∙ ap (ended lent w.count) m.2)) (so m.0 m.1 m.2)
