-- The walk that is refused at the first sensing action that is too wide is the plain walk, or it stops there with 37 and counts no more (FORMAT 24.16): the two steps do the
-- same wherever the first is not refused so (`CaseWalks`). Each stop of it is a 2 with a state, or a 37 without one, and is at an item. Assumes nothing.
use Prim.Native.Nat.{ℕ, ◌≤◌, ◌<◌}
use native.Mathlib.Omega.{arith}
use mathlib.Core.Path.{◌≡◌, refl, sym, ◌∙◌, ap, subst}
use mathlib.Core.Logic.{◌⊎◌, inl, inr, ⊎_elim}
use Rattle.meaning.specs.Limits
use Rattle.meaning.specs.Requests.{Table, Request}
use Rattle.meaning.specs.States.{State, outcome}
use Rattle.meaning.specs.Walk.{Concerned, no_state, in_state, End, fine, missed, stopped, Walked, Verified, Step, table_does, table_step, judged, walked}
use Rattle.meaning.specs.Schemes.{too_wide, narrow_does, narrow_step, walked_narrow}
use Rattle.meaning.proofs.TestLaws.{by-test, pick_true, pick_false}
use Rattle.meaning.proofs.PickLaws.{pick_has}
use Rattle.meaning.proofs.RefusalLaws.{at≢nowhere}
use Rattle.meaning.proofs.Sound.{stopped≢fine}
use Rattle.meaning.proofs.KeptEnds.{any_outcome, EndSo, StepSo, judged_so, table_does_so, Stuck, walked_stuck}
use Rattle.meaning.proofs.WithinLaws.{Never, so_never}
use Rattle.meaning.proofs.PlaceLaws.{FoundBelow, RequestBelow, missed_below, EndBelow}
use Rattle.meaning.proofs.CaseWalks.{Limited, LimitsTo, walk_limited}

-- TWO WALKS.
pub does_narrow : (t : Table) (a : ℕ) (s : State) → LimitsTo Limits.sensing_too_wide no_state (narrow_does t a s) (table_does t a s)
unfolding narrow_does
does_narrow t a s = by-test (too_wide t a s) (λ wide. inr (pick_true _ _ _ wide)) (λ few. inl (pick_false _ _ _ few))

module _ (r : Request) (s : State) where
  pub narrow_limited : Limited Limits.sensing_too_wide no_state (walked_narrow r s) (walked r s)
  unfolding walked_narrow narrow_step walked table_step
  narrow_limited = walk_limited Limits.sensing_too_wide no_state (narrow_step r.table) (table_step r.table) refl refl (does_narrow r.table) r.plan (judged r) (judged r) (λ v. inl refl) s

  -- Where it ends fine, it is the plain walk.
  pub narrow_same : Verified (walked_narrow r s) → walked_narrow r s ≡ walked r s
  narrow_same is = ⊎_elim (λ same. same) (λ stop. absurd (stopped≢fine (sym stop.1 ∙ is))) narrow_limited

  -- Where the plain walk ends fine, it does too, or it is stopped with 37; and it counts no more.
  pub narrow_or_wide : Verified (walked r s) → (Verified (walked_narrow r s) ⊎ ((p : ℕ) × ((walked_narrow r s).end ≡ stopped Limits.sensing_too_wide p no_state))) × ((walked_narrow r s).count ≤ (walked r s).count)
  narrow_or_wide is =
      ⊎_elim
      (λ same. (inl (ap (λ (w : Walked State). w.end) same ∙ is), subst (λ (w : Walked State). w.count ≤ (walked r s).count) (sym same) (omega arith)))
      (λ stop. (inr (stop.0, stop.1), stop.2)) narrow_limited

-- STOPS.
abbrev pub NarrowStop : ℕ → ℕ → Concerned State → Type 0
NarrowStop n p u = ((n ≡ Limits.not_executable) × ((s : State) × (u ≡ in_state s))) ⊎ ((n ≡ Limits.sensing_too_wide) × (u ≡ no_state))

abbrev pub StuckNarrow : End State → Type 0
StuckNarrow = EndSo (λ _ _. Unit {0}) NarrowStop

pub narrow_stuck : (r : Request) (s : State) → StuckNarrow (walked_narrow r s).end
narrow_stuck r s =
    ⊎_elim (λ same. subst (λ (w : Walked State). StuckNarrow w.end) (sym same) (by_plain (walked r s).end (walked_stuck r s))) (λ stop. subst StuckNarrow (sym stop.1) (inr (refl, refl))) (narrow_limited r s)
  where
    by_plain : (e : End State) → Stuck e → StuckNarrow e
    by_plain fine stuck = tt
    by_plain (missed p u) stuck = tt
    by_plain (stopped n p u) stuck = inl stuck

-- No stop has another number than 2 and 37.
pub narrow_never : (i : ℕ) → (i ≡ Limits.not_executable → ⊥) → (i ≡ Limits.sensing_too_wide → ⊥) → (r : Request) (s : State) → Never i (walked_narrow r s).end
narrow_never i not_2 not-37 r s =
    so_never i NarrowStop (λ n p u stuck q. ⊎_elim (λ is. not_2 (sym q ∙ is.0)) (λ is. not-37 (sym q ∙ is.0)) stuck) (walked_narrow r s).end (narrow_stuck r s)

-- It misses at an entry, and stops at an item.
pub walked_narrow_below : (size : ℕ) (r : Request) → RequestBelow size r → (s : State) → EndBelow size (walked_narrow r s).end
unfolding walked_narrow narrow_step narrow_does
walked_narrow_below size r h s =
    judged_so _ _ (λ _. Unit {0}) (λ p. p < size) (λ _ _ p here. here) (narrow_step r.table) does (λ u _ p q. absurd (at≢nowhere (sym q))) r
    (λ u _ p q. subst (FoundBelow size) q (missed_below size r h u)) h.plan s tt
  where
    So : Step State → Type 0
    So = StepSo (λ p _. p < size) (λ _ p _. p < size) (λ _. Unit {0}) (λ p. p < size)

    does : (a : ℕ) (u : State) → Unit {0} → So (narrow_does r.table a u)
    does a u _ =
        pick_has So _ _ _ (λ _ p here. here)
        (λ _. table_does_so (λ p _. p < size) (λ _ p _. p < size) (λ _. Unit {0}) (λ p. p < size) (λ _ _ p here. here) r.table a u tt (any_outcome (outcome r.table a u)))
