-- The walk reads no line of an action that is not in the plan: tables with the same lines of an action step alike there. Every test of a step is over these lines.
-- Assumes nothing.
use Prim.Native.Nat.{ℕ}
use mathlib.Core.Path.{◌≡◌, refl}
use Rattle.meaning.specs.Requests.{Table, Sequence}
use Rattle.meaning.specs.Lines.{sensing}
use Rattle.meaning.specs.States.{State, can_be_run, state_after, unknown_sensed, outcome}
use Rattle.meaning.specs.Walk.{Walked, walk, table_does, table_step}
use Rattle.meaning.specs.SameLines.{OnActions, SameLinesOf}
use Rattle.meaning.proofs.WalkLaws.{map_actions, Agree, walk_agrees}

lines_agree : (t u : Table) (a : ℕ) → SameLinesOf t u a → Agree (table_step t) (table_step u) a
unfolding table_step table_does can_be_run outcome sensing unknown_sensed state_after
lines_agree t u a same = record { does = λ s. rw (same.executability, same.knowledge, same.effects) }

-- Tables that have the same lines of each of the plan's actions walk it alike.
pub no_other_action's_line : (t u : Table) (p : Sequence ℕ) → OnActions (SameLinesOf t u) p → (k : State → Walked State) (s : State) → walk (table_step t) p k s ≡ walk (table_step u) p k s
unfolding table_step
no_other_action's_line t u p same = walk_agrees (table_step t) (table_step u) refl refl p (map_actions (lines_agree t u) p same)
