-- The table whose lines are reached by its own index: it has the same lines of each action, so it is walked alike, and the line that answer 2 carries is the same.
-- Each offset is a line's place, at which its reader finds the line. Assumes nothing.
use Prim.Native.Nat.{ℕ}
use native.Mathlib.Omega.{arith}
use mathlib.Core.Path.{◌≡◌, refl, ◌∙◌, ap}
use mathlib.Core.List.{List, [], ◌∷◌, map}
use mathlib.Core.Logic.{inl, inr}
use lib.ListN.{get_or}
use lib.Dec.{eqb}
use Rattle.meaning.specs.Tests.{those_of, Has}
use Rattle.meaning.specs.Limits.{Limits}
use Rattle.meaning.specs.Requests.{Effect, Executability, Table, Request}
use Rattle.meaning.specs.Lines.{effects_of, executability_of, knowledge_of}
use Rattle.meaning.specs.Reading.{Flags, Got, got, effect_at, executability_at}
use Rattle.meaning.specs.Refusals.{settled}
use Rattle.meaning.specs.States.{State, first_state}
use Rattle.meaning.specs.Walk.{judged, walked}
use Rattle.meaning.specs.Judging
use Rattle.meaning.specs.Judging.{Judgement}
use Rattle.meaning.specs.Asking.{asked, line_at, line_told}
use Rattle.meaning.specs.SameLines.{SameLinesOf}
use Rattle.meaning.specs.Indexes
use Rattle.meaning.specs.Indexes.{effect_places, run_places, index_of, and_line, lines_at, each_action, by_index}
use Rattle.meaning.proofs.TestLaws.{those_has}
use Rattle.meaning.proofs.WalkLaws.{on_actions}
use Rattle.meaning.proofs.LineSteps.{no_other_action's_line}
use Rattle.meaning.proofs.TableLines.{LinesThere, settled_lines}
use Rattle.meaning.proofs.ActionLines.{each_same, of_parted}
use Rattle.meaning.proofs.IndexLaws.{effects_there, runs_there}

-- Lines that are each read at their places are read so one after another.
pub lines_back : {A : Type 0} (line : ℕ → Got A) (place : A → ℕ) (xs : List A) → ((x : A) → Has xs x → (e : ℕ) × (line (place x) ≡ got x e)) → lines_at line (map place xs) ≡ xs
unfolding lines_at and_line
lines_back line place [] there = refl
lines_back {A} line place (x ∷ xs) there =
    ap (λ (g : Got A). and_line g (lines_at line (map place xs))) (there x (inl refl)).1
    ∙ ap {B = List A} (λ ys. x ∷ ys) (lines_back line place xs (λ y h. there y (inr h)))

module _ (lim : Limits) (s : List ℕ) (t : Table) (lines : LinesThere lim s t) where
  -- The lines of an action at its offsets are its lines.
  pub effects_reached : (a : ℕ) → lines_at (effect_at lim Flags t.fluents t.actions s) (effect_places t a) ≡ effects_of t a
  unfolding effect_places effects_of
  effects_reached a = lines_back _ _ (effects_of t a) (λ x h. let w = lines.effects x (those_has _ t.effects x h).0 in (w.end, w.reads))

  pub runs_reached : (a : ℕ) → lines_at (executability_at lim Flags t.fluents t.actions s) (run_places t a) ≡ executability_of t a
  unfolding run_places executability_of
  runs_reached a = lines_back _ _ (executability_of t a) (λ x h. let w = lines.runs x (those_has _ t.executability x h).0 in (w.end, w.reads))

  effects_put : (by_index lim s (index_of t) t).effects ≡ each_action (effects_of t) 0 t.actions
  unfolding by_index
  effects_put = each_same _ (effects_of t) 0 t.actions (λ a _ less. ap (lines_at (effect_at lim Flags t.fluents t.actions s)) (effects_there t a (omega (arith, less))) ∙ effects_reached a)

  runs_put : (by_index lim s (index_of t) t).executability ≡ each_action (executability_of t) 0 t.actions
  unfolding by_index
  runs_put = each_same _ (executability_of t) 0 t.actions (λ a _ less. ap (lines_at (executability_at lim Flags t.fluents t.actions s)) (runs_there t a (omega (arith, less))) ∙ runs_reached a)

  pub indexed_lines : (a : ℕ) → SameLinesOf (by_index lim s (index_of t) t) t a
  unfolding by_index effects_of executability_of knowledge_of
  indexed_lines a = record {
    effects = ap (those_of (λ (e : Effect). eqb e.action a)) effects_put ∙ of_parted (λ (e : Effect). e.action) t.actions t.effects (λ x h. (lines.effects x h).acts) a;
    executability = ap (those_of (λ (x : Executability). eqb x.action a)) runs_put ∙ of_parted (λ (x : Executability). x.action) t.actions t.executability (λ x h. (lines.runs x h).acts) a;
    knowledge = refl;
  }

  -- Asking goes by the executability lines alone.
  asked_indexed : (a : ℕ) (u : State) → asked (by_index lim s (index_of t) t) a u ≡ asked t a u
  unfolding asked
  asked_indexed a u = rw (indexed_lines a).executability

  pub indexed_line_told : (request : List ℕ) (j : Judgement) → line_told (by_index lim s (index_of t) t) request j ≡ line_told t request j
  unfolding line_told line_at
  indexed_line_told request j = rw (asked_indexed (get_or request j.answer.place 0) j.state)

-- The walk by the index of a settled request is the walk.
module _ (lim : Limits) (s : List ℕ) (r : Request) (e : ℕ) (past : settled lim s ≡ got r e) where
  pub indexed_walk : Indexes.walk_of lim s (index_of r.table) r ≡ Judging.walk_of lim r
  unfolding walked
  indexed_walk =
      no_other_action's_line (by_index lim s (index_of r.table) r.table) r.table r.plan
      (on_actions _ (indexed_lines lim s r.table (settled_lines lim s r e past)) r.plan) (judged r) (first_state lim r.table)
