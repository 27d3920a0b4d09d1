-- The premises of the laws of reused verdicts can be met: each law is cited of requests of the proved cases, whose parts are those in which they are
-- read. Assumes nothing.
use Prim.Native.Nat.{ℕ, ◌≤◌}
use native.Mathlib.Omega.{arith}
use mathlib.Core.Path.{◌≡◌, refl}
use mathlib.Core.Bool.{false}
use mathlib.Core.List.{[], ◌∷◌}
use mathlib.Core.Logic.{◌⊎◌, inl, inr}
use Rattle.meaning.specs.Tests.{those_of}
use Rattle.meaning.specs.Limits.{format}
use Rattle.meaning.specs.Answers.{refusals}
use Rattle.meaning.specs.Paths.{first_ran, goes_on, go_on, meetings, paths_step, paths}
use Rattle.meaning.specs.Layouts.{list_written, number_written}
use Rattle.demands.specs.Reuse.{before_plan, bytes_of, CutSo, with_facts, asking, items_said, join_plans, joined, answer_on, IsVerified, one_if_arrives, arriving, ends_met, end_states}
use Rattle.meaning.proofs.Compute.{all_open}
use Rattle.meaning.proofs.Exact.{format_room}
use Rattle.meaning.proofs.Cases.{lent_room, usual}
use Rattle.demands.proofs.ReuseCases.{run_if, looks, acts}
use Rattle.demands.proofs.ReuseLaws

-- HOW THEY ARE CUT.
pub looks_cut : CutSo format looks
unfolding all_open before_plan bytes_of list_written
looks_cut = record { table = _; table_read = refl; plan = _; plan_read = refl }

pub acts_cut : CutSo format acts
unfolding all_open before_plan bytes_of list_written
acts_cut = record { table = _; table_read = refl; plan = _; plan_read = refl }

-- MORE FACTS: fluent 1 beside fluent 0.
pub run_still : IsVerified format lent_room usual (with_facts (0 ∷ 2 ∷ []) (run_if [])) × ((answer_on format lent_room usual (with_facts (0 ∷ 2 ∷ []) (run_if []))).count ≤ (answer_on format lent_room usual (with_facts (0 ∷ []) (run_if []))).count)
unfolding all_open refusals before_plan bytes_of list_written
run_still = ReuseLaws.more_facts format format_room lent_room (with_facts (0 ∷ []) (run_if [])) (0 ∷ 2 ∷ []) (λ l h. inl (one h)) usual refl refl
  where
    one : {l : ℕ} → (l ≡ 0) ⊎ ⊥ → l ≡ 0
    one (inl q) = q
    one {l = l} (inr none) = elim none [ ]

-- FEWER GOALS: none.
pub acts_still : IsVerified format lent_room usual (asking (those_of (λ (l : ℕ). false) acts.goals) (those_of (λ (f : ℕ). false) acts.whether) acts)
unfolding all_open before_plan bytes_of list_written
acts_still = (ReuseLaws.fewer_goals format format_room lent_room acts acts_cut (λ _. false) (λ _. false) usual refl).0

-- JOINING, with the budget that is named.
pub looks_then_acts : IsVerified format lent_room 5 (joined looks acts)
unfolding all_open refusals before_plan bytes_of list_written number_written items_said join_plans first_ran goes_on go_on meetings paths_step paths one_if_arrives arriving ends_met end_states
looks_then_acts =
    (ReuseLaws.joining format format_room lent_room looks acts looks_cut acts_cut (record { fluents = refl; actions = refl; lines = refl }) (λ l h. absurd h) usual usual 5 refl refl refl (omega arith)).0
