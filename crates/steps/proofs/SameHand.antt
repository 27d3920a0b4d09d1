-- A request at hand stays at hand in other notes that agree on every slot but the mode's and those of lines, if they lead to each action's lines too. The request
-- and its guards are what they were, since none of these slots says where they stand. Assumes nothing.
use Prim.Native.Nat.{ℕ, ◌+◌, ◌*◌, ◌%◌, ◌≤◌, ◌<◌}
use native.Mathlib.Omega.{arith}
use mathlib.Core.Path.{◌≡◌, ◌∙◌, ap}
use mathlib.Core.List.{List}
use lib.ListN.{get_or}
use Rattle.meaning.specs.declared.Form.{Form}
use Rattle.meaning.specs.Limits.{format}
use Rattle.parsing.specs.Bits.{bit_of}
use Rattle.reading.specs.Noted.{effect_lines, run_lines, sensed_from, sensed_to, plan_slot, items_slot, goals_slot, guards_slot, mode_slot, pair_slot, pair_there, word_bits}
use Rattle.reading.specs.Ordered.{InOrder}
use Rattle.finding.proofs.PlanKept.{kept_agree}
use Rattle.steps.specs.Held.{plan_in, goals_in, whether_in, guards_at, guards_in, request_in}
use Rattle.steps.specs.LinesFound.{run_places, effect_places, Senses}
use Rattle.steps.specs.AtHand.{AtHand}
use Rattle.steps.proofs.NextSlots.{nexts_agree}

-- A slot that is not the mode's, and none of lines.
pub record Other (j : ℕ) : Type 0 where
  pub mode : j ≡ mode_slot → ⊥
  pub lines : effect_lines ≤ j → sensed_from ≤ j

module _ (form : Form) (s t u : List ℕ) (same : (j : ℕ) → Other j → get_or u j 0 ≡ get_or t j 0) where
  same_plan : plan_in form s u ≡ plan_in form s t
  unfolding plan_in
  same_plan = rw (same plan_slot (omega arith))

  same_goals : goals_in u ≡ goals_in t
  unfolding goals_in
  same_goals = same goals_slot (omega arith)

  same_whether : whether_in form s u ≡ whether_in form s t
  unfolding whether_in
  same_whether = rw same_goals

  same_guards : guards_at u ≡ guards_at t
  unfolding guards_at
  same_guards = same guards_slot (omega arith)

  pub request_same : request_in form s u ≡ request_in form s t
  unfolding request_in
  request_same = rw (same_plan, same_goals, same_whether)

  pub guards_same : guards_in s u ≡ guards_in s t
  unfolding guards_in
  guards_same = rw same_guards

  module _ (here : AtHand form s t) where
    senses_same : (a : ℕ) → a < format.actions → Senses form s u a
    unfolding pair_there
    senses_same a small =
        let was = here.senses a small in
        let from : get_or u (sensed_from + a) 0 ≡ get_or t (sensed_from + a) 0 = same (sensed_from + a) (omega arith) in
        let to : get_or u (sensed_to + a) 0 ≡ get_or t (sensed_to + a) 0 = same (sensed_to + a) (omega arith) in
        record {
          pair = λ f low. ap (λ (w : ℕ). bit_of w (f % word_bits)) (same (pair_slot a f) (omega arith)) ∙ was.pair f low;
          most = rw from was.most;
          from = λ f e. rw from (was.from f e);
          to = λ f e. rw to (was.to f e);
          last = rw to was.last;
          any = rw to was.any;
        }

    pub hand_same : ((a : ℕ) → a < format.actions → InOrder u effect_lines a (effect_places form s a)) → ((a : ℕ) → a < format.actions → InOrder u run_lines a (run_places form s a)) → AtHand form s u
    hand_same effects runs =
        let few = here.held.few in
        record {
          bytes = here.bytes;
          short = here.short;
          table = here.table;
          effects = effects;
          runs = runs;
          senses = senses_same;
          no_contradiction = here.no_contradiction;
          plan = rw (same_plan, same_goals, same plan_slot (omega arith), same items_slot (omega arith)) here.plan;
          held = rw same_plan (record {
            few = few;
            written = here.held.written;
            kept = kept_agree form (plan_in form s t) 0 t u (record {
              places = λ j _ h. same (0 + j) (omega arith);
              ends = λ j _ h. same (2 * format.items + j) (omega arith);
              counts = λ j _ h. same (3 * format.items + j) (omega arith);
            }) here.held.kept;
          });
          nexts = rw same_plan (nexts_agree (plan_in form s t) format.items 0 t u (record { slot = λ j _ h. same (format.items + j) (omega arith) }) here.nexts);
          goals = rw (same_goals, same_whether) here.goals;
          whether = rw same_whether here.whether;
          guards = rw same_guards here.guards;
        }
