-- What a verdict may be reused for: each law of the walk call's answers on requests in parts, by citing where its argument stands. Of these laws read
-- this file first. Assumes nothing.
use Prim.Native.Nat.{ℕ, ◌-◌, ◌+◌, ◌*◌, ◌≤◌, ◌<◌}
use mathlib.Core.Path.{◌≡◌}
use mathlib.Core.Bool.{Bool}
use mathlib.Core.List.{List}
use lib.ListN.{length, get_or}
use Rattle.meaning.specs.Tests.{those_of, Has}
use Rattle.meaning.specs.Limits.{Limits}
use Rattle.meaning.specs.Requests.{Request}
use Rattle.meaning.specs.Reading.{got}
use Rattle.meaning.specs.Refusals.{settled}
use Rattle.meaning.specs.Judging.{judge}
use Rattle.demands.specs.Reuse.{Parts, bytes_of, CutSo, with_facts, with_plan, asking, OneTable, join_plans, no_items, joined, answer_on, IsVerified, NotRefused, end_states}
use Rattle.meaning.proofs.SettledLaws.{settled_is}
use Rattle.meaning.proofs.VerifiedLaws
use Rattle.demands.proofs.EachRequest
use Rattle.demands.proofs.MoreFacts
use Rattle.demands.proofs.FewerGoals
use Rattle.demands.proofs.JoinedPlans
use Rattle.demands.proofs.JoinLaws
-- What is not so: rows where one more fact turns 1 into 0 and 2 into 1, where one fact less turns 0 into 1 and into 2, where the joining of two
-- verified plans is not verified, and where a budget below (c - e) + e * d is spent.
pub use Rattle.demands.proofs.ReuseCases.{reuse_cases, reuse_cases_hold, looks_ends}

-- Each request that is not refused is the bytes of parts, and is cut as they are: what follows is said of every request.
pub each_request : (lim : Limits) (request : List ℕ) (r : Request) (e : ℕ) → settled lim request ≡ got r e → (x : Parts) × (bytes_of x ≡ request) × CutSo lim x
each_request lim request r e past = EachRequest.each_request lim request r e (settled_is lim request r e past).reads

-- One lent state stands for those of all calls: an answer does not depend on the lent bytes, but for their number.
pub lent_unread : (lim : Limits) (request lent other : List ℕ) (budget : ℕ) → length lent ≡ length other → (judge lim request lent budget).answer ≡ (judge lim request other budget).answer
lent_unread = VerifiedLaws.lent_unread

module _ (lim : Limits) (room : lim.fluents ≤ lim.state) (lent : List ℕ) where
  -- MORE FACTS (FORMAT 20.6). Two requests alike but for section 2, the facts of the one among those of the other: where the first is verified within a budget and the
  -- second is not refused by 10 to 21, the second is verified within the same budget, with a count no larger.
  pub more_facts : (x : Parts) (more : List ℕ) → ((l : ℕ) → Has x.facts l → Has more l)
      → (budget : ℕ) → IsVerified lim lent budget x → NotRefused lim lent budget (with_facts more x)
      → IsVerified lim lent budget (with_facts more x) × ((answer_on lim lent budget (with_facts more x)).count ≤ (answer_on lim lent budget x).count)
  more_facts x more within budget = MoreFacts.more_facts lim room x more lent budget within

  -- FEWER GOALS (FORMAT 20.7). Where some of the goals and whether entries are kept and the others removed, a verified request stays verified, with the same count.
  pub fewer_goals : (x : Parts) → CutSo lim x → (keep keep-whether : ℕ → Bool) → (budget : ℕ) → IsVerified lim lent budget x
      → IsVerified lim lent budget (asking (those_of keep x.goals) (those_of keep-whether x.whether) x)
      × ((answer_on lim lent budget (asking (those_of keep x.goals) (those_of keep-whether x.whether) x)).count ≡ (answer_on lim lent budget x).count)
  fewer_goals x cut keep keep-whether budget = FewerGoals.fewer_goals lim room x cut keep keep-whether lent budget

  -- JOINING (FORMAT 20.8, 20.9). Two requests over one table, each fact of the second a goal of the first, both verified, each within a budget of its own; and the joined
  -- request is not refused by 10 to 21. With a first count of c, e of it end states, and a second count of d, the joined request is verified within
  -- a budget that is not below (c - e) + e * d, or not below c * d, and its count is not above these.
  module _ (x y : Parts) (cut : CutSo lim x) (cut-too : CutSo lim y) (one : OneTable x y) (leads : (l : ℕ) → Has y.facts l → Has x.goals l)
      (first second budget : ℕ) (verified : IsVerified lim lent first x) (verified-too : IsVerified lim lent second y) (passes : NotRefused lim lent budget (joined x y)) where
    abbrev c : ℕ
    c = (answer_on lim lent first x).count

    abbrev e : ℕ
    e = end_states lim (bytes_of x)

    abbrev d : ℕ
    d = (answer_on lim lent second y).count

    pub joining : (c - e) + e * d ≤ budget → IsVerified lim lent budget (joined x y) × ((answer_on lim lent budget (joined x y)).count ≤ (c - e) + e * d)
    joining = JoinedPlans.joining lim room x cut lent first second budget y one cut-too leads verified verified-too passes

    pub joining_by_product : c * d ≤ budget → IsVerified lim lent budget (joined x y) × ((answer_on lim lent budget (joined x y)).count ≤ c * d)
    joining_by_product = JoinedPlans.joining_by_product lim room x cut lent first second budget y one cut-too leads verified verified-too passes

-- JOINING IS ASSOCIATIVE, with the plan without items as its unit, on bytes (FORMAT 20.10): a plan has two count bytes.
pub plans_associate : (p q r : List ℕ) → join_plans (join_plans p q) r ≡ join_plans p (join_plans q r)
plans_associate = JoinLaws.plans_associate

pub no_items_before : (p : List ℕ) → 2 ≤ length p → get_or p 1 0 < 256 → join_plans no_items p ≡ p
no_items_before = JoinLaws.no_items_before

pub no_items_after : (p : List ℕ) → 2 ≤ length p → get_or p 1 0 < 256 → join_plans p no_items ≡ p
no_items_after = JoinLaws.no_items_after

-- And so on whole answers, with their places and the states that they leave (FORMAT 20.11).
module _ (lim : Limits) (lent : List ℕ) (budget : ℕ) where
  pub answers_associate : (x y z : Parts) → judge lim (bytes_of (joined (joined x y) z)) lent budget ≡ judge lim (bytes_of (joined x (joined y z))) lent budget
  answers_associate = JoinLaws.answers_associate lim lent budget

  pub answers_before : (x : Parts) → 2 ≤ length x.plan → get_or x.plan 1 0 < 256
      → judge lim (bytes_of (with_plan (join_plans no_items x.plan) x)) lent budget ≡ judge lim (bytes_of x) lent budget
  answers_before = JoinLaws.answers_before lim lent budget

  pub answers_after : (x : Parts) → 2 ≤ length x.plan → get_or x.plan 1 0 < 256
      → judge lim (bytes_of (with_plan (join_plans x.plan no_items) x)) lent budget ≡ judge lim (bytes_of x) lent budget
  answers_after = JoinLaws.answers_after lim lent budget
