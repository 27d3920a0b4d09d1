-- What the laws of reused verdicts speak of: a request in its parts, requests alike but for one part, plans joined, and the end states of a
-- walk. Definitions only.
use Rattle.std.specs.Prelude.{ℕ, ◌+◌, ◌*◌, ◌≡◌, false, List, [], ◌∷◌, ◌++◌, length, get_or, drop}
use Rattle.meaning.specs.declared.Answer.{Answer}
use Rattle.meaning.specs.Limits
use Rattle.meaning.specs.Limits.{Limits}
use Rattle.meaning.specs.Literals.{among}
use Rattle.meaning.specs.Requests.{Table, Sequence, Request}
use Rattle.meaning.specs.declared.Form.TheVariants.{Flags}
use Rattle.meaning.specs.Reading.{Got, got, fault, Met, plan_at, table_at}
use Rattle.meaning.specs.Refusals.{settled}
use Rattle.meaning.specs.Judging.{judge}
use Rattle.meaning.specs.Answers.{refusals}
use Rattle.meaning.specs.Paths.{Ending, arrives, stops, Path}
use Rattle.meaning.specs.Reported.{all_paths}
use Rattle.meaning.specs.Layouts.{list_written, number_written}

-- A REQUEST IN ITS PARTS (FORMAT 2.11 to 2.19): the counts of fluents and actions, the entries of section 2, the bytes of sections 3 to 5, the
-- bytes of section 6, the entries of section 7 and those of section 8.
pub record Parts : Type 0 where
  pub fluents : ℕ
  pub actions : ℕ
  pub facts : List ℕ
  pub lines : List ℕ
  pub plan : List ℕ
  pub goals : List ℕ
  pub whether : List ℕ

-- Its bytes up to the plan, and all of them. A list is written as its count and its entries.
unfoldable pub before_plan : Parts → List ℕ
before_plan x = x.fluents ∷ x.actions ∷ (list_written x.facts ++ x.lines)

unfoldable pub bytes_of : Parts → List ℕ
bytes_of x = before_plan x ++ (x.plan ++ (list_written x.goals ++ list_written x.whether))

-- Reading cuts the bytes where the parts do: sections 1 to 5 end where the plan begins, and the plan ends where the goals begin. Where the facts
-- and the goals end their counts say, so nothing has to be said of these.
pub record CutSo (lim : Limits) (x : Parts) : Type 0 where
  pub table : Table
  pub table_read : table_at lim Flags (bytes_of x) 0 ≡ got table (length (before_plan x))
  pub plan : Met (Sequence ℕ)
  pub plan_read : plan_at lim Flags x.fluents x.actions (bytes_of x) (length (before_plan x)) ≡ got plan (length (before_plan x) + length x.plan)

-- ALIKE BUT FOR ONE PART. The request with other facts, with another plan, and with other goals and whether entries.
abbrev pub with_facts : List ℕ → Parts → Parts
with_facts facts x = record {
  fluents = x.fluents;
  actions = x.actions;
  facts = facts;
  lines = x.lines;
  plan = x.plan;
  goals = x.goals;
  whether = x.whether;
}

abbrev pub with_plan : List ℕ → Parts → Parts
with_plan plan x = record {
  fluents = x.fluents;
  actions = x.actions;
  facts = x.facts;
  lines = x.lines;
  plan = plan;
  goals = x.goals;
  whether = x.whether;
}

abbrev pub asking : (goals whether : List ℕ) → Parts → Parts
asking goals whether x = record {
  fluents = x.fluents;
  actions = x.actions;
  facts = x.facts;
  lines = x.lines;
  plan = x.plan;
  goals = goals;
  whether = whether;
}

-- One table: the counts are the same, and so are the bytes of sections 3 to 5.
pub record OneTable (x y : Parts) : Type 0 where
  pub fluents : x.fluents ≡ y.fluents
  pub actions : x.actions ≡ y.actions
  pub lines : x.lines ≡ y.lines

-- PLANS JOINED (FORMAT 20.3). How many items a plan's two count bytes say (FORMAT 2.22).
unfoldable pub items_said : List ℕ → ℕ
items_said p = get_or p 0 0 * 256 + get_or p 1 0

-- The two counts are added, and the items of the one stand before those of the other. (Above 65,535 the first number is no byte, and no request
-- holds such a plan.)
unfoldable pub join_plans : List ℕ → List ℕ → List ℕ
join_plans p q = number_written (items_said p + items_said q) ++ (drop 2 p ++ drop 2 q)

-- The plan without items.
unfoldable pub no_items : List ℕ
no_items = 0 ∷ 0 ∷ []

-- From the first request's facts, by both plans, to what the second asks (FORMAT 20.4).
abbrev pub joined : Parts → Parts → Parts
joined x y = with_plan (join_plans x.plan y.plan) (asking y.goals y.whether x)

-- ANSWERS of the walk call on a request in parts: the answer, that its number is 0, and that its number is none of 10 to 21 (FORMAT 20.2).
abbrev pub answer_on : Limits → (lent : List ℕ) → (budget : ℕ) → Parts → Answer
answer_on lim lent budget x = (judge lim (bytes_of x) lent budget).answer

abbrev pub IsVerified : Limits → (lent : List ℕ) → (budget : ℕ) → Parts → Type 0
IsVerified lim lent budget x = (answer_on lim lent budget x).number ≡ Limits.verified

abbrev pub NotRefused : Limits → (lent : List ℕ) → (budget : ℕ) → Parts → Type 0
NotRefused lim lent budget x = among (answer_on lim lent budget x).number refusals ≡ false

-- END STATES (FORMAT 20.5). How many of the paths arrive in one.
module _ {S : Type 0} where
  unfoldable pub one_if_arrives : Ending S → ℕ
  one_if_arrives (arrives s) = 1
  one_if_arrives (stops n p u) = 0

  unfoldable pub arriving : List (Path S) → ℕ
  arriving [] = 0
  arriving (x ∷ xs) = one_if_arrives x.ending + arriving xs

-- How many end states a request's plan has: of a verified request, those that the walk meets and counts. None where the request is refused.
unfoldable pub ends_met : Limits → Got Request → ℕ
ends_met lim (got r e) = arriving (all_paths lim r)
ends_met lim (fault n p) = 0

unfoldable pub end_states : Limits → List ℕ → ℕ
end_states lim request = ends_met lim (settled lim request)
