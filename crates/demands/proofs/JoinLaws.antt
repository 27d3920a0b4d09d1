-- Plans joined as bytes: joining is associative, with the plan without items as its unit. The counts are added and the items stand one after the
-- other, so both are laws of sums and of lists. Requests with the same bytes get the same answer, its place and the state included. Assumes nothing.
use Prim.Native.Nat.{ℕ, ◌+◌, ◌*◌, ◌/◌, ◌%◌, ◌≤◌, ◌<◌}
use native.Mathlib.Omega.{arith}
use mathlib.Core.Path.{◌≡◌, refl, ◌∙◌, ap, ap₂}
use mathlib.Core.List.{List, [], ◌∷◌, ◌++◌, append_assoc, append-nil}
use lib.ListN.{length, get_or, drop}
use Rattle.meaning.specs.Limits.{Limits}
use Rattle.meaning.specs.Judging.{judge}
use Rattle.meaning.specs.Layouts.{number_written}
use Rattle.demands.specs.Reuse.{Parts, bytes_of, with_plan, items_said, join_plans, no_items, joined}

-- A count and items, one behind the other.
abbrev counted_items : ℕ → List ℕ → List ℕ
counted_items k items = number_written k ++ items

same_plan : {k j : ℕ} {items others : List ℕ} → k ≡ j → items ≡ others → counted_items k items ≡ counted_items j others
same_plan p q = ap₂ {C = List ℕ} counted_items p q

-- The items of joined plans are counted together, and stand behind the count.
pub items_joined : (p q : List ℕ) → items_said (join_plans p q) ≡ items_said p + items_said q
unfolding items_said join_plans number_written
items_joined p q = omega arith

pub behind_count : (p q : List ℕ) → drop 2 (join_plans p q) ≡ drop 2 p ++ drop 2 q
unfolding join_plans number_written
behind_count p q = refl

-- ON BYTES.
pub plans_associate : (p q r : List ℕ) → join_plans (join_plans p q) r ≡ join_plans p (join_plans q r)
unfolding join_plans number_written
plans_associate p q r =
    let counts : items_said (join_plans p q) + items_said r ≡ items_said p + items_said (join_plans q r) = omega (arith, items_joined p q, items_joined q r) in
    same_plan counts (append_assoc (drop 2 p) (drop 2 q) (drop 2 r))

-- A plan that has its two count bytes is its count and its items.
plan_parts : (p : List ℕ) → 2 ≤ length p → get_or p 1 0 < 256 → counted_items (items_said p) (drop 2 p) ≡ p
unfolding items_said number_written
plan_parts [] long byte = absurd (omega (arith, long))
plan_parts (x ∷ []) long byte = absurd (omega (arith, long))
plan_parts (x ∷ (y ∷ items)) long byte =
    let high : (x * 256 + y) / 256 ≡ x = omega (arith, byte) in
    let low : (x * 256 + y) % 256 ≡ y = omega (arith, byte) in
    ap₂ {C = List ℕ} (λ a b. a ∷ b ∷ items) high low

module _ (p : List ℕ) (long : 2 ≤ length p) (byte : get_or p 1 0 < 256) where
  pub no_items_before : join_plans no_items p ≡ p
  unfolding join_plans no_items
  no_items_before =
      let none : items_said (0 ∷ 0 ∷ []) + items_said p ≡ items_said p = unfold items_said in omega arith in
      same_plan none refl ∙ plan_parts p long byte

  pub no_items_after : join_plans p no_items ≡ p
  unfolding join_plans no_items
  no_items_after =
      let none : items_said p + items_said (0 ∷ 0 ∷ []) ≡ items_said p = unfold items_said in omega arith in
      same_plan none (append-nil (drop 2 p)) ∙ plan_parts p long byte

-- REQUESTS, and so the whole answers.
pub requests_associate : (x y z : Parts) → joined (joined x y) z ≡ joined x (joined y z)
requests_associate x y z = ap (λ (p : List ℕ). with_plan p (joined x z)) (plans_associate x.plan y.plan z.plan)

module _ (lim : Limits) (lent : List ℕ) (budget : ℕ) where
  pub answers_associate : (x y z : Parts) → judge lim (bytes_of (joined (joined x y) z)) lent budget ≡ judge lim (bytes_of (joined x (joined y z))) lent budget
  answers_associate x y z = ap (λ (r : Parts). judge lim (bytes_of r) lent budget) (requests_associate x y z)

  -- The plan without items, joined before a request's plan or after it, changes no answer.
  module _ (x : Parts) (long : 2 ≤ length x.plan) (byte : get_or x.plan 1 0 < 256) where
    abbrev answer_with : List ℕ → Type 0
    answer_with p = judge lim (bytes_of (with_plan p x)) lent budget ≡ judge lim (bytes_of x) lent budget

    pub answers_before : answer_with (join_plans no_items x.plan)
    answers_before = ap (λ (p : List ℕ). judge lim (bytes_of (with_plan p x)) lent budget) (no_items_before x.plan long byte)

    pub answers_after : answer_with (join_plans x.plan no_items)
    answers_after = ap (λ (p : List ℕ). judge lim (bytes_of (with_plan p x)) lent budget) (no_items_after x.plan long byte)
