-- What answers 1 and 2 report: which of the plan's paths, by their list, and what is true in a state, by the 0-approximation. The walk is not
-- called (FORMAT 4.36, 4.46, 8.12, 8.16 to 8.20, 11.13 to 11.16, 18.4 to 18.6, 18.10 to 18.12).
use Rattle.std.specs.Prelude.{ℕ, ◌≤◌, ◌<◌, ◌≡◌, Bool, true, false, List, [], ◌∷◌, ◌++◌, map, ◌⊎◌}
use Rattle.meaning.specs.declared.Runs.{Runs}
use Rattle.meaning.specs.declared.Runs.TheVariants.{By, Short, Never}
use Rattle.meaning.specs.Tests.{either, Has}
use Rattle.meaning.specs.Limits
use Rattle.meaning.specs.Limits.{Limits}
use Rattle.meaning.specs.Literals.{says_true, says_false}
use Rattle.meaning.specs.Requests.{Executability, Table, Sequence, done, item, Item, act, branching, Branches, none, branch, Entry, Request}
use Rattle.meaning.specs.States.{State, known, first_state}
use Rattle.meaning.specs.Walk.{in_state, table_step}
use Rattle.meaning.specs.Asking.{short_by, asked, line_of}
use Rattle.meaning.specs.Approximation.{Pair, true_in, false_in, executable, failed, state, NoneTrue, Φ̂, least}
use Rattle.meaning.specs.Paths.{arrives, stops, Path, paths}

-- A list up to the first of its entries that is so; those before it are otherwise.
pub record First {A : Type 0} (Otherwise So : A → Type 0) (xs : List A) : Type 0 where
  pub before : List A
  pub here : A
  pub after : List A
  pub split : xs ≡ before ++ (here ∷ after)
  pub otherwise : (x : A) → Has before x → Otherwise x
  pub so : So here

-- A partial state as an a-state.
unfoldable pub pair_of : State → Pair
pair_of s = record { T = λ f. known s (says_true f); F = λ f. known s (says_false f) }

-- WHAT IS ASKED. A goal is to be true, and of a whether fluent it is to be known whether.
pub data Asked : Type 0 where
  goal : Entry → Asked
  whether : Entry → Asked

unfoldable pub asked_at : Asked → ℕ
asked_at (goal e) = e.place
asked_at (whether e) = e.place

unfoldable pub met_in : Pair → Asked → Bool
met_in σ (goal e) = true_in σ e.value
met_in σ (whether e) = either (true_in σ (says_true e.value)) (false_in σ (says_true e.value))

-- The goals in order, then the whether entries in order (FORMAT 4.36).
unfoldable pub asked_by : Request → List Asked
asked_by r = map goal r.goals ++ map whether r.whether

abbrev pub AllMet : Request → Pair → Type 0
AllMet r σ = (e : Asked) → Has (asked_by r) e → met_in σ e ≡ true

-- GOAL MISSED. Every path can be run, and in some end state of definition 2.3 an entry is not met.
pub record Misses (r : Request) : Type 0 where
  pub executable : Φ̂ r.table r.plan (least r.table) failed → ⊥
  pub end_state : Pair
  pub reached : Φ̂ r.table r.plan (least r.table) (state end_state)
  pub entry : Asked
  pub asked : Has (asked_by r) entry
  pub not_met : met_in end_state entry ≡ false

-- The paths of the plan from the first state.
abbrev pub all_paths : Limits → Request → List (Path State)
all_paths lim r = paths (table_step r.table) r.plan (first_state lim r.table)

abbrev pub Arrives : Path State → Type 0
Arrives x = (v : State) × (x.ending ≡ arrives v)

-- Every path arrives. The first that misses an entry arrives in u, and the first entry not met there stands at the place.
pub record MissedAt (r : Request) (xs : List (Path State)) (place : ℕ) (u : State) : Type 0 where
  pub all_arrive : (x : Path State) → Has xs x → Arrives x
  pub path : First (λ x. (v : State) → x.ending ≡ arrives v → AllMet r (pair_of v)) (λ x. x.ending ≡ arrives u) xs
  pub entry : First (λ e. met_in (pair_of u) e ≡ true) (λ e. (met_in (pair_of u) e ≡ false) × (asked_at e ≡ place)) (asked_by r)
  pub end_state : Φ̂ r.table r.plan (least r.table) (state (pair_of u))

-- NOT EXECUTABLE. An item of the plan, in whatever branch it stands.
abbrev mutual
  pub ItemIn : Sequence ℕ → Item ℕ → Type 0
  ItemIn done i = ⊥
  ItemIn (item j rest) i = ItemOf j i ⊎ ItemIn rest i

  pub ItemOf : Item ℕ → Item ℕ → Type 0
  ItemOf (act p a) i = i ≡ act p a
  ItemOf (branching p bs) i = (i ≡ branching p bs) ⊎ ItemUnder bs i

  pub ItemUnder : Branches ℕ → Item ℕ → Type 0
  ItemUnder none i = ⊥
  ItemUnder (branch c b bs) i = ItemIn b i ⊎ ItemUnder bs i

unfoldable pub item_place : Item ℕ → ℕ
item_place (act p a) = p
item_place (branching p bs) = p

-- It can't be run in an a-state: an action has no ex-proposition true there, a branching no condition.
abbrev pub NotRun : Table → Item ℕ → Pair → Type 0
NotRun t (act p a) σ = executable t a σ ≡ false
NotRun t (branching p bs) σ = NoneTrue bs σ

-- The first path that stops, stops in u, at the place of an item that can't be run in u.
pub record StoppedAt (r : Request) (xs : List (Path State)) (place : ℕ) (u : State) : Type 0 where
  pub path : First Arrives (λ x. x.ending ≡ stops Limits.not_executable place (in_state u)) xs
  pub stop : Item ℕ
  pub in_plan : ItemIn r.plan stop
  pub stands : item_place stop ≡ place
  pub not_run : NotRun r.table stop (pair_of u)
  pub fails : Φ̂ r.table r.plan (least r.table) failed

-- WHAT WAS MISSING. A line's body is known true in the state, or a literal of it is not.
module _ (s : State) where
  abbrev pub Known : Executability → Type 0
  Known x = (l : ℕ) → Has x.body l → known s l ≡ true

  abbrev pub Lacks : Executability → Type 0
  Lacks x = (l : ℕ) × Has x.body l × (known s l ≡ false)

  -- What each case of asking stands for, of an action's lines in file order (FORMAT 18.4 to 18.6).
  module _ (xs : List Executability) where
    -- The line at p is the first that allows the action.
    abbrev pub FirstAllowing : ℕ → Type 0
    FirstAllowing p = First Lacks (λ x. Known x × (x.place ≡ p)) xs

    -- None allows it. The line at p has n literals that are not known true, none has fewer, and every line before it has more.
    pub record Nearest (p : ℕ) : Type 0 where
      pub none : (x : Executability) → Has xs x → Lacks x
      pub n : ℕ
      pub fewest : (x : Executability) → Has xs x → n ≤ short_by (known s) x.body
      pub line : First (λ x. n < short_by (known s) x.body) (λ x. (short_by (known s) x.body ≡ n) × (x.place ≡ p)) xs

    abbrev pub StandsFor : Runs → Type 0
    StandsFor r = elim r [ By p ↦ FirstAllowing p | Short p ↦ Nearest p | Never ↦ xs ≡ [] ]

-- The line of an item that can't be run in a state: that which asking names of an action, 0 of a branching (FORMAT 18.10 to 18.12).
unfoldable pub item_line : Table → Item ℕ → State → ℕ
item_line t (act p a) u = line_of (asked t a u)
item_line t (branching p bs) u = 0
