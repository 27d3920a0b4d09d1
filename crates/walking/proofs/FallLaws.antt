-- The walk ends: at each call the position rises, or the same position is met with a higher fluent. Assumes nothing.
use Prim.Native.Nat.{ℕ, ◌+◌, ◌-◌, ◌*◌, ◌≤◌, ◌<◌}
use native.Mathlib.Omega.{arith}
use mathlib.Core.Path.{◌≡◌, sym, ◌∙◌, ap, subst}
use mathlib.Core.List.{List}
use lib.ListN.{get_or}
use Rattle.std.specs.Prelude.{Option, Some}
use Rattle.meaning.specs.Limits.{format}
use Rattle.meaning.specs.declared.Form.{Form}
use Rattle.meaning.specs.States.{State}
use Rattle.steps.specs.Held.{plan_in}
use Rattle.steps.specs.Rests.{Position}
use Rattle.steps.specs.Steps.{Followed, Chosen}
use Rattle.walking.specs.Walks.{action_at}

-- What falls: the items left, and among calls at one item the fluents left. The readings of a fluent come before those of its higher values.
abbrev pub walk_measure : (at : ℕ) → ℕ
walk_measure at = (format.items + 1 - at) * (2 * format.fluents + 2)

abbrev pub branching_measure : (item : ℕ) → ℕ
branching_measure i = (format.items - i) * (2 * format.fluents + 2) + (2 * format.fluents + 1)

abbrev pub fork_measure : (item fluent : ℕ) → ℕ
fork_measure i f = (format.items - i) * (2 * format.fluents + 2) + (2 * (format.fluents - f) + 1)

abbrev pub higher_measure : (item fluent : ℕ) → ℕ
higher_measure i f = (format.items - i) * (2 * format.fluents + 2) + 2 * (format.fluents - f)

-- A fork calls the fork of a higher fluent, the walk of what follows, and its higher values. These call those of a higher fluent, and the walk of what follows.
pub fork_falls : (i f g μ : ℕ) → fork_measure i f ≡ μ → f < g → g < format.fluents → fork_measure i g < μ
fork_falls i f g μ is rises near = omega arith

pub fork_walk_falls : {form : Form} (s t : List ℕ) (i f r μ : ℕ) → fork_measure i f ≡ μ → f < format.fluents → Followed form s t i r → walk_measure r < μ
fork_walk_falls s t i f r μ is small follows = let h = follows.later in omega arith

pub fork_higher_falls : (i f μ : ℕ) → fork_measure i f ≡ μ → higher_measure i f < μ
fork_higher_falls i f μ is = omega arith

pub higher_falls : (i f g μ : ℕ) → higher_measure i f ≡ μ → f < g → g < format.fluents → higher_measure i g < μ
higher_falls i f g μ is rises near = omega arith

pub higher_walk_falls : {form : Form} (s t : List ℕ) (i f r μ : ℕ) → higher_measure i f ≡ μ → f < format.fluents → Followed form s t i r → walk_measure r < μ
higher_walk_falls s t i f r μ is small follows = let h = follows.later in omega arith

-- The walk from a position calls what walks an item from there on.
pub walk_branching_falls : (start i μ : ℕ) → walk_measure start ≡ μ → start ≤ i → i < format.items → branching_measure i < μ
walk_branching_falls start i μ is later near = omega arith

pub walk_fork_falls : (start i f μ : ℕ) → walk_measure start ≡ μ → start ≤ i → i < format.items → fork_measure i f < μ
walk_fork_falls start i f μ is later near = omega arith

pub branching_walk_falls : {form : Form} (s t : List ℕ) (i : ℕ) (marks : State) (f : Option ℕ) (q μ : ℕ) → branching_measure i ≡ μ → Chosen form s t i marks f → f ≡ Some q → walk_measure q < μ
branching_walk_falls s t i marks f q μ is chosen taken = let h = chosen.later q taken in omega arith

pub follow_falls : {form : Form} (s t : List ℕ) (i r : ℕ) → Followed form s t i r → i < format.items → format.items - r < format.items - i
follow_falls s t i r follows near = let h = follows.later in omega arith

-- A fluent is within their number or not.
pub near_far : (g n : ℕ) → g < n → n ≤ g → ⊥
near_far g n near far = omega arith

-- What the calls require.
pub followed_position : {form : Form} (s t : List ℕ) (i r : ℕ) → Followed form s t i r → Position (plan_in form s t) r
followed_position s t i r follows = follows.at

pub followed_as : {form : Form} (s t : List ℕ) (i r q : ℕ) → r ≡ q → Followed form s t i q → Followed form s t i r
followed_as {form} s t i r q is follows = subst (Followed form s t i) (sym is) follows

pub chosen_position : {form : Form} (s t : List ℕ) (i : ℕ) (marks : State) (f : Option ℕ) (q : ℕ) → Chosen form s t i marks f → f ≡ Some q → Position (plan_in form s t) q
chosen_position s t i marks f q chosen taken = chosen.at q taken

pub opens_branching : (s t : List ℕ) (i : ℕ) → action_at s t i ≡ 255 → get_or s (get_or t (0 + i) 0) 0 ≡ 255
unfolding action_at
opens_branching s t i is = is

pub is_branching : (s t : List ℕ) (i p : ℕ) → p ≡ get_or t (0 + i) 0 → get_or s p 0 ≡ 255 → action_at s t i ≡ 255
unfolding action_at
is_branching s t i p place byte = ap (λ (q : ℕ). get_or s q 0) (sym place) ∙ byte

pub action_here : (s t : List ℕ) (i p a : ℕ) → p ≡ get_or t (0 + i) 0 → a ≡ get_or s p 0 → action_at s t i < format.actions → a < format.actions
unfolding action_at
action_here s t i p a place is small = let same : a ≡ get_or s (get_or t (0 + i) 0) 0 = is ∙ ap (λ (q : ℕ). get_or s q 0) place in omega arith

pub action_there : (s t : List ℕ) (i p a : ℕ) → p ≡ get_or t (0 + i) 0 → a ≡ get_or s p 0 → a < format.actions → action_at s t i < format.actions
unfolding action_at
action_there s t i p a place is small = let same : a ≡ get_or s (get_or t (0 + i) 0) 0 = is ∙ ap (λ (q : ℕ). get_or s q 0) place in omega arith
