-- What is left of a plan from one of its items on: the rest of the item's own sequence, and then what follows the branchings around it.
use Rattle.std.specs.Prelude.{ℕ, ◌+◌, ◌-◌, ◌≤◌, ◌<◌, ◌≡◌, List, length, get_or, eqb, leb, ltb}
use Rattle.meaning.specs.Tests.{pick}
use Rattle.meaning.specs.Limits.{format}
use Rattle.meaning.specs.Requests.{Sequence, done, item, Item, act, branching, Branches, none, branch}
use Rattle.meaning.specs.Derivations.{join}
use Rattle.meaning.specs.declared.Form.{Form}
use Rattle.reading.specs.Noted.{item_place, item_next, around_from}
use Rattle.reading.specs.Listed as Listed
use Rattle.reading.specs.Planned.{items_of, items_in, bytes_of, place_of, following}
use Rattle.finding.specs.PlansHeld.{ItemWritten, BranchKept}

-- From item i on, in a part with `met` items before it and `after` behind it.
unfoldable mutual
  pub rest_in : Sequence ℕ → (met i : ℕ) → Sequence ℕ → Sequence ℕ
  rest_in done met i after = after
  rest_in (item x b) met i after =
      pick (leb i met) (λ _. item x (join b after)) λ _.
      pick (ltb i (met + items_in x)) (λ _. rest_within x (met + 1) i (join b after)) λ _.
      rest_in b (met + items_in x) i after

  pub rest_within : Item ℕ → (met i : ℕ) → Sequence ℕ → Sequence ℕ
  rest_within (act p a) met i after = after
  rest_within (branching p bs) met i after = rest_under bs met i after

  pub rest_under : Branches ℕ → (met i : ℕ) → Sequence ℕ → Sequence ℕ
  rest_under none met i after = after
  rest_under (branch c b bs) met i after =
      pick (ltb i (met + items_of b)) (λ _. rest_in b met i after) (λ _. rest_under bs (met + items_of b) i after)

-- Of the whole plan; there is nothing left from the limit of items on.
unfoldable pub rest_at : Sequence ℕ → ℕ → Sequence ℕ
rest_at b i = rest_in b 0 i done

unfoldable pub after_first : Sequence ℕ → Sequence ℕ
after_first done = done
after_first (item x b) = b

-- How many items the first item of what is left has, with those inside it.
unfoldable pub span : Sequence ℕ → ℕ
span done = 0
span (item x b) = items_in x

-- By what the notes have as an item's next: an item, the limit of items, or `around_from` and the number of a branching (see the notes' slots).
unfoldable pub onward : Sequence ℕ → ℕ → Sequence ℕ
onward b c = pick (leb c format.items) (λ _. rest_at b c) (λ _. after_first (rest_at b (c - around_from)))

-- The first position is the first item; a plan without items is at its end.
unfoldable pub start : (items : ℕ) → ℕ
start items = pick (eqb items 0) (λ _. format.items) (λ _. 0)

-- An item of the plan, or the plan's end.
pub record Position (b : Sequence ℕ) (at : ℕ) : Type 0 where
  pub most : at ≤ format.items
  pub there : (at ≡ format.items → ⊥) → at < items_of b

-- WHAT THE TABLE HAS as each item's next, with `met` items before the part and `up` around its sequence.
unfoldable mutual
  pub Nexts : List ℕ → (up met : ℕ) → Sequence ℕ → Type 0
  Nexts t up met done = Unit {0}
  Nexts t up met (item i rest) = (get_or t (item_next + met) 0 ≡ following up (met + items_in i) rest) × InsideNexts t met i × Nexts t up (met + items_in i) rest

  pub InsideNexts : List ℕ → (met : ℕ) → Item ℕ → Type 0
  InsideNexts t met (act p a) = Unit {0}
  InsideNexts t met (branching p bs) = UnderNexts t (around_from + met) (met + 1) bs

  pub UnderNexts : List ℕ → (up met : ℕ) → Branches ℕ → Type 0
  UnderNexts t up met none = Unit {0}
  UnderNexts t up met (branch c b rest) = Nexts t up met b × UnderNexts t up (met + items_of b) rest

-- WHAT STANDS THERE of item i of the plan b. What follows it is past all that is inside it, and so is the end of the branching around it.
pub record Next (t : List ℕ) (b : Sequence ℕ) (i : ℕ) (after : Sequence ℕ) : Type 0 where
  pub later : get_or t (item_next + i) 0 ≤ format.items → i + span (rest_at b i) ≤ get_or t (item_next + i) 0
  pub at : get_or t (item_next + i) 0 ≤ format.items → Position b (get_or t (item_next + i) 0)
  pub around : format.items < get_or t (item_next + i) 0 → get_or t (item_next + i) 0 < around_from + i
  pub within : format.items < get_or t (item_next + i) 0 → i + span (rest_at b i) ≤ get_or t (item_next + i) 0 - around_from + span (rest_at b (get_or t (item_next + i) 0 - around_from))
  pub rest : onward b (get_or t (item_next + i) 0) ≡ after

-- One branch with `met` items before it, whose sequence is d and which ends at p.
pub record BranchLaid (t : List ℕ) (b : Sequence ℕ) (met p : ℕ) (d after : Sequence ℕ) : Type 0 where
  pub kept : BranchKept t met p d
  pub there : 0 < items_of d → met < items_of b
  pub rest : 0 < items_of d → rest_at b met ≡ join d after

unfoldable pub BranchesLaid : Form → (t : List ℕ) (b : Sequence ℕ) (met p : ℕ) (after : Sequence ℕ) → Branches ℕ → Type 0
BranchesLaid form t b met p after none = Unit {0}
BranchesLaid form t b met p after (branch c d bs) =
    BranchLaid t b met (p + (1 + Listed.span form (length c)) + (2 + bytes_of form d)) d after × BranchesLaid form t b (met + items_of d) (p + (1 + Listed.span form (length c)) + (2 + bytes_of form d)) after bs

unfoldable pub InsideLaid : Form → (t : List ℕ) (b : Sequence ℕ) (i : ℕ) (after : Sequence ℕ) → Item ℕ → Type 0
InsideLaid form t b i after (act p a) = a < format.actions
InsideLaid form t b i after (branching p bs) = BranchesLaid form t b (i + 1) (p + 2) after bs

pub record ItemLaid (form : Form) (s t : List ℕ) (b : Sequence ℕ) (i : ℕ) : Type 0 where
  pub this : Item ℕ
  pub after : Sequence ℕ
  pub rest : rest_at b i ≡ item this after
  pub place : get_or t (item_place + i) 0 ≡ place_of this
  pub written : ItemWritten form s this
  pub inside : InsideLaid form t b i after this
  pub next : Next t b i after
