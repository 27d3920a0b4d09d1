-- What reading a plan leaves in the notes, as a function of the plan as a tree. The notes stand before the tree in each definition.
use Rattle.std.specs.Prelude.{ℕ, ◌+◌, List, Ok, Err, length, set, eqb, ltb}
use Rattle.meaning.specs.Tests.{pick}
use Rattle.meaning.specs.Limits.{format}
use Rattle.meaning.specs.Requests.{Sequence, done, item, Item, act, branching, Branches, none, branch}
use Rattle.meaning.specs.declared.Form.{Form}
use Rattle.meaning.specs.Reading.{Got, got, next, Met, body_at, sequence_at, branching_at}
use Rattle.parsing.specs.Read.{Numbered, stopped}
use Rattle.reading.specs.Listed.{span}
use Rattle.reading.specs.Noted.{item_place, item_next, branch_place, branch_item, around_from}

-- How many items a part has (FORMAT 2.30).
unfoldable mutual
  pub items_of : Sequence ℕ → ℕ
  items_of done = 0
  items_of (item i rest) = items_in i + items_of rest

  pub items_in : Item ℕ → ℕ
  items_in (act p a) = 1
  items_in (branching p bs) = 1 + items_under bs

  pub items_under : Branches ℕ → ℕ
  items_under none = 0
  items_under (branch c b rest) = items_of b + items_under rest

module _ (form : Form) where
  -- How many bytes it takes; of a sequence the items alone, after its count (FORMAT 2.21 to 2.26).
  unfoldable mutual
    pub bytes_of : Sequence ℕ → ℕ
    bytes_of done = 0
    bytes_of (item i rest) = bytes_in i + bytes_of rest

    pub bytes_in : Item ℕ → ℕ
    bytes_in (act p a) = 1
    bytes_in (branching p bs) = 2 + bytes_under bs

    pub bytes_under : Branches ℕ → ℕ
    bytes_under none = 0
    bytes_under (branch c b rest) = 1 + span form (length c) + 2 + bytes_of b + bytes_under rest

-- The first byte of an item.
unfoldable pub place_of : Item ℕ → ℕ
place_of (act p a) = p
place_of (branching p bs) = p

-- What follows an item, before the rest of its sequence: the item met next, or what stands around the sequence.
unfoldable pub following : (up met : ℕ) → Sequence ℕ → ℕ
following up met done = up
following up met (item i rest) = met

-- The same, by how many items were left with this one.
unfoldable pub number_after : (left met up : ℕ) → ℕ
number_after left met up = pick (eqb left 1) (λ _. up) (λ _. met)

-- A sequence that ends at p, told by its first item, where it has one.
unfoldable pub branch_noted : (first met p : ℕ) → List ℕ → List ℕ
branch_noted first met p t = pick (ltb first met) (λ _. set (set t (branch_place + first) p) (branch_item + first) met) (λ _. t)

module _ (form : Form) where
  -- In what follows `met` items are met before the part, and `up` is what stands around the sequence.
  unfoldable mutual
    -- The rest of a sequence whose first item is `first`, from p on.
    pub rest_noted : (up first met p : ℕ) → List ℕ → Sequence ℕ → List ℕ
    rest_noted up first met p t done = branch_noted first met p t
    rest_noted up first met p t (item i rest) =
        rest_noted up first (met + items_in i) (p + bytes_in form i) (set (inside_noted met (set t (item_place + met) (place_of i)) i) (item_next + met) (following up (met + items_in i) rest)) rest

    -- What stands inside an item.
    pub inside_noted : (met : ℕ) → List ℕ → Item ℕ → List ℕ
    inside_noted met t (act p a) = t
    inside_noted met t (branching p bs) = branches_noted (around_from + met) (met + 1) (p + 2) t bs

    -- Branches from p on; a branch's sequence starts after its condition.
    pub branches_noted : (up met p : ℕ) → List ℕ → Branches ℕ → List ℕ
    branches_noted up met p t none = t
    branches_noted up met p t (branch c b rest) =
        branches_noted up (met + items_of b) (p + (1 + span form (length c)) + (2 + bytes_of form b)) (rest_noted up met met (p + (1 + span form (length c)) + 2) t b) rest

  -- One item: its place, and what stands inside it.
  unfoldable pub item_noted : (met : ℕ) → List ℕ → Item ℕ → List ℕ
  item_noted met t i = inside_noted met (set t (item_place + met) (place_of i)) i

  -- A sequence whose count stands at p.
  unfoldable pub sequence_noted : (up met p : ℕ) → List ℕ → Sequence ℕ → List ℕ
  sequence_noted up met p t b = rest_noted up met met (p + 2) t b

  -- The plan, whose count stands at p; after its last item comes the limit of items (FORMAT 2.17).
  unfoldable pub plan_noted : (p : ℕ) → List ℕ → Sequence ℕ → List ℕ
  plan_noted p t b = sequence_noted format.items 0 p t b

-- READING WITH THE NOTES. The notes afterwards and the items met; at a fault the notes are of no use.
module _ {A : Type 0} where
  unfoldable pub noting_met : (A → List ℕ) → Got (Met A) → Got (Met (List ℕ))
  noting_met note g = next g λ x e. got (record { value = note x.value; items = x.items }) e

unfoldable pub outcome_met : Numbered → List ℕ → Got (Met (List ℕ))
outcome_met r t = elim r [ Ok x ↦ got (record { value = t; items = x.0 }) x.1 | Err f ↦ stopped f ]

-- One branch: its condition and its sequence.
unfoldable pub branch_noting : Form → (n m deep up : ℕ) → List ℕ → (p met : ℕ) → List ℕ → Got (Met (List ℕ))
branch_noting form n m deep up s p met t =
    next (body_at format form n s p) λ c q.
    noting_met (sequence_noted form up met q t) (sequence_at format form n m s (branching_at format form n m s deep) q met)
