-- What a request says once it is read: its table, its plan as a tree, its goals. Every part that an answer may name keeps its place.
use Rattle.std.specs.Prelude.{ℕ, List, map}

-- Fluents and actions are numbers; literals are of whatever type L, and a body is a list of them. The lines of sections 3 to 5
-- (FORMAT 2.14 to 2.16).
pub record EffectOver (L : Type 0) : Type 0 where
  pub place : ℕ
  pub action : ℕ
  pub literal : L
  pub body : List L

pub record ExecutabilityOver (L : Type 0) : Type 0 where
  pub place : ℕ
  pub action : ℕ
  pub body : List L

pub record Knowledge : Type 0 where
  pub place : ℕ
  pub action : ℕ
  pub fluent : ℕ

-- Sections 1 to 5 (FORMAT 2.12 to 2.16).
pub record TableOver (L : Type 0) : Type 0 where
  pub fluents : ℕ
  pub actions : ℕ
  pub facts : List L
  pub effects : List (EffectOver L)
  pub executability : List (ExecutabilityOver L)
  pub knowledge : List Knowledge

-- A plan is a sequence of items (FORMAT 2.21 to 2.26). A condition is a list of literals.
mutual
  pub data Sequence (L : Type 0) : Type 0 where
    done : Sequence L
    item : Item L → Sequence L → Sequence L

  pub data Item (L : Type 0) : Type 0 where
    act : (place action : ℕ) → Item L
    branching : (place : ℕ) → Branches L → Item L

  pub data Branches (L : Type 0) : Type 0 where
    none : Branches L
    branch : (condition : List L) → Sequence L → Branches L → Branches L

-- A plan with every place taken as 0: what is left of it wherever it stands.
module _ {L : Type 0} where
  abbrev mutual
    pub unplaced : Sequence L → Sequence L
    unplaced done = done
    unplaced (item i rest) = item (unplaced_item i) (unplaced rest)

    pub unplaced_item : Item L → Item L
    unplaced_item (act p a) = act 0 a
    unplaced_item (branching p bs) = branching 0 (unplaced_branches bs)

    pub unplaced_branches : Branches L → Branches L
    unplaced_branches none = none
    unplaced_branches (branch c b bs) = branch c (unplaced b) (unplaced_branches bs)

-- An entry of the goals, a literal, or of the whether list, a fluent (FORMAT 2.18, 2.19).
pub record EntryOver (A : Type 0) : Type 0 where
  pub place : ℕ
  pub value : A

unfoldable pub values : {A : Type 0} → List (EntryOver A) → List A
values {A} = map (λ (e : EntryOver A). e.value)

-- All eight sections (FORMAT 2.11). The whether list keeps the place of its count too.
pub record RequestOver (L : Type 0) : Type 0 where
  pub table : TableOver L
  pub plan : Sequence L
  pub goals : List (EntryOver L)
  pub whether : List (EntryOver ℕ)
  pub whether_place : ℕ

-- The format's own requests: a literal is a number (FORMAT 2.2, 2.3).
abbrev pub Effect : Type 0
Effect = EffectOver ℕ

abbrev pub Executability : Type 0
Executability = ExecutabilityOver ℕ

abbrev pub Table : Type 0
Table = TableOver ℕ

abbrev pub Entry : Type 0
Entry = EntryOver ℕ

abbrev pub Request : Type 0
Request = RequestOver ℕ
