-- When a request matches a values request in which every fluent has two values (FORMAT 26.27): it is the same once every place is left out, the value 0 counts as true and
-- the value 1 as false.
use Rattle.std.specs.Prelude.{ℕ, ◌+◌, ◌*◌, ◌/◌, ◌%◌, ◌≡◌, List, [], ◌∷◌, map, ◌⊎◌, eqb}
use Rattle.meaning.specs.Tests.{either, pick}
use Rattle.meaning.specs.Literals.{says_true, says_false}
use Rattle.meaning.specs.Requests.{EffectOver, ExecutabilityOver, Knowledge, TableOver, Sequence, done, item, Item, act, branching, Branches, none, branch, RequestOver, values, Effect, Executability, Entry, Request}
use Rattle.meaning.specs.Judging.{Judgement}

-- LITERALS. "f is v" and "f is not v", as the number of their two bytes (FORMAT 26.5).
abbrev pub is_value : (fluent value : ℕ) → ℕ
is_value f v = f * 256 + 2 * v

abbrev pub is_not_value : (fluent value : ℕ) → ℕ
is_not_value f v = f * 256 + (2 * v + 1)

-- "f is 0" and "f is not 1" are the literal 2f, and "f is 1" and "f is not 0" are 2f + 1.
abbrev pub SameLiteral : (valued plain : ℕ) → Type 0
SameLiteral l m =
    (f : ℕ)
    × (((m ≡ says_true f) × ((l ≡ is_value f 0) ⊎ (l ≡ is_not_value f 1)))
    ⊎ ((m ≡ says_false f) × ((l ≡ is_value f 1) ⊎ (l ≡ is_not_value f 0))))

-- Of an effect, which says no "is not" (FORMAT 26.8).
abbrev pub SameSetting : (valued plain : ℕ) → Type 0
SameSetting l m = (f : ℕ) × (((m ≡ says_true f) × (l ≡ is_value f 0)) ⊎ ((m ≡ says_false f) × (l ≡ is_value f 1)))

-- LISTS, entry by entry.
module _ {A B : Type 0} (Same : A → B → Type 0) where
  abbrev pub Pairwise : List A → List B → Type 0
  Pairwise [] [] = Unit {0}
  Pairwise [] (y ∷ ys) = ⊥
  Pairwise (x ∷ xs) [] = ⊥
  Pairwise (x ∷ xs) (y ∷ ys) = Same x y × Pairwise xs ys

pub record SameKnowledgeLine (k j : Knowledge) : Type 0 where
  pub action : k.action ≡ j.action
  pub fluent : k.fluent ≡ j.fluent

-- REQUESTS over literals of two types, some of which are the same, and some of which are so in effects. Places are left out.
module _ {L M : Type 0} (Same Sets : L → M → Type 0) where
  pub record SameEffectLine (e : EffectOver L) (g : EffectOver M) : Type 0 where
    pub action : e.action ≡ g.action
    pub literal : Sets e.literal g.literal
    pub body : Pairwise Same e.body g.body

  pub record SameRunLine (x : ExecutabilityOver L) (y : ExecutabilityOver M) : Type 0 where
    pub action : x.action ≡ y.action
    pub body : Pairwise Same x.body y.body

  pub record SameTable (t : TableOver L) (u : TableOver M) : Type 0 where
    pub fluents : t.fluents ≡ u.fluents
    pub actions : t.actions ≡ u.actions
    pub facts : Pairwise Same t.facts u.facts
    pub effects : Pairwise SameEffectLine t.effects u.effects
    pub executability : Pairwise SameRunLine t.executability u.executability
    pub knowledge : Pairwise SameKnowledgeLine t.knowledge u.knowledge

  abbrev mutual
    pub SameItems : Sequence L → Sequence M → Type 0
    SameItems done done = Unit {0}
    SameItems done (item j more) = ⊥
    SameItems (item i rest) done = ⊥
    SameItems (item i rest) (item j more) = SameItem i j × SameItems rest more

    pub SameItem : Item L → Item M → Type 0
    SameItem (act p a) (act q b) = a ≡ b
    SameItem (act p a) (branching q cs) = ⊥
    SameItem (branching p bs) (act q b) = ⊥
    SameItem (branching p bs) (branching q cs) = SameBranches bs cs

    pub SameBranches : Branches L → Branches M → Type 0
    SameBranches none none = Unit {0}
    SameBranches none (branch d c cs) = ⊥
    SameBranches (branch c b bs) none = ⊥
    SameBranches (branch c b bs) (branch d g cs) = Pairwise Same c d × SameItems b g × SameBranches bs cs

  pub record SameRequest (x : RequestOver L) (y : RequestOver M) : Type 0 where
    pub table : SameTable x.table y.table
    pub plan : SameItems x.plan y.plan
    pub goals : Pairwise Same (values x.goals) (values y.goals)
    pub whether : values x.whether ≡ values y.whether

-- The second request matches the first, a values request.
abbrev pub Matches : (valued plain : Request) → Type 0
Matches = SameRequest SameLiteral SameSetting

-- THE MATCH of a values request: each of its literals as the literal that it is, and all else as it was.
unfoldable pub plain_literal : ℕ → ℕ
plain_literal l = pick (either (eqb (l % 256) 0) (eqb (l % 256) 3)) (λ _. says_true (l / 256)) (λ _. says_false (l / 256))

abbrev pub plain_effect : Effect → Effect
plain_effect e = record { place = e.place; action = e.action; literal = plain_literal e.literal; body = map plain_literal e.body }

abbrev pub plain_line : Executability → Executability
plain_line x = record { place = x.place; action = x.action; body = map plain_literal x.body }

abbrev mutual
  pub plain_items : Sequence ℕ → Sequence ℕ
  plain_items done = done
  plain_items (item i rest) = item (plain_item i) (plain_items rest)

  pub plain_item : Item ℕ → Item ℕ
  plain_item (act p a) = act p a
  plain_item (branching p bs) = branching p (plain_branches bs)

  pub plain_branches : Branches ℕ → Branches ℕ
  plain_branches none = none
  plain_branches (branch c b bs) = branch (map plain_literal c) (plain_items b) (plain_branches bs)

abbrev pub plain_goal : Entry → Entry
plain_goal e = record { place = e.place; value = plain_literal e.value }

abbrev pub plain_request : Request → Request
plain_request r = record {
  table = record {
    fluents = r.table.fluents;
    actions = r.table.actions;
    facts = map plain_literal r.table.facts;
    effects = map plain_effect r.table.effects;
    executability = map plain_line r.table.executability;
    knowledge = r.table.knowledge;
  };
  plan = plain_items r.plan;
  goals = map plain_goal r.goals;
  whether = r.whether;
  whether_place = r.whether_place;
}

-- A judgement with its place left out.
unfoldable pub placeless : Judgement → Judgement
placeless j = record { answer = record { number = j.answer.number; input = j.answer.input; place = 0; count = j.answer.count }; state = j.state }
