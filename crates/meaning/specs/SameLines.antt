-- What it is for tables, requests and answers to be the same but for the lines of other actions, or for places and for the order and
-- repetition of lines (FORMAT 2.36).
use Rattle.std.specs.Prelude.{ℕ, ◌≡◌, List}
use Rattle.meaning.specs.declared.Answer.{Answer}
use Rattle.meaning.specs.Tests.{Has}
use Rattle.meaning.specs.Limits
use Rattle.meaning.specs.Requests.{Effect, Executability, Knowledge, Table, Sequence, done, item, Item, act, branching, Branches, none, branch, Request, values, unplaced}
use Rattle.meaning.specs.Lines.{effects_of, executability_of, knowledge_of}
use Rattle.meaning.specs.Judging.{Judgement}

-- LINES OF OTHER ACTIONS. Something holds of each action in a plan.
module _ {L : Type 0} (P : ℕ → Type 0) where
  abbrev mutual
    pub OnActions : Sequence L → Type 0
    OnActions done = Unit {0}
    OnActions (item i rest) = OnItem i × OnActions rest

    pub OnItem : Item L → Type 0
    OnItem (act p a) = P a
    OnItem (branching p bs) = OnBranches bs

    pub OnBranches : Branches L → Type 0
    OnBranches none = Unit {0}
    OnBranches (branch c b bs) = OnActions b × OnBranches bs

-- Two tables have the same lines of an action.
pub record SameLinesOf (t u : Table) (a : ℕ) : Type 0 where
  pub effects : effects_of t a ≡ effects_of u a
  pub executability : executability_of t a ≡ executability_of u a
  pub knowledge : knowledge_of t a ≡ knowledge_of u a

-- LINES SAID TWICE. What stands in the one list stands in the other, as far as R tells.
module _ {A : Type 0} (R : A → A → Type 0) where
  pub record SameSet (xs ys : List A) : Type 0 where
    pub there : (x : A) → Has xs x → (y : A) × Has ys y × R x y
    pub back : (y : A) → Has ys y → (x : A) × Has xs x × R x y

-- Two lines that say the same, wherever they stand.
pub record SameEffect (e g : Effect) : Type 0 where
  pub action : e.action ≡ g.action
  pub literal : e.literal ≡ g.literal
  pub body : e.body ≡ g.body

pub record SameExecutability (x y : Executability) : Type 0 where
  pub action : x.action ≡ y.action
  pub body : x.body ≡ y.body

pub record SameKnowledge (k j : Knowledge) : Type 0 where
  pub action : k.action ≡ j.action
  pub fluent : k.fluent ≡ j.fluent

-- Two tables say the same, but for order and repetition.
pub record SameTables (t u : Table) : Type 0 where
  pub facts : t.facts ≡ u.facts
  pub effects : SameSet SameEffect t.effects u.effects
  pub executability : SameSet SameExecutability t.executability u.executability
  pub knowledge : SameSet SameKnowledge t.knowledge u.knowledge

-- Two requests say the same, but for places and for the order and repetition of lines.
pub record SameButLines (r q : Request) : Type 0 where
  pub tables : SameTables r.table q.table
  pub plan : unplaced r.plan ≡ unplaced q.plan
  pub goals : values r.goals ≡ values q.goals
  pub whether : values r.whether ≡ values q.whether

-- What is left of a judgement without its place.
pub record Gist : Type 0 where
  pub number : ℕ
  pub input : ℕ
  pub count : ℕ
  pub state : List ℕ

abbrev pub gist : Judgement → Gist
gist j = record { number = j.answer.number; input = j.answer.input; count = j.answer.count; state = j.state }

-- What the two calls see alike in two requests: all but places, and the order and repetition of lines. A derivation is read by the counts of
-- fluents and actions, so these are the same too.
pub record SameForDerivations (r q : Request) : Type 0 where
  pub fluents : r.table.fluents ≡ q.table.fluents
  pub actions : r.table.actions ≡ q.table.actions
  pub but_lines : SameButLines r q

-- Two answers are the same, but for a place in the request.
pub record SameAnswer (a b : Answer) : Type 0 where
  pub number : a.number ≡ b.number
  pub input : a.input ≡ b.input
  pub count : a.count ≡ b.count
  pub place : (a.input ≡ Limits.the_request → ⊥) → a.place ≡ b.place
