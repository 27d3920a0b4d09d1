-- Worlds, and carrying a plan out in them (FORMAT section 9). Nothing here is taken from partial states.
use Rattle.std.specs.Prelude.{ℕ, ◌≡◌, Bool, true, false, List, [], ◌∷◌, map, ◌⊎◌}
use Rattle.meaning.specs.Tests.{fails, pick, each_of}
use Rattle.meaning.specs.Literals.{says_true, says_false, fluent_of, positive}
use Rattle.meaning.specs.Requests.{Effect, Knowledge, Table, Sequence, done, item, Item, act, branching, Branches, none, branch, Request, values}
use Rattle.meaning.specs.Lines.{effects_of, executability_of, knowledge_of, allowed, given, sensing}

-- What carrying out asks of a domain with worlds W, literals L and readings R: where an action may be run, whether it senses, what it shows
-- in a world, where it moves one, and which literals hold there.
pub record Domain (W L R : Type 0) : Type 0 where
  pub may_be_run : ℕ → W → Bool
  pub sensing : ℕ → Bool
  pub shows : ℕ → W → R
  pub moved : ℕ → W → W
  pub holds : W → L → Bool

-- The worlds still possible.
abbrev pub Worlds : Type 0 → Type 1
Worlds W = W → Type 0

module _ {W L R : Type 0} (d : Domain W L R) where
  -- The condition holds in every possible world.
  abbrev pub Sure : List L → Worlds W → Type 0
  Sure c P = (w : W) → P w → each_of (d.holds w) c ≡ true

  -- Those in which a sensing action may be run and shows what it shows in the true world v (FORMAT 9.7, 9.8).
  abbrev pub Kept : ℕ → W → Worlds W → Worlds W
  Kept a v P w = P w × (d.may_be_run a w ≡ true) × (d.shows a w ≡ d.shows a v)

  -- Each one moved in which the action may be run (FORMAT 9.5, 9.7).
  abbrev pub Moved : ℕ → Worlds W → Worlds W
  Moved a P w = (u : W) × P u × (d.may_be_run a u ≡ true) × (w ≡ d.moved a u)

  -- An action is carried out where v is the true world and P are the possible ones: it may be run in each of them, so that none is dropped,
  -- and K is wanted of the true world and the possible ones afterwards (FORMAT 9.4 to 9.9, 9.14).
  pub record Acted (a : ℕ) (K : W → Worlds W → Type 0) (v : W) (P : Worlds W) : Type 0 where
    pub allowed : (w : W) → P w → d.may_be_run a w ≡ true
    pub read : d.sensing a ≡ true → K v (Kept a v P)
    pub done : d.sensing a ≡ false → K (d.moved a v) (Moved a P)

  -- No condition holds in every possible world.
  abbrev pub NoneSure : Branches L → Worlds W → Type 0
  NoneSure none P = Unit {0}
  NoneSure (branch c b bs) P = (Sure c P → ⊥) × NoneSure bs P

  -- The guards, where there are any, hold in every possible world, and K is wanted besides (FORMAT 21.25).
  abbrev pub Guarded : List L → (W → Worlds W → Type 0) → W → Worlds W → Type 0
  Guarded [] K v P = K v P
  Guarded (g ∷ gs) K v P = Sure (g ∷ gs) P × K v P

  -- A plan is carried out, and K is wanted at its end. After each action the guards hold (FORMAT 21.25). At a branching exactly one condition
  -- holds in every possible world, and its branch is followed (FORMAT 9.10, 11.10).
  abbrev mutual
    pub CarriedUnder : (guards : List L) → Sequence L → (W → Worlds W → Type 0) → W → Worlds W → Type 0
    CarriedUnder gs done K v P = K v P
    CarriedUnder gs (item i rest) K v P = CarriedItem gs i (CarriedUnder gs rest K) v P

    pub CarriedItem : (guards : List L) → Item L → (W → Worlds W → Type 0) → W → Worlds W → Type 0
    CarriedItem gs (act p a) K v P = Acted a (Guarded gs K) v P
    CarriedItem gs (branching p bs) K v P = Chosen gs bs K v P

    pub Chosen : (guards : List L) → Branches L → (W → Worlds W → Type 0) → W → Worlds W → Type 0
    Chosen gs none K v P = ⊥
    Chosen gs (branch c b bs) K v P = (Sure c P × NoneSure bs P × CarriedUnder gs b K v P) ⊎ ((Sure c P → ⊥) × Chosen gs bs K v P)

  -- Without guards.
  abbrev pub Carried : Sequence L → (W → Worlds W → Type 0) → W → Worlds W → Type 0
  Carried = CarriedUnder []

-- A world gives every fluent a value (FORMAT 9.1).
abbrev pub World : Type 0
World = ℕ → Bool

unfoldable pub holds : World → ℕ → Bool
holds w l = pick (positive l) (λ _. w (fluent_of l)) (λ _. fails (w (fluent_of l)))

unfoldable pub may_be_run : Table → ℕ → World → Bool
may_be_run t a w = allowed (holds w) (executability_of t a)

-- The effects whose bodies hold set their fluents; the others keep their values (FORMAT 9.5).
unfoldable pub moved : Table → ℕ → World → World
moved t a w f =
    pick (given (holds w) (effects_of t a) (says_true f)) (λ _. true) λ _.
    pick (given (holds w) (effects_of t a) (says_false f)) (λ _. false) λ _.
    w f

-- Two effects of an action meet in a world: the action may be run there, and both bodies hold (FORMAT 7.34).
pub record Meet (t : Table) (e g : Effect) (w : World) : Type 0 where
  pub runs : may_be_run t e.action w ≡ true
  pub one : each_of (holds w) e.body ≡ true
  pub other : each_of (holds w) g.body ≡ true

-- The values of the sensed fluents (FORMAT 9.8).
unfoldable pub shown : Table → ℕ → World → List Bool
shown t a w = map (λ (k : Knowledge). w k.fluent) (knowledge_of t a)

unfoldable pub table_domain : Table → Domain World ℕ (List Bool)
table_domain t = record { may_be_run = may_be_run t; sensing = sensing t; shows = shown t; moved = moved t; holds = holds }

-- The worlds that have all the initial facts (FORMAT 9.2).
abbrev pub Facts : Table → Worlds World
Facts t w = each_of (holds w) t.facts ≡ true

-- At the end the true world is one of the possible ones, each goal holds in every one of them, and each whether fluent has one value across
-- them (FORMAT 9.3, 11.11, 11.12).
pub record Reached (r : Request) (v : World) (P : Worlds World) : Type 0 where
  pub true_world : P v
  pub goals : (w : World) → P w → each_of (holds w) (values r.goals) ≡ true
  pub whether : (w u : World) → P w → P u → map w (values r.whether) ≡ map u (values r.whether)

-- The plan carried out from any true world with the initial facts, knowing only these and the readings (FORMAT 11.7, 11.8).
abbrev pub CarriedOut : Request → Type 0
CarriedOut r = (v : World) → Facts r.table v → Carried (table_domain r.table) r.plan (Reached r) v (Facts r.table)

-- And with these guards: they hold in every possible world at the start and after every action and reading (FORMAT 21.25).
abbrev pub CarriedOutUnder : List ℕ → Request → Type 0
CarriedOutUnder gs r =
    (v : World) → Facts r.table v
    → Guarded (table_domain r.table) gs (CarriedUnder (table_domain r.table) gs r.plan (Reached r)) v (Facts r.table)
