-- A volume that is guided: each answered action is done once before the next call, and the readings are truthful (FORMAT 25.24, 25.25). What carrying
-- out an action means is demand 3's own definition, `Worlds.Acted`.
use Rattle.std.specs.Prelude.{ℕ, ◌≡◌, List, [], ◌∷◌, ◌⊎◌, eqb}
use Rattle.meaning.specs.Tests.{fails}
use Rattle.meaning.specs.Limits.{Limits}
use Rattle.meaning.specs.Requests.{Table, Sequence, done, item, Item, act, branching, Branches, none, branch, Request}
use Rattle.meaning.specs.Refusals.{nowhere}
use Rattle.meaning.specs.States.{State}
use Rattle.meaning.specs.Walk.{missed_in}
use Rattle.meaning.specs.Worlds.{Domain, Worlds, Sure, Acted, World, table_domain, Reached}
use Rattle.guidance.specs.declared.Told.TheVariants.{Do, Done}
use Rattle.guidance.specs.Guides.{Guide, refusing, going, ended, next}

-- The fluents whose readings the next call brings.
unfoldable pub asked_for : Guide → List ℕ
asked_for (refusing x) = []
asked_for (going t fs b s) = fs
asked_for (ended s) = []

-- Readings are truthful in a world: one for each fluent, and 0 exactly where the fluent is false.
abbrev pub Truthful : World → (fluents bytes : List ℕ) → Type 0
Truthful v [] [] = Unit {0}
Truthful v [] (b ∷ bs) = ⊥
Truthful v (f ∷ fs) [] = ⊥
Truthful v (f ∷ fs) (b ∷ bs) = (v f ≡ fails (eqb b 0)) × Truthful v fs bs

-- GUIDED. These actions are answered one after another and then "done", no call is refused, and K is wanted of what the guide knows at the end, of the
-- true world and of those still possible.
abbrev pub Guided : Limits → Table → (answered : List ℕ) → (State → World → Worlds World → Type 0) → Guide → (readings : List ℕ) → World → Worlds World → Type 0
Guided lim t [] K g bytes v P = (s : State) × (next lim g bytes ≡ record { guide = ended s; told = Done }) × K s v P
Guided lim t (a ∷ acts) K g bytes v P =
    (h : Guide) × (next lim g bytes ≡ record { guide = h; told = Do a })
    × Acted (table_domain t) a (λ u Q. (readings : List ℕ) → Truthful u (asked_for h) readings → Guided lim t acts K h readings u Q) v P

-- At the end what is asked is known to the guide, and so it is in every world still possible.
abbrev pub ToldReached : Request → State → World → Worlds World → Type 0
ToldReached r s v P = (missed_in r s ≡ nowhere) × Reached r v P

-- THE PLAN'S ACTIONS. Carrying the plan out runs the first of these actions, one after another, and K is wanted of those that are left. At a branching the condition
-- that holds in every possible world is followed (FORMAT 9.10).
module _ {W L R : Type 0} (d : Domain W L R) where
  abbrev mutual
    pub Runs : Sequence L → (List ℕ → W → Worlds W → Type 0) → (actions : List ℕ) → W → Worlds W → Type 0
    Runs done K acts v P = K acts v P
    Runs (item i rest) K acts v P = RunsItem i (Runs rest K) acts v P

    pub RunsItem : Item L → (List ℕ → W → Worlds W → Type 0) → (actions : List ℕ) → W → Worlds W → Type 0
    RunsItem (act p a) K [] v P = ⊥
    RunsItem (act p a) K (x ∷ acts) v P = (x ≡ a) × Acted d a (K acts) v P
    RunsItem (branching p bs) K acts v P = RunsChosen bs K acts v P

    pub RunsChosen : Branches L → (List ℕ → W → Worlds W → Type 0) → (actions : List ℕ) → W → Worlds W → Type 0
    RunsChosen none K acts v P = ⊥
    RunsChosen (branch c b bs) K acts v P = (Sure d c P × Runs b K acts v P) ⊎ ((Sure d c P → ⊥) × RunsChosen bs K acts v P)

  -- It runs these and no more.
  abbrev pub RunsExactly : Sequence L → (actions : List ℕ) → W → Worlds W → Type 0
  RunsExactly p = Runs p (λ left v P. left ≡ [])
