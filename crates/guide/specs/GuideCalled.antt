-- A volume that is guided by calls: each result is any that meets the contract of `Guide::next`, and the guide that it hands back goes to the next call (FORMAT 25.25).
-- `Guided.Guided` says the same of the definition.
use Rattle.std.specs.Prelude.{ℕ, ◌≡◌, List, [], ◌∷◌}
use Rattle.meaning.specs.Limits.{format}
use Rattle.meaning.specs.Requests.{Table}
use Rattle.meaning.specs.States.{State}
use Rattle.meaning.specs.Worlds.{Worlds, Acted, World, table_domain}
use Rattle.guidance.specs.declared.Told.{Told}
use Rattle.guidance.specs.declared.Told.TheVariants.{Do, Done}
use Rattle.guidance.specs.Guides.{ended, next}
use Rattle.guidance.specs.Guided.{asked_for, Truthful}
use Rattle.guide.specs.declared.guides.Guide as Held
use Rattle.guide.specs.declared.guides.Turn as Held-turn
use Rattle.guide.specs.GuideHeld.{guide_of, turn_of}

-- A result of a call, by its contract.
abbrev pub Answers : Held.Guide → (readings : List ℕ) → Held-turn.Turn → Type 0
Answers g bytes r = turn_of r ≡ next format (guide_of g) bytes

abbrev pub GuidedBy : Table → (answered : List ℕ) → (State → World → Worlds World → Type 0) → Held.Guide → (readings : List ℕ) → World → Worlds World → Type 0
GuidedBy t [] K g bytes v P = (r : Held-turn.Turn) → Answers g bytes r → (r.told ≡ Done) × ((s : State) × (guide_of r.guide ≡ ended s) × K s v P)
GuidedBy t (a ∷ acts) K g bytes v P =
    (r : Held-turn.Turn) → Answers g bytes r
    → (r.told ≡ Do a)
    × Acted (table_domain t) a (λ u Q. (readings : List ℕ) → Truthful u (asked_for (guide_of r.guide)) readings → GuidedBy t acts K r.guide readings u Q) v P

-- The guide h is what some calls have made of g, each call given the guide that was handed back last, and this is what they were told.
abbrev pub Called : Held.Guide → (calls : List (List ℕ)) → List Told → Held.Guide → Type 0
Called g [] told h = (told ≡ []) × (g ≡ h)
Called g (c ∷ cs) told h = (r : Held-turn.Turn) × Answers g c r × ((later : List Told) × (told ≡ r.told ∷ later) × Called r.guide cs later h)
