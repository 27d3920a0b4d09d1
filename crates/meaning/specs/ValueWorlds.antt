-- Worlds of fluents with any number of values, and carrying a plan out in them (FORMAT section 9). Nothing here is taken from partial states.
-- What Worlds says of flags is said here of values, under the same names.
use Rattle.std.specs.Prelude.{ℕ, ◌<◌, ◌≡◌, Bool, true, List, map, eqb}
use Rattle.meaning.specs.Tests.{each_of}
use Rattle.meaning.specs.Requests.{Knowledge, TableOver, RequestOver, values}
use Rattle.meaning.specs.Lines.{effects_of, executability_of, knowledge_of, allowed, sensing}
use Rattle.meaning.specs.Worlds.{Domain, Worlds, Guarded, CarriedUnder, Carried}
use Rattle.meaning.specs.Values.{Literals, first_such, values_of, set_by}

-- A world gives every fluent a value (FORMAT 9.1).
abbrev pub World : Type 0
World = ℕ → ℕ

-- The values of the sensed fluents (FORMAT 9.8).
unfoldable pub shown : {L : Type 0} → TableOver L → ℕ → World → List ℕ
shown t a w = map (λ (k : Knowledge). w k.fluent) (knowledge_of t a)

module _ {L : Type 0} (ls : Literals L) where
  -- Each value is one of its fluent's.
  abbrev pub Within : World → Type 0
  Within w = (f : ℕ) → w f < ls.count f

  -- The literal's fluent has a value that satisfies it.
  unfoldable pub holds : World → L → Bool
  holds w l = ls.satisfied l (w (ls.fluent l))

  -- Some executability line of the action has a body that holds (FORMAT 9.4).
  unfoldable pub may_be_run : TableOver L → ℕ → World → Bool
  may_be_run t a w = allowed (holds w) (executability_of t a)

  -- The effects whose bodies hold set their fluents; the others keep their values (FORMAT 9.5).
  unfoldable pub moved : TableOver L → ℕ → World → World
  moved t a w f = first_such (λ v. set_by ls (holds w) (eqb v) (effects_of t a) f) (λ v. v) (values_of ls f) (w f)

  unfoldable pub table_domain : TableOver L → Domain World L (List ℕ)
  table_domain t = record { may_be_run = may_be_run t; sensing = sensing t; shows = shown t; moved = moved t; holds = holds }

  -- The worlds that give each fluent one of its values and have all the initial facts (FORMAT 9.2).
  abbrev pub Facts : TableOver L → Worlds World
  Facts t w = Within w × (each_of (holds w) t.facts ≡ true)

  -- At the end the true world is one of the possible ones, each goal holds in every one of them, and each whether fluent has one value across
  -- them (FORMAT 9.3, 11.11, 11.12).
  pub record Reached (r : RequestOver L) (v : World) (P : Worlds World) : Type 0 where
    pub true_world : P v
    pub goals : (w : World) → P w → each_of (holds w) (values r.goals) ≡ true
    pub whether : (w u : World) → P w → P u → map w (values r.whether) ≡ map u (values r.whether)

  -- The plan carried out from any true world with the initial facts, knowing only these and the readings (FORMAT 11.7, 11.8).
  abbrev pub CarriedOut : RequestOver L → Type 0
  CarriedOut r = (v : World) → Facts r.table v → Carried (table_domain r.table) r.plan (Reached r) v (Facts r.table)

  -- And with these guards (FORMAT 21.25).
  abbrev pub CarriedOutUnder : List L → RequestOver L → Type 0
  CarriedOutUnder gs r =
      (v : World) → Facts r.table v
      → Guarded (table_domain r.table) gs (CarriedUnder (table_domain r.table) gs r.plan (Reached r)) v (Facts r.table)
