-- What reading a request leaves in the notes, as a function of the request.
use Rattle.std.specs.Prelude.{ℕ, ◌+◌, ◌-◌, ◌≡◌, List, length, set}
use Rattle.meaning.specs.Limits.{format}
use Rattle.meaning.specs.Requests.{Request}
use Rattle.meaning.specs.declared.Form.{Form}
use Rattle.meaning.specs.declared.Form.TheVariants.{Flags, Valued}
use Rattle.meaning.specs.Reading.{Got, got, next, fluents, list_at, literals_at, plan_at}
use Rattle.meaning.specs.Guards.{GuardedRequest}
use Rattle.reading.specs.Listed.{span}
use Rattle.reading.specs.Noted.{plan_slot, items_slot, goals_slot, guards_slot, table_noted}
use Rattle.reading.specs.Planned.{items_of, bytes_of, plan_noted}

-- Numbers of values are looked for behind the input's first byte, so a request with values starts there.
unfoldable pub Starts : Form → (place : ℕ) → Type 0
Starts form p = form ≡ Valued → p ≡ 0

-- Where the goals' count stands, and the plan's.
unfoldable pub goals_place : Form → Request → ℕ
goals_place form x = x.whether_place - (1 + span form (length x.goals))

unfoldable pub plan_place : Form → Request → ℕ
plan_place form x = goals_place form x - (2 + bytes_of form x.plan)

-- The place of the plan, how many items it has, the place of the goals, and that of the guards, 0 for none.
unfoldable pub places_noted : (plan items goals guards : ℕ) → List ℕ → List ℕ
places_noted plan items goals guards t = set (set (set (set t plan_slot plan) items_slot items) goals_slot goals) guards_slot guards

-- Sections 6 to 8, whatever table was noted before, with guards at a place.
unfoldable pub tail_with : Form → (guards : ℕ) → Request → List ℕ → List ℕ
tail_with form guards x t = places_noted (plan_place form x) (items_of x.plan) (goals_place form x) guards (plan_noted form (plan_place form x) t x.plan)

unfoldable pub request_with : Form → (guards : ℕ) → Request → List ℕ → List ℕ
request_with form guards x t = tail_with form guards x (table_noted x.table t)

-- Without guards.
abbrev pub tail_noted : Form → Request → List ℕ → List ℕ
tail_noted form = tail_with form 0

abbrev pub request_noted : Form → Request → List ℕ → List ℕ
request_noted form = request_with form 0

-- All nine sections. The guards' count stands behind the whether list.
unfoldable pub guards_place : Request → ℕ
guards_place x = x.whether_place + (1 + length x.whether)

unfoldable pub guarded_noted : GuardedRequest → List ℕ → List ℕ
guarded_noted g = request_with Flags (guards_place g.request) g.request

-- Sections 7 and 8, and the plan before them.
unfoldable pub goals_first : Form → (n : ℕ) → List ℕ → (plan items p : ℕ) → List ℕ → Got (List ℕ)
goals_first form n s plan items p t =
    next (literals_at form n format.listed s p) λ goals q.
    next (list_at fluents n format.listed s q) λ whether e.
    got (places_noted plan items p 0 t) e

unfoldable pub plan_first : Form → (n m : ℕ) → List ℕ → ℕ → List ℕ → Got (List ℕ)
plan_first form n m s p t =
    next (plan_at format form n m s p) λ plan q.
    goals_first form n s p plan.items q (plan_noted form p t plan.value)
