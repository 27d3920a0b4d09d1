-- The guide that the code's values stand for.
use Rattle.std.specs.Prelude.{ℕ, ◌-◌, ◌<◌, ◌≡◌, Bool, Option, Some, None, List, [], ◌++◌, length, take, replicate, eqb, ltb, leb}
use Rattle.meaning.specs.declared.Answer.{Answer}
use Rattle.meaning.specs.Tests.{pick, both, either, each_of}
use Rattle.meaning.specs.Limits.{format}
use Rattle.meaning.specs.Requests.{Table, Sequence, Request}
use Rattle.meaning.specs.Reading.{Got, got, fault}
use Rattle.meaning.specs.Refusals.{settled}
use Rattle.meaning.specs.States.{State, first_state}
use Rattle.reading.specs.Planned.{items_of}
use Rattle.walking.specs.Walks.{action_at}
use Rattle.steps.specs.Held.{table_in, plan_in}
use Rattle.steps.specs.AtHand.{Marked}
use Rattle.steps.specs.Rests.{rest_at, after_first, Position}
use Rattle.guidance.specs.declared.Told.{Told}
use Rattle.guidance.specs.declared.Told.TheVariants.{Do, Done, Refused}
use Rattle.guidance.specs.Guides.{Guide, refusing, going, ended, Started, Turn, Ahead, the_end, an_action, no_branch, not_verified, of_guide, of_request, sensed, met, take_over}
use Rattle.guide.specs.declared.going.Ahead as Code
use Rattle.guide.specs.declared.going.Ahead.TheVariants.{End, Action, NoBranch}
use Rattle.guide.specs.declared.going.Step.{Step}
use Rattle.guide.specs.declared.sensed.Fluents.{Fluents}
use Rattle.guide.specs.declared.guides.Stage.{Stage}
use Rattle.guide.specs.declared.guides.Stage.TheVariants.{Refusing, Going, Ended}
use Rattle.guide.specs.declared.guides.Guide as Held
use Rattle.guide.specs.declared.guides.Started as Held-started
use Rattle.guide.specs.declared.guides.Turn as Held-turn
use Rattle.meaning.specs.declared.Form.TheVariants.{Flags}

-- WHAT COMES NEXT, an action by the number of its item.
unfoldable pub came : (s t : List ℕ) → Code.Ahead → Ahead
came s t r = elim r [ End ↦ the_end | Action i ↦ an_action (action_at s t i) (after_first (rest_at (plan_in Flags s t) i)) | NoBranch ↦ no_branch ]

-- It is an item of the plan, and an action.
pub record ItemThere (s t : List ℕ) (i : ℕ) : Type 0 where
  pub there : i < items_of (plan_in Flags s t)
  pub acts : action_at s t i < format.actions

unfoldable pub ActionThere : (s t : List ℕ) → Code.Ahead → Type 0
ActionThere s t r = elim r [ End ↦ Unit {0} | Action i ↦ ItemThere s t i | NoBranch ↦ Unit {0} ]

-- The fluents whose readings come after an action, and none where there was no action.
unfoldable pub asked_by : Table → (action : Option ℕ) → List ℕ
asked_by t None = []
asked_by t (Some a) = pick (ltb a format.actions) (λ _. sensed format t a) (λ _. [])

-- Fluents as the code tells them (FORMAT 25.51): so many, at the start of the row, and 0 behind them.
unfoldable pub fluents_of : List ℕ → Fluents
fluents_of fs = record { count = length fs; row = fs ++ replicate (format.fluents - length fs) 0 }

-- A GUIDE ON ITS WAY, of a request at hand.
unfoldable pub on_the_way : (s t : List ℕ) → (action : Option ℕ) → (position : ℕ) → State → Guide
on_the_way s t a i marks = going (table_in Flags s) (asked_by (table_in Flags s) a) (rest_at (plan_in Flags s t) i) marks

-- What a call makes of the guide g: `on` is the guide that goes on, by its action, position and marks.
unfoldable pub guide_after : (on : (action : Option ℕ) → (position : ℕ) → State → Guide) → Guide → Step → Told → Guide
guide_after on g r told = elim told [ Do a ↦ on r.action r.at r.marks | Done ↦ ended r.marks | Refused x ↦ g ]

unfoldable pub turned : (on : (action : Option ℕ) → (position : ℕ) → State → Guide) → Guide → Step → Turn
turned on g r = record { guide = guide_after on g r r.told; told = r.told }

-- What is made of any guide of a request at hand: in a state, by what comes next; and by a call.
unfoldable pub meets : (s : List ℕ) → State → Ahead → Guide → Turn
meets s state x g = met format (table_in Flags s) g state x

unfoldable pub takes : (s t : List ℕ) → (action : Option ℕ) → (position : ℕ) → State → (readings : List ℕ) → Guide → Turn
takes s t a i marks bytes g = take_over format (table_in Flags s) g (asked_by (table_in Flags s) a) (rest_at (plan_in Flags s t) i) marks bytes

-- Where an action is answered, the guide goes on from a position of the plan, with marks.
pub record Goes_on (s t : List ℕ) (r : Step) : Type 0 where
  pub at : Position (plan_in Flags s t) r.at
  pub marked : Marked r.marks

unfoldable pub GoesAfter : (s t : List ℕ) → Step → Told → Type 0
GoesAfter s t r told = elim told [ Do a ↦ Goes_on s t r | Done ↦ Unit {0} | Refused x ↦ Unit {0} ]

-- What the code answers is this turn, whichever guide it is that a refusal leaves as it was.
pub record Turns (s t : List ℕ) (r : Step) (turn : Guide → Turn) : Type 0 where
  pub is : (g : Guide) → turned (on_the_way s t) g r ≡ turn g
  pub goes : GoesAfter s t r r.told

-- ANY VALUES stand for a guide: those that no start gave for one that was refused.
unfoldable pub is_position : Sequence ℕ → ℕ → Bool
is_position b i = either (eqb i format.items) (ltb i (items_of b))

unfoldable pub is_marked : State → Bool
is_marked marks = each_of (λ m. leb m 2) marks

unfoldable pub guide_got : (action : Option ℕ) → (position : ℕ) → State → Got Request → Guide
guide_got a i marks (got r e) =
    pick (both (is_position r.plan i) (is_marked marks)) (λ _. going r.table (asked_by r.table a) (rest_at r.plan i) marks) (λ _. refusing (of_guide not_verified))
guide_got a i marks (fault n p) = refusing (of_request n p)

unfoldable pub guide_held : (request : List ℕ) → (action : Option ℕ) → (position : ℕ) → State → Guide
guide_held request a i marks = guide_got a i marks (settled format request)

-- A guide of a settled request, at its start.
pub record Begins (request : List ℕ) (g : Guide) : Type 0 where
  pub held : (r : Request) (e : ℕ) → settled format request ≡ got r e → g ≡ going r.table [] r.plan (first_state format r.table)

-- THE STRUCT. The request is the start of the row.
unfoldable pub request_of : Held.Guide → List ℕ
request_of g = take g.length g.request

unfoldable pub guide_at : Held.Guide → Stage → Guide
guide_at g stage = elim stage [ Refusing x ↦ refusing x | Going a i marks ↦ guide_held (request_of g) a i marks | Ended marks ↦ ended marks ]

unfoldable pub guide_of : Held.Guide → Guide
guide_of g = guide_at g g.stage

unfoldable pub started_of : Held-started.Started → Started
started_of r = record { guide = guide_of r.guide; answer = r.answer }

unfoldable pub turn_of : Held-turn.Turn → Turn
turn_of r = record { guide = guide_of r.guide; told = r.told }

-- What a refusal hands back is what was given, and a call keeps the request.
pub record KeptGuide (g : Held.Guide) (r : Held-turn.Turn) : Type 0 where
  pub refused : (x : Answer) → r.told ≡ Refused x → r.guide ≡ g
  pub request : request_of r.guide ≡ request_of g

-- The guide of a start that answers 0 holds the request.
pub record OwnCopy (request : List ℕ) (r : Held-started.Started) : Type 0 where
  pub copied : r.answer.number ≡ 0 → request_of r.guide ≡ request
