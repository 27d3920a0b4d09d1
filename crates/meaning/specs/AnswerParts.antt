-- What an answer's input, place and count are, by its number (FORMAT 4.3 to 4.44, 17.35, 17.36, 21.10, 21.16, 22.11,
-- 22.14, 23.7 to 23.9, 23.15, 24.13 to 24.19).
use Rattle.std.specs.Prelude.{ℕ, ◌≤◌, ◌<◌, ◌≡◌, true, false, List, [], ◌∷◌, ◌↔◌, length, eqb}
use Rattle.meaning.specs.declared.Answer.{Answer}
use Rattle.meaning.specs.Tests.{pick}
use Rattle.meaning.specs.Limits
use Rattle.meaning.specs.Limits.{Limits}
use Rattle.meaning.specs.Literals.{among}
use Rattle.meaning.specs.Requests.{Request}
use Rattle.meaning.specs.Reading.{Got, got}
use Rattle.meaning.specs.Refusals.{settled}
use Rattle.meaning.specs.States.{State}
use Rattle.meaning.specs.Walk.{Concerned, no_state, in_state, End, fine, missed, stopped, Walked}
use Rattle.meaning.specs.Judging
use Rattle.meaning.specs.Judging.{Judgement}
use Rattle.meaning.specs.Guards
use Rattle.meaning.specs.Guards.{settled_guarded}
use Rattle.meaning.specs.ByCases
use Rattle.meaning.specs.Valued
use Rattle.meaning.specs.Valued.{settled_values}
use Rattle.meaning.specs.Indexes.{index_of}
use Rattle.meaning.specs.Schemes.{derivation_of, derivation_bytes}
use Rattle.meaning.specs.Answers.{row_answers}

-- INPUT. The numbers that name neither (FORMAT 4.27), those that only the request gets, and those that only a derivation gets.
unfoldable pub of_neither : List ℕ
of_neither = Limits.verified ∷ Limits.budget_spent ∷ Limits.state_length ∷ []

unfoldable pub of_requests : List ℕ
of_requests = Limits.goal_missed ∷ Limits.not_executable ∷ Limits.contradictory_effects ∷ Limits.effect_and_knowledge ∷ Limits.whether_asked ∷ []

unfoldable pub of_derivations : List ℕ
of_derivations =
    Limits.no_such_rule ∷ Limits.not_earlier ∷ Limits.citations_not_taken ∷ Limits.does_not_follow ∷ Limits.not_the_question ∷
    Limits.closing_not_right ∷ []

-- The inputs that an answer of this number may name: the last column of the table of FORMAT 4.3 to 4.25.
unfoldable pub inputs_of : (number : ℕ) → List ℕ
inputs_of number =
    pick (among number of_neither) (λ _. Limits.neither_input ∷ []) λ _.
    pick (among number of_requests) (λ _. Limits.the_request ∷ []) λ _.
    pick (among number of_derivations) (λ _. Limits.the_derivation ∷ []) λ _.
    Limits.the_request ∷ Limits.the_derivation ∷ []

-- The walk call names neither input exactly with 0, 3 and 9, and the request with every other number.
pub record WalkInput (a : Answer) : Type 0 where
  pub neither : (a.input ≡ Limits.neither_input) ↔ (among a.number of_neither ≡ true)
  pub request : among a.number of_neither ≡ false → a.input ≡ Limits.the_request

-- The derivation call and the whether call name neither exactly with 0, and else an input that the number allows.
pub record CheckInput (a : Answer) : Type 0 where
  pub neither : (a.input ≡ Limits.neither_input) ↔ (a.number ≡ Limits.verified)
  pub allowed : among a.input (inputs_of a.number) ≡ true

-- PLACE. The numbers whose place is 0 whatever the input is (FORMAT 4.3, 4.6 to 4.8).
unfoldable pub at_start : List ℕ
at_start = Limits.too_long ∷ of_neither

-- In an input of this size: with these four the place is 0, with 11 it is the size, and with every other number it is that of a byte.
pub record Placed (size number place : ℕ) : Type 0 where
  pub start : among number at_start ≡ true → place ≡ 0
  pub end : number ≡ Limits.ends_too_soon → place ≡ size
  pub byte : among number (Limits.ends_too_soon ∷ at_start) ≡ false → place < size

-- The input that an answer's place is in; the request, where it names neither.
unfoldable pub named : Answer → (request derivation : List ℕ) → List ℕ
named a request derivation = pick (eqb a.input Limits.the_derivation) (λ _. derivation) (λ _. request)

-- COUNT. The numbers of a walk that has ended within its budget.
unfoldable pub of_walks : List ℕ
of_walks = Limits.verified ∷ Limits.goal_missed ∷ Limits.not_executable ∷ []

-- The count of a call that judges by a walk what was read: that of the walk with these numbers, the budget with 3, and 0 with every other number (FORMAT 4.42
-- to 4.44).
pub record Counted {A : Type 0} (walks : A → Walked State) (read : Got A) (told : List ℕ) (budget : ℕ) (a : Answer) : Type 0 where
  pub walk : among a.number told ≡ true → (x : A) × (e : ℕ) × (read ≡ got x e) × (a.count ≡ (walks x).count)
  pub spent : a.number ≡ Limits.budget_spent → a.count ≡ budget
  pub other : among a.number (Limits.budget_spent ∷ told) ≡ false → a.count ≡ 0

-- The walk call counts the walk of the settled request with 0, 1 and 2.
abbrev pub WalkCount : Limits → (request : List ℕ) → (budget : ℕ) → Answer → Type 0
WalkCount lim request = Counted (Judging.walk_of lim) (settled lim request) of_walks

-- The guarded call counts its walk with 43 too (FORMAT 21.10).
unfoldable pub of_guarded_walks : List ℕ
of_guarded_walks = Limits.guard_broken ∷ of_walks

abbrev pub GuardedCount : Limits → (request : List ℕ) → (budget : ℕ) → Answer → Type 0
GuardedCount lim request = Counted (Guards.walk_of lim) (settled_guarded lim request) of_guarded_walks

-- The call by cases doesn't with 44 (FORMAT 22.11).
abbrev pub CasesCount : Limits → (request : List ℕ) → (budget : ℕ) → Answer → Type 0
CasesCount lim request = Counted (ByCases.walk_of lim) (settled lim request) of_walks

-- The values call counts as the walk call does.
abbrev pub ValuesCount : Limits → (request : List ℕ) → (budget : ℕ) → Answer → Type 0
ValuesCount lim request = Counted (Valued.walk_of lim request) (settled_values lim request) of_walks

-- STATE. The state that the end of a walk concerns.
unfoldable pub concerned : End State → Concerned State
concerned fine = no_state
concerned (missed p s) = in_state s
concerned (stopped n p u) = u

-- The lent bytes of such a call: with these numbers they are written with that state, and with every other number they stay (FORMAT 4.45 to 4.49).
pub record Written {A : Type 0} (walks : A → Walked State) (read : Got A) (told : List ℕ) (lent : List ℕ) (j : Judgement) : Type 0 where
  pub written : among j.answer.number told ≡ true → (x : A) × (e : ℕ) × (read ≡ got x e) × (concerned (walks x).end ≡ in_state j.state)
  pub as_lent : among j.answer.number told ≡ false → j.state ≡ lent

-- The numbers of the walk call and of the call by cases that come with a state, and those of the guarded call (FORMAT 21.10, 22.11).
unfoldable pub stated : List ℕ
stated = Limits.goal_missed ∷ Limits.not_executable ∷ []

unfoldable pub with_state : List ℕ
with_state = Limits.goal_missed ∷ Limits.not_executable ∷ Limits.guard_broken ∷ []

abbrev pub GuardedState : Limits → (request lent : List ℕ) → Judgement → Type 0
GuardedState lim request = Written (Guards.walk_of lim) (settled_guarded lim request) with_state

abbrev pub CasesState : Limits → (request lent : List ℕ) → Judgement → Type 0
CasesState lim request = Written (ByCases.walk_of lim) (settled lim request) stated

abbrev pub ValuesState : Limits → (request lent : List ℕ) → Judgement → Type 0
ValuesState lim request = Written (Valued.walk_of lim request) (settled_values lim request) stated

-- THE ROW of a release: what its four numbers are at most, over a file of this size.
pub record RowParts (size budget : ℕ) (a : Answer) : Type 0 where
  pub number : among a.number row_answers ≡ true
  pub place : a.place ≤ size
  pub count : a.count ≤ budget
  pub input : a.input ≤ Limits.the_request

-- THE INDEX CALL names neither input exactly with 0 and 39, and the request with every other number (FORMAT 23.7 to 23.9).
unfoldable pub of_rooms : List ℕ
of_rooms = Limits.verified ∷ Limits.room_short ∷ []

pub record IndexInput (a : Answer) : Type 0 where
  pub neither : (a.input ≡ Limits.neither_input) ↔ (among a.number of_rooms ≡ true)
  pub request : among a.number of_rooms ≡ false → a.input ≡ Limits.the_request

-- Its place is 0 with 39, and else as in the walk call.
pub record IndexPlaced (size number place : ℕ) : Type 0 where
  pub short : number ≡ Limits.room_short → place ≡ 0
  pub other : (number ≡ Limits.room_short → ⊥) → Placed size number place

-- Its count is the length of the index with 0, and 0 with every other number.
pub record IndexCount (lim : Limits) (request : List ℕ) (a : Answer) : Type 0 where
  pub built : a.number ≡ Limits.verified → (r : Request) × (e : ℕ) × (settled lim request ≡ got r e) × (a.count ≡ length (index_of r.table))
  pub other : (a.number ≡ Limits.verified → ⊥) → a.count ≡ 0

-- THE INDEXED CALL names the index exactly with 45, and else what the walk call does (FORMAT 23.15, 23.16).
pub record IndexedInput (a : Answer) : Type 0 where
  pub index : (a.input ≡ Limits.the_index) ↔ (a.number ≡ Limits.index_differs)
  pub other : (a.number ≡ Limits.index_differs → ⊥) → WalkInput a

-- With 45 its place is that of a byte of the index, or the index's length, and else as in the walk call.
pub record IndexedPlaced (size index number place : ℕ) : Type 0 where
  pub differs : number ≡ Limits.index_differs → place ≤ index
  pub other : (number ≡ Limits.index_differs → ⊥) → Placed size number place

-- Its lent bytes are written with 1 and 2, and stay with every other number, 45 among them.
abbrev pub IndexedState : Limits → (request lent : List ℕ) → Judgement → Type 0
IndexedState lim request = Written (Judging.walk_of lim) (settled lim request) stated

-- THE DERIVE CALL names neither input exactly with 0, 3, 38 and 39, and the request with every other number (FORMAT 24.13 to 24.19).
unfoldable pub of_sizes : List ℕ
of_sizes = Limits.too_many_lines ∷ Limits.room_short ∷ []

unfoldable pub of_derived : List ℕ
of_derived = Limits.verified ∷ Limits.budget_spent ∷ of_sizes

pub record DeriveInput (a : Answer) : Type 0 where
  pub neither : (a.input ≡ Limits.neither_input) ↔ (among a.number of_derived ≡ true)
  pub request : among a.number of_derived ≡ false → a.input ≡ Limits.the_request

-- Its place is 0 with 38 and 39, and else as in the walk call: that of a byte with 30 and 37 too.
pub record DerivePlaced (size number place : ℕ) : Type 0 where
  pub sizes : among number of_sizes ≡ true → place ≡ 0
  pub other : among number of_sizes ≡ false → Placed size number place

-- Its count is that of the derivation's bytes with 0, that of the walk with 1 and 2, the budget with 3, and 0 with every other number.
pub record DeriveCount (lim : Limits) (request : List ℕ) (budget : ℕ) (a : Answer) : Type 0 where
  pub written : a.number ≡ Limits.verified → (r : Request) × (e : ℕ) × (settled lim request ≡ got r e) × (a.count ≡ length (derivation_bytes (derivation_of lim r)))
  pub walk : among a.number stated ≡ true → (r : Request) × (e : ℕ) × (settled lim request ≡ got r e) × (a.count ≡ Judging.count lim r)
  pub spent : a.number ≡ Limits.budget_spent → a.count ≡ budget
  pub other : among a.number (Limits.budget_spent ∷ of_walks) ≡ false → a.count ≡ 0
