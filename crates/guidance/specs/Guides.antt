-- The operator's guide: how it starts, and what each call answers (FORMAT section 25).
use Rattle.std.specs.Prelude.{ℕ, zero, suc, ◌+◌, Bool, List, [], ◌∷◌, length, eqb}
use Rattle.meaning.specs.declared.Answer.{Answer}
use Rattle.meaning.specs.Tests.{pick, each_of, some_of}
use Rattle.meaning.specs.Limits
use Rattle.meaning.specs.Limits.{Limits}
use Rattle.meaning.specs.Literals.{says_true, says_false, complement}
use Rattle.meaning.specs.Requests.{Knowledge, Table, Sequence, done, item, Item, act, branching, Branches, none, branch, Request}
use Rattle.meaning.specs.Reading.{Got, got, fault}
use Rattle.meaning.specs.Refusals.{settled}
use Rattle.meaning.specs.Lines.{knowledge_of, sensing, senses}
use Rattle.meaning.specs.States.{State, known, told_all, first_state, can_be_run, state_after}
use Rattle.meaning.specs.Derivations.{join}
use Rattle.meaning.specs.Judging.{within, walk_of}
use Rattle.guidance.specs.declared.Told.{Told}
use Rattle.guidance.specs.declared.Told.TheVariants.{Do, Done, Refused}

-- Answers of a guide (FORMAT 25.5, 25.13, 25.14).
abbrev pub not_verified : ℕ
not_verified = 40

abbrev pub wrong_number : ℕ
wrong_number = 41

abbrev pub against_known : ℕ
against_known = 42

-- Place, count and input are 0.
abbrev pub of_guide : (number : ℕ) → Answer
of_guide n = record { number = n; input = Limits.neither_input; place = 0; count = 0 }

-- A refusal of the request's own names it and counts 0.
abbrev pub of_request : (number place : ℕ) → Answer
of_request n p = record { number = n; input = Limits.the_request; place = p; count = 0 }

-- THE CASES OF AN ANSWER. The number of each (FORMAT 25.9)
unfoldable pub number_told : Told → ℕ
number_told told = elim told [ Do a ↦ 0 | Done ↦ 0 | Refused x ↦ x.number ]

-- and its values: the action; none; input, place and count.
unfoldable pub values_told : Told → List ℕ
values_told told = elim told [ Do a ↦ a ∷ [] | Done ↦ [] | Refused x ↦ x.input ∷ x.place ∷ x.count ∷ [] ]

-- A GUIDE was refused; or it is on its way, with the table, the fluents whose readings the next call brings, what is left of the plan, and what is
-- known but for these readings; or it has come to the plan's end, with what is known there (FORMAT 25.2).
pub data Guide : Type 0 where
  refusing : Answer → Guide
  going : Table → (asked : List ℕ) → (rest : Sequence ℕ) → State → Guide
  ended : State → Guide

pub record Started : Type 0 where
  pub guide : Guide
  pub answer : Answer

pub record Turn : Type 0 where
  pub guide : Guide
  pub told : Told

-- THE START. A guide that is refused keeps the answer (FORMAT 25.4, 25.5).
unfoldable pub refused_start : Answer → Started
refused_start x = record { guide = refusing x; answer = x }

-- By the walk's answer: 0 starts at the plan's first item, in the first state, and every other gives 40 (FORMAT 25.3, 25.5).
unfoldable pub start_walked : Limits → Request → Answer → Started
start_walked lim r x =
    pick (eqb x.number Limits.verified)
    (λ _. record { guide = going r.table [] r.plan (first_state lim r.table); answer = x })
    (λ _. refused_start (of_guide not_verified))

unfoldable pub start_got : Limits → (budget : ℕ) → Got Request → Started
start_got lim budget (got r e) = start_walked lim r (within [] budget (walk_of lim r)).answer
start_got lim budget (fault n p) = refused_start (of_request n p)

unfoldable pub start : Limits → (request : List ℕ) → (budget : ℕ) → Started
start lim request budget = start_got lim budget (settled lim request)

-- WHAT COMES NEXT in a state: the plan's end; or an action, with what is left behind it; or a branching that has no condition known true.
pub data Ahead : Type 0 where
  the_end : Ahead
  an_action : (action : ℕ) → (rest : Sequence ℕ) → Ahead
  no_branch : Ahead

-- In a part of a plan, where `after` is left behind the part and k is what comes next there (FORMAT 25.10, 25.11).
unfoldable mutual
  pub ahead_in : State → Sequence ℕ → (after : Sequence ℕ) → (Unit {0} → Ahead) → Ahead
  ahead_in s done after k = k tt
  ahead_in s (item i b) after k = ahead_item s i (join b after) (λ _. ahead_in s b after k)

  pub ahead_item : State → Item ℕ → (after : Sequence ℕ) → (Unit {0} → Ahead) → Ahead
  ahead_item s (act p a) after k = an_action a after
  ahead_item s (branching p bs) after k = ahead_branch s bs after k

  pub ahead_branch : State → Branches ℕ → (after : Sequence ℕ) → (Unit {0} → Ahead) → Ahead
  ahead_branch s none after k = no_branch
  ahead_branch s (branch c b bs) after k = pick (each_of (known s) c) (λ _. ahead_in s b after k) (λ _. ahead_branch s bs after k)

unfoldable pub ahead : State → (rest : Sequence ℕ) → Ahead
ahead s b = ahead_in s b done (λ _. the_end)

-- READINGS. The fluents that an action senses, ascending and each once (FORMAT 25.7): from fluent f up, as many as are left.
unfoldable pub sensed_from : List Knowledge → (f left : ℕ) → List ℕ
sensed_from ks f zero = []
sensed_from ks f (suc n) = pick (senses ks f) (λ _. f ∷ sensed_from ks (f + 1) n) (λ _. sensed_from ks (f + 1) n)

unfoldable pub sensed : Limits → Table → (action : ℕ) → List ℕ
sensed lim t a = sensed_from (knowledge_of t a) 0 lim.state

-- The byte 0 says no, and every other yes (FORMAT 25.6).
unfoldable pub literal_read : (fluent byte : ℕ) → ℕ
literal_read f b = pick (eqb b 0) (λ _. says_false f) (λ _. says_true f)

unfoldable pub literals_read : (fluents bytes : List ℕ) → List ℕ
literals_read [] bs = []
literals_read (f ∷ fs) [] = []
literals_read (f ∷ fs) (b ∷ bs) = literal_read f b ∷ literals_read fs bs

-- Some literal is against what is known (FORMAT 25.14).
unfoldable pub against : State → List ℕ → Bool
against s ls = some_of (λ l. known s (complement l)) ls

-- A CALL. What is known when the action is done, but for its readings (FORMAT 25.12).
unfoldable pub state_done : Table → (action : ℕ) → State → State
state_done t a s = pick (sensing t a) (λ _. s) (λ _. state_after t a s)

-- The guide stays where it was, and says this number.
unfoldable pub stays : Guide → (number : ℕ) → Turn
stays g n = record { guide = g; told = Refused (of_guide n) }

-- From the guide g on, by what comes next in a state. An action that cannot be run is not answered, and a guide that started does not come to one (FORMAT 25.11, 25.16).
unfoldable pub met : Limits → Table → Guide → State → Ahead → Turn
met lim t g s the_end = record { guide = ended s; told = Done }
met lim t g s (an_action a rest) =
    pick (can_be_run t a s) (λ _. record { guide = going t (sensed lim t a) rest (state_done t a s); told = Do a }) (λ _. stays g not_verified)
met lim t g s no_branch = stays g not_verified

-- The readings are taken over, all of them or none: 41 goes before 42 (FORMAT 25.13, 25.14).
unfoldable pub take_over : Limits → Table → Guide → (asked : List ℕ) → (rest : Sequence ℕ) → State → (readings : List ℕ) → Turn
take_over lim t g fs b s bytes =
    pick (eqb (length bytes) (length fs))
    (λ _. pick (against s (literals_read fs bytes))
    (λ _. stays g against_known)
    (λ _. met lim t g (told_all (literals_read fs bytes) s) (ahead (told_all (literals_read fs bytes) s) b)))
    (λ _. stays g wrong_number)

-- A guide that was refused, and one that has ended, leave the readings unread (FORMAT 25.4, 25.8).
unfoldable pub next : Limits → Guide → (readings : List ℕ) → Turn
next lim (refusing x) bytes = record { guide = refusing x; told = Refused x }
next lim (going t fs b s) bytes = take_over lim t (going t fs b s) fs b s bytes
next lim (ended s) bytes = record { guide = ended s; told = Done }

-- SOME CALLS, each given the guide that was handed back last (FORMAT 25.1): the guide after them, and what they are told.
unfoldable pub after_calls : Limits → Guide → (calls : List (List ℕ)) → Guide
after_calls lim g [] = g
after_calls lim g (c ∷ cs) = after_calls lim (next lim g c).guide cs

unfoldable pub told_by : Limits → Guide → (calls : List (List ℕ)) → List Told
told_by lim g [] = []
told_by lim g (c ∷ cs) = let turn = next lim g c in turn.told ∷ told_by lim turn.guide cs
