-- The index beside a table: what it holds, the call that builds it, and the walk call that goes by it (FORMAT section 23).
use Rattle.std.specs.Prelude.{ℕ, zero, suc, ◌+◌, ◌*◌, ◌/◌, ◌%◌, ◌≤◌, ◌<◌, ◌≡◌, List, [], ◌∷◌, ◌++◌, map, ◌⊎◌, length, get_or, take, drop, leb, eqb}
use Rattle.meaning.specs.declared.Answer.{Answer}
use Rattle.meaning.specs.Tests.{pick}
use Rattle.meaning.specs.Limits
use Rattle.meaning.specs.Limits.{Limits}
use Rattle.meaning.specs.Requests.{Effect, Executability, Table, Request}
use Rattle.meaning.specs.Lines.{effects_of, executability_of}
use Rattle.meaning.specs.Reading.{Flags, Got, got, fault, effect_at, executability_at}
use Rattle.meaning.specs.Refusals.{Found, nowhere, at, settled}
use Rattle.meaning.specs.States.{State, first_state}
use Rattle.meaning.specs.Walk.{Walked, walk, table_step, judged}
use Rattle.meaning.specs.Judging.{Judgement, judge_got, wrong_length, judge}
use Rattle.meaning.specs.Asking.{line_got, line}

-- THE INDEX. Where an action's effects stand, in file order, and where its executability lines do (FORMAT 23.3, 23.4).
unfoldable pub effect_places : Table → (action : ℕ) → List ℕ
effect_places t a = map (λ (e : Effect). e.place) (effects_of t a)

unfoldable pub run_places : Table → (action : ℕ) → List ℕ
run_places t a = map (λ (x : Executability). x.place) (executability_of t a)

-- An offset is a two-byte number (FORMAT 23.3).
unfoldable pub offsets : (places : List ℕ) → List ℕ
offsets [] = []
offsets (p ∷ ps) = p / 256 ∷ p % 256 ∷ offsets ps

-- A count byte, and the offsets (FORMAT 23.2).
unfoldable pub counted_offsets : (places : List ℕ) → List ℕ
counted_offsets ps = length ps ∷ offsets ps

unfoldable pub action_index : Table → (action : ℕ) → List ℕ
action_index t a = counted_offsets (effect_places t a) ++ counted_offsets (run_places t a)

-- Of so many actions, from number a up.
unfoldable pub index_from : Table → (a left : ℕ) → List ℕ
index_from t a zero = []
index_from t a (suc left) = action_index t a ++ index_from t (a + 1) left

-- Of all of them.
unfoldable pub index_of : Table → List ℕ
index_of t = index_from t 0 t.actions

-- GOING BY AN INDEX. The offset that stands at p of it, and so many of them.
unfoldable pub offset_at : (index : List ℕ) → (p : ℕ) → ℕ
offset_at i p = get_or i p 0 * 256 + get_or i (p + 1) 0

unfoldable pub offsets_at : (index : List ℕ) → (left p : ℕ) → List ℕ
offsets_at i zero p = []
offsets_at i (suc left) p = offset_at i p ∷ offsets_at i left (p + 2)

-- The offsets behind the count that stands at p, and the place after them.
unfoldable pub counted_at : (index : List ℕ) → (p : ℕ) → List ℕ
counted_at i p = offsets_at i (get_or i p 0) (p + 1)

unfoldable pub after_counted : (index : List ℕ) → (p : ℕ) → ℕ
after_counted i p = p + 1 + 2 * get_or i p 0

-- Where the two counts of an action stand: behind those of the actions before it.
unfoldable pub effects_start : (index : List ℕ) → (action : ℕ) → ℕ
effects_start i zero = 0
effects_start i (suc a) = after_counted i (after_counted i (effects_start i a))

unfoldable pub runs_start : (index : List ℕ) → (action : ℕ) → ℕ
runs_start i a = after_counted i (effects_start i a)

-- The lines that stand at these places of the request, as a reader finds them.
module _ {A : Type 0} where
  unfoldable pub and_line : Got A → List A → List A
  and_line (got x e) xs = x ∷ xs
  and_line (fault n p) xs = xs

  unfoldable pub lines_at : (ℕ → Got A) → (places : List ℕ) → List A
  lines_at line [] = []
  lines_at line (p ∷ ps) = and_line (line p) (lines_at line ps)

  -- Of so many actions, from number a up, where each has its own.
  unfoldable pub each_action : (ℕ → List A) → (a left : ℕ) → List A
  each_action lines a zero = []
  each_action lines a (suc left) = lines a ++ each_action lines (a + 1) left

-- The table whose lines are reached by the index, action by action; all else is as it was read (FORMAT 23.12).
unfoldable pub by_index : Limits → (request index : List ℕ) → Table → Table
by_index lim s i t = record {
  fluents = t.fluents;
  actions = t.actions;
  facts = t.facts;
  effects = each_action (λ a. lines_at (effect_at lim Flags t.fluents t.actions s) (counted_at i (effects_start i a))) 0 t.actions;
  executability = each_action (λ a. lines_at (executability_at lim Flags t.fluents t.actions s) (counted_at i (runs_start i a))) 0 t.actions;
  knowledge = t.knowledge;
}

-- THE FIRST DIFFERENCE of two strings of bytes that go on from place p: the first byte that is another, or else the shorter length, unless they are the
-- same (FORMAT 23.14).
unfoldable pub difference_from : (p : ℕ) → (one other : List ℕ) → Found
difference_from p [] [] = nowhere
difference_from p [] (y ∷ ys) = at p
difference_from p (x ∷ xs) [] = at p
difference_from p (x ∷ xs) (y ∷ ys) = pick (eqb x y) (λ _. difference_from (p + 1) xs ys) (λ _. at p)

unfoldable pub first_difference : (one other : List ℕ) → Found
first_difference = difference_from 0

-- Of an index and the one that building gives, where the request is settled.
unfoldable pub difference_in : (index : List ℕ) → Got Request → Found
difference_in i (got r e) = first_difference (index_of r.table) i
difference_in i (fault n p) = nowhere

-- BUILDING (FORMAT 23.6 to 23.9): the answer, and the lent room afterwards.
pub record Built : Type 0 where
  pub answer : Answer
  pub room : List ℕ

-- These bytes go to the room where it is long enough, and those behind them stay; a shorter room stays as it is (FORMAT 23.8, 23.9).
abbrev pub put_in : (room bytes : List ℕ) → Built
put_in room bytes =
    pick (leb (length bytes) (length room))
    (λ _. record {
      answer = record { number = Limits.verified; input = Limits.neither_input; place = 0; count = length bytes };
      room = bytes ++ drop (length bytes) room;
    })
    (λ _. record { answer = record { number = Limits.room_short; input = Limits.neither_input; place = 0; count = 0 }; room = room })

unfoldable pub build_got : (room : List ℕ) → Got Request → Built
build_got room (got r e) = put_in room (index_of r.table)
build_got room (fault n p) = record { answer = record { number = n; input = Limits.the_request; place = p; count = 0 }; room = room }

unfoldable pub build : Limits → (request room : List ℕ) → Built
build lim request room = build_got room (settled lim request)

-- THE INDEXED CALL walks the plan by the lines that the index leads to (FORMAT 23.10 to 23.12).
abbrev pub walk_of : Limits → (request index : List ℕ) → Request → Walked State
walk_of lim s i r = walk (table_step (by_index lim s i r.table)) r.plan (judged r) (first_state lim r.table)

-- 45 comes after the request's refusals and before the walk (FORMAT 23.11, 23.15).
unfoldable pub unless_differs : (lent : List ℕ) → Found → Judgement → Judgement
unless_differs lent nowhere j = j
unless_differs lent (at p) j = record { answer = record { number = Limits.index_differs; input = Limits.the_index; place = p; count = 0 }; state = lent }

-- The lent state's length goes first (FORMAT 23.11).
unfoldable pub judge_indexed : Limits → (request index lent : List ℕ) → (budget : ℕ) → Judgement
judge_indexed lim s i lent budget =
    pick (eqb (length lent) lim.state)
    (λ _. unless_differs lent (difference_in i (settled lim s)) (judge_got (walk_of lim s i) lent budget (settled lim s)))
    (λ _. wrong_length lent)

-- The line that answer 2 carries (FORMAT 18.10 to 18.12, 23.13, 23.15).
unfoldable pub line_indexed : Limits → (request index lent : List ℕ) → (budget : ℕ) → ℕ
line_indexed lim s i lent budget = line_got (λ (r : Request). by_index lim s i r.table) s (judge_indexed lim s i lent budget) (settled lim s)

-- WHAT STATEMENTS SAY OF IT. Two strings of bytes first differ at a place: before it they are the same, and there another byte stands, or one of the two has
-- ended (FORMAT 23.14, 23.25).
pub record Differs (one other : List ℕ) (place : ℕ) : Type 0 where
  pub in_one : place ≤ length one
  pub in_other : place ≤ length other
  pub before : take place one ≡ take place other
  pub there : ((place < length one) × (place < length other) × (get_or one place 0 ≡ get_or other place 0 → ⊥))
      ⊎ (((place ≡ length one) × (place < length other)) ⊎ ((place ≡ length other) × (place < length one)))

-- The indexed call gives what the walk call gives (FORMAT 23.13, 23.26).
pub record AsWalked (lim : Limits) (request index lent : List ℕ) (budget : ℕ) : Type 0 where
  pub judges : judge_indexed lim request index lent budget ≡ judge lim request lent budget
  pub tells : line_indexed lim request index lent budget ≡ line lim request lent budget

-- It gives 45: the lent state has its length, the request is settled, and the index differs at the place from that of the request (FORMAT 23.15, 23.25).
pub record IndexDiffers (lim : Limits) (request index lent : List ℕ) (budget : ℕ) : Type 0 where
  pub sized : length lent ≡ lim.state
  pub says : Request
  pub end : ℕ
  pub settles : settled lim request ≡ got says end
  pub place : ℕ
  pub differs : Differs (index_of says.table) index place
  pub judges : judge_indexed lim request index lent budget ≡ record { answer = record { number = Limits.index_differs; input = Limits.the_index; place = place; count = 0 }; state = lent }
  pub tells : line_indexed lim request index lent budget ≡ 0

-- The index call gives 0: the request is settled, the room is not shorter than its index, the count is the index's length, and the room starts with the index and
-- goes on as lent (FORMAT 23.9, 23.23).
pub record IndexWritten (lim : Limits) (request room : List ℕ) : Type 0 where
  pub says : Request
  pub end : ℕ
  pub settles : settled lim request ≡ got says end
  pub fits : length (index_of says.table) ≤ length room
  pub counts : (build lim request room).answer.count ≡ length (index_of says.table)
  pub leaves : (build lim request room).room ≡ index_of says.table ++ drop (length (index_of says.table)) room
