-- The derivation of a walk: the scheme that its lines follow, and the call that writes them (FORMAT section 24).
use Rattle.std.specs.Prelude.{ℕ, ◌+◌, ◌-◌, Bool, List, [], ◌∷◌, ◌++◌, length, ltb, eqb}
use Rattle.meaning.specs.declared.Answer.{Answer}
use Rattle.meaning.specs.declared.Layout.TheVariants.{Plain}
use Rattle.meaning.specs.Tests.{pick, each_of}
use Rattle.meaning.specs.Limits
use Rattle.meaning.specs.Limits.{Limits}
use Rattle.meaning.specs.Requests.{Table, Sequence, done, item, Item, act, branching, Branches, none, branch, Request, values}
use Rattle.meaning.specs.Lines.{sensing}
use Rattle.meaning.specs.Reading.{Got, got, fault}
use Rattle.meaning.specs.Refusals.{nowhere, settled}
use Rattle.meaning.specs.States.{State, known, first_state, state_after, unknown_sensed, Outcome, single, fork, readings}
use Rattle.meaning.specs.Walk.{no_state, Walked, Step, refuses, Steps, walk, table_does, judged}
use Rattle.meaning.specs.Judging
use Rattle.meaning.specs.Judging.{within}
use Rattle.meaning.specs.Derivations.{Conclusion, knows, knows_whether, Line, join, literals_of, goals_of, answer, beyond}
use Rattle.meaning.specs.Layouts.{written}
use Rattle.meaning.specs.Indexes.{Built, put_in}

-- LINES. One that starts from what a state knows; where it stands is settled by writing it.
unfoldable pub line_of : State → Sequence ℕ → Conclusion → (rule : ℕ) → (cites : List ℕ) → Line
line_of s c Y rule cites = record { place = 0; X = literals_of s; c = c; Y = Y; rule = rule; cites = cites }

-- What writes the lines of a plan: from a state, where its first line has the number n.
abbrev pub Writes : Type 0
Writes = State → (n : ℕ) → List Line

-- The empty plan: rule 1, and then rule 6 down to Y, also where Y is X (FORMAT 24.6).
unfoldable pub empty_lines : List ℕ → Writes
empty_lines Y s n =
    line_of s done (knows (literals_of s)) Limits.empty_rule [] ∷
    line_of s done (knows Y) Limits.consequence_rule (n ∷ []) ∷ []

-- Lines of which the first has the number n, and behind them one that cites the last of them.
unfoldable pub and_cites : (n : ℕ) → List Line → (last : ℕ → Line) → List Line
and_cites n ls last = ls ++ (last (n + length ls - 1) ∷ [])

-- The lines of one reading after another, and the number of the last line of each (FORMAT 24.8).
pub record ReadLines : Type 0 where
  pub lines : List Line
  pub lasts : List ℕ

unfoldable pub one_read : (n : ℕ) → List Line → ReadLines
one_read n ls = record { lines = ls; lasts = (n + length ls - 1) ∷ [] }

unfoldable pub both_read : ReadLines → ReadLines → ReadLines
both_read x y = record { lines = x.lines ++ y.lines; lasts = x.lasts ++ y.lasts }

unfoldable pub then_read : (n : ℕ) → ReadLines → ((m : ℕ) → ReadLines) → ReadLines
then_read n x more = both_read x (more (n + length x.lines))

unfoldable pub read_lines : Outcome State → Writes → (n : ℕ) → ReadLines
read_lines (single s) k n = one_read n (k s n)
read_lines (fork o p) k n = then_read n (read_lines o k n) (λ m. read_lines (p tt) k m)

-- The rule for a list, and the one that asks the same with a fluent for Y (FORMAT 17.23 to 17.25).
unfoldable pub rule_for : Conclusion → (lists fluents : ℕ) → ℕ
rule_for (knows Z) r w = r
rule_for (knows_whether f) r w = w

-- THE SCHEME, over a table and a conclusion Y.
module _ (t : Table) (Y : Conclusion) where
  -- A sensing action: each reading's lines in order, and then rule 3 (FORMAT 24.8).
  unfoldable pub sensing_lines : State → (c : Sequence ℕ) → ReadLines → List Line
  sensing_lines s c x = x.lines ++ (line_of s c Y (rule_for Y Limits.sensing_rule Limits.sensing_whether_rule) x.lasts ∷ [])

  -- Any other action: its rule 2 line, the lines of what follows, and then rule 5 (FORMAT 24.7).
  unfoldable pub acting_lines : State → (one c : Sequence ℕ) → State → Writes → (n : ℕ) → List Line
  acting_lines s one c after k n =
      line_of s one (knows (literals_of after)) Limits.action_rule [] ∷
      and_cites (n + 1) (k after (n + 1)) (λ last. line_of s c Y (rule_for Y Limits.composition_rule Limits.composition_whether_rule) (n ∷ last ∷ []))

  unfoldable pub action_lines : (place action : ℕ) → (rest : Sequence ℕ) → Writes → Writes
  action_lines p a rest k s n =
      pick (sensing t a)
      (λ _. sensing_lines s (item (act p a) rest) (read_lines (readings (unknown_sensed t a s) s) k n))
      (λ _. acting_lines s (item (act p a) done) (item (act p a) rest) (state_after t a s) k n)

  -- A branching: the lines of the chosen branch joined with what follows, and then rule 4 (FORMAT 24.9).
  unfoldable pub branching_lines : State → (c : Sequence ℕ) → (n : ℕ) → List Line → List Line
  branching_lines s c n ls = and_cites n ls (λ last. line_of s c Y (rule_for Y Limits.branching_rule Limits.branching_whether_rule) (last ∷ []))

  -- A plan that is joined with `rest`, whose lines k writes.
  unfoldable mutual
    pub lines : Sequence ℕ → (rest : Sequence ℕ) → Writes → Writes
    lines done rest k s n = k s n
    lines (item i p) rest k s n = item_lines i (join p rest) (lines p rest k) s n

    pub item_lines : Item ℕ → (rest : Sequence ℕ) → Writes → Writes
    item_lines (act p a) rest k s n = action_lines p a rest k s n
    item_lines (branching p bs) rest k s n = branch_lines bs (item (branching p bs) rest) rest k s n

    pub branch_lines : Branches ℕ → (c rest : Sequence ℕ) → Writes → Writes
    branch_lines none c rest k s n = []
    branch_lines (branch φ b bs) c rest k s n =
        pick (each_of (known s) φ) (λ _. branching_lines s c n (lines b rest k s n)) (λ _. branch_lines bs c rest k s n)

-- The lines of a request, and the bytes of lines in the plain layout (FORMAT 24.5, 24.10).
unfoldable pub lines_from : Request → (c : Sequence ℕ) → Writes
lines_from r c = lines r.table (goals_of r) c done (empty_lines (values r.goals))

unfoldable pub derivation_of : Limits → Request → List Line
derivation_of lim r = lines_from r r.plan (first_state lim r.table) 0

unfoldable pub derivation_bytes : List Line → List ℕ
derivation_bytes ls = written Plain (record { lines = ls; closing = []; closing_place = 0 })

-- A SENSING ACTION THAT IS TOO WIDE has more unknown fluents than rule 3 can cite readings for. The walk that is refused at the first such item (FORMAT 24.4, 24.16).
unfoldable pub too_wide : Table → (action : ℕ) → State → Bool
too_wide t a s = ltb Limits.most_forked (length (unknown_sensed t a s))

unfoldable pub narrow_does : Table → ℕ → State → Step State
narrow_does t a s = pick (too_wide t a s) (λ _. refuses Limits.sensing_too_wide no_state) (λ _. table_does t a s)

unfoldable pub narrow_step : Table → Steps State ℕ
narrow_step t = record { does = narrow_does t; knows = known; lacks = λ _. nowhere }

unfoldable pub walked_narrow : Request → State → Walked State
walked_narrow r = walk (narrow_step r.table) r.plan (judged r)

abbrev pub narrow_walk_of : Limits → Request → Walked State
narrow_walk_of lim r = walked_narrow r (first_state lim r.table)

-- THE DERIVE CALL. An answer other than 0 leaves the room as it is (FORMAT 24.12).
unfoldable pub unwritten : (room : List ℕ) → Answer → Built
unwritten room a = record { answer = a; room = room }

-- 38, then 39, and else the bytes (FORMAT 24.17 to 24.19).
unfoldable pub write_bytes : Limits → (room bytes : List ℕ) → Built
write_bytes lim room bytes =
    pick (ltb lim.derivation (length bytes)) (λ _. unwritten room (answer Limits.room_short Limits.neither_input 0)) (λ _. put_in room bytes)

unfoldable pub write_lines : Limits → (room : List ℕ) → List Line → Built
write_lines lim room ls =
    pick (ltb lim.lines (length ls)) (λ _. unwritten room (answer Limits.too_many_lines Limits.neither_input 0)) (λ _. write_bytes lim room (derivation_bytes ls))

-- What a walk within the budget answers, unless it is 0.
unfoldable pub unless_refused : (room : List ℕ) → Answer → (Unit {0} → Built) → Built
unless_refused room a more = pick (eqb a.number Limits.verified) more (λ _. unwritten room a)

-- 30, then 1, 2 and 3 as the walk gives them, then 37 (FORMAT 24.13 to 24.16).
unfoldable pub derive_got : Limits → (room : List ℕ) → (budget : ℕ) → Got Request → Built
derive_got lim room budget (got r e) =
    pick (beyond Plain r) (λ _. unwritten room (answer Limits.whether_asked Limits.the_request r.whether_place)) λ _.
    unless_refused room (within [] budget (Judging.walk_of lim r)).answer λ _.
    unless_refused room (within [] budget (narrow_walk_of lim r)).answer λ _.
    write_lines lim room (derivation_of lim r)
derive_got lim room budget (fault n p) = unwritten room (answer n Limits.the_request p)

unfoldable pub derive : Limits → (request room : List ℕ) → (budget : ℕ) → Built
derive lim request room budget = derive_got lim room budget (settled lim request)
