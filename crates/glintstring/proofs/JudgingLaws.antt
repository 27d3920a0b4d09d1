-- What the walk call, the call by cases, the guarded call and the values call answer: another length than a state's, a refusal, or what the walk of the settled request says; and the line
-- that goes with it, of all but the last. Assumes nothing.
use Prim.Native.Nat.{ℕ}
use native.Mathlib.Omega.{arith}
use mathlib.Core.Path.{◌≡◌, refl, sym, ◌∙◌, ap}
use mathlib.Core.List.{List, []}
use lib.ListN.{length, get_or, set}
use lib.Dec.{eqb}
use mir.Syntax.{w8}
use mir.Val.{Fits}
use borrow.Author.Tests.{eq-eqb, ne_eqb}
use Rattle.std.specs.Prelude.{Ok, Err}
use Rattle.parsing.specs.Faults.{number_of}
use Rattle.parsing.specs.Read.{Passed, stopped}
use Rattle.parsing.specs.declared.faults.Fault.{Fault}
use Rattle.meaning.specs.declared.Answer.{Answer}
use Rattle.meaning.specs.Tests.{pick}
use Rattle.meaning.specs.Limits.{format}
use Rattle.meaning.specs.Requests.{Entry, Table, Request}
use Rattle.meaning.specs.Reading.{Got, got, fault}
use Rattle.meaning.specs.Refusals.{settled}
use Rattle.meaning.specs.States.{first_state}
use Rattle.meaning.specs.Walk.{walked_guarded}
use Rattle.meaning.specs.Judging.{Judgement, within, judge_got, walk_of, judge, refused_at, wrong_length}
use Rattle.meaning.specs.ByCases
use Rattle.meaning.specs.ByCases.{judge_by_cases, line_by_cases}
use Rattle.meaning.specs.Guards
use Rattle.meaning.specs.Guards.{GuardedRequest, settled_guarded, judge_guarded, line_guarded}
use Rattle.meaning.specs.Valued as Values
use Rattle.meaning.specs.Valued.{settled_values, judge_values}
use Rattle.meaning.specs.Asking.{line_told, line_got, line}
use Rattle.meaning.proofs.TestLaws.{pick_true, pick_false}
use Rattle.meaning.proofs.KeptEnds.{walked_unguarded}
use Rattle.meaning.proofs.ReportedLine.{line_not}
use Rattle.meaning.specs.declared.Form.TheVariants.{Flags, Valued}
use Rattle.reading.specs.Noted.{mode_slot, noting, outcome}
use Rattle.reading.specs.Requested.{request_noted, guarded_noted}
use Rattle.finding.specs.TablesHere.{blank}
use Rattle.reading.proofs.SectionLaws.{noting_fault}
use Rattle.steps.specs.Held.{table_in, guards_in, request_in}
use Rattle.steps.specs.Steps.{mode_in, walk_held}
use Rattle.steps.proofs.ModeLaws.{held_known}
use Rattle.glintstring.proofs.SettledAtHand.{settled_got, settled_held, settled_known, settled_unguarded, cases_walk, guarded_got, guarded_held, guarded_known, guards_held, values_got, values_walk}

-- In mode 0 the walk of what is held, a request x with guards gs, is the walk of these.
known_walk : (s u : List ℕ) (x : Request) (gs : List Entry) → mode_in u ≡ 0 → request_in Flags s u ≡ x → guards_in s u ≡ gs → walk_held Flags s u ≡ walked_guarded x gs (first_state format x.table)
unfolding request_in
known_walk s u x gs known is are =
    held_known s u known
    ∙ ap (λ (y : Request). walked_guarded y (guards_in s u) (first_state format y.table)) is
    ∙ ap (λ (hs : List Entry). walked_guarded x hs (first_state format x.table)) are

pub held_table : (s u : List ℕ) (x : Request) → request_in Flags s u ≡ x → table_in Flags s ≡ x.table
unfolding request_in
held_table s u x is = ap (λ (y : Request). y.table) is

-- This answer, these bytes afterwards and this line are what a call gives.
abbrev pub Gives : Judgement → (line : ℕ) → Answer → (left : List ℕ) → (v : ℕ) → Type 0
Gives given line a left v = (record { answer = a; state = left } ≡ given) × (v ≡ line)

-- A CALL, whatever it reads and notes of that, however it judges it, and whichever table it takes the line from. A lent state of another length goes first.
module _ {A : Type 0} (note : A → List ℕ → List ℕ) (table : A → Table) (read : Got A) (s lent : List ℕ) (judges : Got A → Judgement) where
  abbrev given : Judgement
  given = pick (eqb (length lent) format.state) (λ _. judges read) (λ _. wrong_length lent)

  abbrev lined : ℕ
  lined = line_got table s given read

  module _ (a : Answer) (v : ℕ) where
    call_9 : (length lent ≡ format.state → ⊥) → a ≡ record { number = 9; input = 0; place = 0; count = 0 } → v ≡ 0 → Gives given lined a lent v
    call_9 other is none =
        let nine : given ≡ wrong_length lent = pick_false _ _ _ (ne_eqb _ _ other) in (
          ap (λ (b : Answer). record { answer = b; state = lent }) is ∙ sym nine,
          none ∙ sym (line_not table s given (λ two. let differ : ◌≡◌ {A = ℕ} 9 2 = ap (λ (j : Judgement). j.answer.number) (sym nine) ∙ two in omega (arith, differ)) read),
        )

    module _ (sized : length lent ≡ format.state) where
      judged_so : (x : Got A) → read ≡ x → given ≡ judges x
      judged_so x reads = pick_true _ _ _ (eq-eqb _ _ sized) ∙ ap judges reads

      -- A refusal is judged as one, and has no line.
      call_refused : (t u : List ℕ) (r : Passed) → outcome r u ≡ noting note read t → (why : Fault) → r ≡ Err why → judges (stopped why) ≡ refused_at lent (number_of why.refusal) why.place
          → a ≡ record { number = number_of why.refusal; input = 1; place = why.place; count = 0 } → v ≡ 0 → Gives given lined a lent v
      unfolding line_got
      call_refused t u r settles why stops refuses is none =
          let reads = noting_fault note read r t u settles why stops in
          (ap (λ (b : Answer). record { answer = b; state = lent }) is ∙ sym (judged_so (stopped why) reads ∙ refuses), none ∙ sym (ap (line_got table s given) reads))

      -- What was read is judged, and its table has the line.
      call_judged : (left : List ℕ) (x : A) (e : ℕ) → read ≡ got x e → record { answer = a; state = left } ≡ judges (got x e) → v ≡ line_told (table x) s (record { answer = a; state = left })
          → Gives given lined a left v
      unfolding line_got
      call_judged left x e reads is told =
          let so = is ∙ sym (judged_so (got x e) reads) in
          (so, told ∙ ap (line_told (table x) s) so ∙ sym (ap (line_got table s given) reads))

-- THE WALK CALL.
module _ (s lent : List ℕ) (budget : ℕ) (a : Answer) (v : ℕ) where
  pub judge_9 : (length lent ≡ format.state → ⊥) → a ≡ record { number = 9; input = 0; place = 0; count = 0 } → v ≡ 0 → Gives (judge format s lent budget) (line format s lent budget) a lent v
  unfolding judge line
  judge_9 = call_9 (request_noted Flags) (λ (x : Request). x.table) (settled format s) s lent (judge_got (walk_of format) lent budget) a v

  module _ (sized : length lent ≡ format.state) (t u : List ℕ) (r : Passed) (settles : outcome r u ≡ noting (request_noted Flags) (settled format s) t) where
    pub judge_refused : (why : Fault) → r ≡ Err why → a ≡ record { number = number_of why.refusal; input = 1; place = why.place; count = 0 } → v ≡ 0 → Gives (judge format s lent budget) (line format s lent budget) a lent v
    unfolding judge line judge_got
    judge_refused why stops = call_refused (request_noted Flags) (λ (x : Request). x.table) (settled format s) s lent (judge_got (walk_of format) lent budget) a v sized t u r settles why stops refl

    pub judge_walked : (e : ℕ) → r ≡ Ok e → ((i : ℕ) → Fits w8 (get_or s i 0)) → t ≡ blank → (left : List ℕ) → record { answer = a; state = left } ≡ within lent budget (walk_held Flags s u)
        → v ≡ line_told (table_in Flags s) s (record { answer = a; state = left }) → Gives (judge format s lent budget) (line format s lent budget) a left v
    unfolding judge line judge_got
    judge_walked e passes bytes empty left walks told =
        let past = settled_got s t u r settles e passes in
        let held = settled_held s t u r settles e passes bytes empty in
        call_judged (request_noted Flags) (λ (x : Request). x.table) (settled format s) s lent (judge_got (walk_of format) lent budget) a v sized left past.0 e past.1
        (walks
        ∙ ap (within lent budget)
        (known_walk s u past.0 [] (settled_known s t u r settles e passes bytes empty) held (settled_unguarded s t u r settles e passes bytes empty)
        ∙ walked_unguarded past.0 (first_state format past.0.table)))
        (told ∙ ap (λ (w : Table). line_told w s (record { answer = a; state = left })) (held_table s u past.0 held))

-- THE CALL BY CASES.
module _ (s lent : List ℕ) (budget : ℕ) (a : Answer) (v : ℕ) where
  pub cases_9 : (length lent ≡ format.state → ⊥) → a ≡ record { number = 9; input = 0; place = 0; count = 0 } → v ≡ 0 → Gives (judge_by_cases format s lent budget) (line_by_cases format s lent budget) a lent v
  unfolding judge_by_cases line_by_cases
  cases_9 = call_9 (request_noted Flags) (λ (x : Request). x.table) (settled format s) s lent (judge_got (ByCases.walk_of format) lent budget) a v

  module _ (sized : length lent ≡ format.state) (t u : List ℕ) (r : Passed) (settles : outcome r u ≡ noting (request_noted Flags) (settled format s) t) where
    pub cases_refused : (why : Fault) → r ≡ Err why → a ≡ record { number = number_of why.refusal; input = 1; place = why.place; count = 0 } → v ≡ 0
        → Gives (judge_by_cases format s lent budget) (line_by_cases format s lent budget) a lent v
    unfolding judge_by_cases line_by_cases judge_got
    cases_refused why stops =
        call_refused (request_noted Flags) (λ (x : Request). x.table) (settled format s) s lent (judge_got (ByCases.walk_of format) lent budget) a v sized t u r settles why stops refl

    pub cases_walked : (e : ℕ) → r ≡ Ok e → ((i : ℕ) → Fits w8 (get_or s i 0)) → t ≡ blank → (w : List ℕ) → w ≡ set u mode_slot 1 → (left : List ℕ)
        → record { answer = a; state = left } ≡ within lent budget (walk_held Flags s w) → v ≡ line_told (table_in Flags s) s (record { answer = a; state = left })
        → Gives (judge_by_cases format s lent budget) (line_by_cases format s lent budget) a left v
    unfolding judge_by_cases line_by_cases judge_got
    cases_walked e passes bytes empty w put left walks told =
        let past = settled_got s t u r settles e passes in
        call_judged (request_noted Flags) (λ (x : Request). x.table) (settled format s) s lent (judge_got (ByCases.walk_of format) lent budget) a v sized left past.0 e past.1
        (walks ∙ ap (within lent budget) (cases_walk s t u r settles e passes bytes empty w put))
        (told ∙ ap (λ (w : Table). line_told w s (record { answer = a; state = left })) (held_table s u past.0 (settled_held s t u r settles e passes bytes empty)))

-- THE GUARDED CALL.
module _ (s lent : List ℕ) (budget : ℕ) (a : Answer) (v : ℕ) where
  pub guarded_9 : (length lent ≡ format.state → ⊥) → a ≡ record { number = 9; input = 0; place = 0; count = 0 } → v ≡ 0 → Gives (judge_guarded format s lent budget) (line_guarded format s lent budget) a lent v
  unfolding judge_guarded line_guarded
  guarded_9 = call_9 guarded_noted (λ (g : GuardedRequest). g.request.table) (settled_guarded format s) s lent (judge_got (Guards.walk_of format) lent budget) a v

  module _ (sized : length lent ≡ format.state) (t u : List ℕ) (r : Passed) (settles : outcome r u ≡ noting guarded_noted (settled_guarded format s) t) where
    pub guarded_refused : (why : Fault) → r ≡ Err why → a ≡ record { number = number_of why.refusal; input = 1; place = why.place; count = 0 } → v ≡ 0
        → Gives (judge_guarded format s lent budget) (line_guarded format s lent budget) a lent v
    unfolding judge_guarded line_guarded judge_got
    guarded_refused why stops =
        call_refused guarded_noted (λ (g : GuardedRequest). g.request.table) (settled_guarded format s) s lent (judge_got (Guards.walk_of format) lent budget) a v sized t u r settles why stops refl

    pub guarded_walked : (e : ℕ) → r ≡ Ok e → ((i : ℕ) → Fits w8 (get_or s i 0)) → t ≡ blank → (left : List ℕ) → record { answer = a; state = left } ≡ within lent budget (walk_held Flags s u)
        → v ≡ line_told (table_in Flags s) s (record { answer = a; state = left }) → Gives (judge_guarded format s lent budget) (line_guarded format s lent budget) a left v
    unfolding judge_guarded line_guarded judge_got Guards.walk_of
    guarded_walked e passes bytes empty left walks told =
        let past = guarded_got s t u r settles e passes in
        let held = guarded_held s t u r settles e passes bytes empty in
        call_judged guarded_noted (λ (g : GuardedRequest). g.request.table) (settled_guarded format s) s lent (judge_got (Guards.walk_of format) lent budget) a v sized left past.0 e past.1
        (walks ∙ ap (within lent budget) (known_walk s u past.0.request past.0.guards (guarded_known s t u r settles e passes bytes empty) held (guards_held s t u r settles e passes bytes empty)))
        (told ∙ ap (λ (w : Table). line_told w s (record { answer = a; state = left })) (held_table s u past.0.request held))

-- THE VALUES CALL.
module _ (s lent : List ℕ) (budget : ℕ) (a : Answer) where
  pub values_9 : (length lent ≡ format.state → ⊥) → a ≡ record { number = 9; input = 0; place = 0; count = 0 } → record { answer = a; state = lent } ≡ judge_values format s lent budget
  unfolding judge_values
  values_9 other is = (call_9 (request_noted Valued) (λ (x : Request). x.table) (settled_values format s) s lent (judge_got (Values.walk_of format s) lent budget) a 0 other is refl).0

  module _ (sized : length lent ≡ format.state) (t u : List ℕ) (r : Passed) (settles : outcome r u ≡ noting (request_noted Valued) (settled_values format s) t) where
    pub values_refused : (why : Fault) → r ≡ Err why → a ≡ record { number = number_of why.refusal; input = 1; place = why.place; count = 0 } → record { answer = a; state = lent } ≡ judge_values format s lent budget
    unfolding judge_values judge_got
    values_refused why stops is =
        (call_refused (request_noted Valued) (λ (x : Request). x.table) (settled_values format s) s lent (judge_got (Values.walk_of format s) lent budget) a 0 sized t u r settles why stops refl is refl).0

    pub values_walked : (e : ℕ) → r ≡ Ok e → ((i : ℕ) → Fits w8 (get_or s i 0)) → t ≡ blank → (w : List ℕ) → w ≡ set u mode_slot 3 → (left : List ℕ)
        → record { answer = a; state = left } ≡ within lent budget (walk_held Valued s w) → record { answer = a; state = left } ≡ judge_values format s lent budget
    unfolding judge_values judge_got
    values_walked e passes bytes empty w put left walks =
        let past = values_got s t u r settles e passes in
        (call_judged (request_noted Valued) (λ (x : Request). x.table) (settled_values format s) s lent (judge_got (Values.walk_of format s) lent budget) a
        (line_told past.0.table s (record { answer = a; state = left })) sized left past.0 e past.1
        (walks ∙ ap (within lent budget) (values_walk s t u r settles e passes bytes empty w put)) refl).0
