-- What the indexed call and the index call answer. Where the index is the right one, the indexed call gives what the walk call gives: the notes with the index taken into
-- them hold the same request. Assumes nothing.
use Prim.Native.Nat.{ℕ, ◌+◌, ◌≤◌, ◌<◌}
use native.Mathlib.Omega.{arith}
use mathlib.Core.Path.{◌≡◌, refl, sym, ◌∙◌, ap}
use mathlib.Core.Bool.{true}
use mathlib.Core.List.{List, ◌++◌}
use lib.ListN.{length, get_or, drop}
use lib.Seq.{sets, sets-eq}
use lib.Dec.{leb}
use mir.Syntax.{w8}
use mir.Val.{Fits}
use borrow.Author.Tests.{ne_eqb, le-leb, lt-leb}
use Rattle.std.specs.Prelude.{Option, None, Some}
use Rattle.std.specs.Prelude.{Ok, Err}
use Rattle.parsing.specs.Faults.{number_of}
use Rattle.parsing.specs.Read.{Passed}
use Rattle.parsing.specs.declared.faults.Fault.{Fault}
use Rattle.meaning.specs.declared.Answer.{Answer}
use Rattle.meaning.specs.Limits.{format}
use Rattle.meaning.specs.Requests.{Request, Entry}
use Rattle.meaning.specs.Reading.{got}
use Rattle.meaning.specs.Refusals.{settled}
use Rattle.meaning.specs.States.{first_state}
use Rattle.meaning.specs.Walk.{walked_guarded}
use Rattle.meaning.specs.Judging.{within, judge}
use Rattle.meaning.specs.Asking.{line_told, line}
use Rattle.meaning.specs.Indexes.{index_of, first_difference, build_got, build, judge_indexed, line_indexed, AsWalked}
use Rattle.meaning.specs.Tests.{pick}
use Rattle.meaning.proofs.TestLaws.{pick_false}
use Rattle.meaning.proofs.DifferenceLaws.{same_difference}
use Rattle.meaning.proofs.IndexAnswers.{right_index, refused_alike, nine_alike, other_judges, other_tells}
use Rattle.meaning.specs.declared.Form.TheVariants.{Flags}
use Rattle.reading.specs.Noted.{noting, outcome}
use Rattle.reading.specs.Requested.{request_noted}
use Rattle.reading.proofs.SectionLaws.{noting_fault}
use Rattle.finding.specs.Places.{found}
use Rattle.finding.specs.TablesHere.{blank, TableHere}
use Rattle.finding.proofs.FoundLaws.{found_none, found_at}
use Rattle.steps.specs.Held.{table_in, guards_in, request_in}
use Rattle.steps.specs.AtHand.{AtHand}
use Rattle.steps.specs.Steps.{mode_in, walk_held}
use Rattle.steps.proofs.ModeLaws.{held_known}
use Rattle.indexing.specs.IndexNotes.{index_taken}
use Rattle.indexing.proofs.BuildLaws.{index_short}
use Rattle.indexing.proofs.TakenHand.{taken_mode, taken_request, taken_guards, taken_hand}
use Rattle.glintstring.proofs.SettledAtHand.{settled_got, settled_at_hand, settled_held, settled_known, settled_table}
use Rattle.glintstring.proofs.JudgingLaws.{Gives, held_table, judge_9, judge_refused, judge_walked}

-- THE WALK of what is held is the same with the index taken into the notes.
taken_walk : (s u i : List ℕ) → TableHere Flags s u → i ≡ index_of (table_in Flags s) → mode_in u ≡ 0 → walk_held Flags s (index_taken i 0 (table_in Flags s).actions 0 0 0 u) ≡ walk_held Flags s u
taken_walk s u i table is known =
    let w : List ℕ = index_taken i 0 (table_in Flags s).actions 0 0 0 u in
    held_known s w (taken_mode s u table i is ∙ known)
    ∙ ap (λ (x : Request). walked_guarded x (guards_in s w) (first_state format (table_in Flags s))) (taken_request s u table i is)
    ∙ ap (λ (gs : List Entry). walked_guarded (request_in Flags s u) gs (first_state format (table_in Flags s))) (taken_guards s u table i is)
    ∙ sym (held_known s u known)

-- THE INDEXED CALL.
module _ (s i lent : List ℕ) (budget : ℕ) (a : Answer) (v : ℕ) where
  abbrev Indexed : (left : List ℕ) → Type 0
  Indexed left = Gives (judge_indexed format s i lent budget) (line_indexed format s i lent budget) a left v

  -- Where the walk call gives the same.
  as_judged : (left : List ℕ) → AsWalked format s i lent budget → Gives (judge format s lent budget) (line format s lent budget) a left v → Indexed left
  as_judged left same gives = (gives.0 ∙ sym same.judges, gives.1 ∙ sym same.tells)

  pub indexed_9 : (length lent ≡ format.state → ⊥) → a ≡ record { number = 9; input = 0; place = 0; count = 0 } → v ≡ 0 → Gives (judge_indexed format s i lent budget) (line_indexed format s i lent budget) a lent v
  indexed_9 other is none = as_judged lent (nine_alike format s i lent budget (ne_eqb _ _ other)) (judge_9 s lent budget a v other is none)

  module _ (sized : length lent ≡ format.state) (t u : List ℕ) (r : Passed) (settles : outcome r u ≡ noting (request_noted Flags) (settled format s) t) where
    pub indexed_refused : (why : Fault) → r ≡ Err why → a ≡ record { number = number_of why.refusal; input = 1; place = why.place; count = 0 } → v ≡ 0
        → Gives (judge_indexed format s i lent budget) (line_indexed format s i lent budget) a lent v
    indexed_refused why stops is none =
        as_judged lent (refused_alike format s i lent budget (number_of why.refusal) why.place (noting_fault (request_noted Flags) (settled format s) r t u settles why stops)) (judge_refused s lent budget a v sized t u r settles why stops is none)

    module _ (e : ℕ) (passes : r ≡ Ok e) (bytes : (j : ℕ) → Fits w8 (get_or s j 0)) (empty : t ≡ blank) where
      held : table_in Flags s ≡ (settled_got s t u r settles e passes).0.table
      held = held_table s u (settled_got s t u r settles e passes).0 (settled_held s t u r settles e passes bytes empty)

      -- Another index.
      pub indexed_differs : (f : Option ℕ) (p : ℕ) → f ≡ found (first_difference (index_of (table_in Flags s)) i) → f ≡ Some p → a ≡ record { number = 45; input = 3; place = p; count = 0 } → v ≡ 0
          → Gives (judge_indexed format s i lent budget) (line_indexed format s i lent budget) a lent v
      indexed_differs f p finds there is none =
          let x = settled_got s t u r settles e passes in
          let differs = ap (λ (w : _). first_difference (index_of w) i) (sym held) ∙ found_at _ _ finds p there in (
            ap (λ (b : Answer). record { answer = b; state = lent }) is ∙ sym (other_judges format s i lent budget sized x.0 e x.1 p differs),
            none ∙ sym (other_tells format s i lent budget sized x.0 e x.1 p differs),
          )

      -- The right one, taken into the notes.
      pub indexed_walked : i ≡ index_of (table_in Flags s) → (w : List ℕ) → w ≡ index_taken i 0 (table_in Flags s).actions 0 0 0 u → (left : List ℕ)
          → record { answer = a; state = left } ≡ within lent budget (walk_held Flags s w) → v ≡ line_told (table_in Flags s) s (record { answer = a; state = left })
          → Gives (judge_indexed format s i lent budget) (line_indexed format s i lent budget) a left v
      indexed_walked right w taken left walks told =
          let x = settled_got s t u r settles e passes in
          as_judged left (right_index format s i lent budget x.0 e x.1 (ap index_of (sym held) ∙ sym right))
          (judge_walked s lent budget a v sized t u r settles e passes bytes empty left
          (walks ∙ ap (λ (z : List ℕ). within lent budget (walk_held Flags s z)) taken
          ∙ ap (within lent budget) (taken_walk s u i (settled_table s t u r settles e passes bytes empty) right (settled_known s t u r settles e passes bytes empty)))
          told)

-- The index that no difference was found of, and the request at hand with it.
pub right_one : (s i : List ℕ) (f : Option ℕ) → f ≡ found (first_difference (index_of (table_in Flags s)) i) → f ≡ None → i ≡ index_of (table_in Flags s)
right_one s i f finds none = sym ((same_difference (index_of (table_in Flags s)) i).0 (found_none _ _ finds none))

module _ (s t u : List ℕ) (r : Passed) (settles : outcome r u ≡ noting (request_noted Flags) (settled format s) t) (e : ℕ) (passes : r ≡ Ok e) (bytes : (j : ℕ) → Fits w8 (get_or s j 0)) (empty : t ≡ blank)
    (i : List ℕ) (right : i ≡ index_of (table_in Flags s)) (w : List ℕ) (taken : w ≡ index_taken i 0 (table_in Flags s).actions 0 0 0 u) where
  pub indexed_hand : AtHand Flags s w
  indexed_hand = rw taken (taken_hand s u (settled_table s t u r settles e passes bytes empty) i right (settled_at_hand s t u r settles e passes bytes empty))

-- THE INDEX CALL, by what was read. The count has room.
pub length_fits : (s t : List ℕ) → TableHere Flags s t → (l : ℕ) → l ≡ length (index_of (table_in Flags s)) → l < 4294967296
length_fits s t here l is = let most = index_short s t here in omega (arith, most, is)

module _ (s t room : List ℕ) (a : Answer) (l : ℕ) (long : l ≡ length (index_of (table_in Flags s))) where
  pub room_short : length room < l → a ≡ record { number = 39; input = 0; place = 0; count = 0 } → record { answer = a; room = room } ≡ build_got room (got (request_in Flags s t) 0)
  unfolding build_got request_in
  room_short less is =
      ap (λ (b : Answer). record { answer = b; room = room }) is ∙ sym (pick_false _ _ _ (lt-leb (length (index_of (table_in Flags s))) (length room) (omega (arith, less, long))))

  pub room_written : l ≤ length room → (w : List ℕ) → w ≡ sets room 0 (index_of (table_in Flags s)) → a ≡ record { number = 0; input = 0; place = 0; count = l }
      → record { answer = a; room = w } ≡ build_got room (got (request_in Flags s t) 0)
  unfolding build_got request_in pick
  room_written enough w puts is =
      let table = table_in Flags s in
      let none : 0 + length (index_of table) ≡ length (index_of table) = omega arith in
      let to : w ≡ index_of table ++ drop (length (index_of table)) room = puts ∙ sets-eq (index_of table) room 0 (omega (arith, enough, long)) ∙ ap (λ (n : ℕ). index_of table ++ drop n room) none in
      let fits : leb (length (index_of table)) (length room) ≡ true = le-leb (length (index_of table)) (length room) (omega (arith, enough, long)) in
      rw (is, long, to, fits) refl

module _ (s room : List ℕ) (a : Answer) (t u : List ℕ) (r : Passed) (settles : outcome r u ≡ noting (request_noted Flags) (settled format s) t) where
  pub built_refused : (why : Fault) → r ≡ Err why → a ≡ record { number = number_of why.refusal; input = 1; place = why.place; count = 0 } → record { answer = a; room = room } ≡ build format s room
  unfolding build build_got
  built_refused why stops is =
      ap (λ (b : Answer). record { answer = b; room = room }) is ∙ sym (ap (build_got room) (noting_fault (request_noted Flags) (settled format s) r t u settles why stops))

  pub built_so : (e : ℕ) → r ≡ Ok e → ((j : ℕ) → Fits w8 (get_or s j 0)) → t ≡ blank → (w : List ℕ) → record { answer = a; room = w } ≡ build_got room (got (request_in Flags s u) 0)
      → record { answer = a; room = w } ≡ build format s room
  unfolding build build_got
  built_so e passes bytes empty w is =
      is
      ∙ ap (λ (x : Request). build_got room (got x 0)) (settled_held s t u r settles e passes bytes empty)
      ∙ sym (ap (build_got room) (settled_got s t u r settles e passes).1)
