-- The indexed call gives what the walk call gives, or 45 with the first difference; and so its answer is one of its numbers, and input, place, count and state are
-- what the number says (demand 1, FORMAT 23.22). Where the index is that of the request, the request is walked alike (`IndexedWalk`). Assumes nothing.
use Prim.Native.Nat.{ℕ, ◌≤◌}
use native.Mathlib.Omega.{arith}
use mathlib.Core.Path.{◌≡◌, refl, sym, ◌∙◌, ap, subst}
use mathlib.Core.Bool.{true, false}
use mathlib.Core.List.{List}
use mathlib.Core.Logic.{◌⊎◌, inl, inr, ⊎_elim}
use lib.ListN.{length}
use lib.Dec.{eqb}
use borrow.Author.Tests.{eqb-true, eq-eqb}
use Rattle.meaning.specs.Tests.{either, pick, some_of}
use Rattle.meaning.specs.Limits
use Rattle.meaning.specs.Limits.{Limits, format, most_index}
use Rattle.meaning.specs.Literals.{among}
use Rattle.meaning.specs.Requests.{Request}
use Rattle.meaning.specs.Reading.{Got, got, fault}
use Rattle.meaning.specs.Refusals.{Found, nowhere, at, settled}
use Rattle.meaning.specs.Judging
use Rattle.meaning.specs.Judging.{Judgement, within, wrong_length, judge_got, judge}
use Rattle.meaning.specs.Asking.{line_told, line_got, line}
use Rattle.meaning.specs.Indexes
use Rattle.meaning.specs.Indexes.{index_of, by_index, first_difference, difference_in, unless_differs, judge_indexed, line_indexed, AsWalked, IndexDiffers}
use Rattle.meaning.specs.Layouts.{Bytes}
use Rattle.meaning.specs.Answers.{refusals, answers, indexed_answers}
use Rattle.meaning.specs.AnswerParts.{of_neither, WalkInput, of_walks, WalkCount, stated, IndexedInput, IndexedPlaced, IndexedState}
use Rattle.meaning.proofs.TestLaws.{by-test, clash, either_right, pick_true, pick_false}
use Rattle.meaning.proofs.PartLaws.{walk_parts, input_exactly, count_exactly, place_within, place_limited}
use Rattle.meaning.proofs.AnswerLaws.{every_answer_numbered}
use Rattle.meaning.proofs.ReportedLine.{line_not}
use Rattle.meaning.proofs.TableLines.{settled_lines}
use Rattle.meaning.proofs.IndexLaws.{settled_index_most}
use Rattle.meaning.proofs.IndexedWalk.{indexed_line_told, indexed_walk}
use Rattle.meaning.proofs.DifferenceLaws.{same_difference, differs_there}

-- THE INDEXED CALL AGAINST THE WALK CALL.
module _ (lim : Limits) (s i lent : List ℕ) (budget : ℕ) where
  -- What it gives past 9.
  abbrev given : Got Request → Judgement
  given x = unless_differs lent (difference_in i x) (judge_got (Indexes.walk_of lim s i) lent budget x)

  -- Where the two calls give the same past 9, they give the same.
  judges_alike : given (settled lim s) ≡ judge_got (Judging.walk_of lim) lent budget (settled lim s) → judge_indexed lim s i lent budget ≡ judge lim s lent budget
  unfolding judge_indexed judge
  judges_alike same = ap (λ (j : Judgement). pick (eqb (length lent) lim.state) (λ _. j) (λ _. wrong_length lent)) same

  -- The right index.
  module _ (r : Request) (e : ℕ) (past : settled lim s ≡ got r e) (right : index_of r.table ≡ i) where
    right_judges : judge_indexed lim s i lent budget ≡ judge lim s lent budget
    unfolding difference_in unless_differs judge_got
    right_judges =
        let none : first_difference (index_of r.table) i ≡ nowhere = (same_difference (index_of r.table) i).1 right in
        let walks : Indexes.walk_of lim s i r ≡ Judging.walk_of lim r = ap (λ (j : List ℕ). Indexes.walk_of lim s j r) (sym right) ∙ indexed_walk lim s r e past in
        judges_alike (ap given past ∙ ap (λ (f : Found). unless_differs lent f (within lent budget (Indexes.walk_of lim s i r))) none ∙ ap (within lent budget) walks ∙ ap (judge_got (Judging.walk_of lim) lent budget) (sym past))

    pub right_index : AsWalked lim s i lent budget
    unfolding line_indexed line line_got
    right_index = record {
      judges = right_judges;
      tells =
          ap (line_got (λ (q : Request). by_index lim s i q.table) s (judge_indexed lim s i lent budget)) past
          ∙ ap (λ (j : List ℕ). line_told (by_index lim s j r.table) s (judge_indexed lim s i lent budget)) (sym right)
          ∙ indexed_line_told lim s r.table (settled_lines lim s r e past) s (judge_indexed lim s i lent budget)
          ∙ ap (line_told r.table s) right_judges
          ∙ ap (line_got (λ (q : Request). q.table) s (judge lim s lent budget)) (sym past);
    }

  -- A request that is refused, whatever the index is.
  pub refused_alike : (n p : ℕ) → settled lim s ≡ fault n p → AsWalked lim s i lent budget
  unfolding difference_in unless_differs judge_got line_indexed line line_got
  refused_alike n p past = record {
    judges = judges_alike (ap given past ∙ ap (judge_got (Judging.walk_of lim) lent budget) (sym past));
    tells =
        ap (line_got (λ (q : Request). by_index lim s i q.table) s (judge_indexed lim s i lent budget)) past
        ∙ ap (line_got (λ (q : Request). q.table) s (judge lim s lent budget)) (sym past);
  }

  -- A lent state of another length, whatever the index is.
  module _ (other : eqb (length lent) lim.state ≡ false) where
    indexed_9 : judge_indexed lim s i lent budget ≡ wrong_length lent
    unfolding judge_indexed
    indexed_9 = pick_false _ _ _ other

    walked_9 : judge lim s lent budget ≡ wrong_length lent
    unfolding judge
    walked_9 = pick_false _ _ _ other

    pub nine_alike : AsWalked lim s i lent budget
    unfolding line_indexed line
    nine_alike =
        let not : (j : Judgement) → j ≡ wrong_length lent → j.answer.number ≡ Limits.not_executable → ⊥ = λ j is two. let same = ap (λ (k : Judgement). k.answer.number) is in omega (arith, same, two) in
        record {
          judges = indexed_9 ∙ sym walked_9;
          tells =
              line_not (λ (q : Request). by_index lim s i q.table) s (judge_indexed lim s i lent budget) (not _ indexed_9) (settled lim s)
              ∙ sym (line_not (λ (q : Request). q.table) s (judge lim s lent budget) (not _ walked_9) (settled lim s));
        }

  -- Another index, with the first difference.
  module _ (sized : length lent ≡ lim.state) (r : Request) (e : ℕ) (past : settled lim s ≡ got r e) (p : ℕ) (found : first_difference (index_of r.table) i ≡ at p) where
    pub other_judges : judge_indexed lim s i lent budget ≡ record { answer = record { number = Limits.index_differs; input = Limits.the_index; place = p; count = 0 }; state = lent }
    unfolding judge_indexed difference_in unless_differs judge_got
    other_judges =
        pick_true _ _ _ (eq-eqb (length lent) lim.state sized) ∙ ap given past ∙ ap (λ (f : Found). unless_differs lent f (within lent budget (Indexes.walk_of lim s i r))) found

    pub other_tells : line_indexed lim s i lent budget ≡ 0
    unfolding line_indexed
    other_tells = line_not _ s (judge_indexed lim s i lent budget) (λ two. let number = ap (λ (j : Judgement). j.answer.number) other_judges in omega (arith, number, two)) (settled lim s)

    other_index : IndexDiffers lim s i lent budget
    other_index = record {
      sized = sized;
      says = r;
      end = e;
      settles = past;
      place = p;
      differs = (differs_there (index_of r.table) i p).0 found;
      judges = other_judges;
      tells = other_tells;
    }

  pub another_index : length lent ≡ lim.state → (r : Request) (e : ℕ) → settled lim s ≡ got r e → (index_of r.table ≡ i → ⊥) → IndexDiffers lim s i lent budget
  another_index sized r e past apart = by_found (first_difference (index_of r.table) i) refl
    where
      by_found : (f : Found) → first_difference (index_of r.table) i ≡ f → IndexDiffers lim s i lent budget
      by_found nowhere none = absurd (apart ((same_difference (index_of r.table) i).0 none))
      by_found (at p) found = other_index sized r e past p found

  -- It is the one or the other (FORMAT 23.13, 23.15).
  pub differs_or_walked : IndexDiffers lim s i lent budget ⊎ AsWalked lim s i lent budget
  differs_or_walked =
      by-test (eqb (length lent) lim.state) (λ t. by_read (eqb-true (length lent) lim.state t) (settled lim s) refl) (λ f. inr (nine_alike f))
    where
      by_found : length lent ≡ lim.state → (r : Request) (e : ℕ) → settled lim s ≡ got r e → (f : Found) → first_difference (index_of r.table) i ≡ f → IndexDiffers lim s i lent budget ⊎ AsWalked lim s i lent budget
      by_found sized r e past nowhere none = inr (right_index r e past ((same_difference (index_of r.table) i).0 none))
      by_found sized r e past (at p) found = inl (other_index sized r e past p found)

      by_read : length lent ≡ lim.state → (x : Got Request) → settled lim s ≡ x → IndexDiffers lim s i lent budget ⊎ AsWalked lim s i lent budget
      by_read sized (got r e) past = by_found sized r e past (first_difference (index_of r.table) i) refl
      by_read sized (fault n p) past = inr (refused_alike n p past)

  -- 45 is no answer of the walk call.
  not_differs : (judge lim s lent budget).answer.number ≡ Limits.index_differs → ⊥
  unfolding among answers refusals some_of either
  not_differs is = clash (every_answer_numbered lim s lent budget) (ap (λ (n : ℕ). among n answers) is)

  -- With 45 it is what comes with 45, and with every other number what the walk call gives (FORMAT 23.25, 23.26).
  pub differs_so : (judge_indexed lim s i lent budget).answer.number ≡ Limits.index_differs → IndexDiffers lim s i lent budget
  differs_so is = ⊎_elim (λ d. d) (λ w. absurd (not_differs (ap (λ (j : Judgement). j.answer.number) (sym w.judges) ∙ is))) differs_or_walked

  pub walked_otherwise : ((judge_indexed lim s i lent budget).answer.number ≡ Limits.index_differs → ⊥) → AsWalked lim s i lent budget
  walked_otherwise other = ⊎_elim (λ d. absurd (other (ap (λ (j : Judgement). j.answer.number) d.judges))) (λ w. w) differs_or_walked

-- DEMAND 1. Its numbers are those of the walk call, and 45.
among_more : (n : ℕ) → among n answers ≡ true → among n indexed_answers ≡ true
unfolding among indexed_answers some_of
among_more n is = either_right _ _ is

module _ (lim : Limits) (s i lent : List ℕ) (budget : ℕ) where
  -- What is so of 45, placed within both indexes, and of what the walk call gives, is so of the indexed call.
  by_answer : (P : Judgement → Type 0)
      → ((r : Request) (e p : ℕ) → settled lim s ≡ got r e → p ≤ length (index_of r.table) → p ≤ length i → P (record { answer = record { number = Limits.index_differs; input = Limits.the_index; place = p; count = 0 }; state = lent }))
      → P (judge lim s lent budget) → P (judge_indexed lim s i lent budget)
  by_answer P told walked =
      ⊎_elim (λ d. subst P (sym d.judges) (told d.says d.end d.place d.settles d.differs.in_one d.differs.in_other)) (λ w. subst P (sym w.judges) walked) (differs_or_walked lim s i lent budget)

  -- The number is one of 0 to 3, 9 to 21 and 45 (FORMAT 23.22).
  pub indexed_numbered : among (judge_indexed lim s i lent budget).answer.number indexed_answers ≡ true
  unfolding among indexed_answers some_of either
  indexed_numbered = by_answer (λ j. among j.answer.number indexed_answers ≡ true) (λ _ _ _ _ _ _. refl) (among_more _ (every_answer_numbered lim s lent budget))

  -- The index is named exactly with 45, and else what the walk call names.
  pub indexed_input : IndexedInput (judge_indexed lim s i lent budget).answer
  indexed_input =
      let names = input_exactly lim s lent budget in
      by_answer (λ j. IndexedInput j.answer) (λ _ _ _ _ _ _. record { index = (λ _. refl, λ _. refl); other = λ other. absurd (other refl) })
      (record { index = (λ three. absurd (not_three names three), λ is. absurd (not_differs lim s i lent budget is)); other = λ _. names })
    where
      not_three : WalkInput (judge lim s lent budget).answer → (judge lim s lent budget).answer.input ≡ Limits.the_index → ⊥
      not_three names three =
          by-test (among (judge lim s lent budget).answer.number of_neither)
          (λ t. let none = names.neither.1 t in omega (arith, none, three))
          (λ f. let one = names.request f in omega (arith, one, three))

  -- With 0, 1 and 2 the count is the walk's, with 3 it is the budget, and with every other number 0, 45 among them.
  pub indexed_count : WalkCount lim s budget (judge_indexed lim s i lent budget).answer
  unfolding among of_walks some_of either
  indexed_count =
      by_answer (λ j. WalkCount lim s budget j.answer) (λ _ _ _ _ _ _. record { walk = λ t. clash t refl; spent = λ q. absurd (omega (arith, q)); other = λ _. refl }) (count_exactly lim s lent budget)

  -- The place is at most the index's length with 45, and else that of the walk call.
  pub indexed_place : IndexedPlaced (length s) (length i) (judge_indexed lim s i lent budget).answer.number (judge_indexed lim s i lent budget).answer.place
  indexed_place =
      by_answer (λ j. IndexedPlaced (length s) (length i) j.answer.number j.answer.place) (λ _ _ p _ _ fits. record { differs = λ _. fits; other = λ other. absurd (other refl) })
      (record { differs = λ is. absurd (not_differs lim s i lent budget is); other = λ _. place_within lim s lent budget })

  -- The lent bytes are written with 1 and 2, and stay with every other number.
  pub indexed_state : IndexedState lim s lent (judge_indexed lim s i lent budget)
  unfolding among stated some_of either
  indexed_state = by_answer (IndexedState lim s lent) (λ _ _ _ _ _ _. record { written = λ t. clash t refl; as_lent = λ _. refl }) (walk_parts lim s lent budget).state

-- In the format a place is at most the request limit, and with 45 at most what an index may have.
module _ (s : List ℕ) (bytes : Bytes s) (i lent : List ℕ) (budget : ℕ) where
  pub indexed_place_limited : (judge_indexed format s i lent budget).answer.place ≤ format.request
  indexed_place_limited =
      by_answer format s i lent budget (λ j. j.answer.place ≤ format.request) (λ r e p past fits _. let most = settled_index_most s bytes r e past in omega (arith, fits, most)) (place_limited format s lent budget)

  pub differs_place_limited : (judge_indexed format s i lent budget).answer.number ≡ Limits.index_differs → (judge_indexed format s i lent budget).answer.place ≤ most_index
  differs_place_limited =
      by_answer format s i lent budget (λ j. j.answer.number ≡ Limits.index_differs → j.answer.place ≤ most_index)
      (λ r e p past fits _ _. let most = settled_index_most s bytes r e past in omega (arith, fits, most)) (λ is. absurd (not_differs format s i lent budget is))
