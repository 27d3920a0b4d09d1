-- What the index call promises, once: of an answer and of a room that are the definition's. Assumes nothing.
use Prim.Native.Nat.{ℕ, ◌+◌, ◌*◌, ◌≤◌, ◌<◌}
use mathlib.Core.Path.{◌≡◌, sym, ◌∙◌, ap, subst}
use mathlib.Core.Bool.{true}
use mathlib.Core.List.{List, ◌++◌}
use mathlib.Core.Logic.{◌↔◌}
use lib.ListN.{length, drop}
use Rattle.meaning.specs.declared.Answer.{Answer}
use Rattle.meaning.specs.Limits
use Rattle.meaning.specs.Limits.{format, most_index}
use Rattle.meaning.specs.Literals.{among}
use Rattle.meaning.specs.Requests.{Request}
use Rattle.meaning.specs.Reading.{got, fault}
use Rattle.meaning.specs.Refusals.{settled}
use Rattle.meaning.specs.Judging.{judge}
use Rattle.meaning.specs.Indexes.{index_of, Built, build}
use Rattle.meaning.specs.Layouts.{Bytes}
use Rattle.meaning.specs.Answers.{refusals, index_answers}
use Rattle.meaning.specs.AnswerParts.{IndexInput, IndexPlaced, IndexCount}
use Rattle.meaning.specs.Tests.{Has}
use Rattle.meaning.proofs.TableLines.{settled_lines}
use Rattle.demands.proofs.Demands
use Rattle.demands.proofs.ProvedCases.{indexing, built, Row, proved_cases}
use Rattle.promises.proofs.CasePromises.{row_holds}

-- AN INDEX WRITTEN: the request is settled, the room is not shorter than its index, the count is the index's length, which is two bytes for each action, each effect and
-- each executability line, and the room starts with the index and goes on as lent (FORMAT 23.5, 23.9).
abbrev pub Written : (request room : List ℕ) → Answer → (left : List ℕ) → Type 0
Written request room answer left =
    (x : Request) × (e : ℕ) × (settled format request ≡ got x e) × (length (index_of x.table) ≤ length room)
    × (answer.count ≡ length (index_of x.table)) × (answer.count ≡ 2 * x.table.actions + 2 * length x.table.effects + 2 * length x.table.executability)
    × (left ≡ index_of x.table ++ drop (length (index_of x.table)) room)

-- THE INDEX CALL.
module _ (request room : List ℕ) (answer : Answer) (left : List ℕ) (is : record { answer = answer; room = left } ≡ build format request room) where
  -- What is so of what the definition gives is so of this.
  as_built : (P : Built → Type 0) → P (build format request room) → P (record { answer = answer; room = left })
  as_built P = subst P (sym is)

  number_is : (build format request room).answer.number ≡ answer.number
  number_is = ap (λ (b : Built). b.answer.number) (sym is)

  pub numbered : among answer.number index_answers ≡ true
  numbered = as_built (λ b. among b.answer.number index_answers ≡ true) (Demands.index_numbered format request room)

  pub answers_the_cases : (row : Row) → Has proved_cases row → row.call ≡ indexing request room → row.gives ≡ built (record { answer = answer; room = left })
  answers_the_cases row has call = row_holds row has (indexing request room) call ∙ ap built (sym is)

  -- 0, 39 AND THE REFUSALS, exactly.
  pub built_exactly : (answer.number ≡ Limits.verified) ↔ ((x : Request) × (e : ℕ) × (settled format request ≡ got x e) × (length (index_of x.table) ≤ length room))
  built_exactly = rw (sym number_is) (Demands.built_exactly format request room)

  pub short_exactly : (answer.number ≡ Limits.room_short) ↔ ((x : Request) × (e : ℕ) × (settled format request ≡ got x e) × (length room < length (index_of x.table)))
  short_exactly = rw (sym number_is) (Demands.short_exactly format request room)

  pub refused_exactly : (among answer.number refusals ≡ true) ↔ ((n p : ℕ) × (settled format request ≡ fault n p))
  refused_exactly = rw (sym number_is) (Demands.refused_exactly format request room)

  pub refused_as_judged : (n p : ℕ) → settled format request ≡ fault n p → (lent : List ℕ) → length lent ≡ format.state → (budget : ℕ) → answer ≡ (judge format request lent budget).answer
  refused_as_judged n p past lent sized budget = ap (λ (b : Built). b.answer) is ∙ Demands.refused_as_judged format request room n p past lent sized budget

  -- THE ROOM.
  pub written : answer.number ≡ Limits.verified → Written request room answer left
  written =
      as_built (λ b. b.answer.number ≡ Limits.verified → Written request room b.answer b.room)
      λ zero.
      let w = Demands.index_written format request room zero in
      (w.says, w.end, w.settles, w.fits, w.counts, w.counts ∙ Demands.index_length format request w.says.table (settled_lines format request w.says w.end w.settles), w.leaves)

  pub room_kept : (answer.number ≡ Limits.verified → ⊥) → left ≡ room
  room_kept = as_built (λ b. (b.answer.number ≡ Limits.verified → ⊥) → b.room ≡ room) (Demands.room_as_lent format request room)

  pub room_length : length left ≡ length room
  room_length = as_built (λ b. length b.room ≡ length room) (Demands.index_room_length format request room)

  pub count_limited : Bytes request → answer.count ≤ most_index
  count_limited bytes = as_built (λ b. b.answer.count ≤ most_index) (Demands.index_count_limited request bytes room)

  -- INPUT, PLACE AND COUNT.
  pub input_exactly : IndexInput answer
  input_exactly = as_built (λ b. IndexInput b.answer) (Demands.index_input format request room)

  pub place_within : IndexPlaced (length request) answer.number answer.place
  place_within = as_built (λ b. IndexPlaced (length request) b.answer.number b.answer.place) (Demands.index_place format request room)

  pub count_exactly : IndexCount format request answer
  count_exactly = as_built (λ b. IndexCount format request b.answer) (Demands.index_count format request room)
