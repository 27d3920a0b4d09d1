-- What an end state misses: one entry, a list of entries one after another, the goals and then the whether entries. Assumes nothing.
use Prim.Native.Nat.{ℕ, ◌+◌, ◌-◌, ◌*◌, ◌%◌, ◌≤◌, ◌<◌}
use native.Mathlib.Omega.{arith}
use mathlib.Core.Path.{◌≡◌, refl, sym, ◌∙◌, ap, subst, fun_ext}
use mathlib.Core.Bool.{Bool, true, false}
use mathlib.Core.List.{List}
use lib.ListN.{length, get_or}
use lib.Dec.{eqb, ltb}
use mir.Syntax.{w64}
use mir.Val.{Fits}
use borrow.Author.Tests.{eq-eqb, ne_eqb}
use Rattle.std.specs.Prelude.{Option, None, Some}
use Rattle.meaning.specs.Tests.{pick}
use Rattle.meaning.specs.declared.Form.{Form}
use Rattle.meaning.specs.declared.Form.TheVariants.{Flags, Valued}
use Rattle.meaning.specs.Limits.{format, all_literals}
use Rattle.meaning.specs.Requests.{Entry}
use Rattle.meaning.specs.Refusals
use Rattle.meaning.specs.Refusals.{or_else}
use Rattle.meaning.specs.Reading.{placed, placed_twos, placed_as, literals_in}
use Rattle.meaning.specs.States.{State, known}
use Rattle.meaning.specs.ValueStates as Value
use Rattle.meaning.specs.Walk.{first_missed, missed_in}
use Rattle.meaning.proofs.TestLaws.{pick_true, pick_false}
use Rattle.reading.specs.declared.marks.Test.TheVariants.{Known}
use Rattle.finding.specs.Places.{found}
use Rattle.finding.specs.Branches.{sequence_place}
use Rattle.reading.specs.Listed.{bytes_from, twos_from, listed, ListHere, ValuesHere, listed_as, LiteralsHere, holds_as}
use Rattle.reading.proofs.MarkLaws.{entry_next, entry_last}
use Rattle.reading.specs.Noted.{goals_slot, guards_slot}
use Rattle.valuing.proofs.TwosLaws.{TwosLeft, twos_start, twos_next, twos_over, twos_whole, literal_there, second_there, literal_near, literal_second}
use Rattle.finding.proofs.FoundLaws.{found_none, found_at}
use Rattle.steps.specs.declared.goals.Asked.{Asked}
use Rattle.steps.specs.declared.goals.Asked.TheVariants.{Goal, Whether}
use Rattle.steps.specs.Held.{goals_in, guards_at, guards_in, request_in}
use Rattle.steps.specs.AtHand.{AtHand, MarkedAs}
use Rattle.steps.specs.Steps.{bound_as, has_mark, met_as, knows_as, lacks_as, missed_as}
use Rattle.steps.proofs.HandLaws.{goals_here, is_whether, whether_here}
use Rattle.steps.proofs.LookAs.{whether_as, marked_whether}

-- ONE ENTRY.
module _ (asked : Asked) (x : ℕ) (below : x < bound_as asked) where
  pub goal_below : asked ≡ Goal → x < all_literals
  unfolding bound_as
  goal_below e = rw e at below

  pub fluent_below : asked ≡ Whether → x < format.fluents
  unfolding bound_as
  fluent_below e = rw e at below

module _ (asked : Asked) (marks : State) (x : ℕ) where
  pub goal_met : (r : Bool) → asked ≡ Goal → r ≡ holds_as Known marks x → r ≡ met_as asked marks x
  unfolding met_as holds_as
  goal_met r e is = rw e is

  pub whether_met : asked ≡ Whether → ltb 0 (get_or marks x 0) ≡ met_as asked marks x
  unfolding met_as has_mark
  whether_met e = rw e

-- From the entry at i on, the list at p misses what the whole does.
abbrev pub MissedAhead : (test : ℕ → Bool) (s : List ℕ) (p end : ℕ) (whole : Option ℕ) (i : ℕ) → Type 0
MissedAhead test s p end whole i = (p < i) × (whole ≡ found (first_missed test (placed i (bytes_from s i (end - i)))))

-- A LIST at p, read to its end.
module _ (asked : Asked) (s : List ℕ) (p : ℕ) (here : ListHere (bound_as asked) s p) where
  pub list_there : p < length s
  list_there = let ends = here.ends in omega arith

  pub first_fits : Fits w64 (length s) → Fits w64 (p + 1)
  first_fits room = let there = list_there in let most = room.fits in record { fits = omega arith }

  module _ (x : ℕ) (byte : x ≡ get_or s p 0) where
    pub list_fits : Fits w64 (length s) → Fits w64 (p + 1 + x)
    list_fits room = let ends = here.ends in let most = room.fits in record { fits = omega arith }

    pub missed_starts : (test : ℕ → Bool) → MissedAhead test s p (p + 1 + x) (found (first_missed test (placed (p + 1) (listed s p)))) (p + 1)
    unfolding listed
    missed_starts test = let left : p + 1 + x - (p + 1) ≡ get_or s p 0 = omega arith in (omega arith, rw left)

    module _ (i : ℕ) (from : p < i) (more : i < p + 1 + x) where
      pub entry_there : i < length s
      entry_there = let ends = here.ends in omega arith

      pub entry_below : (l : ℕ) → l ≡ get_or s i 0 → l < bound_as asked
      entry_below l e =
          let same : p + 1 + (i - (p + 1)) ≡ i = omega arith in
          subst (λ (y : ℕ). y < bound_as asked) (ap (λ (j : ℕ). get_or s j 0) same ∙ sym e) (here.below (i - (p + 1)) (omega arith))

module _ (test : ℕ → Bool) (s : List ℕ) (p end : ℕ) (whole : Option ℕ) (i : ℕ) (so_far : MissedAhead test s p end whole i) where
  module _ (b : Bool) (l : ℕ) (more : i < end) (entry : l ≡ get_or s i 0) (tested : b ≡ test l) where
    first_is : whole ≡ found (pick b (λ _. first_missed test (placed (i + 1) (bytes_from s (i + 1) (end - (i + 1))))) (λ _. Refusals.at i))
    unfolding first_missed placed
    first_is = so_far.1 ∙ rw (entry_next s end i more, tested, entry)

    pub missed_here : b ≡ false → Some i ≡ whole
    unfolding found
    missed_here f = sym (first_is ∙ ap found (pick_false _ _ _ f))

    pub missed_next : b ≡ true → MissedAhead test s p end whole (i + 1)
    missed_next t = let from = so_far.0 in (omega arith, first_is ∙ ap found (pick_true _ _ _ t))

  pub missed_done : end ≤ i → None ≡ whole
  unfolding first_missed placed found
  missed_done h = sym (so_far.1 ∙ rw (entry_last s end i h))

-- THE GOALS, and then the whether entries.
pub missed_parts : (form : Form) (s t : List ℕ) (marks : State) → missed_as form s t marks ≡ or_else (first_missed (knows_as form s marks) (request_in form s t).goals) (λ _. first_missed (whether_as form s marks) (request_in form s t).whether)
unfolding missed_in Value.missed_in
missed_parts Flags s t marks = refl
missed_parts Valued s t marks = refl

module _ {form : Form} (s t : List ℕ) (here : AtHand form s t) (goals : ℕ) (is : goals ≡ get_or t goals_slot 0) where
  pub goals_there : LiteralsHere form s goals
  goals_there = goals_here s t here goals is

  module _ (marks : State) (marked : MarkedAs form s marks) (r : Option ℕ) (looked : r ≡ found (first_missed (knows_as form s marks) (placed_as form (goals + 1) (listed_as form s goals)))) where
    goals_looked : r ≡ found (first_missed (knows_as form s marks) (request_in form s t).goals)
    unfolding request_in goals_in
    goals_looked = looked ∙ rw is

    pub goal_missed : (p : ℕ) → r ≡ Some p → Some p ≡ found (missed_as form s t marks)
    unfolding or_else found
    goal_missed p e =
        let is : first_missed (knows_as form s marks) (request_in form s t).goals ≡ Refusals.at p = found_at _ r goals_looked p e in
        rw (missed_parts form s t marks, is)

    module _ (none : r ≡ None) (whether : ℕ) (after : whether ≡ sequence_place form s goals) where
      pub whether_there : ListHere (bound_as Whether) s whether
      unfolding bound_as
      whether_there = whether_here s t here goals is whether after

      whether_is : placed (whether + 1) (listed s whether) ≡ (request_in form s t).whether
      unfolding request_in
      whether_is = ap (λ (p : ℕ). placed (p + 1) (listed s p)) (is_whether s t here goals is whether after)

      pub whether_missed : (q : Option ℕ) → q ≡ found (first_missed (met_as Whether marks) (placed (whether + 1) (listed s whether))) → q ≡ found (missed_as form s t marks)
      unfolding or_else met_as
      whether_missed q asked =
          let no_goal : first_missed (knows_as form s marks) (request_in form s t).goals ≡ Refusals.nowhere = found_none _ r goals_looked none in
          asked
          ∙ ap (λ (es : List Entry). found (first_missed (has_mark marks) es)) whether_is
          ∙ ap (λ (test : ℕ → Bool). found (first_missed test (request_in form s t).whether)) (fun_ext (marked_whether form s marks marked))
          ∙ rw (missed_parts form s t marks, no_goal)

-- THE GUARDS, where the notes have a place of them.
flags_lacked : (s t : List ℕ) (marks : State) → guards_at t ≡ 0 → None ≡ found (first_missed (known marks) (guards_in s t))
unfolding guards_in first_missed found
flags_lacked s t marks none = rw none (ap (λ (es : List Entry). found (first_missed (known marks) es)) (sym (pick_true (eqb 0 0) _ _ (eq-eqb 0 0 refl))))

pub none_lacked : (form : Form) (s t : List ℕ) (guards : ℕ) → guards ≡ get_or t guards_slot 0 → (marks : State) → guards ≡ 0 → None ≡ found (lacks_as form s t marks)
unfolding guards_at found
none_lacked Flags s t guards is marks none = flags_lacked s t marks (sym is ∙ none)
none_lacked Valued s t guards is marks none = refl

pub guards_there : (form : Form) (s t : List ℕ) → AtHand form s t → (guards : ℕ) → guards ≡ get_or t guards_slot 0 → (guards ≡ 0 → ⊥) → ListHere (bound_as Goal) s guards
unfolding bound_as guards_at
guards_there Flags s t here guards is some = subst (ListHere all_literals s) (sym is) (here.guards (ne_eqb (get_or t guards_slot 0) 0 (λ e. some (is ∙ e))))
guards_there Valued s t here guards is some = absurd (some (is ∙ here.guards))

pub first_lacked : (form : Form) (s t : List ℕ) → AtHand form s t → (guards : ℕ) → guards ≡ get_or t guards_slot 0 → (guards ≡ 0 → ⊥) → (marks : State) (r : Option ℕ)
    → r ≡ found (first_missed (met_as Goal marks) (placed (guards + 1) (listed s guards))) → r ≡ found (lacks_as form s t marks)
unfolding guards_in guards_at met_as
first_lacked Flags s t here guards is some marks r looked =
    looked ∙ rw is (ap (λ (es : List Entry). found (first_missed (known marks) es)) (sym (pick_false _ _ _ (ne_eqb (get_or t guards_slot 0) 0 (λ e. some (is ∙ e))))))
first_lacked Valued s t here guards is some marks r looked = absurd (some (is ∙ here.guards))

-- A GOAL of either form.
pub flags_missed : (form : Form) (s : List ℕ) (marks : State) (p : ℕ) (r : Option ℕ) → form ≡ Flags → r ≡ found (first_missed (met_as Goal marks) (placed (p + 1) (listed s p)))
    → r ≡ found (first_missed (knows_as form s marks) (placed_as form (p + 1) (listed_as form s p)))
unfolding met_as
flags_missed form s marks p r is e = rw is e

pub values_missed : (form : Form) (s : List ℕ) (marks : State) (p : ℕ) (r : Option ℕ) → form ≡ Valued → r ≡ found (first_missed (Value.known (literals_in s) marks) (placed_twos (p + 1) (listed_as Valued s p)))
    → r ≡ found (first_missed (knows_as form s marks) (placed_as form (p + 1) (listed_as form s p)))
values_missed form s marks p r is e = rw is e

pub flags_goals : (form : Form) (s : List ℕ) (p : ℕ) → form ≡ Flags → LiteralsHere form s p → ListHere (bound_as Goal) s p
unfolding bound_as
flags_goals form s p is here = subst (λ (f : Form). LiteralsHere f s p) is here

-- LITERALS OF VALUES, one behind another: from literal k on, the list at p, which has n of them, misses what the whole does.
pub record ValuesAhead (test : ℕ → Bool) (s : List ℕ) (p n k : ℕ) : Type 0 where
  pub place : TwosLeft s p (p + 1 + 2 * k) (n - k)
  pub is : first_missed test (placed_twos (p + 1) (twos_from s (p + 1) (get_or s p 0))) ≡ first_missed test (placed_twos (p + 1 + 2 * k) (twos_from s (p + 1 + 2 * k) (n - k)))

module _ (test : ℕ → Bool) (s : List ℕ) (p n : ℕ) where
  pub values_start : n ≡ get_or s p 0 → ValuesAhead test s p n 0
  values_start e =
      let first : p + 1 + 2 * 0 ≡ p + 1 = omega arith in
      let all : n - 0 ≡ n = omega arith in
      record { place = rw (first, all) (twos_start s p n e); is = rw (first, all) (ap (λ (ls : List ℕ). first_missed test (placed_twos (p + 1) ls)) (sym (twos_whole s p n e))) }

  module _ (k : ℕ) (so : ValuesAhead test s p n k) where
    pub values_over : n ≤ k → None ≡ found (first_missed test (placed_twos (p + 1) (twos_from s (p + 1) (get_or s p 0))))
    unfolding first_missed placed_twos found
    values_over h = sym (ap found so.is ∙ rw (twos_over s (p + 1 + 2 * k) (n - k) (omega arith)))

    module _ (more : k < n) where
      left : 0 < n - k
      left = omega arith

      module _ (here : ValuesHere s p) where
        pub literal_inside : p + 1 + 2 * k < length s
        literal_inside = literal_there s p here (p + 1 + 2 * k) (n - k) so.place left

        pub second_inside : p + 1 + 2 * k + 1 < length s
        second_inside = second_there s p here (p + 1 + 2 * k) (n - k) so.place left

        module _ (room : Fits w64 (length s)) where
          pub number_fits : Fits w64 (2 * k)
          number_fits = let inside = literal_inside in let most = room.fits in record { fits = omega arith }

          pub literal_fits : Fits w64 (p + 1 + 2 * k)
          literal_fits = let inside = literal_inside in let most = room.fits in record { fits = omega arith }

          pub second_byte_fits : Fits w64 (p + 1 + 2 * k + 1)
          second_byte_fits = let inside = second_inside in let most = room.fits in record { fits = omega arith }

      module _ (l : ℕ) (is : l ≡ get_or s (p + 1 + 2 * k) 0 * 256 + get_or s (p + 1 + 2 * k + 1) 0) where
        pub value_near : ValuesHere s p → l < 32768
        value_near here = literal_near s p here (p + 1 + 2 * k) (n - k) so.place left l is

        pub value_second : ValuesHere s p → l % 256 < 32
        value_second here = literal_second s p here (p + 1 + 2 * k) (n - k) so.place left l is

        module _ (good : Bool) (tested : good ≡ test l) where
          turned : first_missed test (placed_twos (p + 1 + 2 * k) (twos_from s (p + 1 + 2 * k) (n - k)))
              ≡ pick good (λ _. first_missed test (placed_twos (p + 1 + 2 * (k + 1)) (twos_from s (p + 1 + 2 * (k + 1)) (n - (k + 1))))) (λ _. Refusals.at (p + 1 + 2 * k))
          unfolding first_missed placed_twos
          turned =
              let next : p + 1 + 2 * k + 2 ≡ p + 1 + 2 * (k + 1) = omega arith in
              let rest : n - k - 1 ≡ n - (k + 1) = omega arith in
              rw (twos_next s (p + 1 + 2 * k) (n - k) l left is, tested, next, rest)

          pub values_on : good ≡ true → ValuesAhead test s p n (k + 1)
          values_on t =
              let from = so.place.from in
              let to = so.place.to in
              record { place = record { from = omega arith; to = omega arith }; is = so.is ∙ turned ∙ pick_true _ _ _ t }

          pub values_here : good ≡ false → Some (p + 1 + 2 * k) ≡ found (first_missed test (placed_twos (p + 1) (twos_from s (p + 1) (get_or s p 0))))
          unfolding found
          values_here f = sym (ap found (so.is ∙ turned ∙ pick_false _ _ _ f))
