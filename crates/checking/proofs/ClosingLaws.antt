-- What the end of a derivation is asked: the last line, or the lines that the closing list names. What all entries of that list give is what those
-- from the next number on give, where each before it names a line that is right. Assumes nothing.
use Prim.Native.Nat.{ℕ, zero, suc, ◌+◌, ◌-◌, ◌*◌, ◌≤◌, ◌<◌}
use native.Mathlib.Omega.{arith}
use mathlib.Core.Path.{◌≡◌, refl, sym, ◌∙◌, ap, ap₂, subst}
use mathlib.Core.Bool.{Bool, true, false}
use mathlib.Core.List.{List, [], ◌∷◌, map}
use lib.ListN.{length, length-map, get_or}
use mir.Syntax.{w64}
use mir.Val.{Fits}
use lib.Dec.{ltb}
use borrow.Author.Tests.{eq-eqb, ne_eqb, le-ltb}
use Rattle.meaning.specs.declared.Layout.{Layout}
use Rattle.meaning.specs.declared.Layout.TheVariants.{Plain, Closing}
use Rattle.meaning.specs.Tests.{pick}
use Rattle.meaning.specs.Limits.{format}
use Rattle.meaning.specs.Requests.{Request}
use Rattle.meaning.specs.Reading.{Got, got, fault}
use Rattle.meaning.specs.Derivations.{Conclusion, knows_whether, Line, Derivation, asks_for, goals_of, check_last, all_asked, names, check_entries, check_closing, check_end}
use Rattle.meaning.proofs.TestLaws.{pick_true, pick_false}
use Rattle.std.specs.Prelude.{Option, Some, None, Ok, Err}
use Rattle.parsing.specs.declared.faults.Fault.{Fault}
use Rattle.parsing.specs.declared.faults.Refusal.TheVariants.{NotTheQuestion, ClosingNotRight}
use Rattle.parsing.specs.Read.{Passed, passed}
use Rattle.reading.specs.Listed.{bytes_from, listed, ListHere}
use Rattle.reading.proofs.MarkLaws.{bytes_next, bytes_done}
use Rattle.reading.specs.Noted.{goals_slot}
use Rattle.derivation.specs.DerivationRead.{plan_ends_slot, lines_end}
use Rattle.finding.specs.Branches.{sequence_place}
use Rattle.finding.proofs.PlanHere.{listed_length}
use Rattle.steps.specs.Held.{request_in}
use Rattle.steps.specs.AtHand.{AtHand}
use Rattle.comparing.specs.declared.spots.Spot.{Spot}
use Rattle.comparing.specs.Stands.{NumbersStand, Stands, spot_at, LinesStand, ClosingStands}
use Rattle.comparing.specs.RuleAnswers.{SomeStands, SomeLines, Ruled}
use Rattle.checking.specs.Checked.{no_line}
use Rattle.checking.specs.Asked.{conclusion_asked, Names, EntriesChecked, DerivationStands, SomeDerivation, ClosingChecked, EndChecked}
use Rattle.checking.proofs.EachLineLaws.{numbers_room}
use Rattle.checking.proofs.QuestionLaws.{whether_asked}
use Rattle.meaning.specs.declared.Form.TheVariants.{Flags}

-- A LINE BY ITS NUMBER.
names_there : (r : Request) (Y : Conclusion) (other : Line) (ls : List Line) (k : ℕ) → k < length ls → names r ls k Y ≡ asks_for r Y (get_or ls k other)
unfolding names
names_there r Y other [] k h = absurd (omega (arith, h))
names_there r Y other (l ∷ ls) zero h = refl
names_there r Y other (l ∷ ls) (suc k) h = names_there r Y other ls k (omega (arith, h))

names_past : (r : Request) (Y : Conclusion) (ls : List Line) (k : ℕ) → length ls ≤ k → names r ls k Y ≡ false
unfolding names
names_past r Y [] k h = refl
names_past r Y (l ∷ ls) zero h = absurd (omega (arith, h))
names_past r Y (l ∷ ls) (suc k) h = names_past r Y ls k (omega (arith, h))

module _ (layout : Layout) (d places : List ℕ) (count number : ℕ) (below : number < count) (l : Spot) (is : l ≡ spot_at layout d (get_or places number 0) (get_or places (plan_ends_slot + number) 0)) where
  line_stands : (ls : List Line) → LinesStand layout d places ls → length ls ≡ count → Stands d l (get_or ls number no_line)
  line_stands ls stand size = subst (λ (w : Spot). Stands d w (get_or ls number no_line)) (sym is) (stand.each number (omega (arith, below, size)) no_line)

  pub line_some : SomeLines layout d places count → SomeStands d l
  line_some some = record { line = get_or some.lines number no_line; stands = line_stands some.lines some.stand some.size }

module _ (r : Request) (d places : List ℕ) (count at : ℕ) (asked : Option ℕ) (number : ℕ) (read : number ≡ get_or d at 0 * 256 + get_or d (at + 1) 0) where
  pub named : number < count → (l : Spot) → l ≡ spot_at Closing d (get_or places number 0) (get_or places (plan_ends_slot + number) 0) → (answer : Bool) → Ruled d l (asks_for r (conclusion_asked r asked)) answer
      → Names r d places count at asked answer
  named below l is answer ruled =
      record {
        holds = λ ls stand size.
            ruled.holds (get_or ls number no_line) (line_stands Closing d places count number below l is ls stand size)
            ∙ sym (names_there r (conclusion_asked r asked) no_line ls number (omega (arith, below, size)))
            ∙ ap (λ (k : ℕ). names r ls k (conclusion_asked r asked)) read;
      }

  pub not_named : count ≤ number → Names r d places count at asked (ltb number count)
  not_named past =
      record {
        holds = λ ls stand size.
            le-ltb number count past
            ∙ sym (names_past r (conclusion_asked r asked) ls number (omega (arith, past, size)))
            ∙ ap (λ (k : ℕ). names r ls k (conclusion_asked r asked)) read;
      }

-- ONE ENTRY.
module _ (r : Request) (ls : List Line) (p : ℕ) (Y : Conclusion) (Ys : List Conclusion) (k : ℕ) (ks : List ℕ) where
  entry_right : true ≡ names r ls k Y → check_entries r ls p (Y ∷ Ys) (k ∷ ks) ≡ check_entries r ls (p + 2) Ys ks
  unfolding check_entries
  entry_right e = pick_true _ _ _ (sym e)

  entry_wrong : false ≡ names r ls k Y → check_entries r ls p (Y ∷ Ys) (k ∷ ks) ≡ fault 36 p
  unfolding check_entries
  entry_wrong e = pick_false _ _ _ (sym e)

-- THE ENTRIES that are left: the fluents after i, and the numbers from `at` on.
pub record Left (s t d : List ℕ) (ls : List Line) (end i at : ℕ) (whole : Got (Unit {0})) : Type 0 where
  pub numbers : List ℕ
  pub stand : NumbersStand d at numbers
  pub size : length numbers ≡ end - i
  pub same : whole ≡ passed (check_entries (request_in Flags s t) ls at (map knows_whether (bytes_from s (i + 1) (end - i))) numbers)

pub record SoFar (s t d places : List ℕ) (count whether first end i at : ℕ) : Type 0 where
  pub ends : end ≡ whether + get_or s whether 0
  pub room : at + 2 * (end - i) ≤ length d
  pub holds : (ls : List Line) (ks : List ℕ) → LinesStand Closing d places ls → length ls ≡ count → NumbersStand d first ks → length ks ≡ length (listed s whether)
      → Left s t d ls end i at (passed (check_entries (request_in Flags s t) ls first (map knows_whether (listed s whether)) ks))

module _ (s : List ℕ) (whether : ℕ) (here : ListHere format.fluents s whether) where
  pub list_there : whether < length s
  list_there = let ends = here.ends in omega (arith, ends)

  pub list_fits : Fits w64 (length s) → (x : ℕ) → x ≡ get_or s whether 0 → Fits w64 (whether + x)
  list_fits long x byte = let ends = here.ends in let most = long.fits in record { fits = omega (arith, ends, most, byte) }

module _ (s t d places : List ℕ) (count whether first : ℕ) where
  pub entries_start : (x end : ℕ) → x ≡ get_or s whether 0 → end ≡ whether + x → first + 2 * get_or s whether 0 ≤ length d → SoFar s t d places count whether first end whether first
  unfolding listed
  entries_start x end byte is room =
      let all : end - whether ≡ get_or s whether 0 = omega (arith, is, byte) in
      record {
        ends = omega (arith, is, byte);
        room = omega (arith, room, all);
        holds = λ ls ks stand size numbers long.
            record {
              numbers = ks;
              stand = numbers;
              size = long ∙ listed_length s whether ∙ sym all;
              same = ap (λ (k : ℕ). passed (check_entries (request_in Flags s t) ls first (map knows_whether (bytes_from s (whether + 1) k)) ks)) (sym all);
            };
      }

  module _ (end i at : ℕ) (so_far : SoFar s t d places count whether first end i at) where
    pub entries_done : end ≤ i → EntriesChecked s t d places count whether first (Ok 0)
    unfolding check_entries passed
    entries_done over =
        record {
          holds = λ ls ks stand size numbers long.
              let left = so_far.holds ls ks stand size numbers long in
              sym (left.same ∙ ap (λ (xs : List ℕ). passed (check_entries (request_in Flags s t) ls at (map knows_whether xs) left.numbers)) (bytes_done s end i over));
        }

    module _ (more : i < end) where
      pub entry_there : ListHere format.fluents s whether → i + 1 < length s
      entry_there here = let inside = here.ends in let ends = so_far.ends in omega (arith, inside, ends, more)

      pub entry_fits : ListHere format.fluents s whether → Fits w64 (length s) → Fits w64 (i + 1)
      entry_fits here long = let there = entry_there here in let most = long.fits in record { fits = omega (arith, there, most) }

      pub number_there : at + 1 < length d
      number_there = let room = so_far.room in omega (arith, room, more)

      pub number_fits : Fits w64 (length d) → Fits w64 (at + 2)
      number_fits long = let room = so_far.room in let most = long.fits in record { fits = omega (arith, room, more, most) }

      -- The next fluent, and the next number.
      record Next (ls : List Line) (whole : Got (Unit {0})) : Type 0 where
        number : ℕ
        numbers : List ℕ
        read : get_or d at 0 * 256 + get_or d (at + 1) 0 ≡ number
        stand : NumbersStand d (at + 2) numbers
        size : length numbers ≡ end - (i + 1)
        same : whole ≡ passed (check_entries (request_in Flags s t) ls at (knows_whether (get_or s (i + 1) 0) ∷ map knows_whether (bytes_from s (i + 1 + 1) (end - (i + 1)))) (number ∷ numbers))

      entry_next : (ls : List Line) (whole : Got (Unit {0})) → Left s t d ls end i at whole → Next ls whole
      unfolding NumbersStand
      entry_next ls whole left = split left.numbers left.stand left.size (left.same ∙ ap (λ (xs : List ℕ). passed (check_entries (request_in Flags s t) ls at (map knows_whether xs) left.numbers)) (bytes_next s end i more))
        where
          split : (ks : List ℕ) → NumbersStand d at ks → length ks ≡ end - i
              → whole ≡ passed (check_entries (request_in Flags s t) ls at (map knows_whether (get_or s (i + 1) 0 ∷ bytes_from s (i + 1 + 1) (end - (i + 1)))) ks) → Next ls whole
          split [] stand size same = absurd (omega (arith, size, more))
          split (k ∷ ks) stand size same = record { number = k; numbers = ks; read = stand.1; stand = stand.2; size = omega (arith, size, more); same = same }

      module _ (good : Bool) (asked : Names (request_in Flags s t) d places count at (Some (get_or s (i + 1) 0)) good) where
        good_is : (ls : List Line) (whole : Got (Unit {0})) (now : Next ls whole) → LinesStand Closing d places ls → length ls ≡ count → good ≡ names (request_in Flags s t) ls now.number (knows_whether (get_or s (i + 1) 0))
        unfolding conclusion_asked
        good_is ls whole now stand size = asked.holds ls stand size ∙ ap (λ (k : ℕ). names (request_in Flags s t) ls k (knows_whether (get_or s (i + 1) 0))) now.read

        pub entries_next : good ≡ true → SoFar s t d places count whether first end (i + 1) (at + 2)
        entries_next e =
            let room = so_far.room in
            record {
              ends = so_far.ends;
              room = omega (arith, room, more);
              holds = λ ls ks stand size numbers long.
                  let now = entry_next ls _ (so_far.holds ls ks stand size numbers long) in
                  record {
                    numbers = now.numbers;
                    stand = now.stand;
                    size = now.size;
                    same = now.same ∙ ap passed (entry_right (request_in Flags s t) ls at _ _ now.number now.numbers (sym e ∙ good_is ls _ now stand size));
                  };
            }

        pub entries_stop : good ≡ false → (why : Fault) → why ≡ record { refusal = ClosingNotRight; place = at } → EntriesChecked s t d places count whether first (Err why)
        unfolding passed
        entries_stop e why is-why =
            rw is-why (
            record {
              holds = λ ls ks stand size numbers long.
                  let now = entry_next ls _ (so_far.holds ls ks stand size numbers long) in
                  sym (now.same ∙ ap passed (entry_wrong (request_in Flags s t) ls at _ _ now.number now.numbers (sym e ∙ good_is ls _ now stand size)));
            }
            )

-- THE LAST LINE.
last_line : (r : Request) (other : Line) (ls : List Line) (j : ℕ) → j + 1 ≡ length ls
    → check_last r ls ≡ pick (asks_for r (goals_of r) (get_or ls j other)) (λ _. got tt 0) (λ _. fault 35 (get_or ls j other).place)
unfolding check_last
last_line r other [] j e = absurd (omega (arith, e))
last_line r other (l ∷ []) zero e = refl
last_line r other (l ∷ []) (suc j) e = absurd (omega (arith, e))
last_line r other (l ∷ (k ∷ ls)) zero e = absurd (omega (arith, e))
last_line r other (l ∷ (k ∷ ls)) (suc j) e = last_line r other (k ∷ ls) j (omega (arith, e))

pub last_below : (count : ℕ) → 1 ≤ count → count - 1 < count
last_below count least = omega (arith, least)

-- THE END, by the layout: the last line, or the closing list.
module _ (layout : Layout) (d places : List ℕ) (count : ℕ) where
  module _ (plain : layout ≡ Plain) where
    pub plain_lines : SomeDerivation layout d places count → SomeLines Plain d places count
    plain_lines given = subst (λ (y : Layout). SomeLines y d places count) plain (record { lines = given.derivation.lines; stand = given.stands.stand; size = given.stands.size })

    module _ (least : 1 ≤ count) (l : Spot) (is : l ≡ spot_at Plain d (get_or places (count - 1) 0) (get_or places (plan_ends_slot + (count - 1)) 0)) where
      pub last_some : SomeDerivation layout d places count → SomeStands d l
      last_some given = line_some Plain d places count (count - 1) (omega (arith, least)) l is (plain_lines given)

      module _ (r : Request) (asked : Bool) (tested : Ruled d l (asks_for r (conclusion_asked r None)) asked) where
        last_is : (x : Derivation) → DerivationStands layout d places count x → check_end layout r x ≡ pick asked (λ _. got tt 0) (λ _. fault 35 l.line)
        unfolding check_end conclusion_asked
        last_is x stands =
            let size = stands.size in
            let stand : LinesStand Plain d places x.lines = subst (λ (y : Layout). LinesStand y d places x.lines) plain stands.stand in
            let there = line_stands Plain d places count (count - 1) (omega (arith, least)) l is x.lines stand size in
            let own : asked ≡ asks_for r (goals_of r) (get_or x.lines (count - 1) no_line) = tested.holds (get_or x.lines (count - 1) no_line) there in
            rw plain (last_line r no_line x.lines (count - 1) (omega (arith, least, size)) ∙ rw (sym own, there.place) refl)

        pub last_asks : asked ≡ true → EndChecked layout r d places count (Ok 0)
        unfolding passed
        last_asks e = record { holds = λ x stands. sym (ap passed (last_is x stands ∙ pick_true _ _ _ e)) }

        pub last_other : asked ≡ false → (why : Fault) → why ≡ record { refusal = NotTheQuestion; place = l.line } → EndChecked layout r d places count (Err why)
        unfolding passed
        last_other e why is-why = rw is-why (record { holds = λ x stands. sym (ap passed (last_is x stands ∙ pick_false _ _ _ e)) })

  module _ (closing : layout ≡ Closing) where
    pub closing_stands : SomeDerivation layout d places count → SomeDerivation Closing d places count
    closing_stands = subst (λ (y : Layout). SomeDerivation y d places count) closing

    pub end_closes : (r : Request) (answer : Passed) → ClosingChecked r d places count answer → EndChecked layout r d places count answer
    unfolding check_end
    end_closes r answer checked =
        record {
          holds = λ x stands.
              checked.holds x (subst (λ (y : Layout). DerivationStands y d places count x) closing stands)
              ∙ ap (λ (y : Layout). passed (check_end y r x)) (sym closing);
        }

pub sum_fits : (s t : List ℕ) → AtHand Flags s t → (p x : ℕ) → x ≡ get_or s p 0 → (more : ℕ) → more < 256 → Fits w64 (more + x)
sum_fits s t here p x byte more few = let below = here.bytes p in record { fits = omega (arith, below, byte, few) }

pub closing_lines : (d places : List ℕ) (count : ℕ) → SomeDerivation Closing d places count → SomeLines Closing d places count
closing_lines d places count given = record { lines = given.derivation.lines; stand = given.stands.stand; size = given.stands.size }

-- THE CLOSING LIST, whose count stands at `closing`.
module _ (d places : List ℕ) (count closing : ℕ) (at-closing : closing ≡ get_or places lines_end 0) where
  closes : (x : Derivation) → DerivationStands Closing d places count x → (closing < length d) × (get_or d closing 0 ≡ length x.closing) × NumbersStand d (closing + 1) x.closing
  unfolding ClosingStands
  closes x stands =
      subst (λ (p : ℕ). (p < length d) × (get_or d p 0 ≡ length x.closing) × NumbersStand d (p + 1) x.closing) (sym (at-closing ∙ stands.closes)) stands.closing

  module _ (given : SomeDerivation Closing d places count) where
    pub closing_there : closing < length d
    closing_there = (closes given.derivation given.stands).0

    pub closing_fits : Fits w64 (length d) → Fits w64 (closing + 1)
    closing_fits long = let there = closing_there in let most = long.fits in record { fits = omega (arith, there, most) }

    module _ (size : ℕ) (read : size ≡ get_or d closing 0) where
      numbers_inside : closing + 1 + 2 * size ≤ length d
      numbers_inside =
          let all = closes given.derivation given.stands in
          let long : size ≡ length given.derivation.closing = read ∙ all.1 in
          let there = all.0 in
          let inside = numbers_room d (closing + 1) given.derivation.closing (omega (arith, there)) all.2 in
          omega (arith, inside, long)

      module _ (number : ℕ) (due : size ≡ 1 + number) where
        pub goals_number : closing + 1 + 1 < length d
        goals_number = let inside = numbers_inside in omega (arith, inside, due)

        pub fluents_fit : Fits w64 (length d) → Fits w64 (closing + 3)
        fluents_fit long = let inside = numbers_inside in let most = long.fits in record { fits = omega (arith, inside, due, most) }

        pub fluents_numbers : (x : ℕ) → number ≡ x → closing + 3 + 2 * x ≤ length d
        fluents_numbers x byte = let inside = numbers_inside in omega (arith, inside, due, byte)

  -- What is asked of it by a request at hand.
  module _ (s t : List ℕ) (here : AtHand Flags s t) (goals : ℕ) (at-goals : goals ≡ get_or t goals_slot 0) (whether : ℕ) (after : whether ≡ sequence_place Flags s goals) (number : ℕ) (byte : number ≡ get_or s whether 0) where
    asked_are : all_asked (request_in Flags s t) ≡ goals_of (request_in Flags s t) ∷ map knows_whether (listed s whether)
    unfolding all_asked
    asked_are = ap (λ (Ys : List Conclusion). goals_of (request_in Flags s t) ∷ Ys) (whether_asked s t here goals at-goals whether after)

    asked_long : length (all_asked (request_in Flags s t)) ≡ 1 + number
    asked_long =
        let fluents : length (map knows_whether (listed s whether)) ≡ number = length-map (listed s whether) knows_whether ∙ listed_length s whether ∙ sym byte in
        ap length asked_are ∙ omega (arith, fluents)

    module _ (size : ℕ) (read : size ≡ get_or d closing 0) where
      pub closing_not_due : (size ≡ 1 + number → ⊥) → (why : Fault) → why ≡ record { refusal = ClosingNotRight; place = closing } → ClosingChecked (request_in Flags s t) d places count (Err why)
      unfolding check_closing passed
      closing_not_due other why is-why =
          rw is-why (
          record {
            holds = λ x stands.
                let long = asked_long in
                let counted : size ≡ length x.closing = read ∙ (closes x stands).1 in
                let place : closing ≡ x.closing_place = at-closing ∙ stands.closes in
                sym (ap passed (pick_false _ _ _ (ne_eqb (length x.closing) (length (all_asked (request_in Flags s t))) (λ e. other (omega (arith, e, long, counted)))) ∙ ap (fault 36) (sym place)));
          }
          )

      module _ (due : size ≡ 1 + number) where
        -- The number for the goals, and those for the fluents.
        record Closed (x : Derivation) : Type 0 where
          first : ℕ
          numbers : List ℕ
          told : get_or d (closing + 1) 0 * 256 + get_or d (closing + 1 + 1) 0 ≡ first
          stand : NumbersStand d (closing + 3) numbers
          long : length numbers ≡ length (listed s whether)
          same : check_closing (request_in Flags s t) x ≡ check_entries (request_in Flags s t) x.lines (closing + 1) (goals_of (request_in Flags s t) ∷ map knows_whether (listed s whether)) (first ∷ numbers)

        closed : (x : Derivation) → DerivationStands Closing d places count x → Closed x
        unfolding check_closing NumbersStand
        closed x stands = split x.closing refl
          where
            all : (closing < length d) × (get_or d closing 0 ≡ length x.closing) × NumbersStand d (closing + 1) x.closing
            all = closes x stands

            counted : length x.closing ≡ 1 + number
            counted = sym all.1 ∙ sym read ∙ due

            whole : check_closing (request_in Flags s t) x ≡ check_entries (request_in Flags s t) x.lines (closing + 1) (goals_of (request_in Flags s t) ∷ map knows_whether (listed s whether)) x.closing
            whole =
                let place : x.closing_place ≡ closing = sym (at-closing ∙ stands.closes) in
                pick_true _ _ _ (eq-eqb (length x.closing) (length (all_asked (request_in Flags s t))) (counted ∙ sym asked_long))
                ∙ ap₂ {C = Got (Unit {0})} (λ (p : ℕ) (Ys : List Conclusion). check_entries (request_in Flags s t) x.lines (p + 1) Ys x.closing) place asked_are

            split : (ks : List ℕ) → x.closing ≡ ks → Closed x
            split [] e = let none : length x.closing ≡ 0 = ap length e in let some = counted in absurd (omega (arith, none, some))
            split (k ∷ ks) e =
                let stand : NumbersStand d (closing + 1) (k ∷ ks) = subst (NumbersStand d (closing + 1)) e all.2 in
                let size : length (k ∷ ks) ≡ 1 + number = ap length (sym e) ∙ counted in
                let fluents = listed_length s whether in
                let three : closing + 1 + 2 ≡ closing + 3 = omega arith in
                record {
                  first = k;
                  numbers = ks;
                  told = stand.1;
                  stand = subst (λ (p : ℕ). NumbersStand d p ks) three stand.2;
                  long = omega (arith, size, fluents, byte);
                  same = whole ∙ ap (check_entries (request_in Flags s t) x.lines (closing + 1) (goals_of (request_in Flags s t) ∷ map knows_whether (listed s whether))) e;
                }

        module _ (good : Bool) (asked : Names (request_in Flags s t) d places count (closing + 1) None good) where
          good_names : (x : Derivation) → DerivationStands Closing d places count x → (c : Closed x) → good ≡ names (request_in Flags s t) x.lines c.first (goals_of (request_in Flags s t))
          unfolding conclusion_asked
          good_names x stands c = asked.holds x.lines stands.stand stands.size ∙ ap (λ (k : ℕ). names (request_in Flags s t) x.lines k (goals_of (request_in Flags s t))) c.told

          pub goals_wrong : good ≡ false → (why : Fault) → why ≡ record { refusal = ClosingNotRight; place = closing + 1 } → ClosingChecked (request_in Flags s t) d places count (Err why)
          unfolding passed
          goals_wrong e why is-why =
              rw is-why (
              record {
                holds = λ x stands.
                    let c = closed x stands in
                    sym (ap passed (c.same ∙ entry_wrong (request_in Flags s t) x.lines (closing + 1) _ _ c.first c.numbers (sym e ∙ good_names x stands c)));
              }
              )

          pub goals_right : good ≡ true → (answer : Passed) → EntriesChecked s t d places count whether (closing + 3) answer → ClosingChecked (request_in Flags s t) d places count answer
          goals_right e answer rest =
              record {
                holds = λ x stands.
                    let c = closed x stands in
                    let three : closing + 1 + 2 ≡ closing + 3 = omega arith in
                    rest.holds x.lines c.numbers stands.stand stands.size c.stand c.long
                    ∙ sym (ap passed (c.same
                    ∙ entry_right (request_in Flags s t) x.lines (closing + 1) _ _ c.first c.numbers (sym e ∙ good_names x stands c)
                    ∙ ap (λ (p : ℕ). check_entries (request_in Flags s t) x.lines p (map knows_whether (listed s whether)) c.numbers) three));
              }
