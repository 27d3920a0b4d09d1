-- A derivation that was settled for a request at hand: its lines and what closes it stand where the places say, and what the lines and then the
-- question give is what the whole derivation gives; a fault that settling or a line met is met by the whole. Assumes nothing.
use Prim.Native.Nat.{ℕ, ◌+◌, ◌*◌, ◌≤◌, ◌<◌}
use mathlib.Core.Path.{◌≡◌, refl, sym, ◌∙◌, ap, ap₂, subst}
use mathlib.Core.List.{List}
use lib.ListN.{length, get_or}
use mir.Syntax.{w8}
use mir.Val.{Fits}
use Rattle.meaning.specs.declared.Layout.{Layout}
use Rattle.meaning.specs.Limits.{format}
use Rattle.meaning.specs.Requests.{Request}
use Rattle.meaning.specs.Reading.{Got, next}
use Rattle.meaning.specs.Derivations.{Derivation, check_lines, check_end, check_derivation}
use Rattle.std.specs.Prelude.{Ok, Err}
use Rattle.parsing.specs.declared.faults.Fault.{Fault}
use Rattle.parsing.specs.Read.{Passed, over, stopped, passed}
use Rattle.parsing.proofs.ListLaws.{passed_to, passed_stop}
use Rattle.reading.specs.Noted.{noting, outcome}
use Rattle.reading.proofs.SectionLaws.{noting_fault}
use Rattle.derivation.specs.DerivationRead.{derivation_noted, settled_derivation, places_slots}
use Rattle.derivation.specs.Derived.{LinesHere}
use Rattle.derivation.proofs.DerivedLaws.{check_begins}
use Rattle.steps.specs.Held.{table_in, request_in}
use Rattle.steps.specs.AtHand.{AtHand}
use Rattle.comparing.specs.Stands.{LinesStand, SomeDerived}
use Rattle.checking.specs.Checked.{derivation_of, derivation_in, lines_in, AllStand}
use Rattle.checking.specs.Asked.{DerivationStands, SomeDerivation, EndChecked}
use Rattle.comparing.proofs.LinesStand.{derived_whole, derived_count, derived_stand, count_first, count_second, derived_least}
use Rattle.checking.proofs.QuestionLaws.{fluents_are, actions_are}
use Rattle.meaning.specs.declared.Form.TheVariants.{Flags}

-- In what follows the places were `start` before.
module _ (layout : Layout) (n m : ℕ) (d start places : List ℕ) (r : Passed) (read : outcome r places ≡ noting derivation_noted (settled_derivation layout n m d) start) where
  -- What is left of the definition once the derivation is settled.
  rest : Request → Derivation → Got (Unit {0})
  rest x y = next (check_lines format layout x.table y.lines 0 y.lines) (λ _ _. check_end layout x y)

  begins : (x : Request) → n ≡ x.table.fluents → m ≡ x.table.actions → check_derivation format layout x d ≡ next (settled_derivation layout n m d) (λ y _. rest x y)
  unfolding rest
  begins x fluents actions = check_begins layout x d ∙ ap₂ {C = Got (Unit {0})} (λ (a b : ℕ). next (settled_derivation layout a b d) (λ y _. rest x y)) (sym fluents) (sym actions)

  module _ (room : length start ≡ places_slots) (e : ℕ) (is : r ≡ Ok e) where
    some : SomeDerived layout n m d places e
    some = derived_whole n m d layout start places r read e is room

    pub settled_first : 0 < length d
    settled_first = count_first n m d layout places e some

    pub settled_second : 1 < length d
    settled_second = count_second n m d layout places e some

    derivation_is : derivation_in layout n m d ≡ some.derivation
    unfolding derivation_in derivation_of
    derivation_is = ap derivation_of some.derived.reads

    lines_are : lines_in layout n m d ≡ some.derivation.lines
    unfolding lines_in
    lines_are = ap (λ (x : Derivation). x.lines) derivation_is

    whole_is : (x : Request) → n ≡ x.table.fluents → m ≡ x.table.actions → check_derivation format layout x d ≡ rest x (derivation_in layout n m d)
    unfolding next
    whole_is x fluents actions =
        begins x fluents actions
        ∙ ap (λ (g : Got Derivation). next g (λ y _. rest x y)) some.derived.settles
        ∙ ap (rest x) (sym derivation_is)

    module _ (count : ℕ) (counted : count ≡ get_or d 0 0 * 256 + get_or d 1 0) where
      pub settled_least : 1 ≤ count
      settled_least = derived_least n m d layout places e some count counted

      module _ (bytes : (i : ℕ) → Fits w8 (get_or d i 0)) (few : n ≤ format.fluents) (less : m ≤ format.actions) where
        lines_stand : LinesStand layout d places some.derivation.lines
        lines_stand = derived_stand n m d layout places some.derivation e some.derived count counted bytes few less

        lines_size : length some.derivation.lines ≡ count
        lines_size = derived_count n m d layout places some.derivation e some.derived count counted

        pub settled_stand : AllStand layout n m d places count
        settled_stand =
            record {
              few = few;
              less = less;
              here = subst (LinesHere n m d layout places 0) (sym lines_are) some.derived.here;
              stand = subst (LinesStand layout d places) (sym lines_are) lines_stand;
              size = ap length lines_are ∙ lines_size;
              some = settled_least;
            }

        stands : DerivationStands layout d places count some.derivation
        stands = record { stand = lines_stand; size = lines_size; closes = some.derived.closes; closing = some.derived.closing }

        pub settled_some : SomeDerivation layout d places count
        settled_some = record { derivation = some.derivation; stands = stands }

        end_is : (x : Request) (a : Passed) → EndChecked layout x d places count a → over a ≡ passed (check_end layout x (derivation_in layout n m d))
        end_is x a checked = checked.holds some.derivation stands ∙ ap (λ (y : Derivation). passed (check_end layout x y)) (sym derivation_is)

  -- For a request at hand.
  module _ (s t : List ℕ) (here : AtHand Flags s t) (fluents : n ≡ get_or s 0 0) (actions : m ≡ get_or s 1 0) where
    pub settled_fault : (why : Fault) → r ≡ Err why → over (Err why) ≡ passed (check_derivation format layout (request_in Flags s t) d)
    unfolding passed next request_in
    settled_fault why is =
        let met : settled_derivation layout n m d ≡ stopped why = noting_fault derivation_noted (settled_derivation layout n m d) r start places read why is in
        sym (ap passed (begins (request_in Flags s t) (fluents_are s t here n fluents) (actions_are s t here m actions) ∙ ap (λ (g : Got Derivation). next g (λ y _. rest (request_in Flags s t) y)) met))

    module _ (room : length start ≡ places_slots) (e : ℕ) (is : r ≡ Ok e) (lines : Passed) (in_order : over lines ≡ passed (check_lines format layout (table_in Flags s) (lines_in layout n m d) 0 (lines_in layout n m d))) where
      whole : check_derivation format layout (request_in Flags s t) d
          ≡ next (check_lines format layout (table_in Flags s) (lines_in layout n m d) 0 (lines_in layout n m d)) (λ _ _. check_end layout (request_in Flags s t) (derivation_in layout n m d))
      unfolding rest lines_in request_in
      whole = whole_is room e is (request_in Flags s t) (fluents_are s t here n fluents) (actions_are s t here m actions)

      pub lines_fault : (why : Fault) → lines ≡ Err why → over (Err why) ≡ passed (check_derivation format layout (request_in Flags s t) d)
      unfolding passed next
      lines_fault why stops =
          let met = passed_stop (check_lines format layout (table_in Flags s) (lines_in layout n m d) 0 (lines_in layout n m d)) why (sym in_order ∙ ap over stops) in
          sym (ap passed (whole ∙ ap (λ (g : Got (Unit {0})). next g (λ _ _. check_end layout (request_in Flags s t) (derivation_in layout n m d))) met))

      pub lines_checked : (q : ℕ) → lines ≡ Ok q → (count : ℕ) → count ≡ get_or d 0 0 * 256 + get_or d 1 0 → ((i : ℕ) → Fits w8 (get_or d i 0)) → n ≤ format.fluents → m ≤ format.actions → (a : Passed) → EndChecked layout (request_in Flags s t) d places count a
          → over a ≡ passed (check_derivation format layout (request_in Flags s t) d)
      unfolding next
      lines_checked q through count counted bytes few less a checked =
          let all = passed_to (check_lines format layout (table_in Flags s) (lines_in layout n m d) 0 (lines_in layout n m d)) q (sym in_order ∙ ap over through) in
          end_is room e is count counted bytes few less (request_in Flags s t) a checked ∙ sym (ap passed (whole ∙ rw all.1 refl))
