-- Derivations: a law for each way that a reader returns, and how the loops over citations and lines go on. Assumes nothing.
use Prim.Native.Nat.{ℕ, zero, suc, ◌+◌, ◌-◌, ◌≤◌, ◌<◌}
use native.Mathlib.Omega.{arith}
use native.Mathlib.Numerals.{sub-one}
use mathlib.Core.Path.{◌≡◌, refl, sym, ◌∙◌, ap, subst}
use mathlib.Core.Bool.{Bool, true, false}
use mathlib.Core.List.{List, ◌∷◌}
use lib.ListN.{length, set}
use lib.Dec.{ltb, eqb}
use borrow.Author.Tests.{lt-ltb, le-ltb, ne_eqb}
use Rattle.std.specs.Prelude.{Ok, Err, Option, Some, None}
use Rattle.parsing.specs.declared.faults.Fault.{Fault}
use Rattle.meaning.specs.declared.Layout.{Layout}
use Rattle.meaning.specs.declared.Layout.TheVariants.{Plain, Closing}
use Rattle.meaning.specs.Tests.{either, pick, some_of}
use Rattle.meaning.specs.Limits.{format}
use Rattle.meaning.specs.Literals.{among}
use Rattle.meaning.specs.Requests.{Sequence}
use Rattle.meaning.specs.declared.Form.TheVariants.{Flags}
use Rattle.meaning.specs.Reading.{Got, got, fault, next, Met, literals, byte_at, two_bytes_at, count_at, below_at, list_at, repeated, section_at, plan_at}
use Rattle.meaning.specs.Derivations.{Conclusion, knows, Line, Derivation, concludes_fluent, list_concluded, fluent_concluded, conclusion_at, concluded_at, closing_at, line_at, read_derivation}
use Rattle.meaning.proofs.TestLaws.{pick_true, pick_false, either_left, either_right}
use Rattle.meaning.proofs.SettledLaws.{got_same, next_got}
use Rattle.meaning.proofs.RangeLaws.{after_got}
use Rattle.parsing.specs.declared.lists.Kind.TheVariants.{Literals}
use Rattle.parsing.specs.declared.faults.Refusal.TheVariants.{TooLong, CountOutside, BytesAfter}
use Rattle.parsing.specs.Read.{Numbered, Passed, numbered, over, stopped, passed, kind_of}
use Rattle.reading.specs.Noted.{noting, outcome}
use Rattle.reading.specs.Planned.{bytes_of, plan_noted, noting_met, outcome_met}
use Rattle.derivation.specs.DerivationRead.{plan_end, places_noted, derivation_noted, citing, ending, ended_at, planned, lined, plan_ends_slot, lines_end}
use Rattle.parsing.specs.declared.rule_kinds.Rule.{Rule}
use Rattle.parsing.specs.declared.rule_kinds.Rule.TheVariants.{Look, Literal, SensingWhether, CompositionWhether, BranchingWhether}
use Rattle.parsing.specs.RuleKinds.{rule_number, rule_of, number_or_none}
use Rattle.parsing.proofs.RuleNumbers.{rule_has, none_has}
use Rattle.parsing.proofs.ByteLaws.{was_read, was_stopped}
use Rattle.parsing.proofs.ByteLaws.{read_value}
use Rattle.parsing.proofs.ListLaws.{passed_same, passed_to, passed_stop, whole_stops}
use Rattle.reading.proofs.PlanSizes.{two_bytes_through, count_through, list_through, sequence_read}
use Rattle.reading.proofs.NotingLaws.{met_value, met_fault, fault_met}
use Rattle.reading.proofs.SectionLaws.{got_place, fault_first, noting_got, noting_fault}

-- CITATIONS: what the whole gives is what is left of it.
module _ (s : List ℕ) (p : ℕ) (whole : Got (Unit {0})) where
  pub citations_done : (left : ℕ) → whole ≡ passed (repeated (two_bytes_at s) left p) → left ≡ 0 → got tt p ≡ whole
  unfolding repeated passed
  citations_done zero w h = sym w
  citations_done (suc left) w h = absurd (omega arith)

  pub citations_fault : (count i : ℕ) {j e : ℕ} → whole ≡ passed (repeated (two_bytes_at s) (count - i) p) → i < count → fault j e ≡ two_bytes_at s p → fault j e ≡ whole
  unfolding repeated
  citations_fault count i w h e = at_left (count - i) (omega arith) w e
    where
      at_left : (left : ℕ) → 0 < left → whole ≡ passed (repeated (two_bytes_at s) left p) → {j e : ℕ} → fault j e ≡ two_bytes_at s p → fault j e ≡ whole
      at_left zero h w e = absurd (omega arith)
      at_left (suc left) h w e = whole_stops (two_bytes_at s p) _ e ∙ sym w

  pub citations_next : (count i x q : ℕ) → whole ≡ passed (repeated (two_bytes_at s) (count - i) p) → i < count → got x q ≡ two_bytes_at s p
      → whole ≡ passed (repeated (two_bytes_at s) (count - (i + 1)) q)
  unfolding repeated next
  citations_next count i x q w h read = at_left (count - i) (omega arith) w ∙ ap (λ (left : ℕ). passed (repeated (two_bytes_at s) left q)) (omega arith)
    where
      at_left : (left : ℕ) → 0 < left → whole ≡ passed (repeated (two_bytes_at s) left p) → whole ≡ passed (repeated (two_bytes_at s) (left - 1) q)
      at_left zero h w = absurd (omega arith)
      at_left (suc left) h w = w ∙ rw (read_value (two_bytes_at s p) read, sub-one) (passed_same (repeated (two_bytes_at s) left q) (λ xs. x ∷ xs))

module _ (s : List ℕ) (p : ℕ) (count : Numbered) (read : numbered count ≡ (count_at 0 format.citations s p)) where
  pub cites_fault : (why : Fault) → count ≡ Err why → over (Err why) ≡ passed (citing s p)
  unfolding citing next passed
  cites_fault why is = rw (was_stopped (count_at 0 format.citations s p) count why read is)

  pub cites_whole : (c r : ℕ) (end : Passed) → count ≡ Ok (c, r) → over end ≡ passed (repeated (two_bytes_at s) c r) → over end ≡ passed (citing s p)
  unfolding citing next
  cites_whole c r end is e = rw (was_read (count_at 0 format.citations s p) count c r read is) e

-- THE CONCLUSION. A byte concludes a fluent where the rule that it says does, and none where it says no rule.
pub concludes_as : (rule : ℕ) (said : Option Rule) → said ≡ rule_of rule → concludes_fluent (number_or_none said) ≡ concludes_fluent rule
unfolding concludes_fluent among some_of either
concludes_as rule (Some r) is = ap concludes_fluent (rule_has rule r (sym is))
concludes_as rule None is = sym (rw (other Look, other Literal, other SensingWhether, other CompositionWhether, other BranchingWhether) refl)
  where
    other : (r : Rule) → eqb rule (rule_number r) ≡ false
    other r = ne_eqb rule (rule_number r) (none_has rule (sym is) r)

pub fluent_as : (rule : ℕ) (said : Option Rule) → said ≡ rule_of rule → (fluent : Bool) → fluent ≡ concludes_fluent (number_or_none said) → fluent ≡ concludes_fluent rule
fluent_as rule said is fluent told = told ∙ concludes_as rule said is

module _ (n : ℕ) (s : List ℕ) (rule p : ℕ) (fluent : Bool) (which : fluent ≡ concludes_fluent rule) where
  module _ (number : Numbered) (is : fluent ≡ true) (read : numbered number ≡ (below_at n s p)) where
    by_fluent : conclusion_at format n s rule p ≡ fluent_concluded format n s p
    unfolding conclusion_at
    by_fluent = pick_true _ _ _ (sym which ∙ is)

    pub fluent_whole : (x q : ℕ) → number ≡ Ok (x, q) → over (Ok q) ≡ passed (conclusion_at format n s rule p)
    unfolding fluent_concluded next passed
    fluent_whole x q v = rw (by_fluent, was_read (below_at n s p) number x q read v)

    pub fluent_fault : (why : Fault) → number ≡ Err why → over (Err why) ≡ passed (conclusion_at format n s rule p)
    unfolding fluent_concluded next passed
    fluent_fault why v = rw (by_fluent, was_stopped (below_at n s p) number why read v)

  pub list_whole : (r : Passed) → fluent ≡ false → over r ≡ passed (list_at (kind_of Literals) n format.listed s p) → over r ≡ passed (conclusion_at format n s rule p)
  unfolding conclusion_at list_concluded kind_of
  list_whole r is read = read ∙ sym (ap passed (pick_false _ _ _ (sym which ∙ is)) ∙ passed_same (list_at literals n format.listed s p) knows)

-- With the rule byte, in the layout's order.
module _ (layout : Layout) (n : ℕ) (s : List ℕ) (p : ℕ) where
  module _ (list : Passed) (plain : layout ≡ Plain) (read : over list ≡ passed (list_at (kind_of Literals) n format.listed s p)) where
    pub listed_fault : (why : Fault) → list ≡ Err why → over (Err why) ≡ passed (concluded_at format n s layout p)
    unfolding concluded_at list_concluded next passed kind_of
    listed_fault why is = rw (plain, passed_stop (list_at literals n format.listed s p) why (sym read ∙ ap over is))

    module _ (q : ℕ) (is : list ≡ Ok q) (rule : Numbered) (read-too : numbered rule ≡ (byte_at s q)) where
      pub ruled_fault : (why : Fault) → rule ≡ Err why → over (Err why) ≡ passed (concluded_at format n s layout p)
      unfolding concluded_at list_concluded next passed kind_of
      ruled_fault why f = rw (plain, (passed_to (list_at literals n format.listed s p) q (sym read ∙ ap over is)).1, was_stopped (byte_at s q) rule why read-too f)

      pub ruled_whole : (x e : ℕ) → rule ≡ Ok (x, e) → over (Ok e) ≡ passed (concluded_at format n s layout p)
      unfolding concluded_at list_concluded next passed kind_of
      ruled_whole x e v = rw (plain, (passed_to (list_at literals n format.listed s p) q (sym read ∙ ap over is)).1, was_read (byte_at s q) rule x e read-too v)

  module _ (rule : Numbered) (closing : layout ≡ Closing) (read : numbered rule ≡ (byte_at s p)) where
    pub rule_fault : (why : Fault) → rule ≡ Err why → over (Err why) ≡ passed (concluded_at format n s layout p)
    unfolding concluded_at next passed
    rule_fault why is = rw (closing, was_stopped (byte_at s p) rule why read is)

    pub rule_whole : (x q : ℕ) (r : Passed) → rule ≡ Ok (x, q) → over r ≡ passed (conclusion_at format n s x q) → over r ≡ passed (concluded_at format n s layout p)
    unfolding concluded_at next
    rule_whole x q r is e = e ∙ sym (rw (closing, was_read (byte_at s p) rule x q read is) (passed_same (conclusion_at format n s x q) (λ (Y : Conclusion). record { rule = x; Y = Y })))

-- PARTS OF A LINE.
module _ (layout : Layout) (n : ℕ) (s : List ℕ) (p : ℕ) (concluded : Passed) (read : over concluded ≡ passed (concluded_at format n s layout p)) where
  pub end_fault : (why : Fault) → concluded ≡ Err why → over (Err why) ≡ passed (ending layout n s p)
  unfolding ending next passed
  end_fault why is = rw (passed_stop (concluded_at format n s layout p) why (sym read ∙ ap over is))

  pub end_whole : (q : ℕ) (r : Passed) → concluded ≡ Ok q → over r ≡ passed (citing s q) → over r ≡ passed (ending layout n s p)
  unfolding ending next
  end_whole q r is e = rw (passed_to (concluded_at format n s layout p) q (sym read ∙ ap over is)).1 e

module _ (layout : Layout) (n m : ℕ) (s : List ℕ) (p : ℕ) (t u : List ℕ) (plan : Numbered) (read : outcome_met plan u ≡ noting_met (plan_noted Flags p t) (plan_at format Flags n m s p)) where
  pub plan_fault : (why : Fault) → plan ≡ Err why → stopped why ≡ planned layout n m s p
  unfolding planned next
  plan_fault why is =
      rw (fault_met (plan_noted Flags p t) (plan_at format Flags n m s p) why (met_fault (plan_noted Flags p t) (plan_at format Flags n m s p) plan u why read is))

  module _ (items q : ℕ) (end : Passed) (is : plan ≡ Ok (items, q)) (read-too : over end ≡ passed (ending layout n s q)) where
    pub plan_then_fault : (why : Fault) → end ≡ Err why → stopped why ≡ planned layout n m s p
    unfolding planned ended_at next
    plan_then_fault why f =
        rw ((met_value (plan_noted Flags p t) (plan_at format Flags n m s p) plan u items q read is).1, passed_stop (ending layout n s q) why (sym read-too ∙ ap over f))

    pub plan_whole : (e : ℕ) → end ≡ Ok e → got q e ≡ planned layout n m s p
    unfolding planned ended_at next
    plan_whole e v =
        rw ((met_value (plan_noted Flags p t) (plan_at format Flags n m s p) plan u items q read is).1, (passed_to (ending layout n s q) e (sym read-too ∙ ap over v)).1)

-- A plan ends as far on as it has bytes, within the input.
pub plan_ends : (n m : ℕ) (s : List ℕ) (q : ℕ) (x : Met (Sequence ℕ)) (e : ℕ) → plan_at format Flags n m s q ≡ got x e → (e ≡ q + (2 + bytes_of Flags x.value)) × (e ≤ length s)
unfolding plan_at
plan_ends n m s q x e reads = let w = ((sequence_read Flags n m s 8 q 0 (omega arith)).holds x e reads).through in (w.after, w.inside)

-- What follows the plan is not looked at.
module _ {A : Type 0} (q : ℕ) where
  lined_next : (g : Got A) (k : A → ℕ → Got Line) (h : A → ℕ → Got (List ℕ)) → ((x : A) (p : ℕ) → lined (k x p) ≡ ended_at q (h x p)) → lined (next g k) ≡ ended_at q (next g h)
  unfolding lined ended_at next
  lined_next (got x p) k h e = e x p
  lined_next (fault n p) k h e = refl

lined_last : (q : ℕ) (g : Got (List ℕ)) (f : List ℕ → Line) → ((cites : List ℕ) → plan_end (f cites) ≡ q) → lined (next g (λ cites e. got (f cites) e)) ≡ ended_at q g
unfolding lined ended_at next
lined_last q (got x p) f e = ap (λ (i : ℕ). got i p) (e x)
lined_last q (fault n p) f e = refl

by-got {ℓ} : {A : Type 0} {C : Type ℓ} (g : Got A) → ((x : A) (p : ℕ) → g ≡ got x p → C) → ((k p : ℕ) → g ≡ fault k p → C) → C
by-got (got x p) f h = f x p refl
by-got (fault k p) f h = h k p refl

module _ (layout : Layout) (n m : ℕ) (s : List ℕ) (p : ℕ) where
  line_parts : (X : List ℕ) (q : ℕ) → list_at literals n format.listed s p ≡ got X q → lined (line_at format n m s layout p) ≡ planned layout n m s q
  unfolding line_at lined planned ended_at ending citing next plan_end
  line_parts X q list =
      by-got (plan_at format Flags n m s q)
      (λ plan r is.
      let starts = ((list_through s literals n format.listed p).holds X q list).after in
      let ends = (plan_ends n m s q plan r is).0 in
      rw (list, is) (
      lined_next r (concluded_at format n s layout r) _ _ λ end t.
      lined_next r (count_at 0 format.citations s t) _ _ λ k u.
      lined_last r (repeated (two_bytes_at s) k u) _ λ cites. omega arith
      ))
      (λ k r is. rw (list, is))

  module _ (list : Passed) (read : over list ≡ passed (list_at (kind_of Literals) n format.listed s p)) where
    pub line_fault : (why : Fault) → list ≡ Err why → stopped why ≡ lined (line_at format n m s layout p)
    unfolding line_at next lined kind_of
    line_fault why is = rw (passed_stop (list_at literals n format.listed s p) why (sym read ∙ ap over is))

    pub line_whole : (q : ℕ) (r : Got ℕ) → list ≡ Ok q → r ≡ planned layout n m s q → r ≡ lined (line_at format n m s layout p)
    unfolding kind_of
    line_whole q r is e = let w = passed_to (list_at literals n format.listed s p) q (sym read ∙ ap over is) in e ∙ sym (line_parts w.0 q w.1)

-- LINES. One that was read stands where it was read, and it and its plan end within the input.
module _ {A : Type 0} (s : List ℕ) where
  repeated_inside : (one : ℕ → Got A) → ((p : ℕ) (x : A) (q : ℕ) → one p ≡ got x q → q ≤ length s) → (left p : ℕ) (xs : List A) (q : ℕ) → p ≤ length s → repeated one left p ≡ got xs q → q ≤ length s
  unfolding repeated
  repeated_inside one each zero p xs q h is = subst (λ (i : ℕ). i ≤ length s) (got_place is) h
  repeated_inside one each (suc left) p xs q h is =
      after_got (one p) _ is λ x i first is1.
      after_got (repeated one left i) _ is1 λ rest r more is2.
      subst (λ (j : ℕ). j ≤ length s) (got_place is2) (repeated_inside one each left i rest r (each p x i first) more)

record LineWithin (s : List ℕ) (p : ℕ) (l : Line) (e : ℕ) : Type 0 where
  place : l.place ≡ p
  starts : p < length s
  plan : plan_end l ≤ length s
  ends : e ≤ length s

module _ (layout : Layout) (n m : ℕ) (s : List ℕ) where
  line_within : (p : ℕ) (l : Line) (e : ℕ) → line_at format n m s layout p ≡ got l e → LineWithin s p l e
  unfolding line_at list_at plan_end
  line_within p l e is =
      after_got (list_at literals n format.listed s p) _ is λ X q list is1.
      after_got (count_at 0 format.listed s p) _ list λ c i count _.
      after_got (plan_at format Flags n m s q) _ is1 λ plan r reads is2.
      after_got (concluded_at format n s layout r) _ is2 λ end t _ is3.
      after_got (count_at 0 format.citations s t) _ is3 λ k u counts is4.
      after_got (repeated (two_bytes_at s) k u) _ is4 λ cites v numbers is5.
      let first = (count_through s 0 format.listed p).holds c i count in
      let a = first.after in let b = first.inside in
      let starts = ((list_through s literals n format.listed p).holds X q list).after in
      let ends = plan_ends n m s q plan r reads in
      let after = ends.0 in let inside = ends.1 in
      subst (λ (x : Line). LineWithin s p x e) (got_same is5)
      (record {
        place = refl;
        starts = omega arith;
        plan = omega arith;
        ends = subst (λ (j : ℕ). j ≤ length s) (got_place is5)
            (repeated_inside s (two_bytes_at s) (λ j x w two. ((two_bytes_through s j).holds x w two).inside) k u cites v ((count_through s 0 format.citations t).holds k u counts).inside numbers);
      })

  pub line_place : (p : ℕ) (l : Line) (e : ℕ) → line_at format n m s layout p ≡ got l e → l.place ≡ p
  line_place p l e is = (line_within p l e is).place

  -- The places of a given number of lines from p on, the first of which has number k.
  abbrev PlacesFrom : (left p k : ℕ) → List ℕ → Got (List ℕ)
  PlacesFrom left p k t = noting (places_noted k) (repeated (line_at format n m s layout) left p) t

  place_first : (k : ℕ) (l : Line) (g : Got (List Line)) (t : List ℕ)
      → noting (places_noted k) (next g (λ ls r. got (l ∷ ls) r)) t ≡ noting (places_noted (k + 1)) g (set (set t k l.place) (plan_ends_slot + k) (plan_end l))
  unfolding noting next places_noted
  place_first k l (got ls p) t = refl
  place_first k l (fault i p) t = refl

  pub places_start : (count p : ℕ) (t : List ℕ) → PlacesFrom count p 0 t ≡ PlacesFrom (count - 0) p 0 t
  places_start count p t = let same : count - 0 ≡ count = omega arith in rw same

  -- What a reader answered of a line.
  module _ (p : ℕ) (r : Numbered) (read : numbered r ≡ lined (line_at format n m s layout p)) where
    line_to : (q e : ℕ) → r ≡ Ok (q, e) → (l : Line) × (line_at format n m s layout p ≡ got l e) × (plan_end l ≡ q)
    unfolding lined
    line_to q e is =
        let w = next_got (line_at format n m s layout p) _ (was_read (lined (line_at format n m s layout p)) r q e read is) in
        (w.0, w.2 ∙ ap (got w.0) (got_place w.3), got_same w.3)

    line_stop : (why : Fault) → r ≡ Err why → line_at format n m s layout p ≡ stopped why
    unfolding lined
    line_stop why is = fault_first (line_at format n m s layout p) plan_end _ _ (was_stopped (lined (line_at format n m s layout p)) r why read is)

    module _ (q e : ℕ) (is : r ≡ Ok (q, e)) (long : length s ≤ format.derivation) where
      pub line_fits : p < 65536
      line_fits = let w = line_to q e is in let there = (line_within p w.0 e w.1).starts in omega arith

      pub end_fits : q < 65536
      end_fits = let w = line_to q e is in let there = (line_within p w.0 e w.1).plan in let same = w.2 in omega arith

  module _ (whole : Got (List ℕ)) (count p k : ℕ) (t : List ℕ) (so_far : whole ≡ PlacesFrom (count - k) p k t) where
    pub places_done : count ≤ k → outcome (Ok p) t ≡ whole
    unfolding outcome noting next repeated places_noted
    places_done h = let none : count - k ≡ zero = omega arith in sym (so_far ∙ rw none)

    places_left : k < count → count - k ≡ suc (count - (k + 1))
    places_left more = omega arith

    pub places_fault : (r : Numbered) (why : Fault) → k < count → numbered r ≡ lined (line_at format n m s layout p) → r ≡ Err why → outcome (Err why) t ≡ whole
    unfolding outcome noting next repeated
    places_fault r why more read is = sym (so_far ∙ rw (places_left more, line_stop p r read why is))

    pub places_next : (u v : List ℕ) (q e : ℕ) (r : Numbered) → u ≡ set t k p → v ≡ set u (plan_ends_slot + k) q → k < count → numbered r ≡ lined (line_at format n m s layout p) → r ≡ Ok (q, e)
        → whole ≡ PlacesFrom (count - (k + 1)) e (k + 1) v
    unfolding repeated next
    places_next u v q e r put ended more read is =
        let w = line_to p r read q e is in
        let first : set t k w.0.place ≡ u = ap (set t k) (line_place p w.0 e w.1) ∙ sym put in
        so_far ∙ rw (places_left more, w.1) (
        place_first k w.0 (repeated (line_at format n m s layout) (count - (k + 1)) e) t
        ∙ ap (PlacesFrom (count - (k + 1)) e (k + 1)) (ap (λ (x : List ℕ). set x (plan_ends_slot + k) (plan_end w.0)) first ∙ ap (set u (plan_ends_slot + k)) w.2 ∙ sym ended)
        )

-- WHAT CLOSES A DERIVATION.
module _ (layout : Layout) (s : List ℕ) (p : ℕ) where
  pub closing_none : layout ≡ Plain → over (Ok p) ≡ passed (closing_at s layout p)
  unfolding closing_at passed
  closing_none plain = rw plain

  module _ (count : Numbered) (closing : layout ≡ Closing) (read : numbered count ≡ (byte_at s p)) where
    pub closing_count : (why : Fault) → count ≡ Err why → over (Err why) ≡ passed (closing_at s layout p)
    unfolding closing_at section_at next passed
    closing_count why is = rw (closing, was_stopped (byte_at s p) count why read is)

    pub closing_numbers : (c q : ℕ) (r : Passed) → count ≡ Ok (c, q) → over r ≡ passed (repeated (two_bytes_at s) c q) → over r ≡ passed (closing_at s layout p)
    unfolding closing_at section_at next
    closing_numbers c q r is e = rw (closing, was_read (byte_at s p) count c q read is) e

-- THE DERIVATION.
module _ (layout : Layout) (n m : ℕ) (s : List ℕ) where
  abbrev closed : List Line → (place : ℕ) → List ℕ → ℕ → Got Derivation
  closed lines q closing e = pick (ltb e (length s)) (λ _. fault 20 e) (λ _. got (record { lines = lines; closing = closing; closing_place = q }) e)

  abbrev closed_from : List Line → ℕ → Got Derivation
  closed_from lines q = next (closing_at s layout q) (closed lines q)

  module _ (t : List ℕ) where
    abbrev Whole : Got (List ℕ)
    Whole = noting derivation_noted (read_derivation format n m s layout) t

    pub derivation_long : (u : List ℕ) (why : Fault) → format.derivation < length s → why ≡ record { refusal = TooLong; place = 0 } → outcome (Err why) u ≡ Whole
    unfolding outcome noting next read_derivation
    derivation_long u why h is-why = rw is-why (sym (ap (λ g. noting derivation_noted g t) (pick_true _ _ _ (lt-ltb format.derivation (length s) h))))

    module _ (count : Numbered) (short : length s ≤ format.derivation) (read : numbered count ≡ (two_bytes_at s 0)) where
      pub derivation_fault : (why : Fault) (u : List ℕ) → count ≡ Err why → outcome (Err why) u ≡ Whole
      unfolding outcome noting next read_derivation
      derivation_fault why u is =
          sym (ap (λ g. noting derivation_noted g t) (pick_false _ _ _ (le-ltb format.derivation (length s) short)) ∙ rw (was_stopped (two_bytes_at s 0) count why read is))

      module _ (c p : ℕ) (is : count ≡ Ok (c, p)) where
        derivation_rest : read_derivation format n m s layout ≡ pick (either (ltb c 1) (ltb format.lines c)) (λ _. fault 12 0) (λ _. next (repeated (line_at format n m s layout) c p) closed_from)
        unfolding read_derivation next
        derivation_rest = pick_false _ _ _ (le-ltb format.derivation (length s) short) ∙ rw (was_read (two_bytes_at s 0) count c p read is)

        pub derivation_none : (u : List ℕ) (why : Fault) → c < 1 → why ≡ record { refusal = CountOutside; place = 0 } → outcome (Err why) u ≡ Whole
        unfolding outcome noting next
        derivation_none u why h is-why = rw is-why (sym (ap (λ g. noting derivation_noted g t) (derivation_rest ∙ pick_true _ _ _ (either_left _ _ (lt-ltb c 1 h)))))

        pub derivation_many : (u : List ℕ) (why : Fault) → format.lines < c → why ≡ record { refusal = CountOutside; place = 0 } → outcome (Err why) u ≡ Whole
        unfolding outcome noting next
        derivation_many u why h is-why = rw is-why (sym (ap (λ g. noting derivation_noted g t) (derivation_rest ∙ pick_true _ _ _ (either_right _ _ (lt-ltb format.lines c h)))))

        module _ (lines : Passed) (v : List ℕ) (some : 1 ≤ c) (most : c ≤ format.lines) (read-too : outcome lines v ≡ PlacesFrom layout n m s c p 0 t) where
          derivation_lines : read_derivation format n m s layout ≡ next (repeated (line_at format n m s layout) c p) closed_from
          unfolding either
          derivation_lines = derivation_rest ∙ pick_false _ _ _ (rw (le-ltb c 1 some) (le-ltb format.lines c most))

          pub lines_fault : (why : Fault) (u : List ℕ) → lines ≡ Err why → outcome (Err why) u ≡ Whole
          unfolding outcome noting next
          lines_fault why u f =
              sym (ap (λ g. noting derivation_noted g t) derivation_lines
              ∙ rw (noting_fault (places_noted 0) (repeated (line_at format n m s layout) c p) lines t v read-too why f))

          module _ (q : ℕ) (to : lines ≡ Ok q) where
            lines_read : (ls : List Line) × (repeated (line_at format n m s layout) c p ≡ got ls q) × (v ≡ places_noted 0 ls t)
            lines_read = noting_got (places_noted 0) (repeated (line_at format n m s layout) c p) lines t v read-too q to

            pub lines_fit : q < 65536
            lines_fit =
                let start = ((two_bytes_through s 0).holds c p (was_read (two_bytes_at s 0) count c p read is)).inside in
                let inside = repeated_inside s (line_at format n m s layout) (λ i l j line. (line_within layout n m s i l j line).ends) c p lines_read.0 q start lines_read.1 in
                omega arith

            module _ (closing : Passed) (w : List ℕ) (read-last : over closing ≡ passed (closing_at s layout q)) where
              derivation_closed : read_derivation format n m s layout ≡ closed_from lines_read.0 q
              unfolding next
              derivation_closed = derivation_lines ∙ rw lines_read.1

              pub closing_fault : (why : Fault) (u : List ℕ) → closing ≡ Err why → outcome (Err why) u ≡ Whole
              unfolding outcome noting next
              closing_fault why u f = rw (derivation_closed, passed_stop (closing_at s layout q) why (sym read-last ∙ ap over f))

              module _ (e : ℕ) (f : closing ≡ Ok e) where
                closing_read : (xs : List ℕ) × (closing_at s layout q ≡ got xs e)
                closing_read = passed_to (closing_at s layout q) e (sym read-last ∙ ap over f)

                closing_closed : read_derivation format n m s layout ≡ closed lines_read.0 q closing_read.0 e
                unfolding next
                closing_closed = derivation_closed ∙ rw closing_read.1

                pub closing_before : (u : List ℕ) (why : Fault) → e < length s → why ≡ record { refusal = BytesAfter; place = e } → outcome (Err why) u ≡ Whole
                unfolding outcome noting next
                closing_before u why h is-why = rw is-why (sym (ap (λ g. noting derivation_noted g t) (closing_closed ∙ pick_true _ _ _ (lt-ltb e (length s) h))))

                pub closing_whole : length s ≤ e → w ≡ set v lines_end q → outcome (Ok e) w ≡ Whole
                unfolding outcome noting next derivation_noted
                closing_whole h put =
                    ap (λ (x : List ℕ). got x e) (put ∙ ap (λ (x : List ℕ). set x lines_end q) lines_read.2)
                    ∙ sym (ap (λ (g : Got Derivation). noting derivation_noted g t) (closing_closed ∙ pick_false _ _ _ (le-ltb e (length s) h)))
