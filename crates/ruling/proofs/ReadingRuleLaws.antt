-- Rules 3 and 10: a citation says a reading exactly where its list, its count, its items' bytes and its conclusion do; the readings of the first unknown
-- fluent are those with it true and then those with it false, and the citations are used up in that order. As many lines are used as there are
-- readings, so that how many are cited need not be asked beforehand. Assumes nothing.
use Prim.Native.Nat.{ℕ, zero, suc, ◌+◌, ◌-◌, ◌*◌, ◌≤◌, ◌<◌}
use native.Mathlib.Omega.{arith}
use native.Mathlib.Decide.{dec_lt}
use mathlib.Core.Path.{◌≡◌, refl, sym, ◌∙◌, ap, ap₂, subst}
use mathlib.Core.Bool.{Bool, true, false}
use mathlib.Core.List.{List, [], ◌∷◌, ◌++◌}
use lib.ListN.{length, get_or, set, take, drop, length-map, drop_of_length-le}
use lib.Seq.{drop-cons, set-set}
use lib.Dec.{eqb, ltb}
use mir.Syntax.{w64}
use mir.Val.{Fits}
use borrow.Author.Tests.{eq-eqb, ne_eqb, ltb-true, lt-ltb, le-ltb}
use Rattle.meaning.specs.declared.Layout.{Layout}
use Rattle.meaning.specs.Tests.{both, each_of}
use Rattle.meaning.specs.Limits.{format}
use Rattle.meaning.specs.Requests.{Table, Sequence, done, item, act}
use Rattle.meaning.specs.Lines.{sensing}
use Rattle.meaning.specs.States.{State, state_of, can_be_run, unknown_sensed, readings}
use Rattle.meaning.specs.Derivations.{Conclusion, knows, Line, same_list, same_plan, literals_of, same_conclusion, says, states_of, each_reads, reads, senses_first, rule_3, cited_by}
use Rattle.meaning.proofs.TestLaws.{by-test, both_left, both_right, pick_true, pick_false}
use Rattle.meaning.proofs.ReadingsExact.{count_settled}
use Rattle.reading.specs.Listed.{bytes_from, listed}
use Rattle.meaning.specs.declared.Form.TheVariants.{Flags}
use Rattle.reading.specs.Planned.{bytes_of}
use Rattle.derivation.specs.DerivationRead.{plan_ends_slot}
use Rattle.finding.specs.Branches.{sequence_place}
use Rattle.finding.specs.PlansHeld.{own_items}
use Rattle.steps.specs.AtHand.{Marked}
use Rattle.steps.specs.Small.{Small}
use Rattle.steps.specs.Steps.{unknown_above, first_of}
use Rattle.steps.proofs.LookLaws.{first_marked, second_marked, told_true, told_false, unknown_after_set, unknown_first, unknown_first_above, unknown_no_first, sensed_first, sensed_no_first}
use Rattle.steps.proofs.ToldMarks.{marked_as}
use Rattle.std.specs.Prelude.{Option, Some, None}
use Rattle.std.specs.Option.{option_eq}
use Rattle.std.specs.Bool.{then_some}
use Rattle.comparing.specs.declared.spots.Spot.{Spot}
use Rattle.comparing.specs.Coded.{coded}
use Rattle.comparing.specs.Stands.{PlanStands, NumbersStand, Stands, spot_at, number_cited, LinesStand}
use Rattle.comparing.specs.RuleAnswers.{ItemsStand, SameConclusions, SomeLine, SomeLines, CitedBelow, RuledByAll}
use Rattle.ruling.specs.Readings.{lines_at, reads_at, used, fluents_from, states_from, StandsSome, rest_first, rest_items, Follows, SomeFollows, SaysReading, RestStands, SomeRest, Uses}
use Rattle.comparing.proofs.CodedLaws.{same_own, same_coded, none_done, coded_length}
use Rattle.comparing.proofs.CodedPlaces.{ActThere, act_there, branching_there}
use Rattle.comparing.proofs.PlanLaws.{plan_part, items_part}
use Rattle.ruling.proofs.RuleLaws.{no_left, no_right, yes_left, plan_of, own_count}

-- ONE CITATION, a line at the spot v, whose plan's count stands at q.
module _ (d : List ℕ) (v : Spot) (q : ℕ) (after : q ≡ sequence_place Flags d v.line) (some : StandsSome d v) where
  cited_some : PlanStands d q v.end some.line.c
  cited_some = plan_of d v q after some.line some.stands

  pub cited_counted : q + 1 < length d
  cited_counted = cited_some.counted

  pub cited_fits : Fits w64 (q + 2)
  cited_fits = let there = cited_counted in let long = some.long in record { fits = omega (arith, there, long) }

  pub cited_ends : q + 2 ≤ v.end
  cited_ends = let ends = cited_some.ends in omega (arith, ends)

-- By the line itself, at the spot w, whose plan's count stands at p.
module _ (d : List ℕ) (marks : State) (w v : Spot) (starts : Bool) (first : starts ≡ same_list (listed d v.line) (literals_of marks)) where
  starts_is : (c : Line) → Stands d v c → starts ≡ same_list c.X (literals_of marks)
  starts_is c z = first ∙ ap (λ (xs : List ℕ). same_list xs (literals_of marks)) z.X.same

  pub starts_other : starts ≡ false → SaysReading d marks w v false
  unfolding says
  starts_other f = record { holds = λ c rest Y z y. no_left (same_list c.X (literals_of marks)) _ (sym (starts_is c z) ∙ f) }

  module _ (q count : ℕ) (after : q ≡ sequence_place Flags d v.line) (read : count ≡ get_or d q 0 * 256 + get_or d (q + 1) 0) (p all items : ℕ) (own : p ≡ sequence_place Flags d w.line) (whole : all ≡ get_or d p 0 * 256 + get_or d (p + 1) 0) (less : items ≡ all - 1) where
    items_are : items ≡ rest_items d w
    items_are = less ∙ ap (λ (n : ℕ). n - 1) (whole ∙ ap (λ (j : ℕ). get_or d j 0 * 256 + get_or d (j + 1) 0) own)

    pub count_other : (count ≡ items → ⊥) → SaysReading d marks w v false
    unfolding says
    count_other differ =
        record {
          holds = λ c rest Y z y.
              no_right (same_list c.X (literals_of marks)) _
              (sym (no_left (same_plan c.c rest) (same_conclusion c.Y Y)
              (by-test (same_plan c.c rest)
              (λ t. absurd (differ (read ∙ (plan_of d v q after c z).count ∙ same_own c.c rest t ∙ sym y.items.counted ∙ sym items_are)))
              (λ f. f))));
        }

    module _ (counted : count ≡ items) (same : Bool) (parts : same ≡ same_list (take (v.end - (q + 2)) (drop (q + 2) d)) (take (w.end - (p + 3)) (drop (p + 3) d))) where
      parts_are : same ≡ same_list (take (v.end - (q + 2)) (drop (q + 2) d)) (take (w.end - rest_first d w) (drop (rest_first d w) d))
      parts_are = parts ∙ ap (λ (j : ℕ). same_list (take (v.end - (q + 2)) (drop (q + 2) d)) (take (w.end - (j + 3)) (drop (j + 3) d))) own

      same_is : (c : Line) (rest : Sequence ℕ) (Y : Conclusion) → Stands d v c → Follows d w rest Y → same ≡ same_plan c.c rest
      unfolding both
      same_is c rest Y z y =
          let plan = plan_of d v q after c z in
          let own_same : own_items c.c ≡ own_items rest = sym plan.count ∙ sym read ∙ counted ∙ items_are ∙ y.items.counted in
          parts_are
          ∙ rw (plan_part d q v.end c.c plan, items_part d (rest_first d w) w.end (rest_items d w) rest y.items)
          (sym (same_coded c.c rest plan.tellable y.items.tellable ∙ rw (eq-eqb (own_items c.c) (own_items rest) own_same)))

      pub items_other : same ≡ false → SaysReading d marks w v false
      unfolding says
      items_other f =
          record {
            holds = λ c rest Y z y.
                no_right (same_list c.X (literals_of marks)) _ (sym (no_left (same_plan c.c rest) (same_conclusion c.Y Y) (sym (same_is c rest Y z y) ∙ f)));
          }

      pub items_same : starts ≡ true → same ≡ true → (answer : Bool) → SameConclusions d v w answer → SaysReading d marks w v answer
      unfolding says
      items_same t u answer is =
          record {
            holds = λ c rest Y z y.
                is.holds c.Y Y z.Y y.concluded
                ∙ sym (yes_left (same_plan c.c rest) (same_conclusion c.Y Y) (sym (same_is c rest Y z y) ∙ u))
                ∙ sym (yes_left (same_list c.X (literals_of marks)) _ (sym (starts_is c z) ∙ t));
          }

-- Where the slots of a line say that its parts stand.
abbrev slot_spot : Layout → (d places : List ℕ) → ℕ → Spot
slot_spot layout d places i = spot_at layout d (get_or places i 0) (get_or places (plan_ends_slot + i) 0)

-- CITATION k. Two bytes say its number.
pub number_stands : (d cites : List ℕ) (p k : ℕ) → NumbersStand d p cites → k < length cites
    → (p + 2 * k + 1 < length d) × (get_or d (p + 2 * k) 0 * 256 + get_or d (p + 2 * k + 1) 0 ≡ get_or cites k 0)
unfolding NumbersStand
number_stands d [] p k stand less = absurd (omega (arith, less))
number_stands d (x ∷ cites) p zero stand less = let same : p + 2 * zero ≡ p = omega arith in rw same (stand.0, stand.1)
number_stands d (x ∷ cites) p (suc k) stand less =
    let on : p + 2 * suc k ≡ p + 2 + 2 * k = omega arith in
    rw on (number_stands d cites (p + 2) k stand.2 (omega (arith, less)))

pub each_at : (test : ℕ → Bool) (cites : List ℕ) (k : ℕ) → each_of test cites ≡ true → k < length cites → test (get_or cites k 0) ≡ true
unfolding each_of
each_at test [] k all less = absurd (omega (arith, less))
each_at test (x ∷ cites) zero all less = both_left _ _ all
each_at test (x ∷ cites) (suc k) all less = each_at test cites k (both_right _ _ all) (omega (arith, less))

lines_length : (lines : List Line) (other : Line) (cites : List ℕ) → length (lines_at lines other cites) ≡ length cites
unfolding lines_at
lines_length lines other cites = length-map cites (λ (k : ℕ). get_or lines k other)

line_at_number : (lines : List Line) (other : Line) (cites : List ℕ) (k : ℕ) → k < length cites → get_or (lines_at lines other cites) k other ≡ get_or lines (get_or cites k 0) other
unfolding lines_at
line_at_number lines other [] k less = absurd (omega (arith, less))
line_at_number lines other (x ∷ cites) zero less = refl
line_at_number lines other (x ∷ cites) (suc k) less = line_at_number lines other cites k (omega (arith, less))

module _ (layout : Layout) (d places : List ℕ) (w : Spot) (count : ℕ) (counts : count ≡ get_or d w.cites 0) (k : ℕ) where
  pub none_left : (marks : State) → count ≤ k → Uses layout d places w (marks ∷ []) k None
  unfolding used reads_at
  none_left marks far =
      record {
        holds = λ lines rest Y cites other v.
            let size = lines_length lines other cites in let counted = v.counted in
            sym (pick_false _ _ _ (sym (no_left _ _ (le-ltb k (length (lines_at lines other cites)) (omega (arith, far, size, counted, counts))))));
      }

  module _ (total i : ℕ) (given : SomeRest layout d places total (slot_spot layout d places i)) (placed : w ≡ slot_spot layout d places i) (less : k < count) where
    some : SomeRest layout d places total w
    some = subst (SomeRest layout d places total) (sym placed) given

    near : k < length some.cites
    near = let counted = some.stands.counted in omega (arith, less, counted, counts)

    pub second_inside : w.cites + 1 + 2 * k + 1 < length d
    second_inside = (number_stands d some.cites (w.cites + 1) k some.stands.numbers near).0

  -- Its line stands where the slots say.
  module _ (less : k < count) where
    abbrev number : ℕ
    number = number_cited d w k

    module _ (lines : List Line) (rest : Sequence ℕ) (Y : Conclusion) (cites : List ℕ) (v : RestStands layout d places w lines rest Y cites) where
      close : k < length cites
      close = let counted = v.counted in omega (arith, less, counted, counts)

      is_number : number ≡ get_or cites k 0
      is_number = (number_stands d cites (w.cites + 1) k v.numbers close).1

      is_below : number < length lines
      is_below = rw is_number (ltb-true (get_or cites k 0) (length lines) (each_at (λ (j : ℕ). ltb j (length lines)) cites k v.below close))

      module _ (other : Line) where
        cited_stands : Stands d (slot_spot layout d places number) (get_or (lines_at lines other cites) k other)
        cited_stands = subst (Stands d (slot_spot layout d places number)) (ap (λ (j : ℕ). get_or lines j other) is_number ∙ sym (line_at_number lines other cites k close)) (v.stand.each number is_below other)

        cited_near : ltb k (length (lines_at lines other cites)) ≡ true
        cited_near = let size = lines_length lines other cites in lt-ltb k (length (lines_at lines other cites)) (let there = close in omega (arith, there, size))

    pub number_below : (total i : ℕ) → SomeRest layout d places total (slot_spot layout d places i) → w ≡ slot_spot layout d places i → number_cited d w k < total
    number_below total i given placed =
        let some : SomeRest layout d places total w = subst (SomeRest layout d places total) (sym placed) given in
        let below = is_below some.lines some.rest some.Y some.cites some.stands in
        let size = some.size in
        omega (arith, below, size)

    module _ (v : Spot) (placed : v ≡ slot_spot layout d places (number_cited d w k)) (marks : State) (said : Bool) (says_so : SaysReading d marks w v said) where
      said_is : (lines : List Line) (rest : Sequence ℕ) (Y : Conclusion) (cites : List ℕ) (other : Line) → RestStands layout d places w lines rest Y cites
          → said ≡ reads_at rest Y (lines_at lines other cites) other marks k
      unfolding reads_at
      said_is lines rest Y cites other z =
          says_so.holds (get_or (lines_at lines other cites) k other) rest Y (rw placed (cited_stands lines rest Y cites z other)) z.follows
          ∙ sym (yes_left _ _ (cited_near lines rest Y cites z other))

      pub reading_told : (r : Option ℕ) → r ≡ then_some said (k + 1) → Uses layout d places w (marks ∷ []) k r
      unfolding used
      reading_told r is =
          record {
            holds = λ lines rest Y cites other z.
                is
                ∙ by-test said
                (λ t. rw t (sym (pick_true _ _ _ (sym (said_is lines rest Y cites other z) ∙ t))))
                (λ f. rw f (sym (pick_false _ _ _ (sym (said_is lines rest Y cites other z) ∙ f))));
          }

-- LINE i, at the spot w.
module _ (layout : Layout) (d places : List ℕ) (total i : ℕ) (given : SomeRest layout d places total (slot_spot layout d places i)) where
  pub some_lines : SomeLines layout d places total
  some_lines = record { lines = given.lines; stand = given.stands.stand; size = given.size }

  -- Any line stands where its slots say.
  pub line_there : (number : ℕ) → number < total → (v : Spot) → v ≡ slot_spot layout d places number → StandsSome d v
  line_there number below v placed =
      let size = given.size in
      record {
        long = given.stands.stand.long;
        line = get_or given.lines number no_line;
        stands = rw placed (given.stands.stand.each number (omega (arith, below, size)) no_line);
      }
    where
      no_line : Line
      no_line = record { place = 0; X = []; c = done; Y = knows []; rule = 0; cites = [] }

  module _ (w : Spot) (placed : w ≡ slot_spot layout d places i) where
    pub cites_there : i < total → w.cites < length d
    cites_there below = (line_there i below w placed).stands.counted

    pub some_follows : SomeFollows d w
    some_follows = rw placed (record { rest = given.rest; Y = given.Y; follows = given.stands.follows })

    -- And the line of citation k.
    pub number_line : (count : ℕ) → count ≡ get_or d w.cites 0 → (k : ℕ) → k < count → (v : Spot) → v ≡ slot_spot layout d places (number_cited d w k) → StandsSome d v
    number_line count counts k less v there = line_there (number_cited d w k) (number_below layout d places w count counts k less total i given placed) v there

    pub said_of : (states : List State) (k : ℕ) (answer : Option ℕ) → Uses layout d places w states k answer → Uses layout d places (slot_spot layout d places i) states k answer
    said_of states k answer uses = subst (λ (z : Spot). Uses layout d places z states k answer) placed uses

-- STATES ONE AFTER THE OTHER.
abbrev on : Option ℕ → (ℕ → Option ℕ) → Option ℕ
on r then = elim r [ Some j ↦ then j | None ↦ None ]

module _ (rest : Sequence ℕ) (Y : Conclusion) (cited : List Line) (other : Line) where
  used_then : (xs ys : List State) (k : ℕ) → used rest Y cited other (xs ++ ys) k ≡ on (used rest Y cited other xs k) (used rest Y cited other ys)
  unfolding used
  used_then [] ys k = refl
  used_then (x ∷ xs) ys k =
      by-test (reads_at rest Y cited other x k)
      (λ t. pick_true _ _ _ t ∙ used_then xs ys (k + 1) ∙ ap (λ (u : Option ℕ). on u (used rest Y cited other ys)) (sym (pick_true _ _ _ t)))
      (λ f. pick_false _ _ _ f ∙ ap (λ (u : Option ℕ). on u (used rest Y cited other ys)) (sym (pick_false _ _ _ f)))

-- THE FIRST UNKNOWN FLUENT f, with the next one g.
module _ (t : Table) (a : ℕ) (marks : State) (marked : Marked marks) (f : ℕ) where
  fluents_next : (m : State) → Marked m → (g : ℕ) → g ≡ first_of (unknown_above t a m (f + 1)) → fluents_from t a m g ≡ unknown_above t a m (f + 1)
  unfolding fluents_from
  fluents_next m good g next =
      elim (dec_lt g format.fluents) [
        | yes near ↦ pick_true _ _ _ (lt-ltb g format.fluents near) ∙ sym (unknown_first t a m good (f + 1) g next near)
        | no far ↦ pick_false _ _ _ (le-ltb g format.fluents (omega arith)) ∙ sym (unknown_no_first t a m good (f + 1) g next (omega arith))
      ]

  module _ (small : f < format.fluents) (g : ℕ) (next : g ≡ first_of (unknown_above t a (set marks f 1) (f + 1))) where
    second_next : g ≡ first_of (unknown_above t a (set (set marks f 1) f 2) (f + 1))
    second_next = next ∙ ap first_of (sym (unknown_after_set t a (set marks f 1) f 2))

    states_split : states_from t a marks f ≡ states_from t a (set marks f 1) g ++ states_from t a (set (set marks f 1) f 2) g
    unfolding states_from fluents_from readings states_of
    states_split =
        let above : List ℕ = unknown_above t a marks (f + 1) in
        let one : fluents_from t a (set marks f 1) g ≡ above = fluents_next (set marks f 1) (first_marked f marks small marked) g next ∙ unknown_after_set t a marks f 1 in
        let two : fluents_from t a (set (set marks f 1) f 2) g ≡ above =
        fluents_next (set (set marks f 1) f 2) (second_marked f marks small marked) g second_next ∙ unknown_after_set t a (set marks f 1) f 2 ∙ unknown_after_set t a marks f 1 in
        let all : fluents_from t a marks f ≡ f ∷ above = pick_true _ _ _ (lt-ltb f format.fluents small) in
        ap (λ (fs : List ℕ). states_of (readings fs marks)) all
        ∙ rw (one, two, told_true f marks, told_false f marks, set-set marks f 1 2)

    pub next_falls : (μ : ℕ) → format.fluents - f ≡ μ → format.fluents - g < μ
    next_falls μ is =
        elim (dec_lt g format.fluents) [
          | yes near ↦ let h = unknown_first_above t a (set marks f 1) (first_marked f marks small marked) (f + 1) g next near in omega (arith, h, near, is)
          | no far ↦ omega (arith, far, small, is)
        ]

    module _ (layout : Layout) (d places : List ℕ) (v : Spot) (k : ℕ) (answer : Option ℕ) (first : Uses layout d places v (states_from t a (set marks f 1) g) k answer) where
      pub first_fails : answer ≡ None → Uses layout d places v (states_from t a marks f) k None
      first_fails is =
          record {
            holds = λ lines rest Y cites other w.
                let cited = lines_at lines other cites in
                sym (ap (λ (ss : List State). used rest Y cited other ss k) states_split
                ∙ used_then rest Y cited other (states_from t a (set marks f 1) g) (states_from t a (set (set marks f 1) f 2) g) k
                ∙ ap (λ (u : Option ℕ). on u (used rest Y cited other (states_from t a (set (set marks f 1) f 2) g))) (sym (first.holds lines rest Y cites other w) ∙ is));
          }

      pub both_read : (j : ℕ) → answer ≡ Some j → (last : Option ℕ) → Uses layout d places v (states_from t a (set (set marks f 1) f 2) g) j last → Uses layout d places v (states_from t a marks f) k last
      both_read j is last second =
          record {
            holds = λ lines rest Y cites other w.
                let cited = lines_at lines other cites in
                second.holds lines rest Y cites other w
                ∙ sym (ap (λ (ss : List State). used rest Y cited other ss k) states_split
                ∙ used_then rest Y cited other (states_from t a (set marks f 1) g) (states_from t a (set (set marks f 1) f 2) g) k
                ∙ ap (λ (u : Option ℕ). on u (used rest Y cited other (states_from t a (set (set marks f 1) f 2) g))) (sym (first.holds lines rest Y cites other w) ∙ is));
          }

-- There is none.
pub read_whole : (t : Table) (a : ℕ) (marks : State) (f : ℕ) → format.fluents ≤ f → (layout : Layout) (d places : List ℕ) (v : Spot) (k : ℕ) (answer : Option ℕ)
    → Uses layout d places v (marks ∷ []) k answer → Uses layout d places v (states_from t a marks f) k answer
unfolding states_from fluents_from readings states_of
read_whole t a marks f far layout d places v k answer uses =
    subst (λ (fs : List ℕ). Uses layout d places v (states_of (readings fs marks)) k answer) (sym (pick_false _ _ _ (le-ltb f format.fluents far))) uses

-- USED UP: each line says its reading exactly where the citations used are all.
abbrev all_used : ℕ → Option ℕ → Bool
all_used n u = option_eq eqb u (Some n)

module _ (rest : Sequence ℕ) (Y : Conclusion) where
  module _ (cited : List Line) (other : Line) where
    line_next : (k : ℕ) → k < length cited → drop k cited ≡ get_or cited k other ∷ drop (k + 1) cited
    line_next k less = let up : suc k ≡ k + 1 = omega arith in drop-cons cited k other less ∙ ap (λ (j : ℕ). get_or cited k other ∷ drop j cited) up

    reads_near : (s : State) (k : ℕ) → k < length cited → reads_at rest Y cited other s k ≡ says (get_or cited k other) (literals_of s) rest Y
    unfolding reads_at
    reads_near s k less = yes_left _ _ (lt-ltb k (length cited) less)

    reads_far : (s : State) (k : ℕ) → length cited ≤ k → reads_at rest Y cited other s k ≡ false
    unfolding reads_at
    reads_far s k far = sym (no_left _ _ (le-ltb k (length cited) far))

    each_used : (ss : List State) (k : ℕ) → k ≤ length cited → each_reads rest Y ss (drop k cited) ≡ all_used (length cited) (used rest Y cited other ss k)
    unfolding each_reads used
    each_used [] k most =
        elim (dec_lt k (length cited)) [
          | yes less ↦ ap (each_reads rest Y []) (line_next k less) ∙ sym (ne_eqb k (length cited) (λ e. omega (arith, e, less)))
          | no far ↦ ap (each_reads rest Y []) (drop_of_length-le cited {i = k} (omega (arith, far))) ∙ sym (eq-eqb k (length cited) (omega (arith, far, most)))
        ]
    each_used (s ∷ ss) k most =
        elim (dec_lt k (length cited)) [
          | yes less ↦ by-test (says (get_or cited k other) (literals_of s) rest Y)
              (λ t.
              ap (each_reads rest Y (s ∷ ss)) (line_next k less)
              ∙ yes_left _ _ t
              ∙ each_used ss (k + 1) (omega (arith, less))
              ∙ ap (all_used (length cited)) (sym (pick_true _ _ _ (reads_near s k less ∙ t))))
              (λ f.
              ap (each_reads rest Y (s ∷ ss)) (line_next k less)
              ∙ sym (no_left _ _ f)
              ∙ ap (all_used (length cited)) (sym (pick_false (reads_at rest Y cited other s k) (λ _. used rest Y cited other ss (k + 1)) (λ _. None) (reads_near s k less ∙ f))))
          | no far ↦ ap (each_reads rest Y (s ∷ ss)) (drop_of_length-le cited {i = k} (omega (arith, far)))
              ∙ ap (all_used (length cited)) (sym (pick_false (reads_at rest Y cited other s k) (λ _. used rest Y cited other ss (k + 1)) (λ _. None) (reads_far s k (omega (arith, far)))))
        ]

-- The states by the first unknown fluent are all.
sensed_states : (t : Table) (a : ℕ) (marks : State) → Marked marks → (f : ℕ) → f ≡ first_of (unknown_sensed t a marks) → states_from t a marks f ≡ states_of (readings (unknown_sensed t a marks) marks)
unfolding states_from fluents_from
sensed_states t a marks marked f first =
    ap (λ (fs : List ℕ). states_of (readings fs marks))
    (elim (dec_lt f format.fluents) [
      | yes near ↦ pick_true _ _ _ (lt-ltb f format.fluents near) ∙ sym (sensed_first t a marks marked f first near)
      | no far ↦ pick_false _ _ _ (le-ltb f format.fluents (omega arith)) ∙ sym (sensed_no_first t a marks marked f first (omega arith))
    ])

-- THE LINE itself, at the spot w, whose plan's count stands at q.
act_bytes : (o a : ℕ) (rest : Sequence ℕ) → bytes_of Flags (item (act o a) rest) ≡ 1 + bytes_of Flags rest
unfolding bytes_of
act_bytes o a rest = refl

-- Its first item.
module _ (d : List ℕ) (w : Spot) (q count : ℕ) (after : q ≡ sequence_place Flags d w.line) (read : count ≡ get_or d q 0 * 256 + get_or d (q + 1) 0) where
  module _ (t : Table) (layout : Layout) (places : List ℕ) where
    pub none_first : count ≡ 0 → RuledByAll layout d places w (rule_3 format t) false
    unfolding rule_3 senses_first
    none_first none =
        record {
          holds = λ lines l stand v below.
              let cited = cited_by lines l in
              sym (ap (senses_first format t cited l) (none_done l.c (sym (own_count d w q after count read l v) ∙ none)));
        }

  module _ (more : count ≡ 0 → ⊥) where
    own_some : (l : Line) → Stands d w l → 0 < own_items l.c
    own_some l v = let same = own_count d w q after count read l v in omega (arith, more, same)

    pub branching_first : (t : Table) (layout : Layout) (places : List ℕ) → get_or d (q + 2) 0 ≡ 255 → RuledByAll layout d places w (rule_3 format t) false
    unfolding rule_3 senses_first
    branching_first t layout places is =
        record {
          holds = λ lines l stand v below.
              let cited = cited_by lines l in
              let plan = plan_of d w q after l v in
              sym (ap (senses_first format t cited l) (branching_there d (q + 2) l.c (own_some l v) plan.tellable plan.bytes is).is);
        }

    module _ (other : get_or d (q + 2) 0 ≡ 255 → ⊥) where
      first_act : (l : Line) → Stands d w l → ActThere d (q + 2) l.c
      first_act l v = let plan = plan_of d w q after l v in act_there d (q + 2) l.c (own_some l v) plan.tellable plan.bytes other

      rest_there : (l : Line) (v : Stands d w l) → ItemsStand d (q + 3) w.end (count - 1) (first_act l v).rest
      rest_there l v =
          let first = first_act l v in
          let plan = plan_of d w q after l v in
          let own = first.own in let same = own_count d w q after count read l v in let few = plan.few in
          let bytes : bytes_of Flags l.c ≡ 1 + bytes_of Flags first.rest = ap (bytes_of Flags) first.is ∙ act_bytes _ _ _ in
          let to = plan.ends in
          let up : q + 2 + 1 ≡ q + 3 = omega arith in
          record {
            counted = omega (arith, own, same);
            few = omega (arith, own, same, few);
            ends = omega (arith, bytes, to);
            inside = plan.inside;
            sized = coded_length first.rest;
            bytes = subst (λ (j : ℕ). bytes_from d j (bytes_of Flags first.rest) ≡ coded first.rest) up first.rest_there;
            tellable = first.rest_told;
          }

      module _ (a : ℕ) (byte : a ≡ get_or d (q + 2) 0) where
        pub action_small : SomeLine d w → a < format.actions
        unfolding Small
        action_small some = rw byte (subst Small (first_act some.line some.stands).is some.small).0

        -- The rule is what its readings are.
        module _ (t : Table) where
          rule_reads : (lines : List Line) (l : Line) (v : Stands d w l) → rule_3 format t (cited_by lines l) l ≡ reads format t (cited_by lines l) l a (first_act l v).rest (state_of format (listed d w.line))
          unfolding rule_3 senses_first
          rule_reads lines l v =
              let cited = cited_by lines l in
              let first = first_act l v in
              ap (senses_first format t cited l) first.is
              ∙ ap₂ {C = Bool} (λ (b : ℕ) (xs : List ℕ). reads format t cited l b first.rest (state_of format xs)) (sym byte) (sym v.X.same)

          module _ (senses : Bool) (tested : senses ≡ sensing t a) where
            pub not_sensing : (layout : Layout) (places : List ℕ) → senses ≡ false → RuledByAll layout d places w (rule_3 format t) false
            unfolding reads
            not_sensing layout places f = record { holds = λ lines l stand v below. no_left (sensing t a) _ (sym tested ∙ f) ∙ sym (rule_reads lines l v) }

            module _ (marks : State) (held : marks ≡ state_of format (listed d w.line)) (runs : Bool) (asked : runs ≡ can_be_run t a marks) where
              pub not_run : (layout : Layout) (places : List ℕ) → runs ≡ false → RuledByAll layout d places w (rule_3 format t) false
              unfolding reads
              not_run layout places f =
                  record {
                    holds = λ lines l stand v below.
                        no_right (sensing t a) _ (sym (no_left (can_be_run t a (state_of format (listed d w.line))) _ (ap (can_be_run t a) (sym held) ∙ sym asked ∙ f)))
                        ∙ sym (rule_reads lines l v);
                  }

              module _ (yes : senses ≡ true) (can : runs ≡ true) where
                rule_each : (lines : List Line) (l : Line) (v : Stands d w l)
                    → rule_3 format t (cited_by lines l) l ≡ each_reads (first_act l v).rest l.Y (states_of (readings (unknown_sensed t a marks) marks)) (cited_by lines l)
                unfolding reads
                rule_each lines l v =
                    rule_reads lines l v
                    ∙ ap (reads format t (cited_by lines l) l a (first_act l v).rest) (sym held)
                    ∙ yes_left (sensing t a) _ (sym tested ∙ yes)
                    ∙ yes_left (can_be_run t a marks) _ (sym asked ∙ can)
                    ∙ count_settled (first_act l v).rest l.Y (unknown_sensed t a marks) marks (cited_by lines l)

      -- What follows it, and the citations.
      follows : (l : Line) (v : Stands d w l) → Follows d w (first_act l v).rest l.Y
      follows l v =
          record {
            items = subst (λ (j : ℕ). ItemsStand d (j + 3) w.end (get_or d j 0 * 256 + get_or d (j + 1) 0 - 1) (first_act l v).rest) after
                (subst (λ (n : ℕ). ItemsStand d (q + 3) w.end (n - 1) (first_act l v).rest) read (rest_there l v));
            concluded = v.Y;
          }

      module _ (layout : Layout) (places : List ℕ) where
        rest_stands : (lines : List Line) (l : Line) → LinesStand layout d places lines → (v : Stands d w l) → each_of (λ (k : ℕ). ltb k (length lines)) l.cites ≡ true
            → RestStands layout d places w lines (first_act l v).rest l.Y l.cites
        rest_stands lines l stand v below =
            record {
              stand = stand;
              follows = follows l v;
              counted = v.cited;
              most = v.most;
              numbers = v.cites;
              below = below;
            }

        pub some_rest : (i : ℕ) → w ≡ slot_spot layout d places i → (total : ℕ) → SomeLine d w → SomeLines layout d places total → CitedBelow d w total
            → SomeRest layout d places total (slot_spot layout d places i)
        some_rest i placed total some all below =
            subst (SomeRest layout d places total) placed
            (record {
              lines = all.lines;
              rest = (first_act some.line some.stands).rest;
              Y = some.line.Y;
              cites = some.line.cites;
              size = all.size;
              stands = rest_stands all.lines some.line all.stand some.stands
                  (subst (λ (n : ℕ). each_of (λ (k : ℕ). ltb k n) some.line.cites ≡ true) (sym all.size) (below.holds some.line some.stands));
            })

        cited_size : (cited : ℕ) → cited ≡ get_or d w.cites 0 → (l : Line) → Stands d w l → cited ≡ length l.cites
        cited_size cited size l v = size ∙ v.cited

        module _ (a : ℕ) (byte : a ≡ get_or d (q + 2) 0) (t : Table) (senses : Bool) (tested : senses ≡ sensing t a) (marks : State) (held : marks ≡ state_of format (listed d w.line)) (runs : Bool) (asked : runs ≡ can_be_run t a marks) (yes : senses ≡ true) (can : runs ≡ true) (f : ℕ) (first : f ≡ first_of (unknown_sensed t a marks)) (cited : ℕ) (size : cited ≡ get_or d w.cites 0) (i : ℕ) (placed : w ≡ slot_spot layout d places i) (answer : Option ℕ) (told : Uses layout d places (slot_spot layout d places i) (states_from t a marks f) 0 answer) where
          uses : Uses layout d places w (states_from t a marks f) 0 answer
          uses = subst (λ (z : Spot). Uses layout d places z (states_from t a marks f) 0 answer) (sym placed) told

          rule_used : (lines : List Line) (l : Line) → LinesStand layout d places lines → Stands d w l → each_of (λ (k : ℕ). ltb k (length lines)) l.cites ≡ true
              → rule_3 format t (cited_by lines l) l ≡ all_used cited answer
          unfolding cited_by lines_at
          rule_used lines l stand v below =
              let rest = (first_act l v).rest in
              let lines-cited = cited_by lines l in
              let states = states_of (readings (unknown_sensed t a marks) marks) in
              let same : answer ≡ used rest l.Y lines-cited l states 0 =
              uses.holds lines rest l.Y l.cites l (rest_stands lines l stand v below)
              ∙ ap (λ (ss : List State). used rest l.Y lines-cited l ss 0) (sensed_states t a marks (marked_as (listed d w.line) marks held) f first) in
              let long : length lines-cited ≡ cited = lines_length lines l l.cites ∙ sym (cited_size cited size l v) in
              rule_each a byte t senses tested marks held runs asked yes can lines l v
              ∙ each_used rest l.Y lines-cited l states 0 (omega arith)
              ∙ ap₂ {C = Bool} all_used long (sym same)

          pub all_read : (r : Bool) → r ≡ option_eq eqb answer (Some cited) → RuledByAll layout d places w (rule_3 format t) r
          all_read r is = record { holds = λ lines l stand v below. is ∙ sym (rule_used lines l stand v below) }
