-- A line that was read stands in the input: each reader of a part says what stands where it read, and the parts follow one another, in the order
-- that the layout says. Assumes nothing.
use Prim.Native.Nat.{ℕ, zero, suc, ◌+◌, ◌*◌, ◌≤◌, ◌<◌}
use native.Mathlib.Omega.{arith}
use mathlib.Core.Path.{◌≡◌, refl, sym, ◌∙◌, ap, subst}
use mathlib.Core.List.{List, [], ◌∷◌}
use lib.ListN.{length, get_or}
use mir.Syntax.{w8}
use mir.Val.{Fits}
use borrow.Author.Tests.{ltb-false}
use Rattle.meaning.specs.declared.Layout.{Layout}
use Rattle.meaning.specs.declared.Layout.TheVariants.{Plain, Closing}
use Rattle.meaning.specs.Limits.{format, all_literals}
use Rattle.meaning.specs.Requests.{Sequence}
use Rattle.meaning.specs.declared.Form.TheVariants.{Flags}
use Rattle.meaning.specs.Reading.{got, next, Met, literals, byte_at, two_bytes_at, count_at, below_at, bound_of, list_at, repeated, section_at, plan_at}
use Rattle.meaning.specs.Refusals.{nowhere}
use Rattle.meaning.specs.Derivations.{Conclusion, Line, Derivation, Concluded, concludes_fluent, list_concluded, fluent_concluded, conclusion_at, concluded_at, closing_at, line_at, read_derivation, overlap_in_lines}
use Rattle.meaning.proofs.TestLaws.{by-test, clash, either_left, either_right, pick-cases}
use Rattle.meaning.proofs.SettledLaws.{got_same, refuse_got}
use Rattle.meaning.proofs.RangeLaws.{not_refused, after_got, count_within, repeated_length}
use Rattle.std.specs.Prelude.{Ok}
use Rattle.parsing.specs.Read.{Passed}
use Rattle.reading.specs.Noted.{noting, outcome}
use Rattle.reading.specs.Planned.{bytes_of}
use Rattle.derivation.specs.DerivationRead.{plan_end, derivation_noted, settled_derivation, plan_ends_slot, places_slots}
use Rattle.derivation.specs.Derived.{LineHere, LinesHere}
use Rattle.reading.proofs.SectionLaws.{got_place, byte_got, number_got, count_got, noting_got}
use Rattle.finding.proofs.HereLaws.{list_here, list_apart}
use Rattle.reading.proofs.PlanSizes.{list_through}
use Rattle.finding.proofs.PlanHere.{listed_length}
use Rattle.finding.proofs.WrittenLaws.{two_is}
use Rattle.derivation.proofs.DerivationLaws.{plan_ends}
use Rattle.derivation.proofs.DerivedLaws.{derived_here}
use Rattle.comparing.specs.declared.spots.Concludes.TheVariants.{Literals, Fluent}
use Rattle.comparing.specs.declared.spots.Spot.{Spot}
use Rattle.comparing.specs.Stands.{after_list, ListStands, PlanStands, NumbersStand, ConclusionStands, Stands, spot_at, LinesStand, ClosingStands, Derived, SomeDerived}
use Rattle.comparing.proofs.CodedReads.{plan_coded}
use Rattle.comparing.proofs.SpotLaws.{spot_fluent, spot_list, spot_line, spot_end}

module _ (n m : ℕ) (d : List ℕ) where
  -- PARTS OF A LINE.
  list_stands : n ≤ format.fluents → (p : ℕ) (xs : List ℕ) (q : ℕ) → list_at literals n format.listed d p ≡ got xs q → ListStands d p xs
  unfolding bound_of
  list_stands few p xs q e =
      let list = list_here literals n d format.listed p xs q e in
      record { here = list.1 all_literals (omega arith); same = list.0; clear = list_apart n format.listed d p xs q e }

  list_size : (p : ℕ) (xs : List ℕ) → ListStands d p xs → get_or d p 0 ≡ length xs
  list_size p xs list = sym (listed_length d p) ∙ ap length list.same

  list_after : n ≤ format.fluents → (p : ℕ) (xs : List ℕ) (q : ℕ) → list_at literals n format.listed d p ≡ got xs q → q ≡ after_list d p
  unfolding after_list
  list_after few p xs q e =
      let after = ((list_through d literals n format.listed p).holds xs q e).after in
      let size = list_size p xs (list_stands few p xs q e) in
      omega arith

  numbers_stand : (left p : ℕ) (xs : List ℕ) (q : ℕ) → repeated (two_bytes_at d) left p ≡ got xs q → NumbersStand d p xs
  unfolding repeated NumbersStand
  numbers_stand zero p xs q e = subst (NumbersStand d p) (got_same e) tt
  numbers_stand (suc left) p xs q e =
      after_got (two_bytes_at d p) _ e λ x i one is1.
      after_got (repeated (two_bytes_at d) left i) _ is1 λ rest r more is2.
      let number = (two_is d p).holds x i one in
      subst (NumbersStand d p) (got_same is2) (number.there, number.is, subst (λ (j : ℕ). NumbersStand d j rest) number.after (numbers_stand left i rest r more))

  -- The citations, with their count at t.
  record CitesStand (t : ℕ) (xs : List ℕ) : Type 0 where
    counted : t < length d
    cited : get_or d t 0 ≡ length xs
    most : length xs ≤ format.citations
    cites : NumbersStand d (t + 1) xs

  cites_stand : (t k u : ℕ) (cites : List ℕ) (e : ℕ) → count_at 0 format.citations d t ≡ got k u → repeated (two_bytes_at d) k u ≡ got cites e → CitesStand t cites
  cites_stand t k u cites e first second =
      let count = count_got 0 format.citations d t k u first in
      let size : length cites ≡ k = repeated_length (two_bytes_at d) k u cites e second in
      let few = count_within 0 format.citations d t k u first in
      record {
        counted = count.0;
        cited = count.1 ∙ sym size;
        most = omega arith;
        cites = subst (λ (j : ℕ). NumbersStand d j cites) (sym count.2) (numbers_stand k u cites e second);
      }

  -- The conclusion and the rule, up to t.
  record ConcludedStands (w : Spot) (x : Concluded) (t : ℕ) : Type 0 where
    Y : ConclusionStands d w.conclusion x.Y
    rule : w.rule ≡ x.rule
    after : t ≡ w.cites

  list_concludes : n ≤ format.fluents → (y : ℕ) (Y : Conclusion) (q : ℕ) → list_concluded format n d y ≡ got Y q → ConclusionStands d (Literals y) Y × (q ≡ after_list d y)
  unfolding list_concluded ConclusionStands
  list_concludes few y Y q e =
      after_got (list_at literals n format.listed d y) _ e λ xs i list is.
      (subst (ConclusionStands d (Literals y)) (got_same is) (list_stands few y xs i list), sym (got_place is) ∙ list_after few y xs i list)

  fluent_concludes : n ≤ format.fluents → (y : ℕ) (Y : Conclusion) (q : ℕ) → fluent_concluded format n d y ≡ got Y q → ConclusionStands d (Fluent (get_or d y 0)) Y × (q ≡ y + 1)
  unfolding fluent_concluded ConclusionStands
  fluent_concludes few y Y q e =
      after_got (below_at n d y) _ e λ f i below is.
      let number = number_got n d y f i below in
      let less = number.3 in
      (subst (ConclusionStands d (Fluent (get_or d y 0))) (got_same is) (number.1, omega arith), sym (got_place is) ∙ sym number.2)

  concluded_stands : n ≤ format.fluents → (layout : Layout) (p e : ℕ) (x : Concluded) (t : ℕ) → concluded_at format n d layout e ≡ got x t → ConcludedStands (spot_at layout d p e) x t
  unfolding concluded_at conclusion_at spot_at
  concluded_stands few Plain p e x t is =
      after_got (list_concluded format n d e) _ is λ Y q list is1.
      after_got (byte_at d q) _ is1 λ rule u byte is2.
      let first = list_concludes few e Y q list in
      let second = byte_got d q rule u byte in
      let on = first.1 in let next = second.2 in let end = got_place is2 in
      subst (λ (y : Concluded). ConcludedStands (spot_at Plain d p e) y t) (got_same is2)
      (record { Y = first.0; rule = ap (λ (j : ℕ). get_or d j 0) (sym on) ∙ second.1; after = omega (arith, on, next, end) })
  concluded_stands few Closing p e x t is =
      after_got (byte_at d e) _ is λ rule q byte is1.
      after_got (conclusion_at format n d rule q) _ is1 λ Y u conclusion is2.
      let first = byte_got d e rule q byte in
      let at : q ≡ e + 1 = sym first.2 in
      let end = got_place is2 in
      let kind = ap concludes_fluent first.1 in
      subst (λ (y : Concluded). ConcludedStands (spot_at Closing d p e) y t) (got_same is2)
      (pick-cases (concludes_fluent rule) _ _ conclusion
      (λ yes reads.
      let second = fluent_concludes few (e + 1) Y u (subst (λ (j : ℕ). fluent_concluded format n d j ≡ got Y u) at reads) in
      let on = second.1 in
      subst (λ (w : Spot). ConcludedStands w (record { rule = rule; Y = Y }) t) (sym (spot_fluent d p e (kind ∙ yes)))
      (record { Y = second.0; rule = first.1; after = omega (arith, on, end) }))
      (λ no reads.
      let second = list_concludes few (e + 1) Y u (subst (λ (j : ℕ). list_concluded format n d j ≡ got Y u) at reads) in
      subst (λ (w : Spot). ConcludedStands w (record { rule = rule; Y = Y }) t) (sym (spot_list d p e (kind ∙ no)))
      (record { Y = second.0; rule = first.1; after = sym end ∙ second.1 })))

  -- A line starts with its list X and its plan, in either layout.
  pub record LineParts (p : ℕ) (l : Line) : Type 0 where
    place : l.place ≡ p
    X : ListStands d p l.X
    pub plan : Met (Sequence ℕ)
    pub end : ℕ
    pub reads : plan_at format Flags n m d (after_list d p) ≡ got plan end
    pub is : plan.value ≡ l.c

  -- The rest goes by the layout.
  record LineRead (layout : Layout) (p : ℕ) (l : Line) : Type 0 where
    parts : LineParts p l
    after : ℕ
    ending : ConcludedStands (spot_at layout d p parts.end) (record { rule = l.rule; Y = l.Y }) after
    cited : CitesStand after l.cites

  line_read : n ≤ format.fluents → (layout : Layout) (p : ℕ) (l : Line) → LineHere n m d layout p l → LineRead layout p l
  unfolding line_at
  line_read few layout p l here =
      after_got (list_at literals n format.listed d p) _ here.reads λ X q first is1.
      after_got (plan_at format Flags n m d q) _ is1 λ plan r reads is2.
      after_got (concluded_at format n d layout r) _ is2 λ end t second is3.
      after_got (count_at 0 format.citations d t) _ is3 λ k u count is4.
      after_got (repeated (two_bytes_at d) k u) _ is4 λ cites i numbers is5.
      subst (LineRead layout p) (got_same is5)
      (record {
        parts = record {
          place = refl;
          X = list_stands few p X q first;
          plan = plan;
          end = r;
          reads = subst (λ (j : ℕ). plan_at format Flags n m d j ≡ got plan r) (list_after few p X q first) reads;
          is = refl;
        };
        after = t;
        ending = concluded_stands few layout p r end t second;
        cited = cites_stand t k u cites i count numbers;
      })

  pub line_parts : n ≤ format.fluents → (layout : Layout) (p : ℕ) (l : Line) → LineHere n m d layout p l → LineParts p l
  line_parts few layout p l here = (line_read few layout p l here).parts

  -- Where the plan ends.
  line_ends : (p : ℕ) (l : Line) (w : LineParts p l) → w.end ≡ plan_end l
  unfolding plan_end after_list
  line_ends p l w =
      let after = (plan_ends n m d (after_list d p) w.plan w.end w.reads).0 in
      let bytes : bytes_of Flags w.plan.value ≡ bytes_of Flags l.c = ap (bytes_of Flags) w.is in
      let size = list_size p l.X w.X in
      let place = w.place in
      omega arith

  -- A LINE, where every byte is one.
  module _ (small : (i : ℕ) → get_or d i 0 < 256) (few : n ≤ format.fluents) (less : m ≤ format.actions) where
    pub plan_stands : (q : ℕ) (x : Met (Sequence ℕ)) (e : ℕ) → plan_at format Flags n m d q ≡ got x e → PlanStands d q e x.value
    plan_stands q x e reads =
        let w = plan_coded n m d small less q x e reads in
        record {
          counted = w.there;
          count = w.count;
          few = w.few;
          ends = sym w.after;
          inside = w.inside;
          sized = w.size;
          bytes = w.bytes;
          tellable = w.tellable;
        }

    pub line_stands : (layout : Layout) (p : ℕ) (l : Line) → LineHere n m d layout p l → Stands d (spot_at layout d p (plan_end l)) l
    line_stands layout p l here =
        let w = line_read few layout p l here in
        let v = w.parts in
        let e = v.end in
        let plan = subst (PlanStands d (after_list d p) e) v.is (plan_stands (after_list d p) v.plan e v.reads) in
        let cited = subst (λ (j : ℕ). CitesStand j l.cites) w.ending.after w.cited in
        subst (λ (j : ℕ). Stands d (spot_at layout d p j) l) (line_ends p l v)
        (record {
          place = v.place ∙ sym (spot_line layout d p e);
          X = rw (spot_line layout d p e) v.X;
          plan = rw (spot_line layout d p e, spot_end layout d p e) plan;
          Y = w.ending.Y;
          rule = w.ending.rule;
          counted = cited.counted;
          cited = cited.cited;
          most = cited.most;
          cites = cited.cites;
        })

  -- LINES. Line k stands where slot k says, and its plan ends where slot `plan_ends_slot` + k says.
  module _ (layout : Layout) (places : List ℕ) where
    line_from : (k : ℕ) (ls : List Line) → LinesHere n m d layout places k ls → (i : ℕ) → i < length ls → (other : Line)
        → LineHere n m d layout (get_or places (k + i) 0) (get_or ls i other) × (get_or places (plan_ends_slot + (k + i)) 0 ≡ plan_end (get_or ls i other))
    unfolding LinesHere
    line_from k [] here i h other = absurd (omega (arith, h))
    line_from k (l ∷ ls) here zero h other = let same : k + zero ≡ k = omega arith in rw same (here.0, here.1)
    line_from k (l ∷ ls) here (suc i) h other =
        let same : k + 1 + i ≡ k + suc i = omega arith in
        subst (λ (j : ℕ). LineHere n m d layout (get_or places j 0) (get_or ls i other) × (get_or places (plan_ends_slot + j) 0 ≡ plan_end (get_or ls i other))) same
        (line_from (k + 1) ls here.2 i (omega (arith, h)) other)

    line_there : (ls : List Line) → LinesHere n m d layout places 0 ls → (k : ℕ) → k < length ls → (other : Line)
        → LineHere n m d layout (get_or places k 0) (get_or ls k other) × (get_or places (plan_ends_slot + k) 0 ≡ plan_end (get_or ls k other))
    line_there ls here k h other =
        let same : 0 + k ≡ k = omega arith in
        subst (λ (j : ℕ). LineHere n m d layout (get_or places j 0) (get_or ls k other) × (get_or places (plan_ends_slot + j) 0 ≡ plan_end (get_or ls k other))) same (line_from 0 ls here k h other)

    pub line_number : (ls : List Line) → LinesHere n m d layout places 0 ls → (k : ℕ) → k < length ls → (other : Line) → LineHere n m d layout (get_or places k 0) (get_or ls k other)
    line_number ls here k h other = (line_there ls here k h other).0

    pub lines_stand : (bytes : (i : ℕ) → Fits w8 (get_or d i 0)) → n ≤ format.fluents → m ≤ format.actions → (lines : List Line) → LinesHere n m d layout places 0 lines
        → length d ≤ format.derivation → length lines ≤ format.lines → LinesStand layout d places lines
    lines_stand bytes few less lines here long most =
        record {
          long = long;
          few = most;
          each = λ k h other.
              let there = line_there lines here k h other in
              rw there.1 (line_stands (λ i. (bytes i).fits) few less layout (get_or places k 0) (get_or lines k other) there.0);
        }

  -- A DERIVATION that was settled.
  closing_stands : (layout : Layout) (p : ℕ) (ks : List ℕ) (q : ℕ) → closing_at d layout p ≡ got ks q → ClosingStands layout d p ks
  unfolding closing_at section_at ClosingStands
  closing_stands Plain p ks q e = sym (got_same e)
  closing_stands Closing p ks q e =
      after_got (byte_at d p) _ e λ c i byte numbers.
      let count = byte_got d p c i byte in (
        count.0,
        count.1 ∙ sym (repeated_length (two_bytes_at d) c i ks q numbers),
        subst (λ (j : ℕ). NumbersStand d j ks) (sym count.2) (numbers_stand c i ks q numbers),
      )

  record Counted (layout : Layout) (x : Derivation) : Type 0 where
    there : 1 < length d
    count : get_or d 0 0 * 256 + get_or d 1 0 ≡ length x.lines
    some : 1 ≤ length x.lines
    few : length x.lines ≤ format.lines
    long : length d ≤ format.derivation
    closing : ClosingStands layout d x.closing_place x.closing

  counted : (layout : Layout) (x : Derivation) (e : ℕ) → read_derivation format n m d layout ≡ got x e → Counted layout x
  unfolding read_derivation
  counted layout x e is =
      let u = not_refused _ _ _ _ is in
      after_got (two_bytes_at d 0) _ u.1 λ c p two is1.
      let v = not_refused _ _ _ _ is1 in
      after_got (repeated (line_at format n m d layout) c p) _ v.1 λ ls q repeats is2.
      after_got (closing_at d layout q) _ is2 λ ks i closes is3.
      let w = not_refused _ _ _ _ is3 in
      let number = (two_is d 0).holds c p two in
      let size : length ls ≡ c = repeated_length (line_at format n m d layout) c p ls q repeats in
      let most : c ≤ format.lines = ltb-false format.lines c (by-test _ (λ t. clash (either_right _ _ t) v.0) (λ f. f)) in
      let least : 1 ≤ c = ltb-false c 1 (by-test _ (λ t. clash (either_left _ _ t) v.0) (λ f. f)) in
      subst (Counted layout) (got_same w.1)
      (record {
        there = number.there;
        count = number.is ∙ sym size;
        some = omega (arith, least, size);
        few = omega (arith, most, size);
        long = ltb-false format.derivation (length d) u.0;
        closing = closing_stands layout q ks i closes;
      })

  read_as : (layout : Layout) (t places : List ℕ) (x : Derivation) (e : ℕ) → read_derivation format n m d layout ≡ got x e → places ≡ derivation_noted x t → (r : Passed) → r ≡ Ok e
      → outcome r places ≡ noting derivation_noted (read_derivation format n m d layout) t
  unfolding outcome noting next
  read_as layout t places x e whole put r is = rw (is, whole, put) refl

  pub derived_whole : (layout : Layout) (t places : List ℕ) (r : Passed) → outcome r places ≡ noting derivation_noted (settled_derivation layout n m d) t → (e : ℕ) → r ≡ Ok e → length t ≡ places_slots → SomeDerived layout n m d places e
  unfolding settled_derivation
  derived_whole layout t places r read e is long =
      let w = noting_got derivation_noted (settled_derivation layout n m d) r t places read e is in
      let x = w.0 in
      after_got (read_derivation format n m d layout) _ w.1 λ y q reads is1.
      let clear = refuse_got _ _ _ is1 in
      let same : y ≡ x = got_same clear.1 in
      let whole : read_derivation format n m d layout ≡ got x e = reads ∙ clear.1 in
      let size = counted layout x e whole in
      let here = derived_here n m d layout t places r (read_as layout t places x e whole w.2 r is) e is long in
      let it : here.derivation ≡ x = got_same (sym here.reads ∙ whole) in
      record {
        derivation = x;
        derived = record {
          settles = w.1;
          reads = whole;
          clear = subst (λ (z : Derivation). overlap_in_lines z.lines ≡ nowhere) same clear.0;
          here = subst (λ (z : Derivation). LinesHere n m d layout places 0 z.lines) it here.here;
          there = size.there;
          count = size.count;
          some = size.some;
          few = size.few;
          long = size.long;
          closes = here.closes ∙ ap (λ (z : Derivation). z.closing_place) it;
          closing = size.closing;
        };
      }

  module _ (layout : Layout) (places : List ℕ) (x : Derivation) (e : ℕ) (here : Derived layout n m d places x e) (count : ℕ) (is : count ≡ get_or d 0 0 * 256 + get_or d 1 0) where
    pub derived_count : length x.lines ≡ count
    derived_count = sym (is ∙ here.count)

    pub derived_stand : (bytes : (i : ℕ) → Fits w8 (get_or d i 0)) → n ≤ format.fluents → m ≤ format.actions → LinesStand layout d places x.lines
    derived_stand bytes few less = lines_stand layout places bytes few less x.lines here.here here.long here.few

  -- Whatever derivation this is, the first two bytes are there and say how many lines it has.
  module _ (layout : Layout) (places : List ℕ) (e : ℕ) (some : SomeDerived layout n m d places e) where
    here : Derived layout n m d places some.derivation e
    here = some.derived

    pub count_first : 0 < length d
    count_first = let there = here.there in omega arith

    pub count_second : 1 < length d
    count_second = here.there

    module _ (count : ℕ) (is : count ≡ get_or d 0 0 * 256 + get_or d 1 0) where
      same : length some.derivation.lines ≡ count
      same = derived_count layout places some.derivation e here count is

      pub derived_least : 1 ≤ count
      derived_least = let least = here.some in let size = same in omega arith
