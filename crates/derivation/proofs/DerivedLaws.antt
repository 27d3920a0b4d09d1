-- Refusal 18 over the plans of a derivation's lines: each line stands where its slot says, its plan after its X, and what is left of a search
-- among the lines is a search among those after. Assumes nothing.
use Prim.Native.Nat.{ℕ, zero, suc, ◌+◌, ◌-◌, ◌*◌, ◌≤◌, ◌<◌}
use native.Mathlib.Omega.{arith}
use mathlib.Core.Path.{◌≡◌, refl, sym, ◌∙◌, ap, subst}
use mathlib.Core.List.{List, [], ◌∷◌}
use lib.ListN.{length, get_or, set, length-set}
use lib.Seq.{get_or-set_same}
use borrow.Author.Tests.{ltb-false}
use Rattle.std.specs.Prelude.{Option, None, Some}
use Rattle.std.specs.Prelude.{Ok, Err}
use Rattle.parsing.specs.Read.{Numbered, Passed, stopped}
use Rattle.parsing.specs.declared.faults.Fault.{Fault}
use Rattle.parsing.specs.declared.faults.Refusal.TheVariants.{NotExclusive}
use Rattle.meaning.specs.declared.Layout.{Layout}
use Rattle.meaning.specs.Limits.{format, all_literals}
use Rattle.meaning.specs.Requests.{Sequence, Request}
use Rattle.meaning.specs.declared.Form.TheVariants.{Flags}
use Rattle.meaning.specs.Reading.{Got, got, next, Met, literals, two_bytes_at, count_at, bound_of, list_at, repeated, plan_at}
use Rattle.meaning.specs.Refusals
use Rattle.meaning.specs.Refusals.{nowhere, at, or_else, overlap_in, refuse}
use Rattle.meaning.specs.Derivations.{Line, Derivation, concluded_at, closing_at, line_at, read_derivation, overlap_in_lines, check_lines, check_end, check_derivation}
use Rattle.meaning.proofs.TestLaws.{by-test, clash, either_right}
use Rattle.meaning.proofs.SettledLaws.{fault≢got, got_same}
use Rattle.meaning.proofs.RangeLaws.{not_refused, after_got, repeated_length}
use Rattle.reading.specs.Noted.{noting, outcome, slots}
use Rattle.reading.specs.Listed.{ListHere}
use Rattle.reading.specs.Planned.{plan_noted, noting_met, outcome_met}
use Rattle.finding.specs.Places.{found}
use Rattle.finding.specs.Branches.{sequence_place}
use Rattle.finding.specs.PlansHeld.{SomePlan}
use Rattle.parsing.proofs.LineReaderLaws.{counted_flags}
use Rattle.refusing.specs.Refusal18.{OverlapFound}
use Rattle.derivation.specs.DerivationRead.{plan_end, places_noted, derivation_noted, settled_derivation, plan_ends_slot, lines_end, places_slots}
use Rattle.derivation.specs.Derived.{LineHere, LinesHere, SomeLines, DerivationHere, LineFound, LinesFound}
use Rattle.reading.proofs.SectionLaws.{noting_got, noting_fault}
use Rattle.reading.proofs.PlanSizes.{list_through}
use Rattle.reading.proofs.RequestLaws.{next_next, next_same}
use Rattle.reading.proofs.NotingLaws.{met_fault, fault_met}
use Rattle.finding.proofs.HereLaws.{list_here}
use Rattle.finding.proofs.KeptLaws.{kept}
use Rattle.finding.proofs.PlanHere.{listed_length}
use Rattle.derivation.proofs.DerivationLaws.{line_place}
use Rattle.finding.proofs.WrittenLaws.{two_is, plan_left}
use Rattle.refusing.proofs.PlanOverlaps.{overlap_left}
use Rattle.finding.proofs.FoundLaws.{found_none, found_at}

module _ (n m : ℕ) (s : List ℕ) where
  -- THE PLAN OF A LINE stands after its X.
  record LinePlan (p : ℕ) (l : Line) : Type 0 where
    first : ListHere all_literals s p
    plan : Met (Sequence ℕ)
    end : ℕ
    reads : plan_at format Flags n m s (sequence_place Flags s p) ≡ got plan end
    is : plan.value ≡ l.c

  line_plan : n ≤ format.fluents → (layout : Layout) (p : ℕ) (l : Line) → LineHere n m s layout p l → LinePlan p l
  unfolding line_at sequence_place bound_of
  line_plan few layout p l here =
      after_got (list_at literals n format.listed s p) _ here.reads λ X q first is1.
      after_got (plan_at format Flags n m s q) _ is1 λ plan r reads is2.
      after_got (concluded_at format n s layout r) _ is2 λ end t _ is3.
      after_got (count_at 0 format.citations s t) _ is3 λ k u _ is4.
      after_got (repeated (two_bytes_at s) k u) _ is4 λ cites i _ is5.
      let list = list_here literals n s format.listed p X q first in
      let after = ((list_through s literals n format.listed p).holds X q first).after in
      let size : get_or s p 0 ≡ length X = sym (listed_length s p) ∙ ap length list.0 in
      let place : q ≡ p + 1 + get_or s p 0 = omega arith in
      record {
        first = list.1 all_literals (omega arith);
        plan = plan;
        end = r;
        reads = subst (λ (j : ℕ). plan_at format Flags n m s j ≡ got plan r) place reads;
        is = ap (λ (x : Line). x.c) (got_same is5);
      }

  module _ (few : n ≤ format.fluents) (less : m ≤ format.actions) (plan : ℕ) (t u : List ℕ) (r : Numbered) (read : outcome_met r u ≡ noting_met (plan_noted Flags plan t) (plan_at format Flags n m s plan)) where
    pub line_held : (count e : ℕ) → length t ≡ slots → r ≡ Ok (count, e) → SomePlan Flags s u count
    line_held count e room is = plan_left Flags n m s few less (counted_flags s) plan t u r count e (omega arith) read is

    module _ (p : ℕ) (after : plan ≡ sequence_place Flags s p) where
      there : (l : Line) → (w : LinePlan p l) → plan_at format Flags n m s plan ≡ got w.plan w.end
      there l w = ap (plan_at format Flags n m s) after ∙ w.reads

      pub line_sought : (count e : ℕ) (f : Option ℕ) → length t ≡ slots → r ≡ Ok (count, e) → OverlapFound Flags s u count f → LineFound n m s p f
      line_sought count e f room is all =
          record {
            holds = λ layout l here.
                let w = line_plan few layout p l here in
                overlap_left n m s few less plan t u r count e (omega arith) read is f all w.plan w.end (there l w)
                ∙ ap (λ (b : Sequence ℕ). found (overlap_in b)) w.is;
          }

      -- A plan that stands there is read without a fault.
      pub line_read : (why : Fault) → r ≡ Err why → LineFound n m s p None
      line_read why is =
          record {
            holds = λ layout l here.
                let no : plan_at format Flags n m s plan ≡ stopped why = fault_met (plan_noted Flags plan t) (plan_at format Flags n m s plan) why (met_fault (plan_noted Flags plan t) (plan_at format Flags n m s plan) r u why read is) in
                absurd (fault≢got (sym no ∙ there l (line_plan few layout p l here)));
          }

  -- THE LOOP. Of whatever lines stand there, those from number k on hold the first overlap.
  pub record Rest (layout : Layout) (places : List ℕ) (count k : ℕ) (ls : List Line) : Type 0 where
    pub lines : List Line
    pub here : LinesHere n m s layout places k lines
    pub size : length lines ≡ count - k
    pub same : overlap_in_lines ls ≡ overlap_in_lines lines

  pub record Sought (places : List ℕ) (count k : ℕ) : Type 0 where
    pub holds : (layout : Layout) (ls : List Line) → LinesHere n m s layout places 0 ls → length ls ≡ count → Rest layout places count k ls

  module _ (places : List ℕ) (count : ℕ) where
    pub sought_start : Sought places count 0
    sought_start = record { holds = λ layout ls here size. record { lines = ls; here = here; size = omega (arith, size); same = refl } }

    module _ (k : ℕ) (so_far : Sought places count k) where
      pub sought_done : count ≤ k → LinesFound n m s places count None
      unfolding overlap_in_lines found
      sought_done h = record { holds = λ layout ls here size. let rest = so_far.holds layout ls here size in none ls rest.lines (omega (arith, h, rest.size)) rest.same }
        where
          none : (ls rest : List Line) → length rest ≡ 0 → overlap_in_lines ls ≡ overlap_in_lines rest → None ≡ found (overlap_in_lines ls)
          none ls [] h same = rw same
          none ls (l ∷ rest) h same = absurd (omega (arith, h))

      -- The line with number k.
      module _ (more : k < count) where
        record Next (layout : Layout) (ls : List Line) : Type 0 where
          line : Line
          rest : List Line
          first : LineHere n m s layout (get_or places k 0) line
          then : LinesHere n m s layout places (k + 1) rest
          size : length rest ≡ count - (k + 1)
          same : overlap_in_lines ls ≡ or_else (overlap_in line.c) (λ _. overlap_in_lines rest)

        next_line : (layout : Layout) (ls : List Line) → LinesHere n m s layout places 0 ls → length ls ≡ count → Next layout ls
        unfolding LinesHere overlap_in_lines
        next_line layout ls here size = let rest = so_far.holds layout ls here size in split ls rest.lines rest.here rest.size rest.same
          where
            split : (ls lines : List Line) → LinesHere n m s layout places k lines → length lines ≡ count - k → overlap_in_lines ls ≡ overlap_in_lines lines → Next layout ls
            split ls [] here size same = absurd (omega (arith, more, size))
            split ls (l ∷ rest) here size same = record { line = l; rest = rest; first = here.0; then = here.2; size = omega (arith, more, size); same = same }

        module _ (p : ℕ) (place : p ≡ get_or places k 0) where
          pub line_list : n ≤ format.fluents → SomeLines n m s places count → ListHere all_literals s p
          line_list few some =
              let w = next_line some.layout some.lines some.here some.size in
              subst (ListHere all_literals s) (sym place) (line_plan few some.layout (get_or places k 0) w.line w.first).first

          module _ (f : Option ℕ) (answer : LineFound n m s p f) where
            first_found : (layout : Layout) (l : Line) → LineHere n m s layout (get_or places k 0) l → f ≡ found (overlap_in l.c)
            first_found layout l here = answer.holds layout l (subst (λ (j : ℕ). LineHere n m s layout j l) (sym place) here)

            pub sought_next : f ≡ None → Sought places count (k + 1)
            unfolding or_else
            sought_next is =
                record {
                  holds = λ layout ls here size.
                      let w = next_line layout ls here size in
                      let none : overlap_in w.line.c ≡ nowhere = found_none (overlap_in w.line.c) f (first_found layout w.line w.first) is in
                      record { lines = w.rest; here = w.then; size = w.size; same = w.same ∙ rw none };
                }

            pub sought_at : (q : ℕ) → f ≡ Some q → LinesFound n m s places count (Some q)
            unfolding or_else found
            sought_at q is =
                record {
                  holds = λ layout ls here size.
                      let w = next_line layout ls here size in
                      let here_at : overlap_in w.line.c ≡ at q = found_at (overlap_in w.line.c) f (first_found layout w.line w.first) q is in
                      rw (w.same, here_at);
                }

-- THE PLACES, as they were noted from number k on. Slots of other lines are left alone.
places_kept : (k : ℕ) (ls : List Line) (t : List ℕ) (j : ℕ) → k + length ls ≤ format.lines → ((i : ℕ) → k ≤ i → i < format.lines → (j ≡ i → ⊥) × (j ≡ plan_ends_slot + i → ⊥)) → get_or (places_noted k ls t) j 0 ≡ get_or t j 0
unfolding places_noted
places_kept k [] t j h apart = refl
places_kept k (l ∷ ls) t j h apart =
    let own = apart k (omega arith) (omega (arith, h)) in
    places_kept (k + 1) ls (set (set t k l.place) (plan_ends_slot + k) (plan_end l)) j (omega (arith, h)) (λ i least most. apart i (omega (arith, least)) most)
    ∙ kept (set t k l.place) (plan_ends_slot + k) j (plan_end l) own.1
    ∙ kept t k j l.place own.0

places_long : (k : ℕ) (ls : List Line) (t : List ℕ) → length (places_noted k ls t) ≡ length t
unfolding places_noted
places_long k [] t = refl
places_long k (l ∷ ls) t =
    places_long (k + 1) ls (set (set t k l.place) (plan_ends_slot + k) (plan_end l)) ∙ length-set (set t k l.place) (plan_ends_slot + k) (plan_end l) ∙ length-set t k l.place

module _ (n m : ℕ) (s : List ℕ) (layout : Layout) where
  -- Whatever stands in slot `lines_end`.
  lines_placed : (left p k : ℕ) (ls : List Line) (e : ℕ) (t u : List ℕ) → repeated (line_at format n m s layout) left p ≡ got ls e → k + left ≤ format.lines → length t ≡ places_slots
      → ((j : ℕ) → j < lines_end → get_or u j 0 ≡ get_or (places_noted k ls t) j 0) → LinesHere n m s layout u k ls
  unfolding repeated places_noted LinesHere
  lines_placed zero p k ls e t u is few long same = subst (LinesHere n m s layout u k) (got_same is) tt
  lines_placed (suc left) p k ls e t u is few long same =
      after_got (line_at format n m s layout p) _ is λ l q first is1.
      after_got (repeated (line_at format n m s layout) left q) _ is1 λ rest r more is2.
      let one : List ℕ = set t k l.place in
      let two : List ℕ = set one (plan_ends_slot + k) (plan_end l) in
      let size : length rest ≡ left = repeated_length (line_at format n m s layout) left q rest r more in
      let long_one : length one ≡ length t = length-set t k l.place in
      let long_two : length two ≡ length one = length-set one (plan_ends_slot + k) (plan_end l) in
      let agrees : (j : ℕ) → j < lines_end → get_or u j 0 ≡ get_or (places_noted (k + 1) rest two) j 0 = subst (λ (xs : List Line). (j : ℕ) → j < lines_end → get_or u j 0 ≡ get_or (places_noted k xs t) j 0) (sym (got_same is2)) same in
      let starts : get_or u k 0 ≡ p =
      agrees k (omega (arith, few))
      ∙ places_kept (k + 1) rest two k (omega (arith, few, size)) (λ i least most. (λ f. omega (arith, f, least), λ f. omega (arith, f, least)))
      ∙ kept one (plan_ends_slot + k) k (plan_end l) (λ f. omega (arith, f))
      ∙ get_or-set_same t k l.place 0 (omega (arith, few, long))
      ∙ line_place layout n m s p l q first in
      let ends : get_or u (plan_ends_slot + k) 0 ≡ plan_end l =
      agrees (plan_ends_slot + k) (omega (arith, few))
      ∙ places_kept (k + 1) rest two (plan_ends_slot + k) (omega (arith, few, size)) (λ i least most. (λ f. omega (arith, f, most), λ f. omega (arith, f, least)))
      ∙ get_or-set_same one (plan_ends_slot + k) (plan_end l) 0 (omega (arith, few, long, long_one)) in
      subst (LinesHere n m s layout u k) (got_same is2) (
        subst (λ (j : ℕ). LineHere n m s layout j l) (sym starts) (record { end = q; reads = first }),
        ends,
        lines_placed left q (k + 1) rest r two u more (omega (arith, few)) (long_two ∙ long_one ∙ long) agrees,
      )

  -- THE PARTS of a derivation that was read.
  record Parts (d : Derivation) : Type 0 where
    short : length s ≤ format.derivation
    there : 1 < length s
    count : get_or s 0 0 * 256 + get_or s 1 0 ≡ length d.lines
    most : length d.lines ≤ format.lines
    start : ℕ
    repeats : repeated (line_at format n m s layout) (length d.lines) start ≡ got d.lines d.closing_place

  parts : (d : Derivation) (e : ℕ) → read_derivation format n m s layout ≡ got d e → Parts d
  unfolding read_derivation
  parts d e is =
      let u = not_refused _ _ _ _ is in
      after_got (two_bytes_at s 0) _ u.1 λ c p two is1.
      let v = not_refused _ _ _ _ is1 in
      after_got (repeated (line_at format n m s layout) c p) _ v.1 λ ls q repeats is2.
      after_got (closing_at s layout q) _ is2 λ closing i _ is3.
      let w = not_refused _ _ _ _ is3 in
      let number = (two_is s 0).holds c p two in
      let size : length ls ≡ c = repeated_length (line_at format n m s layout) c p ls q repeats in
      let few : c ≤ format.lines = ltb-false format.lines c (by-test _ (λ t. clash (either_right _ _ t) v.0) (λ f. f)) in
      subst Parts (got_same w.1)
      (record {
        short = ltb-false format.derivation (length s) u.0;
        there = number.there;
        count = number.is ∙ sym size;
        most = omega (arith, few, size);
        start = p;
        repeats = subst (λ (j : ℕ). repeated (line_at format n m s layout) j p ≡ got ls q) (sym size) repeats;
      })

  -- SETTLED.
  module _ (t u : List ℕ) (all : Passed) (read : outcome all u ≡ noting derivation_noted (read_derivation format n m s layout) t) where
    pub derived_fault : (why : Fault) (v : List ℕ) → all ≡ Err why → outcome (Err why) v ≡ noting derivation_noted (settled_derivation layout n m s) t
    unfolding settled_derivation noting next outcome
    derived_fault why v is = rw (noting_fault derivation_noted (read_derivation format n m s layout) all t u read why is)

    module _ (e : ℕ) (is : all ≡ Ok e) where
      read_got : (d : Derivation) × (read_derivation format n m s layout ≡ got d e) × (u ≡ derivation_noted d t)
      read_got = noting_got derivation_noted (read_derivation format n m s layout) all t u read e is

      whole : Parts read_got.0
      whole = parts read_got.0 e read_got.1

      -- Both bytes of the count are there.
      pub count_first : 0 < length s
      count_first = let there = whole.there in omega arith

      pub count_second : 1 < length s
      count_second = whole.there

      pub derivation_short : length s ≤ format.derivation
      derivation_short = whole.short

      lines_there : length t ≡ places_slots → LinesHere n m s layout u 0 read_got.0.lines
      unfolding derivation_noted
      lines_there long =
          let d = read_got.0 in
          let few = whole.most in
          lines_placed (length d.lines) whole.start 0 d.lines d.closing_place t u whole.repeats (omega (arith, few)) long
          (λ j h. ap (λ (v : List ℕ). get_or v j 0) read_got.2 ∙ kept (places_noted 0 d.lines t) lines_end j d.closing_place (λ f. omega (arith, f, h)))

      pub derived_here : length t ≡ places_slots → DerivationHere n m s layout u e
      unfolding derivation_noted
      derived_here long =
          let d = read_got.0 in
          let size = places_long 0 d.lines t in
          record {
            derivation = d;
            reads = read_got.1;
            here = lines_there long;
            closes = ap (λ (v : List ℕ). get_or v lines_end 0) read_got.2 ∙ get_or-set_same (places_noted 0 d.lines t) lines_end d.closing_place 0 (omega (arith, long, size));
          }

      -- 18.
      module _ (count : ℕ) (counts : count ≡ get_or s 0 0 * 256 + get_or s 1 0) where
        counted : length read_got.0.lines ≡ count
        counted = sym (counts ∙ whole.count)

        pub lines_few : count ≤ format.lines
        lines_few = let few = whole.most in let c = counted in omega arith

        pub lines_stand : length t ≡ places_slots → SomeLines n m s u count
        lines_stand long = record { layout = layout; lines = read_got.0.lines; here = lines_there long; size = counted }

        module _ (long : length t ≡ places_slots) (f : Option ℕ) (answer : LinesFound n m s u count f) where
          sought_18 : f ≡ found (overlap_in_lines read_got.0.lines)
          sought_18 = answer.holds layout read_got.0.lines (lines_there long) counted

          pub lines_at_18 : (p : ℕ) → f ≡ Some p → (why : Fault) → why ≡ record { refusal = NotExclusive; place = p } → outcome (Err why) u ≡ noting derivation_noted (settled_derivation layout n m s) t
          unfolding settled_derivation noting next refuse outcome
          lines_at_18 p g why is-why = rw (is-why, read_got.1, found_at (overlap_in_lines read_got.0.lines) f sought_18 p g)

          pub lines_past_18 : f ≡ None → outcome (Ok e) u ≡ noting derivation_noted (settled_derivation layout n m s) t
          unfolding settled_derivation noting next refuse outcome
          lines_past_18 g = rw (read_got.1, found_none (overlap_in_lines read_got.0.lines) f sought_18 g) (ap (λ (v : List ℕ). got v e) read_got.2)

-- CHECKING a derivation begins so, and goes on with the lines that were settled.
refuse_next : {A B : Type 0} (number : ℕ) (f : Refusals.Found) (x : A) (e : ℕ) (k : A → ℕ → Got B) → refuse number f (λ _. k x e) ≡ next (refuse number f (λ _. got x e)) k
unfolding refuse next
refuse_next number nowhere x e k = refl
refuse_next number (at p) x e k = refl

pub check_begins : (layout : Layout) (r : Request) (s : List ℕ)
    → check_derivation format layout r s ≡ next (settled_derivation layout r.table.fluents r.table.actions s) (λ d _. next (check_lines format layout r.table d.lines 0 d.lines) (λ _ _. check_end layout r d))
unfolding check_derivation settled_derivation
check_begins layout r s =
    next_same (read_derivation format r.table.fluents r.table.actions s layout) (λ d e. refuse_next 18 (overlap_in_lines d.lines) d e (λ x _. next (check_lines format layout r.table x.lines 0 x.lines) (λ _ _. check_end layout r x)))
    ∙ sym (next_next (read_derivation format r.table.fluents r.table.actions s layout) _ _)
