-- The fluents that an action senses, one after another, and the readings of them: what the whole gives is what those from fluent f up give. Assumes nothing.
use Prim.Native.Nat.{ℕ, suc, ◌+◌, ◌-◌, ◌≤◌, ◌<◌}
use native.Mathlib.Omega.{arith}
use mathlib.Core.Path.{◌≡◌, refl, sym, ◌∙◌, ap}
use mathlib.Core.Bool.{Bool, true, false}
use mathlib.Core.List.{List, [], ◌∷◌, ◌++◌, append-nil}
use lib.ListN.{length, get_or, set, take, drop, replicate, take-append-drop, length-set, length-replicate}
use lib.Seq.{length-take-le, append_snoc, take-suc-set, drop-cons, drop-set-lt}
use lib.Dec.{eqb}
use borrow.Author.Tests.{eq-eqb, ne_eqb}
use Rattle.meaning.specs.Tests.{either, pick, some_of}
use Rattle.meaning.specs.Limits.{format}
use Rattle.meaning.specs.Literals.{fluent_of, complement}
use Rattle.meaning.specs.Requests.{Table}
use Rattle.meaning.specs.Lines.{knowledge_of, senses}
use Rattle.meaning.specs.States.{State, mark_of, known, told, told_all}
use Rattle.meaning.proofs.TestLaws.{by-test, pick_true, pick_false}
use Rattle.meaning.proofs.LiteralLaws.{fluent_true, fluent_false, fluent_complement}
use Rattle.meaning.proofs.StateLaws.{mark_true, mark_false}
use Rattle.reading.proofs.MarkLaws.{mark_most, mark_other}
use Rattle.steps.specs.AtHand.{Marked}
use Rattle.steps.proofs.LookLaws.{marked_set}
use Rattle.guidance.specs.Guides.{sensed_from, sensed, literal_read, literals_read, against}
use Rattle.guide.specs.declared.sensed.Fluents.{Fluents}
use Rattle.guide.specs.GuideHeld.{fluents_of}

-- ONE READING.
pub read_no : (byte : ℕ) → byte ≡ 0 → 2 ≡ mark_of (literal_read 0 byte)
unfolding literal_read
read_no byte none = sym (ap mark_of (pick_true _ _ _ (eq-eqb _ _ none)) ∙ mark_false 0)

pub read_yes : (byte : ℕ) → (byte ≡ 0 → ⊥) → 1 ≡ mark_of (literal_read 0 byte)
unfolding literal_read
read_yes byte some = sym (ap mark_of (pick_false _ _ _ (ne_eqb _ _ some)) ∙ mark_true 0)

-- Its literal is one of its fluent, and its mark is that of any other fluent.
module _ (f byte : ℕ) where
  read_fluent : fluent_of (literal_read f byte) ≡ f
  unfolding literal_read
  read_fluent = by-test (eqb byte 0) (λ e. ap fluent_of (pick_true _ _ _ e) ∙ fluent_false f) (λ e. ap fluent_of (pick_false _ _ _ e) ∙ fluent_true f)

  read_mark : mark_of (literal_read 0 byte) ≡ mark_of (literal_read f byte)
  unfolding literal_read
  read_mark =
      by-test (eqb byte 0)
      (λ e. ap mark_of (pick_true _ _ _ e) ∙ mark_false 0 ∙ sym (ap mark_of (pick_true _ _ _ e) ∙ mark_false f))
      (λ e. ap mark_of (pick_false _ _ _ e) ∙ mark_true 0 ∙ sym (ap mark_of (pick_false _ _ _ e) ∙ mark_true f))

  read_told : (marks : State) → told (literal_read f byte) marks ≡ set marks f (mark_of (literal_read 0 byte))
  unfolding told
  read_told marks = rw (read_fluent, read_mark)

  read_against : (marks : State) → known marks (complement (literal_read f byte)) ≡ eqb (get_or marks f 0) (3 - mark_of (literal_read 0 byte))
  unfolding known
  read_against marks = rw (fluent_complement (literal_read f byte), read_fluent, mark_other (literal_read f byte), read_mark)

-- THE SENSED FLUENTS from f up.
unfoldable pub sensed_left : Table → (action f : ℕ) → List ℕ
sensed_left t a f = sensed_from (knowledge_of t a) f (format.fluents - f)

module _ (t : Table) (a : ℕ) where
  sensed_all : sensed format t a ≡ sensed_left t a 0
  unfolding sensed sensed_left
  sensed_all = refl

  module _ (f : ℕ) where
    sensed_step : f < format.fluents → sensed_left t a f ≡ pick (senses (knowledge_of t a) f) (λ _. f ∷ sensed_left t a (f + 1)) (λ _. sensed_left t a (f + 1))
    unfolding sensed_left sensed_from
    sensed_step near = let left : format.fluents - f ≡ suc (format.fluents - (f + 1)) = omega arith in rw left

    sensed_here : f < format.fluents → senses (knowledge_of t a) f ≡ true → sensed_left t a f ≡ f ∷ sensed_left t a (f + 1)
    sensed_here near some = sensed_step near ∙ pick_true _ _ _ some

    sensed_not : f < format.fluents → senses (knowledge_of t a) f ≡ false → sensed_left t a f ≡ sensed_left t a (f + 1)
    sensed_not near none = sensed_step near ∙ pick_false _ _ _ none

    sensed_none : format.fluents ≤ f → sensed_left t a f ≡ []
    unfolding sensed_left sensed_from
    sensed_none far = let none : format.fluents - f ≡ 0 = omega arith in rw none

-- GATHERED. The first so many of the row are those below f, and behind them the row is as it was.
pub record SensedRow (t : Table) (a : ℕ) (row : List ℕ) (count f : ℕ) : Type 0 where
  pub sized : length row ≡ format.fluents
  pub most : f ≤ format.fluents
  pub few : count ≤ f
  pub same : sensed format t a ≡ take count row ++ sensed_left t a f
  pub blank : drop count row ≡ replicate (format.fluents - count) 0

pub row_starts : (t : Table) (a : ℕ) → SensedRow t a (replicate format.fluents 0) 0 0
row_starts t a = record { sized = length-replicate {A = ℕ} format.fluents 0; most = omega arith; few = omega arith; same = sensed_all t a; blank = refl }

module _ (t : Table) (a : ℕ) (row : List ℕ) (count f : ℕ) (holds : SensedRow t a row count f) where
  module _ (near : f < format.fluents) (there : Bool) (is : there ≡ senses (knowledge_of t a) f) where
    pub row_kept : there ≡ false → SensedRow t a row count (f + 1)
    row_kept none = record {
      sized = holds.sized;
      most = omega arith;
      few = let few = holds.few in omega arith;
      same = holds.same ∙ ap (λ (fs : List ℕ). take count row ++ fs) (sensed_not t a f near (sym is ∙ none));
      blank = holds.blank;
    }

    -- Behind the place that is written.
    one_behind : drop (count + 1) (set row count f) ≡ replicate (format.fluents - (count + 1)) 0
    one_behind =
        let few = holds.few in
        let sized = holds.sized in
        let up : count + 1 ≡ suc count = omega arith in
        let left : format.fluents - count ≡ suc (format.fluents - (count + 1)) = omega arith in
        drop-set-lt (count + 1) row count f (omega arith)
        ∙ ap (λ (n : ℕ). drop n row) up
        ∙ ap (drop 1) (sym (drop-cons row count 0 (omega arith)) ∙ holds.blank ∙ ap (λ (n : ℕ). replicate n 0) left)

    pub row_more : there ≡ true → SensedRow t a (set row count f) (count + 1) (f + 1)
    row_more some =
        let few = holds.few in
        let sized = holds.sized in
        let up : count + 1 ≡ suc count = omega arith in
        let held : take (count + 1) (set row count f) ≡ take count row ++ (f ∷ []) = ap (λ (n : ℕ). take n (set row count f)) up ∙ take-suc-set row count f (omega arith) in
        record {
          sized = length-set row count f ∙ holds.sized;
          most = omega arith;
          few = omega arith;
          same = holds.same
              ∙ ap (λ (fs : List ℕ). take count row ++ fs) (sensed_here t a f near (sym is ∙ some))
              ∙ sym (append_snoc (take count row) f (sensed_left t a (f + 1)))
              ∙ ap (λ (fs : List ℕ). fs ++ sensed_left t a (f + 1)) (sym held);
          blank = one_behind;
        }

  module _ (far : format.fluents ≤ f) where
    row_is : take count row ≡ sensed format t a
    row_is = sym (holds.same ∙ ap (λ (fs : List ℕ). take count row ++ fs) (sensed_none t a f far) ∙ append-nil (take count row))

    row_counts : count ≡ length (sensed format t a)
    row_counts =
        let few = holds.few in
        let sized = holds.sized in
        let most = holds.most in
        sym (length-take-le count row (omega arith)) ∙ ap length row_is

    pub row_told : record { count = count; row = row } ≡ fluents_of (sensed format t a)
    unfolding fluents_of
    row_told =
        ap (λ (l : List ℕ). record { count = count; row = l }) (sym (take-append-drop count row) ∙ ap (λ (l : List ℕ). take count row ++ l) holds.blank ∙ ap (λ (l : List ℕ). l ++ replicate (format.fluents - count) 0) row_is)
        ∙ ap (λ (n : ℕ). record { count = n; row = sensed format t a ++ replicate (format.fluents - n) 0 }) row_counts

pub none_told : record { count = 0; row = replicate format.fluents 0 } ≡ fluents_of []
unfolding fluents_of
none_told = refl

-- As many as are told.
pub told_count : (r : Fluents) (fs : List ℕ) → r ≡ fluents_of fs → (n : ℕ) → n ≡ r.count → n ≡ length fs
unfolding fluents_of
told_count r fs is n same = same ∙ ap (λ (x : Fluents). x.count) is

-- READINGS, one for each sensed fluent. Those that are left are of the fluents from f up.
pub record ReadingsLeft (t : Table) (a : ℕ) (readings : List ℕ) (i f : ℕ) : Type 0 where
  pub most : f ≤ format.fluents
  pub few : i ≤ f
  pub number : length readings ≡ i + length (sensed_left t a f)

unfoldable pub literals_left : Table → (action : ℕ) → (readings : List ℕ) → (i f : ℕ) → List ℕ
literals_left t a readings i f = literals_read (sensed_left t a f) (drop i readings)

module _ (t : Table) (a : ℕ) (readings : List ℕ) where
  left_starts : length readings ≡ length (sensed format t a) → ReadingsLeft t a readings 0 0
  left_starts each = let all : length (sensed format t a) ≡ length (sensed_left t a 0) = ap length (sensed_all t a) in record { most = omega arith; few = omega arith; number = omega (arith, each, all) }

  literals_all : literals_read (sensed format t a) readings ≡ literals_left t a readings 0 0
  unfolding literals_left
  literals_all = ap (λ (fs : List ℕ). literals_read fs readings) (sensed_all t a)

  module _ (i f : ℕ) where
    literals_none : format.fluents ≤ f → literals_left t a readings i f ≡ []
    unfolding literals_left literals_read
    literals_none far = rw (sensed_none t a f far)

    module _ (left : ReadingsLeft t a readings i f) (near : f < format.fluents) (there : Bool) (is : there ≡ senses (knowledge_of t a) f) where
      left_kept : there ≡ false → ReadingsLeft t a readings i (f + 1)
      left_kept none =
          let few = left.few in
          let number = left.number in
          let same : length (sensed_left t a f) ≡ length (sensed_left t a (f + 1)) = ap length (sensed_not t a f near (sym is ∙ none)) in
          record { most = omega arith; few = omega arith; number = omega (arith, number, same) }

      literals_kept : there ≡ false → literals_left t a readings i f ≡ literals_left t a readings i (f + 1)
      unfolding literals_left
      literals_kept none = ap (λ (fs : List ℕ). literals_read fs (drop i readings)) (sensed_not t a f near (sym is ∙ none))

      module _ (some : there ≡ true) where
        one_fewer : length (sensed_left t a f) ≡ suc (length (sensed_left t a (f + 1)))
        one_fewer = ap length (sensed_here t a f near (sym is ∙ some))

        pub reading_there : i < length readings
        reading_there = let number = left.number in let fewer = one_fewer in omega (arith, number, fewer)

        left_next : ReadingsLeft t a readings (i + 1) (f + 1)
        left_next =
            let few = left.few in
            let number = left.number in
            let fewer = one_fewer in
            record { most = omega arith; few = omega arith; number = omega (arith, number, fewer) }

        literals_next : literals_left t a readings i f ≡ literal_read f (get_or readings i 0) ∷ literals_left t a readings (i + 1) (f + 1)
        unfolding literals_left literals_read
        literals_next =
            let up : suc i ≡ i + 1 = omega arith in
            rw (sensed_here t a f near (sym is ∙ some), drop-cons readings i 0 reading_there, up)

-- AGAINST what is known: some of those that are left.
pub record AgainstLeft (t : Table) (a : ℕ) (marks : State) (readings : List ℕ) (i f : ℕ) : Type 0 where
  pub left : ReadingsLeft t a readings i f
  pub same : against marks (literals_read (sensed format t a) readings) ≡ against marks (literals_left t a readings i f)

module _ (t : Table) (a : ℕ) (marks : State) (readings : List ℕ) where
  pub against_starts : length readings ≡ length (sensed format t a) → AgainstLeft t a marks readings 0 0
  against_starts each = record { left = left_starts t a readings each; same = ap (against marks) (literals_all t a readings) }

  module _ (i f : ℕ) (so_far : AgainstLeft t a marks readings i f) where
    pub against_none : format.fluents ≤ f → false ≡ against marks (literals_read (sensed format t a) readings)
    unfolding against some_of
    against_none far = sym (so_far.same ∙ ap (against marks) (literals_none t a readings i f far))

    module _ (near : f < format.fluents) (there : Bool) (is : there ≡ senses (knowledge_of t a) f) where
      pub against_kept : there ≡ false → AgainstLeft t a marks readings i (f + 1)
      against_kept none = record {
        left = left_kept t a readings i f so_far.left near there is none;
        same = so_far.same ∙ ap (against marks) (literals_kept t a readings i f so_far.left near there is none);
      }

      module _ (some : there ≡ true) (mark : ℕ) (reads : mark ≡ mark_of (literal_read 0 (get_or readings i 0))) where
        against_step : against marks (literals_read (sensed format t a) readings)
            ≡ either (eqb (get_or marks f 0) (3 - mark)) (against marks (literals_left t a readings (i + 1) (f + 1)))
        unfolding against some_of
        against_step =
            so_far.same
            ∙ ap (against marks) (literals_next t a readings i f so_far.left near there is some)
            ∙ ap (λ (b : Bool). either b (against marks (literals_left t a readings (i + 1) (f + 1)))) (read_against f (get_or readings i 0) marks)
            ∙ rw reads

        pub against_found : get_or marks f 0 ≡ 3 - mark → true ≡ against marks (literals_read (sensed format t a) readings)
        unfolding either
        against_found e = sym (against_step ∙ rw (eq-eqb _ _ e))

        pub against_next : (get_or marks f 0 ≡ 3 - mark → ⊥) → AgainstLeft t a marks readings (i + 1) (f + 1)
        unfolding either
        against_next other = record {
          left = left_next t a readings i f so_far.left near there is some;
          same = against_step ∙ rw (ne_eqb _ _ other);
        }

pub read_within : (mark byte : ℕ) → mark ≡ mark_of (literal_read 0 byte) → mark ≤ 3
read_within mark byte is = let most = mark_most (literal_read 0 byte) in omega arith

-- TAKEN OVER: told those that are left, the state is the whole's.
pub record TakenLeft (t : Table) (a : ℕ) (marks : State) (readings : List ℕ) (state : State) (i f : ℕ) : Type 0 where
  pub left : ReadingsLeft t a readings i f
  pub marked : Marked state
  pub same : told_all (literals_read (sensed format t a) readings) marks ≡ told_all (literals_left t a readings i f) state

module _ (t : Table) (a : ℕ) (marks : State) (readings : List ℕ) where
  pub taken_starts : Marked marks → length readings ≡ length (sensed format t a) → TakenLeft t a marks readings marks 0 0
  taken_starts marked each = record { left = left_starts t a readings each; marked = marked; same = ap (λ (ls : List ℕ). told_all ls marks) (literals_all t a readings) }

  module _ (state : State) (i f : ℕ) (so_far : TakenLeft t a marks readings state i f) where
    pub taken_all : format.fluents ≤ f → state ≡ told_all (literals_read (sensed format t a) readings) marks
    unfolding told_all
    taken_all far = sym (so_far.same ∙ ap (λ (ls : List ℕ). told_all ls state) (literals_none t a readings i f far))

    module _ (near : f < format.fluents) (there : Bool) (is : there ≡ senses (knowledge_of t a) f) where
      pub taken_kept : there ≡ false → TakenLeft t a marks readings state i (f + 1)
      taken_kept none = record {
        left = left_kept t a readings i f so_far.left near there is none;
        marked = so_far.marked;
        same = so_far.same ∙ ap (λ (ls : List ℕ). told_all ls state) (literals_kept t a readings i f so_far.left near there is none);
      }

      pub taken_next : (mark : ℕ) → there ≡ true → mark ≡ mark_of (literal_read 0 (get_or readings i 0)) → TakenLeft t a marks readings (set state f mark) (i + 1) (f + 1)
      unfolding told_all
      taken_next mark some reads = record {
        left = left_next t a readings i f so_far.left near there is some;
        marked = let most = mark_most (literal_read 0 (get_or readings i 0)) in marked_set state f mark so_far.marked near (omega arith);
        same = so_far.same
            ∙ ap (λ (ls : List ℕ). told_all ls state) (literals_next t a readings i f so_far.left near there is some)
            ∙ ap (told_all (literals_left t a readings (i + 1) (f + 1))) (read_told f (get_or readings i 0) state)
            ∙ rw reads;
      }
