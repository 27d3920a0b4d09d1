-- Reading with the notes: what follows an item, the end of a sequence, and what an answer says of the definition and of the notes. Assumes nothing.
use Prim.Native.Nat.{ℕ, ◌+◌, ◌≤◌, ◌<◌, ◌*◌}
use native.Mathlib.Omega.{arith}
use mathlib.Core.Path.{◌≡◌, refl, sym, ◌∙◌, ap}
use mathlib.Core.List.{List}
use lib.ListN.{length, set}
use lib.Dec.{eqb}
use borrow.Author.Tests.{eq-eqb, ne_eqb, lt-ltb, le-ltb}
use Rattle.std.specs.Prelude.{Ok, Err}
use Rattle.parsing.specs.Read.{Numbered, stopped}
use Rattle.parsing.specs.declared.faults.Fault.{Fault}
use Rattle.meaning.specs.Limits.{format}
use Rattle.meaning.specs.Reading.{Got, got, fault, next, Met}
use Rattle.meaning.proofs.TestLaws.{by-test, pick_true, pick_false}
use Rattle.meaning.proofs.SettledLaws.{fault≢got, got_same}
use Rattle.reading.proofs.SectionLaws.{got_place, fault_first}
use Rattle.reading.specs.Planned.{number_after, branch_noted, noting_met, outcome_met}
use Rattle.reading.specs.Noted.{item_next, branch_place, branch_item}

-- WHAT FOLLOWS AN ITEM.
pub after_last : (left met up : ℕ) → left ≡ 1 → up ≡ number_after left met up
unfolding number_after
after_last left met up e = sym (pick_true _ _ _ (eq-eqb left 1 e))

pub after_other : (left met up : ℕ) → (left ≡ 1 → ⊥) → met ≡ number_after left met up
unfolding number_after
after_other left met up h = sym (pick_false _ _ _ (ne_eqb left 1 h))

after_within : (left met up : ℕ) → met ≤ format.items → up ≤ 2 * format.items → number_after left met up < 65536
unfolding number_after
after_within left met up h k = by-test (eqb left 1) (λ t. rw (pick_true (eqb left 1) (λ _. up) (λ _. met) t) (omega arith)) (λ f. rw (pick_false (eqb left 1) (λ _. up) (λ _. met) f) (omega arith))

pub next_fits : (left more up x : ℕ) → more ≤ format.items → up ≤ 2 * format.items → x ≡ number_after left more up → x < 65536
next_fits left more up x k l e = rw e (after_within left more up k l)

pub next_noted : (met left more up x : ℕ) (t u : List ℕ) → x ≡ number_after left more up → u ≡ set t (item_next + met) x → u ≡ set t (item_next + met) (number_after left more up)
next_noted met left more up x t u e f = f ∙ ap (set t (item_next + met)) e

-- THE END OF A SEQUENCE.
pub branch_empty : (first met p : ℕ) (t : List ℕ) → met ≤ first → t ≡ branch_noted first met p t
unfolding branch_noted
branch_empty first met p t h = sym (pick_false _ _ _ (le-ltb first met h))

pub branch_ended : (first met p : ℕ) (t u v : List ℕ) → first < met → u ≡ set t (branch_place + first) p → v ≡ set u (branch_item + first) met → v ≡ branch_noted first met p t
unfolding branch_noted
branch_ended first met p t u v h placed counted = counted ∙ ap (λ (w : List ℕ). set w (branch_item + first) met) placed ∙ sym (pick_true _ _ _ (lt-ltb first met h))

-- WHAT A READER ANSWERED tells what the definition gives, and the notes.
module _ {A : Type 0} where
  abbrev pub with_items : A → ℕ → Met A
  with_items x k = record { value = x; items = k }

module _ {A : Type 0} (note : A → List ℕ) where
  pub met_value : (g : Got (Met A)) (r : Numbered) (t : List ℕ) (more e : ℕ) → outcome_met r t ≡ noting_met note g → r ≡ Ok (more, e)
      → (x : A) × (g ≡ got (with_items x more) e) × (t ≡ note x)
  unfolding outcome_met noting_met next
  met_value (got x q) r t more e is v =
      let same : got (with_items t more) e ≡ got (with_items (note x.value) x.items) q = rw v at is in
      let count : more ≡ x.items = ap (λ (y : Met (List ℕ)). y.items) (got_same same) in
      let place : e ≡ q = got_place same in
      (x.value, rw (count, place) refl, ap (λ (y : Met (List ℕ)). y.value) (got_same same))
  met_value (fault n i) r t more e is v =
      let same : got (with_items t more) e ≡ fault n i = rw v at is in
      absurd (fault≢got (sym same))

  pub met_fault : (g : Got (Met A)) (r : Numbered) (t : List ℕ) (why : Fault) → outcome_met r t ≡ noting_met note g → r ≡ Err why → noting_met note g ≡ stopped why
  unfolding outcome_met
  met_fault g r t why is v = rw v at (sym is)

  pub fault_met : (g : Got (Met A)) (why : Fault) → noting_met note g ≡ stopped why → g ≡ stopped why
  unfolding noting_met
  fault_met g why is = fault_first g (λ x. with_items (note x.value) x.items) _ _ is

-- NOTING goes through a reading.
module _ {A : Type 0} where
  pub noting_same : (f h : A → List ℕ) (g : Got (Met A)) → ((x : Met A) (q : ℕ) → g ≡ got x q → f x.value ≡ h x.value) → noting_met f g ≡ noting_met h g
  unfolding noting_met next
  noting_same f h (got x q) e = ap (λ (t : List ℕ). got (with_items t x.items) q) (e x q refl)
  noting_same f h (fault n i) e = refl

module _ {A B : Type 0} where
  pub noting_built : (f : B → List ℕ) (build : A → B) (g : Got (Met A)) → noting_met f (next g (λ x e. got (with_items (build x.value) x.items) e)) ≡ noting_met (λ x. f (build x)) g
  unfolding noting_met next
  noting_built f build (got x q) = refl
  noting_built f build (fault n i) = refl

-- A LOOP: what the whole gives is what the rest gives, and where it stands is within the limits.
pub record Going (s : List ℕ) (whole rest : Got (Met (List ℕ))) (p met : ℕ) : Type 0 where
  pub same : whole ≡ rest
  pub inside : p ≤ length s
  pub most : met ≤ format.items
