-- The lines of an action stand in the input where the notes of the request have them: they are fit to be read, and what is asked of the bytes there
-- is what is asked of the lines. Assumes nothing.
use Prim.Native.Nat.{ℕ, ◌+◌}
use mathlib.Core.Path.{◌≡◌, refl, ap}
use mathlib.Core.Bool.{Bool}
use mathlib.Core.List.{List, [], ◌∷◌, map}
use mathlib.Core.Logic.{inl, inr}
use lib.ListN.{get_or}
use lib.Dec.{eqb}
use Rattle.meaning.specs.declared.Runs.{Runs}
use Rattle.meaning.specs.declared.Runs.TheVariants.{Short}
use Rattle.meaning.specs.Tests.{both, some_of, each_of, those_of, Has}
use Rattle.meaning.specs.Limits.{all_literals}
use Rattle.meaning.specs.Requests.{Effect, Executability}
use Rattle.meaning.specs.Lines.{effects_of, executability_of, given}
use Rattle.meaning.specs.Asking.{short_by, fewest, nearest, first_allowing}
use Rattle.meaning.proofs.TestLaws.{those_has, some_mapped}
use Rattle.reading.specs.Listed.{listed, ListHere}
use Rattle.finding.specs.LinesHere.{Consistent, effect_from, EffectHere}
use Rattle.finding.proofs.ReadLaws.{effect_good, run_stands}
use Rattle.steps.specs.Held.{table_in}
use Rattle.steps.specs.AtHand.{AtHand}
use Rattle.steps.specs.LinesFound.{run_places, effect_places, short_at, fewest_at, nearest_at, first_allowing_at, given_at}
use Rattle.steps.proofs.HandLaws.{sections}
use Rattle.meaning.specs.declared.Form.TheVariants.{Flags}

-- THE PLACES of the lines that pass a test: each is that of a line, and what some place passes some line passes, where the two tests agree.
module _ {A : Type 0} (stands : A → ℕ) (acts : A → Bool) where
  placed_has : (ys : List A) (p : ℕ) → Has (map stands ys) p → (y : A) × Has ys y × (p ≡ stands y)
  placed_has [] p has = absurd has
  placed_has (y ∷ ys) p (inl e) = (y, inl refl, e)
  placed_has (y ∷ ys) p (inr h) = let w = placed_has ys p h in (w.0, inr w.1, w.2)

  those_placed : (xs : List A) (p : ℕ) → Has (map stands (those_of acts xs)) p → (x : A) × Has xs x × (p ≡ stands x)
  those_placed xs p has = let w = placed_has (those_of acts xs) p has in (w.0, (those_has acts xs w.0 w.1).0, w.2)

  those_same : (test : ℕ → Bool) (g : A → Bool) (xs : List A) → ((x : A) → Has xs x → test (stands x) ≡ g x) → some_of test (map stands (those_of acts xs)) ≡ some_of g (those_of acts xs)
  those_same test g xs same = some_mapped stands test g (those_of acts xs) (λ y has. same y (those_has acts xs y has).0)

-- EXECUTABILITY LINES whose bodies stand behind their places: what asking gives by the bytes is what it gives of the lines.
module _ (s : List ℕ) (test : ℕ → Bool) where
  abbrev BodiesThere : List Executability → Type 0
  BodiesThere xs = (x : Executability) → Has xs x → listed s (x.place + 1) ≡ x.body

  abbrev places : List Executability → List ℕ
  places = map (λ (x : Executability). x.place)

  fewest_same : (xs : List Executability) → BodiesThere xs → (p n : ℕ) → fewest_at s test p n (places xs) ≡ fewest test p n xs
  unfolding fewest_at fewest short_at
  fewest_same [] there p n = refl
  fewest_same (x ∷ xs) there p n =
      rw (
        there x (inl refl),
        fewest_same xs (λ y h. there y (inr h)) x.place (short_by test x.body),
        fewest_same xs (λ y h. there y (inr h)) p n,
      )

  nearest_same : (xs : List Executability) → BodiesThere xs → nearest_at s test (places xs) ≡ nearest test xs
  unfolding nearest_at nearest short_at
  nearest_same [] there = refl
  nearest_same (x ∷ xs) there = ap Short (rw (there x (inl refl)) (fewest_same xs (λ y h. there y (inr h)) x.place (short_by test x.body)))

  first_same : (xs : List Executability) → BodiesThere xs → (otherwise : Unit {0} → Runs) → first_allowing_at s test (places xs) otherwise ≡ first_allowing test xs otherwise
  unfolding first_allowing_at first_allowing
  first_same [] there otherwise = refl
  first_same (x ∷ xs) there otherwise = rw (there x (inl refl), first_same xs (λ y h. there y (inr h)) otherwise)

-- THE LINES OF AN ACTION.
pub record RunLines (s : List ℕ) (a : ℕ) : Type 0 where
  pub lines : (p : ℕ) → Has (run_places Flags s a) p → ListHere all_literals s (p + 1)
  pub first : (test : ℕ → Bool) (otherwise : Unit {0} → Runs) → first_allowing_at s test (run_places Flags s a) otherwise ≡ first_allowing test (executability_of (table_in Flags s) a) otherwise
  pub near : (test : ℕ → Bool) → nearest_at s test (run_places Flags s a) ≡ nearest test (executability_of (table_in Flags s) a)
  pub bodies : (test : List ℕ → Bool) → some_of (λ (p : ℕ). test (listed s (p + 1))) (run_places Flags s a) ≡ some_of (λ (x : Executability). test x.body) (executability_of (table_in Flags s) a)

pub record Effects (s : List ℕ) (a : ℕ) : Type 0 where
  pub lines : (p : ℕ) → Has (effect_places Flags s a) p → EffectHere Flags s p
  pub same : (test : ℕ → Bool) (l : ℕ) → given_at s test (effect_places Flags s a) l ≡ given test (effects_of (table_in Flags s) a) l
  pub bodies : (test : List ℕ → Bool) → some_of (λ (p : ℕ). test (listed s (p + 2))) (effect_places Flags s a) ≡ some_of (λ (e : Effect). test e.body) (effects_of (table_in Flags s) a)

module _ (s t : List ℕ) (here : AtHand Flags s t) (a : ℕ) where
  pub runs_at_hand : RunLines s a
  unfolding run_places executability_of
  runs_at_hand =
      let stands = run_stands s (table_in Flags s) here.table.end (sections s t here) in
      record {
        lines = λ p has.
            let w = those_placed (λ (r : Executability). r.place) (λ (r : Executability). eqb r.action a) (table_in Flags s).executability p has in
            rw w.2 (stands w.0 w.1).1;
        first = λ test. first_same s test (those_of (λ (r : Executability). eqb r.action a) (table_in Flags s).executability) (there stands);
        near = λ test. nearest_same s test (those_of (λ (r : Executability). eqb r.action a) (table_in Flags s).executability) (there stands);
        bodies = λ test.
            those_same (λ (r : Executability). r.place) (λ (r : Executability). eqb r.action a) (λ p. test (listed s (p + 1))) (λ (r : Executability). test r.body) (table_in Flags s).executability
            (λ r has. ap test (stands r has).0);
      }
    where
      there : ((r : Executability) → Has (table_in Flags s).executability r → (listed s (r.place + 1) ≡ r.body) × ListHere all_literals s (r.place + 1) × Consistent Flags s r.body)
          → (r : Executability) → Has (those_of (λ (x : Executability). eqb x.action a) (table_in Flags s).executability) r → listed s (r.place + 1) ≡ r.body
      there stands r has = (stands r (those_has (λ (x : Executability). eqb x.action a) (table_in Flags s).executability r has).0).0

  pub effects_at_hand : Effects s a
  unfolding effect_places given_at given effects_of effect_from
  effects_at_hand =
      let good = effect_good s (table_in Flags s) here.table.end (sections s t here) in
      record {
        lines = λ p has.
            let w = those_placed (λ (e : Effect). e.place) (λ (e : Effect). eqb e.action a) (table_in Flags s).effects p has in
            rw w.2 (good w.0 w.1).1;
        same = λ test l.
            those_same (λ (e : Effect). e.place) (λ (e : Effect). eqb e.action a) (λ p. both (eqb (get_or s (p + 1) 0) l) (each_of test (listed s (p + 2)))) (λ (e : Effect). both (eqb e.literal l) (each_of test e.body)) (table_in Flags s).effects
            (λ e has. ap (λ (y : Effect). both (eqb y.literal l) (each_of test y.body)) (good e has).0);
        bodies = λ test.
            those_same (λ (e : Effect). e.place) (λ (e : Effect). eqb e.action a) (λ p. test (listed s (p + 2))) (λ (e : Effect). test e.body) (table_in Flags s).effects
            (λ e has. ap (λ (y : Effect). test y.body) (good e has).0);
      }
