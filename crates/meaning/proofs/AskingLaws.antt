-- What asking gives stands for what the format says: the first line that allows the action, found from the front; or else the line that is
-- short by the fewest, kept from the front, where a later line takes its place only if it is short by fewer; and the line is one of the action's.
-- That it can be run is that a line allows it. By induction on the lines. Assumes nothing.
use Prim.Native.Nat.{ℕ, ◌≤◌, ◌<◌}
use native.Mathlib.Omega.{arith}
use mathlib.Core.Path.{◌≡◌, refl, sym}
use mathlib.Core.Bool.{Bool, false}
use mathlib.Core.List.{List, [], ◌∷◌}
use mathlib.Core.Logic.{◌⊎◌, inl, inr, ⊎_elim}
use lib.Dec.{ltb, eqb}
use borrow.Author.Tests.{eqb-true, ltb-true, ltb-false}
use Rattle.meaning.specs.declared.Runs.{Runs}
use Rattle.meaning.specs.declared.Runs.TheVariants.{By, Short, Never}
use Rattle.meaning.specs.Tests.{both, either, some_of, each_of, Has}
use Rattle.meaning.specs.Requests.{Executability, Table}
use Rattle.meaning.specs.Lines.{executability_of, allowed}
use Rattle.meaning.specs.States.{State, known, can_be_run}
use Rattle.meaning.specs.Asking.{short_by, fewest, nearest, first_allowing, asked, allows}
use Rattle.meaning.specs.Reported.{First, Known, Lacks, StandsFor}
use Rattle.meaning.proofs.TestLaws.{by-test, clash, each_has, those_has}
use Rattle.meaning.proofs.PickLaws.{pick_has}
use Rattle.meaning.proofs.EndLaws.{first_here, first_later, first_has}

-- IT CAN BE RUN where a line allows it.
module _ (test : ℕ → Bool) where
  nearest_allows_not : (xs : List Executability) → allows (nearest test xs) ≡ false
  unfolding nearest allows
  nearest_allows_not [] = refl
  nearest_allows_not (x ∷ xs) = refl

  first_allows : (xs : List Executability) (otherwise : Unit {0} → Runs) → allows (otherwise tt) ≡ false → allows (first_allowing test xs otherwise) ≡ allowed test xs
  unfolding first_allowing allowed some_of either allows
  first_allows [] otherwise not = not
  first_allows (x ∷ xs) otherwise not =
      pick_has (λ (r : Runs). allows r ≡ either (each_of test x.body) (allowed test xs)) (each_of test x.body) _ _
      (λ t. rw t)
      (λ f. rw f (first_allows xs otherwise not))

pub can_be_run_asked : (t : Table) (a : ℕ) (s : State) → can_be_run t a s ≡ allows (asked t a s)
unfolding can_be_run asked
can_be_run_asked t a s = sym (first_allows (known s) (executability_of t a) _ (nearest_allows_not (known s) (executability_of t a)))

-- A BODY that is not known true lacks a literal.
lacking : (test : ℕ → Bool) (ls : List ℕ) → each_of test ls ≡ false → (l : ℕ) × Has ls l × (test l ≡ false)
unfolding each_of both
lacking test [] f = clash refl f
lacking test (l ∷ ls) f = by-test (test l) (λ t. let w = lacking test ls (rw t at f) in (w.0, inr w.1, w.2)) (λ n. (l, inl refl, n))

-- THE FIRST LINE that allows it.
module _ (s : State) where
  abbrev AllowsAt : ℕ → Executability → Type 0
  AllowsAt p x = Known s x × (x.place ≡ p)

  by_first : (C : Runs → Type 0) (xs : List Executability) (otherwise : Unit {0} → Runs) → ((p : ℕ) → First (Lacks s) (AllowsAt p) xs → C (By p))
      → (((x : Executability) → Has xs x → Lacks s x) → C (otherwise tt)) → C (first_allowing (known s) xs otherwise)
  unfolding first_allowing
  by_first C [] otherwise found none = none (λ x h. absurd h)
  by_first C (x ∷ xs) otherwise found none =
      pick_has C _ _ _
      (λ all. found x.place (first_here ((λ l h. each_has (known s) x.body l all h), refl)))
      (λ f.
      let here : Lacks s x = lacking (known s) x.body f in
      by_first C xs otherwise (λ p later. found p (first_later here later))
      (λ others. none (λ y h. ⊎_elim (λ e. rw e here) (others y) h)))

-- THE LINE that is short by the fewest, where the best before these lines stands at p and is short by n.
module _ (s : State) where
  abbrev short : Executability → ℕ
  short x = short_by (known s) x.body

  -- The first of the lines that is short by m and stands at q.
  abbrev Earliest : (m q : ℕ) → List Executability → Type 0
  Earliest m q = First (λ x. m < short x) (λ x. (short x ≡ m) × (x.place ≡ q))

  record Best (p n q : ℕ) (xs : List Executability) : Type 0 where
    m : ℕ
    least : (x : Executability) → Has xs x → m ≤ short x
    which : ((q ≡ p) × (m ≡ n)) ⊎ ((m < n) × Earliest m q xs)

  most : {p n q : ℕ} {xs : List Executability} (b : Best p n q xs) → b.m ≤ n
  most b = ⊎_elim (λ same. omega (arith, same.1)) (λ fewer. omega (arith, fewer.0)) b.which

  fewest_best : (p n : ℕ) (xs : List Executability) → Best p n (fewest (known s) p n xs) xs
  unfolding fewest
  fewest_best p n [] = record { m = n; least = λ x h. absurd h; which = inl (refl, refl) }
  fewest_best p n (x ∷ xs) =
      pick_has (λ q. Best p n q (x ∷ xs)) (ltb (short x) n) _ _
      (λ t.
      let fewer = ltb-true (short x) n t in
      let b = fewest_best x.place (short x) xs in
      let here = most b in
      record {
        m = b.m;
        least = λ y h. ⊎_elim (λ e. rw e here) (b.least y) h;
        which = ⊎_elim
            (λ same. let is = same.1 in inr (omega (arith, fewer, is), first_here (sym is, sym same.0)))
            (λ later. let less = later.0 in inr (omega (arith, fewer, less), first_later less later.1))
            b.which;
      })
      (λ f.
      let not = ltb-false (short x) n f in
      let b = fewest_best p n xs in
      let bound = most b in
      record {
        m = b.m;
        least = λ y h. ⊎_elim (λ e. rw e (omega (arith, not, bound))) (b.least y) h;
        which = ⊎_elim inl (λ later. let less = later.0 in inr (less, first_later (omega (arith, not, less)) later.1)) b.which;
      })

-- WHERE NONE ALLOWS IT.
nearest_stands : (s : State) (xs : List Executability) → ((x : Executability) → Has xs x → Lacks s x) → StandsFor s xs (nearest (known s) xs)
unfolding nearest
nearest_stands s [] none = refl
nearest_stands s (x ∷ xs) none =
    let b = fewest_best s x.place (short s x) xs in
    let here = most s b in
    record {
      none = none;
      n = b.m;
      fewest = λ y h. ⊎_elim (λ e. rw e here) (b.least y) h;
      line = ⊎_elim (λ same. first_here (sym same.1, sym same.0)) (λ later. first_later later.0 later.1) b.which;
    }

-- WHAT EACH CASE STANDS FOR.
pub asked_stands : (t : Table) (a : ℕ) (s : State) → StandsFor s (executability_of t a) (asked t a s)
unfolding asked
asked_stands t a s =
    by_first s (StandsFor s (executability_of t a)) (executability_of t a) _ (λ p first. first) (nearest_stands s (executability_of t a))

-- THE LINE NAMED is one of the action's.
abbrev pub LineOf : Table → (action place : ℕ) → Type 0
LineOf t a p = (x : Executability) × Has t.executability x × (x.action ≡ a) × (x.place ≡ p)

abbrev pub OfAction : Table → ℕ → Runs → Type 0
OfAction t a r = elim r [ By p ↦ LineOf t a p | Short p ↦ LineOf t a p | Never ↦ Unit {0} ]

pub asked_of_action : (t : Table) (a : ℕ) (s : State) → OfAction t a (asked t a s)
unfolding executability_of
asked_of_action t a s = by_case (asked t a s) (asked_stands t a s)
  where
    one_of : (x : Executability) (p : ℕ) → Has (executability_of t a) x → x.place ≡ p → LineOf t a p
    one_of x p has at = let w = those_has (λ (y : Executability). eqb y.action a) t.executability x has in (x, w.0, eqb-true _ _ w.1, at)

    by_case : (r : Runs) → StandsFor s (executability_of t a) r → OfAction t a r
    by_case (By p) f = one_of f.here p (first_has f) f.so.1
    by_case (Short p) f = one_of f.line.here p (first_has f.line) f.line.so.1
    by_case Never f = tt
