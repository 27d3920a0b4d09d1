-- Lists of literals as sets. Two ascending lists with the same literals are one list: the smaller of their first entries could stand nowhere
-- in the other. What a state knows, as a list, ascends and has just the literals that are known. Assumes nothing.
use Prim.Native.Nat.{ℕ, ◌+◌, ◌*◌, ◌≤◌, ◌<◌}
use native.Mathlib.Omega.{arith}
use native.Mathlib.Decide.{dec_lt}
use mathlib.Core.Path.{◌≡◌, refl, sym, ◌∙◌, ap, ap₂, subst, fun_ext}
use mathlib.Core.Bool.{true, false≢true}
use mathlib.Core.List.{List, [], ◌∷◌, ◌++◌}
use mathlib.Core.Logic.{◌⊎◌, inl, inr, ⊎_elim}
use lib.ListN.{length}
use borrow.Author.Tests.{eqb-true, eq-eqb}
use Rattle.meaning.specs.Tests.{Has}
use Rattle.meaning.specs.Limits.{Limits}
use Rattle.meaning.specs.Literals.{says_true, says_false, among}
use Rattle.meaning.specs.States.{State, known, state_of}
use Rattle.meaning.specs.Approximation.{Pair}
use Rattle.meaning.specs.Derivations.{same_list, included, known_from, literals_of}
use Rattle.meaning.specs.Rules.{◌∈◌, ◌⊆◌, ◌≐◌, a_state}
use Rattle.meaning.specs.Reported.{pair_of}
use Rattle.meaning.proofs.TestLaws.{clash, same_test, both_left, both_right, both_true, has_left, has_right, has_split, each_has, has_each}
use Rattle.meaning.proofs.PickLaws.{pick_has, has-picked}
use Rattle.meaning.proofs.LiteralLaws.{by_literal, among_has, has_among}
use Rattle.meaning.proofs.StateLaws.{unknown_far}
use Rattle.meaning.proofs.PairLaws.{pair_disjoint}
use Rattle.meaning.proofs.ToldLaws.{Clear, state_known}

-- MEMBERS.
pub among_left : (l : ℕ) (X Z : List ℕ) → l ∈ X → l ∈ X ++ Z
among_left l X Z e = has_among l (X ++ Z) (has_left X Z l (among_has l X e))

pub among_right : (l : ℕ) (X Z : List ℕ) → l ∈ Z → l ∈ X ++ Z
among_right l X Z e = has_among l (X ++ Z) (has_right X Z l (among_has l Z e))

pub among_split : (l : ℕ) (X Z : List ℕ) → l ∈ X ++ Z → (l ∈ X) ⊎ (l ∈ Z)
among_split l X Z e = ⊎_elim (λ h. inl (has_among l X h)) (λ h. inr (has_among l Z h)) (has_split X Z l (among_has l (X ++ Z) e))

pub included_exactly : (X Z : List ℕ) → (included X Z ≡ true → X ⊆ Z) × (X ⊆ Z → included X Z ≡ true)
unfolding included
included_exactly X Z = (λ e l m. each_has _ X l e (among_has l X m), λ f. has_each _ X (λ l h. f l (has_among l X h)))

-- SAME SETS.
pub ≐_refl : (X : List ℕ) → X ≐ X
≐_refl X = (λ l m. m, λ l m. m)

pub ≐_sym : (X Z : List ℕ) → X ≐ Z → Z ≐ X
≐_sym X Z e = (e.1, e.0)

pub ≐_trans : (X Z U : List ℕ) → X ≐ Z → Z ≐ U → X ≐ U
≐_trans X Z U e f = (λ l m. f.0 l (e.0 l m), λ l m. e.1 l (f.1 l m))

pub ≐_among : (X Z : List ℕ) → X ≐ Z → (l : ℕ) → among l X ≡ among l Z
≐_among X Z e l = same_test _ _ (e.0 l) (e.1 l)

pub among_≐ : (X Z : List ℕ) → ((l : ℕ) → among l X ≡ among l Z) → X ≐ Z
among_≐ X Z e = (λ l m. sym (e l) ∙ m, λ l m. e l ∙ m)

pub a_state_same : (X Z : List ℕ) → X ≐ Z → a_state X ≡ a_state Z
unfolding a_state
a_state_same X Z e = λ i. record { T = fun_ext (λ (f : ℕ). ≐_among X Z e (says_true f)) i; F = fun_ext (λ (f : ℕ). ≐_among X Z e (says_false f)) i }

-- Lists with the same a-state are the same set.
pub same_a_state : (X Z : List ℕ) → a_state X ≡ a_state Z → X ≐ Z
unfolding a_state
same_a_state X Z e =
    among_≐ X Z
    (by_literal (λ l. among l X ≡ among l Z)
    (λ f. ap (λ (σ : Pair). σ.T f) e)
    (λ f. ap (λ (σ : Pair). σ.F f) e))

-- ASCENDING LISTS, each entry at least the floor and above the entry before it.
abbrev pub Ascending : ℕ → List ℕ → Type 0
Ascending floor [] = Unit {0}
Ascending floor (x ∷ xs) = (floor ≤ x) × Ascending (x + 1) xs

pub ascending_from : (floor least : ℕ) (xs : List ℕ) → least ≤ floor → Ascending floor xs → Ascending least xs
ascending_from floor least [] h a = tt
ascending_from floor least (x ∷ xs) h a = (let f = a.0 in omega arith, a.1)

above : (floor : ℕ) (xs : List ℕ) → Ascending floor xs → (y : ℕ) → Has xs y → floor ≤ y
above floor [] a y h = absurd h
above floor (x ∷ xs) a y (inl q) = let f = a.0 in omega arith
above floor (x ∷ xs) a y (inr h) = let f = a.0 in let g = above (x + 1) xs a.1 y h in omega arith

ascending_has : (f g : ℕ) (xs ys : List ℕ) → Ascending f xs → Ascending g ys → ((l : ℕ) → Has xs l → Has ys l) → ((l : ℕ) → Has ys l → Has xs l) → xs ≡ ys
ascending_has f g [] [] a b there back = refl
ascending_has f g [] (y ∷ ys) a b there back = absurd (back y (inl refl))
ascending_has f g (x ∷ xs) [] a b there back = absurd (there x (inl refl))
ascending_has f g (x ∷ xs) (y ∷ ys) a b there back =
    ap₂ {C = List ℕ} (λ z zs. z ∷ zs) same (ascending_has (x + 1) (y + 1) xs ys a.1 b.1 (later x y xs ys same a.1 there) (later y x ys xs (sym same) b.1 back))
  where
    least : (x y : ℕ) (ys : List ℕ) → Ascending (y + 1) ys → Has (y ∷ ys) x → y ≤ x
    least x y ys b (inl q) = omega arith
    least x y ys b (inr h) = let g = above (y + 1) ys b x h in omega arith

    same : x ≡ y
    same = let i = least x y ys b.1 (there x (inl refl)) in let j = least y x xs a.1 (back y (inl refl)) in omega arith

    later : (x y : ℕ) (xs ys : List ℕ) → x ≡ y → Ascending (x + 1) xs → ((l : ℕ) → Has (x ∷ xs) l → Has (y ∷ ys) l) → (l : ℕ) → Has xs l → Has ys l
    later x y xs ys q a into l h = ⊎_elim (λ here. absurd (let g = above (x + 1) xs a l h in omega arith)) (λ m. m) (into l (inr h))

pub ascending_same : (X Z : List ℕ) → Ascending 0 X → Ascending 0 Z → X ≐ Z → X ≡ Z
ascending_same X Z a b e = ascending_has 0 0 X Z a b (λ l h. among_has l Z (e.0 l (has_among l X h))) (λ l h. among_has l X (e.1 l (has_among l Z h)))

-- The test of lists.
pub same_list_is : (xs ys : List ℕ) → same_list xs ys ≡ true → xs ≡ ys
unfolding same_list
same_list_is [] [] e = refl
same_list_is [] (y ∷ ys) e = absurd (false≢true e)
same_list_is (x ∷ xs) [] e = absurd (false≢true e)
same_list_is (x ∷ xs) (y ∷ ys) e = ap₂ {C = List ℕ} (λ z zs. z ∷ zs) (eqb-true x y (both_left _ _ e)) (same_list_is xs ys (both_right _ _ e))

pub same_list_self : (xs : List ℕ) → same_list xs xs ≡ true
unfolding same_list
same_list_self [] = refl
same_list_self (x ∷ xs) = both_true _ _ (eq-eqb x x refl) (same_list_self xs)

pub same_list_exactly : (X Z : List ℕ) → Ascending 0 X → Ascending 0 Z → (same_list X Z ≡ true → X ≐ Z) × (X ≐ Z → same_list X Z ≡ true)
same_list_exactly X Z a b = (
  λ e. subst (λ (U : List ℕ). X ≐ U) (same_list_is X Z e) (≐_refl X),
  λ e. subst (λ (U : List ℕ). same_list X U ≡ true) (ascending_same X Z a b e) (same_list_self X),
)

-- WHAT A STATE KNOWS, as a list.
pub known_from_known : (s : State) (f : ℕ) (ms : List ℕ) (l : ℕ) → Has (known_from s f ms) l → known s l ≡ true
unfolding known_from
known_from_known s f [] l h = absurd h
known_from_known s f (m ∷ ms) l h =
    has-picked (λ xs. Has xs l) (known s (says_true f)) _ _ h
    (λ t k. ⊎_elim (λ q. rw q t) (known_from_known s (f + 1) ms l) k)
    (λ _ k. has-picked (λ xs. Has xs l) (known s (says_false f)) _ _ k
    (λ t j. ⊎_elim (λ q. rw q t) (known_from_known s (f + 1) ms l) j)
    (λ _ j. known_from_known s (f + 1) ms l j))

known_from_ascends : (s : State) (f : ℕ) (ms : List ℕ) → Ascending (2 * f) (known_from s f ms)
unfolding known_from says_true says_false
known_from_ascends s f [] = tt
known_from_ascends s f (m ∷ ms) =
    let rest = known_from s (f + 1) ms in
    let ascends = known_from_ascends s (f + 1) ms in
    pick_has (Ascending (2 * f)) (known s (says_true f)) _ _ (λ _. (omega arith, ascending_from (2 * (f + 1)) (2 * f + 1) rest (omega arith) ascends)) λ _.
    pick_has (Ascending (2 * f)) (known s (says_false f)) _ _ (λ _. (omega arith, ascending_from (2 * (f + 1)) (2 * f + 1 + 1) rest (omega arith) ascends)) λ _.
    ascending_from (2 * (f + 1)) (2 * f) rest (omega arith) ascends

-- Of a fluent from f up to the end of the list, each literal known is there.
abbrev Listed : State → List ℕ → ℕ → Type 0
Listed s xs g = (known s (says_true g) ≡ true → Has xs (says_true g)) × (known s (says_false g) ≡ true → Has xs (says_false g))

known_from_has : (s : State) (f : ℕ) (ms : List ℕ) (g : ℕ) → f ≤ g → g < f + length ms → Listed s (known_from s f ms) g
unfolding known_from pair_of
known_from_has s f [] g low high = absurd (omega arith)
known_from_has s f (m ∷ ms) g low high =
    elim (dec_lt f g) [ yes less ↦ further (known_from_has s (f + 1) ms g (omega arith) (omega arith)) | no not-less ↦ here (omega arith) ]
  where
    later : (l : ℕ) → Has (known_from s (f + 1) ms) l → Has (known_from s f (m ∷ ms)) l
    later l h = pick_has (λ xs. Has xs l) (known s (says_true f)) _ _ (λ _. inr h) λ _. pick_has (λ xs. Has xs l) (known s (says_false f)) _ _ (λ _. inr h) λ _. h

    further : Listed s (known_from s (f + 1) ms) g → Listed s (known_from s f (m ∷ ms)) g
    further w = (λ k. later _ (w.0 k), λ k. later _ (w.1 k))

    here : f ≡ g → Listed s (known_from s f (m ∷ ms)) g
    here q = subst (Listed s (known_from s f (m ∷ ms))) q (
      λ k. pick_has (λ xs. Has xs (says_true f)) (known s (says_true f)) _ _ (λ _. inl refl) (λ e. clash k e),
      λ k. pick_has (λ xs. Has xs (says_false f)) (known s (says_true f)) _ _ (λ e. clash (both_true _ _ e k) (pair_disjoint s f)) λ _.
          pick_has (λ xs. Has xs (says_false f)) (known s (says_false f)) _ _ (λ _. inl refl) (λ e. clash k e),
    )

pub literals_ascend : (s : State) → Ascending 0 (literals_of s)
unfolding literals_of
literals_ascend s = known_from_ascends s 0 s

pub literals_among : (s : State) (l : ℕ) → among l (literals_of s) ≡ known s l
unfolding literals_of
literals_among s l = same_test _ _ (λ e. known_from_known s 0 s l (among_has l _ e)) (by_literal (λ k. known s k ≡ true → k ∈ known_from s 0 s) (λ f. (listed f).0) (λ f. (listed f).1) l)
  where
    listed : (f : ℕ) → (known s (says_true f) ≡ true → says_true f ∈ known_from s 0 s) × (known s (says_false f) ≡ true → says_false f ∈ known_from s 0 s)
    listed f =
        elim (dec_lt f (length s)) [
          | yes near ↦ let w = known_from_has s 0 s f (omega arith) (omega arith) in (λ k. has_among _ _ (w.0 k), λ k. has_among _ _ (w.1 k))
          | no far ↦ let u = unknown_far s f (omega arith) in (λ k. clash k u.0, λ k. clash k u.1)
        ]

-- The list of what a state knows is the state's a-state, and the state of a list is the list's.
pub literals_a_state : (s : State) → a_state (literals_of s) ≡ pair_of s
unfolding a_state pair_of
literals_a_state s = λ i. record { T = fun_ext (λ (f : ℕ). literals_among s (says_true f)) i; F = fun_ext (λ (f : ℕ). literals_among s (says_false f)) i }

pub state_a_state : (lim : Limits) (X : List ℕ) → Clear lim X → pair_of (state_of lim X) ≡ a_state X
unfolding a_state pair_of
state_a_state lim X clear = λ i. record { T = fun_ext (λ (f : ℕ). state_known lim X clear (says_true f)) i; F = fun_ext (λ (f : ℕ). state_known lim X clear (says_false f)) i }
