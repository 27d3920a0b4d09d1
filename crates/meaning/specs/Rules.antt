-- The rules of derivations as relations between sets of literals, as Zhao and Shen set them out in their section 3 (FORMAT 10.12 to 10.17,
-- 17.21 to 17.25). It shares the table, plans and lines with the other definitions, and the 0-approximation with `Approximation`; it asks none
-- of the checker's tests, and nothing of partial states. The paper leaves the order of rule 3's premises open, and FORMAT 10.14 has it.
use Rattle.std.specs.Prelude.{ℕ, ◌<◌, ◌≡◌, Bool, true, false, List, [], ◌∷◌, ◌++◌, ◌⊎◌}
use Rattle.meaning.specs.Tests.{either, Each, Some}
use Rattle.meaning.specs.Limits
use Rattle.meaning.specs.Literals.{says_true, says_false, fluent_of, complement, among}
use Rattle.meaning.specs.Requests.{Table, Sequence, done, item, act, branching, Branches, none, branch, unplaced}
use Rattle.meaning.specs.Approximation.{Pair, executable, K, sensing_action, Res}
use Rattle.meaning.specs.Derivations.{Conclusion, knows, knows_whether, Line, join}

-- SETS. A list stands for the set of the literals in it, whatever their order.
infix 40 ◌∈◌
abbrev pub ◌∈◌ : ℕ → List ℕ → Type 0
l ∈ X = among l X ≡ true

infix 40 ◌⊆◌
abbrev pub ◌⊆◌ : List ℕ → List ℕ → Type 0
X ⊆ Z = (l : ℕ) → l ∈ X → l ∈ Z

infix 40 ◌≐◌
abbrev pub ◌≐◌ : List ℕ → List ℕ → Type 0
X ≐ Z = (X ⊆ Z) × (Z ⊆ X)

abbrev pub Consistent : List ℕ → Type 0
Consistent X = (l : ℕ) → l ∈ X → complement l ∈ X → ⊥

-- The fluents of a set.
unfoldable pub fln : List ℕ → ℕ → Bool
fln X f = either (among (says_true f) X) (among (says_false f) X)

-- A set of literals determines an a-state; the paper does not tell them apart.
unfoldable pub a_state : List ℕ → Pair
a_state X = record { T = λ f. among (says_true f) X; F = λ f. among (says_false f) X }

-- LINES. Plans are the same wherever they stand, and conclusions when they are of one kind and say the same.
abbrev pub SamePlan : Sequence ℕ → Sequence ℕ → Type 0
SamePlan c d = unplaced c ≡ unplaced d

abbrev pub SameConclusion : Conclusion → Conclusion → Type 0
SameConclusion (knows Y) (knows Z) = Y ≐ Z
SameConclusion (knows Y) (knows_whether g) = ⊥
SameConclusion (knows_whether f) (knows Z) = ⊥
SameConclusion (knows_whether f) (knows_whether g) = f ≡ g

-- The line is {X} c {Y}.
pub record Claims (l : Line) (X : List ℕ) (c : Sequence ℕ) (Y : Conclusion) : Type 0 where
  pub start : l.X ≐ X
  pub plan : SamePlan l.c c
  pub end : SameConclusion l.Y Y

-- AXIOM 1: {X} [] {X}.
pub record Rule1 (l : Line) : Type 0 where
  pub X : List ℕ
  pub line : Claims l X done (knows X)

-- AXIOM 2: {X} a {Res(a, X)}, where a is a non-sensing action executable in X.
pub record Rule2 (t : Table) (l : Line) : Type 0 where
  pub X : List ℕ
  pub place : ℕ
  pub a : ℕ
  pub Y : List ℕ
  pub line : Claims l X (item (act place a) done) (knows Y)
  pub non_sensing : sensing_action t a ≡ false
  pub runs : executable t a (a_state X) ≡ true
  pub result : a_state Y ≡ Res t a (a_state X)

-- RULE 3, and with a fluent for Y rule 10: from {X ∪ X₁} c {Y}, .., {X ∪ Xₘ} c {Y} to {X} a; c {Y}, where a is a sensing action executable in
-- X, and X₁, .., Xₘ are all sets X' with fln(X') = K(a) such that X ∪ X' is consistent.
pub record ReadingOf (t : Table) (a : ℕ) (X X' : List ℕ) : Type 0 where
  pub fluents : (f : ℕ) → fln X' f ≡ K t a f
  pub consistent : Consistent (X ++ X')

-- Their order: at the smallest fluent on which two of them differ, true comes before false (FORMAT 7.12, 7.15).
pub record Before (U W : List ℕ) : Type 0 where
  pub fluent : ℕ
  pub true_first : says_true fluent ∈ U
  pub false_second : says_false fluent ∈ W
  pub alike : (f : ℕ) → f < fluent → (among (says_true f) U ≡ among (says_true f) W) × (among (says_false f) U ≡ among (says_false f) W)

abbrev pub Ordered : List (List ℕ) → Type 0
Ordered [] = Unit {0}
Ordered (U ∷ Us) = Each (Before U) Us × Ordered Us

pub record AllReadings (t : Table) (a : ℕ) (X : List ℕ) (Xs : List (List ℕ)) : Type 0 where
  pub each : Each (ReadingOf t a X) Xs
  pub all : (X' : List ℕ) → ReadingOf t a X X' → Some (λ U. X' ≐ U) Xs
  pub ordered : Ordered Xs

-- One line for each of them, in their order.
abbrev pub EachClaims : (X : List ℕ) → Sequence ℕ → Conclusion → List (List ℕ) → List Line → Type 0
EachClaims X c Y [] [] = Unit {0}
EachClaims X c Y [] (l ∷ ls) = ⊥
EachClaims X c Y (X' ∷ Xs) [] = ⊥
EachClaims X c Y (X' ∷ Xs) (l ∷ ls) = Claims l (X ++ X') c Y × EachClaims X c Y Xs ls

pub record Rule3 (t : Table) (cited : List Line) (l : Line) (Y : Conclusion) : Type 0 where
  pub X : List ℕ
  pub place : ℕ
  pub a : ℕ
  pub c : Sequence ℕ
  pub line : Claims l X (item (act place a) c) Y
  pub senses : sensing_action t a ≡ true
  pub runs : executable t a (a_state X) ≡ true
  pub Xs : List (List ℕ)
  pub readings : AllReadings t a X Xs
  pub premises : EachClaims X c Y Xs cited

-- RULE 4, and with a fluent for Y rule 12: from φ ⊆ X and {X} b; c {Y} to {X} case .. φ → b .. endcase; c {Y}.
abbrev pub Case : List ℕ → Sequence ℕ → Branches ℕ → Type 0
Case φ b none = ⊥
Case φ b (branch ψ d bs) = ((φ ≡ ψ) × (b ≡ d)) ⊎ Case φ b bs

pub record Rule4 (cited l : Line) (Y : Conclusion) : Type 0 where
  pub X : List ℕ
  pub place : ℕ
  pub cases : Branches ℕ
  pub c : Sequence ℕ
  pub line : Claims l X (item (branching place cases) c) Y
  pub φ : List ℕ
  pub b : Sequence ℕ
  pub case : Case φ b cases
  pub holds : φ ⊆ X
  pub premise : Claims cited X (join b c) Y

-- RULE 5, and with a fluent for Y rule 11: from {X} c {Z} and {Z} d {Y} to {X} c; d {Y}.
pub record Rule5 (first second l : Line) (Y : Conclusion) : Type 0 where
  pub X : List ℕ
  pub c : Sequence ℕ
  pub Z : List ℕ
  pub d : Sequence ℕ
  pub line : Claims l X (join c d) Y
  pub premise : Claims first X c (knows Z)
  pub premise_after : Claims second Z d Y

-- RULE 6: from X' ⊆ X, {X'} c {Y'} and Y ⊆ Y' to {X} c {Y}.
pub record Rule6 (cited l : Line) : Type 0 where
  pub X : List ℕ
  pub X' : List ℕ
  pub c : Sequence ℕ
  pub Y : List ℕ
  pub Y' : List ℕ
  pub line : Claims l X c (knows Y)
  pub premise : Claims cited X' c (knows Y')
  pub more : X' ⊆ X
  pub less : Y ⊆ Y'

-- AXIOM 7: {X} a {KW f}, where a is executable in X and determines f, so that it is a sensing action.
pub record Rule7 (t : Table) (l : Line) : Type 0 where
  pub X : List ℕ
  pub place : ℕ
  pub a : ℕ
  pub f : ℕ
  pub line : Claims l X (item (act place a) done) (knows_whether f)
  pub runs : executable t a (a_state X) ≡ true
  pub determines : K t a f ≡ true

-- RULE 8: from {X} c {{p}} to {X} c {KW p}. A fluent stands for both its literals, so that there is no rule 9 (FORMAT 17.19).
pub record Rule8 (cited l : Line) : Type 0 where
  pub X : List ℕ
  pub c : Sequence ℕ
  pub p : ℕ
  pub line : Claims l X c (knows_whether (fluent_of p))
  pub premise : Claims cited X c (knows (p ∷ []))

-- The line follows, by the rule that it names, from the lines that it cites, in their order.
pub data Follows (t : Table) (cited : List Line) (l : Line) : Type 0 where
  by_1 : l.rule ≡ Limits.empty_rule → cited ≡ [] → Rule1 l → Follows t cited l
  by_2 : l.rule ≡ Limits.action_rule → cited ≡ [] → Rule2 t l → Follows t cited l
  by_3 : l.rule ≡ Limits.sensing_rule → (Y : List ℕ) → Rule3 t cited l (knows Y) → Follows t cited l
  by_4 : l.rule ≡ Limits.branching_rule → (k : Line) → cited ≡ k ∷ [] → (Y : List ℕ) → Rule4 k l (knows Y) → Follows t cited l
  by_5 : l.rule ≡ Limits.composition_rule → (k j : Line) → cited ≡ k ∷ j ∷ [] → (Y : List ℕ) → Rule5 k j l (knows Y) → Follows t cited l
  by_6 : l.rule ≡ Limits.consequence_rule → (k : Line) → cited ≡ k ∷ [] → Rule6 k l → Follows t cited l
  by_7 : l.rule ≡ Limits.look_rule → cited ≡ [] → Rule7 t l → Follows t cited l
  by_8 : l.rule ≡ Limits.literal_rule → (k : Line) → cited ≡ k ∷ [] → Rule8 k l → Follows t cited l
  by_10 : l.rule ≡ Limits.sensing_whether_rule → (f : ℕ) → Rule3 t cited l (knows_whether f) → Follows t cited l
  by_11 : l.rule ≡ Limits.composition_whether_rule → (k j : Line) → cited ≡ k ∷ j ∷ [] → (f : ℕ) → Rule5 k j l (knows_whether f) → Follows t cited l
  by_12 : l.rule ≡ Limits.branching_whether_rule → (k : Line) → cited ≡ k ∷ [] → (f : ℕ) → Rule4 k l (knows_whether f) → Follows t cited l
