-- That a request is at hand has one proof at most. So a struct can hold it as a ghost field.
use Rattle.std.specs.Prelude.{ℕ, ◌+◌, ◌≡◌, List, [], ◌∷◌, length}
use Rattle.std.specs.Coded.{Coded, Coded-set, coded_ℕ, coded_list, codes, ×_prop, Unit-prop, le_prop}
use base.Stored.{Gv, gnil, gnum, gcons}
use mathlib.Core.Path.{refl, sym, ◌∙◌, ap, subst}
use mathlib.Core.Bool.{Bool-set}
use mathlib.Core.HLevel.{is_prop→PathP, ×₃_prop}
use native.Mathlib.Nat.{ℕ_set}
use Rattle.meaning.specs.Requests.{Table, Sequence, done, item, Item, act, branching, Branches, none, branch}
use Rattle.meaning.specs.Refusals.{Found}
use Rattle.meaning.specs.Reading.{Got, got, fault, Met}
use Rattle.meaning.specs.declared.Form.{Form}
use Rattle.meaning.specs.declared.Form.TheVariants.{Flags, Valued}
use Rattle.reading.specs.Ordered.{Chain, InOrder}
use Rattle.reading.specs.Listed.{LiteralsHere, span}
use Rattle.reading.specs.Planned.{items_of, items_in, bytes_of}
use Rattle.reading.specs.Noted.{next_line, first_line}
use Rattle.finding.specs.LinesHere.{Consistent}
use Rattle.finding.specs.PlansHeld.{BranchWritten, Written, ItemWritten, BranchesWritten, Kept, ItemKept, BranchesKept}
use Rattle.steps.specs.Rests.{Nexts, InsideNexts, UnderNexts}
use Rattle.steps.specs.AtHand.{GuardsHere, Ends, AtHand}

-- PLANS ARE A SET: each has a code of its own, a tree of numbers.
abbrev first_part : Gv → Gv
first_part gnil = gnil
first_part (gnum n) = gnil
first_part (gcons a b) = a

abbrev second_part : Gv → Gv
second_part gnil = gnil
second_part (gnum n) = gnil
second_part (gcons a b) = b

abbrev IsPair : Gv → Type 0
IsPair gnil = ⊥
IsPair (gnum n) = ⊥
IsPair (gcons a b) = Unit {0}

module _ {L : Type 0} (l : Coded L) where
  abbrev mutual
    code_sequence : Sequence L → Gv
    code_sequence done = gnil
    code_sequence (item i rest) = gcons (code_item i) (code_sequence rest)

    code_item : Item L → Gv
    code_item (act p a) = gcons (gnum p) (gnum a)
    code_item (branching p bs) = gcons (gnum p) (gcons gnil (code_branches bs))

    code_branches : Branches L → Gv
    code_branches none = gnil
    code_branches (branch c b rest) = gcons ((coded_list l).code c) (gcons (code_sequence b) (code_branches rest))

  mutual
    sequence_one : (x y : Sequence L) → code_sequence x ≡ code_sequence y → x ≡ y
    sequence_one done done e = refl
    sequence_one done (item j there) e = absurd (subst IsPair (sym e) tt)
    sequence_one (item i rest) done e = absurd (subst IsPair e tt)
    sequence_one (item i rest) (item j there) e = λ k. item (item_one i j (ap first_part e) k) (sequence_one rest there (ap second_part e) k)

    item_one : (x y : Item L) → code_item x ≡ code_item y → x ≡ y
    item_one (act p a) (act q b) e = λ k. act (coded_ℕ.inj p q (ap first_part e) k) (coded_ℕ.inj a b (ap second_part e) k)
    item_one (act p a) (branching q bs) e = absurd (subst IsPair (sym (ap second_part e)) tt)
    item_one (branching p hs) (act q b) e = absurd (subst IsPair (ap second_part e) tt)
    item_one (branching p hs) (branching q bs) e = λ k. branching (coded_ℕ.inj p q (ap first_part e) k) (branches_one hs bs (ap (λ g. second_part (second_part g)) e) k)

    branches_one : (x y : Branches L) → code_branches x ≡ code_branches y → x ≡ y
    branches_one none none e = refl
    branches_one none (branch d g there) e = absurd (subst IsPair (sym e) tt)
    branches_one (branch c b rest) none e = absurd (subst IsPair e tt)
    branches_one (branch c b rest) (branch d g there) e = λ k.
        branch ((coded_list l).inj c d (ap first_part e) k)
        (sequence_one b g (ap (λ h. first_part (second_part h)) e) k)
        (branches_one rest there (ap (λ h. second_part (second_part h)) e) k)

  pub coded_sequence : Coded (Sequence L)
  coded_sequence = record { code = code_sequence; inj = sequence_one }

-- WHAT WAS READ.
pub coded_got : {A : Type 0} → Coded A → Coded (Got A)
coded_got a = hlevel (a, codes)

pub Table-coded : Coded Table
Table-coded = hlevel codes

pub Met-coded : Coded (Met (Sequence ℕ))
Met-coded = hlevel (coded_sequence, codes)

pub Found-set : IsSet Found
Found-set = Coded-set (hlevel codes)

module _ {A : Type 0} (a : Coded A) (g : Got A) (x : A) where
  abbrev end_of : Got A → ℕ
  end_of (got y e) = e
  end_of (fault n p) = 0

  pub Ends-prop : IsProp (Ends g x)
  Ends-prop here there =
      let same : here.end ≡ there.end = ap end_of (sym here.is ∙ there.is) in
      λ i. record { end = same i; is = is_prop→PathP (λ j. g ≡ got x (same j)) (λ j. Coded-set (coded_got a) g (got x (same j))) here.is there.is i }

-- LINES.
pub Chain-prop : (t : List ℕ) (lines j : ℕ) (ps : List ℕ) → IsProp (Chain t lines j ps)
unfolding Chain
Chain-prop t lines j [] = ℕ_set j 0
Chain-prop t lines j (p ∷ ps) = ×_prop (hlevel (le_prop, ℕ_set)) (Chain-prop t lines (next_line t lines j) ps)

pub InOrder-prop : (t : List ℕ) (lines a : ℕ) (ps : List ℕ) → IsProp (InOrder t lines a ps)
unfolding InOrder
InOrder-prop t lines a ps = Chain-prop t lines (first_line t lines a) ps

pub LiteralsHere-prop : (form : Form) (s : List ℕ) (p : ℕ) → IsProp (LiteralsHere form s p)
LiteralsHere-prop Flags s p = hlevel le_prop
LiteralsHere-prop Valued s p = hlevel le_prop

pub Consistent-prop : (form : Form) (s b : List ℕ) → IsProp (Consistent form s b)
Consistent-prop Flags s b = Bool-set _ _
Consistent-prop Valued s b = Bool-set _ _

pub GuardsHere-prop : (form : Form) (s : List ℕ) (g : ℕ) → IsProp (GuardsHere form s g)
GuardsHere-prop Flags s g = hlevel (le_prop, LiteralsHere-prop)
GuardsHere-prop Valued s g = ℕ_set g 0

pub list_set : IsSet (List ℕ)
list_set = Coded-set (coded_list coded_ℕ)

-- PLANS HELD.
module _ (form : Form) where
  pub BranchWritten-prop : (s : List ℕ) (p : ℕ) (c : List ℕ) (b : Sequence ℕ) → IsProp (BranchWritten form s p c b)
  BranchWritten-prop s p c b = hlevel (le_prop, ℕ_set, list_set, LiteralsHere-prop, Consistent-prop)

  mutual
    unfolding Written ItemWritten BranchesWritten

    pub Written-prop : (s : List ℕ) (b : Sequence ℕ) → IsProp (Written form s b)
    Written-prop s done = Unit-prop
    Written-prop s (item i rest) = ×_prop (ItemWritten-prop s i) (Written-prop s rest)

    pub ItemWritten-prop : (s : List ℕ) (i : Item ℕ) → IsProp (ItemWritten form s i)
    ItemWritten-prop s (act p a) = hlevel (le_prop, ℕ_set)
    ItemWritten-prop s (branching p bs) = ×_prop (hlevel (le_prop, ℕ_set)) (BranchesWritten-prop s (p + 2) bs)

    pub BranchesWritten-prop : (s : List ℕ) (p : ℕ) (bs : Branches ℕ) → IsProp (BranchesWritten form s p bs)
    BranchesWritten-prop s p none = Unit-prop
    BranchesWritten-prop s p (branch c b rest) =
        ×₃_prop (BranchWritten-prop s p c b) (Written-prop s b) (BranchesWritten-prop s (p + (1 + span form (length c)) + (2 + bytes_of form b)) rest)

  mutual
    unfolding Kept ItemKept BranchesKept

    pub Kept-prop : (t : List ℕ) (met : ℕ) (b : Sequence ℕ) → IsProp (Kept form t met b)
    Kept-prop t met done = Unit-prop
    Kept-prop t met (item i rest) = ×_prop (ItemKept-prop t met i) (Kept-prop t (met + items_in i) rest)

    pub ItemKept-prop : (t : List ℕ) (met : ℕ) (i : Item ℕ) → IsProp (ItemKept form t met i)
    ItemKept-prop t met (act p a) = ℕ_set _ _
    ItemKept-prop t met (branching p bs) = ×_prop (ℕ_set _ _) (BranchesKept-prop t (met + 1) (p + 2) bs)

    pub BranchesKept-prop : (t : List ℕ) (met p : ℕ) (bs : Branches ℕ) → IsProp (BranchesKept form t met p bs)
    BranchesKept-prop t met p none = Unit-prop
    BranchesKept-prop t met p (branch c b rest) =
        ×₃_prop (hlevel (le_prop, ℕ_set)) (Kept-prop t met b) (BranchesKept-prop t (met + items_of b) (p + (1 + span form (length c)) + (2 + bytes_of form b)) rest)

mutual
  unfolding Nexts InsideNexts UnderNexts

  pub Nexts-prop : (t : List ℕ) (up met : ℕ) (b : Sequence ℕ) → IsProp (Nexts t up met b)
  Nexts-prop t up met done = Unit-prop
  Nexts-prop t up met (item i rest) = ×₃_prop (ℕ_set _ _) (InsideNexts-prop t met i) (Nexts-prop t up (met + items_in i) rest)

  pub InsideNexts-prop : (t : List ℕ) (met : ℕ) (i : Item ℕ) → IsProp (InsideNexts t met i)
  InsideNexts-prop t met (act p a) = Unit-prop
  InsideNexts-prop t met (branching p bs) = UnderNexts-prop t _ (met + 1) bs

  pub UnderNexts-prop : (t : List ℕ) (up met : ℕ) (bs : Branches ℕ) → IsProp (UnderNexts t up met bs)
  UnderNexts-prop t up met none = Unit-prop
  UnderNexts-prop t up met (branch c b rest) = ×_prop (Nexts-prop t up met b) (UnderNexts-prop t up (met + items_of b) rest)

-- A REQUEST AT HAND.
pub AtHand-prop : (form : Form) (s t : List ℕ) → IsProp (AtHand form s t)
AtHand-prop form s t =
    hlevel (le_prop, ℕ_set, Bool-set, Found-set, Ends-prop Table-coded, Ends-prop (coded_list coded_ℕ), Coded-set (coded_got Met-coded), Coded-set (coded_got (coded_list coded_ℕ)), InOrder-prop, Written-prop, Kept-prop, Nexts-prop, GuardsHere-prop)
