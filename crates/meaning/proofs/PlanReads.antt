-- What is true of every part of a plan that the reader gives, and of its every fault: if each way to read a part passes it on from the parts that
-- were read for it, it holds of all. One induction over the readers, on the branchings that may stand one inside another and on the items and
-- branches that are left. Assumes nothing.
use Prim.Native.Nat.{ℕ, zero, suc, ◌+◌}
use mathlib.Core.Path.{◌≡◌}
use mathlib.Core.Bool.{true, false}
use mathlib.Core.List.{List}
use lib.Dec.{leb, eqb}
use Rattle.meaning.specs.Limits
use Rattle.meaning.specs.Limits.{Limits}
use Rattle.meaning.specs.Requests.{Sequence, done, item, Item, act, branching, Branches, none, branch}
use Rattle.meaning.specs.Reading.{Form, Flags, got, byte_at, two_bytes_at, count_at, body_at, Met, item_at, items_at, sequence_at, branches_at, branching_at, plan_at}
use Rattle.meaning.proofs.PickLaws.{pick_has}
use Rattle.meaning.proofs.GotLaws.{On, Held, Faulty, held_on, held_then, next_held, any_fault}

-- What is said of a part that was read: from place p, with the number of items met before it, and up to e.
abbrev pub About : Type 0 → Type 1
About A = (p met : ℕ) (x : Met A) (e : ℕ) → Type 0

-- It may depend on how many branchings may stand one inside another there, and on how many items or branches were to be read.
pub record Said : Type 1 where
  pub item : (deep : ℕ) → About (Item ℕ)
  pub items : (deep left : ℕ) → About (Sequence ℕ)
  pub sequence : (deep : ℕ) → About (Sequence ℕ)
  pub branches : (deep left : ℕ) → About (Branches ℕ)

module _ {A : Type 0} where
  abbrev pub part : A → ℕ → Met A
  part x k = record { value = x; items = k }

module _ (lim : Limits) (form : Form) (n m : ℕ) (s : List ℕ) where
  -- Each way to read a part passes it on. A branch is also told that its sequence was read, so that an earlier law of sequences can be cited there.
  pub record PassedAs (said : Said) : Type 0 where
    pub an_action : (deep p met x q : ℕ) → byte_at s p ≡ got x q → leb lim.items met ≡ false → eqb x Limits.branching_byte ≡ false → leb m x ≡ false
        → said.item deep p met (part (act p x) (met + 1)) q
    pub a_branching : (deep p met x q c r : ℕ) (bs : Met (Branches ℕ)) (e : ℕ) → byte_at s p ≡ got x q → leb lim.items met ≡ false → eqb x Limits.branching_byte ≡ true
        → count_at 1 lim.branches s (p + 1) ≡ got c r → said.branches deep c r (met + 1) bs e → said.item (suc deep) p met (part (branching p bs.value) bs.items) e
    pub no_item : (deep p met : ℕ) → said.items deep 0 p met (part done met) p
    pub an_item : (deep left p met : ℕ) (i : Met (Item ℕ)) (q : ℕ) (rest : Met (Sequence ℕ)) (e : ℕ) → said.item deep p met i q → said.items deep left q i.items rest e
        → said.items deep (suc left) p met (part (item i.value rest.value) rest.items) e
    pub a_sequence : (deep p met c q : ℕ) (b : Met (Sequence ℕ)) (e : ℕ) → two_bytes_at s p ≡ got c q → said.items deep c q met b e → said.sequence deep p met b e
    pub no_branch : (deep p met : ℕ) → said.branches deep 0 p met (part none met) p
    pub a_branch : (deep left p met : ℕ) (c : List ℕ) (q : ℕ) (b : Met (Sequence ℕ)) (r : ℕ) (rest : Met (Branches ℕ)) (e : ℕ) → body_at lim form n s p ≡ got c q
        → sequence_at lim form n m s (branching_at lim form n m s deep) q met ≡ got b r → said.sequence deep q met b r → said.branches deep left r b.items rest e
        → said.branches deep (suc left) p met (part (branch c b.value rest.value) rest.items) e

  -- Each fault has it: those of the bytes, numbers and conditions, and the three at an item's byte.
  pub record FaultsAs (Bad : ℕ → ℕ → Type 0) : Type 0 where
    pub byte : (p : ℕ) → Faulty Bad (byte_at s p)
    pub number : (p : ℕ) → Faulty Bad (two_bytes_at s p)
    pub count : (p : ℕ) → Faulty Bad (count_at 1 lim.branches s p)
    pub condition : (p : ℕ) → Faulty Bad (body_at lim form n s p)
    pub too_many : (p x q : ℕ) → byte_at s p ≡ got x q → Bad Limits.too_many_items p
    pub too_large : (p x q : ℕ) → byte_at s p ≡ got x q → Bad Limits.too_large p
    pub too_deep : (p x q : ℕ) → byte_at s p ≡ got x q → Bad Limits.nested_too_deep p

  module _ (said : Said) (by : PassedAs said) (Bad : ℕ → ℕ → Type 0) (faults : FaultsAs Bad) where
    -- A branching is read where an item's byte says so.
    abbrev Inner : ℕ → Type 0
    Inner deep = (p met x q : ℕ) → byte_at s p ≡ got x q → leb lim.items met ≡ false → eqb x Limits.branching_byte ≡ true → Held Bad (said.item deep p met) (branching_at lim form n m s deep p (met + 1))

    item_by : (deep : ℕ) → Inner deep → (p met : ℕ) → Held Bad (said.item deep p met) (item_at lim form n m s (branching_at lim form n m s deep) p met)
    unfolding item_at
    item_by deep inner p met =
        next_held Bad (λ _ _. Unit {0}) (said.item deep p met) (byte_at s p) _ (faults.byte p) λ x q read _.
        pick_has (Held Bad (said.item deep p met)) _ _ _ (λ _. faults.too_many p x q read) λ few.
        pick_has (Held Bad (said.item deep p met)) _ _ _ (λ opens. inner p met x q read few opens) λ other.
        pick_has (Held Bad (said.item deep p met)) _ _ _ (λ _. faults.too_large p x q read) λ below.
        by.an_action deep p met x q read few other below

    items_by : (deep : ℕ) → Inner deep → (left p met : ℕ) → Held Bad (said.items deep left p met) (items_at lim form n m s (item_at lim form n m s (branching_at lim form n m s deep)) left p met)
    unfolding items_at
    items_by deep inner zero p met = by.no_item deep p met
    items_by deep inner (suc left) p met =
        next_held Bad (said.item deep p met) (said.items deep (suc left) p met) _ _ (item_by deep inner p met) λ i q _ one.
        next_held Bad (said.items deep left q i.items) (said.items deep (suc left) p met) _ _ (items_by deep inner left q i.items) λ rest e _ more.
        by.an_item deep left p met i q rest e one more

    sequence_by : (deep : ℕ) → Inner deep → (p met : ℕ) → Held Bad (said.sequence deep p met) (sequence_at lim form n m s (branching_at lim form n m s deep) p met)
    unfolding sequence_at
    sequence_by deep inner p met =
        next_held Bad (λ _ _. Unit {0}) (said.sequence deep p met) (two_bytes_at s p) _ (faults.number p) λ c q read _.
        held_then Bad (said.items deep c q met) (said.sequence deep p met) (items_at lim form n m s (item_at lim form n m s (branching_at lim form n m s deep)) c q met) (items_by deep inner c q met) λ b e all.
        by.a_sequence deep p met c q b e read all

    branches_by : (deep : ℕ) → Inner deep → (left p met : ℕ)
        → Held Bad (said.branches deep left p met) (branches_at lim form n m s (sequence_at lim form n m s (branching_at lim form n m s deep)) left p met)
    unfolding branches_at
    branches_by deep inner zero p met = by.no_branch deep p met
    branches_by deep inner (suc left) p met =
        next_held Bad (λ _ _. Unit {0}) (said.branches deep (suc left) p met) (body_at lim form n s p) _ (faults.condition p) λ c q read _.
        next_held Bad (said.sequence deep q met) (said.branches deep (suc left) p met) _ _ (sequence_by deep inner q met) λ b r body one.
        next_held Bad (said.branches deep left r b.items) (said.branches deep (suc left) p met) _ _ (branches_by deep inner left r b.items) λ rest e _ more.
        by.a_branch deep left p met c q b r rest e read body one more

    branching_by : (deep : ℕ) → Inner deep
    unfolding branching_at
    branching_by zero p met x q read few opens = faults.too_deep p x q read
    branching_by (suc deep) p met x q read few opens =
        next_held Bad (λ _ _. Unit {0}) (said.item (suc deep) p met) (count_at 1 lim.branches s (p + 1)) _ (faults.count (p + 1)) λ c r count _.
        next_held Bad (said.branches deep c r (met + 1)) (said.item (suc deep) p met) _ _ (branches_by deep (branching_by deep) c r (met + 1)) λ bs e _ all.
        by.a_branching deep p met x q c r bs e read few opens count all

    pub plan_held_as : (p : ℕ) → Held Bad (said.sequence lim.nested p 0) (plan_at lim form n m s p)
    unfolding plan_at
    plan_held_as p = sequence_by lim.nested (branching_by lim.nested) p 0

  -- Where nothing is said of faults.
  any_faults : FaultsAs (λ _ _. Unit {0})
  any_faults = record {
    byte = λ p. any_fault (byte_at s p);
    number = λ p. any_fault (two_bytes_at s p);
    count = λ p. any_fault (count_at 1 lim.branches s p);
    condition = λ p. any_fault (body_at lim form n s p);
    too_many = λ _ _ _ _. tt;
    too_large = λ _ _ _ _. tt;
    too_deep = λ _ _ _ _. tt;
  }

  module _ (said : Said) (by : PassedAs said) where
    inner : (deep : ℕ) → Inner said by (λ _ _. Unit {0}) any_faults deep
    inner = branching_by said by (λ _ _. Unit {0}) any_faults

    pub item_on_as : (deep p met : ℕ) → On (item_at lim form n m s (branching_at lim form n m s deep) p met) (said.item deep p met)
    item_on_as deep p met = held_on _ (said.item deep p met) _ (item_by said by (λ _ _. Unit {0}) any_faults deep (inner deep) p met)

    pub sequence_on_as : (deep p met : ℕ) → On (sequence_at lim form n m s (branching_at lim form n m s deep) p met) (said.sequence deep p met)
    sequence_on_as deep p met = held_on _ (said.sequence deep p met) _ (sequence_by said by (λ _ _. Unit {0}) any_faults deep (inner deep) p met)

    pub plan_on_as : (p : ℕ) → On (plan_at lim form n m s p) (said.sequence lim.nested p 0)
    unfolding plan_at
    plan_on_as p = sequence_on_as lim.nested p 0

-- OF PLANS WITH ONE BYTE FOR A LITERAL, which all calls but one read.
module _ (lim : Limits) (n m : ℕ) (s : List ℕ) where
  abbrev pub PassedOn : Said → Type 0
  PassedOn = PassedAs lim Flags n m s

  abbrev pub Faults : (ℕ → ℕ → Type 0) → Type 0
  Faults = FaultsAs lim Flags n m s

  module _ (said : Said) (by : PassedOn said) where
    pub plan_held : (Bad : ℕ → ℕ → Type 0) → Faults Bad → (p : ℕ) → Held Bad (said.sequence lim.nested p 0) (plan_at lim Flags n m s p)
    plan_held = plan_held_as lim Flags n m s said by

    pub item_on : (deep p met : ℕ) → On (item_at lim Flags n m s (branching_at lim Flags n m s deep) p met) (said.item deep p met)
    item_on = item_on_as lim Flags n m s said by

    pub sequence_on : (deep p met : ℕ) → On (sequence_at lim Flags n m s (branching_at lim Flags n m s deep) p met) (said.sequence deep p met)
    sequence_on = sequence_on_as lim Flags n m s said by

    pub plan_on : (p : ℕ) → On (plan_at lim Flags n m s p) (said.sequence lim.nested p 0)
    plan_on = plan_on_as lim Flags n m s said by
