-- Sections 3 to 8 are read alike wherever they stand: where one input has from some place on what another has a distance further on, up to the end of
-- both, a reader gives the same in both, or the same fault, with every place that distance further on. By going through the readers. Assumes nothing.
use Prim.Native.Nat.{ℕ, zero, suc, ◌+◌, ◌*◌, ◌≤◌}
use native.Mathlib.Omega.{arith}
use mathlib.Core.Path.{◌≡◌, refl, sym, ◌∙◌, ap, ap₂}
use mathlib.Core.Bool.{Bool, true, false}
use mathlib.Core.List.{List, [], ◌∷◌, map}
use lib.ListN.{length, get_or}
use lib.Dec.{leb}
use borrow.Author.Tests.{leb-true, le-leb}
use Rattle.meaning.specs.Tests.{pick}
use Rattle.meaning.specs.Limits
use Rattle.meaning.specs.Limits.{Limits}
use Rattle.meaning.specs.Requests.{Effect, Executability, Knowledge, Table, Sequence, done, item, Item, act, branching, Branches, none, branch, Entry, Request}
use Rattle.meaning.specs.declared.Form.TheVariants.{Flags}
use Rattle.meaning.specs.Reading.{Got, got, fault, next, byte_at, two_bytes_at, count_at, below_at, Kind, literals, fluents, bound_of, entry_at, entries_at, list_at, repeated, section_at, body_at, effect_at, executability_at, knowledge_at, Met, Part, item_at, items_at, sequence_at, branches_at, branching_at, plan_at, placed, request_at}
use Rattle.meaning.proofs.TestLaws.{same_test}
use Rattle.meaning.proofs.SettledLaws.{fault≢got, got_same}
use Rattle.meaning.proofs.RangeLaws.{got_place}

module _ (on : ℕ) where
  -- MOVED: what was read, with each place so much further on. Lines are moved by themselves, and stay where they are in a request.
  abbrev pub moved_effect : Effect → Effect
  moved_effect e = record { place = e.place + on; action = e.action; literal = e.literal; body = e.body }

  abbrev pub moved_executability : Executability → Executability
  moved_executability x = record { place = x.place + on; action = x.action; body = x.body }

  abbrev pub moved_knowledge : Knowledge → Knowledge
  moved_knowledge k = record { place = k.place + on; action = k.action; fluent = k.fluent }

  abbrev mutual
    pub moved_plan : Sequence ℕ → Sequence ℕ
    moved_plan done = done
    moved_plan (item i rest) = item (moved_item i) (moved_plan rest)

    pub moved_item : Item ℕ → Item ℕ
    moved_item (act p a) = act (p + on) a
    moved_item (branching p bs) = branching (p + on) (moved_branches bs)

    pub moved_branches : Branches ℕ → Branches ℕ
    moved_branches none = none
    moved_branches (branch c b bs) = branch c (moved_plan b) (moved_branches bs)

  abbrev pub moved_entry : Entry → Entry
  moved_entry e = record { place = e.place + on; value = e.value }

  abbrev pub moved_request : Request → Request
  moved_request r = record {
    table = r.table;
    plan = moved_plan r.plan;
    goals = map moved_entry r.goals;
    whether = map moved_entry r.whether;
    whether_place = r.whether_place + on;
  }

  abbrev pub moved_got : Got Request → Got Request
  moved_got (got r e) = got (moved_request r) (e + on)
  moved_got (fault n p) = fault n (p + on)

  placed_moved : (p q : ℕ) → p ≡ q + on → (xs : List ℕ) → placed p xs ≡ map moved_entry (placed q xs)
  unfolding placed
  placed_moved p q far [] = refl
  placed_moved p q far (x ∷ xs) = ap₂ {C = List Entry} (λ (k : ℕ) (es : List Entry). record { place = k; value = x } ∷ es) far (placed_moved (p + 1) (q + 1) (omega (arith, far)) xs)

module _ {A : Type 0} (move : A → A) where
  abbrev pub moved_part : Met A → Met A
  moved_part x = record { value = move x.value; items = x.items }

-- The input s has from `low` on, a distance further on, what u has.
module _ (s u : List ℕ) (on low : ℕ) (longer : length s ≡ length u + on) (same : (q : ℕ) → low ≤ q → get_or s (q + on) 0 ≡ get_or u q 0) where
  module _ {A : Type 0} (move : A → A) where
    -- What was read in s is what was read in u, moved; and reading in u goes on behind `low`.
    abbrev pub Shifted : Got A → Got A → Type 0
    Shifted g (got y e) = (g ≡ got (move y) (e + on)) × (low ≤ e)
    Shifted g (fault n i) = g ≡ fault n (i + on)

    -- What was read in s was read in u.
    pub shifted_got : (g h : Got A) → Shifted g h → (x : A) (e : ℕ) → g ≡ got x e → (y : A) × (f : ℕ) × (h ≡ got y f) × (x ≡ move y) × (e ≡ f + on)
    shifted_got g (got y f) so x e read = let same = sym read ∙ so.0 in (y, f, refl, got_same same, got_place same)
    shifted_got g (fault n i) so x e read = absurd (fault≢got (sym so ∙ read))

    shifted_pick : (a b : Bool) → a ≡ b → (f g h k : Unit {0} → Got A) → Shifted (f tt) (h tt) → Shifted (g tt) (k tt) → Shifted (pick a f g) (pick b h k)
    unfolding pick
    shifted_pick a true e f g h k first second = rw e first
    shifted_pick a false e f g h k first second = rw e second

  module _ {A B : Type 0} (move : A → A) (then : B → B) where
    pub shifted_next : (g h : Got A) (k j : A → ℕ → Got B) → Shifted move g h → ((y : A) (e : ℕ) → low ≤ e → Shifted then (k (move y) (e + on)) (j y e)) → Shifted then (next g k) (next h j)
    unfolding next
    shifted_next g (got y e) k j first f = rw first.0 (f y e first.1)
    shifted_next g (fault n i) k j first f = rw first refl

  module _ {A : Type 0} where
    abbrev as_is : A → A
    as_is x = x

    refused_there : (n p q : ℕ) → p ≡ q + on → Shifted {A = A} as_is (fault n p) (fault n q)
    refused_there n p q far = ap (λ (k : ℕ). fault n k) far

  -- BYTES, NUMBERS AND LISTS.
  byte_shifted : (p q : ℕ) → p ≡ q + on → low ≤ q → Shifted as_is (byte_at s p) (byte_at u q)
  unfolding byte_at
  byte_shifted p q far above =
      shifted_pick as_is (leb (length s) p) (leb (length u) q)
      (same_test _ _ (λ t. le-leb (length u) q (omega (arith, leb-true (length s) p t, far, longer))) (λ t. le-leb (length s) p (omega (arith, leb-true (length u) q t, far, longer)))) _ _ _ _
      (ap (λ (k : ℕ). fault Limits.ends_too_soon k) longer)
      (ap₂ {C = Got ℕ} (λ x e. got x e) (ap (λ (k : ℕ). get_or s k 0) far ∙ same q above) (omega (arith, far)), omega (arith, above))

  pub two_bytes_shifted : (p q : ℕ) → p ≡ q + on → low ≤ q → Shifted as_is (two_bytes_at s p) (two_bytes_at u q)
  unfolding two_bytes_at
  two_bytes_shifted p q far above =
      shifted_next as_is as_is (byte_at s p) (byte_at u q) _ _ (byte_shifted p q far above) λ high e more.
      shifted_next as_is as_is (byte_at s (e + on)) (byte_at u e) _ _ (byte_shifted (e + on) e refl more) λ low f rest. (refl, rest)

  count_shifted : (least most p q : ℕ) → p ≡ q + on → low ≤ q → Shifted as_is (count_at least most s p) (count_at least most u q)
  unfolding count_at
  count_shifted least most p q far above =
      shifted_next as_is as_is (byte_at s p) (byte_at u q) _ _ (byte_shifted p q far above) λ c e more.
      shifted_pick as_is _ _ refl _ _ _ _ (refused_there _ p q far) (refl, more)

  below_shifted : (bound p q : ℕ) → p ≡ q + on → low ≤ q → Shifted as_is (below_at bound s p) (below_at bound u q)
  unfolding below_at
  below_shifted bound p q far above =
      shifted_next as_is as_is (byte_at s p) (byte_at u q) _ _ (byte_shifted p q far above) λ x e more.
      shifted_pick as_is _ _ refl _ _ _ _ (refused_there _ p q far) (refl, more)

  module _ (kind : Kind) (n : ℕ) where
    entry_shifted : (p q : ℕ) → p ≡ q + on → low ≤ q → (floor : ℕ) → Shifted as_is (entry_at kind n s p floor) (entry_at kind n u q floor)
    unfolding entry_at
    entry_shifted p q far above floor =
        shifted_next as_is as_is (below_at (bound_of kind n) s p) (below_at (bound_of kind n) u q) _ _ (below_shifted (bound_of kind n) p q far above) λ x e more.
        shifted_pick as_is _ _ refl _ _ _ _ (refused_there _ p q far)
        (shifted_pick as_is _ _ refl _ _ _ _ (refused_there _ p q far) (refl, more))

    entries_shifted : (left p q : ℕ) → p ≡ q + on → low ≤ q → (floor : ℕ) → Shifted as_is (entries_at kind n s left p floor) (entries_at kind n u left q floor)
    unfolding entries_at
    entries_shifted zero p q far above floor = (ap (λ (k : ℕ). got [] k) far, above)
    entries_shifted (suc left) p q far above floor =
        shifted_next as_is as_is (entry_at kind n s p floor) (entry_at kind n u q floor) _ _ (entry_shifted p q far above floor) λ x e more.
        shifted_next as_is as_is (entries_at kind n s left (e + on) (x + 1)) (entries_at kind n u left e (x + 1)) _ _ (entries_shifted left (e + on) e refl more (x + 1)) λ xs f rest. (refl, rest)

    pub list_shifted : (most p q : ℕ) → p ≡ q + on → low ≤ q → Shifted as_is (list_at kind n most s p) (list_at kind n most u q)
    unfolding list_at
    list_shifted most p q far above =
        shifted_next as_is as_is (count_at 0 most s p) (count_at 0 most u q) _ _ (count_shifted 0 most p q far above) λ c e more.
        entries_shifted c (e + on) e refl more 0

  -- LINES.
  module _ {A : Type 0} (move : A → A) (line other : ℕ → Got A) (alike : (p q : ℕ) → p ≡ q + on → low ≤ q → Shifted move (line p) (other q)) where
    repeated_shifted : (left p q : ℕ) → p ≡ q + on → low ≤ q → Shifted (map move) (repeated line left p) (repeated other left q)
    unfolding repeated
    repeated_shifted zero p q far above = (ap (λ (k : ℕ). got [] k) far, above)
    repeated_shifted (suc left) p q far above =
        shifted_next move (map move) (line p) (other q) _ _ (alike p q far above) λ x e more.
        shifted_next (map move) (map move) (repeated line left (e + on)) (repeated other left e) _ _ (repeated_shifted left (e + on) e refl more) λ xs f rest. (refl, rest)

    pub section_shifted : (p q : ℕ) → p ≡ q + on → low ≤ q → Shifted (map move) (section_at line s p) (section_at other u q)
    unfolding section_at
    section_shifted p q far above =
        shifted_next as_is (map move) (byte_at s p) (byte_at u q) _ _ (byte_shifted p q far above) λ c e more.
        repeated_shifted c (e + on) e refl more

  module _ (lim : Limits) (n m : ℕ) where
    line_body_shifted : (p q : ℕ) → p ≡ q + on → low ≤ q → Shifted as_is (body_at lim Flags n s p) (body_at lim Flags n u q)
    unfolding body_at
    line_body_shifted p q far above = list_shifted literals n lim.body p q far above

    pub effect_shifted : (p q : ℕ) → p ≡ q + on → low ≤ q → Shifted (moved_effect on) (effect_at lim Flags n m s p) (effect_at lim Flags n m u q)
    unfolding effect_at
    effect_shifted p q far above =
        shifted_next as_is (moved_effect on) (below_at m s p) (below_at m u q) _ _ (below_shifted m p q far above) λ a e more.
        shifted_next as_is (moved_effect on) (below_at (2 * n) s (e + on)) (below_at (2 * n) u e) _ _ (below_shifted (2 * n) (e + on) e refl more) λ l f later.
        shifted_next as_is (moved_effect on) (body_at lim Flags n s (f + on)) (body_at lim Flags n u f) _ _ (line_body_shifted (f + on) f refl later) λ b g last.
        (ap (λ (k : ℕ). got (record { place = k; action = a; literal = l; body = b }) (g + on)) far, last)

    pub executability_shifted : (p q : ℕ) → p ≡ q + on → low ≤ q → Shifted (moved_executability on) (executability_at lim Flags n m s p) (executability_at lim Flags n m u q)
    unfolding executability_at
    executability_shifted p q far above =
        shifted_next as_is (moved_executability on) (below_at m s p) (below_at m u q) _ _ (below_shifted m p q far above) λ a e more.
        shifted_next as_is (moved_executability on) (body_at lim Flags n s (e + on)) (body_at lim Flags n u e) _ _ (line_body_shifted (e + on) e refl more) λ b g last.
        (ap (λ (k : ℕ). got (record { place = k; action = a; body = b }) (g + on)) far, last)

    pub knowledge_shifted : (p q : ℕ) → p ≡ q + on → low ≤ q → Shifted (moved_knowledge on) (knowledge_at lim n m s p) (knowledge_at lim n m u q)
    unfolding knowledge_at
    knowledge_shifted p q far above =
        shifted_next as_is (moved_knowledge on) (below_at m s p) (below_at m u q) _ _ (below_shifted m p q far above) λ a e more.
        shifted_next as_is (moved_knowledge on) (below_at n s (e + on)) (below_at n u e) _ _ (below_shifted n (e + on) e refl more) λ f g last.
        (ap (λ (k : ℕ). got (record { place = k; action = a; fluent = f }) (g + on)) far, last)

  -- PLANS. Two readers of a part that read alike.
  module _ {A : Type 0} (move : A → A) where
    abbrev PartsShifted : Part A → Part A → Type 0
    PartsShifted one other = (p q met : ℕ) → p ≡ q + on → low ≤ q → Shifted (moved_part move) (one p met) (other q met)

  module _ (lim : Limits) (n m : ℕ) where
    body_shifted : (p q : ℕ) → p ≡ q + on → low ≤ q → Shifted as_is (body_at lim Flags n s p) (body_at lim Flags n u q)
    unfolding body_at
    body_shifted p q far above = list_shifted literals n lim.body p q far above

    pub item_shifted : (deeper other : Part (Item ℕ)) → PartsShifted (moved_item on) deeper other → PartsShifted (moved_item on) (item_at lim Flags n m s deeper) (item_at lim Flags n m u other)
    unfolding item_at
    item_shifted deeper other alike p q met far above =
        shifted_next as_is (moved_part (moved_item on)) (byte_at s p) (byte_at u q) _ _ (byte_shifted p q far above) λ x e more.
        shifted_pick (moved_part (moved_item on)) _ _ refl _ _ _ _ (refused_there _ p q far)
        (shifted_pick (moved_part (moved_item on)) _ _ refl _ _ _ _ (alike p q (met + 1) far above)
        (shifted_pick (moved_part (moved_item on)) _ _ refl _ _ _ _ (refused_there _ p q far)
        (ap (λ (k : ℕ). got (record { value = act k x; items = met + 1 }) (e + on)) far, more)))

    pub items_shifted : (one other : Part (Item ℕ)) → PartsShifted (moved_item on) one other → (left : ℕ) → PartsShifted (moved_plan on) (items_at lim Flags n m s one left) (items_at lim Flags n m u other left)
    unfolding items_at
    items_shifted one other alike zero p q met far above = (ap (λ (k : ℕ). got (record { value = done; items = met }) k) far, above)
    items_shifted one other alike (suc left) p q met far above =
        shifted_next (moved_part (moved_item on)) (moved_part (moved_plan on)) (one p met) (other q met) _ _ (alike p q met far above) λ i e more.
        shifted_next (moved_part (moved_plan on)) (moved_part (moved_plan on)) (items_at lim Flags n m s one left (e + on) i.items) (items_at lim Flags n m u other left e i.items) _ _
        (items_shifted one other alike left (e + on) e i.items refl more) λ rest f last. (refl, last)

    sequence_shifted : (deeper other : Part (Item ℕ)) → PartsShifted (moved_item on) deeper other → PartsShifted (moved_plan on) (sequence_at lim Flags n m s deeper) (sequence_at lim Flags n m u other)
    unfolding sequence_at
    sequence_shifted deeper other alike p q met far above =
        shifted_next as_is (moved_part (moved_plan on)) (two_bytes_at s p) (two_bytes_at u q) _ _ (two_bytes_shifted p q far above) λ c e more.
        items_shifted (item_at lim Flags n m s deeper) (item_at lim Flags n m u other) (item_shifted deeper other alike) c (e + on) e met refl more

    branches_shifted : (sequence other : Part (Sequence ℕ)) → PartsShifted (moved_plan on) sequence other → (left : ℕ)
        → PartsShifted (moved_branches on) (branches_at lim Flags n m s sequence left) (branches_at lim Flags n m u other left)
    unfolding branches_at
    branches_shifted sequence other alike zero p q met far above = (ap (λ (k : ℕ). got (record { value = none; items = met }) k) far, above)
    branches_shifted sequence other alike (suc left) p q met far above =
        shifted_next as_is (moved_part (moved_branches on)) (body_at lim Flags n s p) (body_at lim Flags n u q) _ _ (body_shifted p q far above) λ c e more.
        shifted_next (moved_part (moved_plan on)) (moved_part (moved_branches on)) (sequence (e + on) met) (other e met) _ _ (alike (e + on) e met refl more) λ b f later.
        shifted_next (moved_part (moved_branches on)) (moved_part (moved_branches on)) (branches_at lim Flags n m s sequence left (f + on) b.items) (branches_at lim Flags n m u other left f b.items) _ _
        (branches_shifted sequence other alike left (f + on) f b.items refl later) λ rest g last. (refl, last)

    pub branching_shifted : (left : ℕ) → PartsShifted (moved_item on) (branching_at lim Flags n m s left) (branching_at lim Flags n m u left)
    unfolding branching_at
    branching_shifted zero p q met far above = refused_there _ p q far
    branching_shifted (suc left) p q met far above =
        shifted_next as_is (moved_part (moved_item on)) (count_at 1 lim.branches s (p + 1)) (count_at 1 lim.branches u (q + 1)) _ _
        (count_shifted 1 lim.branches (p + 1) (q + 1) (omega (arith, far)) (omega (arith, above))) λ c e more.
        shifted_next (moved_part (moved_branches on)) (moved_part (moved_item on))
        (branches_at lim Flags n m s (sequence_at lim Flags n m s (branching_at lim Flags n m s left)) c (e + on) met) (branches_at lim Flags n m u (sequence_at lim Flags n m u (branching_at lim Flags n m u left)) c e met) _ _
        (branches_shifted _ _ (sequence_shifted _ _ (branching_shifted left)) c (e + on) e met refl more) λ bs f last.
        (ap (λ (k : ℕ). got (record { value = branching k (moved_branches on bs.value); items = bs.items }) (f + on)) far, last)

    pub plan_shifted : (p q : ℕ) → p ≡ q + on → low ≤ q → Shifted (moved_part (moved_plan on)) (plan_at lim Flags n m s p) (plan_at lim Flags n m u q)
    unfolding plan_at
    plan_shifted p q far above = sequence_shifted _ _ (branching_shifted lim.nested) p q 0 far above

  -- SECTIONS 6 TO 8.
  request_shifted : (lim : Limits) (t : Table) (p q : ℕ) → p ≡ q + on → low ≤ q → Shifted (moved_request on) (request_at lim Flags s t p) (request_at lim Flags u t q)
  unfolding request_at
  request_shifted lim t p q far above =
      shifted_next (moved_part (moved_plan on)) (moved_request on) (plan_at lim Flags t.fluents t.actions s p) (plan_at lim Flags t.fluents t.actions u q) _ _
      (plan_shifted lim t.fluents t.actions p q far above) λ plan e more.
      shifted_next as_is (moved_request on) (list_at literals t.fluents lim.listed s (e + on)) (list_at literals t.fluents lim.listed u e) _ _
      (list_shifted literals t.fluents lim.listed (e + on) e refl more) λ goals f later.
      shifted_next as_is (moved_request on) (list_at fluents t.fluents lim.listed s (f + on)) (list_at fluents t.fluents lim.listed u f) _ _
      (list_shifted fluents t.fluents lim.listed (f + on) f refl later) λ whether g last. (
        ap₂ {C = Got Request}
            (λ gs ws. got (record { table = t; plan = moved_plan on plan.value; goals = gs; whether = ws; whether_place = f + on }) (g + on))
            (placed_moved on (e + on + 1) (e + 1) (omega arith) goals) (placed_moved on (f + on + 1) (f + 1) (omega arith) whether),
        last,
      )

  pub request_moved : (lim : Limits) (t : Table) (p q : ℕ) → p ≡ q + on → low ≤ q → request_at lim Flags s t p ≡ moved_got on (request_at lim Flags u t q)
  request_moved lim t p q far above = by_read (request_at lim Flags s t p) (request_at lim Flags u t q) (request_shifted lim t p q far above)
    where
      by_read : (g h : Got Request) → Shifted (moved_request on) g h → g ≡ moved_got on h
      by_read g (got y e) so = so.0
      by_read g (fault n i) so = so
